-- The names of the rules, each with its number.
use Rattle.std.specs.Prelude.{ℕ}

-- a whole source
abbrev pub file : ℕ
file = 0

-- the items up to the end
abbrev pub items : ℕ
items = 1

-- an import, a function or a statement
abbrev pub item : ℕ
item = 2

-- an import
abbrev pub import : ℕ
import = 3

-- further names of an import
abbrev pub names_rest : ℕ
names_rest = 4

-- a function with its decorators
abbrev pub def : ℕ
def = 5

-- parameters, if any
abbrev pub params : ℕ
params = 6

-- what follows a parameter
abbrev pub params_rest : ℕ
params_rest = 7

-- the block behind a header
abbrev pub suite : ℕ
suite = 8

-- further statements of a block
abbrev pub stmts : ℕ
stmts = 9

-- a statement
abbrev pub stmt : ℕ
stmt = 10

-- an `if` with all its arms
abbrev pub if : ℕ
if = 11

-- arms of `elif`, if any
abbrev pub elifs : ℕ
elifs = 12

-- a block of `else`, if any
abbrev pub else : ℕ
else = 13

-- a `while`
abbrev pub while : ℕ
while = 14

-- a `for`
abbrev pub for : ℕ
for = 15

-- targets of a `for`, if any
abbrev pub targets : ℕ
targets = 16

-- what follows a target
abbrev pub targets_rest : ℕ
targets_rest = 17

-- a simple statement and its line end
abbrev pub simple : ℕ
simple = 18

-- what is assigned, if anything
abbrev pub assignment : ℕ
assignment = 19

-- the message of an `assert`, if any
abbrev pub message : ℕ
message = 20

-- expressions, if any
abbrev pub optional_tests : ℕ
optional_tests = 21

-- expressions with commas
abbrev pub tests : ℕ
tests = 22

-- what follows an expression
abbrev pub tests_rest : ℕ
tests_rest = 23

-- an expression
abbrev pub test : ℕ
test = 24

-- a condition and the other side, if any
abbrev pub conditional : ℕ
conditional = 25

-- operands of `or`
abbrev pub or : ℕ
or = 26

-- further operands of `or`
abbrev pub or_rest : ℕ
or_rest = 27

-- operands of `and`
abbrev pub and : ℕ
and = 28

-- further operands of `and`
abbrev pub and_rest : ℕ
and_rest = 29

-- an operand of `and`
abbrev pub not : ℕ
not = 30

-- operands of comparisons
abbrev pub compare : ℕ
compare = 31

-- further operands of comparisons
abbrev pub compare_rest : ℕ
compare_rest = 32

-- operands of `|`
abbrev pub bits : ℕ
bits = 33

-- further operands of `|`
abbrev pub bits_rest : ℕ
bits_rest = 34

-- operands of `^`
abbrev pub xor : ℕ
xor = 35

-- further operands of `^`
abbrev pub xor_rest : ℕ
xor_rest = 36

-- operands of `&`
abbrev pub band : ℕ
band = 37

-- further operands of `&`
abbrev pub band_rest : ℕ
band_rest = 38

-- operands of shifts
abbrev pub shift : ℕ
shift = 39

-- further operands of shifts
abbrev pub shift_rest : ℕ
shift_rest = 40

-- operands of sums
abbrev pub arith : ℕ
arith = 41

-- further operands of sums
abbrev pub arith_rest : ℕ
arith_rest = 42

-- operands of products
abbrev pub term : ℕ
term = 43

-- further operands of products
abbrev pub term_rest : ℕ
term_rest = 44

-- an operand with its signs
abbrev pub factor : ℕ
factor = 45

-- a base and its exponent
abbrev pub power : ℕ
power = 46

-- an exponent, if any
abbrev pub exponent : ℕ
exponent = 47

-- an atom and its suffixes
abbrev pub suffixed : ℕ
suffixed = 48

-- indexes and slices, if any
abbrev pub suffixes : ℕ
suffixes = 49

-- an index or the bounds of a slice
abbrev pub sub : ℕ
sub = 50

-- the upper bound of a slice, if any
abbrev pub bound : ℕ
bound = 51

-- an expression, if any
abbrev pub optional_test : ℕ
optional_test = 52

-- a name, a call, a literal or what stands in parentheses
abbrev pub atom : ℕ
atom = 53

-- the arguments of a call, if any
abbrev pub arguments : ℕ
arguments = 54
