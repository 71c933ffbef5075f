-- What was given to nodes below a number stays given.
use Rattle.std.proofs.Common.{◌≡◌, ℕ, suc, ◌≤◌, List, [], ◌∷◌, length, refl, ap, ◌∙◌, arith, Option, Some, None, Bool, true, false, if◌then◌else◌}
use Rattle.pyd_value.specs.declared.value.Value.{Value}
use Rattle.pyd_names.specs.Binding.{same_name}
use Rattle.pyd_meaning.specs.Names.{Names}
use Rattle.pyd_ir.specs.declared.arg.Arg.{Arg}
use Rattle.pyd_ir.specs.declared.arg.Arg.TheVariants.{Known, From, Slot, Unbound}
use Rattle.pyd_ir.specs.Inputs.{Given, value_of, both, values_of}
use Rattle.pyd_translate.specs.Slots.{arg_of}
use Rattle.pyd_translate.specs.Walk.{names_of}
use Rattle.pyd_translate.specs.Matching.{IsBelow, AreBelow, IsGiven, AreGiven, IsKept, HasValue, AreSlots}
use Rattle.pyd_translate.proofs.Ordering.{below_up, are_below_up}

-- what names only nodes below a number has the value that it had
pub value-kept : (low : ℕ) (before after : Given) (a : Arg)
    → IsBelow low a → IsKept low before after → value_of after a ≡ value_of before a
value-kept low before after (Known v) below kept = refl
value-kept low before after (From r) below kept = kept r.node r.port below
value-kept low before after (Slot r) below kept = kept r.node r.port below
value-kept low before after Unbound below kept = refl

-- the same of several
pub values-kept : (low : ℕ) (before after : Given) (args : List Arg)
    → AreBelow low args → IsKept low before after → values_of after args ≡ values_of before args
values-kept low before after [] below kept = refl
values-kept low before after (a ∷ args) below kept =
    λ i. both (value-kept low before after a below.0 kept i) (values-kept low before after args below.1 kept i)

-- what is given names only nodes below its number
pub given-below : (low : ℕ) (given : Given) (a : Arg) → IsGiven low given a → IsBelow low a
given-below low given (Known v) is = tt
given-below low given (From r) is = is.0
given-below low given (Slot r) is = is
given-below low given Unbound is = tt

-- the same of several
pub all_given-below : (low : ℕ) (given : Given) (args : List Arg) → AreGiven low given args → AreBelow low args
all_given-below low given [] are = tt
all_given-below low given (a ∷ args) are = (given-below low given a are.0, all_given-below low given args are.1)

-- what is given stays given
pub given-kept : (low high : ℕ) (before after : Given) (a : Arg)
    → low ≤ high → IsKept low before after → IsGiven low before a → IsGiven high after a
given-kept low high before after (Known v) le kept is = tt
given-kept low high before after (From r) le kept is = (omega (arith, is.0), is.1, kept r.node r.port is.0 ∙ is.2)
given-kept low high before after (Slot r) le kept is = omega arith
given-kept low high before after Unbound le kept is = tt

-- the same of several
pub all_given-kept : (low high : ℕ) (before after : Given) (args : List Arg)
    → low ≤ high → IsKept low before after → AreGiven low before args → AreGiven high after args
all_given-kept low high before after [] le kept are = tt
all_given-kept low high before after (a ∷ args) le kept are =
    (given-kept low high before after a le kept are.0, all_given-kept low high before after args le kept are.1)

-- one of two arguments that are given
given-if : (low : ℕ) (given : Given) (a b : Arg) (t : Bool)
    → IsGiven low given a → IsGiven low given b → IsGiven low given (if t then a else b)
given-if low given a b true p q = p
given-if low given a b false p q = q

-- the argument of a name's slot is given where all are
pub given-slot : (slots : List (List ℕ)) (low : ℕ) (given : Given) (env : List Arg) (name : List ℕ)
    → AreGiven low given env → IsGiven low given (arg_of slots env name)
given-slot [] low given env name are = tt
given-slot (slot ∷ slots) low given [] name are = tt
given-slot (slot ∷ slots) low given (a ∷ env) name are =
    given-if low given a (arg_of slots env name) (same_name name slot) are.0 (given-slot slots low given env name are.1)

-- the slots have the names that they had
pub names-kept : (slots : List (List ℕ)) (low : ℕ) (before after : Given) (env : List Arg)
    → IsKept low before after → AreGiven low before env → names_of slots env after ≡ names_of slots env before
names-kept slots low before after env kept are =
    λ i name. value-kept low before after (arg_of slots env name)
    (given-below low before (arg_of slots env name) (given-slot slots low before env name are)) kept i

-- slots with names are so later too
pub slots-kept : (slots : List (List ℕ)) (low high : ℕ) (before after : Given) (env : List Arg) (names : Names)
    → low ≤ high → IsKept low before after → AreSlots slots low before env names → AreSlots slots high after env names
slots-kept slots low high before after env names le kept are = record {
  count = are.count;
  all_given = all_given-kept low high before after env le kept are.all_given;
  bound = names-kept slots low before after env kept are.all_given ∙ are.bound;
}

-- an argument with a value has it later too
pub has-kept : (low high : ℕ) (before after : Given) (a : Arg) (v : Value)
    → low ≤ high → IsKept low before after → HasValue low before a v → HasValue high after a v
has-kept low high before after a v le kept has =
    (value-kept low before after a has.1 kept ∙ has.0, below_up low high a le has.1)

-- an argument with a value is given
pub given-has : (low : ℕ) (given : Given) (a : Arg) (v : Value) → HasValue low given a v → IsGiven low given a
given-has low given (Known w) v has = tt
given-has low given (From r) v has = (has.1, v, has.0)
given-has low given (Slot r) v has = has.1
given-has low given Unbound v has = tt

-- arguments have these values, and name nodes below a number
abbrev pub HaveThese : ℕ → Given → List Arg → List Value → Type 0
HaveThese next given args vs = (values_of given args ≡ Some vs) × AreBelow next args

-- the same later
pub have_these-kept : (low high : ℕ) (before after : Given) (args : List Arg) (vs : List Value)
    → low ≤ high → IsKept low before after → HaveThese low before args vs → HaveThese high after args vs
have_these-kept low high before after args vs le kept have =
    (values-kept low before after args have.1 kept ∙ have.0, are_below_up low high args le have.1)

-- how many values there are, if they are there
abbrev some_length : Option (List Value) → ℕ
some_length None = 0
some_length (Some vs) = length vs

-- one argument more, with one value more
length-both : (o : Option Value) (q : Option (List Value)) (args : List Arg) (vs : List Value)
    → ((ws : List Value) → q ≡ Some ws → length args ≡ length ws) → both o q ≡ Some vs → suc (length args) ≡ length vs
length-both (Some v) (Some ws) args vs f is = ap suc (f ws refl) ∙ ap some_length is
length-both (Some v) None args vs f is = absurd (cc is)
length-both None q args vs f is = absurd (cc is)

-- as many values as arguments
pub length-values : (given : Given) (args : List Arg) (vs : List Value) → values_of given args ≡ Some vs → length args ≡ length vs
length-values given [] vs is = ap some_length is
length-values given (a ∷ args) vs is =
    length-both (value_of given a) (values_of given args) args vs (λ ws q. length-values given args ws q) is
