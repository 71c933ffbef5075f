-- What an action takes from a piece. Each of these takes any piece, and has a stand-in for one that the grammar never
-- puts there.
use Rattle.std.specs.Prelude.{ℕ, List, [], ◌∷◌, get_or, cond, Option, Some, None, encode_utf8_all}
use Rattle.std.specs.Str.{chars, is_utf8}
use Rattle.pyd_lex.specs.declared.token.Token.{Token}
use Rattle.pyd_lex.specs.declared.token.TokenKind.{TokenKind}
use Rattle.pyd_lex.specs.declared.token.TokenKind.TheVariants as kind
use Rattle.pyd_lex.specs.Strings.{string_value}
use Rattle.pyd_lex.specs.Texts.{spelling_of}
use Rattle.pyd_value.specs.declared.value.Value.TheVariants as value
use Rattle.pyd_value.specs.declared.operator.BinOp.{BinOp}
use Rattle.pyd_value.specs.declared.operator.CmpOp.{CmpOp}
use Rattle.pyd_tree.specs.declared.expression.Expr.{Expr}
use Rattle.pyd_tree.specs.declared.expression.Expr.TheVariants as expr
use Rattle.pyd_tree.specs.declared.expression.Suffix.{Suffix}
use Rattle.pyd_tree.specs.declared.expression.Suffix.TheVariants as suffix
use Rattle.pyd_tree.specs.declared.statement.What.TheVariants as what
use Rattle.pyd_tree.specs.declared.statement.Block.{Block, roll-Block}
use Rattle.pyd_tree.specs.declared.statement.Stmt.{Stmt}
use Rattle.pyd_tree.specs.declared.statement.Arm.{Arm}
use Rattle.pyd_tree.specs.declared.file.Item.{Item}
use Rattle.pyd_tree.specs.declared.file.Item.TheVariants as item
use Rattle.pyd_tree.specs.declared.file.Func.{Func}
use Rattle.pyd_derivation.specs.declared.piece.Piece.{Piece}
use Rattle.pyd_derivation.specs.declared.piece.Piece.TheVariants as piece

-- the part of a production at this place
abbrev pub part : List Piece → ℕ → Piece
part vs i = get_or vs i piece.Nothing

-- an expression where there is none
abbrev pub no_expr : Expr
no_expr = expr.Lit value.None

-- a statement where there is none
abbrev pub no_stmt : Stmt
no_stmt = record { line = 0; what = what.Pass }

-- a token where there is none
abbrev pub no_token : Token
no_token = record { kind = kind.End; from = 0; to = 0; line = 0 }

-- the suite of these statements
abbrev pub block : List Stmt → Block
block ss = roll-Block (record { stmts = ss })

-- a function where there is none
abbrev pub no_func : Func
no_func = record { line = 0; name = []; marks = []; params = []; body = block (no_stmt ∷ []) }

-- the characters of bytes that are UTF-8
abbrev pub characters : List ℕ → List ℕ
characters bytes = cond (is_utf8 bytes) (chars bytes) []

-- the characters that spell a token
abbrev pub spelled : List ℕ → Token → List ℕ
spelled bytes t = characters (spelling_of bytes t.from t.to)

-- the text whose bytes are those of the value of a string token
abbrev pub text_in : List ℕ → Token → List ℕ
text_in bytes t = chars (encode_utf8_all (string_value (spelled bytes t)))

-- the token that a piece is
abbrev pub token_of : Piece → Token
token_of (piece.Leaf t) = t
token_of p = no_token

-- the kind of a piece's token
abbrev pub kind_of : Piece → TokenKind
kind_of p = (token_of p).kind

-- the name that a piece spells
abbrev pub name_in : List ℕ → Piece → List ℕ
name_in bytes p = spelled bytes (token_of p)

-- the expression that a piece is
abbrev pub expr_of : Piece → Expr
expr_of (piece.Expr e) = e
expr_of p = no_expr

-- the expressions that commas or one operator divide
abbrev pub exprs_of : Piece → List Expr
exprs_of (piece.Expr e) = e ∷ []
exprs_of (piece.Many es) = es
exprs_of p = []

-- one expression without a comma, else a tuple
abbrev pub tuple_of : Piece → Expr
tuple_of (piece.Expr e) = e
tuple_of (piece.Many es) = expr.Tuple es
tuple_of piece.Nothing = expr.Tuple []
tuple_of p = no_expr

-- the same, where there is something
abbrev pub optional_tuple : Piece → Option Expr
optional_tuple (piece.Expr e) = Some e
optional_tuple (piece.Many es) = Some (expr.Tuple es)
optional_tuple p = None

-- the same, where there is one
abbrev pub optional_expr : Piece → Option Expr
optional_expr (piece.Expr e) = Some e
optional_expr p = None

-- the operators with their operands
abbrev pub links_of : Piece → List (BinOp × Expr)
links_of (piece.Links ls) = ls
links_of p = []

-- the comparison operators with their operands
abbrev pub compares_of : Piece → List (CmpOp × Expr)
compares_of (piece.Compares ls) = ls
compares_of p = []

-- the index or slice
abbrev pub suffix_of : Piece → Suffix
suffix_of (piece.Suffix s) = s
suffix_of p = suffix.Index no_expr

-- the indexes and slices
abbrev pub suffixes_of : Piece → List Suffix
suffixes_of (piece.Suffixes ss) = ss
suffixes_of p = []

-- the statement
abbrev pub stmt_of : Piece → Stmt
stmt_of (piece.Stmt s) = s
stmt_of p = no_stmt

-- the statements
abbrev pub stmts_of : Piece → List Stmt
stmts_of (piece.Stmts ss) = ss
stmts_of p = []

-- the suite
abbrev pub suite_of : Piece → Block
suite_of (piece.Suite b) = b
suite_of p = block (no_stmt ∷ [])

-- the suite of `else`, where there is one
abbrev pub optional_suite : Piece → Option Block
optional_suite (piece.Suite b) = Some b
optional_suite p = None

-- the arms
abbrev pub arms_of : Piece → List Arm
arms_of (piece.Arms xs) = xs
arms_of p = []

-- the names
abbrev pub names_of : Piece → List (List ℕ)
names_of (piece.Names ns) = ns
names_of p = []

-- the parameters, each with its line
abbrev pub params_of : Piece → List (ℕ × List ℕ)
params_of (piece.Params ps) = ps
params_of p = []

-- the decorators, each with its line
abbrev pub marks_of : Piece → List (ℕ × List ℕ)
marks_of (piece.Def ms f) = ms
marks_of p = []

-- the function
abbrev pub func_of : Piece → Func
func_of (piece.Def ms f) = f
func_of p = no_func

-- the item
abbrev pub item_of : Piece → Item
item_of (piece.Item i) = i
item_of p = item.Stmt no_stmt

-- the items
abbrev pub items_of : Piece → List Item
items_of (piece.Items is) = is
items_of p = []
