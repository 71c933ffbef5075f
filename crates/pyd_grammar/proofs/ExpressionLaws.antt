-- What the productions of expressions make is well formed and has few parts.
use Rattle.std.proofs.Common.{◌≡◌, ℕ, ◌+◌, List, [], ◌∷◌, Some, None, true, false, refl, sym, subst, zero-add, arith}
use Rattle.pyd_lex.specs.declared.token.TokenKind.{TokenKind}
use Rattle.pyd_lex.specs.declared.token.TokenKind.TheVariants as token
use Rattle.pyd_lex.specs.declared.word.Word.TheVariants as word
use Rattle.pyd_value.specs.declared.operator.UnOp.TheVariants as un
use Rattle.pyd_value.specs.declared.operator.CmpOp.TheVariants as cmp
use Rattle.pyd_value.specs.declared.value.Value.TheVariants as value
use Rattle.pyd_derivation.specs.declared.piece.Piece.{Piece}
use Rattle.pyd_derivation.specs.declared.piece.Piece.TheVariants as piece
use Rattle.pyd_derivation.specs.Operators.{operator, sign, comparison}
use Rattle.pyd_derivation.specs.Pieces.{kind_of, name_in, text_in, token_of, tuple_of}
use Rattle.pyd_derivation.specs.Actions.{as_and, as_arguments, as_bound, as_chain, as_comma, as_compare, as_compared, as_condition, as_constant, as_group, as_int, as_link, as_member, as_name, as_not, as_not_in, as_or, as_power, as_sub, as_suffix, as_suffixed, as_test, as_tests, as_text, as_unary, as_upper, same, second, number, constant}
use Rattle.pyd_names.specs.WellFormed.{is_token_value}
use Rattle.pyd_grammar.proofs.FormedExpressions.{Formed, formed_more, all_more, all_none, all_one, all_cons, literal, name, tuple, unary, chain, compare, power, and, or, choice, call, suffixed, index, maybe_some, slice_none, slice_some, links_one, links_cons, compares_one, compares_cons, suffixes_one, suffixes_cons, int_fits, bool_fits, none_fits}
use Rattle.pyd_grammar.proofs.Shapes.{Kind, Meets, Test, Tests, Options, More, Condition, Members, Compared, Linked, Maybe, Suffixes, Sub, Bound, Arguments}

-- a part alone
pub alone : (k : Kind) (a : Piece) (m : ℕ) → Meets k a m → (line : ℕ) → Meets k (same a) (0 + m)
alone k a m h line = subst (Meets k a) (sym (zero-add m)) h

pub tests_alone : (a : Piece) (m : ℕ) → Meets Tests a m → (line : ℕ) → Meets Options (same a) (0 + m)
tests_alone (piece.Expr e) m h line = formed_more e m (0 + m) h (omega arith)
tests_alone (piece.Many es) m h line = all_more es m (0 + m) h (omega arith)
tests_alone a m h line = absurd h

pub test_alone : (a : Piece) (m : ℕ) → Meets Test a m → (line : ℕ) → Meets Maybe (same a) (0 + m)
test_alone (piece.Expr e) m h line = formed_more e m (0 + m) h (omega arith)
test_alone a m h line = absurd h

-- an expression behind a token
pub behind : (a b : Piece) (m : ℕ) → Meets Test b m → (line : ℕ) → Meets Maybe (second a b) (32 + m)
behind a (piece.Expr e) m h line = formed_more e m (32 + m) h (omega arith)
behind a b m h line = absurd h

pub tests_made : (a : Piece) (m : ℕ) → Meets Test a m → (b : Piece) (n : ℕ) → Meets More b n → (line : ℕ) → Meets Tests (as_tests a b) (0 + m + n)
tests_made (piece.Expr e) m h (piece.Many es) n k line = all_cons e es m n (0 + m + n) h k (omega arith)
tests_made (piece.Expr e) m h piece.Nothing n k line = formed_more e m (0 + m + n) h (omega arith)
tests_made (piece.Expr e) m h b n k line = absurd k
tests_made a m h b n k line = absurd h

pub comma_made : (a b : Piece) (m : ℕ) → Meets Options b m → (line : ℕ) → Meets More (as_comma a b) (32 + m)
comma_made a piece.Nothing m h line = all_none (32 + m) (omega arith)
comma_made a (piece.Expr e) m h line = all_one e m (32 + m) h (omega arith)
comma_made a (piece.Many es) m h line = all_more es m (32 + m) h (omega arith)
comma_made a b m h line = absurd h

pub test_made : (a : Piece) (m : ℕ) → Meets Test a m → (b : Piece) (n : ℕ) → Meets Condition b n → (line : ℕ) → Meets Test (as_test a b) (0 + m + n)
test_made (piece.Expr e) m h (piece.Condition t o) n k line = choice t e o m n (0 + m + n) h k (omega arith)
test_made (piece.Expr e) m h piece.Nothing n k line = formed_more e m (0 + m + n) h (omega arith)
test_made (piece.Expr e) m h b n k line = absurd k
test_made a m h b n k line = absurd h

pub condition_made : (a b : Piece) (m : ℕ) → Meets Test b m → (c d : Piece) (n : ℕ) → Meets Test d n → (line : ℕ) → Meets Condition (as_condition a b c d) (32 + m + 32 + n)
condition_made a (piece.Expr t) m h c (piece.Expr o) n k line = record { test = h.formed; no = k.formed; few = omega arith }
condition_made a (piece.Expr t) m h c d n k line = absurd k
condition_made a b m h c d n k line = absurd h

pub or_made : (a : Piece) (m : ℕ) → Meets Test a m → (b : Piece) (n : ℕ) → Meets Members b n → (line : ℕ) → Meets Test (as_or a b) (0 + m + n)
or_made (piece.Expr e) m h (piece.Many (d ∷ ds)) n k line = or e d ds m n (0 + m + n) h k (omega arith)
or_made (piece.Expr e) m h piece.Nothing n k line = formed_more e m (0 + m + n) h (omega arith)
or_made (piece.Expr e) m h b n k line = absurd k
or_made a m h b n k line = absurd h

pub and_made : (a : Piece) (m : ℕ) → Meets Test a m → (b : Piece) (n : ℕ) → Meets Members b n → (line : ℕ) → Meets Test (as_and a b) (0 + m + n)
and_made (piece.Expr e) m h (piece.Many (d ∷ ds)) n k line = and e d ds m n (0 + m + n) h k (omega arith)
and_made (piece.Expr e) m h piece.Nothing n k line = formed_more e m (0 + m + n) h (omega arith)
and_made (piece.Expr e) m h b n k line = absurd k
and_made a m h b n k line = absurd h

-- the operands behind the first are never none
pub member_made : (a b : Piece) (m : ℕ) → Meets Test b m → (c : Piece) (n : ℕ) → Meets Members c n → (line : ℕ) → Meets Members (as_member a b c) (32 + m + n)
member_made a (piece.Expr e) m h (piece.Many (d ∷ ds)) n k line = all_cons e (d ∷ ds) m n (32 + m + n) h k (omega arith)
member_made a (piece.Expr e) m h piece.Nothing n k line = all_one e m (32 + m + n) h (omega arith)
member_made a (piece.Expr e) m h c n k line = absurd k
member_made a b m h c n k line = absurd h

pub not_made : (a b : Piece) (m : ℕ) → Meets Test b m → (line : ℕ) → Meets Test (as_not a b) (32 + m)
not_made a (piece.Expr e) m h line = unary un.Not e m (32 + m) h (omega arith)
not_made a b m h line = absurd h

pub compare_made : (a : Piece) (m : ℕ) → Meets Test a m → (b : Piece) (n : ℕ) → Meets Compared b n → (line : ℕ) → Meets Test (as_compare a b) (0 + m + n)
compare_made (piece.Expr e) m h (piece.Compares (l ∷ ls)) n k line = compare e l ls m n (0 + m + n) h k (omega arith)
compare_made (piece.Expr e) m h piece.Nothing n k line = formed_more e m (0 + m + n) h (omega arith)
compare_made (piece.Expr e) m h b n k line = absurd k
compare_made a m h b n k line = absurd h

pub compared_made : (a b : Piece) (m : ℕ) → Meets Test b m → (c : Piece) (n : ℕ) → Meets Compared c n → (line : ℕ) → Meets Compared (as_compared a b c) (32 + m + n)
compared_made a (piece.Expr e) m h (piece.Compares (l ∷ ls)) n k line = compares_cons (comparison (kind_of a)) e (l ∷ ls) m n (32 + m + n) h k (omega arith)
compared_made a (piece.Expr e) m h piece.Nothing n k line = compares_one (comparison (kind_of a)) e m (32 + m + n) h (omega arith)
compared_made a (piece.Expr e) m h c n k line = absurd k
compared_made a b m h c n k line = absurd h

pub not_in_made : (a b c : Piece) (m : ℕ) → Meets Test c m → (d : Piece) (n : ℕ) → Meets Compared d n → (line : ℕ) → Meets Compared (as_not_in a b c d) (64 + m + n)
not_in_made a b (piece.Expr e) m h (piece.Compares (l ∷ ls)) n k line = compares_cons cmp.NotIn e (l ∷ ls) m n (64 + m + n) h k (omega arith)
not_in_made a b (piece.Expr e) m h piece.Nothing n k line = compares_one cmp.NotIn e m (64 + m + n) h (omega arith)
not_in_made a b (piece.Expr e) m h d n k line = absurd k
not_in_made a b c m h d n k line = absurd h

pub chain_made : (a : Piece) (m : ℕ) → Meets Test a m → (b : Piece) (n : ℕ) → Meets Linked b n → (line : ℕ) → Meets Test (as_chain a b) (0 + m + n)
chain_made (piece.Expr e) m h (piece.Links (l ∷ ls)) n k line = chain e l ls m n (0 + m + n) h k (omega arith)
chain_made (piece.Expr e) m h piece.Nothing n k line = formed_more e m (0 + m + n) h (omega arith)
chain_made (piece.Expr e) m h b n k line = absurd k
chain_made a m h b n k line = absurd h

pub link_made : (a b : Piece) (m : ℕ) → Meets Test b m → (c : Piece) (n : ℕ) → Meets Linked c n → (line : ℕ) → Meets Linked (as_link a b c) (32 + m + n)
link_made a (piece.Expr e) m h (piece.Links (l ∷ ls)) n k line = links_cons (operator (kind_of a)) e (l ∷ ls) m n (32 + m + n) h k (omega arith)
link_made a (piece.Expr e) m h piece.Nothing n k line = links_one (operator (kind_of a)) e m (32 + m + n) h (omega arith)
link_made a (piece.Expr e) m h c n k line = absurd k
link_made a b m h c n k line = absurd h

pub unary_made : (a b : Piece) (m : ℕ) → Meets Test b m → (line : ℕ) → Meets Test (as_unary a b) (32 + m)
unary_made a (piece.Expr e) m h line = unary (sign (kind_of a)) e m (32 + m) h (omega arith)
unary_made a b m h line = absurd h

pub power_made : (a : Piece) (m : ℕ) → Meets Test a m → (b : Piece) (n : ℕ) → Meets Maybe b n → (line : ℕ) → Meets Test (as_power a b) (0 + m + n)
power_made (piece.Expr e) m h (piece.Expr x) n k line = power e x m n (0 + m + n) h k (omega arith)
power_made (piece.Expr e) m h piece.Nothing n k line = formed_more e m (0 + m + n) h (omega arith)
power_made (piece.Expr e) m h b n k line = absurd k
power_made a m h b n k line = absurd h

pub suffixed_made : (a : Piece) (m : ℕ) → Meets Test a m → (b : Piece) (n : ℕ) → Meets Suffixes b n → (line : ℕ) → Meets Test (as_suffixed a b) (0 + m + n)
suffixed_made (piece.Expr e) m h (piece.Suffixes (s ∷ ss)) n k line = suffixed e s ss m n (0 + m + n) h k (omega arith)
suffixed_made (piece.Expr e) m h piece.Nothing n k line = formed_more e m (0 + m + n) h (omega arith)
suffixed_made (piece.Expr e) m h b n k line = absurd k
suffixed_made a m h b n k line = absurd h

pub suffix_made : (a b : Piece) (m : ℕ) → Meets Sub b m → (c d : Piece) (n : ℕ) → Meets Suffixes d n → (line : ℕ) → Meets Suffixes (as_suffix a b c d) (32 + m + 32 + n)
suffix_made a (piece.Suffix s) m h c (piece.Suffixes (t ∷ ts)) n k line = suffixes_cons s (t ∷ ts) m n (32 + m + 32 + n) h k (omega arith)
suffix_made a (piece.Suffix s) m h c piece.Nothing n k line = suffixes_one s m (32 + m + 32 + n) h (omega arith)
suffix_made a (piece.Suffix s) m h c d n k line = absurd k
suffix_made a b m h c d n k line = absurd h

pub sub_made : (a : Piece) (m : ℕ) → Meets Test a m → (b : Piece) (n : ℕ) → Meets Bound b n → (line : ℕ) → Meets Sub (as_sub a b) (0 + m + n)
sub_made (piece.Expr e) m h (piece.Bound u) n k line = slice_some e u m n (0 + m + n) h k (omega arith)
sub_made (piece.Expr e) m h piece.Nothing n k line = index e m (0 + m + n) h (omega arith)
sub_made (piece.Expr e) m h b n k line = absurd k
sub_made a m h b n k line = absurd h

pub upper_made : (a b : Piece) (m : ℕ) → Meets Maybe b m → (line : ℕ) → Meets Sub (as_upper a b) (32 + m)
upper_made a piece.Nothing m h line = slice_none None 0 (32 + m) (record { formed = refl; few = omega arith }) (omega arith)
upper_made a (piece.Expr e) m h line = slice_none (Some e) m (32 + m) (maybe_some e m m h (omega arith)) (omega arith)
upper_made a b m h line = absurd h

pub bound_made : (a b : Piece) (m : ℕ) → Meets Maybe b m → (line : ℕ) → Meets Bound (as_bound a b) (32 + m)
bound_made a piece.Nothing m h line = record { formed = refl; few = omega arith }
bound_made a (piece.Expr e) m h line = maybe_some e m (32 + m) h (omega arith)
bound_made a b m h line = absurd h

-- atoms

pub name_made : (bytes : List ℕ) (a b : Piece) (m : ℕ) → Meets Arguments b m → (line : ℕ) → Meets Test (as_name bytes line a b) (32 + m)
name_made bytes a (piece.Args es) m h line = call (name_in bytes a) es m (32 + m) h (omega arith)
name_made bytes a piece.Nothing m h line = name (name_in bytes a) (32 + m) (omega arith)
name_made bytes a b m h line = absurd h

pub arguments_made : (a b : Piece) (m : ℕ) → Meets Options b m → (c : Piece) (line : ℕ) → Meets Arguments (as_arguments a b c) (32 + m + 32)
arguments_made a piece.Nothing m h c line = all_none (32 + m + 32) (omega arith)
arguments_made a (piece.Expr e) m h c line = all_one e m (32 + m + 32) h (omega arith)
arguments_made a (piece.Many es) m h c line = all_more es m (32 + m + 32) h (omega arith)
arguments_made a b m h c line = absurd h

-- what commas divide as one expression
pub tupled : (a : Piece) (m : ℕ) → Meets Tests a m → Formed (tuple_of a) (m + 1)
tupled (piece.Expr e) m h = formed_more e m (m + 1) h (omega arith)
tupled (piece.Many es) m h = tuple es m (m + 1) h (omega arith)
tupled a m h = absurd h

pub group_made : (a b : Piece) (m : ℕ) → Meets Options b m → (c : Piece) (line : ℕ) → Meets Test (as_group a b c) (32 + m + 32)
group_made a piece.Nothing m h c line = tuple [] 8 (32 + m + 32) (all_none 8 (omega arith)) (omega arith)
group_made a (piece.Expr e) m h c line = formed_more e m (32 + m + 32) h (omega arith)
group_made a (piece.Many es) m h c line = tuple es m (32 + m + 32) h (omega arith)
group_made a b m h c line = absurd h

number_fits : (k : TokenKind) → is_token_value (number k) ≡ true
number_fits (token.Int n) = int_fits n
number_fits k = none_fits

constant_fits : (k : TokenKind) → is_token_value (constant k) ≡ true
constant_fits (token.Word word.True) = bool_fits true
constant_fits (token.Word word.False) = bool_fits false
constant_fits k = none_fits

pub int_made : (a : Piece) (line : ℕ) → Meets Test (as_int a) 32
int_made a line = literal (number (kind_of a)) 32 (number_fits (kind_of a)) (omega arith)

pub constant_made : (a : Piece) (line : ℕ) → Meets Test (as_constant a) 32
constant_made a line = literal (constant (kind_of a)) 32 (constant_fits (kind_of a)) (omega arith)

-- a text of these bytes is within the size limit
abbrev pub TextsFit : List ℕ → Type 0
TextsFit bytes = (a : Piece) → is_token_value (value.Text (text_in bytes (token_of a))) ≡ true

pub text_made : (bytes : List ℕ) → TextsFit bytes → (a : Piece) (line : ℕ) → Meets Test (as_text bytes line a) 32
text_made bytes f a line = literal (value.Text (text_in bytes (token_of a))) 32 (f a) (omega arith)
