-- Values of literals, one behind another.
use Rattle.std.proofs.Common.{◌≡◌, ℕ, pos, negsuc, sym, ap, ◌∙◌, ◌-ℤ◌, map, rules, ◌&&◌, List, ◌++◌, Option, Some, None, is_some, refl}
use Rattle.pyd_names.specs.Literal.{before, literal, value_in, negated, token_form, form_of, values_in, tuple_of}
use Rattle.pyd_names.specs.Laws.{LiteralByKind}
use Rattle.pyd_value.specs.declared.value.Value.{Value, Int, out-Value, the_lemmas as value_lemmas}
use Rattle.pyd_value.specs.declared.value.Value.TheVariants as value
use Rattle.pyd_value.specs.declared.value.Value.TheOpen.{Value-F}
use Rattle.pyd_value.specs.declared.value.Value.TheViews.{roll-Value, roll-out-Value}
use Rattle.pyd_value.specs.declared.operator.BinOp.{BinOp}
use Rattle.pyd_value.specs.declared.operator.UnOp.TheVariants.{Neg, Pos, Not}
use Rattle.pyd_value.specs.declared.operator.CmpOp.{CmpOp}
use Rattle.pyd_tree.specs.declared.expression.Suffix.{Suffix}
use Rattle.pyd_tree.specs.declared.expression.Expr.{Expr, the_lemmas}
use Rattle.pyd_tree.specs.declared.expression.Expr.TheVariants as expression

-- these values before others, if the others are there
abbrev pub behind : List Value → Option (List Value) → Option (List Value)
behind vs None = None
behind vs (Some ws) = Some (vs ++ ws)

-- values are all there where the first and the others are
pub is_some-before : (v : Option Value) (vs : Option (List Value)) → is_some (before v vs) ≡ is_some v && is_some vs
is_some-before None vs = refl
is_some-before (Some v) None = refl
is_some-before (Some v) (Some vs) = refl

opened : (v : Value) (f : Value-F Value) → roll-Value f ≡ v → value_in (token_form v f) ≡ Some v
opened v (Value-F.Int (pos n)) is = ap Some (sym (value.rolls-Int (pos n)) ∙ is)
opened v (Value-F.Int (negsuc n)) is = refl
opened v (Value-F.Bool b) is = refl
opened v (Value-F.Text s) is = refl
opened v (Value-F.Tuple vs) is = refl
opened v Value-F.None is = refl

token_literal : (v : Value) → literal (expression.Lit v) ≡ Some v
token_literal v =
    let one : literal (expression.Lit v) ≡ value_in (token_form v (out-Value v)) = search (rules, the_lemmas) in
    one ∙ opened v (out-Value v) (roll-out-Value v)

negative_literal : (n : ℕ) → literal (expression.Unary Neg (expression.Lit (Int (pos n)))) ≡ Some (Int (pos 0 -ℤ pos n))
negative_literal n = search (rules, the_lemmas, value_lemmas)

sign_literal : (e : Expr) → literal (expression.Unary Neg e) ≡ value_in (negated (form_of e))
sign_literal e = search (rules, the_lemmas)

plus_literal : (e : Expr) → literal (expression.Unary Pos e) ≡ None
plus_literal e = search (rules, the_lemmas)

negation_literal : (e : Expr) → literal (expression.Unary Not e) ≡ None
negation_literal e = search (rules, the_lemmas)

power_literal : (b e : Expr) → literal (expression.Power b e) ≡ None
power_literal b e = search (rules, the_lemmas)

and_literal : (es : List Expr) → literal (expression.And es) ≡ None
and_literal es = search (rules, the_lemmas)

or_literal : (es : List Expr) → literal (expression.Or es) ≡ None
or_literal es = search (rules, the_lemmas)

compare_literal : (e : Expr) (ls : List (CmpOp × Expr)) → literal (expression.Compare e ls) ≡ None
compare_literal e ls = search (rules, the_lemmas)

choice_literal : (c l r : Expr) → literal (expression.If c l r) ≡ None
choice_literal c l r = search (rules, the_lemmas)

suffixed_literal : (e : Expr) (ss : List Suffix) → literal (expression.Suffixed e ss) ≡ None
suffixed_literal e ss = search (rules, the_lemmas)

tuple_literal : (es : List Expr) → literal (expression.Tuple es) ≡ tuple_of (values_in (map form_of es))
tuple_literal es = search (rules, the_lemmas)

name_literal : (n : List ℕ) → literal (expression.Name n) ≡ None
name_literal n = search (rules, the_lemmas)

chain_literal : (e : Expr) (ls : List (BinOp × Expr)) → literal (expression.Chain e ls) ≡ None
chain_literal e ls = search (rules, the_lemmas)

call_literal : (n : List ℕ) (es : List Expr) → literal (expression.Call n es) ≡ None
call_literal n es = search (rules, the_lemmas)

pub by_kind : LiteralByKind
by_kind =
    record {
      token = token_literal;
      sign = sign_literal;
      plus = plus_literal;
      negation = negation_literal;
      power = power_literal;
      and = and_literal;
      or = or_literal;
      compare = compare_literal;
      choice = choice_literal;
      suffixed = suffixed_literal;
      negative = negative_literal;
      tuple = tuple_literal;
      name = name_literal;
      chain = chain_literal;
      call = call_literal;
    }
