-- The nesting of each kind of expression.
use Rattle.std.proofs.Common.{◌≡◌, ℕ, ◌+◌, max, List, [], ◌∷◌, map, Option, refl, ap, rules}
use Rattle.std.specs.Prelude.{option_map}
use Rattle.pyd_value.specs.Size.{greatest}
use Rattle.pyd_value.specs.declared.value.Value.{Value}
use Rattle.pyd_value.specs.declared.operator.BinOp.{BinOp}
use Rattle.pyd_value.specs.declared.operator.CmpOp.{CmpOp}
use Rattle.pyd_value.specs.declared.operator.UnOp.{UnOp}
use Rattle.pyd_tree.specs.declared.expression.Expr.{Expr, the_lemmas}
use Rattle.pyd_tree.specs.declared.expression.Expr.TheVariants as expression
use Rattle.pyd_tree.specs.declared.expression.Suffix.{Suffix}
use Rattle.pyd_tree.specs.declared.expression.Suffix.TheVariants as suffix
use Rattle.pyd_tree.specs.Nesting.{nesting, suffix_nesting, or_zero, NestingByKind}

fused : {X Y : Type 0} → (g : X → Y) (f : Y → ℕ) (xs : List X) → map f (map g xs) ≡ map (λ x. f (g x)) xs
fused g f [] = refl
fused g f (x ∷ xs) = ap (λ (z : List ℕ). f (g x) ∷ z) (fused g f xs)

pub literal : (v : Value) → nesting (expression.Lit v) ≡ 0
literal v = search (rules, the_lemmas)

pub name : (n : List ℕ) → nesting (expression.Name n) ≡ 0
name n = search (rules, the_lemmas)

pub tuple : (es : List Expr) → nesting (expression.Tuple es) ≡ 1 + greatest (map nesting es)
tuple es = search (rules, the_lemmas)

pub unary : (op : UnOp) (e : Expr) → nesting (expression.Unary op e) ≡ 1 + nesting e
unary op e = search (rules, the_lemmas)

pub chain : (e : Expr) (ls : List (BinOp × Expr)) → nesting (expression.Chain e ls) ≡ 1 + max (nesting e) (greatest (map (λ l. nesting l.1) ls))
chain e ls = search (rules, the_lemmas, fused)

pub power : (b e : Expr) → nesting (expression.Power b e) ≡ 1 + max (nesting b) (nesting e)
power b e = search (rules, the_lemmas)

pub and : (es : List Expr) → nesting (expression.And es) ≡ 1 + greatest (map nesting es)
and es = search (rules, the_lemmas)

pub or : (es : List Expr) → nesting (expression.Or es) ≡ 1 + greatest (map nesting es)
or es = search (rules, the_lemmas)

pub compare : (e : Expr) (ls : List (CmpOp × Expr)) → nesting (expression.Compare e ls) ≡ 1 + max (nesting e) (greatest (map (λ l. nesting l.1) ls))
compare e ls = search (rules, the_lemmas, fused)

pub choice : (c y n : Expr) → nesting (expression.If c y n) ≡ 1 + max (nesting c) (max (nesting y) (nesting n))
choice c y n = search (rules, the_lemmas)

pub call : (n : List ℕ) (es : List Expr) → nesting (expression.Call n es) ≡ 1 + greatest (map nesting es)
call n es = search (rules, the_lemmas)

pub suffixed : (e : Expr) (ss : List Suffix) → nesting (expression.Suffixed e ss) ≡ 1 + max (nesting e) (greatest (map suffix_nesting ss))
suffixed e ss = search (rules, the_lemmas)

pub index : (e : Expr) → suffix_nesting (suffix.Index e) ≡ nesting e
index e = search (rules, the_lemmas)

pub slice : (l u : Option Expr) → suffix_nesting (suffix.Slice l u) ≡ max (or_zero (option_map nesting l)) (or_zero (option_map nesting u))
slice l u = search (rules, the_lemmas)

pub by_kind : NestingByKind
by_kind =
    record {
      literal = literal;
      name = name;
      tuple = tuple;
      unary = unary;
      chain = chain;
      power = power;
      and = and;
      or = or;
      compare = compare;
      choice = choice;
      call = call;
      suffixed = suffixed;
      index = index;
      slice = slice;
    }
