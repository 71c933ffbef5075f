-- What is known of each kind of expression, statement and item: its parts, and whether it is well formed.
use Rattle.std.proofs.Common.{◌≡◌, ℕ, ◌+◌, List, [], ◌∷◌, map, Option, Bool, true, ◌&&◌, refl, ap, rules}
use Rattle.std.specs.Prelude.{option_map}
use Rattle.pyd_value.specs.Size.{total}
use Rattle.pyd_value.specs.declared.value.Value.{Value}
use Rattle.pyd_value.specs.declared.operator.BinOp.{BinOp}
use Rattle.pyd_value.specs.declared.operator.CmpOp.{CmpOp}
use Rattle.pyd_value.specs.declared.operator.UnOp.{UnOp}
use Rattle.pyd_tree.specs.declared.expression.Expr.{Expr, the_lemmas}
use Rattle.pyd_tree.specs.declared.expression.Expr.TheVariants as expr
use Rattle.pyd_tree.specs.declared.expression.Suffix.{Suffix, fold-Suffix}
use Rattle.pyd_tree.specs.declared.expression.Suffix.TheVariants as suffix
use Rattle.pyd_names.specs.WellFormed.{expression_parts, count_expression, count_suffix, or_zero, is_formed_expression, form_expression, form_suffix, all_hold, or_true, is_token_value}

-- the parts of a suffix
abbrev pub suffix_parts : Suffix → ℕ
suffix_parts = fold-Suffix ℕ ℕ count_expression count_suffix

-- whether a suffix is well formed
abbrev pub is_formed_suffix : Suffix → Bool
is_formed_suffix = fold-Suffix Bool Bool form_expression form_suffix

pub literal_parts : (v : Value) → expression_parts (expr.Lit v) ≡ 1
literal_parts v = search (rules, the_lemmas)

pub literal_formed : (v : Value) → is_formed_expression (expr.Lit v) ≡ is_token_value v
literal_formed v = search (rules, the_lemmas)

pub name_parts : (n : List ℕ) → expression_parts (expr.Name n) ≡ 1
name_parts n = search (rules, the_lemmas)

pub name_formed : (n : List ℕ) → is_formed_expression (expr.Name n) ≡ true
name_formed n = search (rules, the_lemmas)

pub tuple_parts : (es : List Expr) → expression_parts (expr.Tuple es) ≡ 1 + total (map expression_parts es)
tuple_parts es = search (rules, the_lemmas)

pub tuple_formed : (es : List Expr) → is_formed_expression (expr.Tuple es) ≡ all_hold (map is_formed_expression es)
tuple_formed es = search (rules, the_lemmas)

pub unary_parts : (op : UnOp) (e : Expr) → expression_parts (expr.Unary op e) ≡ 1 + expression_parts e
unary_parts op e = search (rules, the_lemmas)

pub unary_formed : (op : UnOp) (e : Expr) → is_formed_expression (expr.Unary op e) ≡ is_formed_expression e
unary_formed op e = search (rules, the_lemmas)

fused : {X Y Z : Type 0} → (g : X → Y) (f : Y → Z) (xs : List X) → map f (map g xs) ≡ map (λ x. f (g x)) xs
fused g f [] = refl
fused g f (x ∷ xs) = ap (λ (z : List _). f (g x) ∷ z) (fused g f xs)

pub chain_parts : (e : Expr) (ls : List (BinOp × Expr)) → expression_parts (expr.Chain e ls) ≡ 1 + (expression_parts e + total (map (λ l. expression_parts l.1) ls))
chain_parts e ls = search (rules, the_lemmas, fused)

pub chain_formed : (e : Expr) (l : BinOp × Expr) (ls : List (BinOp × Expr)) → is_formed_expression (expr.Chain e (l ∷ ls)) ≡ (is_formed_expression e && all_hold (map (λ k. is_formed_expression k.1) (l ∷ ls)))
chain_formed e l ls = search (rules, the_lemmas, fused)

pub slice_parts : (l u : Option Expr) → suffix_parts (suffix.Slice l u) ≡ 1 + (or_zero (option_map expression_parts l) + or_zero (option_map expression_parts u))
slice_parts l u = search (rules, the_lemmas)

pub slice_formed : (l u : Option Expr) → is_formed_suffix (suffix.Slice l u) ≡ (or_true (option_map is_formed_expression l) && or_true (option_map is_formed_expression u))
slice_formed l u = search (rules, the_lemmas)

pub power_parts : (b e : Expr) → expression_parts (expr.Power b e) ≡ 1 + (expression_parts b + expression_parts e)
power_parts b e = search (rules, the_lemmas)

pub power_formed : (b e : Expr) → is_formed_expression (expr.Power b e) ≡ (is_formed_expression b && is_formed_expression e)
power_formed b e = search (rules, the_lemmas)

pub and_parts : (es : List Expr) → expression_parts (expr.And es) ≡ 1 + total (map expression_parts es)
and_parts es = search (rules, the_lemmas)

pub and_formed : (d e : Expr) (es : List Expr) → is_formed_expression (expr.And (d ∷ e ∷ es)) ≡ all_hold (map is_formed_expression (d ∷ e ∷ es))
and_formed d e es = search (rules, the_lemmas)

pub or_parts : (es : List Expr) → expression_parts (expr.Or es) ≡ 1 + total (map expression_parts es)
or_parts es = search (rules, the_lemmas)

pub or_formed : (d e : Expr) (es : List Expr) → is_formed_expression (expr.Or (d ∷ e ∷ es)) ≡ all_hold (map is_formed_expression (d ∷ e ∷ es))
or_formed d e es = search (rules, the_lemmas)

pub compare_parts : (e : Expr) (ls : List (CmpOp × Expr)) → expression_parts (expr.Compare e ls) ≡ 1 + (expression_parts e + total (map (λ l. expression_parts l.1) ls))
compare_parts e ls = search (rules, the_lemmas, fused)

pub compare_formed : (e : Expr) (l : CmpOp × Expr) (ls : List (CmpOp × Expr)) →
    is_formed_expression (expr.Compare e (l ∷ ls)) ≡ (is_formed_expression e && all_hold (map (λ k. is_formed_expression k.1) (l ∷ ls)))
compare_formed e l ls = search (rules, the_lemmas, fused)

pub choice_parts : (t y n : Expr) → expression_parts (expr.If t y n) ≡ 1 + (expression_parts t + (expression_parts y + expression_parts n))
choice_parts t y n = search (rules, the_lemmas)

pub choice_formed : (t y n : Expr) → is_formed_expression (expr.If t y n) ≡ (is_formed_expression t && (is_formed_expression y && is_formed_expression n))
choice_formed t y n = search (rules, the_lemmas)

pub call_parts : (n : List ℕ) (es : List Expr) → expression_parts (expr.Call n es) ≡ 1 + total (map expression_parts es)
call_parts n es = search (rules, the_lemmas)

pub call_formed : (n : List ℕ) (es : List Expr) → is_formed_expression (expr.Call n es) ≡ all_hold (map is_formed_expression es)
call_formed n es = search (rules, the_lemmas)

pub suffixed_parts : (e : Expr) (ss : List Suffix) → expression_parts (expr.Suffixed e ss) ≡ 1 + (expression_parts e + total (map suffix_parts ss))
suffixed_parts e ss = search (rules, the_lemmas)

pub suffixed_formed : (e : Expr) (s : Suffix) (ss : List Suffix) → is_formed_expression (expr.Suffixed e (s ∷ ss)) ≡ (is_formed_expression e && all_hold (map is_formed_suffix (s ∷ ss)))
suffixed_formed e s ss = search (rules, the_lemmas)

pub index_parts : (e : Expr) → suffix_parts (suffix.Index e) ≡ 1 + expression_parts e
index_parts e = search (rules, the_lemmas)

pub index_formed : (e : Expr) → is_formed_suffix (suffix.Index e) ≡ is_formed_expression e
index_formed e = search (rules, the_lemmas)
