-- Expressions that are well formed and have few parts, and what is made of them.
use Rattle.std.proofs.Common.{◌≡◌, ℕ, ◌+◌, ◌≤◌, ℤ, List, [], ◌∷◌, map, Option, Some, None, Bool, true, refl, ◌∙◌, arith, rules}
use Rattle.std.proofs.lemmas.Bool.{and_from}
use Rattle.pyd_value.specs.Size.{total}
use Rattle.pyd_value.specs.declared.value.Value.{Value, the_lemmas}
use Rattle.pyd_value.specs.declared.value.Value.TheVariants as value
use Rattle.pyd_value.specs.declared.operator.BinOp.{BinOp}
use Rattle.pyd_value.specs.declared.operator.CmpOp.{CmpOp}
use Rattle.pyd_value.specs.declared.operator.UnOp.{UnOp}
use Rattle.pyd_tree.specs.declared.expression.Expr.{Expr}
use Rattle.pyd_tree.specs.declared.expression.Expr.TheVariants as expr
use Rattle.pyd_tree.specs.declared.expression.Suffix.{Suffix}
use Rattle.pyd_tree.specs.declared.expression.Suffix.TheVariants as suffix
use Rattle.pyd_names.specs.WellFormed.{expression_parts, maybe_parts, is_formed_expression, is_formed_maybe, all_hold, is_token_value}
use Rattle.pyd_grammar.proofs.ExpressionParts.{suffix_parts, is_formed_suffix, literal_parts, literal_formed, name_parts, name_formed, tuple_parts, tuple_formed, unary_parts, unary_formed, chain_parts, chain_formed, power_parts, power_formed, and_parts, and_formed, or_parts, or_formed, compare_parts, compare_formed, choice_parts, choice_formed, call_parts, call_formed, suffixed_parts, suffixed_formed, index_parts, index_formed, slice_parts, slice_formed}

-- the expression is well formed, and has eight parts fewer than this
pub record Formed (e : Expr) (w : ℕ) : Type 0 where
  pub formed : is_formed_expression e ≡ true
  pub few : expression_parts e + 8 ≤ w

-- each expression is well formed, and all have eight parts fewer than this
pub record FormedAll (es : List Expr) (w : ℕ) : Type 0 where
  pub formed : all_hold (map is_formed_expression es) ≡ true
  pub few : total (map expression_parts es) + 8 ≤ w

-- the same of an expression that may be missing
pub record FormedMaybe (e : Option Expr) (w : ℕ) : Type 0 where
  pub formed : is_formed_maybe e ≡ true
  pub few : maybe_parts e ≤ w

-- operators with well formed operands, and all have eight parts fewer than this
pub record FormedLinks (ls : List (BinOp × Expr)) (w : ℕ) : Type 0 where
  pub formed : all_hold (map (λ l. is_formed_expression l.1) ls) ≡ true
  pub few : total (map (λ l. expression_parts l.1) ls) + 8 ≤ w

-- the same of comparisons
pub record FormedCompares (ls : List (CmpOp × Expr)) (w : ℕ) : Type 0 where
  pub formed : all_hold (map (λ l. is_formed_expression l.1) ls) ≡ true
  pub few : total (map (λ l. expression_parts l.1) ls) + 8 ≤ w

-- what stands in brackets is well formed, and has eight parts fewer than this
pub record FormedSuffix (s : Suffix) (w : ℕ) : Type 0 where
  pub formed : is_formed_suffix s ≡ true
  pub few : suffix_parts s + 4 ≤ w

-- the same of several
pub record FormedSuffixes (ss : List Suffix) (w : ℕ) : Type 0 where
  pub formed : all_hold (map is_formed_suffix ss) ≡ true
  pub few : total (map suffix_parts ss) + 4 ≤ w

-- the tests of a condition
pub record FormedBoth (t n : Expr) (w : ℕ) : Type 0 where
  pub test : is_formed_expression t ≡ true
  pub no : is_formed_expression n ≡ true
  pub few : (expression_parts t + expression_parts n) + 8 ≤ w

pub formed_more : (e : Expr) (m w : ℕ) → Formed e m → m ≤ w → Formed e w
formed_more e m w h l = record { formed = h.formed; few = omega arith }

pub all_more : (es : List Expr) (m w : ℕ) → FormedAll es m → m ≤ w → FormedAll es w
all_more es m w h l = record { formed = h.formed; few = omega arith }

pub all_none : (w : ℕ) → 8 ≤ w → FormedAll [] w
all_none w l = record { formed = refl; few = omega arith }

pub all_one : (e : Expr) (m w : ℕ) → Formed e m → m ≤ w → FormedAll (e ∷ []) w
all_one e m w h l = record { formed = and_from _ _ h.formed refl; few = omega arith }

pub all_cons : (e : Expr) (es : List Expr) (m n w : ℕ) → Formed e m → FormedAll es n → m + n ≤ w → FormedAll (e ∷ es) w
all_cons e es m n w h k l = record { formed = and_from _ _ h.formed k.formed; few = omega arith }

pub literal : (v : Value) (w : ℕ) → is_token_value v ≡ true → 9 ≤ w → Formed (expr.Lit v) w
literal v w h l = let p = literal_parts v in record { formed = literal_formed v ∙ h; few = omega arith }

pub name : (n : List ℕ) (w : ℕ) → 9 ≤ w → Formed (expr.Name n) w
name n w l = let p = name_parts n in record { formed = name_formed n; few = omega arith }

pub tuple : (es : List Expr) (m w : ℕ) → FormedAll es m → m + 1 ≤ w → Formed (expr.Tuple es) w
tuple es m w h l = let p = tuple_parts es in record { formed = tuple_formed es ∙ h.formed; few = omega arith }

pub unary : (op : UnOp) (e : Expr) (m w : ℕ) → Formed e m → m + 1 ≤ w → Formed (expr.Unary op e) w
unary op e m w h l = let p = unary_parts op e in record { formed = unary_formed op e ∙ h.formed; few = omega arith }

pub chain : (e : Expr) (l : BinOp × Expr) (ls : List (BinOp × Expr)) (m n w : ℕ) → Formed e m → FormedLinks (l ∷ ls) n → m + n ≤ w → Formed (expr.Chain e (l ∷ ls)) w
chain e l ls m n w h k le = let p = chain_parts e (l ∷ ls) in
    record { formed = chain_formed e l ls ∙ and_from _ _ h.formed k.formed; few = omega arith }

pub compare : (e : Expr) (l : CmpOp × Expr) (ls : List (CmpOp × Expr)) (m n w : ℕ) → Formed e m → FormedCompares (l ∷ ls) n → m + n ≤ w → Formed (expr.Compare e (l ∷ ls)) w
compare e l ls m n w h k le = let p = compare_parts e (l ∷ ls) in
    record { formed = compare_formed e l ls ∙ and_from _ _ h.formed k.formed; few = omega arith }

pub power : (b e : Expr) (m n w : ℕ) → Formed b m → Formed e n → m + n ≤ w → Formed (expr.Power b e) w
power b e m n w h k le = let p = power_parts b e in
    record { formed = power_formed b e ∙ and_from _ _ h.formed k.formed; few = omega arith }

pub and : (d e : Expr) (es : List Expr) (m n w : ℕ) → Formed d m → FormedAll (e ∷ es) n → m + n ≤ w → Formed (expr.And (d ∷ e ∷ es)) w
and d e es m n w h k le = let p = and_parts (d ∷ e ∷ es) in
    record { formed = and_formed d e es ∙ and_from _ _ h.formed k.formed; few = omega arith }

pub or : (d e : Expr) (es : List Expr) (m n w : ℕ) → Formed d m → FormedAll (e ∷ es) n → m + n ≤ w → Formed (expr.Or (d ∷ e ∷ es)) w
or d e es m n w h k le = let p = or_parts (d ∷ e ∷ es) in
    record { formed = or_formed d e es ∙ and_from _ _ h.formed k.formed; few = omega arith }

pub choice : (t y n : Expr) (m k w : ℕ) → Formed y m → FormedBoth t n k → m + k ≤ w → Formed (expr.If t y n) w
choice t y n m k w h b le = let p = choice_parts t y n in
    record { formed = choice_formed t y n ∙ and_from _ _ b.test (and_from _ _ h.formed b.no); few = omega arith }

pub call : (n : List ℕ) (es : List Expr) (m w : ℕ) → FormedAll es m → m + 1 ≤ w → Formed (expr.Call n es) w
call n es m w h l = let p = call_parts n es in record { formed = call_formed n es ∙ h.formed; few = omega arith }

pub suffixed : (e : Expr) (s : Suffix) (ss : List Suffix) (m n w : ℕ) → Formed e m → FormedSuffixes (s ∷ ss) n → m + n ≤ w → Formed (expr.Suffixed e (s ∷ ss)) w
suffixed e s ss m n w h k le = let p = suffixed_parts e (s ∷ ss) in
    record { formed = suffixed_formed e s ss ∙ and_from _ _ h.formed k.formed; few = omega arith }

pub index : (e : Expr) (m w : ℕ) → Formed e m → m ≤ w → FormedSuffix (suffix.Index e) w
index e m w h l = let p = index_parts e in record { formed = index_formed e ∙ h.formed; few = omega arith }

pub maybe_some : (e : Expr) (m w : ℕ) → Formed e m → m ≤ w → FormedMaybe (Some e) w
maybe_some e m w h l = record { formed = h.formed; few = omega arith }

pub slice_none : (u : Option Expr) (m w : ℕ) → FormedMaybe u m → m + 8 ≤ w → FormedSuffix (suffix.Slice None u) w
slice_none None m w h l = let p = slice_parts None None in record { formed = slice_formed None None; few = omega arith }
slice_none (Some e) m w h l = let p = slice_parts None (Some e) in record { formed = slice_formed None (Some e) ∙ h.formed; few = omega arith }

pub slice_some : (e : Expr) (u : Option Expr) (m n w : ℕ) → Formed e m → FormedMaybe u n → m + n ≤ w → FormedSuffix (suffix.Slice (Some e) u) w
slice_some e None m n w h k l = let p = slice_parts (Some e) None in record { formed = slice_formed (Some e) None ∙ and_from _ _ h.formed refl; few = omega arith }
slice_some e (Some u) m n w h k l = let p = slice_parts (Some e) (Some u) in
    record { formed = slice_formed (Some e) (Some u) ∙ and_from _ _ h.formed k.formed; few = omega arith }

pub links_one : (op : BinOp) (e : Expr) (m w : ℕ) → Formed e m → m ≤ w → FormedLinks ((op, e) ∷ []) w
links_one op e m w h l = record { formed = and_from _ _ h.formed refl; few = omega arith }

pub links_cons : (op : BinOp) (e : Expr) (ls : List (BinOp × Expr)) (m n w : ℕ) → Formed e m → FormedLinks ls n → m + n ≤ w → FormedLinks ((op, e) ∷ ls) w
links_cons op e ls m n w h k l = record { formed = and_from _ _ h.formed k.formed; few = omega arith }

pub compares_one : (op : CmpOp) (e : Expr) (m w : ℕ) → Formed e m → m ≤ w → FormedCompares ((op, e) ∷ []) w
compares_one op e m w h l = record { formed = and_from _ _ h.formed refl; few = omega arith }

pub compares_cons : (op : CmpOp) (e : Expr) (ls : List (CmpOp × Expr)) (m n w : ℕ) → Formed e m → FormedCompares ls n → m + n ≤ w → FormedCompares ((op, e) ∷ ls) w
compares_cons op e ls m n w h k l = record { formed = and_from _ _ h.formed k.formed; few = omega arith }

pub suffixes_one : (s : Suffix) (m w : ℕ) → FormedSuffix s m → m ≤ w → FormedSuffixes (s ∷ []) w
suffixes_one s m w h l = record { formed = and_from _ _ h.formed refl; few = omega arith }

pub suffixes_cons : (s : Suffix) (ss : List Suffix) (m n w : ℕ) → FormedSuffix s m → FormedSuffixes ss n → m + n ≤ w → FormedSuffixes (s ∷ ss) w
suffixes_cons s ss m n w h k l = record { formed = and_from _ _ h.formed k.formed; few = omega arith }

-- literals

pub int_fits : (n : ℤ) → is_token_value (value.Int n) ≡ true
int_fits n = search (rules, the_lemmas)

pub bool_fits : (b : Bool) → is_token_value (value.Bool b) ≡ true
bool_fits b = search (rules, the_lemmas)

pub none_fits : is_token_value value.None ≡ true
none_fits = search (rules, the_lemmas)
