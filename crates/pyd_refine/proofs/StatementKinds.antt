-- The compound that a statement of each kind is.
use Rattle.std.proofs.Common.{◌≡◌, ℕ, ◌⊎◌, inl, inr, List, [], ◌∷◌, refl, sym, ap, ◌∙◌, Option, Some, None}
use Rattle.std.specs.List.{slice_get}
use Rattle.pyd_value.specs.declared.operator.BinOp.{BinOp}
use Rattle.pyd_tree.specs.declared.expression.Expr.{Expr}
use Rattle.pyd_tree.specs.declared.statement.Arm.{Arm}
use Rattle.pyd_tree.specs.declared.statement.Block.{Block}
use Rattle.pyd_tree.specs.declared.statement.Stmt.{Stmt}
use Rattle.pyd_tree.specs.declared.statement.Targets.{Targets}
use Rattle.pyd_tree.specs.declared.statement.What.{What, out-What, roll-What}
use Rattle.pyd_tree.specs.declared.statement.What.TheOpen.{What-F}
use Rattle.pyd_tree.specs.declared.statement.What.TheVariants as what
use Rattle.pyd_tree.specs.declared.statement.What.TheViews.{out-roll-What}
use Rattle.pyd_translate.specs.Compounds.{Choice, WhileLoop, ForLoop, Simple, compound_of, first_compound, first_line}

-- the first of some statements
pub first_is : (ss : List Stmt) (s : Stmt) → Some s ≡ slice_get ss 0
    → (first_compound ss ≡ compound_of (out-What s.what)) × (first_line ss ≡ s.line)
first_is [] s e = absurd (cc e)
first_is (x ∷ ss) s e =
    let same : x ≡ s = cc e in
    (ap (λ (y : Stmt). compound_of (out-What y.what)) same, ap (λ (y : Stmt). y.line) same)

-- no statement
pub first_none : (ss : List Stmt) → None ≡ slice_get ss 0 → first_compound ss ≡ Simple
first_none [] e = refl
first_none (s ∷ ss) e = absurd (cc e)

-- a statement by its level
level : (w : What) (y : What-F What Arm Block Stmt) → w ≡ roll-What y → compound_of (out-What w) ≡ compound_of y
level w y is = ap compound_of (ap out-What is ∙ out-roll-What y)

-- an `if`
pub if_is : (w : What) (arms : List Arm) (last : Option Block) → w ≡ what.If arms last
    → compound_of (out-What w) ≡ Choice arms last
if_is w arms last is = level w (What-F.If arms last) (is ∙ sym (what.rolls-If arms last))

-- a `while`
pub while_is : (w : What) (test : Expr) (body : Block) → w ≡ what.While test body
    → compound_of (out-What w) ≡ WhileLoop test body
while_is w test body is = level w (What-F.While test body) (is ∙ sym (what.rolls-While test body))

-- a `for`
pub for_is : (w : What) (targets : Targets) (e : Expr) (body : Block) → w ≡ what.For targets e body
    → compound_of (out-What w) ≡ ForLoop targets e body
for_is w targets e body is = level w (What-F.For targets e body) (is ∙ sym (what.rolls-For targets e body))

-- a statement that isn't compound
abbrev pub IsSimple : What → Type 0
IsSimple w =
    ((e : Expr) × (w ≡ what.Expr e)) ⊎ (((to : Targets) × (e : Expr) × (w ≡ what.Assign to e))
    ⊎ (((n : List ℕ) × (op : BinOp) × (e : Expr) × (w ≡ what.Aug n op e)) ⊎ (((e : Option Expr) × (w ≡ what.Return e))
    ⊎ ((w ≡ what.Break) ⊎ ((w ≡ what.Continue) ⊎ ((w ≡ what.Pass)
    ⊎ ((e : Expr) × (m : Option Expr) × (w ≡ what.Assert e m))))))))

pub simple_is : (w : What) → IsSimple w → compound_of (out-What w) ≡ Simple
simple_is w (inl (e, is)) = level w (What-F.Expr e) (is ∙ sym (what.rolls-Expr e))
simple_is w (inr (inl (to, e, is))) = level w (What-F.Assign to e) (is ∙ sym (what.rolls-Assign to e))
simple_is w (inr (inr (inl (n, op, e, is)))) = level w (What-F.Aug n op e) (is ∙ sym (what.rolls-Aug n op e))
simple_is w (inr (inr (inr (inl (e, is))))) = level w (What-F.Return e) (is ∙ sym (what.rolls-Return e))
simple_is w (inr (inr (inr (inr (inl is))))) = level w What-F.Break (is ∙ sym what.rolls-Break)
simple_is w (inr (inr (inr (inr (inr (inl is)))))) = level w What-F.Continue (is ∙ sym what.rolls-Continue)
simple_is w (inr (inr (inr (inr (inr (inr (inl is))))))) = level w What-F.Pass (is ∙ sym what.rolls-Pass)
simple_is w (inr (inr (inr (inr (inr (inr (inr (e, m, is)))))))) =
    level w (What-F.Assert e m) (is ∙ sym (what.rolls-Assert e m))
