-- A link of a comparison, and the choice behind it.
use Rattle.std.proofs.Common.{◌≡◌, ℕ, List, [], ◌∷◌, sym, subst, ◌∙◌, Some}
use Rattle.std.specs.Prelude.{Result, IfOk}
use Rattle.pyd_value.specs.declared.memory.NoMemory.{NoMemory}
use Rattle.pyd_value.specs.declared.operator.CmpOp.{CmpOp}
use Rattle.pyd_ir.specs.declared.arg.Arg.{Arg}
use Rattle.pyd_ir.specs.declared.arg.Arg.TheVariants.{From}
use Rattle.pyd_ir.specs.declared.code.OpCode.TheVariants as code
use Rattle.pyd_ir.specs.declared.node.Node.{Node}
use Rattle.pyd_ir.specs.declared.work.Side.TheVariants as side
use Rattle.pyd_ir.specs.declared.work.Work.TheVariants.{Op}
use Rattle.pyd_translate.specs.Making.{Context, port}
use Rattle.pyd_translate.specs.Expressions.{operator, choose}
use Rattle.pyd_translate.specs.Drafts.{onto, link_emitted, link_chosen}
use Rattle.pyd_translate.proofs.Onto.{onto_value, onto_then}

pub link_chosen_made : (r : Result Arg NoMemory) (before mid nodes : List Node) (op : CmpOp) (a b v w : Arg) (at : Context)
    (whole m ids id next last : ℕ)
    → onto before (link_emitted op a b at ids) ≡ (mid, Some id, next)
    → v ≡ From (port id 0) → w ≡ From (port id 0)
    → IfOk r (λ got. onto mid (choose at v (side.Tail whole m b) (side.Arg w) next) ≡ (nodes, Some got, last))
    → IfOk r (λ got. onto before (link_chosen op a b whole m at ids) ≡ (nodes, Some got, last))
link_chosen_made r before mid nodes op a b v w at whole m ids id next last e p q h =
    subst (λ x. IfOk r (λ got. x ≡ (nodes, Some got, last)))
    (sym (onto_then before mid (operator (code.Compare op) (a ∷ b ∷ []) at)
    (λ x. choose at x (side.Tail whole m b) (side.Arg x)) ids next (From (port id 0))
    (onto_value before mid at (Op (code.Compare op) (a ∷ b ∷ [])) ids id next e)
    ∙ (λ i. onto mid (choose at (sym p i) (side.Tail whole m b) (side.Arg (sym q i)) next)))) h
