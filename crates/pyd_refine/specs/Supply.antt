-- Composites in lists whose nodes have what they need: they are ready, and refining keeps the list so.
use Rattle.std.specs.Prelude.{◌≡◌, ℕ, List, ◌∷◌, ◌++◌, Option, IsTrue}
use Rattle.pyd_value.specs.declared.value.Value.{Value}
use Rattle.pyd_tree.specs.declared.file.File.{File}
use Rattle.pyd_meaning.specs.declared.limits.Limits.{Limits}
use Rattle.pyd_ir.specs.declared.node.Node.{Node}
use Rattle.pyd_ir.specs.Arguments.{is_composite}
use Rattle.pyd_ir.specs.Inputs.{Given}
use Rattle.pyd_translate.specs.Naming.{Numbers}
use Rattle.pyd_translate.specs.Walk.{walk}
use Rattle.pyd_translate.specs.Supplied.{AreSupplied}
use Rattle.pyd_refine.specs.Composites.{refined_piece}
use Rattle.pyd_refine.specs.Redirecting.{replaced_by}
use Rattle.pyd_refine.specs.Ordering.{IsOrdered, LieBelow}
use Rattle.pyd_refine.specs.Readiness.{Yields, control_value, IsReady}

-- in a list that is supplied, a composite whose control has this value wherever the walk leads to it is ready there
abbrev pub ReadyLaw : Type 0
ReadyLaw = (file : File) (limits : Limits) (ids : ℕ) (given : Given)
    (before : List Node) (node : Node) (after : List Node) (chosen : Option Value)
    → AreSupplied file limits ids (before ++ node ∷ after) given → IsTrue (is_composite node.work)
    → Yields (walk file limits before given) (λ reached. control_value reached node.work ≡ chosen)
    → Yields (walk file limits before given) (λ reached. IsReady file ids reached node chosen)

-- in a list in order that is supplied, the piece of a composite that is ready wherever the walk leads to it leaves the list supplied
abbrev pub SupplyLaw : Type 0
SupplyLaw = (file : File) (limits : Limits) (known : Numbers) (ids : ℕ) (given : Given)
    (before : List Node) (node : Node) (after : List Node) (chosen : Option Value)
    → LieBelow known ids → IsOrdered known ids (before ++ node ∷ after)
    → AreSupplied file limits ids (before ++ node ∷ after) given
    → Yields (walk file limits before given) (λ reached. IsReady file ids reached node chosen)
    → AreSupplied file limits (refined_piece file limits node chosen ids).next
    (before ++ replaced_by node.id (refined_piece file limits node chosen ids) after) given
