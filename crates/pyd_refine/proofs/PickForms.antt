-- A choice that is refined, by the parts that code has.
use Rattle.std.proofs.Common.{◌≡◌, Bool, if◌then◌else◌, [], sym, subst, ◌∙◌, Option}
use Rattle.pyd_tree.specs.declared.file.File.{File}
use Rattle.pyd_ir.specs.declared.arg.Arg.{Arg}
use Rattle.pyd_ir.specs.declared.work.Side.{Side}
use Rattle.pyd_translate.specs.declared.draft.Draft.{Draft}
use Rattle.pyd_translate.specs.Drafts.{onto, Makes}
use Rattle.pyd_translate.specs.Making.{Context}
use Rattle.pyd_translate.specs.Sides.{side_unfolds}
use Rattle.pyd_translate.specs.Starts.{value_or_unbound}
use Rattle.pyd_refine.specs.Composites.{side_refined}
use Rattle.pyd_refine.specs.Drafts.{Ends}
use Rattle.pyd_refine.proofs.Ended.{value_ends}

-- the nodes of the side that was chosen, and its value
pub pick_ends : (before after : Draft) (file read : File) (truth : Bool) (first second side : Side) (at there : Context)
    (got : Option Arg) (v : Arg) → read ≡ file → side ≡ (if truth then first else second) → there ≡ at
    → v ≡ value_or_unbound got → Makes before (side_unfolds read side there) after got
    → Ends before (side_refined file truth first second at) [] after [] v
pick_ends before after file read truth first second side at there got v f s c is h =
    subst (λ x. Ends before (side_refined file truth first second at) [] after [] x) (sym is)
    (value_ends before after (side_unfolds file (if truth then first else second) at) got
    (sym (λ i. onto before.nodes (side_unfolds (f i) (s i) (c i) before.next)) ∙ h))
