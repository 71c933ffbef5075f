-- The piece of a Pick and of an Enter takes its place.
use Rattle.std.proofs.Common.{◌≡◌, ℕ, List, Bool, true, false, if◌then◌else◌, refl, sym, subst, arith}
use Rattle.pyd_tree.specs.declared.file.File.{File}
use Rattle.pyd_names.specs.Binding.{locals}
use Rattle.pyd_meaning.specs.declared.limits.Limits.{Limits}
use Rattle.pyd_meaning.specs.Evaluation.{Evaluation, gives, faults, ◌>>=◌}
use Rattle.pyd_meaning.specs.Setting.{place_of}
use Rattle.pyd_meaning.specs.Expression.{branch}
use Rattle.pyd_ir.specs.declared.arg.Arg.{Arg}
use Rattle.pyd_ir.specs.declared.work.Side.{Side}
use Rattle.pyd_ir.specs.Arguments.{side_arguments}
use Rattle.pyd_ir.specs.Inputs.{Given}
use Rattle.pyd_ir.specs.Ports.{only_port}
use Rattle.pyd_translate.specs.Making.{Context, stop}
use Rattle.pyd_translate.specs.Sides.{side_unfolds}
use Rattle.pyd_translate.specs.Statements.{context}
use Rattle.pyd_translate.specs.Walk.{names_of, side_meaning, count_composite}
use Rattle.pyd_translate.specs.Matching.{AreSlots, HasValue, HaveValues, Matches}
use Rattle.pyd_translate.proofs.Sequencing.{matches-stop}
use Rattle.pyd_translate.proofs.SidesMatch.{sides_match}
use Rattle.pyd_refine.specs.Composites.{side_refined}
use Rattle.pyd_refine.specs.Readiness.{HasSlots}
use Rattle.pyd_refine.proofs.Ports.{AreImages}
use Rattle.pyd_refine.proofs.Pieces.{Replaces, takes-place, only-value}

-- slots that are given have the names that their arguments have
pub filled-slots : (slots : List (List ℕ)) (ids : ℕ) (given : Given) (env : List Arg)
    → HasSlots slots ids given env → AreSlots slots ids given env (names_of slots env given)
filled-slots slots ids given env s = record { count = s.count; all_given = s.all_given; bound = refl }

module _ (file : File) (limits : Limits) where
  module _ (routine depth line ids : ℕ) (given : Given) (first second : Side) (env : List Arg) where
    -- the side that is chosen
    chosen : (b : Bool) → HaveValues ids given (side_arguments first) → HaveValues ids given (side_arguments second)
        → HasSlots (locals file routine) ids given env
        → Matches file limits 1 ids given
        (side_unfolds file (if b then first else second) (context routine depth line env) ids)
        (branch b (side_meaning file limits routine depth given first (place_of line))
        (side_meaning file limits routine depth given second (place_of line)) (names_of (locals file routine) env given))
        HasValue
    chosen true p q s =
        sides_match file limits routine depth line first ids given env (names_of (locals file routine) env given)
        p (filled-slots (locals file routine) ids given env s)
    chosen false p q s =
        sides_match file limits routine depth line second ids given env (names_of (locals file routine) env given)
        q (filled-slots (locals file routine) ids given env s)

    -- a Pick, by the truth of its test
    pub pick-takes : (b : Bool) → HaveValues ids given (side_arguments first) → HaveValues ids given (side_arguments second)
        → HasSlots (locals file routine) ids given env
        → Replaces file limits ids given
        (side_refined file b first second (context routine depth line env) ids)
        (count_composite 0 (branch b (side_meaning file limits routine depth given first (place_of line))
        (side_meaning file limits routine depth given second (place_of line)) (names_of (locals file routine) env given)
        >>= (λ u. gives (only_port u))))
    pick-takes b p q s =
        takes-place file limits 1 ids given 0 _ _ (omega arith)
        (only-value file limits 1 ids given
        (side_unfolds file (if b then first else second) (context routine depth line env)) _ (chosen b p q s))

  -- a Stop in the place of a composite that faults at once
  pub stop-takes : (ids frames : ℕ) (given : Given) (at : Context) (fault : _) (m : Evaluation _)
      → m ≡ faults fault
      → Replaces file limits ids given (stop at fault ids) (count_composite frames m)
  stop-takes ids frames given at fault m is =
      takes-place file limits 1 ids given frames (stop at fault ids) m (omega arith)
      (subst (λ e. Matches file limits 1 ids given (stop at fault ids) e AreImages) (sym is)
      (matches-stop file limits ids given AreImages at fault))
