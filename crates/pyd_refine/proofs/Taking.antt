-- The piece of each composite that is ready takes its place.
use Rattle.std.proofs.Common.{◌≡◌, ℕ, ◌+◌, ◌*◌, ◌-◌, List, length, Option, Some, None, refl, sym, subst, arith}
use Rattle.pyd_value.specs.declared.value.Value.{Value}
use Rattle.pyd_value.specs.Truth.{is_true}
use Rattle.pyd_tree.specs.declared.file.File.{File}
use Rattle.pyd_names.specs.Binding.{locals}
use Rattle.pyd_meaning.specs.declared.limits.Limits.{Limits}
use Rattle.pyd_meaning.specs.Evaluation.{gives, ◌>>=◌}
use Rattle.pyd_meaning.specs.Names.{Names}
use Rattle.pyd_meaning.specs.Setting.{place_of}
use Rattle.pyd_meaning.specs.Expression.{branch}
use Rattle.pyd_meaning.specs.Loops.{items_over}
use Rattle.pyd_meaning.specs.Statement.{calls_range}
use Rattle.pyd_meaning.specs.Module.{setting_at}
use Rattle.pyd_ir.specs.declared.arg.Arg.{Arg}
use Rattle.pyd_ir.specs.declared.node.Node.{Node}
use Rattle.pyd_ir.specs.declared.work.Frame.{Frame}
use Rattle.pyd_ir.specs.declared.work.Work.{Work}
use Rattle.pyd_ir.specs.declared.work.Work.TheVariants.{Op, Read, Call, Stop, Print, Run, Cond, While, For, Pick, Enter}
use Rattle.pyd_ir.specs.Arguments.{rest_arguments}
use Rattle.pyd_ir.specs.Inputs.{Given, value_of}
use Rattle.pyd_ir.specs.Ports.{only_port}
use Rattle.pyd_translate.specs.Compounds.{Compound, Choice, WhileLoop, ForLoop, Simple, compound_at, line_at}
use Rattle.pyd_translate.specs.Walk.{names_of, from_turn, from_arm, then_rest, side_meaning, count_composite, if_there, ported_meaning, work_ports}
use Rattle.pyd_translate.specs.Matching.{IsBelow, AreBelow, AreSlots, IsFinish, Matches}
use Rattle.pyd_refine.specs.Composites.{loop_refined, work_refined, refined}
use Rattle.pyd_refine.specs.Readiness.{IsLoopNode, IsReadyFor, IsReady, control_value}
use Rattle.pyd_refine.proofs.Pieces.{Replaces, takes-slots}
use Rattle.pyd_refine.proofs.Sides.{filled-slots, pick-takes}
use Rattle.pyd_refine.proofs.Entering.{enter-takes}
use Rattle.pyd_refine.proofs.Conds.{cond-takes}
use Rattle.pyd_refine.proofs.Loops.{over-does}
use Rattle.pyd_refine.proofs.Whiles.{while-does}
use Rattle.pyd_refine.proofs.Fors.{items-do}

module _ (file : File) (limits : Limits) where
  -- a loop's node, whichever statement its number names
  loop-does : (routine depth k line turns : ℕ) (over : Arg) (c : Compound) → compound_at file routine k ≡ c
      → line ≡ line_at file routine k → (rest : List Frame) (ids : ℕ) (given : Given) (env : List Arg) (names : Names) (v : Value)
      → value_of given over ≡ Some v → IsBelow ids over → AreBelow ids (rest_arguments rest)
      → AreSlots (locals file routine) ids given env names
      → Matches file limits (1 + 2 * length rest) ids given
      (loop_refined file limits routine depth k rest c line turns over v env ids)
      (from_turn (setting_at file limits routine depth) c line turns v names >>= then_rest file limits routine depth given rest)
      (IsFinish (locals file routine))
  loop-does routine depth k line turns over (WhileLoop test body) is line-is rest ids given env names v has low below are =
      while-does file limits routine depth k line turns line-is rest test body is ids given env names below are
      (is_true v) (limits.turns - turns) v refl refl
  loop-does routine depth k line turns over (ForLoop targets e body) is line-is rest ids given env names v has low below are =
      items-do file limits routine depth k line turns over line-is rest targets e body is ids given env names v has low below are
      (items_over (calls_range (setting_at file limits routine depth) e) v) refl
  loop-does routine depth k line turns over (Choice choices last) is line-is rest ids given env names v has low below are =
      over-does file limits routine depth k line turns over rest ids given env names below are
  loop-does routine depth k line turns over Simple is line-is rest ids given env names v has low below are =
      over-does file limits routine depth k line turns over rest ids given env names below are

  -- a While or a For
  loop-takes : (node : Node) (ids : ℕ) (given : Given) (a : Arg) (k turns : ℕ) (rest : List Frame) (env : List Arg)
      → IsLoopNode file ids given node a k rest env → (v : Value) → value_of given a ≡ Some v
      → Replaces file limits ids given
      (loop_refined file limits node.routine node.depth k rest (compound_at file node.routine k) (line_at file node.routine k) turns a v env ids)
      (if_there (value_of given a) node.line (λ w. ported_meaning file limits node.routine node.depth
      (from_turn (setting_at file limits node.routine node.depth) (compound_at file node.routine k) (line_at file node.routine k) turns w
      (names_of (locals file node.routine) env given)) given rest))
  loop-takes node ids given a k turns rest env ready v has =
      let on = ready.goes_on in
      subst (λ o. Replaces file limits ids given
      (loop_refined file limits node.routine node.depth k rest (compound_at file node.routine k) (line_at file node.routine k) turns a v env ids)
      (if_there o node.line (λ w. ported_meaning file limits node.routine node.depth
      (from_turn (setting_at file limits node.routine node.depth) (compound_at file node.routine k) (line_at file node.routine k) turns w
      (names_of (locals file node.routine) env given)) given rest))) (sym has)
      (takes-slots file limits (1 + 2 * length rest) ids given node.routine (length rest) _ _ (omega arith)
      (loop-does node.routine node.depth k (line_at file node.routine k) turns a (compound_at file node.routine k) refl refl rest ids given env
      (names_of (locals file node.routine) env given) v has ready.over.0 on.below
      (filled-slots (locals file node.routine) ids given env on.filled)))

  -- each composite, where the value of its control is there
  work-takes : (w : Work) (node : Node) (chosen : Option Value) (ids : ℕ) (given : Given)
      → IsReadyFor file ids given chosen w node → control_value given w ≡ chosen
      → Replaces file limits ids given (work_refined file limits w node chosen ids) (work_ports file limits w node given)
  work-takes (Op op args) node chosen ids given ready e = absurd ready
  work-takes (Read arg kind) node chosen ids given ready e = absurd ready
  work-takes (Call func args) node chosen ids given ready e = absurd ready
  work-takes (Stop fault) node chosen ids given ready e = absurd ready
  work-takes (Print args) node chosen ids given ready e = absurd ready
  work-takes (Run func args) node chosen ids given ready e = absurd ready
  work-takes (Cond test k arm rest env) node None ids given ready e = absurd ready.0
  work-takes (Cond test k arm rest env) node (Some v) ids given ready e =
      let on = ready.1 in
      subst (λ o. Replaces file limits ids given (work_refined file limits (Cond test k arm rest env) node (Some v) ids)
      (if_there o node.line (λ w. ported_meaning file limits node.routine node.depth
      (from_arm (setting_at file limits node.routine node.depth) (compound_at file node.routine k) arm w
      (names_of (locals file node.routine) env given)) given rest))) (sym e)
      (takes-slots file limits (1 + 2 * length rest) ids given node.routine (length rest) _ _ (omega arith)
      (cond-takes file limits node.routine node.depth k arm (compound_at file node.routine k) refl rest ids given env
      (names_of (locals file node.routine) env given) on.below
      (filled-slots (locals file node.routine) ids given env on.filled) v))
  work-takes (While test k turns rest env) node None ids given ready e = absurd ready.0
  work-takes (While test k turns rest env) node (Some v) ids given ready e =
      loop-takes node ids given test k turns rest env ready.1 v e
  work-takes (For over k turns rest env) node None ids given ready e = absurd ready.0
  work-takes (For over k turns rest env) node (Some v) ids given ready e =
      loop-takes node ids given over k turns rest env ready.1 v e
  work-takes (Pick test first second env) node None ids given ready e = absurd ready.0
  work-takes (Pick test first second env) node (Some v) ids given ready e =
      subst (λ o. Replaces file limits ids given (work_refined file limits (Pick test first second env) node (Some v) ids)
      (if_there o node.line (λ w. count_composite 0 (branch (is_true w)
      (side_meaning file limits node.routine node.depth given first (place_of node.line))
      (side_meaning file limits node.routine node.depth given second (place_of node.line))
      (names_of (locals file node.routine) env given) >>= (λ u. gives (only_port u)))))) (sym e)
      (pick-takes file limits node.routine node.depth node.line ids given first second env (is_true v)
      ready.2 ready.3 ready.1)
  work-takes (Enter func args) node chosen ids given ready e =
      enter-takes file limits func args node.routine node.depth node.line ids given ready

  -- each composite that is ready
  pub piece-takes : (node : Node) (chosen : Option Value) (ids : ℕ) (given : Given) → IsReady file ids given node chosen
      → Replaces file limits ids given (refined file limits node chosen ids) (work_ports file limits node.work node given)
  piece-takes node chosen ids given ready = work-takes node.work node chosen ids given ready.fields ready.value
