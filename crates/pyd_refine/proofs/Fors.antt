-- The piece of a For takes its place.
use Rattle.std.proofs.Common.{◌≡◌, ℕ, zero, suc, ◌+◌, ◌*◌, ◌-◌, ◌≤◌, List, ◌∷◌, length, Option, Some, None, refl, sym, ap, subst, ◌∙◌, arith}
use Rattle.pyd_value.specs.declared.value.Value.{Value}
use Rattle.pyd_value.specs.declared.fault.Fault.TheVariants.{Raised}
use Rattle.pyd_value.specs.declared.fault.Kind.TheVariants.{TypeError}
use Rattle.pyd_tree.specs.declared.expression.Expr.{Expr}
use Rattle.pyd_tree.specs.declared.statement.Block.{Block}
use Rattle.pyd_tree.specs.declared.statement.Targets.{Targets}
use Rattle.pyd_tree.specs.declared.file.File.{File}
use Rattle.pyd_names.specs.Binding.{locals}
use Rattle.pyd_meaning.specs.declared.limits.Limits.{Limits}
use Rattle.pyd_meaning.specs.Evaluation.{Evaluation, ◌>>=◌}
use Rattle.pyd_meaning.specs.Names.{Names}
use Rattle.pyd_meaning.specs.Setting.{Setting, place_of}
use Rattle.pyd_meaning.specs.Assignment.{assign}
use Rattle.pyd_meaning.specs.Completion.{Action, Reached}
use Rattle.pyd_meaning.specs.Loops.{Items, turned, for_from, for_items, items_over}
use Rattle.pyd_meaning.specs.Statement.{block_action, calls_range}
use Rattle.pyd_meaning.specs.Module.{setting_at}
use Rattle.pyd_meaning.proofs.Loops.{for_turns}
use Rattle.pyd_meaning.proofs.Sequencing.{faults-then, then-then}
use Rattle.pyd_ir.specs.declared.arg.Arg.{Arg}
use Rattle.pyd_ir.specs.declared.arg.Arg.TheVariants.{Known}
use Rattle.pyd_ir.specs.declared.work.Frame.{Frame}
use Rattle.pyd_ir.specs.declared.work.Frame.TheVariants.{Again}
use Rattle.pyd_ir.specs.Arguments.{rest_arguments}
use Rattle.pyd_ir.specs.Inputs.{Given, value_of}
use Rattle.pyd_translate.specs.declared.at.Start.TheVariants as start
use Rattle.pyd_translate.specs.Compounds.{ForLoop, compound_at, line_at}
use Rattle.pyd_translate.specs.Making.{stop}
use Rattle.pyd_translate.specs.Statements.{context, then_done, bind_targets}
use Rattle.pyd_translate.specs.Walk.{again, then_rest, Finish}
use Rattle.pyd_translate.specs.Matching.{IsBelow, AreBelow, AreSlots, IsFinish, Matches}
use Rattle.pyd_translate.proofs.Sequencing.{matches-then_done, matches-more, matches-stop}
use Rattle.pyd_translate.proofs.Ordering.{below_up, are_below_up}
use Rattle.pyd_translate.proofs.Keeping.{value-kept}
use Rattle.pyd_translate.proofs.Resting.{rested_kept}
use Rattle.pyd_refine.specs.Composites.{started, turn_refined, item_turn, item_refined, items_refined}
use Rattle.pyd_refine.proofs.Translated.{loop-targets, targets-bound}
use Rattle.pyd_refine.proofs.Loops.{limit-does, over-does, step-does, turn-does}

module _ (file : File) (limits : Limits) (routine depth k line turns : ℕ) (over : Arg)
    (line-is : line ≡ line_at file routine k) (rest : List Frame) (targets : Targets) (e : Expr) (body : Block)
    (is : compound_at file routine k ≡ ForLoop targets e body)
    (ids : ℕ) (given : Given) (env : List Arg) (names : Names) (v : Value) (value-is : value_of given over ≡ Some v)
    (low : IsBelow ids over)
    (below : AreBelow ids (rest_arguments rest)) (are : AreSlots (locals file routine) ids given env names) where
  -- where the statements stand
  abbrev setting : Setting
  setting = setting_at file limits routine depth

  -- what the rest does
  abbrev on : Reached → Evaluation Finish
  on = then_rest file limits routine depth given rest

  -- the items
  abbrev over_items : Option Items
  over_items = items_over (calls_range setting e) v

  -- what the loop does from a turn on, with so many turns remaining
  abbrev from : ℕ → Items → ℕ → Action
  from remaining items turn = for_from remaining (place_of line) targets (block_action setting body) items turn

  -- the next turn is the loop once more, also behind later nodes
  next-is : (remaining : ℕ) (items : Items) (mid : Given) → over_items ≡ Some items → limits.turns - turns ≡ suc remaining
      → value_of mid over ≡ Some v → (n : Names)
      → from remaining items (suc turns) n
      ≡ again setting (compound_at file routine k) (line_at file routine k) (suc turns) (value_of mid over) n
  next-is remaining items mid found q has n =
      let fewer : remaining ≡ limits.turns - suc turns = omega (arith, q) in
      ap (λ m. for_from m (place_of line) targets (block_action setting body) items (suc turns) n) fewer
      ∙ ap (λ o. for_items (limits.turns - suc turns) (place_of line) targets (block_action setting body) o (suc turns) n) (sym found)
      ∙ ap (λ l. for_items (limits.turns - suc turns) (place_of l) targets (block_action setting body) over_items (suc turns) n) line-is
      ∙ ap (λ o. again setting (ForLoop targets e body) (line_at file routine k) (suc turns) o n) (sym has)
      ∙ ap (λ c. again setting c (line_at file routine k) (suc turns) (value_of mid over) n) (sym is)

  -- the targets are bound, and then a turn
  bound-does : (remaining : ℕ) (items : Items) (w : Value) → over_items ≡ Some items → limits.turns - turns ≡ suc remaining
      → Matches file limits (3 + 2 * length rest) ids given
      (item_turn file routine depth k rest (suc remaining) targets w line turns over env ids)
      (assign targets w (place_of line) names
      >>= (λ n. turned (block_action setting body) (from remaining items (suc turns)) n) >>= on) (IsFinish (locals file routine))
  bound-does remaining items w found q =
      let slots = locals file routine in
      let next = from remaining items (suc turns) in
      let at = context routine depth line env in
      let bind = bind_targets slots targets.tuple targets.names at (Known w) in
      let piece = then_done env bind (turn_refined file routine depth k rest (suc remaining) line turns over) in
      let turn : Names → Evaluation Finish = λ n. turned (block_action setting body) next n >>= on in
      let count : 1 + (2 + 2 * length rest) ≤ 3 + 2 * length rest = omega arith in
      subst (λ m. Matches file limits (3 + 2 * length rest) ids given (piece ids) m (IsFinish slots))
      (sym (then-then (assign targets w (place_of line) names) (λ n. turned (block_action setting body) next n) on))
      (matches-more file limits (1 + (2 + 2 * length rest)) (3 + 2 * length rest) ids given (IsFinish slots) (piece ids) _ count
      (matches-then_done file limits 1 (2 + 2 * length rest) ids given (AreSlots slots) (IsFinish slots) env bind
      (turn_refined file routine depth k rest (suc remaining) line turns over)
      (assign targets w (place_of line) names) turn
      (targets-bound file limits routine depth line targets (Known w) w ids given env names
      (loop-targets file routine k targets e body is) (refl, tt) are)
      (λ later mid bound n reached.
      subst (λ m. Matches file limits (2 + 2 * length rest) later mid
      (started file routine depth (start.LoopBody k) (Again k (suc turns) over ∷ rest) bound later) m (IsFinish slots))
      (λ i. turned (block_action setting body) next n
      >>= (λ r. rested_kept file limits routine depth ids given mid rest r.completion r.names below reached.kept i))
      (turn-does file limits routine depth k line turns over rest body (ForLoop targets e body) is (λ p. refl)
      next later mid bound n
      (next-is remaining items mid found q (value-kept ids given mid over low reached.kept ∙ value-is))
      (below_up ids later over reached.grown low)
      (are_below_up ids later (rest_arguments rest) reached.grown below)
      reached.related))))

  -- with an item or without
  item-does : (remaining : ℕ) (items : Items) (o : Option Value) → over_items ≡ Some items → items turns ≡ o
      → limits.turns - turns ≡ remaining
      → Matches file limits (1 + 2 * length rest) ids given
      (item_refined file routine depth k rest remaining targets o line turns over env ids)
      (from remaining items turns names >>= on) (IsFinish (locals file routine))
  item-does remaining items None found none q =
      subst (λ m. Matches file limits (1 + 2 * length rest) ids given
      (started file routine depth start.Rest rest env ids) (m >>= on) (IsFinish (locals file routine)))
      (sym (for_turns.over remaining (place_of line) targets (block_action setting body) items turns names none))
      (over-does file limits routine depth k line turns over rest ids given env names below are)
  item-does zero items (Some w) found some q =
      subst (λ m. Matches file limits (1 + 2 * length rest) ids given
      (turn_refined file routine depth k rest zero line turns over env ids) (m >>= on) (IsFinish (locals file routine)))
      (sym (for_turns.limit (place_of line) targets (block_action setting body) items turns w names some))
      (matches-more file limits 1 (1 + 2 * length rest) ids given (IsFinish (locals file routine)) _ _ (omega arith)
      (limit-does file limits routine depth k line turns over rest ids given env))
  item-does (suc remaining) items (Some w) found some q =
      let piece = item_turn file routine depth k rest (suc remaining) targets w line turns over env ids in
      subst (λ m. Matches file limits (1 + 2 * length rest) ids given piece (m >>= on) (IsFinish (locals file routine)))
      (sym (for_turns.turn remaining (place_of line) targets (block_action setting body) items turns w names some))
      (step-does file limits routine depth k line turns over rest _ piece ids given (bound-does remaining items w found q))

  -- over these items, or over none
  pub items-do : (o : Option Items) → over_items ≡ o
      → Matches file limits (1 + 2 * length rest) ids given
      (items_refined file routine depth k rest (limits.turns - turns) targets o line turns over env ids)
      (for_items (limits.turns - turns) (place_of line) targets (block_action setting body) o turns names >>= on)
      (IsFinish (locals file routine))
  items-do None found =
      let fault = Raised TypeError line in
      let at = context routine depth line env in
      subst (λ m. Matches file limits (1 + 2 * length rest) ids given (stop at fault ids) m (IsFinish (locals file routine)))
      (sym (faults-then fault on))
      (matches-more file limits 1 (1 + 2 * length rest) ids given (IsFinish (locals file routine)) _ _ (omega arith)
      (matches-stop file limits ids given (IsFinish (locals file routine)) at fault))
  items-do (Some items) found = item-does (limits.turns - turns) items (items turns) found refl refl
