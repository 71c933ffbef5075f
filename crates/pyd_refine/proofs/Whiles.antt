-- The piece of a While takes its place.
use Rattle.std.proofs.Common.{◌≡◌, ℕ, zero, suc, ◌+◌, ◌*◌, ◌-◌, List, ◌∷◌, length, Bool, true, false, refl, sym, ap, subst, ◌∙◌, arith}
use Rattle.pyd_value.specs.declared.value.Value.{Value}
use Rattle.pyd_value.specs.declared.value.Value.TheVariants as value
use Rattle.pyd_value.specs.Truth.{is_true}
use Rattle.pyd_tree.specs.declared.expression.Expr.{Expr}
use Rattle.pyd_tree.specs.declared.statement.Block.{Block}
use Rattle.pyd_tree.specs.declared.file.File.{File}
use Rattle.pyd_names.specs.Binding.{locals}
use Rattle.pyd_meaning.specs.declared.limits.Limits.{Limits}
use Rattle.pyd_meaning.specs.Evaluation.{Evaluation, ◌>>=◌}
use Rattle.pyd_meaning.specs.Names.{Names}
use Rattle.pyd_meaning.specs.Setting.{Setting, place_of}
use Rattle.pyd_meaning.specs.Expression.{meaning_of}
use Rattle.pyd_meaning.specs.Completion.{Action, Reached, left}
use Rattle.pyd_meaning.specs.Loops.{while_from, while_loop}
use Rattle.pyd_meaning.specs.Statement.{block_action}
use Rattle.pyd_meaning.specs.Module.{setting_at}
use Rattle.pyd_meaning.proofs.Loops.{while_turns}
use Rattle.pyd_ir.specs.declared.arg.Arg.{Arg}
use Rattle.pyd_ir.specs.declared.arg.Arg.TheVariants.{Known}
use Rattle.pyd_ir.specs.declared.work.Frame.{Frame}
use Rattle.pyd_ir.specs.declared.work.Frame.TheVariants.{Again}
use Rattle.pyd_ir.specs.Arguments.{rest_arguments}
use Rattle.pyd_ir.specs.Inputs.{Given, value_of}
use Rattle.pyd_translate.specs.declared.at.Start.TheVariants as start
use Rattle.pyd_translate.specs.Compounds.{WhileLoop, compound_at, line_at}
use Rattle.pyd_translate.specs.Walk.{again, then_rest, Finish}
use Rattle.pyd_translate.specs.Matching.{AreBelow, AreSlots, IsFinish, Matches}
use Rattle.pyd_translate.proofs.Sequencing.{matches-more}
use Rattle.pyd_refine.specs.Composites.{started, turn_refined, while_refined}
use Rattle.pyd_refine.proofs.Loops.{limit-does, over-does, step-does, turn-does}

module _ (file : File) (limits : Limits) (routine depth k line turns : ℕ)
    (line-is : line ≡ line_at file routine k) (rest : List Frame) (test : Expr) (body : Block)
    (is : compound_at file routine k ≡ WhileLoop test body)
    (ids : ℕ) (given : Given) (env : List Arg) (names : Names)
    (below : AreBelow ids (rest_arguments rest)) (are : AreSlots (locals file routine) ids given env names) where
  -- where the statements stand
  abbrev setting : Setting
  setting = setting_at file limits routine depth

  -- what a `while` has in the place of an iterable
  abbrev none : Arg
  none = Known value.None

  -- what the rest does
  abbrev on : Reached → Evaluation Finish
  on = then_rest file limits routine depth given rest

  -- what the loop does from the value of its test on, with so many turns left
  abbrev from : ℕ → Value → Evaluation Reached
  from left v = while_from left (place_of line) (meaning_of setting test) (block_action setting body) v names

  -- the next turn is the loop once more
  next-is : (left : ℕ) → limits.turns - turns ≡ suc left → (n : Names)
      → (meaning_of setting test (place_of line) n >>= (λ w. while_from left (place_of line) (meaning_of setting test) (block_action setting body) w n))
      ≡ again setting (compound_at file routine k) (line_at file routine k) (suc turns) (value_of given none) n
  next-is left e n =
      let fewer : left ≡ limits.turns - suc turns = omega (arith, e) in
      ap (λ m. while_loop m (place_of line) (meaning_of setting test) (block_action setting body) n) fewer
      ∙ ap (λ l. while_loop (limits.turns - suc turns) (place_of l) (meaning_of setting test) (block_action setting body) n) line-is
      ∙ ap (λ c. again setting c (line_at file routine k) (suc turns) (value_of given none) n) (sym is)

  -- by the truth of its test and the turns that are left
  pub while-does : (b : Bool) (left : ℕ) (v : Value) → is_true v ≡ b → limits.turns - turns ≡ left
      → Matches file limits (1 + 2 * length rest) ids given
      (while_refined file routine depth k rest b left line turns env ids)
      (from left v >>= on) (IsFinish (locals file routine))
  while-does false left v true_is e =
      subst (λ m. Matches file limits (1 + 2 * length rest) ids given
      (started file routine depth start.Rest rest env ids) (m >>= on) (IsFinish (locals file routine)))
      (sym (while_turns.over left (place_of line) (meaning_of setting test) (block_action setting body) v names true_is))
      (over-does file limits routine depth k line turns none rest ids given env names below are)
  while-does true zero v true_is e =
      subst (λ m. Matches file limits (1 + 2 * length rest) ids given
      (turn_refined file routine depth k rest zero line turns none env ids) (m >>= on) (IsFinish (locals file routine)))
      (sym (while_turns.limit (place_of line) (meaning_of setting test) (block_action setting body) v names true_is))
      (matches-more file limits 1 (1 + 2 * length rest) ids given (IsFinish (locals file routine)) _ _ (omega arith)
      (limit-does file limits routine depth k line turns none rest ids given env))
  while-does true (suc left) v true_is e =
      let next : Action = λ now. meaning_of setting test (place_of line) now >>= (λ w. while_from left (place_of line) (meaning_of setting test) (block_action setting body) w now) in
      let piece = started file routine depth (start.LoopBody k) (Again k (suc turns) none ∷ rest) env ids in
      subst (λ m. Matches file limits (1 + 2 * length rest) ids given piece (m >>= on) (IsFinish (locals file routine)))
      (sym (while_turns.turn left (place_of line) (meaning_of setting test) (block_action setting body) v names true_is))
      (step-does file limits routine depth k line turns none rest _ piece ids given
      (matches-more file limits (2 + 2 * length rest) (3 + 2 * length rest) ids given (IsFinish (locals file routine)) piece _ (omega arith)
      (turn-does file limits routine depth k line turns none rest body (WhileLoop test body) is (λ p. refl)
      next ids given env names (next-is left e) tt below are)))
