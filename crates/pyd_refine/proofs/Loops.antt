-- A turn of a loop that is refined: the body and the loop's frame, the rest, or a Stop.
use Rattle.std.proofs.Common.{◌≡◌, ℕ, zero, suc, ◌+◌, ◌*◌, ◌≤◌, List, ◌∷◌, length, sym, ap, subst, ◌∙◌, arith}
use Rattle.pyd_value.specs.declared.fault.Fault.TheVariants.{Limit}
use Rattle.pyd_value.specs.declared.fault.Limit.TheVariants.{Turn}
use Rattle.pyd_tree.specs.declared.statement.Block.{Block, out-Block}
use Rattle.pyd_tree.specs.declared.file.File.{File}
use Rattle.pyd_names.specs.Binding.{locals}
use Rattle.pyd_meaning.specs.declared.limits.Limits.{Limits}
use Rattle.pyd_meaning.specs.Evaluation.{Evaluation, gives, faults, step, ◌>>=◌}
use Rattle.pyd_meaning.specs.Names.{Names}
use Rattle.pyd_meaning.specs.Setting.{Setting, place_of, exceeds}
use Rattle.pyd_meaning.specs.Completion.{Completion, Normal, Break, Continue, Return, Action, Reached, left, normally, after_turn}
use Rattle.pyd_meaning.specs.Loops.{turned}
use Rattle.pyd_meaning.specs.Statement.{block_action}
use Rattle.pyd_meaning.specs.Module.{setting_at}
use Rattle.pyd_meaning.proofs.Sequencing.{gives-then, faults-then, then-then, step-then}
use Rattle.pyd_meaning.proofs.Statements.{suite as suite-level}
use Rattle.pyd_ir.specs.declared.arg.Arg.{Arg}
use Rattle.pyd_ir.specs.declared.work.Frame.{Frame}
use Rattle.pyd_ir.specs.declared.work.Frame.TheVariants.{Again}
use Rattle.pyd_ir.specs.Arguments.{rest_arguments}
use Rattle.pyd_ir.specs.Inputs.{Given, value_of}
use Rattle.pyd_scope.specs.Numbering.{Point}
use Rattle.pyd_scope.specs.Passages.{passage_at}
use Rattle.pyd_translate.specs.declared.at.Start.TheVariants as start
use Rattle.pyd_translate.specs.Compounds.{Compound, compound_at, line_at}
use Rattle.pyd_translate.specs.Making.{Piece, stop}
use Rattle.pyd_translate.specs.Starts.{suite_of_loop}
use Rattle.pyd_translate.specs.Statements.{Done, context}
use Rattle.pyd_translate.specs.Walk.{acts, again, rested, then_rest, Finish}
use Rattle.pyd_translate.specs.Matching.{IsBelow, AreBelow, AreSlots, IsFinish, Matches}
use Rattle.pyd_translate.proofs.Sequencing.{matches-step, matches-more, matches-stop}
use Rattle.pyd_translate.proofs.Resting.{rested_return}
use Rattle.pyd_refine.specs.Composites.{started, turn_refined}
use Rattle.pyd_refine.proofs.Starting.{started-does, rest-does}

module _ (file : File) (limits : Limits) (routine depth k line turns : ℕ) (over : Arg)
    (rest : List Frame) where
  -- where the statements stand
  abbrev setting : Setting
  setting = setting_at file limits routine depth

  -- the slots
  abbrev slots : List (List ℕ)
  slots = locals file routine

  -- the rest behind a turn
  abbrev frames : List Frame
  frames = Again k (suc turns) over ∷ rest

  -- the loop once more
  abbrev next_turn : Given → Action
  next_turn given = again setting (compound_at file routine k) (line_at file routine k) (suc turns) (value_of given over)

  -- what the rest does
  abbrev on : Given → Reached → Evaluation Finish
  on given = then_rest file limits routine depth given rest

  -- what follows a turn that was left so
  left-by : (given : Given) (next : Action) → ((n : Names) → next n ≡ next_turn given n) → (c : Completion) (names : Names)
      → (after_turn c names next >>= on given) ≡ rested file limits routine depth given frames c names
  unfolding rested
  left-by given next is Normal names = ap (λ e. e >>= on given) (is names)
  left-by given next is Continue names = ap (λ e. e >>= on given) (is names)
  left-by given next is Break names = gives-then (normally names) (on given)
  left-by given next is (Return v) names =
      gives-then (left (Return v) names) (on given) ∙ rested_return file limits routine depth given rest v names

  -- a turn, and then the loop once more, goes on with the loop's frame
  pub turn-goes : (given : Given) (body next : Action) (now : Names) → ((n : Names) → next n ≡ next_turn given n)
      → (turned body next now >>= on given) ≡ (body now >>= then_rest file limits routine depth given frames)
  turn-goes given body next now is =
      then-then (body now) (λ r. after_turn r.completion r.names next) (on given)
      ∙ (λ i. body now >>= (λ r. left-by given next is r.completion r.names i))

  -- a limit on turns is passed
  pub limit-does : (ids : ℕ) (given : Given) (env : List Arg)
      → Matches file limits 1 ids given (turn_refined file routine depth k rest zero line turns over env ids)
      (step (exceeds Turn (place_of line)) >>= on given) (IsFinish slots)
  limit-does ids given env =
      let fault = Limit Turn line in
      let at = context routine depth line env in
      subst (λ m. Matches file limits 1 ids given (stop at fault ids) m (IsFinish slots))
      (sym (step-then (faults fault) (on given) ∙ ap step (faults-then fault (on given))))
      (matches-step file limits 1 ids given (IsFinish slots) (stop at fault ids) (faults fault)
      (matches-more file limits 1 5 ids given (IsFinish slots) (stop at fault ids) (faults fault) (omega arith)
      (matches-stop file limits ids given (IsFinish slots) at fault)))

  -- the loop is over, and the rest goes on
  pub over-does : (ids : ℕ) (given : Given) (env : List Arg) (names : Names)
      → AreBelow ids (rest_arguments rest) → AreSlots slots ids given env names
      → Matches file limits (1 + 2 * length rest) ids given (started file routine depth start.Rest rest env ids)
      (gives (normally names) >>= on given) (IsFinish slots)
  over-does ids given env names below are =
      matches-more file limits (2 * length rest) (1 + 2 * length rest) ids given (IsFinish slots) _ _ (omega arith)
      (rest-does file limits routine depth rest ids given env names below are)

  -- the same as the step of a turn
  pub step-does : (m : Evaluation Reached) (p : Piece Done) (ids : ℕ) (given : Given)
      → Matches file limits (3 + 2 * length rest) ids given p (m >>= on given) (IsFinish slots)
      → Matches file limits (1 + 2 * length rest) ids given p (step m >>= on given) (IsFinish slots)
  step-does m p ids given first =
      let count : 3 + 2 * length rest ≤ 4 + (1 + 2 * length rest) = omega arith in
      subst (λ e. Matches file limits (1 + 2 * length rest) ids given p e (IsFinish slots))
      (sym (step-then m (on given)))
      (matches-step file limits (1 + 2 * length rest) ids given (IsFinish slots) p (m >>= on given)
      (matches-more file limits (3 + 2 * length rest) (4 + (1 + 2 * length rest)) ids given (IsFinish slots) p (m >>= on given) count first))

  module _ (body : Block) (c : Compound) (is : compound_at file routine k ≡ c)
      (suite-is : (p : Point) → (suite_of_loop c p).stmts ≡ (out-Block body).stmts) where
    -- the body, and then the loop's frame
    pub body-does : (ids : ℕ) (given : Given) (env : List Arg) (names : Names)
        → IsBelow ids over → AreBelow ids (rest_arguments rest) → AreSlots slots ids given env names
        → Matches file limits (2 + 2 * length rest) ids given
        (started file routine depth (start.LoopBody k) frames env ids)
        (block_action setting body names >>= then_rest file limits routine depth given frames) (IsFinish slots)
    body-does ids given env names low below are =
        let count : 2 * suc (length rest) ≤ 2 + 2 * length rest = omega arith in
        subst (λ e. Matches file limits (2 + 2 * length rest) ids given
        (started file routine depth (start.LoopBody k) frames env ids)
        (e >>= then_rest file limits routine depth given frames) (IsFinish slots))
        (ap (λ d. acts setting (suite_of_loop d (passage_at file routine k).point).stmts names) is
        ∙ ap (λ ss. acts setting ss names) (suite-is (passage_at file routine k).point)
        ∙ sym (suite-level setting body names))
        (matches-more file limits (2 * suc (length rest)) (2 + 2 * length rest) ids given (IsFinish slots) _ _ count
        (started-does file limits routine depth (start.LoopBody k) frames ids given env names (low, below) are))

    -- a turn that is left does what the body does and then the loop once more
    pub turn-does : (next : Action) (ids : ℕ) (given : Given) (env : List Arg) (names : Names)
        → ((n : Names) → next n ≡ next_turn given n)
        → IsBelow ids over → AreBelow ids (rest_arguments rest) → AreSlots slots ids given env names
        → Matches file limits (2 + 2 * length rest) ids given
        (started file routine depth (start.LoopBody k) frames env ids)
        (turned (block_action setting body) next names >>= on given) (IsFinish slots)
    turn-does next ids given env names next-is low below are =
        subst (λ m. Matches file limits (2 + 2 * length rest) ids given
        (started file routine depth (start.LoopBody k) frames env ids) m (IsFinish slots))
        (sym (turn-goes given (block_action setting body) next names next-is))
        (body-does ids given env names low below are)
