-- The nodes of statements one behind the other, and of a rest, do what these mean.
use Rattle.std.proofs.Common.{◌≡◌, ℕ, ◌+◌, ◌*◌, List, [], ◌∷◌, length, refl, sym, ap, subst, ◌∙◌, arith}
use Rattle.pyd_value.specs.declared.value.Value.TheVariants as value
use Rattle.pyd_tree.specs.declared.statement.What.{out-What}
use Rattle.pyd_tree.specs.declared.statement.Stmt.{Stmt}
use Rattle.pyd_tree.specs.declared.file.File.{File}
use Rattle.pyd_scope.specs.Numbering.{Point, past_statement}
use Rattle.pyd_scope.specs.Passages.{Passage, passage_at}
use Rattle.pyd_meaning.specs.declared.limits.Limits.{Limits}
use Rattle.pyd_meaning.specs.Evaluation.{Evaluation, gives, step, ◌>>=◌}
use Rattle.pyd_meaning.specs.Names.{Names}
use Rattle.pyd_meaning.specs.Setting.{place_of, Setting}
use Rattle.pyd_meaning.specs.Completion.{Completion, Normal, Break, Continue, Return, Reached, left, normally, left_by, in_turn}
use Rattle.pyd_meaning.proofs.Sequencing.{gives-then, then-then, step-then}
use Rattle.pyd_ir.specs.declared.arg.Arg.{Arg}
use Rattle.pyd_ir.specs.declared.arg.Arg.TheVariants.{Known}
use Rattle.pyd_ir.specs.declared.work.Frame.{Frame}
use Rattle.pyd_ir.specs.declared.work.Frame.TheVariants.{After, Again}
use Rattle.pyd_ir.specs.Arguments.{rest_arguments}
use Rattle.pyd_ir.specs.Inputs.{Given}
use Rattle.pyd_translate.specs.Compounds.{behind, passage_behind}
use Rattle.pyd_translate.specs.Statements as exit
use Rattle.pyd_translate.specs.Statements.{done, Exit, Onward, Sequel, may_leave, context, what_unfolds, stmts_unfold}
use Rattle.pyd_translate.specs.Rests as rests
use Rattle.pyd_translate.specs.Rests.{rest_unfolds}
use Rattle.pyd_translate.specs.Walk.{acts, again_at, Finish, rested, then_rest}
use Rattle.pyd_translate.specs.Matching.{AreBelow, AreSlots, IsFinish, Matches}
use Rattle.pyd_translate.specs.Laws.{IsPlaced}
use Rattle.pyd_translate.proofs.Lookup.{number_placed, behind_placed}
use Rattle.pyd_translate.proofs.Sequencing.{matches-pure, matches-more, matches-step}
use Rattle.pyd_translate.proofs.Levels.{level_action, action_level}
use Rattle.pyd_translate.proofs.Locals.{passage_found}
use Rattle.pyd_translate.proofs.Resting.{slots, setting, resting, rested_return}
use Rattle.pyd_translate.proofs.Framing.{Goes, onward, Statement}
use Rattle.pyd_translate.proofs.LevelsMatch.{level-does}
use Rattle.pyd_translate.proofs.AgainMatch.{rest_from, again-does}

module _ (file : File) (limits : Limits) (routine depth : ℕ) where
  -- the names of the slots
  abbrev names_here : List (List ℕ)
  names_here = slots file limits routine depth

  -- the setting
  abbrev set : Setting
  set = setting file limits routine depth

  -- what statements do, and then a rest
  abbrev pub acting : List Frame → List Stmt → Given → Names → Evaluation Finish
  acting rest ss given names = acts set ss names >>= then_rest file limits routine depth given rest

  module _ (s : Stmt) (ss : List Stmt) (p : Point) (rest : List Frame)
      (placed : IsPlaced file routine (record { stmts = s ∷ ss; point = p })) where
    -- what follows a statement is what stands behind its number
    followed_by : (given : Given) (names : Names)
        → acting rest ss given names
        ≡ resting file limits routine depth given (After p.statement ∷ rest) Normal names
    unfolding rested
    followed_by given names =
        ap (λ (here : Passage). acts set (behind here.stmts) names >>= then_rest file limits routine depth given rest)
        (sym (passage_found file routine s ss p placed))

    -- what follows goes on by the way in which the statement is left
    follows : (given : Given) (c : Completion) (names : Names)
        → left_by c names (acts set ss) >>= then_rest file limits routine depth given rest
        ≡ resting file limits routine depth given (After p.statement ∷ rest) c names
    unfolding rested
    follows given Normal names = followed_by given names
    follows given Break names = gives-then (left Break names) (then_rest file limits routine depth given rest)
    follows given Continue names = gives-then (left Continue names) (then_rest file limits routine depth given rest)
    follows given (Return v) names =
        gives-then (left (Return v) names) (then_rest file limits routine depth given rest)
        ∙ rested_return file limits routine depth given rest v names

    -- statements are a step, the first by its level, and then what goes on behind it
    first_then : (given : Given) (names : Names)
        → acting rest (s ∷ ss) given names
        ≡ step (level_action set (out-What s.what) (place_of s.line) names
        >>= onward file limits routine depth p.statement rest given)
    unfolding in_turn
    first_then given names =
        let body = level_action set (out-What s.what) (place_of s.line) names in
        let go = λ (r : Reached). left_by r.completion r.names (acts set ss) in
        ap (λ m. (m >>= go) >>= then_rest file limits routine depth given rest) (action_level set s names)
        ∙ ap (λ m. m >>= then_rest file limits routine depth given rest) (step-then body go)
        ∙ step-then (body >>= go) (then_rest file limits routine depth given rest)
        ∙ ap step (then-then body go (then_rest file limits routine depth given rest)
        ∙ (λ i. body >>= (λ r. follows given r.completion r.names i)))

  -- statements, and then what goes on by the exit at which they are left
  pub statements-do : (ss : List Stmt) (p : Point) (rest : List Frame) (leave : Exit → Onward)
      → IsPlaced file routine (record { stmts = ss; point = p })
      → ((x : Exit) → Goes file limits routine depth rest (leave x) (rest_from file limits routine depth rest x))
      → Goes file limits routine depth rest (stmts_unfold file routine depth ss p rest leave) (acting rest ss)
  unfolding stmts_unfold in_turn
  statements-do [] p rest leave placed leaves ids given env names below are =
      subst (λ m. Matches file limits (2 * length rest) ids given (leave exit.Normal env ids) m (IsFinish names_here))
      (sym (gives-then (normally names) (then_rest file limits routine depth given rest)))
      (leaves exit.Normal ids given env names below are)
  statements-do (s ∷ ss) p rest leave placed leaves ids given env names below are =
      let next = stmts_unfold file routine depth ss (past_statement s p) rest leave in
      let sequel : Sequel = record { rest = rest; leave = leave; next = next } in
      let goes : Goes file limits routine depth rest next
      (λ g n. resting file limits routine depth g (After p.statement ∷ rest) Normal n) =
      λ i g e n b a. subst (λ m. Matches file limits (2 * length rest) i g (next e i) m (IsFinish names_here))
      (followed_by s ss p rest placed g n)
      (statements-do ss (past_statement s p) rest leave
      (behind_placed file routine (record { stmts = s ∷ ss; point = p }) placed) leaves i g e n b a) in
      let w : Statement = record {
        file = file;
        limits = limits;
        routine = routine;
        depth = depth;
        head = s;
        more = ss;
        place = p;
        sequel = sequel;
        placed = placed;
        goes = goes;
        leaves = leaves;
      } in
      let piece = what_unfolds file (out-What s.what) (may_leave s) p (context routine depth s.line env) sequel ids in
      subst (λ m. Matches file limits (2 * length rest) ids given piece m (IsFinish names_here))
      (sym (first_then s ss p rest placed given names))
      (matches-step file limits (2 * length rest) ids given (IsFinish names_here) piece _
      (level-does w
      (record { ids = ids; given = given; env = env; names = names; below = below; are = are })))

  -- a rest that begins with a loop
  again-from : (k turns : ℕ) (over : Arg) (rest : List Frame)
      → Goes file limits routine depth rest (rest_unfolds file routine depth rest exit.Normal) (rest_from file limits routine depth rest exit.Normal)
      → (ids : ℕ) (given : Given) (env : List Arg) (names : Names)
      → AreBelow ids (rest_arguments rest) → AreSlots names_here ids given env names
      → Matches file limits (2 * length (Again k turns over ∷ rest)) ids given
      (rests.again_first file routine depth (passage_at file routine k) turns over rest
      (rest_unfolds file routine depth rest exit.Normal) env ids)
      (again_at file limits routine depth given k turns over names >>= then_rest file limits routine depth given rest)
      (IsFinish names_here)
  again-from k turns over rest goes ids given env names below are =
      let here = passage_at file routine k in
      matches-more file limits (2 + 2 * length rest) (2 * length (Again k turns over ∷ rest)) ids given (IsFinish names_here) _ _
      (omega arith)
      (again-does file limits routine depth here.stmts here.point rest turns over (number_placed file routine k)
      (rest_unfolds file routine depth rest exit.Normal) goes ids given env names below are)

  -- no rest
  ends : (rest : List Frame) (ids : ℕ) (given : Given) (env : List Arg) (names : Names)
      → AreSlots names_here ids given env names
      → Matches file limits (2 * length rest) ids given (exit.finished env ids)
      (gives (record { names = names; value = value.None })) (IsFinish names_here)
  ends rest ids given env names are =
      matches-pure file limits (2 * length rest) ids given (IsFinish names_here) (done env (Known value.None))
      (record { names = names; value = value.None }) (record { env = are; value = (refl, tt) })

  -- a rest, by the exit at which what stands before it is left
  pub rests-do : (rest : List Frame) (x : Exit)
      → Goes file limits routine depth rest (rest_unfolds file routine depth rest x) (rest_from file limits routine depth rest x)
  unfolding rest_unfolds rested
  rests-do [] exit.Normal ids given env names below are = ends [] ids given env names are
  rests-do [] exit.Break ids given env names below are = ends [] ids given env names are
  rests-do [] exit.Continue ids given env names below are = ends [] ids given env names are
  rests-do (After k ∷ rest) exit.Normal ids given env names below are =
      let here = passage_behind (passage_at file routine k) in
      matches-more file limits (2 * length rest) (2 * length (After k ∷ rest)) ids given (IsFinish names_here) _ _ (omega arith)
      (statements-do here.stmts here.point rest (rest_unfolds file routine depth rest)
      (behind_placed file routine (passage_at file routine k) (number_placed file routine k))
      (rests-do rest) ids given env names below are)
  rests-do (After k ∷ rest) exit.Break ids given env names below are =
      matches-more file limits (2 * length rest) (2 * length (After k ∷ rest)) ids given (IsFinish names_here) _ _ (omega arith)
      (rests-do rest exit.Break ids given env names below are)
  rests-do (After k ∷ rest) exit.Continue ids given env names below are =
      matches-more file limits (2 * length rest) (2 * length (After k ∷ rest)) ids given (IsFinish names_here) _ _ (omega arith)
      (rests-do rest exit.Continue ids given env names below are)
  rests-do (Again k turns over ∷ rest) exit.Normal ids given env names below are =
      again-from k turns over rest (rests-do rest exit.Normal) ids given env names below.1 are
  rests-do (Again k turns over ∷ rest) exit.Break ids given env names below are =
      matches-more file limits (2 * length rest) (2 * length (Again k turns over ∷ rest)) ids given (IsFinish names_here) _ _
      (omega arith)
      (rests-do rest exit.Normal ids given env names below.1 are)
  rests-do (Again k turns over ∷ rest) exit.Continue ids given env names below are =
      again-from k turns over rest (rests-do rest exit.Normal) ids given env names below.1 are
