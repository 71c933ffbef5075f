-- How a statement's nodes go on: by the slots that it bound, or as a composite with the rest or without it.
use Rattle.std.proofs.Common.{◌≡◌, ℕ, suc, ◌+◌, ◌*◌, ◌≤◌, List, [], ◌∷◌, length, refl, sym, ap, subst, ◌∙◌, arith, Bool, true, false, ◌||◌}
use Rattle.pyd_tree.specs.declared.statement.Stmt.{Stmt}
use Rattle.pyd_tree.specs.declared.file.File.{File}
use Rattle.pyd_names.specs.WellFormed.{some_are}
use Rattle.pyd_scope.specs.Numbering.{Point}
use Rattle.pyd_meaning.specs.declared.limits.Limits.{Limits}
use Rattle.pyd_meaning.specs.Evaluation.{Evaluation, gives, ◌>>=◌}
use Rattle.pyd_meaning.specs.Names.{Names}
use Rattle.pyd_meaning.specs.Setting.{Setting}
use Rattle.pyd_meaning.specs.Completion.{Completion, Normal, Break, Continue, Return, Reached, value_after}
use Rattle.pyd_meaning.proofs.Sequencing.{gives-then, then-then}
use Rattle.pyd_ir.specs.declared.arg.Arg.{Arg}
use Rattle.pyd_ir.specs.declared.work.Frame.{Frame}
use Rattle.pyd_ir.specs.declared.work.Frame.TheVariants.{After}
use Rattle.pyd_ir.specs.declared.work.Work.{Work}
use Rattle.pyd_ir.specs.Arguments.{rest_arguments}
use Rattle.pyd_ir.specs.Inputs.{Given}
use Rattle.pyd_ir.specs.Ports.{Ports}
use Rattle.pyd_translate.specs.Making.{Making, Context, node_of, emit, ◌>>>◌}
use Rattle.pyd_translate.specs.Slots.{slot_ports}
use Rattle.pyd_translate.specs.Statements as exit
use Rattle.pyd_translate.specs.Statements.{Done, Exit, Onward, Sequel, then_done, with_rest, context}
use Rattle.pyd_translate.specs.Walk.{give, slot_values, count_composite, Finish, rested, ported_meaning, work_ports}
use Rattle.pyd_translate.specs.Matching.{AreBelow, IsKept, AreSlots, IsFinish, Relation, IsReached, Matches}
use Rattle.pyd_translate.specs.Laws.{IsPlaced}
use Rattle.pyd_translate.proofs.Sequencing.{matches-then_done, matches-more}
use Rattle.pyd_translate.proofs.Emitting.{kept-give}
use Rattle.pyd_translate.proofs.Ordering.{are_below_up}
use Rattle.pyd_translate.proofs.Slots.{slots_ported}
use Rattle.pyd_translate.proofs.Yields.{Yields, yields-then}
use Rattle.pyd_translate.proofs.Stays.{IsStayed, left_normally}
use Rattle.pyd_translate.proofs.Composites.{matches-composite, matches-ported}
use Rattle.pyd_translate.proofs.Resting.{slots, setting, resting, EndsWithin, rested_kept, rested_within}

-- how statements are left at an exit
abbrev pub completion_of : Exit → Completion
completion_of exit.Normal = Normal
completion_of exit.Break = Break
completion_of exit.Continue = Continue

-- three evaluations, of which the second gives what is handed on as names
pub then-normally : {A B C : Type 0} (m : Evaluation A) (k : A → Evaluation B) (f : B → Reached)
    (on : Reached → Evaluation C)
    → (m >>= (λ v. k v >>= (λ b. gives (f b)))) >>= on ≡ (m >>= k) >>= (λ b. on (f b))
then-normally m k f on =
    then-then m (λ v. k v >>= (λ b. gives (f b))) on
    ∙ (λ i. m >>= (λ v. (then-then (k v) (λ b. gives (f b)) on ∙ (λ j. k v >>= (λ b. gives-then (f b) on j))) i))
    ∙ sym (then-then m k (λ b. on (f b)))

module _ (file : File) (limits : Limits) (routine depth : ℕ) (rest : List Frame) where
  -- nodes that go on from slots do what a meaning from names does, and count two steps more for each frame of the rest
  abbrev pub Goes : Onward → (Given → Names → Evaluation Finish) → Type 0
  Goes next m =
      (ids : ℕ) (given : Given) (env : List Arg) (names : Names)
      → AreBelow ids (rest_arguments rest) → AreSlots (slots file limits routine depth) ids given env names
      → Matches file limits (2 * length rest) ids given (next env ids) (m given names)
      (IsFinish (slots file limits routine depth))

module _ (file : File) (limits : Limits) (routine depth k : ℕ) (rest : List Frame) where
  -- the names of the slots
  abbrev pub names_here : List (List ℕ)
  names_here = slots file limits routine depth

  -- the rest behind statement k
  abbrev pub framed : List Frame
  framed = After k ∷ rest

  -- goes on behind statement k
  abbrev pub onward : Given → Reached → Evaluation Finish
  onward given r = resting file limits routine depth given framed r.completion r.names

  -- the same behind later nodes
  pub onward_kept : (ids : ℕ) (before after : Given) (x : Evaluation Reached)
      → AreBelow ids (rest_arguments rest) → IsKept ids before after
      → x >>= onward after ≡ x >>= onward before
  onward_kept ids before after x b kept =
      λ i. x >>= (λ r. rested_kept file limits routine depth ids before after framed r.completion r.names b kept i)

  -- an evaluation that a statement begins with, and then what depends on its value
  pub then_onward : {A B : Type 0} (more extra ids : ℕ) (given : Given) (env : List Arg) (R : Relation A B)
      (u : Making A) (f : A → Making Done) (m : Evaluation B) (x : B → Evaluation Reached)
      → AreBelow ids (rest_arguments rest)
      → Matches file limits more ids given (u ids) m R
      → ((next : ℕ) (mid : Given) (a : A) (b : B) → IsReached ids given next R mid a b
      → AreBelow next (rest_arguments rest)
      → Matches file limits extra next mid (f a next) (x b >>= onward mid) (IsFinish names_here))
      → Matches file limits (more + extra) ids given (then_done env u f ids) ((m >>= x) >>= onward given)
      (IsFinish names_here)
  then_onward more extra ids given env R u f m x below first on =
      subst (λ e. Matches file limits (more + extra) ids given (then_done env u f ids) e (IsFinish names_here))
      (sym (then-then m x (onward given)))
      (matches-then_done file limits more extra ids given R (IsFinish names_here) env u f m (λ b. x b >>= onward given) first
      (λ next mid a b reached.
      subst (λ e. Matches file limits extra next mid (f a next) e (IsFinish names_here))
      (onward_kept ids given mid (x b) below reached.kept)
      (on next mid a b reached (are_below_up ids next (rest_arguments rest) reached.grown below))))

  -- without a return the completion gives None
  ends_after : (given : Given) (c : Completion) (names : Names)
      → resting file limits routine depth given [] c names
      >>= (λ fin. gives (slot_values names_here fin.names fin.value))
      ≡ gives (slot_values names_here names (value_after c))
  unfolding rested
  ends_after given Normal names = gives-then _ (λ fin. gives (slot_values names_here fin.names fin.value))
  ends_after given Break names = gives-then _ (λ fin. gives (slot_values names_here fin.names fin.value))
  ends_after given Continue names = gives-then _ (λ fin. gives (slot_values names_here fin.names fin.value))
  ends_after given (Return v) names = gives-then _ (λ fin. gives (slot_values names_here fin.names fin.value))

  -- what stands at the ports of a composite whose rest is empty
  abbrev pub reached_ports : Reached → Ports
  reached_ports r = slot_values names_here r.names (value_after r.completion)

-- a statement that stands in a routine, before nodes that do what stands behind it
pub record Statement : Type 0 where
  pub file : File
  pub limits : Limits
  pub routine : ℕ
  pub depth : ℕ
  pub head : Stmt
  pub more : List Stmt
  pub place : Point
  pub sequel : Sequel
  pub placed : IsPlaced file routine (record { stmts = head ∷ more; point = place })
  pub goes : Goes file limits routine depth sequel.rest sequel.next
      (λ given names. resting file limits routine depth given (After place.statement ∷ sequel.rest) Normal names)
  pub leaves : (x : Exit) → Goes file limits routine depth sequel.rest (sequel.leave x)
      (λ given names. resting file limits routine depth given sequel.rest (completion_of x) names)

module _ (w : Statement) where
  -- the names of the slots
  abbrev pub slots_in : List (List ℕ)
  slots_in = slots w.file w.limits w.routine w.depth

  -- the setting of its routine
  abbrev pub setting_in : Setting
  setting_in = setting w.file w.limits w.routine w.depth

  -- goes on behind it
  abbrev pub goes_on : Given → Reached → Evaluation Finish
  goes_on = onward w.file w.limits w.routine w.depth w.place.statement w.sequel.rest

  -- where nodes are made in a line
  abbrev pub in_its : ℕ → List Arg → Context
  in_its line env = context w.routine w.depth line env

  -- the next number, what was given so far, and the slots with their names
  pub record Begun : Type 0 where
    pub ids : ℕ
    pub given : Given
    pub env : List Arg
    pub names : Names
    pub below : AreBelow ids (rest_arguments w.sequel.rest)
    pub are : AreSlots slots_in ids given env names

  -- nodes do what this means and what goes on, and count four steps more than the rest
  abbrev pub DoesSo : Begun → Making Done → Evaluation Reached → Type 0
  DoesSo here u x =
      Matches w.file w.limits (4 + 2 * length w.sequel.rest) here.ids here.given (u here.ids)
      (x >>= goes_on here.given) (IsFinish slots_in)

  -- a composite for the statement, with the rest or without it, whose meaning stays so
  module _ (here : Begun) (work : List Frame → Work) (line : ℕ) (x : Evaluation Reached) (rs bs : List ℕ)
      (does : (frames : List Frame)
      → work_ports w.file w.limits (work frames) (node_of (in_its line here.env) here.ids (work frames)) here.given
      ≡ ported_meaning w.file w.limits w.routine w.depth x here.given frames)
      (stays : Yields x (IsStayed slots_in rs bs)) where
    -- where the nodes are made
    abbrev at : Context
    at = in_its line here.env

    -- the rest behind it
    abbrev frames_behind : List Frame
    frames_behind = framed w.file w.limits w.routine w.depth w.place.statement w.sequel.rest

    taking : Matches w.file w.limits (2 + 2 * length frames_behind) here.ids here.given
        ((emit at (work frames_behind) >>> exit.ported slots_in) here.ids) (x >>= goes_on here.given) (IsFinish slots_in)
    taking =
        matches-ported w.file w.limits slots_in here.ids here.given at (work frames_behind) (length frames_behind)
        (x >>= goes_on here.given) (does frames_behind)
        (yields-then x (goes_on here.given) (IsStayed slots_in rs bs) (EndsWithin w.file w.limits w.routine w.depth) stays
        (λ r q. rested_within w.file w.limits w.routine w.depth here.given frames_behind r.completion r.names q.0))

    passing : (some_are rs || some_are bs) ≡ false
        → Matches w.file w.limits (2 + (2 * 0 + 2 * length w.sequel.rest)) here.ids here.given
        ((emit at (work []) >>> (λ id. w.sequel.next (slot_ports id 0 slots_in))) here.ids) (x >>= goes_on here.given)
        (IsFinish slots_in)
    passing e =
        matches-composite w.file w.limits 0 (2 * length w.sequel.rest) here.ids here.given (IsFinish slots_in) at (work [])
        (reached_ports w.file w.limits w.routine w.depth w.place.statement w.sequel.rest)
        (λ id. w.sequel.next (slot_ports id 0 slots_in)) (goes_on here.given) x
        (does [] ∙ ap (count_composite 0)
        (then-then x (λ r. resting w.file w.limits w.routine w.depth here.given [] r.completion r.names)
        (λ fin. gives (slot_values slots_in fin.names fin.value))
        ∙ (λ i. x >>= (λ r. ends_after w.file w.limits w.routine w.depth w.place.statement w.sequel.rest here.given r.completion r.names i))))
        (λ r got.
        let ports = reached_ports w.file w.limits w.routine w.depth w.place.statement w.sequel.rest r in
        let after = give here.ids ports here.given in
        let le : here.ids ≤ suc here.ids = omega arith in
        let q = stays r got in
        subst (λ (c : Completion). Matches w.file w.limits (2 * length w.sequel.rest) (suc here.ids) after
        (w.sequel.next (slot_ports here.ids 0 slots_in) (suc here.ids))
        (resting w.file w.limits w.routine w.depth here.given frames_behind c r.names) (IsFinish slots_in))
        (sym (left_normally rs bs r.completion e q.1))
        (subst (λ m. Matches w.file w.limits (2 * length w.sequel.rest) (suc here.ids) after
        (w.sequel.next (slot_ports here.ids 0 slots_in) (suc here.ids)) m (IsFinish slots_in))
        (rested_kept w.file w.limits w.routine w.depth here.ids here.given after frames_behind Normal r.names here.below
        (kept-give here.ids ports here.given))
        (w.goes (suc here.ids) after (slot_ports here.ids 0 slots_in) r.names
        (are_below_up here.ids (suc here.ids) (rest_arguments w.sequel.rest) le here.below)
        (slots_ported slots_in here.ids here.given r.names (value_after r.completion) q.0))))

    -- the composite does what its meaning does, and then what goes on
    pub matches-with_rest : (early : Bool) → (early ≡ false → (some_are rs || some_are bs) ≡ false)
        → DoesSo here (with_rest slots_in early w.place.statement work at w.sequel) x
    matches-with_rest true e =
        matches-more w.file w.limits (2 + 2 * length frames_behind) (4 + 2 * length w.sequel.rest) here.ids here.given
        (IsFinish slots_in) _ (x >>= goes_on here.given) (omega arith) taking
    matches-with_rest false e =
        matches-more w.file w.limits (2 + (2 * 0 + 2 * length w.sequel.rest)) (4 + 2 * length w.sequel.rest) here.ids here.given
        (IsFinish slots_in) _ (x >>= goes_on here.given) (omega arith) (passing (e refl))
