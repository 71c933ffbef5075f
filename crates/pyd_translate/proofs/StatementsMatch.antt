-- The nodes of one statement do what it means, and then what goes on behind it.
use Rattle.std.proofs.Common.{◌≡◌, ℕ, ◌+◌, ◌*◌, ◌≤◌, List, ◌∷◌, length, refl, sym, subst, ◌∙◌, arith, Bool, true, false, ◌||◌, Option, Some, None}
use Rattle.pyd_value.specs.declared.value.Value.{Value}
use Rattle.pyd_value.specs.declared.value.Value.TheVariants as value
use Rattle.pyd_value.specs.declared.fault.Fault.TheVariants.{Raised}
use Rattle.pyd_value.specs.declared.fault.Kind.TheVariants.{AssertionError}
use Rattle.pyd_tree.specs.declared.expression.Expr.{Expr}
use Rattle.pyd_names.specs.WellFormed.{some_are}
use Rattle.pyd_scope.specs.Numbering.{expressions, expression_table}
use Rattle.pyd_meaning.specs.Evaluation.{Evaluation, gives, ◌>>=◌}
use Rattle.pyd_meaning.specs.Names.{Names}
use Rattle.pyd_meaning.specs.Setting.{Place, place_of, raises}
use Rattle.pyd_meaning.specs.Expression.{meaning_of, branch}
use Rattle.pyd_meaning.specs.Completion.{Return, Reached, left, normally}
use Rattle.pyd_meaning.specs.Statement.{value_or_none}
use Rattle.pyd_meaning.proofs.Sequencing.{gives-then, faults-then, then-then}
use Rattle.pyd_ir.specs.declared.arg.Arg.{Arg}
use Rattle.pyd_ir.specs.declared.arg.Arg.TheVariants.{Known}
use Rattle.pyd_ir.specs.declared.work.Frame.{Frame}
use Rattle.pyd_ir.specs.declared.work.Frame.TheVariants.{After}
use Rattle.pyd_ir.specs.declared.work.Work.{Work}
use Rattle.pyd_ir.specs.Arguments.{rest_arguments}
use Rattle.pyd_ir.specs.Inputs.{Given}
use Rattle.pyd_translate.specs.Making.{Making, node_of, pure}
use Rattle.pyd_translate.specs.Statements as exit
use Rattle.pyd_translate.specs.Statements.{Done, done, Exit, then_done, with_rest, header, headed_by}
use Rattle.pyd_translate.specs.Walk.{ported_meaning, work_ports}
use Rattle.pyd_translate.specs.Matching.{AreBelow, IsKept, HasValue, AreSlots, IsFinish, Matches}
use Rattle.pyd_translate.specs.Laws.{Stands}
use Rattle.pyd_translate.proofs.Induction.{Maybe}
use Rattle.pyd_translate.proofs.Sequencing.{matches-pure, matches-more}
use Rattle.pyd_translate.proofs.Keeping.{slots-kept}
use Rattle.pyd_translate.proofs.Yields.{Yields}
use Rattle.pyd_translate.proofs.Stays.{IsStayed}
use Rattle.pyd_translate.proofs.Resting.{resting, rested_return}
use Rattle.pyd_translate.proofs.Framing.{completion_of, then_onward, Statement, slots_in, setting_in, goes_on, in_its, Begun, DoesSo, matches-with_rest}
use Rattle.pyd_translate.proofs.Assigning.{SlotsAre}
use Rattle.pyd_translate.proofs.Scopes.{Scope, State}
use Rattle.pyd_translate.proofs.BindingsMatch.{header-does}

-- what is handed on as names behind an assert
pub asserted_normally : (b : Bool) (x : Names → Evaluation Value) (at : Place) (names : Names)
    → branch b (λ now. gives now) (λ now. x now >>= (λ u. raises AssertionError at)) names
    >>= (λ bound. gives (normally bound))
    ≡ branch b (λ now. gives (normally now)) (λ now. x now >>= (λ u. raises AssertionError at)) names
asserted_normally true x at names = gives-then names (λ bound. gives (normally bound))
asserted_normally false x at names =
    then-then (x names) (λ u. raises AssertionError at) (λ bound. gives (normally bound))
    ∙ (λ i. x names >>= (λ u. faults-then {A = Names} (Raised AssertionError at.line) (λ bound. gives (normally bound)) i))

module _ (w : Statement) (here : Begun w) where
  -- where the nodes of a line are made
  abbrev scope : ℕ → Scope
  scope line =
      record { file = w.file; limits = w.limits; routine = w.routine; depth = w.depth; line = line }

  -- what stands there
  abbrev start : (line : ℕ) → State (scope line)
  start line =
      record { ids = here.ids; given = here.given; env = here.env; names = here.names; are = here.are }

  -- an expression stands where the statement begins
  abbrev pub Begins : Expr → Type 0
  Begins e = Stands (expression_table w.file w.routine) w.place.expression (expressions e)

  -- what the expression means in a line
  abbrev meant : Expr → ℕ → Evaluation Value
  meant e line = meaning_of (setting_in w) e (place_of line) here.names

  -- the slots behind later nodes
  later : (next : ℕ) (mid : Given) → here.ids ≤ next → IsKept here.ids here.given mid
      → AreSlots (slots_in w) next mid here.env here.names
  later next mid grown kept =
      slots-kept (slots_in w) here.ids next here.given mid here.env here.names grown kept here.are

  -- the header does what its expression means, and then what depends on its value
  header-then : (extra : ℕ) (e : Expr) (line : ℕ) (f : Arg → Making Done) (x : Value → Evaluation Reached)
      → extra ≤ 4 + 2 * length w.sequel.rest → Begins e
      → ((next : ℕ) (mid : Given) (a : Arg) (v : Value)
      → AreSlots (slots_in w) next mid here.env here.names → HasValue next mid a v
      → AreBelow next (rest_arguments w.sequel.rest)
      → Matches w.file w.limits extra next mid (f a next) (x v >>= goes_on w mid) (IsFinish (slots_in w)))
      → DoesSo w here (then_done here.env (header w.file e w.place (in_its w line here.env)) f)
      (meant e line >>= x)
  header-then extra e line f x le stands on =
      matches-more w.file w.limits (0 + extra) (4 + 2 * length w.sequel.rest) here.ids here.given (IsFinish (slots_in w)) _ _
      (omega arith)
      (then_onward w.file w.limits w.routine w.depth w.place.statement w.sequel.rest 0 extra here.ids here.given here.env
      HasValue (header w.file e w.place (in_its w line here.env)) f (meant e line) x here.below
      (header-does (scope line) (start line) e w.place stands)
      (λ next mid a v reached low. on next mid a v (later next mid reached.grown reached.kept) reached.related low))

  -- nodes that go on from the slots do what goes on
  passing : (next : ℕ) (mid : Given) (env : List Arg) (names : Names) → AreBelow next (rest_arguments w.sequel.rest)
      → AreSlots (slots_in w) next mid env names
      → Matches w.file w.limits (2 * length w.sequel.rest) next mid (w.sequel.next env next)
      (gives (normally names) >>= goes_on w mid) (IsFinish (slots_in w))
  passing next mid env names low are =
      subst (λ e. Matches w.file w.limits (2 * length w.sequel.rest) next mid (w.sequel.next env next) e (IsFinish (slots_in w)))
      (sym (gives-then (normally names) (goes_on w mid))) (w.goes next mid env names low are)

  -- a statement that does nothing
  pub passes : DoesSo w here (w.sequel.next here.env) (gives (normally here.names))
  passes =
      matches-more w.file w.limits (2 * length w.sequel.rest) (4 + 2 * length w.sequel.rest) here.ids here.given
      (IsFinish (slots_in w)) _ _ (omega arith)
      (passing here.ids here.given here.env here.names here.below here.are)

  -- a statement that leaves its block
  pub leaving : (x : Exit) → goes_on w here.given (left (completion_of x) here.names)
      ≡ resting w.file w.limits w.routine w.depth here.given w.sequel.rest (completion_of x) here.names
      → DoesSo w here (w.sequel.leave x here.env) (gives (left (completion_of x) here.names))
  leaving x is =
      subst (λ e. Matches w.file w.limits (4 + 2 * length w.sequel.rest) here.ids here.given
      (w.sequel.leave x here.env here.ids) e (IsFinish (slots_in w)))
      (sym (gives-then (left (completion_of x) here.names) (goes_on w here.given) ∙ is))
      (matches-more w.file w.limits (2 * length w.sequel.rest) (4 + 2 * length w.sequel.rest) here.ids here.given
      (IsFinish (slots_in w)) _ _ (omega arith)
      (w.leaves x here.ids here.given here.env here.names here.below here.are))

  -- nodes that end with the value that is returned
  returning : (more next : ℕ) (mid : Given) (a : Arg) (v : Value)
      → AreSlots (slots_in w) next mid here.env here.names → HasValue next mid a v
      → Matches w.file w.limits more next mid (pure (done here.env a) next)
      (gives (left (Return v) here.names) >>= goes_on w mid) (IsFinish (slots_in w))
  returning more next mid a v are has =
      subst (λ e. Matches w.file w.limits more next mid (pure (done here.env a) next) e (IsFinish (slots_in w)))
      (sym (gives-then (left (Return v) here.names) (goes_on w mid)
      ∙ rested_return w.file w.limits w.routine w.depth mid (After w.place.statement ∷ w.sequel.rest) v here.names))
      (matches-pure w.file w.limits more next mid (IsFinish (slots_in w)) (done here.env a)
      (record { names = here.names; value = v }) (record { env = are; value = has }))

  -- a `return`
  pub returns-so : (e : Option Expr) (line : ℕ) → Maybe Begins e
      → DoesSo w here (exit.returned w.file e w.place (in_its w line here.env))
      (value_or_none (setting_in w) e (place_of line) here.names >>= (λ v. gives (left (Return v) here.names)))
  returns-so None line stands =
      subst (λ x. DoesSo w here (exit.finished here.env) x)
      (sym (gives-then value.None (λ v. gives (left (Return v) here.names))))
      (returning (4 + 2 * length w.sequel.rest) here.ids here.given (Known value.None) value.None here.are (refl, tt))
  returns-so (Some e) line stands =
      header-then 0 e line (λ a. pure (done here.env a)) (λ v. gives (left (Return v) here.names)) (omega arith) stands
      (λ next mid a v are has low. returning 0 next mid a v are has)

  -- an expression as a statement
  pub evaluates-so : (e : Expr) (line : ℕ) → Begins e
      → DoesSo w here (then_done here.env (header w.file e w.place (in_its w line here.env)) (λ a. w.sequel.next here.env))
      (meant e line >>= (λ v. gives (normally here.names)))
  evaluates-so e line stands =
      header-then (2 * length w.sequel.rest) e line (λ a. w.sequel.next here.env) (λ v. gives (normally here.names))
      (omega arith) stands
      (λ next mid a v are has low. passing next mid here.env here.names low are)

  -- nodes that bind slots, and then go on
  pub binds-so : (more : ℕ) (u : Making (List Arg)) (m : Evaluation Names) → more ≤ 4
      → Matches w.file w.limits more here.ids here.given (u here.ids) m (SlotsAre (slots_in w))
      → DoesSo w here (then_done here.env u w.sequel.next) (m >>= (λ bound. gives (normally bound)))
  binds-so more u m le first =
      matches-more w.file w.limits (more + 2 * length w.sequel.rest) (4 + 2 * length w.sequel.rest) here.ids here.given
      (IsFinish (slots_in w)) _ _ (omega arith)
      (then_onward w.file w.limits w.routine w.depth w.place.statement w.sequel.rest more (2 * length w.sequel.rest)
      here.ids here.given here.env (SlotsAre (slots_in w)) u w.sequel.next m (λ bound. gives (normally bound)) here.below first
      (λ next mid now bound reached low. passing next mid now bound low reached.related))

  -- a header and its composite
  pub headed-so : (e : Expr) (line : ℕ) (work : Arg → List Frame → Work) (x : Value → Evaluation Reached) (rs bs : List ℕ)
      (early : Bool) → (early ≡ false → (some_are rs || some_are bs) ≡ false) → Begins e
      → ((next : ℕ) (mid : Given) (t : Arg) (v : Value) → AreSlots (slots_in w) next mid here.env here.names
      → HasValue next mid t v → (frames : List Frame)
      → work_ports w.file w.limits (work t frames) (node_of (in_its w line here.env) next (work t frames)) mid
      ≡ ported_meaning w.file w.limits w.routine w.depth (x v) mid frames)
      → ((v : Value) → Yields (x v) (IsStayed (slots_in w) rs bs))
      → DoesSo w here (headed_by w.file e work early w.place (in_its w line here.env) w.sequel) (meant e line >>= x)
  headed-so e line work x rs bs early free stands does stays =
      header-then (4 + 2 * length w.sequel.rest) e line
      (λ a. with_rest (slots_in w) early w.place.statement (work a) (in_its w line here.env) w.sequel) x (omega arith) stands
      (λ next mid t v are has low.
      let then : Begun w =
      record { ids = next; given = mid; env = here.env; names = here.names; below = low; are = are } in
      matches-with_rest w then (work t) line (x v) rs bs (does next mid t v are has) (stays v) early free)
