-- What is prepared of a head is what it does.
use Rattle.std.proofs.Common.{◌≡◌, ◌≢◌, ◌<◌, ℕ, List, [], ◌∷◌, ◌++◌, drop, length, map, Bool, true, false, Option, Some, None, option_map, is_some, IsTrue, ◌&&◌, MatchOption, Result, Ok, Err, refl, ap, sym, subst, ◌∙◌}
use Rattle.std.specs.List.{Contains}
use Rattle.std.proofs.lemmas.List.Elements.{Contains-append_right}
use Rattle.std.proofs.lemmas.Option.{none-some, same_Some}
use Rattle.pyd_value.specs.declared.value.Value.{Value}
use Rattle.pyd_value.specs.declared.value.Value.TheVariants as value
use Rattle.pyd_value.specs.declared.fault.Fault.{Fault}
use Rattle.pyd_value.specs.declared.fault.End.{End}
use Rattle.pyd_value.specs.declared.fault.Outcome.{Outcome}
use Rattle.pyd_value.specs.declared.fault.Outcome.TheVariants as outcome
use Rattle.pyd_meaning.specs.declared.ran.Ran.{Ran}
use Rattle.pyd_meaning.specs.Evaluation.{Evaluation, settled as alone, faults, prints}
use Rattle.pyd_meaning.specs.Module.{ended_by}
use Rattle.pyd_meaning.specs.Calls.{printed}
use Rattle.pyd_board.specs.declared.event.Act.TheVariants.{Settle}
use Rattle.pyd_board.specs.declared.event.Event.{Event}
use Rattle.pyd_ir.specs.declared.arg.Arg.{Arg}
use Rattle.pyd_ir.specs.declared.node.Node.{Node}
use Rattle.pyd_ir.specs.declared.work.Work.{Work}
use Rattle.pyd_ir.specs.declared.work.Work.TheVariants.{Op, Read, Call, Stop, Print, Run, Cond, While, For, Pick, Enter}
use Rattle.pyd_ir.specs.Arguments.{arguments, is_composite, is_pure}
use Rattle.pyd_ir.specs.Inputs.{Given, both, has_value, have_values, value_of, values_of, work_meaning}
use Rattle.pyd_ir.specs.Meaning.{ran_of}
use Rattle.pyd_effect.specs.declared.settled.Settled.TheVariants as settled
use Rattle.pyd_effect.specs.Settling as effect
use Rattle.pyd_effect.specs.Settling.{all_there, given_by, print, settle_head, settled_or_waits}
use Rattle.pyd_runs.specs.Plans.{Plan, limits_of}
use Rattle.pyd_runs.specs.Graphs.{nodes}
use Rattle.pyd_runs.specs.Records.{or_else, recorded, records}
use Rattle.pyd_runs.specs.Effects.{State, settled_by}
use Rattle.pyd_runs.specs.Enabled.{CanSettle, IsRecorded, WaitsNot}
use Rattle.pyd_runs.specs.Heads.{HeadLaw, IsHeadOf, has_job}
use Rattle.pyd_runs.specs.Sound.{IsSound}
use Rattle.pyd_runs.proofs.Without.{here}
use Rattle.pyd_desk.specs.declared.desk.Desk.{Desk}
use Rattle.pyd_desk.specs.declared.line.Line.{Line}
use Rattle.pyd_desk.specs.Desks.{driver_of, kept_in, mark_at, outcome_in, silent, stores_of}
use Rattle.pyd_desk.specs.Lines.{chain_of}
use Rattle.pyd_desk.specs.Passing.{kept_of}
use Rattle.pyd_desk.specs.Reading.{given_of, stored_at, stored_in}
use Rattle.pyd_desk.specs.States.{IsStateOf}
use Rattle.pyd_desk.proofs.Standing.{recorded_is}
use Rattle.pyd_core.specs.declared.settling.Leaves.TheVariants.{Passed, Ended}
use Rattle.pyd_core.specs.declared.settling.Settling.{Settling}
use Rattle.pyd_core.proofs.Settled.{first_same, happens_graph, longer}
use Rattle.pyd_core.specs.Settling.{IsSettling, NoneSettles, inputs_of, leaves_by, record_at, settling_at, settling_by}

-- what is mapped comes of something
mapped_some : {A B : Type 0} (f : A → B) (o : Option A) (b : B) → option_map f o ≡ Some b
    → (a : A) × (o ≡ Some a) × (f a ≡ b)
mapped_some f None b e = absurd (none-some b e)
mapped_some f (Some a) b e = (a, refl, same_Some (f a) b e)

-- the values of arguments, one by one
all_values : (given : Given) (args : List Arg)
    → all_there (map (value_of given) args) ≡ values_of given args
all_values given [] = refl
all_values given (a ∷ args) = ap (both (value_of given a)) (all_values given args)

-- where all are there, there is each
both_there : (o : Option Value) (os : Option (List Value)) (vs : List Value) → both o os ≡ Some vs
    → (v : Value) × (o ≡ Some v) × (more : List Value) × (os ≡ Some more)
both_there None os vs e = absurd (none-some vs e)
both_there (Some v) None vs e = absurd (none-some vs e)
both_there (Some v) (Some more) vs e = (v, refl, more, refl)

true_both : (a b : Bool) → a ≡ true → b ≡ true → (a && b) ≡ true
true_both true b e f = f
true_both false b e f = absurd (cc (e))

all_have : (given : Given) (args : List Arg) (vs : List Value)
    → all_there (map (value_of given) args) ≡ Some vs → have_values given args ≡ true
all_have given [] vs e = refl
all_have given (a ∷ args) vs e =
    let parts = both_there (value_of given a) (all_there (map (value_of given) args)) vs e in
    true_both (has_value given a) (have_values given args) (ap is_some parts.1)
    (all_have given args parts.2 parts.3)

-- what a print gives
print_ran : (r : Result (List ℕ) Fault) → print r ≡ ran_of (printed r)
unfolding alone prints
print_ran (Ok text) = refl
print_ran (Err f) = refl

stop_ran : (f : Fault) → effect.faulty f ≡ ran_of (faults f)
unfolding alone
stop_ran f = refl

-- what printed nothing leaves no lines
silent_ran : (e : Evaluation Value) → e.lines ≡ [] → effect.silent (ran_of e) ≡ ran_of e
silent_ran e none = ap (λ ls. record { outcome = (ran_of e).outcome; lines = ls }) (sym none)

-- what is kept of a head with a job, and of the inputs of any other
pub record IsKept (given seen : Given) (w : Work) (e : Evaluation Value) (own : Option Ran) : Type 0 where
  pub job : has_job w ≡ true → own ≡ Some (ran_of e)
  pub quiet : has_job w ≡ true → is_pure w ≡ true → e.lines ≡ []
  pub inputs : has_job w ≡ false
      → map (value_of seen) (arguments w) ≡ map (value_of given) (arguments w)

own_silent : (own : Option Ran) (e : Evaluation Value) → own ≡ Some (ran_of e) → e.lines ≡ []
    → option_map effect.silent own ≡ Some (ran_of e)
own_silent own e is none = ap (option_map effect.silent) is ∙ ap (λ (r : Ran). Some r) (silent_ran e none)

-- a print gives what it does
print_gives : (f : List Value → Result (List ℕ) Fault) (o all : Option (List Value))
    (e : Evaluation Value) → all ≡ o → option_map (λ vs. printed (f vs)) o ≡ Some e
    → option_map (λ vs. print (f vs)) all ≡ Some (ran_of e)
print_gives f None all e same is = absurd (none-some e is)
print_gives f (Some vs) all e same is =
    ap (option_map (λ vs. print (f vs))) same
    ∙ ap (λ (r : Ran). Some r) (print_ran (f vs) ∙ ap ran_of (same_Some (printed (f vs)) e is))

-- a leaf gives what it does
leaf_gives : (p : Plan) (given seen : Given) (at depth : ℕ) (w : Work)
    (e : Evaluation Value) (own : Option Ran)
    → work_meaning p.file (limits_of p) given at depth w ≡ Some e
    → IsKept given seen w e own → given_by w at (inputs_of seen w) own ≡ Some (ran_of e)
leaf_gives p given seen at depth (Op op args) e own is kept =
    own_silent own e (kept.job refl) (kept.quiet refl refl)
leaf_gives p given seen at depth (Read arg kind) e own is kept =
    own_silent own e (kept.job refl) (kept.quiet refl refl)
leaf_gives p given seen at depth (Call func args) e own is kept =
    own_silent own e (kept.job refl) (kept.quiet refl refl)
leaf_gives p given seen at depth (Stop fault) e own is kept =
    ap (λ (r : Ran). Some r) (stop_ran fault ∙ ap ran_of (same_Some (faults fault) e is))
leaf_gives p given seen at depth (Print args) e own is kept =
    subst (λ xs. given_by (Print args) at xs own ≡ Some (ran_of e)) (sym (kept.inputs refl))
    (print_gives _ (values_of given args) _ e (all_values given args) is)
leaf_gives p given seen at depth (Run func args) e own is kept = kept.job refl
leaf_gives p given seen at depth (Cond test stmt arm rest env) e own is kept = absurd (none-some e is)
leaf_gives p given seen at depth (While test stmt turns rest env) e own is kept = absurd (none-some e is)
leaf_gives p given seen at depth (For over stmt turns rest env) e own is kept = absurd (none-some e is)
leaf_gives p given seen at depth (Pick test first second env) e own is kept = absurd (none-some e is)
leaf_gives p given seen at depth (Enter func args) e own is kept = absurd (none-some e is)

-- a record is there
is_recorded : (own : Option Ran) (f : Ran → Ran) (ran : Ran) → option_map f own ≡ Some ran → IsRecorded own
is_recorded None f ran e = none-some ran e
is_recorded (Some r) f ran e = tt

own_recorded : (own : Option Ran) (ran : Ran) → own ≡ Some ran → IsRecorded own
own_recorded None ran e = none-some ran e
own_recorded (Some r) ran e = tt

is_true : (b : Bool) → b ≡ true → IsTrue b
is_true true e = refl
is_true false e = absurd (cc (e))

-- what gives something doesn't wait
gives_not_waits : (s : State) (k at : ℕ) (w : Work) (ran : Ran)
    → given_by w at (inputs_of (recorded s.graph s.desk.stores) w) (records s.graph s.desk.stores k) ≡ Some ran
    → WaitsNot s k w
gives_not_waits s k at (Op op args) ran e = is_recorded (records s.graph s.desk.stores k) effect.silent ran e
gives_not_waits s k at (Read arg kind) ran e = is_recorded (records s.graph s.desk.stores k) effect.silent ran e
gives_not_waits s k at (Call func args) ran e = is_recorded (records s.graph s.desk.stores k) effect.silent ran e
gives_not_waits s k at (Stop fault) ran e = tt
gives_not_waits s k at (Print args) ran e =
    let given = recorded s.graph s.desk.stores in
    let there = mapped_some _ (all_there (map (value_of given) args)) ran e in
    is_true (have_values given args) (all_have given args there.0 there.1)
gives_not_waits s k at (Run func args) ran e = own_recorded (records s.graph s.desk.stores k) ran e
gives_not_waits s k at (Cond test stmt arm rest env) ran e = none-some ran e
gives_not_waits s k at (While test stmt turns rest env) ran e = none-some ran e
gives_not_waits s k at (For over stmt turns rest env) ran e = none-some ran e
gives_not_waits s k at (Pick test first second env) ran e = none-some ran e
gives_not_waits s k at (Enter func args) ran e = none-some ran e

mapped_twice : {A B C : Type 0} (f : B → C) (h : A → B) (o : Option A)
    → option_map f (option_map h o) ≡ option_map (λ a. f (h a)) o
mapped_twice f h None = refl
mapped_twice f h (Some a) = refl

-- records of stores have no lines
stored_silent : (d : Desk) (k : ℕ) (machine : Option ℕ)
    → option_map (λ kept. kept.ran) (kept_in d.stores.items k machine)
    ≡ option_map silent (stored_in d.stores.items k machine)
stored_silent d k None = refl
stored_silent d k (Some machine) = mapped_twice _ _ (outcome_in d.stores.items machine k)

-- the record of a node
records_are : (line : Line) (d : Desk) (s : State) (k : ℕ) → IsStateOf line d s
    → records s.graph s.desk.stores k ≡ record_at d k
records_are line d s k is =
    ap (λ desk. records s.graph desk.stores k) is.desk
    ∙ ap (λ (f : ℕ → Option Ran). or_else (f k) (option_map (λ kept. kept.ran) (stores_of d k))) is.graph.driver
    ∙ ap (or_else (driver_of d k)) (stored_silent d k (mark_at d.marks.items k).machine)

-- one without lines, where the driver has none
own_quiet : (d : Desk) (k : ℕ) (ran : Ran) → driver_of d k ≡ None → record_at d k ≡ Some ran → ran.lines ≡ []
own_quiet d k ran none e =
    let made = mapped_some silent (stored_at d k) ran
    (sym (ap (λ o. or_else o (option_map silent (stored_at d k))) none) ∙ e) in
    sym (ap (λ (r : Ran). r.lines) made.2)

-- the head of a line and a desk in a state that goes on
pub record IsHeadHere (p : Plan) (s : State) (line : Line) (d : Desk) (n : Node) : Type 0 where
  pub sound : IsSound p s
  pub goes_on : s.graph.end ≡ None
  pub state : IsStateOf line d s
  pub chain : chain_of line ≡ n ∷ drop 1 (chain_of line)

module _ (law : HeadLaw) (p : Plan) (s : State) (line : Line) (d : Desk) (n : Node)
    (is : IsHeadHere p s line d n) where
  own_is : (k : ℕ) → records s.graph s.desk.stores k ≡ record_at d k
  own_is k = records_are line d s k is.state

  given_is : recorded s.graph s.desk.stores ≡ given_of d
  given_is =
      ap (λ desk. recorded s.graph desk.stores) is.state.desk
      ∙ recorded_is line d s.graph is.state.graph

  -- what a node gives by the desk, and by the records of the state
  abbrev gives : Node → Option Ran
  gives m = given_by m.work m.line (inputs_of (given_of d) m.work) (record_at d m.id)

  abbrev gives_there : Node → Option Ran
  gives_there m = given_by m.work m.line (inputs_of (recorded s.graph s.desk.stores) m.work)
      (records s.graph s.desk.stores m.id)

  gives_is : (m : Node) → gives_there m ≡ gives m
  gives_is m =
      ap (λ given. given_by m.work m.line (inputs_of given m.work) (records s.graph s.desk.stores m.id)) given_is
      ∙ ap (given_by m.work m.line (inputs_of (given_of d) m.work)) (own_is m.id)

  line_chain : s.graph.chain ≡ n ∷ drop 1 (chain_of line)
  line_chain = is.state.graph.chain ∙ is.chain

  head_same : (k : ℕ) (h : IsHeadOf p s k) → h.head ≡ n
  head_same k h = first_same h.head n h.rest (drop 1 (chain_of line)) (sym h.chain ∙ line_chain)

  -- the driver has no record of a pure head
  driver_none : (k : ℕ) (h : IsHeadOf p s k) → is_pure h.head.work ≡ true → driver_of d h.head.id ≡ None
  driver_none k h pure =
      let there : Contains (nodes s.graph) h.head
      = subst (λ (xs : List Node). Contains (s.graph.past ++ xs) h.head) (sym h.chain)
      (Contains-append_right s.graph.past (h.head ∷ h.rest) h.head (here h.head h.rest)) in
      ap (λ (f : ℕ → Option Ran). f h.head.id) (sym is.state.graph.driver)
      ∙ is.sound.graph.effects h.head there pure

  own_does : (k : ℕ) (h : IsHeadOf p s k) → has_job h.head.work ≡ true
      → records s.graph s.desk.stores h.head.id ≡ Some (ran_of h.does)
  own_does k h job = ap (records s.graph s.desk.stores) h.number ∙ h.own job

  -- the head gives what it does
  gives_does : (k : ℕ) (h : IsHeadOf p s k) → gives n ≡ Some (ran_of h.does)
  gives_does k h =
      ap gives (sym (head_same k h)) ∙ sym (gives_is h.head)
      ∙ leaf_gives p s.graph.given (recorded s.graph s.desk.stores)
      h.head.line h.head.depth h.head.work h.does (records s.graph s.desk.stores h.head.id) h.meaning
      (record {
        job = own_does k h;
        quiet = λ job pure. own_quiet d h.head.id (ran_of h.does) (driver_none k h pure)
            (sym (own_is h.head.id) ∙ own_does k h job);
        inputs = h.inputs;
      })

  -- it may be settled where it gives something
  may_settle : (ran : Ran) → gives n ≡ Some ran → CanSettle s n.id
  may_settle ran e = record {
    head = n;
    rest = drop 1 (chain_of line);
    chain = line_chain;
    number = refl;
    waits_not = gives_not_waits s n.id n.line n.work ran (gives_is n ∙ e);
  }

  by_gives : (o : Option Ran) → gives n ≡ o
      → MatchOption (option_map (settling_by n.work) o) (NoneSettles s) (IsSettling p s)
  by_gives None e = λ k can.
      none-some _ (sym e ∙ gives_does k (law p s k is.sound is.goes_on can))
  by_gives (Some ran) e =
      let can = may_settle ran e in
      let h = law p s n.id is.sound is.goes_on can in
      let same : ran_of h.does ≡ ran = same_Some (ran_of h.does) ran (sym (gives_does n.id h) ∙ e) in
      subst (λ r. IsSettling p s (settling_by n.work r)) same (record {
        head = n;
        rest = h.rest;
        chain = subst (λ m. s.graph.chain ≡ m ∷ h.rest) (head_same n.id h) h.chain;
        can = can;
        does = h.does;
        made = refl;
        graph = λ seat.
            let e : Event = record { by = seat; nth = 0; act = Settle n.id } in
            sym (happens_graph p s e) ∙ h.leaves e refl
            ∙ ap (λ m. settled_by s.graph m h.rest h.does.lines h.does.result) (head_same n.id h);
      })

  -- what the desk has settles the head, and where there is none no node may be settled
  pub settles : MatchOption (settling_at d n) (NoneSettles s) (IsSettling p s)
  settles = by_gives (gives n) refl

-- where something is left behind a place there is more
left_by : (xs ys : List Node) (i : ℕ) → drop i xs ≡ ys → ys ≢ [] → i < length xs
left_by xs [] i e some = absurd (some refl)
left_by xs (y ∷ ys) i e some = longer xs i y ys e

-- the run goes on, so there is a head
pub goes_on_there : (p : Plan) (s : State) (line : Line) (d : Desk) → IsSound p s
    → s.graph.end ≡ None → IsStateOf line d s → line.settled < length line.nodes.items
goes_on_there p s line d sound goes_on is =
    left_by line.nodes.items (chain_of line) line.settled refl
    (λ none. sound.graph.unfinished goes_on (is.graph.chain ∙ none))

-- what was answered is what the head gives
passed_ran : (n : Node) (lines ls : List (List ℕ)) (kept : Option Ran) (x : Outcome)
    → effect.settled ls x ≡ settled.Passed lines
    → ((v : Value) → x ≡ outcome.Ok v → kept ≡ kept_of (is_pure n.work) v)
    → ◌≡◌ {A = Option Settling} (Some (record { lines = lines; leaves = Passed kept }))
    (Some (record { lines = ls; leaves = leaves_by n.work x }))
passed_ran n lines ls kept (outcome.Ok v) e keeps =
    let z : settled.Passed ls ≡ settled.Passed lines = e in
    let same : ls ≡ lines = cc (z) in
    let k = keeps v refl in
    λ i. Some (record { lines = sym same i; leaves = Passed (k i) })
passed_ran n lines ls kept (outcome.Fault f) e keeps = absurd (cc (e))

pub passed_is : (n : Node) (o : Option Ran) (lines : List (List ℕ)) (kept : Option Ran)
    → settled_or_waits n.id o ≡ settled.Passed lines
    → ((ran : Ran) (v : Value) → o ≡ Some ran → ran.outcome ≡ outcome.Ok v
    → kept ≡ kept_of (is_pure n.work) v)
    → ◌≡◌ {A = Option Settling} (Some (record { lines = lines; leaves = Passed kept }))
    (option_map (settling_by n.work) o)
passed_is n None lines kept e keeps = absurd (cc (e))
passed_is n (Some ran) lines kept e keeps =
    passed_ran n lines ran.lines kept ran.outcome e (λ v. keeps ran v refl)

ended_ran : (n : Node) (lines ls : List (List ℕ)) (end : End) (x : Outcome)
    → effect.settled ls x ≡ settled.Ended lines end
    → ◌≡◌ {A = Option Settling} (Some (record { lines = lines; leaves = Ended end }))
    (Some (record { lines = ls; leaves = leaves_by n.work x }))
ended_ran n lines ls end (outcome.Ok v) e = absurd (cc (e))
ended_ran n lines ls end (outcome.Fault f) e =
    let z : settled.Ended ls (ended_by f) ≡ settled.Ended lines end = e in
    let same : ls ≡ lines = cc (z) in
    let ends : ended_by f ≡ end = cc (z) in
    λ i. Some (record { lines = sym same i; leaves = Ended (sym ends i) })

pub ended_is : (n : Node) (o : Option Ran) (lines : List (List ℕ)) (end : End)
    → settled_or_waits n.id o ≡ settled.Ended lines end
    → ◌≡◌ {A = Option Settling} (Some (record { lines = lines; leaves = Ended end }))
    (option_map (settling_by n.work) o)
ended_is n None lines end e = absurd (cc (e))
ended_is n (Some ran) lines end e = ended_ran n lines ran.lines end ran.outcome e

waits_ran : (node : ℕ) (ls : List (List ℕ)) (x : Outcome) → effect.settled ls x ≡ settled.Waits node → ⊥
waits_ran node ls (outcome.Ok v) e = cc (e)
waits_ran node ls (outcome.Fault f) e = cc (e)

pub waits_is : (n : Node) (o : Option Ran) (node : ℕ) → settled_or_waits n.id o ≡ settled.Waits node
    → None ≡ option_map (settling_by n.work) o
waits_is n None node e = refl
waits_is n (Some ran) node e = absurd (waits_ran node ran.lines ran.outcome e)

-- a composite gives nothing
pub composite_none : (w : Work) (at : ℕ) (inputs : List (Option Value)) (own : Option Ran)
    → is_composite w ≡ true → None ≡ option_map (settling_by w) (given_by w at inputs own)
composite_none (Op op args) at inputs own e = absurd (cc (e))
composite_none (Read arg kind) at inputs own e = absurd (cc (e))
composite_none (Call func args) at inputs own e = absurd (cc (e))
composite_none (Stop fault) at inputs own e = absurd (cc (e))
composite_none (Print args) at inputs own e = absurd (cc (e))
composite_none (Run func args) at inputs own e = absurd (cc (e))
composite_none (Cond test stmt arm rest env) at inputs own e = refl
composite_none (While test stmt turns rest env) at inputs own e = refl
composite_none (For over stmt turns rest env) at inputs own e = refl
composite_none (Pick test first second env) at inputs own e = refl
composite_none (Enter func args) at inputs own e = refl

-- a print that gives a value gives None
print_none : (r : Result (List ℕ) Fault) (v : Value) → (print r).outcome ≡ outcome.Ok v
    → Some (silent (outcome.Ok value.None)) ≡ Some (silent (outcome.Ok v))
print_none (Ok text) v e = ap (λ x. Some (silent x)) e
print_none (Err f) v e = absurd (let z : outcome.Fault f ≡ outcome.Ok v = e in cc (z))

pub print_kept : (args : List Arg) (at : ℕ) (inputs : List (Option Value)) (own : Option Ran)
    (ran : Ran) (v : Value) → given_by (Print args) at inputs own ≡ Some ran
    → ran.outcome ≡ outcome.Ok v → Some (silent (outcome.Ok value.None)) ≡ Some (silent (outcome.Ok v))
print_kept args at inputs own ran v e gave =
    let made = mapped_some _ (all_there inputs) ran e in
    print_none _ v (ap (λ (r : Ran). r.outcome) made.2 ∙ gave)
