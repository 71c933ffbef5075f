-- Which nodes are ready once machines are lost.
use Rattle.std.proofs.Common.{◌≡◌, ℕ, suc, nat_eq, List, [], ◌∷◌, length, drop, Bool, true, false, cond, not, ◌&&◌, ◌||◌, if◌then◌else◌, Option, Some, None, is_some, option_map, refl, ap, sym, subst, ◌∙◌, ◌<◌, arith}
use Rattle.std.specs.List.{All}
use Rattle.std.proofs.lemmas.List.{drop_all}
use Rattle.std.proofs.lemmas.List.Elements.{All-nil, All-cons}
use Rattle.pyd_board.specs.declared.event.Act.TheVariants.{Lose}
use Rattle.pyd_board.specs.declared.event.Event.{Event}
use Rattle.pyd_board.specs.Histories.{entries}
use Rattle.pyd_ir.specs.declared.arg.Arg.{Arg}
use Rattle.pyd_ir.specs.declared.arg.Arg.TheVariants.{Known, From, Slot, Unbound}
use Rattle.pyd_ir.specs.declared.job.Task.TheVariants as task
use Rattle.pyd_ir.specs.declared.node.Node.{Node}
use Rattle.pyd_ir.specs.declared.work.Work.{Work}
use Rattle.pyd_ir.specs.declared.work.Work.TheVariants.{Op, Read, Call, Stop, Print, Run, Cond, While, For, Pick, Enter}
use Rattle.pyd_ir.specs.Arguments.{is_pure}
use Rattle.pyd_ir.specs.Inputs.{Given, both, has_inputs, has_value, have_values, may_be_read, task_of, value_of, values_of}
use Rattle.pyd_lineage.specs.Lineage.{is_among}
use Rattle.pyd_meaning.specs.declared.ran.Ran.{Ran}
use Rattle.pyd_value.specs.declared.value.Value.{Value}
use Rattle.pyd_value.specs.declared.fault.Outcome.{Outcome}
use Rattle.pyd_runs.specs.Deciding.{may_place}
use Rattle.pyd_runs.specs.Desks.{Kept, Stores, Desk}
use Rattle.pyd_runs.specs.Effects.{State, acted, happens}
use Rattle.pyd_runs.specs.Enabled.{IsLoss}
use Rattle.pyd_runs.specs.Following.{JournalLaw}
use Rattle.pyd_runs.specs.Graphs.{Graph, nodes}
use Rattle.pyd_runs.specs.Losses.{kept_elsewhere}
use Rattle.pyd_runs.specs.NextLosses.{due_after, due_losses, loses}
use Rattle.pyd_runs.specs.Plans.{Plan}
use Rattle.pyd_runs.specs.Records.{heads, is_ready, job_by, job_with, node_at, or_else, ports_kept, ready, recorded, records, task_by}
use Rattle.pyd_runs.specs.Replay.{after}
use Rattle.pyd_runs.proofs.Readiness.{some_mapped}
use Rattle.pyd_desk.specs.declared.desk.Desk as kept
use Rattle.pyd_desk.specs.Desks.{driver_of, kept_in, mark_at, outcome_in, silent, stores_of}
use Rattle.pyd_desk.proofs.Standing.{nodes_of}
use Rattle.pyd_core.specs.declared.keeper.Core.{Core}
use Rattle.pyd_core.specs.Cores.{IsCore, plan_of, state_of}
use Rattle.pyd_core.specs.Losing.{losses_by}
use Rattle.pyd_core.specs.Placing.{WantedLaw, is_wanted}
use Rattle.pyd_steps.specs.Placing.{falls, keep_values, keeps_inputs, keeps_value, machines_due, outlasts, stays_ready}

-- nothing is left behind the end
pub none_left : {A : Type 0} (i : ℕ) (xs : List A) → length xs < i
    → drop (length xs) xs ≡ drop i xs
none_left i xs past =
    drop_all (length xs) xs (omega (arith)) ∙ sym (drop_all i xs (omega (arith, past)))

and_true : (b : Bool) → (b && true) ≡ b
and_true true = refl
and_true false = refl

and_false : (b : Bool) → (b && false) ≡ false
and_false true = refl
and_false false = refl

both_there : (v : Option Value) (vs : Option (List Value))
    → is_some (both v vs) ≡ (is_some v && is_some vs)
both_there (Some v) (Some vs) = refl
both_there (Some v) None = refl
both_there None vs = refl

-- there are values where each argument has one
values_there : (given : Given) (args : List Arg)
    → is_some (values_of given args) ≡ have_values given args
values_there given [] = refl
values_there given (a ∷ args) =
    both_there (value_of given a) (values_of given args)
    ∙ ap (λ b. has_value given a && b) (values_there given args)

-- a record once machines are lost, one after another
abbrev pub kept_behind : List ℕ → Option Kept → Option Kept
kept_behind [] o = o
kept_behind (m ∷ ms) o = kept_behind ms (kept_elsewhere m o)

-- all records
abbrev pub stores_behind : List ℕ → Stores → Stores
stores_behind ms stores k = kept_behind ms (stores k)

-- losses empty the stores of their machines
pub losses_stores : (p : Plan) (s : State) (seat nth : ℕ) (ms : List ℕ)
    → (after p s (loses seat nth ms)).desk.stores ≡ stores_behind ms s.desk.stores
unfolding after happens acted
losses_stores p s seat nth [] = refl
losses_stores p s seat nth (m ∷ ms) =
    losses_stores p (happens p s (record { by = seat; nth = nth; act = Lose m })) seat (suc nth) ms

-- and leave the graph
pub losses_graph : (p : Plan) (s : State) (seat nth : ℕ) (ms : List ℕ)
    → (after p s (loses seat nth ms)).graph ≡ s.graph
unfolding after happens acted
losses_graph p s seat nth [] = refl
losses_graph p s seat nth (m ∷ ms) =
    losses_graph p (happens p s (record { by = seat; nth = nth; act = Lose m })) seat (suc nth) ms

-- each of them is a loss
pub are_losses : (seat nth : ℕ) (ms : List ℕ) → All (λ (e : Event). IsLoss e.act) (loses seat nth ms)
are_losses seat nth [] = All-nil (λ (e : Event). IsLoss e.act)
are_losses seat nth (m ∷ ms) =
    All-cons (λ (e : Event). IsLoss e.act) (record { by = seat; nth = nth; act = Lose m })
    (loses seat (suc nth) ms) tt (are_losses seat (suc nth) ms)

none_behind : (ms : List ℕ) → kept_behind ms None ≡ None
none_behind [] = refl
none_behind (m ∷ ms) = none_behind ms

-- one loss more
one_behind : (b r : Bool) (ms : List ℕ) (k : Kept)
    → kept_behind ms (Some k) ≡ cond r None (Some k)
    → kept_behind ms (if b then None else Some k) ≡ cond (b || r) None (Some k)
one_behind true r ms k is = none_behind ms
one_behind false r ms k is = is

-- a record is gone just where its machine is among those that are lost
kept_cases : (ms : List ℕ) (k : Kept)
    → kept_behind ms (Some k) ≡ cond (is_among ms k.machine) None (Some k)
kept_cases [] k = refl
kept_cases (m ∷ ms) k =
    one_behind (nat_eq k.machine m) (is_among ms k.machine) ms k (kept_cases ms k)

-- whether a record is in a store of some machines
abbrev pub is_in : List ℕ → Option Kept → Bool
is_in ms None = false
is_in ms (Some k) = is_among ms k.machine

mapped_cond : {A B : Type 0} (f : A → B) (b : Bool) (o : Option A)
    → option_map f (cond b None o) ≡ cond (not b) (option_map f o) None
mapped_cond f true o = refl
mapped_cond f false o = refl

-- what is left of the record of a node
record_behind : (ms : List ℕ) (driver : Option Ran) (o : Option Kept)
    → or_else driver (option_map (λ kept. kept.ran) (kept_behind ms o))
    ≡ cond (is_some driver || not (is_in ms o))
    (or_else driver (option_map (λ kept. kept.ran) o)) None
record_behind ms (Some ran) o = refl
record_behind ms None None = ap (option_map (λ (kept : Kept). kept.ran)) (none_behind ms)
record_behind ms None (Some k) =
    ap (option_map (λ (kept : Kept). kept.ran)) (kept_cases ms k)
    ∙ mapped_cond (λ (kept : Kept). kept.ran) (is_among ms k.machine) (Some k)

-- what stands at its ports
port_behind : (n : Option Node) (r : Option Ran) (b : Bool) (port : ℕ)
    → is_some (ports_kept n (cond b r None) port) ≡ (is_some (ports_kept n r port) && b)
port_behind n r true port = sym (and_true (is_some (ports_kept n r port)))
port_behind n r false port = sym (and_false (is_some (ports_kept n r port)))

-- tests in another order
and_swap : (a k b l : Bool) → ((a && k) && (b && l)) ≡ ((a && b) && (k && l))
and_swap true true b l = refl
and_swap true false true l = refl
and_swap true false false l = refl
and_swap false k b l = refl

and_move : (h k x : Bool) → ((h && k) && x) ≡ ((h && x) && k)
and_move true true true = refl
and_move true true false = refl
and_move true false true = refl
and_move true false false = refl
and_move false k x = refl

there_where : {A : Type 0} (f : List Value → A) (o : Option (List Value)) (b x : Bool)
    → is_some o ≡ b → is_some (cond (b && x) (option_map f o) None) ≡ (b && x)
there_where f o true true is = some_mapped f o ∙ is
there_where f o true false is = refl
there_where f o false x is = refl

some_where : {A : Type 0} (b : Bool) (a : A) → is_some (cond b (Some a) None) ≡ b
some_where true a = refl
some_where false a = refl

nowhere : {A : Type 0} (absent : Option A) → is_some absent ≡ false → (a b : Bool)
    → is_some (cond a absent absent) ≡ (is_some (cond b absent absent) && true)
nowhere absent is true true = is ∙ ap (λ b. b && true) (sym is)
nowhere absent is true false = is ∙ ap (λ b. b && true) (sym is)
nowhere absent is false true = is ∙ ap (λ b. b && true) (sym is)
nowhere absent is false false = is ∙ ap (λ b. b && true) (sym is)

-- where less is given: what some nodes gave is gone
module _ (less given : Given) (is_left : ℕ → Bool)
    (gives : (k port : ℕ) → is_some (less k port) ≡ (is_some (given k port) && is_left k)) where
  value_less : (a : Arg) → has_value less a ≡ (has_value given a && keeps_value is_left a)
  value_less (Known v) = refl
  value_less (From at) = gives at.node at.port
  value_less (Slot at) = gives at.node at.port
  value_less Unbound = refl

  read_less : (a : Arg) → may_be_read less a ≡ (may_be_read given a && keeps_value is_left a)
  read_less (Known v) = refl
  read_less (From at) = gives at.node at.port
  read_less (Slot at) = gives at.node at.port
  read_less Unbound = refl

  values_less : (args : List Arg)
      → have_values less args ≡ (have_values given args && keep_values is_left args)
  values_less [] = refl
  values_less (a ∷ args) =
      ap (λ b. b && have_values less args) (value_less a)
      ∙ ap (λ b. (has_value given a && keeps_value is_left a) && b) (values_less args)
      ∙ and_swap (has_value given a) (keeps_value is_left a) (have_values given args)
      (keep_values is_left args)

  called_less : {A : Type 0} (f : List Value → A) (args : List Arg) (x : Bool)
      → is_some (cond (have_values less args && x) (option_map f (values_of less args)) None)
      ≡ (is_some (cond (have_values given args && x) (option_map f (values_of given args)) None)
      && keep_values is_left args)
  called_less f args x =
      there_where f (values_of less args) (have_values less args) x (values_there less args)
      ∙ ap (λ b. b && x) (values_less args)
      ∙ and_move (have_values given args) (keep_values is_left args) x
      ∙ ap (λ b. b && keep_values is_left args)
      (sym (there_where f (values_of given args) (have_values given args) x
      (values_there given args)))

  task_less : (w : Work) (x : Bool)
      → is_some (cond (has_inputs less w && x) (task_of less w) None)
      ≡ (is_some (cond (has_inputs given w && x) (task_of given w) None)
      && keeps_inputs is_left w)
  task_less (Op op args) x = called_less (task.Op op) args x
  task_less (Read arg kind) x =
      some_where (may_be_read less arg && x) (task.Read (value_of less arg) kind)
      ∙ ap (λ b. b && x) (read_less arg)
      ∙ and_move (may_be_read given arg) (keeps_value is_left arg) x
      ∙ ap (λ b. b && keeps_value is_left arg)
      (sym (some_where (may_be_read given arg && x) (task.Read (value_of given arg) kind)))
  task_less (Call func args) x = called_less (task.Call func) args x
  task_less (Stop fault) x = nowhere None refl x x
  task_less (Print args) x = nowhere None refl (have_values less args && x) (have_values given args && x)
  task_less (Run func args) x = called_less (task.Run func) args x
  task_less (Cond test stmt arm rest env) x =
      nowhere None refl (has_value less test && x) (has_value given test && x)
  task_less (While test stmt turns rest env) x =
      nowhere None refl (has_value less test && x) (has_value given test && x)
  task_less (For over stmt turns rest env) x =
      nowhere None refl (has_value less over && x) (has_value given over && x)
  task_less (Pick test first second env) x =
      nowhere None refl (has_value less test && x) (has_value given test && x)
  task_less (Enter func args) x = nowhere None refl x x

  -- whether a node is ready
  job_less : (chain : List Node) (n : Option Node)
      → is_some (job_by chain less 0 n)
      ≡ (is_some (job_by chain given 0 n) && stays_ready is_left n)
  job_less chain None = refl
  job_less chain (Some n) =
      some_mapped (job_with n 0) (task_by chain less n)
      ∙ task_less n.work (is_pure n.work || heads n.id chain)
      ∙ ap (λ b. b && keeps_inputs is_left n.work)
      (sym (some_mapped (job_with n 0) (task_by chain given n)))

-- a node is ready once machines are lost where it is ready and stays so
pub ready_behind : (g : Graph) (stores : Stores) (ms : List ℕ) (is_left : ℕ → Bool)
    → ((k : ℕ) → records g (stores_behind ms stores) k ≡ cond (is_left k) (records g stores k) None)
    → (k : ℕ) → is_ready g (stores_behind ms stores) k
    ≡ (is_ready g stores k && stays_ready is_left (node_at (nodes g) k))
unfolding ready
ready_behind g stores ms is_left left k =
    job_less (recorded g (stores_behind ms stores)) (recorded g stores) is_left
    (λ n port. ap (λ r. is_some (ports_kept (node_at (nodes g) n) r port)) (left n)
    ∙ port_behind (node_at (nodes g) n) (records g stores n) (is_left n) port)
    g.chain (node_at (nodes g) k)

not_both : (a b : Bool) → a ≡ false → (a && b) ≡ false
not_both a b is = ap (λ c. c && b) is

-- no loss makes a node ready
pub never_ready : (g : Graph) (stores : Stores) (ms : List ℕ) (k : ℕ)
    → is_ready g stores k ≡ false → is_ready g (stores_behind ms stores) k ≡ false
never_ready g stores ms k is =
    let is_left : ℕ → Bool = λ n. is_some (g.driver n) || not (is_in ms (stores n)) in
    ready_behind g stores ms is_left (λ n. record_behind ms (g.driver n) (stores n)) k
    ∙ not_both (is_ready g stores k) (stays_ready is_left (node_at (nodes g) k)) is

neither : {A : Type 0} (absent : Option A) (b : Bool) → cond b absent absent ≡ absent
neither absent true = refl
neither absent false = refl

-- a record in the store of a machine, if there is an outcome
abbrev pub kept_on : ℕ → Option Outcome → Option Kept
kept_on m o = option_map (λ outcome. record { machine = m; ran = silent outcome }) o

left_on : (ms : List ℕ) (m : ℕ) (o : Option Outcome)
    → cond (not (is_in ms (kept_on m o))) (option_map (λ k. k.ran) (kept_on m o)) None
    ≡ cond (not (is_among ms m)) (option_map (λ k. k.ran) (kept_on m o)) None
left_on ms m None = sym (neither None (not (is_among ms m)))
left_on ms m (Some outcome) = refl

-- what is left of a record by the machine in whose store it may be
left_in : (ms : List ℕ) (driver : Option Ran) (d : kept.Desk) (k : ℕ)
    (machine : Option ℕ)
    → cond (is_some driver || not (is_in ms (kept_in d.stores.items k machine)))
    (or_else driver (option_map (λ kept. kept.ran) (kept_in d.stores.items k machine))) None
    ≡ cond (is_some driver || not (falls ms machine))
    (or_else driver (option_map (λ kept. kept.ran) (kept_in d.stores.items k machine))) None
left_in ms (Some ran) d k machine = refl
left_in ms None d k None = refl
left_in ms None d k (Some m) = left_on ms m (outcome_in d.stores.items m k)

-- all records
left_desk : (c : Core) (ms : List ℕ) (k : ℕ) (driver : ℕ → Option Ran) (desk : Desk)
    → driver ≡ driver_of c.desk → desk.stores ≡ stores_of c.desk
    → or_else (driver k) (option_map (λ kept. kept.ran) (kept_behind ms (desk.stores k)))
    ≡ cond (outlasts c ms k)
    (or_else (driver k) (option_map (λ kept. kept.ran) (desk.stores k))) None
left_desk c ms k driver desk same_driver same_stores =
    let machine = (mark_at c.desk.marks.items k).machine in
    let own : or_else (driver_of c.desk k)
    (option_map (λ (kept : Kept). kept.ran) (kept_behind ms (stores_of c.desk k)))
    ≡ cond (outlasts c ms k)
    (or_else (driver_of c.desk k)
    (option_map (λ (kept : Kept). kept.ran) (stores_of c.desk k))) None
    = record_behind ms (driver_of c.desk k) (stores_of c.desk k)
    ∙ left_in ms (driver_of c.desk k) c.desk k machine in
    subst (λ (r : ℕ → Option Ran).
    or_else (r k) (option_map (λ (kept : Kept). kept.ran) (kept_behind ms (desk.stores k)))
    ≡ cond (outlasts c ms k)
    (or_else (r k) (option_map (λ (kept : Kept). kept.ran) (desk.stores k))) None) (sym same_driver)
    (subst (λ (stores : Stores).
    or_else (driver_of c.desk k)
    (option_map (λ (kept : Kept). kept.ran) (kept_behind ms (stores k)))
    ≡ cond (outlasts c ms k)
    (or_else (driver_of c.desk k) (option_map (λ (kept : Kept). kept.ran) (stores k))) None)
    (sym same_stores) own)

-- the machines whose losses are due in a state
abbrev pub due_machines : State → List ℕ
due_machines s = due_after (length s.journal) s.losses

-- whether a node is ready behind the losses that are due
abbrev pub is_ready_then : State → ℕ → Bool
is_ready_then s k = is_ready s.graph (stores_behind (due_machines s) s.desk.stores) k

-- one that is wanted may be placed then where it is ready then
pub place_then : WantedLaw → (p : Plan) (s : State) (seat k : ℕ) → s.graph.end ≡ None
    → is_wanted s k ≡ true → may_place (after p s (losses_by seat s)) k ≡ is_ready_then s k
place_then wanting p s seat k on wanted =
    let nth = entries seat s.journal in
    let ms = due_machines s in
    let t = after p s (loses seat nth ms) in
    let still : is_wanted t k ≡ true
    = wanting p s k (loses seat nth ms) (are_losses seat nth ms) wanted in
    ap (λ (o : Option _). may_place (after p s (cond (is_some o) [] (due_losses seat s))) k) on
    ∙ ap (λ b. is_ready t.graph t.desk.stores k && b) still
    ∙ and_true (is_ready t.graph t.desk.stores k)
    ∙ ap (λ g. is_ready g t.desk.stores k) (losses_graph p s seat nth ms)
    ∙ ap (λ (stores : Stores). is_ready s.graph stores k) (losses_stores p s seat nth ms)

module _ (journals : JournalLaw) (wanting : WantedLaw) (c : Core) (core : IsCore c) (k : ℕ) where
  abbrev s : State
  s = state_of c

  machines_are : due_machines s ≡ machines_due c
  machines_are =
      ap (λ (js : List Event). due_after (length js) s.losses)
      (journals (plan_of c) c.log.journal.items)
      ∙ ap (due_after (length c.log.journal.items)) core.tied.losses

  -- so it is by what a core keeps
  pub stays_placeable : (seat : ℕ) → s.graph.end ≡ None → is_wanted s k ≡ true
      → may_place (after (plan_of c) s (losses_by seat s)) k
      ≡ (may_place s k && stays_ready (outlasts c (machines_due c)) (node_at (nodes s.graph) k))
  stays_placeable seat on wanted =
      let stays = stays_ready (outlasts c (machines_due c)) (node_at (nodes s.graph) k) in
      place_then wanting (plan_of c) s seat k on wanted
      ∙ ap (λ ms. is_ready s.graph (stores_behind ms s.desk.stores) k) machines_are
      ∙ ready_behind s.graph s.desk.stores (machines_due c) (outlasts c (machines_due c))
      (λ n. left_desk c (machines_due c) n s.graph.driver s.desk core.tied.state.graph.driver
      (ap (λ (d : Desk). d.stores) core.tied.state.desk)) k
      ∙ ap (λ b. b && stays) (sym (and_true (is_ready s.graph s.desk.stores k)))
      ∙ ap (λ b. (is_ready s.graph s.desk.stores k && b) && stays) (sym wanted)

  -- the answer of both tests
  pub both_tests : (seat : ℕ) → s.graph.end ≡ None → is_wanted s k ≡ true → (now later : Bool)
      → now ≡ may_place s k
      → later ≡ stays_ready (outlasts c (machines_due c)) (node_at c.line.nodes.items k)
      → (now && later) ≡ may_place (after (plan_of c) s (losses_by seat s)) k
  both_tests seat on wanted now later is_now is_later =
      ap (λ b. b && later) is_now
      ∙ ap (λ b. may_place s k && b) is_later
      ∙ ap (λ ns. may_place s k
      && stays_ready (outlasts c (machines_due c)) (node_at ns k))
      (sym (nodes_of c.line c.desk s.graph core.tied.state.graph))
      ∙ sym (stays_placeable seat on wanted)
