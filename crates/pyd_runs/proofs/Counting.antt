-- How often nodes are placed, claimed and finished, and how many events a run in head order has.
use Rattle.std.proofs.Common.{◌≡◌, ◌≢◌, ◌<◌, ◌≤◌, ◌+◌, ◌*◌, ◌==◌, suc-mul, ℕ, zero, suc, Bool, true, false, cond, if◌then◌else◌, List, [], ◌∷◌, length, drop, Option, None, Some, ◌⊎◌, inl, inr, refl, ap, sym, ◌∙◌, subst, arith}
use Rattle.std.specs.Prelude.{Result, Ok, Err, option_map}
use Rattle.std.specs.List.{count_by}
use Rattle.std.proofs.lemmas.List.Sums.{sum_by-cons}
use Rattle.pyd_value.specs.declared.value.Value.{Value}
use Rattle.pyd_value.specs.declared.fault.Fault.{Fault}
use Rattle.pyd_meaning.specs.declared.ran.Ran.{Ran}
use Rattle.pyd_meaning.specs.Evaluation.{Evaluation}
use Rattle.pyd_board.specs.declared.event.Act.{Act}
use Rattle.pyd_board.specs.declared.event.Act.TheVariants.{Place, Claim, Finish, Drop, Refine, Settle, Lose, Trim}
use Rattle.pyd_board.specs.declared.event.Event.{Event}
use Rattle.pyd_board.specs.declared.setup.Loss.{Loss}
use Rattle.pyd_ir.specs.declared.node.Node.{Node}
use Rattle.pyd_ir.specs.Arguments.{is_pure}
use Rattle.pyd_ir.specs.Inputs.{Given, leaf_meaning}
use Rattle.pyd_ir.specs.Meaning.{job_ran}
use Rattle.pyd_runs.specs.Plans.{Plan, limits_of, meaning}
use Rattle.pyd_runs.specs.Graphs.{Graph}
use Rattle.pyd_runs.specs.Desks.{Kept, Placed, Held, Stores, put_at}
use Rattle.pyd_runs.specs.Records.{node_at, or_else, stored, records, recorded, ready}
use Rattle.pyd_runs.specs.Losses.{due_at}
use Rattle.pyd_runs.specs.Growth.{grown, grown_by}
use Rattle.pyd_runs.specs.Effects.{State, first_state, acted, happens, held_by, placed, claimed, lost_with, settled, settled_chain, settled_as, settled_by, passed, trimmed, finished_by, is_run, kept_by_driver, kept_by_machine}
use Rattle.pyd_runs.specs.Enabled.{CanAct, CanPlace}
use Rattle.pyd_runs.specs.Replay.{IsLegal, IsLegalFrom, after, replay}
use Rattle.pyd_runs.specs.Sound.{IsSound}
use Rattle.pyd_runs.specs.Laws.{IsRunnable, advances}
use Rattle.pyd_runs.specs.Bounds.{AllAlong, RefinesHead, InHeadOrder, serves, is_loss, LossCountLaw, NodeCountLaw, EventCountLaw}
use Rattle.pyd_runs.proofs.Putting.{at_cases, put_else, put_same, same_test, test_same, test_other}
use Rattle.pyd_runs.proofs.Holding.{holds_some, finish_else}
use Rattle.pyd_runs.proofs.Losing.{due_next}
use Rattle.pyd_runs.proofs.Again.{finish_stores, finish_driver}
use Rattle.pyd_runs.proofs.Growing.{below_or}
use Rattle.pyd_runs.proofs.Refined.{refines_so}
use Rattle.pyd_runs.proofs.Running.{event_keeps}
use Rattle.pyd_runs.proofs.Starting.{starts}
use Rattle.pyd_runs.proofs.Stepping.{taken, taken_cons, head_steps}
use Rattle.pyd_runs.specs.Facts.{node_of}
use Rattle.pyd_runs.proofs.Unchanged.{finish_alike, claimed_so, finished_now}
use Rattle.pyd_runs.proofs.Named.{AreMade, none_made, event_made, act_below, settled_next, no_less}

-- how many more events a node may have before a loss: none where it has a record, a Finish where it is claimed, a Claim before that where it has a ticket, else a Place before both
abbrev pub level_by : Option Ran → Option Held → Option Placed → ℕ
level_by (Some ran) c t = 0
level_by None (Some c) t = 1
level_by None None (Some t) = 2
level_by None None None = 3

abbrev pub level : State → ℕ → ℕ
level s k = level_by (records s.graph s.desk.stores k) (s.desk.claim k) (s.desk.ticket k)

pub level_most : (r : Option Ran) (c : Option Held) (t : Option Placed) → level_by r c t ≤ 3
level_most (Some ran) c t = omega arith
level_most None (Some c) t = omega arith
level_most None None (Some t) = omega arith
level_most None None None = omega arith

level_three : (r : Option Ran) (c : Option Held) (t : Option Placed) → r ≡ None → c ≡ None
    → t ≡ None → level_by r c t ≡ 3
level_three r c t e f g =
    ap (λ o. level_by o c t) e ∙ ap (λ o. level_by None o t) f ∙ ap (λ o. level_by None None o) g

level_two : (r : Option Ran) (c : Option Held) (t : Option Placed) (x : Placed) → r ≡ None
    → c ≡ None → t ≡ Some x → level_by r c t ≡ 2
level_two r c t x e f g =
    ap (λ o. level_by o c t) e ∙ ap (λ o. level_by None o t) f ∙ ap (λ o. level_by None None o) g

level_one : (r : Option Ran) (c : Option Held) (t : Option Placed) (x : Held) → r ≡ None
    → c ≡ Some x → level_by r c t ≡ 1
level_one r c t x e f = ap (λ o. level_by o c t) e ∙ ap (λ o. level_by None o t) f

level_none : (r : Option Ran) (c : Option Held) (t : Option Placed) (x : Ran) → r ≡ Some x
    → level_by r c t ≡ 0
level_none r c t x e = ap (λ o. level_by o c t) e

-- where record, claim and ticket are the same, so is the level
level_same : (s now : State) (n : ℕ)
    → records now.graph now.desk.stores n ≡ records s.graph s.desk.stores n
    → now.desk.claim n ≡ s.desk.claim n → now.desk.ticket n ≡ s.desk.ticket n
    → level now n ≡ level s n
level_same s now n record_same claim ticket =
    ap (λ o. level_by o (now.desk.claim n) (now.desk.ticket n)) record_same
    ∙ ap (λ o. level_by (records s.graph s.desk.stores n) o (now.desk.ticket n)) claim
    ∙ ap (λ o. level_by (records s.graph s.desk.stores n) (s.desk.claim n) o) ticket

-- a Finish leaves all tickets
finish_ticket : (p : Plan) (s : State) (k machine : ℕ) (o : Option Held)
    → (finished_by p s k machine o).desk.ticket ≡ s.desk.ticket
finish_ticket p s k machine None = refl
finish_ticket p s k machine (Some c) = by_kind (is_run c.job.task)
  where
    by_kind : (b : Bool)
        → (if b then kept_by_driver s k (job_ran p.file (limits_of p) c.job)
        else kept_by_machine s k machine (job_ran p.file (limits_of p) c.job)).desk.ticket
        ≡ s.desk.ticket
    by_kind true = refl
    by_kind false = refl

-- refining leaves what the driver keeps
piece_driver : (p : Plan) (given : Given) (g : Graph) (k : ℕ) (o : Option Node)
    → (grown_by p given g k o).driver ≡ g.driver
piece_driver p given g k None = refl
piece_driver p given g k (Some n) = refl

grown_driver : (p : Plan) (s : State) (k : ℕ)
    → (grown p s.desk.stores k s.graph).driver ≡ s.graph.driver
unfolding grown
grown_driver p s k =
    piece_driver p (recorded s.graph s.desk.stores) s.graph k (node_at s.graph.chain k)

-- settling leaves what the driver keeps of a node, or adds it
abbrev Keeps : (ℕ → Option Ran) → (ℕ → Option Ran) → ℕ → Type 0
Keeps old new n = (new n ≡ old n) ⊎ ((ran : Ran) × (new n ≡ Some ran))

passed_driver : (b : Bool) (g : Graph) (n : Node) (rest : List Node) (lines : List (List ℕ))
    (v : Value) (k : ℕ) → Keeps g.driver (passed b g n rest lines v).driver k
passed_driver true g n rest lines v k = inl refl
passed_driver false g n rest lines v k = elim (at_cases k n.id) [
  | inl same ↦ inr (_, put_same g.driver n.id (Some _) k same)
  | inr other ↦ inl (put_else g.driver n.id (Some _) k other)
]

result_driver : (g : Graph) (n : Node) (rest : List Node) (lines : List (List ℕ))
    (r : Result Value Fault) (k : ℕ) → Keeps g.driver (settled_by g n rest lines r).driver k
result_driver g n rest lines (Ok v) k = passed_driver (is_pure n.work) g n rest lines v k
result_driver g n rest lines (Err f) k = inl refl

head_driver : (g : Graph) (n : Node) (rest : List Node) (o : Option (Evaluation Value)) (k : ℕ)
    → Keeps g.driver (settled_as g n rest o).driver k
head_driver g n rest None k = inl refl
head_driver g n rest (Some e) k = result_driver g n rest e.lines e.result k

chain_driver : (p : Plan) (g : Graph) (ns : List Node) (k : ℕ)
    → Keeps g.driver (settled_chain p g ns).driver k
chain_driver p g [] k = inl refl
chain_driver p g (n ∷ rest) k =
    head_driver g n rest (leaf_meaning p.file (limits_of p) g.given n) k

settled_driver : (p : Plan) (g : Graph) (k : ℕ) → Keeps g.driver (settled p g).driver k
unfolding settled
settled_driver p g k = chain_driver p g g.chain k

-- so a level falls or stays
settled_level : (old new : ℕ → Option Ran) (stores : Stores) (n : ℕ) (c : Option Held)
    (t : Option Placed) → Keeps old new n
    → level_by (or_else (new n) (stored stores n)) c t
    ≤ level_by (or_else (old n) (stored stores n)) c t
settled_level old new stores n c t (inl same) =
    let all = ap (λ o. level_by (or_else o (stored stores n)) c t) same in omega (arith, all)
settled_level old new stores n c t (inr ran) =
    let none = ap (λ o. level_by (or_else o (stored stores n)) c t) ran.1 in
    omega (arith, none)

-- a Place uses up a step of its node
place_level : (p : Plan) (s : State) (k a m n : ℕ) → CanPlace p s k a m → (b : Bool)
    → (k == n) ≡ b → cond b 1 0 + level (placed s k a m) n ≤ level s n + 3 * 0
place_level p s k a m n c true t =
    let ticket : Placed = record { attempt = a; machine = m } in
    let same : n ≡ k = sym (test_same k n t) in
    let none = ap (records s.graph s.desk.stores) same ∙ c.no_record in
    let free = ap s.desk.claim same ∙ c.no_claim in
    let before : level s n ≡ 3 = level_three (records s.graph s.desk.stores n) (s.desk.claim n) (s.desk.ticket n)
    none free (ap s.desk.ticket same ∙ c.no_ticket) in
    let behind : level (placed s k a m) n ≡ 2 = level_two (records s.graph s.desk.stores n) (s.desk.claim n)
    (put_at s.desk.ticket k (Some ticket) n) ticket none free
    (put_same s.desk.ticket k (Some ticket) n same) in
    omega (arith, before, behind)
place_level p s k a m n c false t =
    let ticket : Placed = record { attempt = a; machine = m } in
    let other : n ≢ k = (λ z. test_other k n t (sym z)) in
    let all : level (placed s k a m) n ≡ level s n = level_same s (placed s k a m) n refl refl
    (put_else s.desk.ticket k (Some ticket) n other) in
    omega (arith, all)

-- so does a Claim
claim_level : (p : Plan) (s : State) (seat k a m n : ℕ) → IsSound p s
    → CanAct p s seat (Claim k a m) → (b : Bool) → (k == n) ≡ b
    → cond b 1 0 + level (claimed s seat k a m) n ≤ level s n + 3 * 0
claim_level p s seat k a m n sound can true t =
    let now : State = claimed s seat k a m in
    let c = can.1 in
    let same : n ≡ k = sym (test_same k n t) in
    let alone = sound.desk.ticket_alone k c.ticket c.is_live in
    let x = claimed_so p s seat k a m sound can in
    let none = ap (records s.graph s.desk.stores) same ∙ alone.0 in
    let before : level s n ≡ 2 = level_two (records s.graph s.desk.stores n) (s.desk.claim n) (s.desk.ticket n)
    c.ticket none (ap s.desk.claim same ∙ alone.1) (ap s.desk.ticket same ∙ c.is_live) in
    let behind : level (claimed s seat k a m) n ≡ 1 = level_one (records s.graph s.desk.stores n) (now.desk.claim n)
    (now.desk.ticket n) (record { attempt = a; machine = m; seat = seat; job = x.job }) none
    (ap now.desk.claim same ∙ x.claim) in
    omega (arith, before, behind)
claim_level p s seat k a m n sound can false t =
    let other : n ≢ k = (λ z. test_other k n t (sym z)) in
    let all : level (claimed s seat k a m) n ≡ level s n = level_same s (claimed s seat k a m) n refl
    (put_else s.desk.claim k (held_by a m seat (ready s.graph s.desk.stores k a)) n other)
    (put_else s.desk.ticket k None n other) in
    omega (arith, all)

-- the record of a store, if it is there
store_record : Option Kept → Option Ran
store_record o = option_map (λ kept. kept.ran) o

-- a Finish leaves the records of other nodes
finish_records : (p : Plan) (s : State) (k m n : ℕ) → n ≢ k
    → records (finished_by p s k m (s.desk.claim k)).graph
    (finished_by p s k m (s.desk.claim k)).desk.stores n
    ≡ records s.graph s.desk.stores n
unfolding store_record
finish_records p s k m n other =
    let now : State = finished_by p s k m (s.desk.claim k) in
    ap (λ o. or_else o (store_record (now.desk.stores n)))
    (finish_driver p s k m n (s.desk.claim k) other)
    ∙ ap (λ o. or_else (s.graph.driver n) (store_record o))
    (finish_stores p s k m n (s.desk.claim k) other)

-- and uses up a step of its node
finish_level : (p : Plan) (s : State) (seat k a m n : ℕ) → IsSound p s
    → CanAct p s seat (Finish k a m) → (b : Bool) → (k == n) ≡ b
    → cond b 1 0 + level (finished_by p s k m (s.desk.claim k)) n ≤ level s n + 3 * 0
finish_level p s seat k a m n sound can true t =
    let now : State = finished_by p s k m (s.desk.claim k) in
    let same : n ≡ k = sym (test_same k n t) in
    let c = holds_some (s.desk.claim k) seat a m can.1.holds in
    let x = finished_now p s k m c.0 sound c.1 in
    let none = ap (records s.graph s.desk.stores) same ∙ sound.desk.claim_alone k c.0 c.1 in
    let before : level s n ≡ 1 = level_one (records s.graph s.desk.stores n) (s.desk.claim n) (s.desk.ticket n)
    c.0 none (ap s.desk.claim same ∙ c.1) in
    let behind : level (finished_by p s k m (s.desk.claim k)) n ≡ 0 = level_none (records now.graph now.desk.stores n) (now.desk.claim n)
    (now.desk.ticket n) (job_ran p.file (limits_of p) c.0.job)
    (ap (records now.graph now.desk.stores) same ∙ x.kept) in
    omega (arith, before, behind)
finish_level p s seat k a m n sound can false t =
    let other : n ≢ k = (λ z. test_other k n t (sym z)) in
    let all : level (finished_by p s k m (s.desk.claim k)) n ≡ level s n
    = level_same s (finished_by p s k m (s.desk.claim k)) n (finish_records p s k m n other)
    (finish_else p s k m n (s.desk.claim k) other)
    (ap (λ (f : ℕ → Option Placed). f n) (finish_ticket p s k m (s.desk.claim k))) in
    omega (arith, all)

-- a level that doesn't rise, and one behind a loss
same_level : (now old : ℕ) → now ≤ old → 0 + now ≤ old + 3 * 0
same_level now old less = omega (arith, less)

no_more_than : {now old : ℕ} → now ≡ old → now ≤ old
no_more_than same = omega (arith, same)

given_back : (now old : ℕ) → now ≤ 3 → 0 + now ≤ old + 3 * 1
given_back now old most = omega (arith, most)

-- what a seat does uses up a step of the node that it serves, and only a loss gives steps back
act_level : (p : Plan) (s : State) (seat : ℕ) (act : Act) (n : ℕ) → IsSound p s
    → CanAct p s seat act → InHeadOrder s act
    → cond (serves n act) 1 0 + level (acted p s seat act) n
    ≤ level s n + 3 * cond (is_loss act) 1 0
unfolding acted
act_level p s seat (Place k a m) n sound can order = place_level p s k a m n can.1 (k == n) refl
act_level p s seat (Claim k a m) n sound can order =
    claim_level p s seat k a m n sound can (k == n) refl
act_level p s seat (Finish k a m) n sound can order =
    finish_level p s seat k a m n sound can (k == n) refl
act_level p s seat (Refine k) n sound can order =
    same_level (level (record s { graph = grown p s.desk.stores k s.graph }) n) (level s n)
    (no_more_than (level_same s (record s { graph = grown p s.desk.stores k s.graph }) n
    (ap (λ (f : ℕ → Option Ran). or_else (f n) (stored s.desk.stores n)) (grown_driver p s k))
    refl refl))
act_level p s seat (Settle k) n sound can order =
    same_level (level (record s { graph = settled p s.graph }) n) (level s n)
    (settled_level s.graph.driver (settled p s.graph).driver s.desk.stores n (s.desk.claim n)
    (s.desk.ticket n) (settled_driver p s.graph n))
act_level p s seat (Lose m) n sound can order =
    let now : State = lost_with s m in
    given_back (level now n) (level s n)
    (level_most (records now.graph now.desk.stores n) (now.desk.claim n) (now.desk.ticket n))
act_level p s seat (Drop k a m) n sound can order = absurd order
act_level p s seat (Trim k) n sound can order = absurd order

-- the same behind the event
event_level : (p : Plan) (s : State) (e : Event) (n : ℕ) → IsSound p s → CanAct p s e.by e.act
    → InHeadOrder s e.act
    → cond (serves n e.act) 1 0 + level (happens p s e) n
    ≤ level s n + 3 * cond (is_loss e.act) 1 0
unfolding happens
event_level p s e n sound can order = act_level p s e.by e.act n sound can order

-- how many losses, and how many events that serve a node
unfoldable pub losing : List Event → ℕ
losing es = count_by (λ (e : Event). is_loss e.act) es

losing_cons : (e : Event) (es : List Event)
    → losing (e ∷ es) ≡ cond (is_loss e.act) 1 0 + losing es
unfolding losing
losing_cons e es = sum_by-cons (λ (x : Event). cond (is_loss x.act) 1 0) e es

serving : ℕ → List Event → ℕ
serving k es = count_by (λ (e : Event). serves k e.act) es

serving_cons : (k : ℕ) (e : Event) (es : List Event)
    → serving k (e ∷ es) ≡ cond (serves k e.act) 1 0 + serving k es
unfolding serving
serving_cons k e es = sum_by-cons (λ (x : Event). cond (serves k x.act) 1 0) e es

-- a node has no more of them than its level and the losses allow
served : (p : Plan) (s : State) (es : List Event) (k : ℕ) → IsSound p s → IsLegalFrom p s es
    → AllAlong InHeadOrder p s es → serving k es ≤ level s k + 3 * losing es
unfolding IsLegalFrom serving losing
served p s [] k sound legal order = omega arith
served p s (e ∷ es) k sound legal order =
    let later = served p (happens p s e) es k (event_keeps p s e sound legal.0) legal.1 order.1 in
    let now = event_level p s e k sound legal.0.act order.0 in
    let all = serving_cons k e es in
    let lost = losing_cons e es in
    omega (arith, later, now, all, lost)

few_served : (p : Plan) (es : List Event) (k : ℕ) → IsRunnable p → IsLegal p es
    → AllAlong InHeadOrder p (first_state p) es → serving k es ≤ 3 * (1 + losing es)
few_served p es k runnable legal order =
    let first : State = first_state p in
    let few = served p first es k (starts p runnable) legal order in
    let most : level first k ≤ 3 = level_most (records first.graph first.desk.stores k)
    (first.desk.claim k) (first.desk.ticket k) in
    omega (arith, few, most)

-- the law
pub nodes_served : NodeCountLaw
unfolding serving losing
nodes_served p es k runnable legal order = few_served p es k runnable legal order

-- the losses to come grow fewer by each loss
left_fewer : (events machine : ℕ) (losses : List Loss) → due_at events losses ≡ Some machine
    → 1 + length (drop 1 losses) ≡ length losses
left_fewer events machine losses due =
    let next = due_next events machine losses due in
    let all : length losses ≡ suc (length (drop 1 losses))
    = ap (λ (ls : List Loss). length ls) next.1 in
    omega (arith, all)

-- a Finish takes none
finish_losses : (p : Plan) (s : State) (k machine : ℕ) (o : Option Held)
    → (finished_by p s k machine o).losses ≡ s.losses
finish_losses p s k machine None = refl
finish_losses p s k machine (Some c) = by_kind (is_run c.job.task)
  where
    by_kind : (b : Bool)
        → (if b then kept_by_driver s k (job_ran p.file (limits_of p) c.job)
        else kept_by_machine s k machine (job_ran p.file (limits_of p) c.job)).losses
        ≡ s.losses
    by_kind true = refl
    by_kind false = refl

none_more : (n : ℕ) → 0 + n ≡ n
none_more n = omega arith

act_losses : (p : Plan) (s : State) (seat : ℕ) (act : Act) → CanAct p s seat act
    → cond (is_loss act) 1 0 + length (acted p s seat act).losses ≡ length s.losses
unfolding acted
act_losses p s seat (Place k a m) can = none_more (length s.losses)
act_losses p s seat (Claim k a m) can = none_more (length s.losses)
act_losses p s seat (Finish k a m) can =
    ap (λ (losses : List Loss). 0 + length losses) (finish_losses p s k m (s.desk.claim k))
    ∙ none_more (length s.losses)
act_losses p s seat (Drop k a m) can = none_more (length s.losses)
act_losses p s seat (Refine k) can = none_more (length s.losses)
act_losses p s seat (Settle k) can = none_more (length s.losses)
act_losses p s seat (Lose m) can = left_fewer (length s.journal) m s.losses can.is_due
act_losses p s seat (Trim k) can = none_more (length s.losses)

event_losses : (p : Plan) (s : State) (e : Event) → CanAct p s e.by e.act
    → cond (is_loss e.act) 1 0 + length (happens p s e).losses ≡ length s.losses
unfolding happens
event_losses p s e can = act_losses p s e.by e.act can

pub lost_so_far : (p : Plan) (s : State) (es : List Event) → IsLegalFrom p s es
    → losing es ≤ length s.losses
unfolding IsLegalFrom losing
lost_so_far p s [] legal = omega arith
lost_so_far p s (e ∷ es) legal =
    let later = lost_so_far p (happens p s e) es legal.1 in
    let now = event_losses p s e legal.0.act in
    let all = losing_cons e es in
    omega (arith, later, now, all)

-- the law
pub losses_counted : LossCountLaw
unfolding losing
losses_counted p es legal = lost_so_far p (first_state p) es legal

-- the total of a function of the numbers below one
pub total : (ℕ → ℕ) → ℕ → ℕ
total f zero = 0
total f (suc n) = f n + total f n

total_zero : (f : ℕ → ℕ) → total f 0 ≡ 0
unfolding total
total_zero f = refl

total_suc : (f : ℕ → ℕ) (n : ℕ) → total f (suc n) ≡ f n + total f n
unfolding total
total_suc f n = refl

-- where each is 3 at most
pub total_most : (f : ℕ → ℕ) (n : ℕ) → ((k : ℕ) → f k ≤ 3) → total f n ≤ 3 * n
total_most f zero most = let none = total_zero f in omega (arith, none)
total_most f (suc n) most =
    let all = total_suc f n in
    let one = most n in
    let others = total_most f n most in
    omega (arith, all, one, others)

-- where each is no more than another, and where it is 3 more at most
total_less : (f g : ℕ → ℕ) (n : ℕ) → ((k : ℕ) → f k ≤ g k) → total f n ≤ total g n
total_less f g zero less = let none = total_zero f in omega (arith, none)
total_less f g (suc n) less =
    let old = total_suc f n in
    let all = total_suc g n in
    let one = less n in
    let others = total_less f g n less in
    omega (arith, old, all, one, others)

total_more : (f g : ℕ → ℕ) (n : ℕ) → ((k : ℕ) → f k ≤ g k + 3) → total f n ≤ total g n + 3 * n
total_more f g zero less = let none = total_zero f in omega (arith, none)
total_more f g (suc n) less =
    let old = total_suc f n in
    let all = total_suc g n in
    let one = less n in
    let others = total_more f g n less in
    omega (arith, old, all, one, others)

-- a number below the next of another, and not that one
below_other : (a b : ℕ) → a < suc b → a ≢ b → a < b
below_other a b less apart = elim (below_or a b) [
  | inl low ↦ low
  | inr more ↦ absurd (apart (omega (arith, less, more)))
]

-- where one of them is less
total_fewer : (f g : ℕ → ℕ) (k n : ℕ) → k < n
    → ((j : ℕ) → cond (k == j) 1 0 + f j ≤ g j) → 1 + total f n ≤ total g n
total_fewer f g k zero low less = absurd (omega (arith, low))
total_fewer f g k (suc n) low less =
    let old = total_suc f n in
    let all = total_suc g n in
    let here = less n in
    elim (at_cases k n) [
      | inl same ↦
          let one = ap (λ b. cond b 1 0 + f n) (same_test k n same) in
          let others = total_less f g n (λ j. (let x = less j in omega (arith, x))) in
          omega (arith, old, all, one, here, others)
      | inr other ↦
          let others = total_fewer f g k n (below_other k n low other) less in
          omega (arith, old, all, here, others)
    ]

-- whether an act serves any node
works : Act → Bool
works (Place k a m) = true
works (Claim k a m) = true
works (Finish k a m) = true
works (Drop k a m) = false
works (Refine k) = false
works (Settle k) = false
works (Lose m) = false
works (Trim k) = false

pub working : List Event → ℕ
working es = count_by (λ (e : Event). works e.act) es

working_none : working [] ≡ 0
unfolding working
working_none = refl

working_cons : (e : Event) (es : List Event)
    → working (e ∷ es) ≡ cond (works e.act) 1 0 + working es
unfolding working
working_cons e es = sum_by-cons (λ (x : Event). cond (works x.act) 1 0) e es

-- of all levels an event that serves a node uses up one
serve_total : (f g : ℕ → ℕ) (k n : ℕ) → k < n
    → ((j : ℕ) → cond (k == j) 1 0 + f j ≤ g j + 3 * 0) → 1 + total f n ≤ total g n
serve_total f g k n low less =
    total_fewer f g k n low (λ j. (let x = less j in omega (arith, x)))

-- others use up none
still_total : (f g : ℕ → ℕ) (n : ℕ) → ((j : ℕ) → 0 + f j ≤ g j + 3 * 0) → total f n ≤ total g n
still_total f g n less = total_less f g n (λ j. (let x = less j in omega (arith, x)))

-- and a loss gives back 3 for each node at most
event_total : (f g : ℕ → ℕ) (n : ℕ) (act : Act) → ((k : ℕ) → node_of act ≡ Some k → k < n)
    → ((j : ℕ) → cond (serves j act) 1 0 + f j ≤ g j + 3 * cond (is_loss act) 1 0)
    → cond (works act) 1 0 + total f n ≤ total g n + 3 * cond (is_loss act) n 0
unfolding works
event_total f g n (Place k a m) low less =
    let few = serve_total f g k n (low k refl) less in omega (arith, few)
event_total f g n (Claim k a m) low less =
    let few = serve_total f g k n (low k refl) less in omega (arith, few)
event_total f g n (Finish k a m) low less =
    let few = serve_total f g k n (low k refl) less in omega (arith, few)
event_total f g n (Drop k a m) low less =
    let few = still_total f g n less in omega (arith, few)
event_total f g n (Refine k) low less =
    let few = still_total f g n less in omega (arith, few)
event_total f g n (Settle k) low less =
    let few = still_total f g n less in omega (arith, few)
event_total f g n (Trim k) low less =
    let few = still_total f g n less in omega (arith, few)
event_total f g n (Lose m) low less =
    let few = total_more f g n (λ j. (let x = less j in omega (arith, x))) in
    omega (arith, few)

-- a share for each loss
pub loss_share : (b : Bool) (l n all : ℕ) → all ≡ cond b 1 0 + l → all * n ≡ cond b n 0 + l * n
loss_share true l n all is =
    let more : all ≡ suc l = omega (arith, is) in
    let same = ap (λ x. x * n) more in
    let parts = suc-mul l n in
    omega (arith, same, parts)
loss_share false l n all is =
    let less : all ≡ l = omega (arith, is) in
    let same = ap (λ x. x * n) less in
    omega (arith, same)

-- no event makes the next number smaller
act_next : (p : Plan) (s : State) (seat : ℕ) (act : Act) → IsSound p s → CanAct p s seat act
    → s.graph.next ≤ (acted p s seat act).graph.next
unfolding acted trimmed
act_next p s seat (Place k a m) sound can = no_less s.graph.next s.graph.next refl
act_next p s seat (Claim k a m) sound can = no_less s.graph.next s.graph.next refl
act_next p s seat (Finish k a m) sound can =
    no_less s.graph.next (finished_by p s k m (s.desk.claim k)).graph.next
    (finish_alike p s k m (s.desk.claim k)).next
act_next p s seat (Drop k a m) sound can = no_less s.graph.next s.graph.next refl
act_next p s seat (Refine k) sound can =
    let r = refines_so p s k sound can.0.goes_on can.1 in
    subst (λ (g : Graph). s.graph.next ≤ g.next) (sym r.graph) r.grows.new.grown
act_next p s seat (Settle k) sound can =
    no_less s.graph.next (settled p s.graph).next (settled_next p s.graph)
act_next p s seat (Lose m) sound can = no_less s.graph.next s.graph.next refl
act_next p s seat (Trim k) sound can = no_less s.graph.next s.graph.next refl

event_next : (p : Plan) (s : State) (e : Event) → IsSound p s → CanAct p s e.by e.act
    → s.graph.next ≤ (happens p s e).graph.next
unfolding happens
event_next p s e sound can = act_next p s e.by e.act sound can

no_more_in_all : (a b c : ℕ) → a ≤ b → b ≤ c → a ≤ c
no_more_in_all a b c one others = omega (arith, one, others)

run_next : (p : Plan) (s : State) (es : List Event) → IsSound p s → IsLegalFrom p s es
    → s.graph.next ≤ (after p s es).graph.next
unfolding IsLegalFrom after
run_next p s [] sound legal = no_less s.graph.next s.graph.next refl
run_next p s (e ∷ es) sound legal =
    let one = event_next p s e sound legal.0.act in
    let others = run_next p (happens p s e) es (event_keeps p s e sound legal.0) legal.1 in
    no_more_in_all s.graph.next (happens p s e).graph.next (after p (happens p s e) es).graph.next
    one others

-- a run has no more events that serve a node than all levels and the losses allow
pub worked : (p : Plan) (s : State) (es : List Event) (n : ℕ) → IsSound p s → AreMade s
    → IsLegalFrom p s es → AllAlong InHeadOrder p s es → (after p s es).graph.next ≤ n
    → working es ≤ total (level s) n + 3 * (losing es * n)
unfolding IsLegalFrom after
worked p s [] n sound made legal order below = let none = working_none in omega (arith, none)
worked p s (e ∷ es) n sound made legal order below =
    let now : State = happens p s e in
    let stays = event_keeps p s e sound legal.0 in
    let later = worked p now es n stays (event_made p s e sound legal.0.act made) legal.1 order.1
    below in
    let one = event_next p s e sound legal.0.act in
    let others = run_next p now es stays legal.1 in
    let all_below : (after p now es).graph.next ≤ n = below in
    let few = event_total (level now) (level s) n e.act
    (λ k is. (let low = act_below p s e.by e.act k sound made legal.0.act is in
    omega (arith, low, one, others, all_below)))
    (λ j. event_level p s e j sound legal.0.act order.0) in
    let all = working_cons e es in
    let share = loss_share (is_loss e.act) (losing es) n (losing (e ∷ es)) (losing_cons e es) in
    omega (arith, later, few, all, share)

-- each event of a run in head order is of one kind
one_kind : (s : State) (act : Act) → InHeadOrder s act
    → cond (advances act) 1 0 + (cond (is_loss act) 1 0 + cond (works act) 1 0) ≡ 1
unfolding works
one_kind s (Place k a m) order = refl
one_kind s (Claim k a m) order = refl
one_kind s (Finish k a m) order = refl
one_kind s (Drop k a m) order = absurd order
one_kind s (Refine k) order = refl
one_kind s (Settle k) order = refl
one_kind s (Lose m) order = refl
one_kind s (Trim k) order = absurd order

pub all_kinds : (p : Plan) (s : State) (es : List Event) → AllAlong InHeadOrder p s es
    → length es ≡ taken es + (losing es + working es)
unfolding taken losing working
all_kinds p s [] order = omega arith
all_kinds p s (e ∷ es) order =
    let later = all_kinds p (happens p s e) es order.1 in
    let one = one_kind s e.act order.0 in
    let a = taken_cons e es in
    let b = losing_cons e es in
    let c = working_cons e es in
    omega (arith, later, one, a, b, c)

-- in head order the head alone is refined
order_head : (s : State) (act : Act) → InHeadOrder s act → RefinesHead s act
order_head s (Place k a m) order = tt
order_head s (Claim k a m) order = tt
order_head s (Finish k a m) order = tt
order_head s (Drop k a m) order = tt
order_head s (Refine k) order = order
order_head s (Settle k) order = tt
order_head s (Lose m) order = tt
order_head s (Trim k) order = tt

pub order_heads : (p : Plan) (s : State) (es : List Event) → AllAlong InHeadOrder p s es
    → AllAlong RefinesHead p s es
order_heads p s [] order = tt
order_heads p s (e ∷ es) order =
    (order_head s e.act order.0, order_heads p (happens p s e) es order.1)

pub few_steps : (p : Plan) (es : List Event) → IsRunnable p → IsLegal p es
    → AllAlong InHeadOrder p (first_state p) es → taken es ≤ 4 * (meaning p).steps
unfolding taken
few_steps p es runnable legal order =
    head_steps p es runnable legal (order_heads p (first_state p) es order)

pub few_events : (p : Plan) (es : List Event) → IsRunnable p → IsLegal p es
    → AllAlong InHeadOrder p (first_state p) es
    → length es
    ≤ 4 * (meaning p).steps + losing es + 3 * (suc (losing es) * (replay p es).graph.next)
few_events p es runnable legal order =
    let n : ℕ = (replay p es).graph.next in
    let steps = few_steps p es runnable legal order in
    let most = total_most (level (first_state p)) n
    (λ k. level_most (records (first_state p).graph (first_state p).desk.stores k)
    ((first_state p).desk.claim k) ((first_state p).desk.ticket k)) in
    let few = worked p (first_state p) es n (starts p runnable) (none_made p) legal order
    (no_less n n refl) in
    let all = all_kinds p (first_state p) es order in
    let parts = suc-mul (losing es) n in
    omega (arith, steps, most, few, all, parts)

-- the law
pub events_counted : EventCountLaw
unfolding losing
events_counted p es runnable legal order = few_events p es runnable legal order
