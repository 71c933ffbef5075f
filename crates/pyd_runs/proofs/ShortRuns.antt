-- Short runs of a small script.
use Rattle.std.proofs.Common.{◌≡◌, ◌<◌, ◌++◌, ℕ, suc, false, List, [], ◌∷◌, Option, None, Some, inl, refl, ap, sym, ◌∙◌, subst, arith}
use Rattle.std.specs.Prelude.{IsTrue, Result, Ok, if◌then◌else◌}
use Rattle.std.specs.List.{Contains}
use Rattle.std.proofs.lemmas.List.Elements.{All-nil}
use Rattle.pyd_value.specs.declared.fault.Fault.{Fault}
use Rattle.pyd_value.specs.declared.value.Value.{Value}
use Rattle.pyd_value.specs.declared.value.Value.TheVariants as value
use Rattle.pyd_value.specs.declared.fault.End.{End}
use Rattle.pyd_value.specs.declared.fault.Outcome.TheVariants as outcome
use Rattle.pyd_tree.specs.declared.file.File.{File}
use Rattle.pyd_tree.specs.declared.statement.Stmt.{Stmt}
use Rattle.pyd_names.specs.Binding.{module_variables}
use Rattle.pyd_scope.specs.Numbering.{start}
use Rattle.pyd_meaning.specs.declared.ran.Ran.{Ran}
use Rattle.pyd_meaning.specs.Evaluation.{settled as alone}
use Rattle.pyd_meaning.specs.Rows.{IsScript}
use Rattle.pyd_board.specs.declared.event.Act.TheVariants.{Place, Claim, Finish, Drop, Settle, Lose}
use Rattle.pyd_board.specs.declared.event.Event.{Event}
use Rattle.pyd_board.specs.declared.setup.Loss.{Loss}
use Rattle.pyd_board.specs.Histories.{entries}
use Rattle.pyd_ir.specs.declared.arg.Arg.TheVariants.{Known}
use Rattle.pyd_ir.specs.declared.node.Node.{Node}
use Rattle.pyd_ir.specs.Arguments.{is_pure}
use Rattle.pyd_ir.specs.Inputs.{leaf_meaning}
use Rattle.pyd_ir.specs.Meaning.{job_ran, ran_of}
use Rattle.pyd_translate.specs.Making.{Piece}
use Rattle.pyd_translate.specs.Slots.{unbound_slots}
use Rattle.pyd_translate.specs.Statements.{Done, done}
use Rattle.pyd_translate.specs.Rests.{block_unfolds}
use Rattle.pyd_runs.specs.Plans.{Plan, IsSeatOf, limits_of}
use Rattle.pyd_runs.specs.Graphs.{end_at}
use Rattle.pyd_runs.specs.Desks.{Placed, Held, first_desk}
use Rattle.pyd_runs.specs.Records.{records, ready, is_ready}
use Rattle.pyd_runs.specs.Reach.{Needed, in_chain}
use Rattle.pyd_runs.specs.Effects.{State, first_state, passed, settled_as, settled_chain, settled, finished_by, kept_by_driver, kept_by_machine, is_run, acted, happens}
use Rattle.pyd_runs.specs.Enabled.{Enabled, CanAct, IsLoss, IsQuiet, Lives, Holds, WaitsNot, due}
use Rattle.pyd_runs.specs.Replay.{IsLegalFrom, after}
use Rattle.pyd_runs.specs.Rows.{small, plan_of, first_sum, second_sum, small_print, by, first_loss, InTurnRow, AtOnceRow, SecondFirstRow, LostInClaimRow, LostWhenDoneRow, OnlyLossRow}
use Rattle.pyd_runs.proofs.Without.{here, behind}
use Rattle.pyd_runs.proofs.Barring.{due_bars}
use Rattle.pyd_runs.proofs.Small.{three, seven, printed, small_piece}

-- from a state on a run may come, after which these lines are out and it has ended so
record Leads (p : Plan) (s : State) (es : List Event) (lines : List (List ℕ)) (end : Option End)
    : Type 0 where
  legal : IsLegalFrom p s es
  out : (after p s es).graph.out ≡ lines
  ends : (after p s es).graph.end ≡ end

-- no event more
over : (p : Plan) (s : State) (lines : List (List ℕ)) (end : Option End)
    → s.graph.out ≡ lines → s.graph.end ≡ end → Leads p s [] lines end
unfolding IsLegalFrom after
over p s lines end out is = record { legal = tt; out = out; ends = is }

-- one event more
next : (p : Plan) (s t : State) (e : Event) (es : List Event) (lines : List (List ℕ))
    (end : Option End) → happens p s e ≡ t → Enabled p s e → Leads p t es lines end
    → Leads p s (e ∷ es) lines end
unfolding IsLegalFrom after
next p s t e es lines end is may more =
    let r = subst (λ (x : State). Leads p x es lines end) (sym is) more in
    record { legal = (may, r.legal); out = r.out; ends = r.ends }

-- the state before any event, with the nodes of a piece
abbrev begun_with : Plan → Piece Done → State
begun_with p piece = record {
  graph = record {
    past = [];
    chain = piece.nodes;
    next = piece.next;
    given = λ node port. None;
    driver = λ node. None;
    out = [];
    end = end_at piece.nodes;
  };
  desk = first_desk;
  losses = p.setup.losses;
  lost = λ machine. false;
  journal = [];
}

module _ (file : File) (losses : List Loss) where
  abbrev p : Plan
  p = plan_of file losses

  -- the small script's own nodes
  abbrev own_piece : Piece Done
  own_piece = record {
    nodes = first_sum ∷ second_sum ∷ small_print ∷ [];
    got = Some (done (unbound_slots (module_variables file)) (Known value.None));
    next = 3;
  }

  -- what holds of the state with them, holds of the script's first one
  script_state : IsScript file small → (Holds : State → Type 0) → Holds (begun_with p own_piece)
      → Holds (first_state p)
  script_state is Holds begun =
      subst (λ (ss : List Stmt). Holds (begun_with p (block_unfolds file 0 0
      (record { stmts = ss; point = start }) [] (unbound_slots (module_variables file)) 0)))
      (sym is.statements_are)
      (subst (λ (piece : Piece Done). Holds (begun_with p piece)) (sym (small_piece file is)) begun)

  -- what they lead to, the script does
  script_runs : IsScript file small → (es : List Event) (lines : List (List ℕ)) (end : Option End)
      → Leads p (begun_with p own_piece) es lines end → Leads p (first_state p) es lines end
  script_runs is es lines end run = script_state is (λ s. Leads p s es lines end) run

  -- a seat of the one worker of a machine
  seat_of : (machine : ℕ) → IsSeatOf p machine (suc machine)
  seat_of machine = record { from = omega arith; to = omega arith }

  -- all is quiet
  quiet_at : (s : State) → s.graph.end ≡ None → due s ≡ None → IsQuiet s
  quiet_at s goes none = record { goes_on = goes; none_due = none }

  -- a machine lives
  living : (s : State) (machine : ℕ) → machine < 2 → s.lost machine ≡ false → Lives p s.lost machine
  living s machine low there = record { is_machine = low; not_lost = there }

  -- the claim is the one worker's
  holding : (o : Option Held) (attempt machine : ℕ) (c : Held) → o ≡ Some c → c.attempt ≡ attempt
      → c.machine ≡ machine → c.seat ≡ suc machine → Holds o (suc machine) attempt machine
  holding o attempt machine c is of on seat =
      subst (λ x. Holds x (suc machine) attempt machine) (sym is)
      (record { of_attempt = of; on_machine = on; by_seat = seat })

  -- the state after a job was done with this outcome
  abbrev done_with : State → ℕ → ℕ → ℕ → ℕ → Ran → State
  done_with s nth k attempt machine ran =
      record (kept_by_machine s k machine ran) {
        journal = s.journal ++ by (suc machine) nth (Finish k attempt machine) ∷ [];
      }

  finishes : (s : State) (nth k attempt machine : ℕ) (c : Held) (ran : Ran)
      → s.desk.claim k ≡ Some c → is_run c.job.task ≡ false
      → job_ran file (limits_of p) c.job ≡ ran
      → happens p s (by (suc machine) nth (Finish k attempt machine))
      ≡ done_with s nth k attempt machine ran
  unfolding happens acted
  finishes s nth k attempt machine c ran claim pure does =
      let journal = s.journal ++ by (suc machine) nth (Finish k attempt machine) ∷ [] in
      let ran = job_ran file (limits_of p) c.job in
      ap (λ o. record (finished_by p s k machine o) { journal = journal }) claim
      ∙ ap (λ b. record (if b then kept_by_driver s k ran else kept_by_machine s k machine ran)
      { journal = journal }) pure
      ∙ ap (λ r. record (kept_by_machine s k machine r) { journal = journal }) does

  -- the state after the head gave this value
  abbrev settled_with : State → ℕ → ℕ → Node → List Node → List (List ℕ) → Value → State
  settled_with s nth k n rest lines v = record s {
    graph = passed (is_pure n.work) s.graph n rest lines v;
    journal = s.journal ++ by 0 nth (Settle k) ∷ [];
  }

  settles : (s : State) (nth k : ℕ) (n : Node) (rest : List Node) (lines : List (List ℕ))
      (v : Value) (steps : ℕ) → s.graph.chain ≡ n ∷ rest
      → leaf_meaning file (limits_of p) s.graph.given n
      ≡ Some (record { lines = lines; result = Ok v; steps = steps })
      → happens p s (by 0 nth (Settle k)) ≡ settled_with s nth k n rest lines v
  unfolding happens acted settled
  settles s nth k n rest lines v steps chain does =
      let journal = s.journal ++ by 0 nth (Settle k) ∷ [] in
      ap (λ ns. record s { graph = settled_chain p s.graph ns; journal = journal }) chain
      ∙ ap (λ o. record s { graph = settled_as s.graph n rest o; journal = journal }) does

  -- a ticket is placed, and the run goes on
  place : (s : State) (nth k attempt machine : ℕ) (n : Node) (es : List Event)
      (lines : List (List ℕ)) (end : Option End) → s.graph.end ≡ None → due s ≡ None
      → Contains s.graph.chain n → n.id ≡ k → nth ≡ entries 0 s.journal
      → IsTrue (is_ready s.graph s.desk.stores k) → records s.graph s.desk.stores k ≡ None
      → s.desk.ticket k ≡ None → s.desk.claim k ≡ None → attempt ≡ suc (s.desk.places k)
      → machine < 2 → s.lost machine ≡ false
      → Leads p (happens p s (by 0 nth (Place k attempt machine))) es lines end
      → Leads p s (by 0 nth (Place k attempt machine) ∷ es) lines end
  place s nth k attempt machine n es lines end goes none at number is ready_now unrecorded free
      unclaimed count low there more =
      next p s _ _ es lines end refl (record {
        seat = omega arith;
        nth = is;
        act = (
          quiet_at s goes none,
          record {
            is_ready = ready_now;
            is_needed = subst (Needed s.graph s.desk.stores) number (in_chain n at);
            no_record = unrecorded;
            no_ticket = free;
            no_claim = unclaimed;
            next_attempt = count;
            lives = living s machine low there;
          },
        );
      }) more

  -- it is claimed
  claim : (s : State) (nth k attempt machine : ℕ) (t : Placed) (es : List Event)
      (lines : List (List ℕ)) (end : Option End) → s.graph.end ≡ None → due s ≡ None
      → nth ≡ entries (suc machine) s.journal → s.desk.ticket k ≡ Some t → t.attempt ≡ attempt
      → machine < 2 → s.lost machine ≡ false
      → Leads p (happens p s (by (suc machine) nth (Claim k attempt machine))) es lines end
      → Leads p s (by (suc machine) nth (Claim k attempt machine) ∷ es) lines end
  claim s nth k attempt machine t es lines end goes none is live of low there more =
      next p s _ _ es lines end refl (record {
        seat = omega (arith, low);
        nth = is;
        act = (
          quiet_at s goes none,
          record {
            ticket = t;
            is_live = live;
            of_attempt = of;
            lives = living s machine low there;
            by_seat = seat_of machine;
          },
        );
      }) more

  -- its job is done
  finish : (s : State) (nth k attempt machine : ℕ) (c : Held) (ran : Ran) (es : List Event)
      (lines : List (List ℕ)) (end : Option End) → s.graph.end ≡ None → due s ≡ None
      → nth ≡ entries (suc machine) s.journal → machine < 2 → s.lost machine ≡ false
      → s.desk.claim k ≡ Some c → c.attempt ≡ attempt → c.machine ≡ machine → c.seat ≡ suc machine
      → is_run c.job.task ≡ false → job_ran file (limits_of p) c.job ≡ ran
      → Leads p (done_with s nth k attempt machine ran) es lines end
      → Leads p s (by (suc machine) nth (Finish k attempt machine) ∷ es) lines end
  finish s nth k attempt machine c ran es lines end goes none is low there live of on seat pure does
      more =
      next p s _ _ es lines end (finishes s nth k attempt machine c ran live pure does) (record {
        seat = omega (arith, low);
        nth = is;
        act = (
          quiet_at s goes none,
          record {
            holds = holding (s.desk.claim k) attempt machine c live of on seat;
            lives = living s machine low there;
          },
        );
      }) more

  -- the head is settled
  settle : (s : State) (nth k : ℕ) (n : Node) (rest : List Node) (es : List Event)
      (lines : List (List ℕ)) (end : Option End) (own : List (List ℕ)) (v : Value) (steps : ℕ)
      → s.graph.end ≡ None → due s ≡ None → nth ≡ entries 0 s.journal
      → s.graph.chain ≡ n ∷ rest → n.id ≡ k → WaitsNot s k n.work
      → leaf_meaning file (limits_of p) s.graph.given n
      ≡ Some (record { lines = own; result = Ok v; steps = steps })
      → Leads p (settled_with s nth k n rest own v) es lines end
      → Leads p s (by 0 nth (Settle k) ∷ es) lines end
  settle s nth k n rest es lines end own v steps goes none is chain number waits_not does more =
      next p s _ _ es lines end (settles s nth k n rest own v steps chain does) (record {
        seat = omega arith;
        nth = is;
        act = (
          quiet_at s goes none,
          record {
            head = n;
            rest = rest;
            chain = chain;
            number = number;
            waits_not = waits_not;
          },
        );
      }) more

  -- a machine is lost
  lose : (s : State) (nth machine : ℕ) (es : List Event) (lines : List (List ℕ))
      (end : Option End) → s.graph.end ≡ None → due s ≡ Some machine
      → nth ≡ entries 0 s.journal
      → Leads p (happens p s (by 0 nth (Lose machine))) es lines end
      → Leads p s (by 0 nth (Lose machine) ∷ es) lines end
  lose s nth machine es lines end goes is_due is more =
      next p s _ _ es lines end refl (record {
        seat = omega arith;
        nth = is;
        act = record { goes_on = goes; is_due = is_due; by = λ losses. refl };
      }) more

  -- a claim that a loss undid is let go
  let_go : (s : State) (nth k attempt machine : ℕ) (c : Held) (es : List Event)
      (lines : List (List ℕ)) (end : Option End) → due s ≡ None
      → nth ≡ entries (suc machine) s.journal → machine < 2
      → s.desk.undone k attempt ≡ Some c → c.attempt ≡ attempt → c.machine ≡ machine
      → c.seat ≡ suc machine
      → Leads p (happens p s (by (suc machine) nth (Drop k attempt machine))) es lines end
      → Leads p s (by (suc machine) nth (Drop k attempt machine) ∷ es) lines end
  let_go s nth k attempt machine c es lines end none is low undone of on seat more =
      next p s _ _ es lines end refl (record {
        seat = omega (arith, low);
        nth = is;
        act = inl (
          (λ goes. none),
          holding (s.desk.undone k attempt) attempt machine c undone of on seat,
        );
      }) more

-- where the sums stand
first_there : Contains (first_sum ∷ second_sum ∷ small_print ∷ []) first_sum
first_there = here first_sum (second_sum ∷ small_print ∷ [])

second_there : Contains (second_sum ∷ small_print ∷ []) second_sum
second_there = here second_sum (small_print ∷ [])

second_behind : Contains (first_sum ∷ second_sum ∷ small_print ∷ []) second_sum
second_behind = behind first_sum (second_sum ∷ small_print ∷ []) second_sum second_there

-- what a sum does, and what is left of its job
sum_does : (r : Result Value Fault) (v : Value) → r ≡ Ok v
    → Some (alone r) ≡ Some (record { lines = []; result = Ok v; steps = 0 })
unfolding alone
sum_does r v is = ap (λ r. Some (alone r)) is

sum_leaves : (r : Result Value Fault) (v : Value) → r ≡ Ok v
    → ran_of (alone r) ≡ record { outcome = outcome.Ok v; lines = [] }
unfolding alone
sum_leaves r v is = ap (λ r. ran_of (alone r)) is

-- the second sum is placed once the first one is settled
pub in_turn : InTurnRow
unfolding happens acted ready
in_turn file is =
    let losses : List Loss = [] in
    let r = script_runs file losses is _ _ _
    (place file losses _ 0 0 1 0 first_sum _ _ _ refl refl first_there
    refl refl refl refl refl refl refl (omega arith) refl
    (claim file losses _ 0 0 1 0 _ _ _ _ refl refl refl refl refl (omega arith) refl
    (finish file losses _ 1 0 1 0 _ _ _ _ _ refl refl refl (omega arith) refl
    refl refl refl refl refl (sum_leaves _ _ three)
    (settle file losses _ 1 0 first_sum (second_sum ∷ small_print ∷ []) _ _ _ _ _ _
    refl refl refl refl refl tt (sum_does _ _ three)
    (place file losses _ 2 1 1 1 second_sum _ _ _ refl refl second_there
    refl refl refl refl refl refl refl (omega arith) refl
    (claim file losses _ 0 1 1 1 _ _ _ _ refl refl refl refl refl (omega arith) refl
    (finish file losses _ 1 1 1 1 _ _ _ _ _ refl refl refl (omega arith) refl
    refl refl refl refl refl (sum_leaves _ _ seven)
    (settle file losses _ 3 1 second_sum (small_print ∷ []) _ _ _ _ _ _
    refl refl refl refl refl tt (sum_does _ _ seven)
    (settle file losses _ 4 2 small_print [] _ _ _ _ _ _
    refl refl refl refl refl refl (ap Some printed)
    (over (plan_of file losses) _ _ _ refl refl)))))))))) in
    (r.legal, r.out, r.ends)

-- both sums are claimed at once, on two machines
pub at_once : AtOnceRow
unfolding happens acted ready
at_once file is =
    let losses : List Loss = [] in
    let r = script_runs file losses is _ _ _
    (place file losses _ 0 0 1 0 first_sum _ _ _ refl refl first_there
    refl refl refl refl refl refl refl (omega arith) refl
    (place file losses _ 1 1 1 1 second_sum _ _ _ refl refl second_behind
    refl refl refl refl refl refl refl (omega arith) refl
    (claim file losses _ 0 1 1 1 _ _ _ _ refl refl refl refl refl (omega arith) refl
    (claim file losses _ 0 0 1 0 _ _ _ _ refl refl refl refl refl (omega arith) refl
    (finish file losses _ 1 1 1 1 _ _ _ _ _ refl refl refl (omega arith) refl
    refl refl refl refl refl (sum_leaves _ _ seven)
    (finish file losses _ 1 0 1 0 _ _ _ _ _ refl refl refl (omega arith) refl
    refl refl refl refl refl (sum_leaves _ _ three)
    (settle file losses _ 2 0 first_sum (second_sum ∷ small_print ∷ []) _ _ _ _ _ _
    refl refl refl refl refl tt (sum_does _ _ three)
    (settle file losses _ 3 1 second_sum (small_print ∷ []) _ _ _ _ _ _
    refl refl refl refl refl tt (sum_does _ _ seven)
    (settle file losses _ 4 2 small_print [] _ _ _ _ _ _
    refl refl refl refl refl refl (ap Some printed)
    (over (plan_of file losses) _ _ _ refl refl)))))))))) in
    (r.legal, r.out, r.ends)

-- the second sum is done before the first one is placed
pub second_first : SecondFirstRow
unfolding happens acted ready
second_first file is =
    let losses : List Loss = [] in
    let r = script_runs file losses is _ _ _
    (place file losses _ 0 1 1 0 second_sum _ _ _ refl refl second_behind
    refl refl refl refl refl refl refl (omega arith) refl
    (claim file losses _ 0 1 1 0 _ _ _ _ refl refl refl refl refl (omega arith) refl
    (finish file losses _ 1 1 1 0 _ _ _ _ _ refl refl refl (omega arith) refl
    refl refl refl refl refl (sum_leaves _ _ seven)
    (place file losses _ 1 0 1 0 first_sum _ _ _ refl refl first_there
    refl refl refl refl refl refl refl (omega arith) refl
    (claim file losses _ 2 0 1 0 _ _ _ _ refl refl refl refl refl (omega arith) refl
    (finish file losses _ 3 0 1 0 _ _ _ _ _ refl refl refl (omega arith) refl
    refl refl refl refl refl (sum_leaves _ _ three)
    (settle file losses _ 2 0 first_sum (second_sum ∷ small_print ∷ []) _ _ _ _ _ _
    refl refl refl refl refl tt (sum_does _ _ three)
    (settle file losses _ 3 1 second_sum (small_print ∷ []) _ _ _ _ _ _
    refl refl refl refl refl tt (sum_does _ _ seven)
    (settle file losses _ 4 2 small_print [] _ _ _ _ _ _
    refl refl refl refl refl refl (ap Some printed)
    (over (plan_of file losses) _ _ _ refl refl)))))))))) in
    (r.legal, r.out, r.ends)

-- machine 0 is lost while it does the first sum
pub lost_in_claim : LostInClaimRow
unfolding happens acted ready
lost_in_claim file is =
    let losses : List Loss = record { event = 2; machine = 0 } ∷ [] in
    let r = script_runs file losses is _ _ _
    (place file losses _ 0 0 1 0 first_sum _ _ _ refl refl first_there
    refl refl refl refl refl refl refl (omega arith) refl
    (claim file losses _ 0 0 1 0 _ _ _ _ refl refl refl refl refl (omega arith) refl
    (lose file losses _ 1 0 _ _ _ refl refl refl
    (let_go file losses _ 1 0 1 0 _ _ _ _ refl refl (omega arith) refl refl refl refl
    (place file losses _ 2 0 2 1 first_sum _ _ _ refl refl first_there
    refl refl refl refl refl refl refl (omega arith) refl
    (claim file losses _ 0 0 2 1 _ _ _ _ refl refl refl refl refl (omega arith) refl
    (finish file losses _ 1 0 2 1 _ _ _ _ _ refl refl refl (omega arith) refl
    refl refl refl refl refl (sum_leaves _ _ three)
    (settle file losses _ 3 0 first_sum (second_sum ∷ small_print ∷ []) _ _ _ _ _ _
    refl refl refl refl refl tt (sum_does _ _ three)
    (place file losses _ 4 1 1 1 second_sum _ _ _ refl refl second_there
    refl refl refl refl refl refl refl (omega arith) refl
    (claim file losses _ 2 1 1 1 _ _ _ _ refl refl refl refl refl (omega arith) refl
    (finish file losses _ 3 1 1 1 _ _ _ _ _ refl refl refl (omega arith) refl
    refl refl refl refl refl (sum_leaves _ _ seven)
    (settle file losses _ 5 1 second_sum (small_print ∷ []) _ _ _ _ _ _
    refl refl refl refl refl tt (sum_does _ _ seven)
    (settle file losses _ 6 2 small_print [] _ _ _ _ _ _
    refl refl refl refl refl refl (ap Some printed)
    (over (plan_of file losses) _ _ _ refl refl)))))))))))))) in
    (r.legal, r.out, r.ends)

-- machine 0 is lost once the first sum is done there
pub lost_when_done : LostWhenDoneRow
unfolding happens acted ready
lost_when_done file is =
    let losses : List Loss = record { event = 3; machine = 0 } ∷ [] in
    let r = script_runs file losses is _ _ _
    (place file losses _ 0 0 1 0 first_sum _ _ _ refl refl first_there
    refl refl refl refl refl refl refl (omega arith) refl
    (claim file losses _ 0 0 1 0 _ _ _ _ refl refl refl refl refl (omega arith) refl
    (finish file losses _ 1 0 1 0 _ _ _ _ _ refl refl refl (omega arith) refl
    refl refl refl refl refl (sum_leaves _ _ three)
    (lose file losses _ 1 0 _ _ _ refl refl refl
    (place file losses _ 2 0 2 1 first_sum _ _ _ refl refl first_there
    refl refl refl refl refl refl refl (omega arith) refl
    (claim file losses _ 0 0 2 1 _ _ _ _ refl refl refl refl refl (omega arith) refl
    (finish file losses _ 1 0 2 1 _ _ _ _ _ refl refl refl (omega arith) refl
    refl refl refl refl refl (sum_leaves _ _ three)
    (settle file losses _ 3 0 first_sum (second_sum ∷ small_print ∷ []) _ _ _ _ _ _
    refl refl refl refl refl tt (sum_does _ _ three)
    (place file losses _ 4 1 1 1 second_sum _ _ _ refl refl second_there
    refl refl refl refl refl refl refl (omega arith) refl
    (claim file losses _ 2 1 1 1 _ _ _ _ refl refl refl refl refl (omega arith) refl
    (finish file losses _ 3 1 1 1 _ _ _ _ _ refl refl refl (omega arith) refl
    refl refl refl refl refl (sum_leaves _ _ seven)
    (settle file losses _ 5 1 second_sum (small_print ∷ []) _ _ _ _ _ _
    refl refl refl refl refl tt (sum_does _ _ seven)
    (settle file losses _ 6 2 small_print [] _ _ _ _ _ _
    refl refl refl refl refl refl (ap Some printed)
    (over (plan_of file losses) _ _ _ refl refl)))))))))))))) in
    (r.legal, r.out, r.ends)

-- a loss that is due before any event is the one event that may come
pub only_loss : OnlyLossRow
only_loss file is e =
    let p = plan_of file first_loss in
    let s : State = begun_with p (own_piece file first_loss) in
    script_state file first_loss is
    (λ (x : State). (Enabled p x e → e ≡ by 0 0 (Lose 1)) × Enabled p x (by 0 0 (Lose 1))) (
      (λ may.
          (let act = due_bars p s e 1 refl refl may in
          let can = subst (CanAct p s e.by) act may.act in
          let seat = can.by (All-nil (λ (x : Event). IsLoss x.act)) in
          λ i. record { by = seat i; nth = may.nth i; act = act i })),
      record {
        seat = omega arith;
        nth = refl;
        act = record { goes_on = refl; is_due = refl; by = λ x. refl };
      },
    )
