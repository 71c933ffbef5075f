-- The losses that a seat appends first are all that are due.
use Rattle.std.proofs.Common.{◌≡◌, ℕ, suc, List, [], ◌∷◌, ◌++◌, length, length-append, drop, Bool, true, false, cond, Option, Some, None, is_some, refl, ap, sym, subst, ◌∙◌, arith}
use Rattle.std.specs.Prelude.{nat_le}
use Rattle.std.specs.List.{All}
use Rattle.pyd_value.specs.declared.fault.End.{End}
use Rattle.pyd_board.specs.declared.event.Act.{Act}
use Rattle.pyd_board.specs.declared.event.Act.TheVariants.{Place, Claim, Finish, Drop, Refine, Settle, Lose, Trim}
use Rattle.pyd_board.specs.declared.event.Event.{Event}
use Rattle.pyd_board.specs.declared.setup.Loss.{Loss}
use Rattle.pyd_board.specs.Histories.{entries}
use Rattle.pyd_boards.specs.Calls as calls
use Rattle.pyd_boards.specs.Calls.{AreDue, IsIn, NoneIn, is_loss, kind_of}
use Rattle.pyd_runs.specs.Effects.{State, acted, happens}
use Rattle.pyd_runs.specs.Enabled.{CanAct, CanLose, IsUnbarred, due}
use Rattle.pyd_runs.specs.Following.{BeginningLaw}
use Rattle.pyd_runs.specs.Losses.{due_at}
use Rattle.pyd_runs.specs.NextLosses.{due_after, due_losses, loses}
use Rattle.pyd_runs.specs.Plans.{Plan}
use Rattle.pyd_runs.specs.Replay.{after, replay}
use Rattle.pyd_core.specs.declared.keeper.Core.{Core}
use Rattle.pyd_core.specs.Cores.{plan_of}
use Rattle.pyd_core.specs.Facts.{facts_of, may_come}
use Rattle.pyd_core.specs.Losing.{losses_by}
use Rattle.pyd_steps.specs.Losses.{losses_first}
use Rattle.pyd_cluster.proofs.Goings.{all_losses}

-- the events behind one more are one more
longer : (es : List Event) (e : Event) (n : ℕ) → n ≡ length es → suc n ≡ length (es ++ e ∷ [])
longer es e n is = let all = length-append es (e ∷ []) in omega (arith, is, all)

-- behind the losses that come due none is due
none_due : (p : Plan) (s : State) (seat nth n : ℕ) (ls : List Loss) → n ≡ length s.journal
    → s.losses ≡ ls → due (after p s (loses seat nth (due_after n ls))) ≡ None
unfolding after happens acted
none_due p s seat nth n [] long is = ap (due_at (length s.journal)) is
none_due p s seat nth n (l ∷ ls) long is =
    let e : Event = record { by = seat; nth = nth; act = Lose l.machine } in
    by_test (nat_le l.event n) refl
    (none_due p (happens p s e) seat (suc nth) (suc n) ls (longer s.journal e n long)
    (ap (drop 1) is))
  where
    by_test : (b : Bool) → nat_le l.event n ≡ b
        → due (after p (happens p s (record { by = seat; nth = nth; act = Lose l.machine }))
        (loses seat (suc nth) (due_after (suc n) ls))) ≡ None
        → due (after p s (loses seat nth (cond b (l.machine ∷ due_after (suc n) ls) []))) ≡ None
    by_test false test rest =
        ap (λ (i : ℕ). due_at i s.losses) (sym long) ∙ ap (due_at n) is
        ∙ ap (λ b. cond b (Some l.machine) None) test
    by_test true test rest = rest

-- what loses a machine is a loss
machine_of : (act : Act) → kind_of act ≡ calls.loses → (machine : ℕ) × (act ≡ Lose machine)
machine_of (Lose machine) is = (machine, refl)
machine_of (Place k attempt machine) is = absurd (cc (is))
machine_of (Claim k attempt machine) is = absurd (cc (is))
machine_of (Finish k attempt machine) is = absurd (cc (is))
machine_of (Drop k attempt machine) is = absurd (cc (is))
machine_of (Refine k) is = absurd (cc (is))
machine_of (Settle k) is = absurd (cc (is))
machine_of (Trim k) is = absurd (cc (is))

-- an end isn't none
no_end : (o : Option End) (end : End) → o ≡ None → o ≡ Some end → ⊥
no_end None end none some = cc (some)
no_end (Some e) end none some = cc (none)

-- behind the losses that a seat appends first none is due while the run goes on
pub unbarred : (p : Plan) (s : State) (seat : ℕ) → IsUnbarred (after p s (losses_by seat s))
unfolding after
unbarred p s seat = by_end s.graph.end refl
  where
    by_end : (o : Option End) → s.graph.end ≡ o
        → IsUnbarred (after p s (cond (is_some o) [] (due_losses seat s)))
    by_end (Some end) is goes_on = absurd (no_end s.graph.end end goes_on is)
    by_end None is goes_on =
        none_due p s seat (entries seat s.journal) (length s.journal) s.losses refl refl

-- also where they stand behind other events
pub unbarred_behind : BeginningLaw → (p : Plan) (es : List Event) (seat : ℕ)
    → IsUnbarred (replay p (es ++ losses_by seat (replay p es)))
unbarred_behind beginnings p es seat =
    subst IsUnbarred (sym (beginnings p es (losses_by seat (replay p es))).state)
    (unbarred p (replay p es) seat)

-- what is due isn't none
none_not_some : (o : Option ℕ) (machine : ℕ) → o ≡ None → o ≡ Some machine → ⊥
none_not_some None machine none some = cc (some)
none_not_some (Some m) machine none some = cc (none)

-- no seat may append a loss where none is due
barred : (s : State) (by machine : ℕ) → IsUnbarred s → CanLose s by machine → ⊥
barred s by machine none can =
    none_not_some (due s) machine (none can.goes_on) can.is_due

-- so no loss may come behind them
pub none_left : BeginningLaw → (p : Plan) (es : List Event) (seat : ℕ)
    → NoneIn (facts_of p) (may_come p) calls.loses 0 (es ++ losses_by seat (replay p es))
none_left beginnings p es seat e may is =
    let loss = machine_of e.act is.of_kind in
    let s = replay p (es ++ losses_by seat (replay p es)) in
    barred s e.by loss.0 (unbarred_behind beginnings p es seat)
    (subst (CanAct p s e.by) loss.1 may.1.act)

-- these losses are those that were due
pub are_due : BeginningLaw → (c : Core) (seat : ℕ)
    → AreDue (facts_of (plan_of c)) (may_come (plan_of c)) 0 c.log.journal.items
    (losses_first seat c)
are_due beginnings c seat =
    let p = plan_of c in
    let s = replay p c.log.journal.items in
    record {
      are_losses = all_losses (IsIn (facts_of p) calls.loses 0) seat
          (λ n machine. record { of_kind = refl; in_run = refl }) s;
      none_left = none_left beginnings p c.log.journal.items seat;
    }

-- each of them loses a machine
pub all_lose : (c : Core) (seat : ℕ)
    → All (λ e. is_loss e.act ≡ true) (losses_first seat c)
all_lose c seat =
    all_losses (λ e. is_loss e.act ≡ true) seat (λ n machine. refl)
    (replay (plan_of c) c.log.journal.items)
