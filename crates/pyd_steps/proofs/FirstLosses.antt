-- Claims behind the losses that are due.
use Rattle.std.proofs.Common.{ℕ, suc, List, [], ◌∷◌, ◌++◌, Bool, true, false, cond, is_some, length, sym, subst, ◌∙◌}
use Rattle.std.specs.List.{All}
use Rattle.std.proofs.lemmas.List.Elements.{All-nil, All-cons, All-head, All-tail}
use Rattle.pyd_board.specs.declared.event.Act.{Act}
use Rattle.pyd_board.specs.declared.event.Act.TheVariants.{Place, Claim, Finish, Drop, Refine, Settle, Lose, Trim}
use Rattle.pyd_board.specs.declared.event.Event.{Event}
use Rattle.pyd_board.specs.Histories.{entries}
use Rattle.pyd_ir.specs.declared.job.Job.{Job}
use Rattle.pyd_runs.specs.Claims.{HoldLaw, IsHeld, LetsGo}
use Rattle.pyd_runs.specs.Desks.{Held}
use Rattle.pyd_runs.specs.Effects.{State, happens}
use Rattle.pyd_runs.specs.Enabled.{IsLoss}
use Rattle.pyd_runs.specs.Following.{BeginningLaw}
use Rattle.pyd_runs.specs.Laws.{EventLaw, RunLaw}
use Rattle.pyd_runs.specs.NextLosses.{due_after, due_losses, loses}
use Rattle.pyd_runs.specs.Plans.{Plan}
use Rattle.pyd_runs.specs.Replay.{IsLegal, IsLegalFrom, after}
use Rattle.pyd_runs.specs.Sound.{IsSound}
use Rattle.pyd_core.specs.declared.keeper.Core.{Core}
use Rattle.pyd_core.specs.Cores.{IsCore, plan_of, state_of}
use Rattle.pyd_core.specs.Finishing.{HoldsClaimWith}
use Rattle.pyd_core.specs.Losing.{losses_by}
use Rattle.pyd_core.specs.Steps.{ComesBy}
use Rattle.pyd_steps.proofs.Joined.{state_then}

-- losses of machines are losses
are_losses : (seat nth : ℕ) (machines : List ℕ)
    → All (λ (e : Event). IsLoss e.act) (loses seat nth machines)
are_losses seat nth [] = All-nil (λ (e : Event). IsLoss e.act)
are_losses seat nth (machine ∷ machines) =
    All-cons (λ (e : Event). IsLoss e.act) (record { by = seat; nth = nth; act = Lose machine })
    (loses seat (suc nth) machines) tt (are_losses seat (suc nth) machines)

-- so are those that are due
pub all_losses : (seat : ℕ) (s : State) → All (λ (e : Event). IsLoss e.act) (losses_by seat s)
all_losses seat s = by_end (is_some s.graph.end)
  where
    by_end : (ended : Bool) → All (λ (e : Event). IsLoss e.act) (cond ended [] (due_losses seat s))
    by_end true = All-nil (λ (e : Event). IsLoss e.act)
    by_end false =
        are_losses seat (entries seat s.journal) (due_after (length s.journal) s.losses)

-- a loss lets no claim go
lets_none_go : (k attempt : ℕ) (act : Act) → IsLoss act → LetsGo k attempt act → ⊥
lets_none_go k attempt (Lose machine) loss go = go
lets_none_go k attempt (Place n b machine) loss go = loss
lets_none_go k attempt (Claim n b machine) loss go = loss
lets_none_go k attempt (Finish n b machine) loss go = loss
lets_none_go k attempt (Drop n b machine) loss go = loss
lets_none_go k attempt (Refine n) loss go = loss
lets_none_go k attempt (Settle n) loss go = loss
lets_none_go k attempt (Trim n) loss go = loss

-- behind losses a claim is still held
held_still : EventLaw → HoldLaw → (p : Plan) (s : State) (k : ℕ) (claim : Held) (es : List Event)
    → IsSound p s → IsLegalFrom p s es → All (λ (e : Event). IsLoss e.act) es
    → IsHeld s k claim → IsHeld (after p s es) k claim
unfolding after IsLegalFrom
held_still events holds p s k claim [] sound legal losses held = held
held_still events holds p s k claim (e ∷ es) sound legal losses held =
    held_still events holds p (happens p s e) k claim es (events p s e sound legal.0) legal.1
    (All-tail (λ (x : Event). IsLoss x.act) e es losses)
    (holds p s e k claim sound legal.0 (λ go. lets_none_go k claim.attempt e.act
    (All-head (λ (x : Event). IsLoss x.act) e es losses) go.1) held)

-- so is that of a core
pub claim_still : EventLaw → HoldLaw → BeginningLaw → RunLaw → (b c : Core) (seat : ℕ) → IsCore b
    → ComesBy b c (losses_by seat (state_of b)) → (k attempt machine : ℕ) (job : Job)
    → HoldsClaimWith (state_of b) seat k attempt machine job
    → HoldsClaimWith (state_of c) seat k attempt machine job
claim_still events holds beginning run b c seat core comes k attempt machine job is =
    let p = plan_of b in
    let es = losses_by seat (state_of b) in
    let whole : IsLegal p (b.log.journal.items ++ es)
    = subst (IsLegal p) comes.journal
    (subst (λ (q : Plan). IsLegal q c.log.journal.items) comes.plan comes.core.legal) in
    let on = beginning p b.log.journal.items es in
    let held = held_still events holds p (state_of b) k is.claim es
    (run p b.log.journal.items core.runnable core.legal) (on.behind whole)
    (all_losses seat (state_of b)) is.held in
    record {
      claim = is.claim;
      held = subst (λ (s : State). IsHeld s k is.claim)
          (sym (state_then b c es comes ∙ on.state)) held;
      of_seat = is.of_seat;
      of_job = is.of_job;
    }
