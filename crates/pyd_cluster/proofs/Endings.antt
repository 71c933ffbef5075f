-- A run that has ended stays so, and any seat may append the losses behind the first ones.
use Rattle.std.proofs.Common.{◌≡◌, ℕ, List, [], ◌∷◌, ◌++◌, true, cond, Option, Some, None, is_some, refl, ap, sym, subst, ◌∙◌}
use Rattle.std.specs.List.{All}
use Rattle.pyd_value.specs.declared.fault.End.{End}
use Rattle.pyd_board.specs.declared.event.Act.{Act}
use Rattle.pyd_board.specs.declared.event.Act.TheVariants.{Place, Claim, Finish, Drop, Refine, Settle, Lose, Trim}
use Rattle.pyd_board.specs.declared.event.Event.{Event}
use Rattle.pyd_runs.specs.Effects.{State, first_state, happens}
use Rattle.pyd_runs.specs.Enabled.{CanAct, IsLoss, due}
use Rattle.pyd_runs.specs.Facts.{IsDeskAct}
use Rattle.pyd_runs.specs.NextLosses.{due_losses, first_losses}
use Rattle.pyd_runs.specs.Plans.{Plan}
use Rattle.pyd_runs.specs.Replay.{IsLegal, IsLegalFrom, after, replay}
use Rattle.pyd_runs.proofs.Beginnings.{journal_whole}
use Rattle.pyd_runs.proofs.NextLost.{any_seat_loses}
use Rattle.pyd_runs.proofs.Unchanged.{desk_leaves}
use Rattle.pyd_cluster.specs.Keeping.{HasBegun}

-- a run that goes on hasn't ended
pub not_both : (end : Option End) → end ≡ None → is_some end ≡ true → ⊥
not_both None goes_on ended = cc (ended)
not_both (Some end) goes_on ended = cc (goes_on)

-- what may come behind the end changes tickets, claims and losses alone
ended_act : (p : Plan) (s : State) (seat : ℕ) (act : Act) → CanAct p s seat act
    → is_some s.graph.end ≡ true → IsDeskAct act
ended_act p s seat (Place k attempt machine) can ended = tt
ended_act p s seat (Claim k attempt machine) can ended = tt
ended_act p s seat (Finish k attempt machine) can ended = tt
ended_act p s seat (Drop k attempt machine) can ended = tt
ended_act p s seat (Lose machine) can ended = tt
ended_act p s seat (Refine k) can ended = not_both s.graph.end can.0.goes_on ended
ended_act p s seat (Settle k) can ended = not_both s.graph.end can.0.goes_on ended
ended_act p s seat (Trim k) can ended = not_both s.graph.end can.0.goes_on ended

-- a run that has ended stays so
stays_ended : (p : Plan) (s : State) (es : List Event) → IsLegalFrom p s es
    → is_some s.graph.end ≡ true → is_some (after p s es).graph.end ≡ true
unfolding after IsLegalFrom
stays_ended p s [] legal ended = ended
stays_ended p s (e ∷ es) legal ended =
    stays_ended p (happens p s e) es legal.1
    (ap is_some (desk_leaves p s e (ended_act p s e.by e.act legal.0.act ended)).end ∙ ended)

-- while a run goes on and a loss is due, some entry is no loss, unless the seat is the driver's
pub may_lose : (p : Plan) (es : List Event) → IsLegal p es → HasBegun p es → (seat : ℕ)
    → (replay p es).graph.end ≡ None → (machine : ℕ) → due (replay p es) ≡ Some machine
    → All (λ e. IsLoss e.act) es → seat ≡ 0
may_lose p es legal begun seat on machine is_due all = by_end (first_state p).graph.end refl
  where
    MayLose : List Event → Type 0
    MayLose js = IsLegal p js → (replay p js).graph.end ≡ None
        → due (replay p js) ≡ Some machine → All (λ e. IsLoss e.act) js → seat ≡ 0

    behind_first : MayLose (first_losses p ++ begun.more)
    behind_first legal on is_due all =
        (any_seat_loses p begun.more seat machine legal on is_due).by
        (subst (All (λ e. IsLoss e.act)) (sym (journal_whole p (first_losses p ++ begun.more)))
        all)

    by_end : (o : Option End) → (first_state p).graph.end ≡ o → seat ≡ 0
    by_end (Some end) is =
        absurd (not_both (replay p es).graph.end on
        (stays_ended p (first_state p) es legal (ap is_some is)))
    by_end None is =
        let same : es ≡ first_losses p ++ begun.more
        = begun.begins
        ∙ ap (λ (o : Option End). cond (is_some o) [] (due_losses 0 (first_state p))
        ++ begun.more) is in
        subst MayLose (sym same) behind_first legal on is_due all
