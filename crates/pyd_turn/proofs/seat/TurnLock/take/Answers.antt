use Rattle.std.proofs.Common.{rules, ◌≡◌, ◌∷◌, [], ℕ, List, refl, sym, ap, ◌∙◌, subst, Option, Some}
use Rattle.atomic_table.specs.Table.{rest}
use Rattle.pyd_turn.specs.Views.{Tallied}
use Rattle.pyd_turn.proofs.Taking.{queues}
use Rattle.pyd_turn.proofs.seat.TurnLock.take.Goals as goal

pub fetch_add-turn-requires : goal.fetch_add-turn-requires
fetch_add-turn-requires g c = (search rules, search rules, queues g.T.Kept.name g.T.Kept.history _ _ _ _ c.requires.free)

pub exchange-requires : goal.exchange-requires
exchange-requires g c =
    let served = c.await_turn.ensures.served in
    let hand = ap (λ m. m.1) served.holds in
    (search rules, (Some served.value, hand ∙ ap (λ cs. (0, Some served.value) ∷ rest cs) (sym hand)))

pub invariant_of-seat : goal.invariant_of-seat
invariant_of-seat g c = record {
  hand = search rules;
  alive = search rules;
  tallied = subst Tallied (sym (ap (λ m. m.0) c.exchange.ensures.3)) c.await_turn.ensures.served.tallied;
}
