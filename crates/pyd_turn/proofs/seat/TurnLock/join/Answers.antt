use Rattle.std.proofs.Common.{rules, ap, sym, subst, ◌∙◌, nat_le}
use Rattle.pyd_board.specs.Histories.{Extends}
use Rattle.pyd_turn.specs.Seats.{IsLaterOf}
use Rattle.pyd_turn.specs.Views.{in_hand, lives}
use Rattle.pyd_turn.proofs.Seating.{joins}
use Rattle.pyd_turn.proofs.Taking.{learns}
use Rattle.pyd_turn.proofs.Viewing.{is_later}
use Rattle.pyd_turn.proofs.seat.TurnLock.join.Goals as goal

pub join_seat-requires : goal.join_seat-requires
join_seat-requires g c = (search rules, search rules, c.args.other.hand ∙ ap in_hand c.requires.free.1, search rules, joins g.T.Kept.name g.T.Kept.history _ _ _ _ _ c.requires.free.0 c.requires.free.1)

pub load-requires : goal.load-requires
load-requires g c = (search rules, search rules, learns g.T.Kept.name g.T.Kept.history _ _ _ _ (ap (λ m. lives m.0.stage) c.join_seat.ensures.2 ∙ c.args.seat.now.alive))

pub returns-clause-later : goal.returns-clause-later
returns-clause-later g c =
    let v = c.args.seat.now.place.me.0 in
    let w = c.args.other.place.me.0 in
    let joined = c.join_seat.ensures.2 in
    let looked = c.load.ensures.2 in
    let told = subst (λ m. Extends m.0.earlier m.0.seen) joined looked.earlier in
    subst (λ m. IsLaterOf m.0.seen v.seen w.seen) (sym (looked.same ∙ joined)) (is_later (nat_le w.when v.when) v.seen w.seen told)
