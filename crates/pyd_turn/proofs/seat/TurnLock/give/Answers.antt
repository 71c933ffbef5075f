use Rattle.std.proofs.Common.{rules, ◌≡◌, ◌∷◌, [], ℕ, List, refl, sym, ap, ◌∙◌, subst, Option, Some}
use Rattle.atomic_table.specs.Table.{rest}
use Rattle.pyd_board.specs.Histories.{ExtendsBy}
use Rattle.pyd_turn.specs.Views.{in_hand, lives}
use Rattle.pyd_turn.proofs.Giving.{leaves}
use Rattle.pyd_turn.proofs.seat.TurnLock.give.Goals as goal

pub fetch_add-turn-requires : goal.fetch_add-turn-requires
fetch_add-turn-requires g c =
    let now = c.exchange-before.ensures.3 in
    let was = c.args.seat.now.hand ∙ ap in_hand c.requires.holds in (
      search rules,
      search rules,
      leaves g.T.Kept.name g.T.Kept.history _ _ _ _ _ c.args.value
          (ap (λ m. m.0.stage) now ∙ c.requires.holds)
          (ap (λ m. m.1) now ∙ ap (λ cs. (0, Some c.args.value) ∷ rest cs) was)
          (c.requires.name ∙ sym (ap (λ m. m.0.name) now))
          (subst (λ v. ExtendsBy v.number v.seen (g.T.Kept.history c.args.value)) (sym (ap (λ m. m.0) now)) c.requires.grown),
    )

pub invariant_of-seat : goal.invariant_of-seat
invariant_of-seat g c =
    let now = c.exchange-before.ensures.3 in
    let was = c.args.seat.now.hand ∙ ap in_hand c.requires.holds in
    let did = c.fetch_add-turn.ensures.2 c.args.value (ap (λ m. m.1) now ∙ ap (λ cs. (0, Some c.args.value) ∷ rest cs) was) in record {
      hand = ap (λ m. m.1) did.0 ∙ sym (ap (λ m. in_hand m.0.stage) did.0);
      alive = ap (λ m. lives m.0.stage) did.0;
      tallied = did.1;
    }
