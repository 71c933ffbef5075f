use Rattle.std.proofs.Common.{rules, ◌≡◌, ◌∷◌, [], List, Option, Some, refl, sym, subst}
use Rattle.atomic_table.specs.Table.{opening}
use Rattle.pyd_turn.specs.Rule.{Locked}
use Rattle.pyd_turn.specs.Views.{opened}
use Rattle.pyd_turn.proofs.Seating.{opens}
use Rattle.pyd_turn.proofs.seat.TurnLock.new.Goals as goal

pub new-requires : goal.new-requires
new-requires g c =
    let name = g.T.Kept.name in
    let history = g.T.Kept.history in
    let same : c.of-about.result.value ≡ c.args.value = search rules in
    let items : c.push.new.self.items ≡ Some c.args.value ∷ [] = search rules in
    subst (λ (z : g.row.T.Denot × List (Option g.row.T.Denot)). Locked name history (name z.0) (opening (0 ∷ 0 ∷ []) z.1 (opened (name z.0) (history z.0))))
    (λ i. (sym same i, sym items i)) (opens name history (name c.args.value) c.args.value refl c.requires.first)
