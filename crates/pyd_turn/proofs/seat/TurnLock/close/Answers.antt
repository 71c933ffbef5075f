use Rattle.std.proofs.Common.{rules, ◌≡◌, refl, sym, ap, ◌∙◌, subst, Option, Some}
use Rattle.std.specs.Option.{IsSome}
use Rattle.pyd_board.specs.Histories.{Extends, entries_of}
use Rattle.pyd_turn.specs.Views.{AllCounted}
use Rattle.pyd_turn.proofs.Closing.{closes}
use Rattle.pyd_turn.proofs.seat.TurnLock.close.Goals as goal

pub unwrap-requires : goal.unwrap-requires
unwrap-requires g c =
    let told = closes g.T.Kept.name g.T.Kept.history _ _ _ _ _ _ c.close_with-closed.ensures.values.2 c.take-value.ensures.value c.requires.first c.requires.free c.requires.all in
    subst IsSome (sym told.is) refl

pub returns-clause-name : goal.returns-clause-name
returns-clause-name g c =
    let told = closes g.T.Kept.name g.T.Kept.history _ _ _ _ _ _ c.close_with-closed.ensures.values.2 c.take-value.ensures.value c.requires.first c.requires.free c.requires.all in
    let is = told.is in
    let same : c.unwrap.result ≡ told.value = search rules in
    ap g.T.Kept.name same ∙ told.name

pub returns-clause-grown : goal.returns-clause-grown
returns-clause-grown g c =
    let told = closes g.T.Kept.name g.T.Kept.history _ _ _ _ _ _ c.close_with-closed.ensures.values.2 c.take-value.ensures.value c.requires.first c.requires.free c.requires.all in
    let is = told.is in
    let same : c.unwrap.result ≡ told.value = search rules in
    subst (λ x. Extends c.args.seat.place.me.0.seen (g.T.Kept.history x)) (sym same) told.grown

pub returns-clause-own : goal.returns-clause-own
returns-clause-own g c =
    let told = closes g.T.Kept.name g.T.Kept.history _ _ _ _ _ _ c.close_with-closed.ensures.values.2 c.take-value.ensures.value c.requires.first c.requires.free c.requires.all in
    let is = told.is in
    let same : c.unwrap.result ≡ told.value = search rules in
    ap (λ x. entries_of 0 (g.T.Kept.history x)) same ∙ told.own

pub returns-clause-listed : goal.returns-clause-listed
returns-clause-listed g c =
    let told = closes g.T.Kept.name g.T.Kept.history _ _ _ _ _ _ c.close_with-closed.ensures.values.2 c.take-value.ensures.value c.requires.first c.requires.free c.requires.all in
    let is = told.is in
    let same : c.unwrap.result ≡ told.value = search rules in
    subst (λ x. AllCounted (g.T.Kept.history x) c.args.seat.place.me.0.joined) (sym same) told.listed
