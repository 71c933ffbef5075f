use Rattle.std.proofs.Common.{◌≡◌, Some, suc, sym, ◌∙◌, arith}
use Rattle.pyd_translate.proofs.Onto.{onto_emit}
use Rattle.pyd_translate.proofs.draft.emit.Goals as goal

pub returns-in_ok-add-in-Some : goal.returns-in_ok-add-in-Some
returns-in_ok-add-in-Some c =
    let n : suc c.args.draft.now.next ≡ c.in-Some.next = omega (arith, c.in-Some.ensures) in
    onto_emit _ _ _ _ ∙ (λ i. (sym c.in_ok-add-in-Some.ensures.ok i, Some c.args.draft.now.next, n i))
