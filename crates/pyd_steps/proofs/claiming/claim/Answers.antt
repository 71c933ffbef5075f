use Rattle.pyd_steps.proofs.ClaimAsked.{claims_asked, claims_then}
use Rattle.pyd_steps.proofs.Results.{if_ok}
use Rattle.pyd_steps.proofs.claiming.claim.Goals as goal

pub returns-clause-claims : goal.returns-clause-claims
returns-clause-claims g c =
    if_ok c.claim_now.result _ _ (λ answer now.
    claims_then c.args.core.now c.lose_due.new.core c.claim_now.new.core c.args.halted
    c.args.ticket c.args.who answer c.lose_due.ensures.losses now) c.claim_now.ensures.claims

pub returns-clause-asks : goal.returns-clause-asks
returns-clause-asks g c =
    claims_asked c.beginning_law.ensures c.args.core.now c.lose_due.new.core
    c.claim_now.new.core c.args.halted c.args.ticket c.args.who _ _ c.claim_now.result
    c.lose_due.ensures.losses c.lose_due.ensures.asks c.claim_now.ensures.claims
    c.claim_now.ensures.memory
