use Rattle.pyd_derivation.proofs.Expanding.{expanding}
use Rattle.pyd_derivation.proofs.build.back.Goals as goal

pub returns-in_ok-expand-in-Expand : goal.returns-in_ok-expand-in-Expand
returns-in_ok-expand-in-Expand c =
    expanding c.args.bytes.now c.args.tokens.now c.args.step c.in-Expand.production c.args.at _ _ c.args.pieces.now c.expand.new.pieces c.in-Expand.is c.requires
    c.making_of.ensures c.line_at-line.ensures c.in_ok-expand-in-Expand.ensures
