use Rattle.pyd_lex.specs.TokenBytes.{AreTokensOf}
use Rattle.pyd_script_tests.proofs.callers.name_at.Goals as goal

pub name_of-requires-clause-spelled : goal.name_of-requires-clause-spelled
name_of-requires-clause-spelled c =
    let law : AreTokensOf c.args.bytes.now c.args.tokens.now = c.token_bytes.ensures c.args.bytes.now c.args.tokens.now c.requires.reads in
    law.spelled c.args.at _ c.requires.within
