use Rattle.pyd_grammar.specs.declared.fault.ParseStop.{ParseStop}
use Rattle.pyd_grammar.proofs.Answers.{ends, answer_formed}
use Rattle.pyd_grammar.proofs.parser.parse.Goals as goal

-- the tokens of a source end with its end, so they are not unfinished
pub unreachable-requires : goal.unreachable-requires
unreachable-requires c =
    let ended = rw c.in-Err-Unfinished.field-0-is at (c.in-Err-Unfinished.ensures.ended) in
    ended (ends c.token_bytes.ensures c.args.bytes.now c.args.tokens.now c.requires)

pub returns-in-Ok-clause-formed : goal.returns-in-Ok-clause-formed
returns-in-Ok-clause-formed c =
    answer_formed c.token_bytes.ensures ParseStop c.args.bytes.now c.args.tokens.now c.build.result c.requires c.build.ensures.ok
