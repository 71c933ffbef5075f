use Rattle.std.proofs.Common.{◌∙◌, sym, encode_utf8_all}
use Rattle.std.specs.String.{string_bytes}
use Rattle.pyd_lex.specs.Strings.{value}
use Rattle.pyd_lex.specs.Quoted.{spelling}
use Rattle.pyd_lex.proofs.Values.{written_step, written_end}
use Rattle.pyd_lex.proofs.text.written.Goals as goal

pub loop-c-preserved : goal.loop-c-preserved
loop-c-preserved c =
    written_step (spelling c.args.quotes) c.loop-c.rest.now c.split_at.result.1.now (string_bytes c.loop-c.out) (string_bytes c.push.new.self) (encode_utf8_all (value (spelling c.args.quotes) c.args.text.now)) c.in-Some.c c.in-Some.len (sym c.first.ensures ∙ c.in-Some.is) c.split_at.ensures.back c.in_ok-push.ensures.bytes c.loop-c.invariant

pub returns : goal.returns
returns c =
    written_end (spelling c.args.quotes) c.loop-c.rest.now (string_bytes c.loop-c.out) (encode_utf8_all (value (spelling c.args.quotes) c.args.text.now)) (sym c.first.ensures ∙ c.in_default.is) c.loop-c.invariant
