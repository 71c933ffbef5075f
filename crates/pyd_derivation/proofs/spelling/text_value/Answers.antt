use Rattle.std.proofs.Common.{sym}
use Rattle.pyd_derivation.proofs.Utf8.{text_good, text_bad, same_utf8}
use Rattle.pyd_derivation.proofs.spelling.text_value.Goals as goal

pub returns-in_ok-text-in-Ok : goal.returns-in_ok-text-in-Ok
returns-in_ok-text-in-Ok c =
    text_good c.args.bytes.now c.as_str.result.now _ c.args.token.now c.of.result (same_utf8 _ _ c.bytes_of.ensures c.in-Ok.ensures.cases.1) c.in_ok-text-in-Ok.ensures c.as_str.ensures.value c.of.ensures

pub returns-in-Err : goal.returns-in-Err
returns-in-Err c = text_bad c.args.bytes.now c.args.token.now c.empty.result (λ u. c.in-Err.ensures.cases.0 (same_utf8 _ _ (sym c.bytes_of.ensures) u)) c.empty.ensures
