use Rattle.std.proofs.Common.{length, sym, arith, eqb-true}
use Rattle.pyd_lex.specs.Quoted.{Skips, spelling}
use Rattle.pyd_lex.proofs.Strings.{body_close, body_broken, body_skips, body_missing}
use Rattle.pyd_lex.proofs.string.body.Goals as goal

pub returns-in-End-clause-ok : goal.returns-in-End-clause-ok
returns-in-End-clause-ok c =
    body_close c.args.quotes c.args.text.now c.loop-rest.rest.now c.loop-rest.n c.more.result c.more.ensures.value c.loop-rest.invariant.same c.in-End.ensures

pub returns-in-Broken-clause-err : goal.returns-in-Broken-clause-err
returns-in-Broken-clause-err c =
    body_broken (spelling c.args.quotes) c.args.text.now c.loop-rest.rest.now c.loop-rest.n c.in-Broken.flaw c.loop-rest.invariant.same c.in-Broken.ensures

pub loop-rest-preserved : goal.loop-rest-preserved
loop-rest-preserved c =
    let skips : Skips (spelling c.args.quotes) c.loop-rest.rest.now c.in-Skip.k = c.in-Skip.ensures in
    record {
      total = let t = c.loop-rest.invariant.total in let l = c.split_at.ensures.back_len in omega arith;
      same = body_skips (spelling c.args.quotes) c.args.text.now c.loop-rest.rest.now c.split_at.result.1.now c.loop-rest.n c.in-Skip.k skips c.split_at.ensures.back c.loop-rest.invariant.same;
    }

pub returns-clause-err : goal.returns-clause-err
returns-clause-err c =
    body_missing (spelling c.args.quotes) c.args.text.now c.loop-rest.rest.now c.loop-rest.n (eqb-true (length c.loop-rest.rest.now) 0 (sym c.loop-rest-test.ensures)) c.loop-rest.invariant.same
