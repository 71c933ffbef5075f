use Rattle.std.proofs.Common.{◌-◌, ◌++◌, length, codes, decimal}
use Rattle.std.proofs.lemmas.Result.{on_ok_weaker, on_err_weaker}
use Rattle.pyd_top.proofs.Pieces.{on_err, part_of_first, part_of_second, part_of_third, all_three}
use Rattle.pyd_top.proofs.check.put_summary.Goals as goal

pub returns-in_err-put_all-clause-err : goal.returns-in_err-put_all-clause-err
returns-in_err-put_all-clause-err g c =
    on_err c.from_residual.result
    (part_of_first _ _ (codes "ok: ") (decimal (length c.args.program.now.routines - 1) ++ codes " functions, ") (decimal (length c.args.program.now.constants - 1) ++ codes " constants\n")
    c.in_err-put_all.ensures.err)

pub returns-in_err-put_count-clause-err : goal.returns-in_err-put_count-clause-err
returns-in_err-put_count-clause-err g c =
    on_err c.from_residual-in_err-put_count.result
    (part_of_second _ _ _ (codes "ok: ") (decimal (length c.args.program.now.routines - 1) ++ codes " functions, ") (decimal (length c.args.program.now.constants - 1) ++ codes " constants\n")
    c.in_ok-put_all.ensures.ok (rw c.len.ensures at c.in_err-put_count.ensures.err))

pub returns-clause-ok : goal.returns-clause-ok
returns-clause-ok g c =
    on_ok_weaker c.put_count-2.result
    (λ last. all_three _ _ _ _ (codes "ok: ") (decimal (length c.args.program.now.routines - 1) ++ codes " functions, ") (decimal (length c.args.program.now.constants - 1) ++ codes " constants\n")
    c.in_ok-put_all.ensures.ok (rw c.len.ensures at c.in_ok-put_count.ensures.ok) last)
    (rw c.len-2.ensures at c.put_count-2.ensures.ok)

pub returns-clause-err : goal.returns-clause-err
returns-clause-err g c =
    on_err_weaker c.put_count-2.result
    (λ last. part_of_third _ _ _ _ (codes "ok: ") (decimal (length c.args.program.now.routines - 1) ++ codes " functions, ") (decimal (length c.args.program.now.constants - 1) ++ codes " constants\n")
    c.in_ok-put_all.ensures.ok (rw c.len.ensures at c.in_ok-put_count.ensures.ok) last)
    (rw c.len-2.ensures at c.put_count-2.ensures.err)
