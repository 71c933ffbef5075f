use Rattle.std.proofs.Common.{[], ap, sym, subst}
use Rattle.std.specs.List.{list_any}
use Rattle.std.specs.BTreeMap.{is_at}
use Rattle.std.specs.Ordering.{nat_cmp}
use Rattle.std.proofs.lemmas.Result.{IfOk-weaker}
use Rattle.pyd_lineage.specs.Lineage.{AreUnreached}
use Rattle.pyd_lineage.specs.Marking.{IsSetOf}
use Rattle.pyd_lineage.proofs.Choosing.{are_unreached}
use Rattle.pyd_lineage.proofs.lineage.trim_among.Goals as goal

pub returns : goal.returns
returns c =
    let past = c.args.past.now in
    let chain = c.args.chain.now in
    let none = c.new-none.result in
    let reached = c.in_ok-reached.reached in
    let empty : IsSetOf none [] = λ n. ap (list_any (is_at (nat_cmp n))) c.new-none.ensures.empty in
    IfOk-weaker c.left_out.result _ _
    (λ numbers is.
    subst (AreUnreached past chain) (sym is)
    (are_unreached past chain none reached c.requires empty c.in_ok-reached.ensures))
    c.left_out.ensures
