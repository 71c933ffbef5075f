use Rattle.std.proofs.Common.{◌≡◌, ◌++◌, ap, sym, subst, ◌∙◌}
use Rattle.pyd_lineage.specs.Lineage.{AreNeeded}
use Rattle.pyd_lineage.specs.Marking.{numbers_where, is_missing, is_missed}
use Rattle.pyd_lineage.proofs.Choosing.{are_needed}
use Rattle.pyd_lineage.proofs.lineage.needed_among.Goals as goal

pub returns : goal.returns
returns c =
    let past = c.args.past.now in
    let chain = c.args.chain.now in
    let known = c.in_ok-known.known in
    let reached = c.in_ok-reached.reached in
    let all : c.add_missing.new.numbers ≡ numbers_where (is_missed known reached) past ++ numbers_where (is_missing known) chain =
    c.in_ok-add_missing.ensures
    ∙ ap (λ ns. ns ++ numbers_where (is_missing known) chain)
    (c.in_ok-add_missed.ensures
    ∙ ap (λ ns. ns ++ numbers_where (is_missed known reached) past) c.new-numbers.ensures) in
    subst (AreNeeded past chain c.args.known.now) (sym all)
    (are_needed past chain c.args.known.now known reached c.requires c.in_ok-known.ensures c.in_ok-reached.ensures)
