use Rattle.pyd_translate.proofs.Arms.{made_so}
use Rattle.pyd_translate.proofs.SideForms.{links_left_so}
use Rattle.pyd_translate.proofs.sides.build_links_left.Goals as goal

pub returns : goal.returns
returns c =
    made_so _ _ _ _ _ _ _ (links_left_so c.args.at.now c.args.whole c.args.member c.args.left.now c.args.first.now c.args.links.now _ _ _ _ _ _ c.from.ensures c.before-2.ensures c.in_ok-next.ensures c.in_ok-begin.ensures c.in_ok-count_compared.ensures c.in_ok-k.ensures) c.build_comparisons.ensures
