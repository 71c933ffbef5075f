use Rattle.pyd_translate.proofs.Arms.{made_so}
use Rattle.pyd_translate.proofs.SideForms.{members_left_so}
use Rattle.pyd_translate.proofs.sides.build_members_left.Goals as goal

pub returns : goal.returns
returns c =
    made_so _ _ _ _ _ _ _ (members_left_so c.args.at.now c.args.whole c.args.member c.args.junction c.args.es.now _ _ _ _ _ c.from.ensures c.before-2.ensures c.in_ok-next.ensures c.in_ok-count_each.ensures c.in_ok-k.ensures) c.build_members.ensures
