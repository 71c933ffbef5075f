use Rattle.pyd_translate.proofs.SideForms.{left_and, left_or, left_compare, no_rest}
use Rattle.pyd_translate.proofs.Arms.{made_so}
use Rattle.pyd_translate.proofs.Operands.{other_form}
use Rattle.pyd_translate.proofs.sides.build_left_of.Goals as goal

pub returns-in-And : goal.returns-in-And
returns-in-And c =
    made_so _ _ _ _ _ _ _ (left_and c.args.at.now c.args.whole c.args.member c.args.left.now c.args.e.now _ c.in-And.is) (rw c.as_slice.ensures at c.build_members_left.ensures)

pub returns-in-Or : goal.returns-in-Or
returns-in-Or c =
    made_so _ _ _ _ _ _ _ (left_or c.args.at.now c.args.whole c.args.member c.args.left.now c.args.e.now _ c.in-Or.is) (rw c.as_slice-in-Or.ensures at c.build_members_left-in-Or.ensures)

pub returns-in-Compare : goal.returns-in-Compare
returns-in-Compare c =
    made_so _ _ _ _ _ _ _ (left_compare c.args.at.now c.args.whole c.args.member c.args.left.now c.args.e.now _ _ c.in-Compare.is) (rw (c.get.ensures, c.as_slice-in-Compare.ensures) at c.build_links_left.ensures)

pub returns-in_ok-stop_by-in-Lit : goal.returns-in_ok-stop_by-in-Lit
returns-in_ok-stop_by-in-Lit c =
    other_form _ _ _ _ _ (no_rest c.args.at.now c.args.whole c.args.member c.args.left.now c.args.e.now c.in-Lit.is) c.in_ok-stop_by-in-Lit.ensures
