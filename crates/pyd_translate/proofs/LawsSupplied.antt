-- The nodes of expressions and of sides have what they need, and their arguments are given by nodes below the next number.
use Rattle.std.proofs.Common.{◌≡◌, ◌≤◌, ℕ, suc, ◌+◌, List, [], ◌∷◌, length, refl, arith}
use Rattle.pyd_tree.specs.declared.file.File.{File}
use Rattle.pyd_meaning.specs.declared.limits.Limits.{Limits}
use Rattle.pyd_ir.specs.declared.arg.Arg.{Arg}
use Rattle.pyd_ir.specs.declared.node.Node.{Node}
use Rattle.pyd_ir.specs.Arguments.{arguments, side_arguments}
use Rattle.pyd_ir.specs.Inputs.{Given}
use Rattle.pyd_translate.specs.Expressions.{expression_unfolds}
use Rattle.pyd_translate.specs.Sides.{side_unfolds}
use Rattle.pyd_translate.specs.Statements.{context}
use Rattle.pyd_translate.specs.Walk.{give, work_ports}
use Rattle.pyd_translate.specs.Matching.{AreBelow, HaveValues, AreNumbered}
use Rattle.pyd_translate.specs.Supplied.{AreSupplied, ExpressionSupply, SideSupply}
use Rattle.pyd_translate.proofs.Keeping.{all_given-below, all_given-kept}
use Rattle.pyd_translate.proofs.Ordering.{any_marked}
use Rattle.pyd_translate.proofs.UnfoldedOrder.{expression_orders}
use Rattle.pyd_translate.proofs.RestOrder.{before_each, are_before, named_numbered, side_order}
use Rattle.pyd_translate.proofs.Supplying.{where-then, AreStocked}
use Rattle.pyd_translate.proofs.SuppliedSides.{expression-supplied, side-supplied}

-- arguments that have values name nodes below the number
pub values-below : (next : ℕ) (given : Given) (args : List Arg) → HaveValues next given args → AreBelow next args
values-below next given [] have = tt
values-below next given (a ∷ args) have = (have.0.1.1, values-below next given args have.1)

module _ (file : File) (limits : Limits) where
  -- nodes in order that have what they need by their own numbers have it by the next number
  pub stocked-supplied : (next ids : ℕ) (ns : List Node) (given : Given) → AreNumbered ids ns
      → ids + length ns ≤ next → AreStocked file limits ns given → AreSupplied file limits next ns given
  unfolding AreStocked AreSupplied
  stocked-supplied next ids [] given numbered le stocked = tt
  stocked-supplied next ids (n ∷ ns) given numbered le stocked =
      let own : n.id ≡ ids = numbered.0 in (
        all_given-kept n.id next given given (arguments n.work) (omega (arith, own)) (λ node port lt. refl) stocked.0,
        stocked.1,
        where-then (work_ports file limits n.work n given).result _ _ stocked.2
            (λ ports is rest. stocked-supplied next (suc ids) ns (give n.id ports given) numbered.2 (omega arith) rest),
      )

-- the nodes of an expression have what they need
pub expression_supply : ExpressionSupply
expression_supply file limits routine depth line e k ids given env names are =
    let at = context routine depth line env in
    let order =
    expression_orders before_each file e k at ids (are_before ids env (all_given-below ids given env are.all_given))
    ids (omega arith) (omega arith) (any_marked before_each (λ k. refl) (expression_unfolds file e k at ids).nodes) in
    let ends = order.next in
    stocked-supplied file limits (expression_unfolds file e k at ids).next ids (expression_unfolds file e k at ids).nodes given
    (named_numbered ids (expression_unfolds file e k at ids).nodes order.nodes) (omega (arith, ends))
    (expression-supplied file limits e k at ids given (are.count, are.all_given)).nodes

-- the nodes of a side have what they need
pub side_supply : SideSupply
side_supply file limits routine depth line s ids given env names have are =
    let at = context routine depth line env in
    let order =
    side_order file routine depth line s ids env (values-below ids given (side_arguments s) have)
    (all_given-below ids given env are.all_given) in
    let ends = order.next in
    stocked-supplied file limits (side_unfolds file s at ids).next ids (side_unfolds file s at ids).nodes given
    order.nodes (omega (arith, ends))
    (side-supplied file limits s at ids given (are.count, are.all_given) have).nodes
