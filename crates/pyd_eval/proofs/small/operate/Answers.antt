use Rattle.std.proofs.Common.{◌+ℤ◌, ◌-ℤ◌, ◌*ℤ◌}
use Rattle.pyd_value.specs.declared.operator.BinOp.TheVariants.{Add, Sub, Mul}
use Rattle.pyd_eval.proofs.Numbers.{answered-number, sum_of, difference_of, product_of}
use Rattle.pyd_eval.proofs.small.operate.Goals as goal

pub returns-in-Add : goal.returns-in-Add
returns-in-Add c =
    let a = c.args.a.now.value in
    let b = c.args.b.now.value in
    rw c.in-Add.is (answered-number Add a b (a +ℤ b) _ _ (sum_of a b) c.kept.ensures c.add.ensures)

pub returns-in-Sub : goal.returns-in-Sub
returns-in-Sub c =
    let a = c.args.a.now.value in
    let b = c.args.b.now.value in
    rw c.in-Sub.is (answered-number Sub a b (a -ℤ b) _ _ (difference_of a b) c.kept-in-Sub.ensures c.subtract.ensures)

pub returns-in-Mul : goal.returns-in-Mul
returns-in-Mul c =
    let a = c.args.a.now.value in
    let b = c.args.b.now.value in
    rw c.in-Mul.is (answered-number Mul a b (a *ℤ b) _ _ (product_of a b) c.kept-in-Mul.ensures c.multiply.ensures)
