use Rattle.std.proofs.Common.{◌≡◌, ◌-◌, ℕ, ◌∙◌, ap, arith, length, take, drop, reverse, List}
use Rattle.pyd_measure.proofs.Lists.{taken_off}
use Rattle.pyd_measure.specs.declared.measures.Measure.{Measure}
use Rattle.pyd_measure.proofs.stack.Stack.take_off.Goals as goal

pub returns : goal.returns
returns c =
    let items : List Measure = c.self.inside.items.items in
    let left : c.saturating_sub-left.result ≡ length items - c.args.count = omega (arith, c.self.inside.items.ok.0) in
    ap reverse (c.truncate.ensures.items ∙ ap (λ (n : ℕ). take n items) left)
    ∙ taken_off items c.args.count
    ∙ ap (λ (z : List Measure). drop c.args.count z) c.self.view_is
