use Rattle.std.proofs.Common.{◌≡◌, ℕ, length, sym, ◌∙◌, arith}
use Rattle.pyd_ops.specs.Sequence.{items}
use Rattle.pyd_eval.specs.Frames.{names_of}
use Rattle.pyd_eval.proofs.Uneven.{uneven}
use Rattle.pyd_eval.proofs.binding.unpack.Goals as goal

pub returns-then-len-names : goal.returns-then-len-names
returns-then-len-names c =
    uneven (items c.args.v) c.args.names.now c.in-Some.values c.args.line (names_of c.args.on.now c.args.slots.now) (sym c.in_ok-found.ensures ∙ c.in-Some.is) (λ e. c.if-len-names.true (omega (arith, e)))
