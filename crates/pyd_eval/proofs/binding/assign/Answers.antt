use Rattle.std.proofs.Common.{◌≡◌, ℕ, [], ◌∷◌, length, Some, refl, ap, ◌∙◌, arith}
use Rattle.pyd_meaning.specs.Assignment.{assign_values, values_for}
use Rattle.pyd_meaning.specs.Setting.{place_of}
use Rattle.pyd_eval.specs.Frames.{names_of}
use Rattle.pyd_eval.proofs.Uneven.{uneven}
use Rattle.pyd_eval.proofs.binding.assign.Goals as goal

pub returns-then-names-ne1 : goal.returns-then-names-ne1
returns-then-names-ne1 c =
    ap (λ b. assign_values (values_for b c.args.v) c.args.targets.now.names (place_of c.args.line) (names_of c.args.on.now c.args.slots.now)) c.if-targets.false
    ∙ uneven (Some (c.args.v ∷ [])) c.args.targets.now.names (c.args.v ∷ []) c.args.line (names_of c.args.on.now c.args.slots.now) refl
    (λ e. c.if-names-ne1.true (ap length c.as_slice-names.ensures ∙ e))
