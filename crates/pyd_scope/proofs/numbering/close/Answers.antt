use Rattle.std.proofs.Common.{ℕ, ◌∷◌, ◌++◌, length, ap, ◌∙◌}
use Rattle.pyd_scope.proofs.Walking.{set_there}
use Rattle.pyd_scope.proofs.numbering.close.Goals as goal

pub returns-in-Some : goal.returns-in-Some
returns-in-Some c front first back is at =
    set_there front first (record { origin = c.args.origin; behind = c.in_ok-behind.behind }) back
    c.args.out.now.items c.args.place is at
    ∙ ap (λ (n : ℕ). front ++ record { origin = c.args.origin; behind = n } ∷ back)
    (c.in_ok-behind.ensures ∙ ap length c.as_slice.ensures.value)
