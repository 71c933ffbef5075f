use Rattle.std.proofs.Common.{◌≡◌, ◌∙◌, ap, drop, subst, arith, length, get_or, ℕ, ◌<◌, true}
use Rattle.std.specs.Prelude.{◌==◌}
use Rattle.pyd_trace.proofs.Names.{name_ends, name_is_ended}
use Rattle.pyd_trace.proofs.guess.behind_name.Goals as goal

pub returns-in-Some : goal.returns-in-Some
returns-in-Some c name fields none is =
    c.split_at.ensures.back ∙ ap (drop c.in-Some.end) is
    ∙ name_ends c.in-Some.end name fields (subst (λ bs. (k : ℕ) → k < c.in-Some.end → (get_or bs k 0 == 32) ≡ true → ⊥) is (λ k lt. c.in-Some.ensures.0.before k (omega arith) lt))
    (subst (λ bs. (get_or bs c.in-Some.end 0 == 32) ≡ true) is c.in-Some.ensures.1) none

pub returns-in-None : goal.returns-in-None
returns-in-None c name fields none is =
    absurd (name_is_ended name fields (subst (λ bs. (k : ℕ) → k < length bs → (get_or bs k 0 == 32) ≡ true → ⊥) is (λ k lt. c.in-None.ensures k (omega arith) lt)))
