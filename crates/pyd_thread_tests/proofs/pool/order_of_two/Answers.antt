use Rattle.std.proofs.Common.{◌≡◌, refl, ◌∙◌}
use Rattle.pyd_pool.proofs.Callers.{still_all, back_at_end}
use Rattle.pyd_thread_tests.proofs.pool.order_of_two.Goals as goal

pub close-requires : goal.close-requires
close-requires g c = let s = c.in-Some-Some in
    let first = c.take.ensures.same ∙ c.push-2.ensures.same ∙ c.push.ensures.same ∙ c.mail.ensures.same in
    let second = c.push-3.ensures.same ∙ c.take-4.ensures.same ∙ c.take-3.ensures.same ∙ c.take-2.ensures.same in
    let one = back_at_end _ _ _ _ _ _ s.ensures'.items c.in_ok-give_back.ensures refl first in
    let two = back_at_end _ _ _ _ _ _ s.ensures.items c.in_ok-give_back-2.ensures one second in
    still_all c.in_ok-pool.pool c.in_ok-pool.hands.items c.give_back-2.new.hands.items two c.in_ok-pool.ensures.hands
