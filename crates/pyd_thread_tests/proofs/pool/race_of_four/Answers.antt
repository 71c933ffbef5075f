use Rattle.std.proofs.Common.{rules, ◌≡◌, refl}
use Rattle.pyd_pool.specs.Ends.{hand_places}
use Rattle.pyd_pool.proofs.Callers.{still_all, back_at_end}
use Rattle.pyd_thread_tests.proofs.pool.race_of_four.Goals as goal

pub close-requires : goal.close-requires
close-requires g c = let s = c.in-Some-Some-Some-Some in let r = c.join-one.result in
    let first : hand_places r.0.0.hand ≡ hand_places s.one = search rules in
    let second : hand_places r.0.1.hand ≡ hand_places s.two = search rules in
    let third : hand_places r.1.0.hand ≡ hand_places s.three = search rules in
    let fourth : hand_places r.1.1.hand ≡ hand_places s.four = search rules in
    let one = back_at_end _ _ _ _ _ _ s.ensures'''.items c.in_ok-give_back.ensures refl first in
    let two = back_at_end _ _ _ _ _ _ s.ensures''.items c.in_ok-give_back-2.ensures one second in
    let three = back_at_end _ _ _ _ _ _ s.ensures'.items c.in_ok-give_back-3.ensures two third in
    let four = back_at_end _ _ _ _ _ _ s.ensures.items c.in_ok-give_back-4.ensures three fourth in
    still_all c.in_ok-pool.pool c.in_ok-pool.hands.items c.give_back-4.new.hands.items four c.in_ok-pool.ensures.hands
