use Rattle.std.proofs.Common.{rules, ◌≡◌, ℕ, sym, subst}
use Rattle.pyd_turn.specs.Seats.{joined, made, number, tally_of}
use Rattle.pyd_turn.specs.Views.{AllListed}
use Rattle.pyd_turn.proofs.Listing.{lists_next, lists_none}
use Rattle.pyd_thread_tests.proofs.turn.race_of_two.Goals as goal

pub close-requires-clause-all : goal.close-requires-clause-all
close-requires-clause-all g c =
    let two = c.take_turns_in_two_threads-one.result.1 in
    let number_is : number two ≡ 1 = search rules in
    let made_is : made c.join.new.seat ≡ 2 = search rules in
    let all = lists_next 1 _ _ (tally_of two) (lists_none _) c.join.ensures.listed number_is in
    subst (λ (n : ℕ). AllListed n (joined c.join.new.seat)) (sym made_is) all
