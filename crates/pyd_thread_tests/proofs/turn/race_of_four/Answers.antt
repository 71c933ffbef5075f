use Rattle.std.proofs.Common.{rules, ◌≡◌, ℕ, sym, subst}
use Rattle.pyd_turn.specs.Seats.{joined, made, number, tally_of}
use Rattle.pyd_turn.specs.Views.{AllListed}
use Rattle.pyd_turn.proofs.Listing.{lists_next, lists_none}
use Rattle.pyd_thread_tests.proofs.turn.race_of_four.Goals as goal

pub close-requires-clause-all : goal.close-requires-clause-all
close-requires-clause-all g c =
    let two = c.join-one.result.0.1 in
    let three = c.join-one.result.1.0 in
    let four = c.join-one.result.1.1 in
    let two_is : number two ≡ 1 = search rules in
    let three_is : number three ≡ 2 = search rules in
    let four_is : number four ≡ 3 = search rules in
    let made_is : made c.join-3.new.seat ≡ 4 = search rules in
    let first = lists_next 1 _ _ (tally_of two) (lists_none _) c.join.ensures.listed two_is in
    let second = lists_next 2 _ _ (tally_of three) first c.join-2.ensures.listed three_is in
    let all = lists_next 3 _ _ (tally_of four) second c.join-3.ensures.listed four_is in
    subst (λ (n : ℕ). AllListed n (joined c.join-3.new.seat)) (sym made_is) all
