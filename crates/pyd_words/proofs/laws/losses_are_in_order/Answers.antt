use Rattle.pyd_words.proofs.Order.{in_order_rises, in_order_stable}
use Rattle.pyd_words.proofs.laws.losses_are_in_order.Goals as goal

pub returns : goal.returns
returns c = record { rising = in_order_rises; stable = in_order_stable }
