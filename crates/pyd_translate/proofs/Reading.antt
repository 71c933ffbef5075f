-- What single definitions of the numbers and of making say.
use Rattle.std.proofs.Common.{refl}
use Rattle.pyd_translate.specs.Making.{stop, ◌>>>◌}
use Rattle.pyd_translate.specs.Readings.{ConditionalOrder, StopLaw}

-- the first side of a conditional expression is numbered before its test
pub conditional_order : ConditionalOrder
conditional_order test first second = refl

-- behind a Stop nothing is made
pub stop_then : StopLaw
unfolding ◌>>>◌ stop
stop_then at fault next ids = refl
