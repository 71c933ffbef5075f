-- From operands within the limits every operation gives values within them.
use Rattle.pyd_value.specs.Shape.{shape_of, number_of}
use Rattle.pyd_ops.specs.Indexing.{bound}
use Rattle.pyd_ops.specs.Laws.{OperationsKeepLimits}
use Rattle.pyd_ops.proofs.Keeping.{unary_limited, binary_limited, compare_limited, contains_limited}
use Rattle.pyd_ops.proofs.Parts.{inside, index_limited, slice_limited, builtin_limited}
use Rattle.pyd_ops.proofs.Ranging.{range_limited}

pub operations_keep_limits : OperationsKeepLimits
operations_keep_limits = record {
  unary = λ op a v line h e. unary_limited op a v line e;
  binary = binary_limited;
  compare = compare_limited;
  contains = contains_limited;
  index = λ a i v line h e. index_limited (shape_of a) (number_of i) v line (inside a h) e;
  slice = λ a v by line h e. slice_limited (shape_of a) (bound by.low) (bound by.high) v line (inside a h) e;
  builtin = builtin_limited;
  range_of = range_limited;
}
