-- The arguments of nodes, and which nodes are pure, have a job, or are replaced by a piece.
use Rattle.std.specs.Prelude.{List, [], ◌∷◌, ◌++◌, Bool, true, false, Option, Some, None}
use Rattle.std.specs.List.{flat_map}
use Rattle.pyd_ir.specs.declared.arg.Arg.{Arg}
use Rattle.pyd_ir.specs.declared.work.Frame.{Frame}
use Rattle.pyd_ir.specs.declared.work.Frame.TheVariants.{After, Again}
use Rattle.pyd_ir.specs.declared.work.Side.{Side}
use Rattle.pyd_ir.specs.declared.work.Side.TheVariants as side
use Rattle.pyd_ir.specs.declared.work.Work.{Work}
use Rattle.pyd_ir.specs.declared.work.Work.TheVariants.{Op, Read, Call, Stop, Print, Run, Cond, While, For, Pick, Enter}

-- the iterable of a loop that is gone on with
abbrev pub frame_arguments : Frame → List Arg
frame_arguments (After stmt) = []
frame_arguments (Again stmt turns over) = over ∷ []

-- those of all frames
abbrev pub rest_arguments : List Frame → List Arg
rest_arguments rest = flat_map frame_arguments rest

-- the value of a side, or the left operand of a tail
abbrev pub side_arguments : Side → List Arg
side_arguments (side.Arg a) = a ∷ []
side_arguments (side.Expr expr) = []
side_arguments (side.Tail expr member left) = left ∷ []

-- all arguments in the fields of a node, those in its slots, its sides and its frames too
abbrev pub arguments : Work → List Arg
arguments (Op op args) = args
arguments (Read arg kind) = arg ∷ []
arguments (Call func args) = args
arguments (Stop fault) = []
arguments (Print args) = args
arguments (Run func args) = args
arguments (Cond test stmt arm rest env) = test ∷ (rest_arguments rest ++ env)
arguments (While test stmt turns rest env) = test ∷ (rest_arguments rest ++ env)
arguments (For over stmt turns rest env) = over ∷ (rest_arguments rest ++ env)
arguments (Pick test first second env) =
    test ∷ (side_arguments first ++ (side_arguments second ++ env))
arguments (Enter func args) = args

-- the argument on whose value it depends which piece takes the place of a composite
abbrev pub control : Work → Option Arg
control (Op op args) = None
control (Read arg kind) = None
control (Call func args) = None
control (Stop fault) = None
control (Print args) = None
control (Run func args) = None
control (Cond test stmt arm rest env) = Some test
control (While test stmt turns rest env) = Some test
control (For over stmt turns rest env) = Some over
control (Pick test first second env) = Some test
control (Enter func args) = None

-- a pure leaf may be done at any time, and again
abbrev pub is_pure : Work → Bool
is_pure (Op op args) = true
is_pure (Read arg kind) = true
is_pure (Call func args) = true
is_pure (Stop fault) = true
is_pure (Print args) = false
is_pure (Run func args) = false
is_pure (Cond test stmt arm rest env) = false
is_pure (While test stmt turns rest env) = false
is_pure (For over stmt turns rest env) = false
is_pure (Pick test first second env) = false
is_pure (Enter func args) = false

-- a composite is replaced by a piece before anything is done
abbrev pub is_composite : Work → Bool
is_composite (Op op args) = false
is_composite (Read arg kind) = false
is_composite (Call func args) = false
is_composite (Stop fault) = false
is_composite (Print args) = false
is_composite (Run func args) = false
is_composite (Cond test stmt arm rest env) = true
is_composite (While test stmt turns rest env) = true
is_composite (For over stmt turns rest env) = true
is_composite (Pick test first second env) = true
is_composite (Enter func args) = true
