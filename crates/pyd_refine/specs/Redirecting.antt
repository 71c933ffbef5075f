-- The ports of a composite in later nodes, once a piece has taken its place.
use Rattle.std.specs.Prelude.{ℕ, zero, suc, List, [], ◌∷◌, ◌++◌, map, nat_eq, if◌then◌else◌}
use Rattle.pyd_ir.specs.declared.arg.Arg.{Arg}
use Rattle.pyd_ir.specs.declared.arg.Arg.TheVariants.{Known, From, Slot, Unbound}
use Rattle.pyd_ir.specs.declared.node.Node.{Node}
use Rattle.pyd_ir.specs.declared.work.Frame.{Frame}
use Rattle.pyd_ir.specs.declared.work.Frame.TheVariants.{After, Again}
use Rattle.pyd_ir.specs.declared.work.Side.{Side}
use Rattle.pyd_ir.specs.declared.work.Side.TheVariants as side
use Rattle.pyd_ir.specs.declared.work.Work.{Work}
use Rattle.pyd_ir.specs.declared.work.Work.TheVariants.{Op, Read, Call, Stop, Print, Run, Cond, While, For, Pick, Enter}
use Rattle.pyd_translate.specs.declared.piece.Piece.{Piece}

-- the argument in the place of a port, counted from 0
abbrev pub image : List Arg → ℕ → Arg
image [] port = Unbound
image (a ∷ args) zero = a
image (a ∷ args) (suc port) = image args port

-- the arguments in the place of the ports: the slots, and then the value
abbrev pub images : List Arg → Arg → List Arg
images env v = env ++ v ∷ []

-- those of a piece
abbrev pub piece_images : Piece → List Arg
piece_images p = images p.env p.value

module _ (id : ℕ) (ports : List Arg) where
  -- an argument, where these stand in the place of the ports of node id
  abbrev pub redirect : Arg → Arg
  redirect (Known v) = Known v
  redirect (From r) = if nat_eq r.node id then image ports r.port else From r
  redirect (Slot r) = if nat_eq r.node id then image ports r.port else Slot r
  redirect Unbound = Unbound

  -- all arguments of a list
  abbrev pub redirect_all : List Arg → List Arg
  redirect_all args = map redirect args

  -- the iterable of a loop that is gone on with
  abbrev pub redirect_frame : Frame → Frame
  redirect_frame (After stmt) = After stmt
  redirect_frame (Again stmt turns over) = Again stmt turns (redirect over)

  -- those of all frames
  abbrev pub redirect_rest : List Frame → List Frame
  redirect_rest rest = map redirect_frame rest

  -- the argument of a side
  abbrev pub redirect_side : Side → Side
  redirect_side (side.Arg a) = side.Arg (redirect a)
  redirect_side (side.Expr k) = side.Expr k
  redirect_side (side.Tail k member left) = side.Tail k member (redirect left)

  -- all arguments of a work
  abbrev pub redirect_work : Work → Work
  redirect_work (Op op args) = Op op (redirect_all args)
  redirect_work (Read arg kind) = Read (redirect arg) kind
  redirect_work (Call func args) = Call func (redirect_all args)
  redirect_work (Stop fault) = Stop fault
  redirect_work (Print args) = Print (redirect_all args)
  redirect_work (Run func args) = Run func (redirect_all args)
  redirect_work (Cond test k arm rest env) =
      Cond (redirect test) k arm (redirect_rest rest) (redirect_all env)
  redirect_work (While test k turns rest env) =
      While (redirect test) k turns (redirect_rest rest) (redirect_all env)
  redirect_work (For over k turns rest env) =
      For (redirect over) k turns (redirect_rest rest) (redirect_all env)
  redirect_work (Pick test first second env) =
      Pick (redirect test) (redirect_side first) (redirect_side second) (redirect_all env)
  redirect_work (Enter func args) = Enter func (redirect_all args)

  -- a later node
  abbrev pub redirect_node : Node → Node
  redirect_node n = record {
    id = n.id;
    line = n.line;
    depth = n.depth;
    routine = n.routine;
    work = redirect_work n.work;
  }

-- a piece in the place of node id, which the later nodes don't name any more
abbrev pub replaced_by : ℕ → Piece → List Node → List Node
replaced_by id p after = p.nodes ++ map (redirect_node id (piece_images p)) after

-- a list with a piece in the place of node id
abbrev pub replaced : ℕ → Piece → List Node → List Node
replaced id p [] = []
replaced id p (n ∷ ns) =
    if nat_eq n.id id then replaced_by id p ns else n ∷ replaced id p ns
