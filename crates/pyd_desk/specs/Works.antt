-- Kinds of nodes: which have a job, and what stands at their ports.
use Rattle.std.specs.Prelude.{Bool, true, false}
use Rattle.pyd_ir.specs.declared.code.OpCode.{OpCode}
use Rattle.pyd_ir.specs.declared.code.OpCode.TheVariants.{Unary, Binary, Compare, Index, Slice, Tuple, Unpack, Len, Abs, Min, Max, Sum, Str, Repr, Int, Bool as Truth, Range, Assert}
use Rattle.pyd_ir.specs.declared.work.Work.{Work}
use Rattle.pyd_ir.specs.declared.work.Work.TheVariants.{Op, Read, Call, Stop, Print, Run, Cond, While, For, Pick, Enter}
use Rattle.pyd_desk.specs.declared.desk.PortKind.{PortKind}
use Rattle.pyd_desk.specs.declared.desk.PortKind.TheVariants.{One, Items, Nothing}

-- a node that is done by whoever claims it
abbrev pub has_job : Work → Bool
has_job (Op op args) = true
has_job (Read arg kind) = true
has_job (Call func args) = true
has_job (Stop fault) = false
has_job (Print args) = false
has_job (Run func args) = true
has_job (Cond test stmt arm rest env) = false
has_job (While test stmt turns rest env) = false
has_job (For over stmt turns rest env) = false
has_job (Pick test first second env) = false
has_job (Enter func args) = false

-- an unpacking has a port for each item, and any other operator has one
abbrev pub op_kind : OpCode → PortKind
op_kind (Unary op) = One
op_kind (Binary op) = One
op_kind (Compare op) = One
op_kind Index = One
op_kind (Slice low high) = One
op_kind Tuple = One
op_kind (Unpack count) = Items
op_kind Len = One
op_kind Abs = One
op_kind Min = One
op_kind Max = One
op_kind Sum = One
op_kind Str = One
op_kind Repr = One
op_kind Int = One
op_kind Truth = One
op_kind Range = One
op_kind Assert = One

-- what stands at the ports of a node that gave a value
abbrev pub port_kind : Work → PortKind
port_kind (Op op args) = op_kind op
port_kind (Read arg kind) = One
port_kind (Call func args) = One
port_kind (Stop fault) = Nothing
port_kind (Print args) = One
port_kind (Run func args) = One
port_kind (Cond test stmt arm rest env) = Nothing
port_kind (While test stmt turns rest env) = Nothing
port_kind (For over stmt turns rest env) = Nothing
port_kind (Pick test first second env) = Nothing
port_kind (Enter func args) = Nothing
