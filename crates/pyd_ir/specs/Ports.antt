-- The ports of leaves. A record keeps one value; of an unpacking it is the tuple of the members.
use Rattle.std.specs.Prelude.{ℕ, zero, suc, Option, Some, None}
use Rattle.pyd_value.specs.declared.value.Value.{Value}
use Rattle.pyd_ops.specs.Sequence.{item_at}
use Rattle.pyd_ir.specs.declared.code.OpCode.{OpCode}
use Rattle.pyd_ir.specs.declared.code.OpCode.TheVariants.{Unary, Binary, Compare, Index, Slice, Tuple, Unpack, Len, Abs, Min, Max, Sum, Str, Repr, Int, Bool, Range, Assert}
use Rattle.pyd_ir.specs.declared.work.Work.{Work}
use Rattle.pyd_ir.specs.declared.work.Work.TheVariants.{Op, Read, Call, Stop, Print, Run, Cond, While, For, Pick, Enter}

-- what stands at each port, counted from 0
abbrev pub Ports : Type 0
Ports = ℕ → Option Value

-- no port
abbrev pub no_ports : Ports
no_ports port = None

-- port 0 alone
abbrev pub only_port : Value → Ports
only_port v zero = Some v
only_port v (suc port) = None

-- an unpacking has a port for each member, and any other operator has one
abbrev pub op_ports : OpCode → Value → Ports
op_ports (Unary op) v = only_port v
op_ports (Binary op) v = only_port v
op_ports (Compare op) v = only_port v
op_ports Index v = only_port v
op_ports (Slice low high) v = only_port v
op_ports Tuple v = only_port v
op_ports (Unpack count) v = item_at v
op_ports Len v = only_port v
op_ports Abs v = only_port v
op_ports Min v = only_port v
op_ports Max v = only_port v
op_ports Sum v = only_port v
op_ports Str v = only_port v
op_ports Repr v = only_port v
op_ports Int v = only_port v
op_ports Bool v = only_port v
op_ports Range v = only_port v
op_ports Assert v = only_port v

-- the ports of a leaf that gave this value; those of a composite are made by its piece
abbrev pub ports_of : Work → Value → Ports
ports_of (Op op args) v = op_ports op v
ports_of (Read arg kind) v = only_port v
ports_of (Call func args) v = only_port v
ports_of (Stop fault) v = no_ports
ports_of (Print args) v = only_port v
ports_of (Run func args) v = only_port v
ports_of (Cond test stmt arm rest env) v = no_ports
ports_of (While test stmt turns rest env) v = no_ports
ports_of (For over stmt turns rest env) v = no_ports
ports_of (Pick test first second env) v = no_ports
ports_of (Enter func args) v = no_ports
