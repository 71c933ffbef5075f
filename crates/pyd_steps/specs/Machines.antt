-- The machine of a node where no placer chooses it, and the routine that a node calls.
use Rattle.std.specs.Prelude.{ℕ, List, Bool, not, ◌%◌, Option, Some, None, length, map, unwrap_or}
use Rattle.pyd_board.specs.Placing.{live_from, placed_on}
use Rattle.pyd_ir.specs.declared.node.Node.{Node}
use Rattle.pyd_ir.specs.declared.work.Work.{Work}
use Rattle.pyd_ir.specs.declared.work.Work.TheVariants.{Op, Read, Call, Stop, Print, Run, Cond, While, For, Pick, Enter}
use Rattle.pyd_runs.specs.Choices.{below}
use Rattle.pyd_runs.specs.Effects.{State}
use Rattle.pyd_runs.specs.Graphs.{nodes}
use Rattle.pyd_runs.specs.Plans.{Plan}
use Rattle.pyd_runs.specs.Records.{node_at}

-- whether each machine lives, from machine 0 on
abbrev pub alive_in : Plan → State → List Bool
alive_in p s = map (λ m. not (s.lost m)) (below p.setup.machines)

-- the live machine at a place, or the next one in circular order
abbrev pub live_around : List Bool → ℕ → ℕ
live_around alive place = placed_on alive (unwrap_or (live_from alive place) 0)

-- the machine that a node's number names, or the next live one in circular order
abbrev pub home_of : List Bool → ℕ → ℕ
home_of alive node = live_around alive (node % length alive)

-- the routine that a work calls, 0 where it calls none
abbrev pub callee_of : Work → ℕ
callee_of (Op op args) = 0
callee_of (Read arg kind) = 0
callee_of (Call func args) = func
callee_of (Stop fault) = 0
callee_of (Print args) = 0
callee_of (Run func args) = func
callee_of (Cond test stmt arm rest env) = 0
callee_of (While test stmt turns rest env) = 0
callee_of (For over stmt turns rest env) = 0
callee_of (Pick test first second env) = 0
callee_of (Enter func args) = 0

-- the routine that a node calls, if it is there
abbrev pub callee_at : Option Node → ℕ
callee_at None = 0
callee_at (Some n) = callee_of n.work

-- the routine that the node of a number calls
abbrev pub callee_in : State → ℕ → ℕ
callee_in s k = callee_at (node_at (nodes s.graph) k)
