-- What comes next in head order: the head, or what it waits for.
use Rattle.std.specs.Prelude.{◌≡◌, ℕ, suc, List, [], ◌∷◌, Bool, not, ◌&&◌, None, is_some, unwrap_or, IsTrue}
use Rattle.std.specs.List.{find, flat_map}
use Rattle.pyd_board.specs.declared.event.Act.{Act}
use Rattle.pyd_board.specs.declared.event.Act.TheVariants.{Place, Claim, Finish, Drop, Refine, Settle, Lose, Trim}
use Rattle.pyd_ir.specs.declared.arg.Arg.{Arg}
use Rattle.pyd_ir.specs.declared.node.Node.{Node}
use Rattle.pyd_ir.specs.declared.work.Work.{Work}
use Rattle.pyd_ir.specs.declared.work.Work.TheVariants.{Op, Read, Call, Stop, Print, Run, Cond, While, For, Pick, Enter}
use Rattle.pyd_lineage.specs.Lineage.{named_by, is_among}
use Rattle.pyd_lineage.specs.Marking.{past_names}
use Rattle.pyd_runs.specs.Plans.{Plan, IsSeat}
use Rattle.pyd_runs.specs.Records.{records, heads}
use Rattle.pyd_runs.specs.Effects.{State}
use Rattle.pyd_runs.specs.Enabled.{Lives, IsQuiet, CanClaim, CanFinish, CanRefine, CanSettle, CanAct}
use Rattle.pyd_runs.specs.Sound.{IsSound}
use Rattle.pyd_runs.specs.Laws.{IsRunnable}
use Rattle.pyd_runs.specs.Bounds.{InHeadOrder}

-- the arguments that a head waits for: all of a leaf, and of a composite the control alone
abbrev pub waited_for : Work → List Arg
waited_for (Op op args) = args
waited_for (Read arg kind) = arg ∷ []
waited_for (Call func args) = args
waited_for (Stop fault) = []
waited_for (Print args) = args
waited_for (Run func args) = args
waited_for (Cond test stmt arm rest env) = test ∷ []
waited_for (While test stmt turns rest env) = test ∷ []
waited_for (For over stmt turns rest env) = over ∷ []
waited_for (Pick test first second env) = test ∷ []
waited_for (Enter func args) = []

-- whether a node has a record
abbrev pub has_record : State → ℕ → Bool
has_record s k = is_some (records s.graph s.desk.stores k)

-- the numbers that a head names so, and in turn those that such past nodes without a record name
abbrev pub named_for : State → Node → List ℕ
named_for s head =
    past_names (has_record s) s.graph.past (flat_map named_by (waited_for head.work))

-- whether the head waits for a past node: it is named so, and has no record
abbrev pub is_awaited : State → Node → Node → Bool
is_awaited s head x = is_among (named_for s head) x.id && not (has_record s x.id)

-- the node that is due: the first past one that the head waits for, else the head
abbrev pub node_due : State → Node → Node
node_due s head = unwrap_or (find (is_awaited s head) s.graph.past) head

-- no node may be settled
abbrev pub NoneSettles : State → Type 0
NoneSettles s = (k : ℕ) → CanSettle s k → ⊥

-- the node of this number is due, as the head may be neither settled nor refined
pub record IsDue (p : Plan) (s : State) (k : ℕ) : Type 0 where
  pub head : Node
  pub rest : List Node
  pub chain : s.graph.chain ≡ head ∷ rest
  pub none_settles : NoneSettles s
  pub not_refined : CanRefine p s head.id → ⊥
  pub number : (node_due s head).id ≡ k

-- what a seat does next in head order: it settles the head where that may be done, else refines it where that may be done, else places, claims or finishes the node that is due, on a machine that lives
abbrev pub IsNext : Plan → State → ℕ → Act → Type 0
IsNext p s seat (Settle k) = CanSettle s k
IsNext p s seat (Refine k) = NoneSettles s × IsTrue (heads k s.graph.chain) × CanRefine p s k
IsNext p s seat (Place k attempt machine) =
    IsDue p s k × (s.desk.ticket k ≡ None) × (s.desk.claim k ≡ None)
    × (attempt ≡ suc (s.desk.places k)) × Lives p s.lost machine
IsNext p s seat (Claim k attempt machine) = IsDue p s k × CanClaim p s seat k attempt machine
IsNext p s seat (Finish k attempt machine) = IsDue p s k × CanFinish p s seat k attempt machine
IsNext p s seat (Drop k attempt machine) = ⊥
IsNext p s seat (Lose machine) = ⊥
IsNext p s seat (Trim k) = ⊥

-- what comes next in head order may be done
abbrev pub NextLaw : Type 0
NextLaw = (p : Plan) (s : State) (seat : ℕ) (act : Act) → IsRunnable p → IsSound p s
    → IsQuiet s → IsNext p s seat act → CanAct p s seat act

-- and is an act that a run in head order may have
abbrev pub NextOrderLaw : Type 0
NextOrderLaw = (p : Plan) (s : State) (seat : ℕ) (act : Act) → IsNext p s seat act
    → InHeadOrder s act

-- an act that a seat may do next in head order
pub record GoesInOrder (p : Plan) (s : State) : Type 0 where
  pub seat : ℕ
  pub act : Act
  pub is_seat : IsSeat p seat
  pub next : IsNext p s seat act

-- head order never sticks: where the run goes on and no loss is due, there is such an act
abbrev pub HeadOrderLaw : Type 0
HeadOrderLaw = (p : Plan) (s : State) → IsRunnable p → IsSound p s → IsQuiet s
    → GoesInOrder p s
