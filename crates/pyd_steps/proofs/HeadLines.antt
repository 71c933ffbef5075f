-- What the head's Settle does to the graph.
use Rattle.std.proofs.Common.{◌≡◌, ℕ, List, [], ◌∷◌, ◌++◌, append-nil, Bool, true, false, drop, take, Option, Some, None, Result, Ok, Err, refl, ap, sym, ◌∙◌}
use Rattle.std.proofs.lemmas.List.{append_cancel_left}
use Rattle.pyd_value.specs.declared.value.Value.{Value}
use Rattle.pyd_value.specs.declared.fault.End.{End}
use Rattle.pyd_value.specs.declared.fault.Fault.{Fault}
use Rattle.pyd_meaning.specs.declared.ran.Ran.{Ran}
use Rattle.pyd_meaning.specs.Evaluation.{Evaluation}
use Rattle.pyd_meaning.specs.Module.{ended_by}
use Rattle.pyd_board.specs.declared.event.Act.TheVariants.{Settle}
use Rattle.pyd_ir.specs.declared.node.Node.{Node}
use Rattle.pyd_ir.specs.declared.work.Work.{Work}
use Rattle.pyd_ir.specs.Arguments.{is_pure}
use Rattle.pyd_ir.specs.Inputs.{leaf_meaning}
use Rattle.pyd_ir.specs.Meaning.{ran_of}
use Rattle.pyd_lineage.specs.Lineage.{AreUnreached}
use Rattle.pyd_runs.specs.Effects.{State, acted, passed, settled, settled_as, settled_by, settled_chain}
use Rattle.pyd_runs.specs.Enabled.{CanSettle}
use Rattle.pyd_runs.specs.Graphs.{Graph}
use Rattle.pyd_runs.specs.Plans.{Plan, limits_of}
use Rattle.pyd_desk.specs.Lines.{chain_of}
use Rattle.pyd_desk.specs.Passing.{kept_of}
use Rattle.pyd_core.specs.declared.keeper.Core.{Core}
use Rattle.pyd_core.specs.declared.settling.Leaves.{Leaves}
use Rattle.pyd_core.specs.declared.settling.Leaves.TheVariants.{Passed, Ended}
use Rattle.pyd_core.specs.declared.settling.Settling.{Settling}
use Rattle.pyd_core.specs.Cores.{IsCore, plan_of, state_of}
use Rattle.pyd_core.specs.Settling.{IsSettling, leaves_by}
use Rattle.pyd_core.specs.Trimmings.{PassesHead, past_behind}
use Rattle.pyd_core.proofs.Settled.{first_same}
use Rattle.pyd_core.proofs.Unreached.{of_same}
use Rattle.pyd_steps.specs.Settling.{HasUnreached, head_lines, lines_at, lines_of}

-- the chain behind a head that was passed, and what was put out
passed_chain : (pure : Bool) (g : Graph) (n : Node) (rest : List Node) (lines : List (List ℕ))
    (v : Value) → (passed pure g n rest lines v).chain ≡ rest
passed_chain true g n rest lines v = refl
passed_chain false g n rest lines v = refl

passed_out : (pure : Bool) (g : Graph) (n : Node) (rest : List Node) (lines : List (List ℕ))
    (v : Value) → (passed pure g n rest lines v).out ≡ g.out ++ lines
passed_out true g n rest lines v = refl
passed_out false g n rest lines v = refl

-- what was put out behind a head
settled_out : (g : Graph) (n : Node) (rest : List Node) (lines : List (List ℕ))
    (r : Result Value Fault) → (settled_by g n rest lines r).out ≡ g.out ++ lines
settled_out g n rest lines (Ok v) = passed_out (is_pure n.work) g n rest lines v
settled_out g n rest lines (Err f) = refl

settled_as_out : (g : Graph) (n : Node) (rest : List Node) (o : Option (Evaluation Value))
    → (settled_as g n rest o).out ≡ g.out ++ lines_of o
settled_as_out g n rest None = sym (append-nil g.out)
settled_as_out g n rest (Some e) = settled_out g n rest e.lines e.result

settled_chain_out : (p : Plan) (g : Graph) (ns : List Node)
    → (settled_chain p g ns).out ≡ g.out ++ lines_at p g ns
settled_chain_out p g [] = sym (append-nil g.out)
settled_chain_out p g (n ∷ rest) =
    settled_as_out g n rest (leaf_meaning p.file (limits_of p) g.given n)

-- the lines of the head
pub settled_lines : (p : Plan) (g : Graph) → (settled p g).out ≡ g.out ++ head_lines p g
unfolding settled
settled_lines p g = settled_chain_out p g g.chain

-- the graph behind the Settle
pub acted_settled : (p : Plan) (s : State) (seat k : ℕ)
    → (acted p s seat (Settle k)).graph ≡ settled p s.graph
unfolding acted
acted_settled p s seat k = refl

module _ (p : Plan) (s : State) (settling : Settling) (is : IsSettling p s settling) where
  settled_is : settled p s.graph
      ≡ settled_by s.graph is.head is.rest is.does.lines is.does.result
  settled_is = sym (acted_settled p s 0 is.head.id) ∙ is.graph 0

  -- its lines are those of the head
  pub lines_are : settling.lines ≡ head_lines p s.graph
  lines_are =
      ap (λ (t : Settling). t.lines) is.made
      ∙ append_cancel_left s.graph.out is.does.lines (head_lines p s.graph)
      (sym (settled_out s.graph is.head is.rest is.does.lines is.does.result)
      ∙ ap (λ (g : Graph). g.out) (sym settled_is) ∙ settled_lines p s.graph)

-- what a result leaves
abbrev result_leaves : Work → List (List ℕ) → Result Value Fault → Leaves
result_leaves w lines r =
    leaves_by w (ran_of (record { lines = lines; result = r; steps = 0 })).outcome

-- a head that leaves what is kept gave a value
passes_by : (p : Plan) (s : State) (n : Node) (rest : List Node) (lines : List (List ℕ))
    (r : Result Value Fault) (kept : Option Ran) → s.graph.chain ≡ n ∷ rest → CanSettle s n.id
    → ((seat : ℕ) → (acted p s seat (Settle n.id)).graph ≡ settled_by s.graph n rest lines r)
    → Passed kept ≡ result_leaves n.work lines r → PassesHead p s (is_pure n.work)
passes_by p s n rest lines (Ok v) kept chain can graph leaf = record {
  head = n;
  rest = rest;
  lines = lines;
  value = v;
  chain = chain;
  can = can;
  graph = graph;
}
passes_by p s n rest lines (Err f) kept chain can graph leaf =
    let z : Passed kept ≡ Ended (ended_by f) = leaf in absurd (cc (z))

-- one that leaves an end ended the run
ended_graph : (g : Graph) (n : Node) (rest : List Node) (lines : List (List ℕ))
    (r : Result Value Fault) (end : End) → Ended end ≡ result_leaves n.work lines r
    → (settled_by g n rest lines r).end ≡ None → ⊥
ended_graph g n rest lines (Ok v) end leaf on =
    let z : Ended end ≡ Passed (kept_of (is_pure n.work) v) = leaf in cc (z)
ended_graph g n rest lines (Err f) end leaf on = cc (on)

module _ (p : Plan) (s : State) (settling : Settling) (is : IsSettling p s settling) where
  leaf_is : settling.leaves ≡ result_leaves is.head.work is.does.lines is.does.result
  leaf_is = ap (λ (t : Settling). t.leaves) is.made

  pub passes_head : (kept : Option Ran) → settling.leaves ≡ Passed kept
      → PassesHead p s (is_pure is.head.work)
  passes_head kept left =
      passes_by p s is.head is.rest is.does.lines is.does.result kept is.chain is.can is.graph
      (sym left ∙ leaf_is)

  -- then nothing is to be trimmed
  pub ended_unreached : (end : End) → settling.leaves ≡ Ended end → (nodes : List ℕ)
      → HasUnreached (settled p s.graph) nodes
  ended_unreached end left nodes on =
      absurd (ended_graph s.graph is.head is.rest is.does.lines is.does.result end
      (sym left ∙ leaf_is) (sym (ap (λ (g : Graph). g.end) (settled_is p s settling is)) ∙ on))

-- the past behind a head that was passed
passed_past : (pure : Bool) (g : Graph) (n : Node) (rest : List Node) (lines : List (List ℕ))
    (v : Value) → g.chain ≡ n ∷ rest
    → (passed pure g n rest lines v).past ≡ past_behind pure g.past g.chain
passed_past true g n rest lines v is = ap (λ ns. g.past ++ take 1 ns) (sym is)
passed_past false g n rest lines v is = refl

-- what isn't reached behind a head is what isn't reached in the graph then
pub passed_unreached : (p : Plan) (s : State) (pure : Bool) → PassesHead p s pure
    → (nodes : List ℕ)
    → AreUnreached (past_behind pure s.graph.past s.graph.chain) (drop 1 s.graph.chain) nodes
    → HasUnreached (settled p s.graph) nodes
passed_unreached p s pure is nodes are on =
    let now : settled p s.graph ≡ passed pure s.graph is.head is.rest is.lines is.value
    = sym (acted_settled p s 0 is.head.id) ∙ is.graph 0 in
    of_same (λ past chain. AreUnreached past chain nodes) _ _ (settled p s.graph).past
    (settled p s.graph).chain
    (sym (ap (λ (g : Graph). g.past) now
    ∙ passed_past pure s.graph is.head is.rest is.lines is.value is.chain))
    (sym (ap (λ (g : Graph). g.chain) now
    ∙ passed_chain pure s.graph is.head is.rest is.lines is.value
    ∙ ap (drop 1) (sym is.chain)))
    are

-- the head of the line is that of the chain
pub pure_same : (c : Core) (settling : Settling) (is : IsSettling (plan_of c) (state_of c) settling)
    → IsCore c → (n : Node) → chain_of c.line ≡ n ∷ drop 1 (chain_of c.line)
    → is_pure is.head.work ≡ is_pure n.work
pure_same c settling is core n first =
    ap (λ (m : Node). is_pure m.work)
    (first_same is.head n is.rest (drop 1 (chain_of c.line))
    (sym is.chain ∙ core.tied.state.graph.chain ∙ first))
