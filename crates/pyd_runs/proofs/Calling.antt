-- In each state the nodes have their callees, and so have the jobs that are ready or held.
use Rattle.std.proofs.Common.{◌≡◌, ℕ, ◌==◌, nat_eq, Bool, true, false, ◌&&◌, ◌||◌, if◌then◌else◌, cond, List, [], ◌∷◌, ◌++◌, map, Option, None, Some, inl, inr, refl, ap, sym, ◌∙◌, subst}
use Rattle.std.specs.Prelude.{Result, Ok, Err, option_map}
use Rattle.std.specs.List.{filter}
use Rattle.pyd_value.specs.declared.value.Value.{Value}
use Rattle.pyd_value.specs.declared.fault.Fault.{Fault}
use Rattle.pyd_tree.specs.declared.file.File.{File}
use Rattle.pyd_names.specs.Binding.{module_variables}
use Rattle.pyd_scope.specs.Numbering.{body, start}
use Rattle.pyd_meaning.specs.Evaluation.{Evaluation}
use Rattle.pyd_board.specs.declared.event.Act.{Act}
use Rattle.pyd_board.specs.declared.event.Act.TheVariants.{Place, Claim, Finish, Drop, Refine, Settle, Lose, Trim}
use Rattle.pyd_board.specs.declared.event.Event.{Event}
use Rattle.pyd_ir.specs.declared.arg.Arg.{Arg}
use Rattle.pyd_ir.specs.declared.job.Job.{Job}
use Rattle.pyd_ir.specs.declared.job.Task.{Task}
use Rattle.pyd_ir.specs.declared.job.Task.TheVariants as task
use Rattle.pyd_ir.specs.declared.node.Node.{Node}
use Rattle.pyd_ir.specs.declared.work.Work.{Work}
use Rattle.pyd_ir.specs.declared.work.Work.TheVariants.{Op, Read, Call, Stop, Print, Run, Cond, While, For, Pick, Enter}
use Rattle.pyd_ir.specs.Arguments.{is_pure}
use Rattle.pyd_ir.specs.Inputs.{Given, has_inputs, value_of, values_of, task_of, leaf_meaning}
use Rattle.pyd_translate.specs.declared.piece.Piece.{Piece}
use Rattle.pyd_translate.specs.Slots.{unbound_slots}
use Rattle.pyd_refine.specs.Readiness.{control_value}
use Rattle.pyd_refine.specs.Redirecting.{piece_images, redirect_work, redirect_node, replaced_by, replaced}
use Rattle.pyd_runs.specs.Plans.{Plan, limits_of}
use Rattle.pyd_runs.specs.Graphs.{Graph, nodes}
use Rattle.pyd_runs.specs.Desks.{Held, Stores}
use Rattle.pyd_runs.specs.Records.{node_at, recorded, heads, task_by, job_with, job_by, ready}
use Rattle.pyd_runs.specs.Growth.{piece_for, grown, grown_by}
use Rattle.pyd_runs.specs.Effects.{State, first_state, acted, happens, held_by, settled, settled_chain, settled_as, settled_by, passed, trimmed}
use Rattle.pyd_runs.specs.Replay.{after}
use Rattle.pyd_runs.specs.Claims.{IsHeld}
use Rattle.pyd_runs.specs.Callees.{HasCallee, HaveCallees, TaskHasCallee, HasCallees, CalleeLaw, KeptCalleeLaw}
use Rattle.pyd_runs.proofs.Putting.{if_cases, put_cases}
use Rattle.pyd_runs.proofs.Dropping.{claim_was, undone_was, elsewhere_some}
use Rattle.pyd_runs.proofs.Holding.{finish_undone}
use Rattle.pyd_runs.proofs.Owning.{finish_was}
use Rattle.pyd_runs.proofs.Named.{undone_from}
use Rattle.pyd_runs.proofs.Unchanged.{finish_alike}
use Rattle.pyd_runs.proofs.Within.{under_some}
use Rattle.pyd_runs.proofs.CalleeNodes.{callees_both}
use Rattle.pyd_runs.proofs.CalleeRests.{block_callees}
use Rattle.pyd_runs.proofs.CalleePieces.{piece_callees}

module _ (file : File) where
  -- each of two lists
  callees_parts : (xs ys : List Node) → HaveCallees file (xs ++ ys)
      → HaveCallees file xs × HaveCallees file ys
  callees_parts [] ys all = (tt, all)
  callees_parts (x ∷ xs) ys all =
      let parts = callees_parts xs ys all.1 in ((all.0, parts.0), parts.1)

  -- a list without some nodes
  kept_if : (b : Bool) (n : Node) (ns : List Node) → HasCallee file n.work → HaveCallees file ns
      → HaveCallees file (cond b (n ∷ ns) ns)
  kept_if true n ns has all = (has, all)
  kept_if false n ns has all = all

  filtered_callees : (test : Node → Bool) (ns : List Node) → HaveCallees file ns
      → HaveCallees file (filter test ns)
  filtered_callees test [] all = tt
  filtered_callees test (n ∷ ns) all =
      kept_if (test n) n (filter test ns) all.0 (filtered_callees test ns all.1)

  -- a node that is found in a list
  found_callee : (ns : List Node) (k : ℕ) (n : Node) → node_at ns k ≡ Some n
      → HaveCallees file ns → HasCallee file n.work
  found_callee [] k n e all = absurd (cc (e))
  found_callee (x ∷ ns) k n e all =
      elim (if_cases (x.id == k) (Some x) (node_at ns k) (Some n) e) [
        | inl a ↦
            let z = a.1 in
            let same : x ≡ n = cc (z) in
            subst (λ (m : Node). HasCallee file m.work) same all.0
        | inr b ↦ found_callee ns k n b.1 all.1
      ]

  module _ (id : ℕ) (images : List Arg) where
    -- a node with other arguments in the place of ports
    redirected_callee : (w : Work) → HasCallee file w → HasCallee file (redirect_work id images w)
    redirected_callee (Op op args) has = tt
    redirected_callee (Read arg kind) has = tt
    redirected_callee (Call func args) has = has
    redirected_callee (Stop fault) has = tt
    redirected_callee (Print args) has = tt
    redirected_callee (Run func args) has = has
    redirected_callee (Cond test k arm rest env) has = tt
    redirected_callee (While test k turns rest env) has = tt
    redirected_callee (For over k turns rest env) has = tt
    redirected_callee (Pick test first second env) has = tt
    redirected_callee (Enter func args) has = has

    redirected_callees : (ns : List Node) → HaveCallees file ns
        → HaveCallees file (map (redirect_node id images) ns)
    redirected_callees [] all = tt
    redirected_callees (n ∷ ns) all = (redirected_callee n.work all.0, redirected_callees ns all.1)

  -- a list with a piece in the place of a node
  replaced_if : (b : Bool) (k : ℕ) (piece : Piece) (n : Node) (ns : List Node)
      → HaveCallees file piece.nodes → HaveCallees file (n ∷ ns)
      → HaveCallees file (replaced k piece ns)
      → HaveCallees file (if b then replaced_by k piece ns else n ∷ replaced k piece ns)
  replaced_if true k piece n ns made all behind =
      callees_both file piece.nodes (map (redirect_node k (piece_images piece)) ns) made
      (redirected_callees k (piece_images piece) ns all.1)
  replaced_if false k piece n ns made all behind = (all.0, behind)

  replaced_callees : (k : ℕ) (piece : Piece) (ns : List Node) → HaveCallees file piece.nodes
      → HaveCallees file ns → HaveCallees file (replaced k piece ns)
  replaced_callees k piece [] made all = tt
  replaced_callees k piece (n ∷ ns) made all =
      replaced_if (nat_eq n.id k) k piece n ns made all (replaced_callees k piece ns made all.1)

  -- the nodes of a graph
  abbrev GraphCallees : Graph → Type 0
  GraphCallees g = HaveCallees file g.past × HaveCallees file g.chain

  -- a head that is settled stands in the past, or is gone
  passed_callees : (b : Bool) (g : Graph) (n : Node) (rest : List Node) (lines : List (List ℕ))
      (v : Value) → HaveCallees file g.past → HaveCallees file (n ∷ rest)
      → GraphCallees (passed b g n rest lines v)
  passed_callees true g n rest lines v past all =
      (callees_both file g.past (n ∷ []) past (all.0, tt), all.1)
  passed_callees false g n rest lines v past all = (past, all.1)

  result_callees : (g : Graph) (n : Node) (rest : List Node) (lines : List (List ℕ))
      (r : Result Value Fault) → GraphCallees g → HaveCallees file (n ∷ rest)
      → GraphCallees (settled_by g n rest lines r)
  result_callees g n rest lines (Ok v) are all =
      passed_callees (is_pure n.work) g n rest lines v are.0 all
  result_callees g n rest lines (Err f) are all = are

  head_callees : (g : Graph) (n : Node) (rest : List Node) (o : Option (Evaluation Value))
      → GraphCallees g → HaveCallees file (n ∷ rest) → GraphCallees (settled_as g n rest o)
  head_callees g n rest None are all = are
  head_callees g n rest (Some e) are all = result_callees g n rest e.lines e.result are all

module _ (p : Plan) where
  -- the graph with its head settled
  chain_callees : (g : Graph) (ns : List Node) → GraphCallees p.file g → HaveCallees p.file ns
      → GraphCallees p.file (settled_chain p g ns)
  chain_callees g [] are all = are
  chain_callees g (n ∷ rest) are all =
      head_callees p.file g n rest (leaf_meaning p.file (limits_of p) g.given n) are all

  settled_callees : (g : Graph) → GraphCallees p.file g → GraphCallees p.file (settled p g)
  unfolding settled
  settled_callees g are = chain_callees g g.chain are are.1

  -- the graph with the piece of a composite in its place
  piece_grows : (given : Given) (g : Graph) (k : ℕ) (o : Option Node) → GraphCallees p.file g
      → GraphCallees p.file (grown_by p given g k o)
  piece_grows given g k None are = are
  piece_grows given g k (Some n) are = (
    are.0,
    replaced_callees p.file k (piece_for p given g.next n) g.chain
        (piece_callees p.file (limits_of p) n (control_value given n.work) g.next) are.1,
  )

  grown_callees : (stores : Stores) (k : ℕ) (g : Graph) → GraphCallees p.file g
      → GraphCallees p.file (grown p stores k g)
  unfolding grown
  grown_callees stores k g are = piece_grows (recorded g stores) g k (node_at g.chain k) are

  -- the graph after what a seat did
  act_callees : (s : State) (seat : ℕ) (act : Act) → GraphCallees p.file s.graph
      → GraphCallees p.file (acted p s seat act).graph
  unfolding acted trimmed
  act_callees s seat (Place k a m) are = are
  act_callees s seat (Claim k a m) are = are
  act_callees s seat (Finish k a m) are =
      let same = finish_alike p s k m (s.desk.claim k) in (
        subst (HaveCallees p.file) (sym same.past) are.0,
        subst (HaveCallees p.file) (sym same.chain) are.1,
      )
  act_callees s seat (Drop k a m) are = are
  act_callees s seat (Refine k) are = grown_callees s.desk.stores k s.graph are
  act_callees s seat (Settle k) are = settled_callees s.graph are
  act_callees s seat (Lose m) are = are
  act_callees s seat (Trim k) are = (filtered_callees p.file _ s.graph.past are.0, are.1)

-- a task with values
mapped_callee : {A : Type 0} (file : File) (f : A → Task) (o : Option A) (t : Task)
    → option_map f o ≡ Some t → ((a : A) → TaskHasCallee file (f a)) → TaskHasCallee file t
mapped_callee file f None t e all = absurd (cc (e))
mapped_callee file f (Some a) t e all =
    let same : f a ≡ t = cc (e) in subst (TaskHasCallee file) same (all a)

-- the task of a node calls what the node does
task_callee : (file : File) (given : Given) (w : Work) (t : Task) → task_of given w ≡ Some t
    → HasCallee file w → TaskHasCallee file t
task_callee file given (Op op args) t e has =
    mapped_callee file (task.Op op) (values_of given args) t e (λ vs. tt)
task_callee file given (Read arg kind) t e has =
    mapped_callee file (λ (v : Option Value). task.Read v kind) (Some (value_of given arg)) t e
    (λ v. tt)
task_callee file given (Call func args) t e has =
    mapped_callee file (task.Call func) (values_of given args) t e (λ vs. has)
task_callee file given (Stop fault) t e has = absurd (cc (e))
task_callee file given (Print args) t e has = absurd (cc (e))
task_callee file given (Run func args) t e has =
    mapped_callee file (task.Run func) (values_of given args) t e (λ vs. has)
task_callee file given (Cond test k arm rest env) t e has = absurd (cc (e))
task_callee file given (While test k turns rest env) t e has = absurd (cc (e))
task_callee file given (For over k turns rest env) t e has = absurd (cc (e))
task_callee file given (Pick test first second env) t e has = absurd (cc (e))
task_callee file given (Enter func args) t e has = absurd (cc (e))

-- so does a job that is ready
with_callee : (file : File) (n : Node) (attempt : ℕ) (o : Option Task) (job : Job)
    → option_map (job_with n attempt) o ≡ Some job
    → ((t : Task) → o ≡ Some t → TaskHasCallee file t) → TaskHasCallee file job.task
with_callee file n attempt None job e all = absurd (cc (e))
with_callee file n attempt (Some t) job e all =
    let same : job_with n attempt t ≡ job = cc (e) in
    subst (λ (j : Job). TaskHasCallee file j.task) same (all t refl)

found_job : (file : File) (chain : List Node) (given : Given) (attempt : ℕ) (o : Option Node)
    (job : Job) → job_by chain given attempt o ≡ Some job
    → ((n : Node) → o ≡ Some n → HasCallee file n.work) → TaskHasCallee file job.task
found_job file chain given attempt None job e has = absurd (cc (e))
found_job file chain given attempt (Some n) job e has =
    with_callee file n attempt (task_by chain given n) job e (λ t is.
    task_callee file given n.work t
    (under_some (has_inputs given n.work && (is_pure n.work || heads n.id chain))
    (task_of given n.work) t is).1 (has n refl))

pub ready_callee : (file : File) (g : Graph) (stores : Stores) (k attempt : ℕ) (job : Job)
    → HaveCallees file (nodes g) → ready g stores k attempt ≡ Some job
    → TaskHasCallee file job.task
unfolding ready
ready_callee file g stores k attempt job all e =
    found_job file g.chain (recorded g stores) attempt (node_at (nodes g) k) job e
    (λ n found. found_callee file (nodes g) k n found all)

-- the job of a claim that was made now was ready
claimed_job : (attempt machine seat : ℕ) (o : Option Job) (c : Held)
    → held_by attempt machine seat o ≡ Some c → o ≡ Some c.job
claimed_job attempt machine seat None c e = absurd (cc (e))
claimed_job attempt machine seat (Some job) c e =
    let q : Held =
    record { attempt = attempt; machine = machine; seat = seat; job = job } in
    let same : q ≡ c = cc (e) in ap (λ (x : Held). Some x.job) same

module _ (p : Plan) (s : State) (has : HasCallees p s) where
  -- the jobs that are held after what a seat did
  held_callee : (seat : ℕ) (act : Act) (n : ℕ) (c : Held) → IsHeld (acted p s seat act) n c
      → TaskHasCallee p.file c.job.task
  unfolding acted
  held_callee seat (Place k a m) n c held = has.held n c held
  held_callee seat (Refine k) n c held = has.held n c held
  held_callee seat (Settle k) n c held = has.held n c held
  held_callee seat (Trim k) n c held = has.held n c held
  held_callee seat (Claim k a m) n c (inr undone) = has.held n c (inr undone)
  held_callee seat (Claim k a m) n c (inl claim) =
      let now = ready s.graph s.desk.stores k a in
      elim (put_cases s.desk.claim k (held_by a m seat now) n (Some c) claim) [
        | inr old ↦ has.held n c (inl old.1)
        | inl here ↦
            ready_callee p.file s.graph s.desk.stores k a c.job has.nodes
            (claimed_job a m seat now c here.1)
      ]
  held_callee seat (Finish k a m) n c (inl claim) =
      has.held n c (inl (finish_was p s k m n (s.desk.claim k) c claim))
  held_callee seat (Finish k a m) n c (inr undone) =
      has.held n c (inr (ap (λ (f : ℕ → ℕ → Option Held). f n c.attempt)
      (sym (finish_undone p s k m (s.desk.claim k))) ∙ undone))
  held_callee seat (Drop k a m) n c (inl claim) =
      has.held n c (inl (claim_was s.desk.claim k m n c claim))
  held_callee seat (Drop k a m) n c (inr undone) =
      has.held n c (inr (undone_was s.desk.undone k a n c.attempt c undone))
  held_callee seat (Lose m) n c (inl claim) =
      has.held n c (inl (elsewhere_some m (s.desk.claim n) c claim).0)
  held_callee seat (Lose m) n c (inr undone) =
      elim (undone_from m c.attempt (s.desk.claim n) (s.desk.undone n c.attempt) c undone) [
        | inl claim ↦ has.held n c (inl claim)
        | inr old ↦ has.held n c (inr old)
      ]

-- each event keeps it so
pub callees_kept : KeptCalleeLaw
unfolding happens
callees_kept p s e has =
    let g = s.graph in
    let parts = callees_parts p.file g.past g.chain has.nodes in
    let now = (acted p s e.by e.act).graph in
    let are = act_callees p s e.by e.act parts in record {
      nodes = callees_both p.file now.past now.chain are.0 are.1;
      held = λ k c held. elim held [
        | inl claim ↦ held_callee p s has e.by e.act k c (inl claim)
        | inr undone ↦ held_callee p s has e.by e.act k c (inr undone)
      ];
    }

-- over all events
after_callees : (p : Plan) (s : State) (es : List Event) → HasCallees p s
    → HasCallees p (after p s es)
unfolding after
after_callees p s [] has = has
after_callees p s (e ∷ es) has = after_callees p (happens p s e) es (callees_kept p s e has)

-- before any event
first_callees : (p : Plan) → HasCallees p (first_state p)
first_callees p = record {
  nodes = block_callees p.file 0 0 (record { stmts = body p.file 0; point = start }) []
      (unbound_slots (module_variables p.file)) 0;
  held = λ k c held. elim held [
    | inl claim ↦ absurd (cc (claim))
    | inr undone ↦ absurd (cc (undone))
  ];
}

-- the law
pub callees_always : CalleeLaw
callees_always p es = after_callees p (first_state p) es (first_callees p)
