-- How many nodes a run makes.
use Rattle.std.proofs.Common.{◌≡◌, ◌≤◌, ℕ, suc, ◌+◌, ◌*◌, cond, List, [], ◌∷◌, ◌++◌, length, map, Bool, true, false, Option, None, Some, refl, sym, subst, arith}
use Rattle.std.specs.Prelude.{Result, Ok, Err}
use Rattle.pyd_value.specs.declared.value.Value.{Value}
use Rattle.pyd_value.specs.declared.fault.Fault.{Fault}
use Rattle.pyd_tree.specs.declared.file.File.{File}
use Rattle.pyd_names.specs.Binding.{module_variables}
use Rattle.pyd_meaning.specs.declared.limits.Limits.{Limits}
use Rattle.pyd_meaning.specs.Evaluation.{Evaluation}
use Rattle.pyd_board.specs.declared.event.Act.{Act}
use Rattle.pyd_board.specs.declared.event.Act.TheVariants.{Place, Claim, Finish, Drop, Refine, Settle, Lose, Trim}
use Rattle.pyd_board.specs.declared.event.Event.{Event}
use Rattle.pyd_ir.specs.declared.arg.Arg.{Arg}
use Rattle.pyd_ir.specs.declared.arg.Arg.TheVariants.{Known, From, Slot, Unbound}
use Rattle.pyd_ir.specs.declared.node.Node.{Node}
use Rattle.pyd_ir.specs.declared.work.Frame.{Frame}
use Rattle.pyd_ir.specs.declared.work.Frame.TheVariants.{After, Again}
use Rattle.pyd_ir.specs.declared.work.Work.{Work}
use Rattle.pyd_ir.specs.declared.work.Work.TheVariants.{Op, Read, Call, Stop, Print, Run, Cond, While, For, Pick, Enter}
use Rattle.pyd_ir.specs.Arguments.{is_pure, arguments}
use Rattle.pyd_ir.specs.Inputs.{leaf_meaning}
use Rattle.pyd_scope.specs.Numbering.{body, start}
use Rattle.pyd_translate.specs.declared.piece.Piece.{Piece}
use Rattle.pyd_translate.specs.Counts.{file_items}
use Rattle.pyd_translate.specs.Naming.{Naming, IsNamed, AreAllNamed}
use Rattle.pyd_translate.specs.Nested.{number_behind, following, end_of, IsNested, HasNested, AreNested}
use Rattle.pyd_translate.specs.Slots.{unbound_slots}
use Rattle.pyd_translate.proofs.Ordering.{any_marked}
use Rattle.pyd_translate.proofs.RestOrder.{block_names}
use Rattle.pyd_refine.specs.Composites.{refined, refined_piece}
use Rattle.pyd_refine.specs.Readiness.{control_value}
use Rattle.pyd_refine.specs.Redirecting.{piece_images, redirect_rest, redirect_work, redirect_node, replaced_by}
use Rattle.pyd_refine.proofs.Newness.{work-orders}
use Rattle.pyd_runs.specs.Plans.{Plan, limits_of}
use Rattle.pyd_runs.specs.Graphs.{Graph, module_piece}
use Rattle.pyd_runs.specs.Records.{recorded}
use Rattle.pyd_runs.specs.Growth.{grown}
use Rattle.pyd_runs.specs.Effects.{State, first_state, acted, happens, settled, settled_chain, settled_as, settled_by, passed, trimmed, finished_by}
use Rattle.pyd_runs.specs.Enabled.{CanAct}
use Rattle.pyd_runs.specs.Replay.{IsLegal, IsLegalFrom, after, replay}
use Rattle.pyd_runs.specs.Sound.{IsSound}
use Rattle.pyd_runs.specs.Laws.{IsRunnable, advances}
use Rattle.pyd_runs.specs.Bounds.{MadeCountLaw}
use Rattle.pyd_runs.proofs.Redirected.{split_at}
use Rattle.pyd_runs.proofs.Growing.{growing}
use Rattle.pyd_runs.proofs.Refined.{grown_is}
use Rattle.pyd_runs.proofs.Running.{event_keeps}
use Rattle.pyd_runs.proofs.Starting.{starts}
use Rattle.pyd_runs.proofs.Stepping.{taken, taken_cons}
use Rattle.pyd_runs.proofs.Unchanged.{finish_alike}
use Rattle.pyd_runs.proofs.Named.{settled_next}
use Rattle.pyd_runs.proofs.Counting.{loss_share}
use Rattle.pyd_runs.proofs.Fitting.{routine_few, routine_nests, piece_few, piece_nests}

-- where any node may be named
abbrev any_naming : Naming
any_naming = record {
  base = 0;
  may = λ n k. true;
  slots = λ k. true;
  up = λ m n k le is. refl;
  made = λ n k from less. refl;
}

any_named : (n : ℕ) (a : Arg) → IsNamed any_naming n a
any_named n (Known v) = tt
any_named n (From r) = refl
any_named n (Slot r) = (refl, refl)
any_named n Unbound = tt

all_named : (n : ℕ) (args : List Arg) → AreAllNamed any_naming n args
all_named n [] = tt
all_named n (a ∷ args) = (any_named n a, all_named n args)

-- a piece is numbered by as many numbers as it has nodes
piece_next : (file : File) (limits : Limits) (node : Node) (control : Option Value) (ids : ℕ)
    → (refined_piece file limits node control ids).next
    ≡ ids + length (refined_piece file limits node control ids).nodes
piece_next file limits node control ids =
    (work-orders any_naming file limits node.work node control ids
    (all_named ids (arguments node.work)) ids (omega arith) (omega arith)
    (any_marked any_naming (λ k. refl) (refined file limits node control ids).nodes)).next

-- so is the module's
module_next : (p : Plan) → (module_piece p).next ≡ length (module_piece p).nodes
module_next p =
    let env = unbound_slots (module_variables p.file) in
    let is = (block_names any_naming p.file 0 0 (record { stmts = body p.file 0; point = start }) []
    0 env (omega arith) tt (all_named 0 env)
    (any_marked any_naming (λ k. refl) (module_piece p).nodes)).next in
    omega (arith, is)

module _ (file : File) where
  -- nodes and then others
  nested_both : (xs ys : List Node) → AreNested file xs → AreNested file ys
      → AreNested file (xs ++ ys)
  nested_both [] ys first more = more
  nested_both (x ∷ xs) ys first more = (first.0, nested_both xs ys first.1 more)

  nested_parts : (xs ys : List Node) → AreNested file (xs ++ ys)
      → AreNested file xs × AreNested file ys
  nested_parts [] ys all = (tt, all)
  nested_parts (x ∷ xs) ys all =
      let parts = nested_parts xs ys all.1 in ((all.0, parts.0), parts.1)

  module _ (id : ℕ) (images : List Arg) where
    -- a rest is nested as it was where other arguments stand in the place of ports
    redirected_rest : (routine first last : ℕ) (rest : List Frame)
        → IsNested file routine first last rest
        → IsNested file routine first last (redirect_rest id images rest)
    redirected_rest routine first last [] is = tt
    redirected_rest routine first last (After k ∷ rest) is = (
      is.0,
      redirected_rest routine first (number_behind (following file routine k)) rest is.1,
    )
    redirected_rest routine first last (Again k turns over ∷ rest) is =
        (is.0, (is.1.0, redirected_rest routine k (end_of file routine k) rest is.1.1))

    redirected_work : (routine : ℕ) (w : Work) → HasNested file routine w
        → HasNested file routine (redirect_work id images w)
    redirected_work routine (Op op args) is = tt
    redirected_work routine (Read arg kind) is = tt
    redirected_work routine (Call func args) is = tt
    redirected_work routine (Stop fault) is = tt
    redirected_work routine (Print args) is = tt
    redirected_work routine (Run func args) is = tt
    redirected_work routine (Cond test k arm rest env) is =
        redirected_rest routine k (end_of file routine k) rest is
    redirected_work routine (While test k turns rest env) is =
        redirected_rest routine k (end_of file routine k) rest is
    redirected_work routine (For over k turns rest env) is =
        redirected_rest routine k (end_of file routine k) rest is
    redirected_work routine (Pick test first second env) is = tt
    redirected_work routine (Enter func args) is = tt

    redirected_nodes : (ns : List Node) → AreNested file ns
        → AreNested file (map (redirect_node id images) ns)
    redirected_nodes [] all = tt
    redirected_nodes (n ∷ ns) all =
        (redirected_work n.routine n.work all.0, redirected_nodes ns all.1)

-- a graph behind another: so many more nodes at most were made, and the rests of its chain are nested
pub record IsBehind (p : Plan) (old new : Graph) (n : ℕ) : Type 0 where
  pub made : new.next ≤ old.next + 3 * n
  pub nested : AreNested p.file new.chain

-- a graph with the same chain and next number
same_graph : (p : Plan) (old new : Graph) → new.chain ≡ old.chain → new.next ≡ old.next
    → AreNested p.file old.chain → IsBehind p old new 0
same_graph p old new chain next nested = record {
  made = omega (arith, next);
  nested = subst (AreNested p.file) (sym chain) nested;
}

-- a Settle leaves the chain, or what stands behind its head
passed_nested : (b : Bool) (p : Plan) (g : Graph) (n : Node) (rest : List Node)
    (lines : List (List ℕ)) (v : Value) → AreNested p.file rest
    → AreNested p.file (passed b g n rest lines v).chain
passed_nested true p g n rest lines v nested = nested
passed_nested false p g n rest lines v nested = nested

result_nested : (p : Plan) (g : Graph) (n : Node) (rest : List Node) (lines : List (List ℕ))
    (r : Result Value Fault) → AreNested p.file g.chain → AreNested p.file rest
    → AreNested p.file (settled_by g n rest lines r).chain
result_nested p g n rest lines (Ok v) all behind =
    passed_nested (is_pure n.work) p g n rest lines v behind
result_nested p g n rest lines (Err f) all behind = all

head_nested : (p : Plan) (g : Graph) (n : Node) (rest : List Node) (o : Option (Evaluation Value))
    → AreNested p.file g.chain → AreNested p.file rest
    → AreNested p.file (settled_as g n rest o).chain
head_nested p g n rest None all behind = all
head_nested p g n rest (Some e) all behind =
    result_nested p g n rest e.lines e.result all behind

chain_nested : (p : Plan) (g : Graph) (ns : List Node) → AreNested p.file g.chain
    → AreNested p.file ns → AreNested p.file (settled_chain p g ns).chain
chain_nested p g [] all same = all
chain_nested p g (n ∷ rest) all same =
    head_nested p g n rest (leaf_meaning p.file (limits_of p) g.given n) all same.1

settled_nested : (p : Plan) (g : Graph) → AreNested p.file g.chain
    → AreNested p.file (settled p g).chain
unfolding settled
settled_nested p g nested = chain_nested p g g.chain nested nested

-- a Refine makes the nodes of one piece
refine_made : (p : Plan) (s : State) (seat k : ℕ) → IsSound p s → CanAct p s seat (Refine k)
    → AreNested p.file s.graph.chain
    → IsBehind p s.graph (grown p s.desk.stores k s.graph) (suc (file_items p.file))
refine_made p s seat k sound can nested =
    let g = s.graph in
    let c = can.1.node in
    let at = split_at g.chain c can.1.stands in
    let chosen = control_value (recorded g s.desk.stores) c.work in
    let piece : Piece = refined_piece p.file (limits_of p) c chosen g.next in
    let parts = nested_parts p.file at.0 (c ∷ at.1) (subst (AreNested p.file) at.2 nested) in
    let few = piece_few p.file (limits_of p) c chosen g.next parts.1.0 in
    let next = piece_next p.file (limits_of p) c chosen g.next in
    let now : IsBehind p g (growing g c at.0 at.1 piece) (suc (file_items p.file)) = record {
      made = omega (arith, few, next);
      nested = nested_both p.file at.0 (replaced_by c.id piece at.1) parts.0
          (nested_both p.file piece.nodes (map (redirect_node c.id (piece_images piece)) at.1)
          (piece_nests p.file (limits_of p) c chosen g.next parts.1.0)
          (redirected_nodes p.file c.id (piece_images piece) at.1 parts.1.1));
    } in
    subst (λ (x : Graph). IsBehind p g x (suc (file_items p.file)))
    (sym (grown_is p g s.desk.stores k at.0 c at.1 sound.graph at.2 can.1.number)) now

-- the nodes that what a seat does makes
act_makes : (p : Plan) (s : State) (seat : ℕ) (act : Act) → IsSound p s → CanAct p s seat act
    → AreNested p.file s.graph.chain
    → IsBehind p s.graph (acted p s seat act).graph (cond (advances act) (suc (file_items p.file)) 0)
unfolding acted trimmed
act_makes p s seat (Place k a m) sound can nested =
    same_graph p s.graph s.graph refl refl nested
act_makes p s seat (Claim k a m) sound can nested =
    same_graph p s.graph s.graph refl refl nested
act_makes p s seat (Finish k a m) sound can nested =
    let same = finish_alike p s k m (s.desk.claim k) in
    same_graph p s.graph (finished_by p s k m (s.desk.claim k)).graph same.chain same.next nested
act_makes p s seat (Drop k a m) sound can nested =
    same_graph p s.graph s.graph refl refl nested
act_makes p s seat (Refine k) sound can nested = refine_made p s seat k sound can nested
act_makes p s seat (Settle k) sound can nested =
    let same = settled_next p s.graph in record {
      made = omega (arith, same);
      nested = settled_nested p s.graph nested;
    }
act_makes p s seat (Lose m) sound can nested =
    same_graph p s.graph s.graph refl refl nested
act_makes p s seat (Trim k) sound can nested =
    same_graph p s.graph (trimmed k s.graph) refl refl nested

pub event_makes : (p : Plan) (s : State) (e : Event) → IsSound p s → CanAct p s e.by e.act
    → AreNested p.file s.graph.chain
    → IsBehind p s.graph (happens p s e).graph
    (cond (advances e.act) (suc (file_items p.file)) 0)
unfolding happens
event_makes p s e sound can nested = act_makes p s e.by e.act sound can nested

-- the nodes that events make
pub run_makes : (p : Plan) (s : State) (es : List Event) → IsSound p s → IsLegalFrom p s es
    → AreNested p.file s.graph.chain
    → (after p s es).graph.next ≤ s.graph.next + 3 * (taken es * suc (file_items p.file))
unfolding IsLegalFrom after
run_makes p s [] sound legal nested = omega arith
run_makes p s (e ∷ es) sound legal nested =
    let now = event_makes p s e sound legal.0.act nested in
    let one = now.made in
    let later = run_makes p (happens p s e) es (event_keeps p s e sound legal.0) legal.1 now.nested in
    let share = loss_share (advances e.act) (taken es) (suc (file_items p.file)) (taken (e ∷ es))
    (taken_cons e es) in
    omega (arith, one, later, share)

-- the start makes the module's piece
pub first_few : (p : Plan) → length (module_piece p).nodes ≤ 3 * file_items p.file
first_few p = routine_few p.file 0 0 (unbound_slots (module_variables p.file)) 0

pub first_nested : (p : Plan) → AreNested p.file (module_piece p).nodes
first_nested p = routine_nests p.file 0 0 (unbound_slots (module_variables p.file)) 0

pub few_made : (p : Plan) (es : List Event) → IsRunnable p → IsLegal p es
    → (replay p es).graph.next
    ≤ 3 * file_items p.file + 3 * (taken es * suc (file_items p.file))
few_made p es runnable legal =
    let first = first_few p in
    let next = module_next p in
    let all = run_makes p (first_state p) es (starts p runnable) legal (first_nested p) in
    omega (arith, first, next, all)

-- the law
pub made_counted : MadeCountLaw
unfolding taken
made_counted p es runnable legal = few_made p es runnable legal
