-- A node that is refined, by the parts that code has.
use Rattle.std.proofs.Common.{◌≡◌, ℕ, ◌⊎◌, inl, inr, List, [], Bool, sym, ap, subst, ◌∙◌, Option, Some, None}
use Rattle.std.specs.List.{slice_get}
use Rattle.std.specs.Prelude.{Result, Ok, Err, IfOk}
use Rattle.pyd_value.specs.declared.memory.NoMemory.{NoMemory}
use Rattle.pyd_value.specs.declared.value.Value.{Value}
use Rattle.pyd_value.specs.declared.fault.Fault.{Fault}
use Rattle.pyd_value.specs.declared.fault.Fault.TheVariants.{Raised}
use Rattle.pyd_value.specs.declared.fault.Kind.{Kind}
use Rattle.pyd_value.specs.declared.fault.Kind.TheVariants.{NameError}
use Rattle.pyd_value.specs.Truth.{is_true}
use Rattle.pyd_tree.specs.declared.file.File.{File}
use Rattle.pyd_names.specs.Binding.{function}
use Rattle.pyd_meaning.specs.declared.limits.Limits.{Limits}
use Rattle.pyd_ir.specs.declared.arg.Arg.{Arg}
use Rattle.pyd_ir.specs.declared.arg.Arg.TheVariants.{Unbound}
use Rattle.pyd_ir.specs.declared.code.OpCode.{OpCode}
use Rattle.pyd_ir.specs.declared.node.Node.{Node}
use Rattle.pyd_ir.specs.declared.work.Frame.{Frame}
use Rattle.pyd_ir.specs.declared.work.Side.{Side}
use Rattle.pyd_ir.specs.declared.work.Work.{Work}
use Rattle.pyd_ir.specs.declared.work.Work.TheVariants.{Op, Read, Call, Stop, Print, Run, Cond, While, For, Pick, Enter}
use Rattle.pyd_scope.specs.Passages.{passage_at}
use Rattle.pyd_translate.specs.declared.draft.Draft.{Draft}
use Rattle.pyd_translate.specs.declared.piece.Piece.{Piece}
use Rattle.pyd_translate.specs.declared.setting.Setting.{Setting}
use Rattle.pyd_translate.specs.Compounds.{compound_at, line_at}
use Rattle.pyd_translate.specs.Drafts.{onto}
use Rattle.pyd_translate.specs.Flows.{file_in, context_in}
use Rattle.pyd_translate.specs.Making.{Making, pure, stop_by}
use Rattle.pyd_translate.specs.Starts.{piece_of, statements_piece}
use Rattle.pyd_translate.specs.Statements.{Done, done, context}
use Rattle.pyd_translate.proofs.Onto.{onto_pure}
use Rattle.pyd_refine.specs.Composites.{arms_of, arm_refined, loop_refined, side_refined, function_refined, only_value, slots_of, work_refined, refined}
use Rattle.pyd_refine.specs.Drafts.{ended, Ends, IsSettingOf, cond_in}
use Rattle.pyd_refine.proofs.Ended.{ends_with, stop_as}

module _ (at : Setting) (limits : Limits) (node : Node) (its : IsSettingOf node at) where
  -- the nodes of a work in the node's place
  abbrev in_place : Work → Option Value → Making Done
  in_place w control = work_refined (file_in at) limits w node control

  -- those of the node, whose work this is
  of_work : (w : Work) (control : Option Value) → node.work ≡ w
      → in_place w control ≡ refined (file_in at) limits node control
  of_work w control is = sym (ap (λ x. in_place x control) is)

  -- the place of the node
  here : (line : ℕ) (env : List Arg) → context_in at line env ≡ context node.routine node.depth line env
  here line env = λ i. context (its.routine i) (its.depth i) line env

  module _ (k : ℕ) (rest : List Frame) (env : List Arg) (v : Value) where
    -- an `if`
    pub cond_node : (test : Arg) (arm : ℕ) (frames : List Frame) (t : Bool) (items : List Arg)
        → node.work ≡ Cond test k arm rest env → items ≡ slots_of node.work → frames ≡ rest → t ≡ is_true v
        → cond_in at k arm frames t items ≡ refined (file_in at) limits node (Some v)
    cond_node test arm frames t items is are go truth =
        let same : items ≡ env = are ∙ ap slots_of is in
        (λ i. by_parts (its.routine i) (its.depth i) (go i) (truth i) (same i))
        ∙ of_work (Cond test k arm rest env) (Some v) is
      where
        by_parts : ℕ → ℕ → List Frame → Bool → List Arg → Making Done
        by_parts routine depth on b slots =
            arm_refined (file_in at) routine depth k on (arms_of (compound_at (file_in at) routine k))
            (passage_at (file_in at) routine k).point arm
            (slice_get (arms_of (compound_at (file_in at) routine k)) arm) b slots

    -- a loop, whichever it is
    abbrev loop_by : ℕ → ℕ → List Frame → ℕ → Arg → List Arg → Making Done
    loop_by routine depth frames turns a slots =
        loop_refined (file_in at) limits routine depth k frames (compound_at (file_in at) routine k)
        (line_at (file_in at) routine k) turns a v slots

    loop_here : (frames : List Frame) (turns : ℕ) (a : Arg) (items : List Arg) → frames ≡ rest → items ≡ env
        → loop_by at.routine at.depth frames turns a items ≡ loop_by node.routine node.depth rest turns a env
    loop_here frames turns a items go same =
        λ i. loop_by (its.routine i) (its.depth i) (go i) turns a (same i)

    -- a `while`
    pub while_node : (test : Arg) (turns : ℕ) (frames : List Frame) (items : List Arg)
        → node.work ≡ While test k turns rest env → items ≡ slots_of node.work → frames ≡ rest
        → loop_by at.routine at.depth frames turns test items ≡ refined (file_in at) limits node (Some v)
    while_node test turns frames items is are go =
        loop_here frames turns test items go (are ∙ ap slots_of is)
        ∙ of_work (While test k turns rest env) (Some v) is

    -- a `for`
    pub for_node : (over : Arg) (turns : ℕ) (frames : List Frame) (items : List Arg)
        → node.work ≡ For over k turns rest env → items ≡ slots_of node.work → frames ≡ rest
        → loop_by at.routine at.depth frames turns over items ≡ refined (file_in at) limits node (Some v)
    for_node over turns frames items is are go =
        loop_here frames turns over items go (are ∙ ap slots_of is)
        ∙ of_work (For over k turns rest env) (Some v) is

  -- a choice
  pub pick_node : (test : Arg) (first second : Side) (env slots : List Arg) (v : Value) (t : Bool)
      → node.work ≡ Pick test first second env → slots ≡ env → t ≡ is_true v
      → side_refined (file_in at) t first second (context_in at node.line slots)
      ≡ refined (file_in at) limits node (Some v)
  pick_node test first second env slots v t is same truth =
      (λ i. side_refined (file_in at) (truth i) first second (here node.line (same i) i))
      ∙ of_work (Pick test first second env) (Some v) is

  -- a call
  pub enter_node : (func : ℕ) (args taken : List Arg) (control : Option Value)
      → node.work ≡ Enter func args → taken ≡ args
      → function_refined (file_in at) limits (function (file_in at) func) func taken (context_in at node.line [])
      ≡ refined (file_in at) limits node control
  enter_node func args taken control is same =
      (λ i. function_refined (file_in at) limits (function (file_in at) func) func (same i) (here node.line [] i))
      ∙ of_work (Enter func args) control is

-- a work without a control
abbrev pub IsLeaf : Work → Type 0
IsLeaf w =
    ((op : OpCode) × (args : List Arg) × (w ≡ Op op args))
    ⊎ (((a : Arg) × (kind : Kind) × (w ≡ Read a kind))
    ⊎ (((func : ℕ) × (args : List Arg) × (w ≡ Call func args))
    ⊎ (((fault : Fault) × (w ≡ Stop fault))
    ⊎ (((args : List Arg) × (w ≡ Print args))
    ⊎ ((func : ℕ) × (args : List Arg) × (w ≡ Run func args))))))

-- a work with a control
abbrev pub IsControlled : Work → Type 0
IsControlled w =
    ((test : Arg) × (k : ℕ) × (arm : ℕ) × (rest : List Frame) × (env : List Arg) × (w ≡ Cond test k arm rest env))
    ⊎ (((test : Arg) × (k : ℕ) × (turns : ℕ) × (rest : List Frame) × (env : List Arg) × (w ≡ While test k turns rest env))
    ⊎ (((over : Arg) × (k : ℕ) × (turns : ℕ) × (rest : List Frame) × (env : List Arg) × (w ≡ For over k turns rest env))
    ⊎ ((test : Arg) × (first : Side) × (second : Side) × (env : List Arg) × (w ≡ Pick test first second env))))

-- a leaf has no slots
leaf_slots : (w : Work) → IsLeaf w → slots_of w ≡ []
leaf_slots w (inl (op, args, is)) = ap slots_of is
leaf_slots w (inr (inl (a, kind, is))) = ap slots_of is
leaf_slots w (inr (inr (inl (func, args, is)))) = ap slots_of is
leaf_slots w (inr (inr (inr (inl (fault, is))))) = ap slots_of is
leaf_slots w (inr (inr (inr (inr (inl (args, is)))))) = ap slots_of is
leaf_slots w (inr (inr (inr (inr (inr (func, args, is)))))) = ap slots_of is

module _ (file : File) (limits : Limits) (node : Node) (control : Option Value) where
  -- and no node takes its place
  leaf_work : (w : Work) → IsLeaf w → work_refined file limits w node control ≡ pure (only_value Unbound)
  leaf_work w (inl (op, args, is)) = ap (λ x. work_refined file limits x node control) is
  leaf_work w (inr (inl (a, kind, is))) = ap (λ x. work_refined file limits x node control) is
  leaf_work w (inr (inr (inl (func, args, is)))) = ap (λ x. work_refined file limits x node control) is
  leaf_work w (inr (inr (inr (inl (fault, is))))) = ap (λ x. work_refined file limits x node control) is
  leaf_work w (inr (inr (inr (inr (inl (args, is)))))) = ap (λ x. work_refined file limits x node control) is
  leaf_work w (inr (inr (inr (inr (inr (func, args, is)))))) = ap (λ x. work_refined file limits x node control) is

-- a Stop takes the place of one whose control is absent
absent_work : (file : File) (limits : Limits) (node : Node) (w : Work) → IsControlled w
    → (env : List Arg) × (stop_by (context node.routine node.depth node.line env) NameError
    ≡ work_refined file limits w node None)
absent_work file limits node w (inl (test, k, arm, rest, env, is)) =
    (env, sym (ap (λ x. work_refined file limits x node None) is))
absent_work file limits node w (inr (inl (test, k, turns, rest, env, is))) =
    (env, sym (ap (λ x. work_refined file limits x node None) is))
absent_work file limits node w (inr (inr (inl (over, k, turns, rest, env, is)))) =
    (env, sym (ap (λ x. work_refined file limits x node None) is))
absent_work file limits node w (inr (inr (inr (test, first, second, env, is)))) =
    (env, sym (ap (λ x. work_refined file limits x node None) is))

-- how a call without slots ended, as that of a node that has none
pub without_slots : (r : Result Arg NoMemory) (before after : Draft) (u w : Making Done) (items : List Arg)
    → items ≡ [] → u ≡ w → IfOk r (λ v. Ends before u [] after [] v)
    → IfOk r (λ v. Ends before w items after items v)
without_slots r before after u w items none e h =
    subst (λ (xs : List Arg). IfOk r (λ v. Ends before w xs after xs v)) (sym none)
    (subst (λ (x : Making Done). IfOk r (λ v. Ends before x [] after [] v)) e h)

-- a leaf
pub leaf_node : (before : Draft) (file : File) (limits : Limits) (node : Node) (control : Option Value)
    (items : List Arg) → IsLeaf node.work → items ≡ slots_of node.work
    → Ends before (refined file limits node control) items before items Unbound
leaf_node before file limits node control items leaf are =
    without_slots (Ok Unbound) before before (pure (only_value Unbound)) (refined file limits node control) items
    (are ∙ leaf_slots node.work leaf) (sym (leaf_work file limits node control node.work leaf))
    (ends_with before before [] (pure (only_value Unbound)) [] Unbound
    (onto_pure before.nodes (only_value Unbound) before.next))

-- a node whose control is absent
pub absent_node : (r : Result Arg NoMemory) (before after : Draft) (at : Setting) (limits : Limits) (node : Node)
    (items : List Arg) → IsSettingOf node at → IsControlled node.work
    → IfOk r (λ v. (env slots : List Arg)
    → Ends before (stop_by (context_in at node.line env) NameError) slots after slots v)
    → IfOk r (λ v. Ends before (refined (file_in at) limits node None) items after items v)
absent_node r before after at limits node items its is h =
    let stops = absent_work (file_in at) limits node node.work is in
    stop_as r before after at.routine at.depth node.line (Raised NameError node.line)
    (refined (file_in at) limits node None) stops.0 items
    ((λ i. stop_by (context (its.routine i) (its.depth i) node.line stops.0) NameError) ∙ stops.1) h

-- nodes that were made onto none are a piece
pub piece_done : (r : Result Piece NoMemory) (env slots start : List Arg) (u : Making Done) (before after : Draft) (v : Arg)
    (ids : ℕ) → before.nodes ≡ [] → before.next ≡ ids → slots ≡ env
    → Ends before u slots after start v
    → IfOk r (λ p. p ≡ piece_of after.nodes (done start v) after.next)
    → IfOk r (λ p. p ≡ statements_piece env (u ids))
unfolding onto
piece_done (Ok p) env slots start u before after v ids none first same e made =
    let so : onto [] (ended env (u ids)) ≡ (after.nodes, Some (done start v), after.next) =
    (λ i. onto (sym none i) (ended (sym same i) (u (sym first i)))) ∙ e in
    made ∙ sym (λ i. piece_of (ap (λ t. t.0) so i) (done_in (ap (λ t. t.1) so i)) (ap (λ t. t.2) so i))
  where
    done_in : Option Done → Done
    done_in (Some d) = d
    done_in None = done start v
piece_done (Err x) env slots start u before after v ids none first same e made = tt
