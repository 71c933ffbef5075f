-- How many steps the chain takes.
use Rattle.std.proofs.Common.{◌≡◌, ◌≢◌, ◌<◌, ◌≤◌, ◌+◌, ℕ, Bool, true, false, cond, if◌then◌else◌, List, [], ◌∷◌, ◌++◌, Option, None, Some, inl, inr, refl, ap, sym, ◌∙◌, subst, arith}
use Rattle.std.specs.Prelude.{Result, Ok, Err}
use Rattle.std.specs.List.{count_by}
use Rattle.std.proofs.lemmas.List.Elements.{Contains-append_right}
use Rattle.std.proofs.lemmas.List.Sums.{sum_by-cons}
use Rattle.pyd_value.specs.declared.value.Value.{Value}
use Rattle.pyd_value.specs.declared.fault.Fault.{Fault}
use Rattle.pyd_value.specs.declared.fault.End.{End}
use Rattle.pyd_tree.specs.declared.file.File.{File}
use Rattle.pyd_meaning.specs.declared.limits.Limits.{Limits}
use Rattle.pyd_meaning.specs.Evaluation.{Evaluation, settled as alone}
use Rattle.pyd_board.specs.declared.event.Act.{Act}
use Rattle.pyd_board.specs.declared.event.Act.TheVariants.{Place, Claim, Finish, Drop, Refine, Settle, Lose, Trim}
use Rattle.pyd_board.specs.declared.event.Event.{Event}
use Rattle.pyd_ir.specs.declared.node.Node.{Node}
use Rattle.pyd_ir.specs.Arguments.{is_pure}
use Rattle.pyd_ir.specs.Inputs.{Given, leaf_meaning}
use Rattle.pyd_ir.specs.Meaning.{job_ran}
use Rattle.pyd_ir.specs.Ports.{Ports, ports_of}
use Rattle.pyd_translate.specs.declared.piece.Piece.{Piece}
use Rattle.pyd_translate.specs.Supplied.{AreSupplied}
use Rattle.pyd_translate.specs.Walk.{give, work_ports, walk}
use Rattle.pyd_translate.proofs.LawsMatch.{script_law}
use Rattle.pyd_translate.proofs.Sequencing.{then-ok, then-err}
use Rattle.pyd_runs.specs.Plans.{Plan, limits_of}
use Rattle.pyd_runs.specs.Graphs.{Graph, first_graph}
use Rattle.pyd_runs.specs.Records.{heads}
use Rattle.pyd_runs.specs.Desks.{Held}
use Rattle.pyd_runs.specs.Effects.{State, first_state, acted, happens, settled, settled_chain, settled_as, settled_by, passed, trimmed, finished_by, is_run, kept_by_driver, kept_by_machine}
use Rattle.pyd_runs.specs.Enabled.{CanAct, WithinWindow}
use Rattle.pyd_runs.specs.Replay.{IsLegalFrom}
use Rattle.pyd_runs.specs.Sound.{IsSound, is_over}
use Rattle.pyd_runs.specs.Laws.{StepsLaw, advances}
use Rattle.pyd_runs.specs.Bounds.{AllAlong, RefinesHead, HeadStepsLaw}
use Rattle.pyd_runs.proofs.Putting.{same_test, test_same}
use Rattle.pyd_runs.proofs.Without.{here, fresh_apart}
use Rattle.pyd_runs.proofs.Standing.{AreApart, list_apart}
use Rattle.pyd_runs.proofs.Leaves.{leaf_as, leaf_ok, leaf_err}
use Rattle.pyd_runs.proofs.Once.{head_means, no_more}
use Rattle.pyd_runs.proofs.Growing.{growing, IsGrowing}
use Rattle.pyd_runs.proofs.Refined.{refines_so}
use Rattle.pyd_runs.proofs.Running.{event_keeps}
use Rattle.pyd_runs.proofs.Starting.{starts}

-- the steps that walking a graph's chain counts
abbrev pub steps_of : Plan → Graph → ℕ
steps_of p g = (walk p.file (limits_of p) g.chain g.given).steps

-- a walk whose first node gives a value counts one step for it
walk_counts : (file : File) (limits : Limits) (given : Given) (node : Node) (rest : List Node)
    (e : Evaluation Value) (v : Value)
    → leaf_meaning file limits given node ≡ Some e → e.result ≡ Ok v
    → (walk file limits (node ∷ rest) given).steps
    ≡ 1 + (walk file limits rest (give node.id (ports_of node.work v) given)).steps
unfolding walk alone
walk_counts file limits given node rest e v meant gave =
    let next : Ports → Evaluation Given = λ ports. walk file limits rest (give node.id ports given) in
    let does = leaf_ok file limits given node e v meant gave in
    let all = then-ok (work_ports file limits node.work node given) (ports_of node.work v) next
    does.1 in
    let one = leaf_as file limits given node e (Ok v) meant gave in
    ap (λ (x : Evaluation Given). x.steps) all
    ∙ ap (λ (x : Evaluation Ports). x.steps + (next (ports_of node.work v)).steps) one

-- and one whose first node ends at a fault counts that step alone
walk_stops : (file : File) (limits : Limits) (given : Given) (node : Node) (rest : List Node)
    (e : Evaluation Value) (f : Fault)
    → leaf_meaning file limits given node ≡ Some e → e.result ≡ Err f
    → (walk file limits (node ∷ rest) given).steps ≡ 1
unfolding walk
walk_stops file limits given node rest e f meant gave =
    let next : Ports → Evaluation Given = λ ports. walk file limits rest (give node.id ports given) in
    let does = leaf_err file limits given node e f meant gave in
    let all = then-err (work_ports file limits node.work node given) f next does.1 in
    let one = leaf_as file limits given node e (Err f) meant gave in
    ap (λ (x : Evaluation Given). x.steps) all ∙ ap (λ (x : Evaluation Ports). x.steps) one

-- so many steps are left at most
pub record IsBounded (p : Plan) (g : Graph) (c : ℕ) : Type 0 where
  pub goes : g.end ≡ None → c ≤ steps_of p g
  pub ended : g.end ≢ None → c ≡ 0

-- where a run has ended or goes on, so many are left
pub bounded_at : (p : Plan) (g : Graph) (c : ℕ) → IsBounded p g c → c ≤ steps_of p g
bounded_at p g c b = by_end g.end refl
  where
    by_end : (o : Option End) → g.end ≡ o → c ≤ steps_of p g
    by_end None is = b.goes is
    by_end (Some end) is =
        let none = b.ended (λ z. absurd (cc (z, is))) in omega (arith, none)

-- a head that is settled is one of them
passed_bound : (b : Bool) (p : Plan) (g : Graph) (n : Node) (rest : List Node)
    (lines : List (List ℕ)) (v : Value) (c : ℕ)
    → IsBounded p (passed b g n rest lines v) c
    → c ≤ (walk p.file (limits_of p) rest (give n.id (ports_of n.work v) g.given)).steps
passed_bound true p g n rest lines v c b = bounded_at p (passed true g n rest lines v) c b
passed_bound false p g n rest lines v c b = bounded_at p (passed false g n rest lines v) c b

settled_bound : (p : Plan) (g : Graph) (n : Node) (rest : List Node) (e : Evaluation Value)
    (r : Result Value Fault) (c : ℕ) → leaf_meaning p.file (limits_of p) g.given n ≡ Some e
    → e.result ≡ r → IsBounded p (settled_by g n rest e.lines r) c
    → 1 + c ≤ (walk p.file (limits_of p) (n ∷ rest) g.given).steps
settled_bound p g n rest e (Ok v) c meant gave b =
    let few = passed_bound (is_pure n.work) p g n rest e.lines v c b in
    let all = walk_counts p.file (limits_of p) g.given n rest e v meant gave in
    omega (arith, few, all)
settled_bound p g n rest e (Err f) c meant gave b =
    let none = b.ended (λ z. absurd (cc (z))) in
    let all = walk_stops p.file (limits_of p) g.given n rest e f meant gave in
    omega (arith, none, all)

-- by a Settle
settle_bound : (p : Plan) (s : State) (seat k c : ℕ) → IsSound p s → CanAct p s seat (Settle k)
    → IsBounded p (acted p s seat (Settle k)).graph c → 1 + c ≤ steps_of p s.graph
unfolding acted settled AreSupplied
settle_bound p s seat k c sound can b =
    let g = s.graph in
    let x = can.1 in
    let supplied = subst (λ (ns : List Node). AreSupplied p.file (limits_of p) g.next ns g.given)
    x.chain (sound.graph.supplied can.0.goes_on) in
    let means = head_means p.file (limits_of p) s k x.head.routine g.given x.head.line x.head.depth
    x.head.work x.waits_not supplied.1 in
    let by_chain = subst (λ (ns : List Node). IsBounded p (settled_chain p g ns) c) x.chain b in
    let by_head = subst
    (λ (o : Option (Evaluation Value)). IsBounded p (settled_as g x.head x.rest o) c)
    means.1 by_chain in
    subst (λ (ns : List Node). 1 + c ≤ (walk p.file (limits_of p) ns g.given).steps) (sym x.chain)
    (settled_bound p g x.head x.rest means.0 means.0.result c means.1 refl by_head)

-- nothing stands before the head
only_head : (k : ℕ) (before : List Node) (c : Node) (after : List Node)
    → AreApart (before ++ c ∷ after) → c.id ≡ k → heads k (before ++ c ∷ after) ≡ true
    → before ≡ []
only_head k [] c after apart number head = refl
only_head k (x ∷ before) c after apart number head =
    absurd (fresh_apart x.id (before ++ c ∷ after) c apart.0
    (Contains-append_right before (c ∷ after) c (here c after))
    (number ∙ sym (test_same x.id k head)))

-- then the walk leads to it
head_fewer : (p : Plan) (g : Graph) (before : List Node) (c : Node) (after : List Node)
    (piece : Piece) → before ≡ [] → IsGrowing p g c before after piece
    → steps_of p (growing g c before after piece) < steps_of p g
unfolding walk alone
head_fewer p g [] c after piece none m =
    subst (λ (ns : List Node). steps_of p (growing g c [] after piece)
    < (walk p.file (limits_of p) ns g.given).steps) (sym m.split)
    (m.replaced.fewer g.given refl)
head_fewer p g (x ∷ before) c after piece none m = absurd (cc (none))

refine_bound : (p : Plan) (s : State) (seat k c : ℕ) → IsSound p s
    → heads k s.graph.chain ≡ true → CanAct p s seat (Refine k) → IsBounded p (acted p s seat (Refine k)).graph c
    → 1 + c ≤ steps_of p s.graph
unfolding acted
refine_bound p s seat k c sound head can b =
    let g = s.graph in
    let r = refines_so p s k sound can.0.goes_on can.1 in
    let apart = subst AreApart r.grows.split
    (list_apart (is_over g) g.next g.chain sound.graph.listed) in
    let first = subst (λ (ns : List Node). heads k ns ≡ true) r.grows.split head in
    let none = only_head k r.before r.node r.after apart r.number first in
    let fewer = head_fewer p g r.before r.node r.after r.piece none r.grows in
    let few = bounded_at p (growing g r.node r.before r.after r.piece) c
    (subst (λ (x : Graph). IsBounded p x c) r.graph b) in
    omega (arith, fewer, few)

-- a job that is done takes no step
finish_bound : (p : Plan) (s : State) (k machine c : ℕ) (o : Option Held)
    → IsBounded p (finished_by p s k machine o).graph c → IsBounded p s.graph c
finish_bound p s k machine c None b = b
finish_bound p s k machine c (Some h) b = by_kind (is_run h.job.task) b
  where
    by_kind : (b : Bool)
        → IsBounded p (if b then kept_by_driver s k (job_ran p.file (limits_of p) h.job)
        else kept_by_machine s k machine (job_ran p.file (limits_of p) h.job)).graph c
        → IsBounded p s.graph c
    by_kind true x = record { goes = x.goes; ended = x.ended }
    by_kind false x = x

-- no step is taken
idle : (p : Plan) (g : Graph) (c : ℕ) → IsBounded p g c → IsBounded p g (0 + c)
idle p g c b = record {
  goes = λ on. (let few = b.goes on in omega (arith, few));
  ended = λ off. no_more c (b.ended off);
}

-- by what a seat does
act_bound : (p : Plan) (s : State) (seat : ℕ) (act : Act) (c : ℕ) → IsSound p s
    → RefinesHead s act → CanAct p s seat act → IsBounded p (acted p s seat act).graph c
    → IsBounded p s.graph (cond (advances act) 1 0 + c)
unfolding acted trimmed
act_bound p s seat (Place k a m) c sound head can b = idle p s.graph c b
act_bound p s seat (Claim k a m) c sound head can b = idle p s.graph c b
act_bound p s seat (Finish k a m) c sound head can b =
    idle p s.graph c (finish_bound p s k m c (s.desk.claim k) b)
act_bound p s seat (Drop k a m) c sound head can b = idle p s.graph c b
act_bound p s seat (Lose m) c sound head can b = idle p s.graph c b
act_bound p s seat (Trim k) c sound head can b =
    idle p s.graph c (record { goes = b.goes; ended = b.ended })
act_bound p s seat (Settle k) c sound head can b = record {
  goes = λ on. settle_bound p s seat k c sound can b;
  ended = λ off. absurd (off can.0.goes_on);
}
act_bound p s seat (Refine k) c sound head can b = record {
  goes = λ on. refine_bound p s seat k c sound head can b;
  ended = λ off. absurd (off can.0.goes_on);
}

-- how often the chain takes a step
unfoldable pub taken : List Event → ℕ
taken es = count_by (λ (e : Event). advances e.act) es

pub taken_cons : (e : Event) (es : List Event)
    → taken (e ∷ es) ≡ cond (advances e.act) 1 0 + taken es
unfolding taken
taken_cons e es = sum_by-cons (λ (x : Event). cond (advances x.act) 1 0) e es

pub events_bound : (p : Plan) (s : State) (es : List Event) → IsSound p s
    → AllAlong RefinesHead p s es → IsLegalFrom p s es → IsBounded p s.graph (taken es)
unfolding IsLegalFrom happens taken
events_bound p s [] sound along legal =
    record { goes = λ on. omega arith; ended = λ off. refl }
events_bound p s (e ∷ es) sound along legal =
    let later = events_bound p (happens p s e) es (event_keeps p s e sound legal.0) along.1 legal.1 in
    subst (IsBounded p s.graph) (sym (taken_cons e es))
    (act_bound p s e.by e.act (taken es) sound along.0 legal.0.act later)

-- the law
pub head_steps : HeadStepsLaw
unfolding taken
head_steps p es runnable legal along =
    let few = bounded_at p (first_graph p) (taken es)
    (events_bound p (first_state p) es (starts p runnable) along legal) in
    let all = (script_law p.file (limits_of p)).steps in
    omega (arith, few, all)

-- within a window of 1 stands the head alone
within_none : (k : ℕ) (ns : List Node) → WithinWindow 0 k ns → ⊥
within_none k [] within = within
within_none k (n ∷ ns) within = let z = within.0 in absurd (omega (arith, z))

within_head : (k : ℕ) (ns : List Node) → WithinWindow 1 k ns → heads k ns ≡ true
within_head k [] within = absurd within
within_head k (n ∷ ns) within = elim within.1 [
  | inl is ↦ same_test n.id k is
  | inr later ↦ absurd (within_none k ns later)
]

act_head : (p : Plan) (s : State) (seat : ℕ) (act : Act) → p.setup.window ≡ 1
    → CanAct p s seat act → RefinesHead s act
act_head p s seat (Place k a m) window can = tt
act_head p s seat (Claim k a m) window can = tt
act_head p s seat (Finish k a m) window can = tt
act_head p s seat (Drop k a m) window can = tt
act_head p s seat (Settle k) window can = tt
act_head p s seat (Lose m) window can = tt
act_head p s seat (Trim k) window can = tt
act_head p s seat (Refine k) window can =
    within_head k s.graph.chain
    (subst (λ w. WithinWindow w k s.graph.chain) window can.1.window)

all_heads : (p : Plan) (s : State) (es : List Event) → p.setup.window ≡ 1
    → IsLegalFrom p s es → AllAlong RefinesHead p s es
unfolding IsLegalFrom
all_heads p s [] window legal = tt
all_heads p s (e ∷ es) window legal =
    (act_head p s e.by e.act window legal.0.act, all_heads p (happens p s e) es window legal.1)

-- the law of such a window
pub steps_taken : StepsLaw
steps_taken p es runnable window legal =
    head_steps p es runnable legal (all_heads p (first_state p) es window legal)
