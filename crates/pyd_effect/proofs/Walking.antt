-- What is settled of the head is what a walk does at it.
use Rattle.std.proofs.Common.{◌≡◌, ℕ, List, [], ◌∷◌, ◌++◌, Option, Some, None, Result, Ok, Err, refl, sym, ap, subst, ◌∙◌}
use Rattle.std.proofs.lemmas.Option.{none-some}
use Rattle.pyd_value.specs.declared.value.Value.{Value}
use Rattle.pyd_value.specs.declared.fault.Fault.{Fault}
use Rattle.pyd_tree.specs.declared.file.File.{File}
use Rattle.pyd_meaning.specs.declared.limits.Limits.{Limits}
use Rattle.pyd_meaning.specs.Evaluation.{Evaluation, settled as alone, gives, go_on, ◌>>=◌}
use Rattle.pyd_ir.specs.declared.node.Node.{Node}
use Rattle.pyd_ir.specs.declared.work.Work.{Work}
use Rattle.pyd_ir.specs.declared.work.Work.TheVariants.{Op, Read, Call, Stop, Print, Run, Cond, While, For, Pick, Enter}
use Rattle.pyd_ir.specs.Inputs.{Given, work_meaning, leaf_meaning}
use Rattle.pyd_ir.specs.Ports.{Ports, ports_of}
use Rattle.pyd_translate.specs.Walk.{if_there, count_leaf, leaf_ports, work_ports}
use Rattle.pyd_effect.specs.declared.settled.Settled.{Settled}
use Rattle.pyd_effect.specs.declared.settled.Settled.TheVariants.{Passed, Ended, Waits}
use Rattle.pyd_effect.specs.Laws.{Settles, WalkLaw}
use Rattle.pyd_effect.proofs.Leaves.{leaves}

-- nothing behind
after_all : {A : Type 0} (xs : List A) → xs ++ [] ≡ xs
after_all [] = refl
after_all (x ∷ xs) = ap (λ ys. x ∷ ys) (after_all xs)

-- a fault is the same whatever would have been given
same_fault : (g f : Fault) → ◌≡◌ {A = Result Value Fault} (Err g) (Err f) → g ≡ f
same_fault g f e = cc

-- what an evaluation prints and gives, once ports are made of its value
ported : (s : Settled) (lines : List (List ℕ)) (r : Result Value Fault) (ports : Value → Ports)
    → Settles s (record { lines = lines; result = r; steps = 1 })
    → Settles s (go_on lines 1 r (λ v. gives (ports v)))
unfolding alone
ported (Passed out) lines (Ok v) ports h = (after_all lines ∙ h.0, ports v, refl)
ported (Passed out) lines (Err f) ports h = absurd (let e = h.2 in let k : ⊥ = cc in k)
ported (Ended out end) lines (Ok v) ports h = absurd (let e = h.2 in let k : ⊥ = cc in k)
ported (Ended out end) lines (Err g) ports h =
    (h.0, h.1, ap (λ (x : Fault). Err x) (same_fault g h.1 h.2), h.3)
ported (Waits id) lines r ports h = h

-- steps don't matter
counted : (s : Settled) (e : Evaluation Value) → Settles s e → Settles s (count_leaf e)
counted (Passed out) e h = h
counted (Ended out end) e h = h
counted (Waits id) e h = h

-- the same of a leaf that does something
leaf_settles : (file : File) (limits : Limits) (given : Given) (node : Node) (e : Evaluation Value)
    (s : Settled)
    → leaf_meaning file limits given node ≡ Some e → Settles s e
    → Settles s (leaf_ports file limits node given)
unfolding ◌>>=◌
leaf_settles file limits given node e s made h =
    subst (λ o. Settles s (count_leaf (if_there o node.line (λ d. d)) >>= (λ v. gives (ports_of node.work v))))
    (sym made) (ported s e.lines e.result (ports_of node.work) (counted s e h))

-- a walk does at a leaf what the leaf does
walk_settles : (file : File) (limits : Limits) (given : Given) (node : Node) (e : Evaluation Value)
    (s : Settled) (w : Work) → node.work ≡ w
    → leaf_meaning file limits given node ≡ Some e → Settles s (leaf_ports file limits node given)
    → Settles s (work_ports file limits w node given)
walk_settles file limits given node e s (Op op args) is made h = h
walk_settles file limits given node e s (Read arg kind) is made h = h
walk_settles file limits given node e s (Call func args) is made h = h
walk_settles file limits given node e s (Stop fault) is made h = h
walk_settles file limits given node e s (Print args) is made h = h
walk_settles file limits given node e s (Run func args) is made h = h
walk_settles file limits given node e s (Cond test stmt arm rest env) is made h =
    absurd (none-some e (sym (ap (work_meaning file limits given node.line node.depth) is) ∙ made))
walk_settles file limits given node e s (While test stmt turns rest env) is made h =
    absurd (none-some e (sym (ap (work_meaning file limits given node.line node.depth) is) ∙ made))
walk_settles file limits given node e s (For over stmt turns rest env) is made h =
    absurd (none-some e (sym (ap (work_meaning file limits given node.line node.depth) is) ∙ made))
walk_settles file limits given node e s (Pick test first second env) is made h =
    absurd (none-some e (sym (ap (work_meaning file limits given node.line node.depth) is) ∙ made))
walk_settles file limits given node e s (Enter func args) is made h =
    absurd (none-some e (sym (ap (work_meaning file limits given node.line node.depth) is) ∙ made))

-- the law
pub walks : WalkLaw
walks file limits given node own e made given_own quiet =
    walk_settles file limits given node e _ node.work refl made
    (leaf_settles file limits given node e _ made (leaves file limits given node own e made given_own quiet))
