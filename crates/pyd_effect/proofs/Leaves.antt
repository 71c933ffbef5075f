-- What is settled of a leaf is what it does.
use Rattle.std.proofs.Common.{◌≡◌, ℕ, suc, List, [], ◌∷◌, map, Bool, true, false, Option, Some, None, option_map, Result, Ok, Err, refl, sym, ap, subst, ◌∙◌}
use Rattle.std.proofs.lemmas.Option.{none-some, same_Some}
use Rattle.pyd_value.specs.declared.value.Value.{Value}
use Rattle.pyd_value.specs.declared.value.Value.TheVariants as value
use Rattle.pyd_value.specs.declared.fault.Fault.{Fault}
use Rattle.pyd_value.specs.declared.fault.Kind.{Kind}
use Rattle.pyd_value.specs.declared.operator.Builtin.TheVariants as named
use Rattle.pyd_ops.specs.Answer.{outcome_of}
use Rattle.pyd_text.specs.Texts.{line}
use Rattle.pyd_tree.specs.declared.file.File.{File}
use Rattle.pyd_meaning.specs.declared.limits.Limits.{Limits}
use Rattle.pyd_meaning.specs.declared.ran.Ran.{Ran}
use Rattle.pyd_meaning.specs.Evaluation.{Evaluation, settled as alone, gives, faults, prints}
use Rattle.pyd_meaning.specs.Calls.{builtin_called, printed}
use Rattle.pyd_meaning.specs.Module.{ended_by, call_at}
use Rattle.pyd_meaning.specs.Setting.{Place, place_of, value_or}
use Rattle.pyd_ir.specs.declared.arg.Arg.{Arg}
use Rattle.pyd_ir.specs.declared.node.Node.{Node}
use Rattle.pyd_ir.specs.declared.work.Work.{Work}
use Rattle.pyd_ir.specs.declared.work.Work.TheVariants.{Op, Read, Call, Stop, Print, Run, Cond, While, For, Pick, Enter}
use Rattle.pyd_ir.specs.Arguments.{arguments}
use Rattle.pyd_ir.specs.Operation.{operation}
use Rattle.pyd_ir.specs.Meaning.{ran_of}
use Rattle.pyd_ir.specs.Inputs.{Given, value_of, values_of, both, work_meaning, leaf_meaning}
use Rattle.pyd_effect.specs.declared.settled.Settled.{Settled}
use Rattle.pyd_effect.specs.declared.settled.Settled.TheVariants.{Passed, Ended, Waits}
use Rattle.pyd_effect.specs.Settling.{all_there, silent, print, faulty, given_by, settled, settled_ran, settled_or_waits, settle_head}
use Rattle.pyd_effect.specs.Laws.{IsOwn, IsSilentCall, Settles, LeafLaw}

-- what an evaluation printed and gave
settles : (lines : List (List ℕ)) (e : Evaluation Value) (r : Result Value Fault)
    → e.lines ≡ lines → e.result ≡ r → Settles (settled lines (outcome_of r)) e
settles lines e (Ok v) ls is = (ls, v, is)
settles lines e (Err f) ls is = (ls, f, is, refl)

-- what a job gave, with what it printed
own-settles : (id : ℕ) (e : Evaluation Value) → Settles (settled_or_waits id (Some (ran_of e))) e
own-settles id e = settles e.lines e e.result refl refl

-- and where it printed nothing
silent-settles : (id : ℕ) (e : Evaluation Value) → e.lines ≡ []
    → Settles (settled_or_waits id (Some (silent (ran_of e)))) e
silent-settles id e none = settles [] e e.result none refl

-- what a print gave
printed-settles : (id : ℕ) (r : Result (List ℕ) Fault)
    → Settles (settled_or_waits id (Some (print r))) (printed r)
unfolding alone prints
printed-settles id (Ok text) = (refl, value.None, refl)
printed-settles id (Err f) = (refl, f, refl, refl)

-- the values of arguments, one by one
all_values : (given : Given) (args : List Arg) → all_there (map (value_of given) args) ≡ values_of given args
all_values given [] = refl
all_values given (a ∷ args) = ap (both (value_of given a)) (all_values given args)

-- what is mapped comes of something
mapped-some : {A B : Type 0} (f : A → B) (o : Option A) (b : B) → option_map f o ≡ Some b
    → (a : A) × (o ≡ Some a) × (f a ≡ b)
mapped-some f None b e = absurd (none-some b e)
mapped-some f (Some a) b e = (a, refl, same_Some (f a) b e)

-- operators and reads print nothing
op-silent : (r : Result Value Fault) → (alone r).lines ≡ []
unfolding alone
op-silent r = refl

read-silent : (o : Option Value) (kind : Kind) (at : Place) → (value_or o kind at).lines ≡ []
unfolding alone
read-silent (Some v) kind at = refl
read-silent None kind at = refl

-- a stop gives its fault
fault-result : (f : Fault) → (faults {A = Value} f).result ≡ Err f
unfolding alone
fault-result f = refl

-- each kind of node
leaf : (file : File) (limits : Limits) (given : Given) (id at depth : ℕ) (w : Work) (own : Option Ran)
    (e : Evaluation Value)
    → work_meaning file limits given at depth w ≡ Some e → IsOwn w e own → IsSilentCall w e
    → Settles (settled_or_waits id (given_by w at (map (value_of given) (arguments w)) own)) e
leaf file limits given id at depth (Op op args) own e is given_own quiet =
    let made = mapped-some (λ vs. alone (operation op vs at)) (values_of given args) e is in
    subst (λ o. Settles (settled_or_waits id (option_map silent o)) e) (sym given_own)
    (silent-settles id e (ap (λ d. d.lines) (sym made.2) ∙ op-silent (operation op made.0 at)))
leaf file limits given id at depth (Read arg kind) own e is given_own quiet =
    subst (λ o. Settles (settled_or_waits id (option_map silent o)) e) (sym given_own)
    (silent-settles id e (ap (λ d. d.lines) (sym (same_Some _ e is)) ∙ read-silent (value_of given arg) kind (place_of at)))
leaf file limits given id at depth (Call func args) own e is given_own quiet =
    subst (λ o. Settles (settled_or_waits id (option_map silent o)) e) (sym given_own)
    (silent-settles id e quiet)
leaf file limits given id at depth (Stop fault) own e is given_own quiet =
    subst (λ d. Settles (settled_or_waits id (Some (faulty fault))) d) (same_Some (faults fault) e is)
    (settles [] (faults fault) (Err fault) (op-silent (Err fault)) (fault-result fault))
leaf file limits given id at depth (Print args) own e is given_own quiet =
    let made = mapped-some (λ vs. builtin_called named.Print vs at) (values_of given args) e is in
    let there = all_values given args ∙ made.1 in
    subst (λ o. Settles (settled_or_waits id (option_map (λ vs. print (line vs at)) o)) e) (sym there)
    (subst (λ d. Settles (settled_or_waits id (Some (print (line made.0 at)))) d) made.2
    (printed-settles id (line made.0 at)))
leaf file limits given id at depth (Run func args) own e is given_own quiet =
    subst (λ o. Settles (settled_or_waits id o) e) (sym given_own) (own-settles id e)
leaf file limits given id at depth (Cond test stmt arm rest env) own e is given_own quiet = absurd (none-some e is)
leaf file limits given id at depth (While test stmt turns rest env) own e is given_own quiet = absurd (none-some e is)
leaf file limits given id at depth (For over stmt turns rest env) own e is given_own quiet = absurd (none-some e is)
leaf file limits given id at depth (Pick test first second env) own e is given_own quiet = absurd (none-some e is)
leaf file limits given id at depth (Enter func args) own e is given_own quiet = absurd (none-some e is)

-- the law
pub leaves : LeafLaw
leaves file limits given node own e is given_own quiet =
    leaf file limits given node.id node.line node.depth node.work own e is given_own quiet
