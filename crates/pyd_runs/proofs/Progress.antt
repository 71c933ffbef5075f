-- A sound state in which the run hasn't ended goes on.
use Rattle.std.proofs.Common.{◌≡◌, ◌<◌, ◌++◌, ℕ, true, false, List, [], ◌∷◌, Option, None, Some, is_some, inl, inr, refl, ap, sym, ◌∙◌, subst, arith}
use Rattle.std.specs.Prelude.{IsTrue, option_map}
use Rattle.std.specs.List.{Contains}
use Rattle.pyd_board.specs.declared.event.Act.TheVariants.{Lose}
use Rattle.pyd_board.specs.Histories.{entries}
use Rattle.pyd_ir.specs.declared.arg.Arg.{Arg}
use Rattle.pyd_ir.specs.declared.arg.Arg.TheVariants.{Known, From, Slot, Unbound}
use Rattle.pyd_meaning.specs.declared.ran.Ran.{Ran}
use Rattle.pyd_ir.specs.declared.job.Task.{Task}
use Rattle.pyd_ir.specs.declared.job.Task.TheVariants as task
use Rattle.pyd_ir.specs.declared.node.Node.{Node}
use Rattle.pyd_ir.specs.declared.work.Work.{Work}
use Rattle.pyd_ir.specs.declared.work.Work.TheVariants.{Op, Read, Call, Stop, Print, Run, Cond, While, For, Pick, Enter}
use Rattle.pyd_ir.specs.Arguments.{is_composite, arguments, control, rest_arguments, side_arguments}
use Rattle.pyd_ir.specs.Inputs.{Given, value_of, may_be_read, has_inputs, task_of}
use Rattle.pyd_translate.specs.Matching.{AreGiven}
use Rattle.pyd_translate.specs.SlotPorts.{ArePortsOf, HavePorts, no_numbers}
use Rattle.pyd_translate.specs.Supplied.{AreSupplied, HasNeeds}
use Rattle.pyd_runs.specs.Plans.{Plan, limits_of}
use Rattle.pyd_runs.specs.Records.{records, recorded}
use Rattle.pyd_runs.specs.Effects.{State}
use Rattle.pyd_runs.specs.Enabled.{IsQuiet, IsRecorded, IsControlled, WaitsNot, due}
use Rattle.pyd_runs.specs.Sound.{IsSound}
use Rattle.pyd_runs.specs.Laws.{IsRunnable, ProgressLaw}
use Rattle.pyd_runs.proofs.Without.{here}
use Rattle.pyd_runs.proofs.Within.{values_there}
use Rattle.pyd_runs.proofs.Going.{Goes, args_or, Unrecorded, head_waits, jobless, refine_goes, control_goes, job_goes, settle_goes}

-- what the head reads may be read, as no slot port is left for it to name
pub may_read : (next : ℕ) (given : Given) (a : Arg) → AreGiven next given (a ∷ [])
    → ArePortsOf no_numbers (a ∷ []) → IsTrue (may_be_read given a)
may_read next given (Known v) is slots = refl
may_read next given (From at) is slots = let z = is.0 in ap is_some z.2
may_read next given (Slot at) is slots = absurd (let z = slots.0 in cc (z))
may_read next given Unbound is slots = refl

module _ (p : Plan) (s : State) (sound : IsSound p s) (workers : 0 < p.setup.workers)
    (quiet : IsQuiet s) (window : 0 < p.setup.window) (n : Node) (rest : List Node)
    (chain : s.graph.chain ≡ n ∷ rest) where
  -- a head with a job, of this work
  worked : (w : Work) → n.work ≡ w → is_composite w ≡ false
      → IsTrue (has_inputs s.graph.given w)
      → ((r : Given) → IsTrue (has_inputs r w) → (t : Task) × (task_of r w ≡ Some t))
      → ((o : Option Ran) → records s.graph s.desk.stores n.id ≡ o → IsRecorded o → WaitsNot s n.id w)
      → Goes p s
  worked w is leaf inputs job settles =
      job_goes p s sound workers quiet n rest chain (ap is_composite is ∙ leaf)
      (ap (has_inputs s.graph.given) is ∙ inputs)
      (λ r there.
      (let t = job r (sym (ap (has_inputs r) is) ∙ there) in (t.0, ap (task_of r) is ∙ t.1)))
      (λ o e x. subst (WaitsNot s n.id) (sym is) (settles o e x))

  -- a composite with a control, of this work
  chosen : (w : Work) (a : Arg) (args : List Arg) → n.work ≡ w → is_composite w ≡ true
      → control w ≡ Some a → arguments w ≡ a ∷ args → ((given : Given) → task_of given w ≡ None)
      → IsTrue (is_some (value_of s.graph.given a)) → Goes p s
  chosen w a args is composite named all none has =
      control_goes p s sound workers quiet window n rest a args chain
      (ap is_composite is ∙ composite) (ap control is ∙ named) (ap arguments is ∙ all)
      (λ given. ap (task_of given) is ∙ none given) has

  -- the head, by its work
  head_goes : (w : Work) → n.work ≡ w
      → AreGiven s.graph.next s.graph.given (arguments w)
      → ArePortsOf no_numbers (arguments w)
      → HasNeeds p.file n.routine s.graph.given w → Goes p s
  head_goes (Op op args) is given slots needs =
      worked (Op op args) is refl needs
      (λ r e. (let vs = values_there r args e in
      (task.Op op vs.0, ap (option_map (task.Op op)) vs.1)))
      (λ o e x. subst IsRecorded (sym e) x)
  head_goes (Read arg kind) is given slots needs =
      worked (Read arg kind) is refl (may_read s.graph.next s.graph.given arg given slots)
      (λ r e. (task.Read (value_of r arg) kind, refl))
      (λ o e x. subst IsRecorded (sym e) x)
  head_goes (Call func args) is given slots needs =
      worked (Call func args) is refl needs
      (λ r e. (let vs = values_there r args e in
      (task.Call func vs.0, ap (option_map (task.Call func)) vs.1)))
      (λ o e x. subst IsRecorded (sym e) x)
  head_goes (Stop fault) is given slots needs =
      settle_goes p s sound workers quiet n rest chain
      (subst (WaitsNot s n.id) (sym is) tt)
  head_goes (Print args) is given slots needs =
      elim (args_or (recorded s.graph s.desk.stores) s.graph.given args needs) [
        | inl there ↦ settle_goes p s sound workers quiet n rest chain
            (subst (WaitsNot s n.id) (sym is) there)
        | inr m ↦
            let at = subst (λ (ns : List Node). Contains ns n) (sym chain) (here n rest) in
            head_waits p s sound workers quiet n at
            (jobless p s sound workers quiet n at (λ given. ap (task_of given) is))
            (subst (Unrecorded (recorded s.graph s.desk.stores) s.graph.given)
            (sym (ap arguments is)) m)
      ]
  head_goes (Run func args) is given slots needs =
      worked (Run func args) is refl needs
      (λ r e. (let vs = values_there r args e in
      (task.Run func vs.0, ap (option_map (task.Run func)) vs.1)))
      (λ o e x. subst IsRecorded (sym e) x)
  head_goes (Cond test stmt arm more env) is given slots needs =
      chosen (Cond test stmt arm more env) test (rest_arguments more ++ env) is refl refl refl
      (λ x. refl) needs.0
  head_goes (While test stmt turns more env) is given slots needs =
      chosen (While test stmt turns more env) test (rest_arguments more ++ env) is refl refl refl
      (λ x. refl) needs.0
  head_goes (For over stmt turns more env) is given slots needs =
      chosen (For over stmt turns more env) over (rest_arguments more ++ env) is refl refl refl
      (λ x. refl) needs.0
  head_goes (Pick test first second env) is given slots needs =
      chosen (Pick test first second env) test
      (side_arguments first ++ (side_arguments second ++ env)) is refl refl refl
      (λ x. refl) needs.0
  head_goes (Enter func args) is given slots needs =
      refine_goes p s sound workers quiet window n rest chain (ap is_composite is)
      (subst (IsControlled (recorded s.graph s.desk.stores)) (sym (ap control is)) tt)

-- a state that bars nothing, by its chain
chain_goes : (p : Plan) (s : State) (ns : List Node) → IsRunnable p → IsSound p s → IsQuiet s
    → s.graph.chain ≡ ns → Goes p s
unfolding AreSupplied
chain_goes p s [] runnable sound quiet chain =
    absurd (sound.graph.unfinished quiet.goes_on chain)
chain_goes p s (n ∷ rest) runnable sound quiet chain =
    let supplied = subst
    (λ (ns : List Node). AreSupplied p.file (limits_of p) s.graph.next ns s.graph.given)
    chain (sound.graph.supplied quiet.goes_on) in
    head_goes p s sound runnable.workers quiet runnable.window n rest chain n.work refl
    supplied.0 (subst (HavePorts no_numbers) chain sound.graph.slots).0 supplied.1

-- whether a loss is due
due_goes : (p : Plan) (s : State) (o : Option ℕ) → IsRunnable p → IsSound p s
    → s.graph.end ≡ None → due s ≡ o → Goes p s
due_goes p s (Some machine) runnable sound goes is = record {
  seat = 0;
  act = Lose machine;
  is_seat = omega arith;
  can = record { goes_on = goes; is_due = is; by = λ losses. refl };
  forward = tt;
}
due_goes p s None runnable sound goes is =
    chain_goes p s s.graph.chain runnable sound (record { goes_on = goes; none_due = is }) refl

-- the law
pub goes_on : ProgressLaw
goes_on p s runnable sound goes =
    let x = due_goes p s (due s) runnable sound goes refl in (
      record { by = x.seat; nth = entries x.seat s.journal; act = x.act },
      record { seat = x.is_seat; nth = refl; act = x.can },
      x.forward,
    )
