-- What always holds of a cluster still does behind a step.
use Rattle.std.proofs.Common.{◌≡◌, ◌+◌, ◌≤◌, ℕ, List, [], ◌∷◌, ◌++◌, append_assoc, append-nil, length, length-append, Bool, true, false, ◌||◌, Option, Some, None, is_some, Result, Ok, Err, refl, ap, sym, subst, ◌∙◌, arith}
use Rattle.std.specs.List.{All}
use Rattle.std.proofs.lemmas.List.Elements.{All-nil, All-append}
use Rattle.pyd_value.specs.declared.fault.End.{End}
use Rattle.pyd_value.specs.declared.fault.Fault.{Fault}
use Rattle.pyd_value.specs.declared.value.Value.{Value}
use Rattle.pyd_board.specs.declared.event.Act.TheVariants.{Settle}
use Rattle.pyd_board.specs.declared.event.Event.{Event}
use Rattle.pyd_board.specs.declared.history.Halt.{Halt}
use Rattle.pyd_board.specs.declared.history.Halt.TheVariants.{SinkFault}
use Rattle.pyd_board.specs.declared.seat.Who.{Who}
use Rattle.pyd_board.specs.Histories.{entries}
use Rattle.pyd_boards.specs.declared.answers.Moved.{Moved}
use Rattle.pyd_boards.specs.declared.answers.Moved.TheVariants as moved
use Rattle.pyd_boards.specs.Boards.{IsSeatIn, entry}
use Rattle.pyd_ir.specs.declared.node.Node.{Node}
use Rattle.pyd_ir.specs.Arguments.{is_pure}
use Rattle.pyd_ir.specs.Inputs.{leaf_meaning}
use Rattle.pyd_meaning.specs.Evaluation.{Evaluation}
use Rattle.pyd_meaning.specs.Module.{bytes_of}
use Rattle.pyd_runs.specs.Effects.{State, acted, happens, passed, settled, settled_as, settled_by, settled_chain}
use Rattle.pyd_runs.specs.Enabled.{CanSettle, Enabled}
use Rattle.pyd_runs.specs.Facts.{IsAlike, IsDeskAct}
use Rattle.pyd_runs.specs.Graphs.{Graph}
use Rattle.pyd_runs.specs.Plans.{Plan, limits_of, meaning}
use Rattle.pyd_runs.specs.Replay.{IsLegal, replay}
use Rattle.pyd_runs.proofs.Beginnings.{goes_behind, journal_whole, steps_on}
use Rattle.pyd_runs.proofs.Going.{seat_there}
use Rattle.pyd_runs.proofs.Running.{prefix_keeps}
use Rattle.pyd_core.specs.declared.keeper.Core.{Core}
use Rattle.pyd_core.specs.Cores.{IsCore, plan_of, state_of}
use Rattle.pyd_core.specs.Steps.{ComesBy}
use Rattle.pyd_steps.specs.declared.told.Told.{Told}
use Rattle.pyd_steps.specs.Losses.{events_behind, losses_first}
use Rattle.pyd_steps.specs.Settling.{head_lines, lines_at, lines_of}
use Rattle.pyd_steps.specs.Sinks.{Puts}
use Rattle.pyd_steps.specs.Stepping as steps
use Rattle.pyd_steps.specs.Stepping.{Steps}
use Rattle.pyd_cluster.specs.Keeping.{HasFailed, IsKept, fault_by, halt_by, known_by}
use Rattle.pyd_cluster.proofs.Alike.{head_alike}
use Rattle.pyd_cluster.proofs.Dues.{unbarred_behind}
use Rattle.pyd_cluster.proofs.Goings.{legal_behind}
use Rattle.pyd_cluster.proofs.Kept.{alike_behind, begun_more, halts_by, holds_alike, known_comes, losses_are, stays_kept}
use Rattle.pyd_cluster.proofs.Puttings.{added_more, bytes_more, exceeds_before, puts_more, rose_behind}

-- what a settled head adds to what was put out is its lines
by_pure : (pure : Bool) (g : Graph) (n : Node) (rest : List Node) (lines : List (List ℕ))
    (v : Value) → (passed pure g n rest lines v).out ≡ g.out ++ lines
by_pure true g n rest lines v = refl
by_pure false g n rest lines v = refl

by_result : (g : Graph) (n : Node) (rest : List Node) (lines : List (List ℕ))
    (r : Result Value Fault) → (settled_by g n rest lines r).out ≡ g.out ++ lines
by_result g n rest lines (Ok v) = by_pure (is_pure n.work) g n rest lines v
by_result g n rest lines (Err f) = refl

by_chain : (p : Plan) (g : Graph) (ns : List Node)
    → (settled_chain p g ns).out ≡ g.out ++ lines_at p g ns
by_chain p g [] = sym (append-nil g.out)
by_chain p g (n ∷ rest) = by_meaning (leaf_meaning p.file (limits_of p) g.given n)
  where
    by_meaning : (o : Option (Evaluation Value))
        → (settled_as g n rest o).out ≡ g.out ++ lines_of o
    by_meaning None = sym (append-nil g.out)
    by_meaning (Some e) = by_result g n rest e.lines e.result

-- so does the Settle
settle_out : (p : Plan) (s : State) (e : Event) (number : ℕ) → e.act ≡ Settle number
    → (happens p s e).graph.out ≡ s.graph.out ++ head_lines p s.graph
unfolding happens acted settled
settle_out p s e number is =
    ap (λ act. (acted p s e.by act).graph.out) is ∙ by_chain p s.graph s.graph.chain

-- neither of two is so
neither : (a b : Bool) → (a || b) ≡ false → (a ≡ false) × (b ≡ false)
neither true b is = absurd (cc (is))
neither false b is = (refl, is)

-- where the end isn't there it is none
none_there : (o : Option End) → is_some o ≡ false → o ≡ None
none_there None is = refl
none_there (Some end) is = absurd (cc (is))

-- lines that were put out and the next ones are no more than all
lines_fit : (out head more all : List (List ℕ)) → (out ++ head) ++ more ≡ all
    → length (bytes_of out) + length (bytes_of head) ≤ length (bytes_of all)
lines_fit out head more all is =
    let whole = ap (λ lines. length (bytes_of lines)) is in
    let first = ap length (bytes_more (out ++ head) more) in
    let both = ap length (bytes_more out head) in
    let one = length-append (bytes_of (out ++ head)) (bytes_of more) in
    let other = length-append (bytes_of out) (bytes_of head) in
    omega (arith, whole, first, both, one, other)

module _ (c d : Core) (core : IsCore c) (halt : Option Halt) (who : Who)
    (worker : IsSeatIn c.setup who) (opening old now : Told) where
  abbrev p : Plan
  p = plan_of c

  abbrev losses : List Event
  losses = losses_first who.seat c

  abbrev es : List Event
  es = events_behind who.seat c

  abbrev out : List (List ℕ)
  out = (state_of c).graph.out

  abbrev head : List (List ℕ)
  head = head_lines p (state_of c).graph

  -- the losses leave the graph
  alike : IsAlike (state_of c).graph (replay p es).graph
  alike = alike_behind p c.log.journal.items losses (losses_are who.seat c)

  -- where a step has no entries of its own, all are of tickets, claims and losses
  all_acts : (own : List Event) → own ≡ [] → All (λ e. IsDeskAct e.act) (losses ++ own)
  all_acts own none =
      All-append (λ e. IsDeskAct e.act) losses own (losses_are who.seat c)
      (subst (All (λ e. IsDeskAct e.act)) (sym none) (All-nil (λ e. IsDeskAct e.act)))

  -- where it rests
  rests_kept : (fault : Bool) → IsKept fault (known_by c fault halt opening old)
      → (own : List Event) → ComesBy c d (losses ++ own) → steps.Rests p who es own old now
      → IsKept fault (known_by d fault halt opening now)
  rests_kept fault kept own come rests =
      subst (λ told. IsKept fault (known_by d fault halt opening told)) (sym rests.same)
      (stays_kept c d fault halt opening old kept (losses ++ own) come
      (all_acts own rests.none))

  -- where it does a thing
  did_kept : IsKept false (known_by c false halt opening old) → (own : List Event)
      → (tickets : List _) → ComesBy c d (losses ++ own)
      → steps.Does p who es own old now tickets
      → IsKept false (known_by d false halt opening now)
  did_kept kept own tickets come does =
      let out_is : (replay p (c.log.journal.items ++ (losses ++ own))).graph.out
      ≡ out ++ does.lines
      = ap (λ js. (replay p js).graph.out) (sym (append_assoc c.log.journal.items losses own))
      ∙ does.out ∙ ap (λ lines. lines ++ does.lines) alike.out in
      subst (IsKept false)
      (sym (known_comes c d (losses ++ own) come false halt opening now)) (record {
        runnable = core.runnable;
        legal = legal_behind c d (losses ++ own) come;
        begun = begun_more p c.log.journal.items (losses ++ own) kept.begun;
        faults = refl;
        opening = refl;
        sink = record {
          puts = subst (λ bytes. Puts opening bytes now)
              (sym (ap bytes_of out_is ∙ bytes_more out does.lines))
              (puts_more opening old now (bytes_of out) (bytes_of does.lines) kept.sink.puts
              does.puts);
          not_halted_by_it = kept.sink.not_halted_by_it;
        };
        goes_on = λ is. absurd (cc (is));
      })

  -- what was put out and the lines of a head that may be settled begin the script's
  head_begins : (own : List Event) → ComesBy c d (losses ++ own) → (number : ℕ)
      → (replay p es).graph.end ≡ None → CanSettle (replay p es) number
      → (more : List (List ℕ))
      × (out ++ (head_lines p (replay p es).graph ++ more) ≡ (meaning p).lines)
  head_begins own come number on can =
      let e : Event = entry es who.seat (Settle number) in
      let legal : IsLegal p es
      = (goes_behind p es own).beginning
      (subst (IsLegal p) (sym (append_assoc c.log.journal.items losses own))
      (legal_behind c d (losses ++ own) come)) in
      let may : Enabled p (replay p es) e = record {
        seat = seat_there p who.machine who.seat worker.machine
            (record { from = worker.from; to = worker.to });
        nth = ap (entries who.seat) (sym (journal_whole p es));
        act = (
          record {
            goes_on = on;
            none_due = unbarred_behind goes_behind p c.log.journal.items who.seat on;
          },
          can,
        );
      } in
      let step = steps_on p es e in
      let prefix = prefix_keeps p (es ++ e ∷ []) core.runnable (step.legal legal may) in
      let out_is : (replay p (es ++ e ∷ [])).graph.out
      ≡ out ++ head_lines p (replay p es).graph
      = ap (λ (s : State). s.graph.out) step.state ∙ settle_out p (replay p es) e number refl
      ∙ ap (λ lines. lines ++ head_lines p (replay p es).graph) alike.out in (
        prefix.0,
        sym (append_assoc out (head_lines p (replay p es).graph) prefix.0)
            ∙ ap (λ lines. lines ++ prefix.0) (sym out_is) ∙ prefix.1,
      )

  -- so it has lines of the script
  head_fits : (own : List Event) → ComesBy c d (losses ++ own) → (number : ℕ)
      → (replay p es).graph.end ≡ None → CanSettle (replay p es) number
      → length (bytes_of out) + length (bytes_of (head_lines p (replay p es).graph))
      ≤ length (bytes_of (meaning p).lines)
  head_fits own come number on can =
      let head = head_lines p (replay p es).graph in
      let first = head_begins own come number on can in
      lines_fit out head first.0 (meaning p).lines
      (append_assoc out head first.0 ∙ first.1)

  -- where the sink failed
  failed : IsKept false (known_by c false halt opening old) → (own : List Event)
      → ComesBy c d (losses ++ own) → (replay p es).graph.end ≡ None
      → steps.FailsAtHead p who es own old now
      → HasFailed p opening now (Some SinkFault) out head
  failed kept own come on fails =
      let puts = kept.sink.puts in
      let part = fails.part in
      let first = head_begins own come fails.number on fails.can in
      record {
        more = first.0;
        begins = ap (λ lines. out ++ (lines ++ first.0))
            (sym (head_alike p (state_of c).graph (replay p es).graph alike)) ∙ first.1;
        part = part.held.gone;
        rest = part.held.rest;
        of_head = part.held.whole
            ∙ ap bytes_of (head_alike p (state_of c).graph (replay p es).graph alike);
        held = added_more opening.held old.held now.held (bytes_of out) part.held.gone puts.held
            part.held.added;
        full = exceeds_before opening.room old.room (length (bytes_of out))
            (length (bytes_of (head_lines p (replay p es).graph)))
            (length (bytes_of (meaning p).lines)) puts.room part.full
            (head_fits own come fails.number on fails.can);
        unsure = sym puts.sure ∙ part.unsure;
        sure = part.sure ∙ puts.sure;
        count = (let was = puts.count in let is = part.count in omega (arith, was, is));
        rose = rose_behind opening.faults old.faults now.faults puts.count part.rose;
        halted = refl;
      }

  failed_kept : IsKept false (known_by c false halt opening old) → (own : List Event)
      → ComesBy c d (losses ++ own) → (replay p es).graph.end ≡ None
      → steps.FailsAtHead p who es own old now
      → IsKept true (known_by d true (Some SinkFault) opening now)
  failed_kept kept own come on fails =
      subst (IsKept true)
      (sym (known_comes c d (losses ++ own) come true (Some SinkFault) opening now)) (record {
        runnable = core.runnable;
        legal = legal_behind c d (losses ++ own) come;
        begun = begun_more p c.log.journal.items (losses ++ own) kept.begun;
        faults = refl;
        opening = refl;
        sink = holds_alike true p opening now (Some SinkFault) (state_of c).graph
            (replay p (c.log.journal.items ++ (losses ++ own))).graph
            (alike_behind p c.log.journal.items (losses ++ own) (all_acts own fails.none))
            (failed kept own come on fails);
        goes_on = λ is. (alike_behind p c.log.journal.items (losses ++ own)
            (all_acts own fails.none)).end ∙ sym alike.end ∙ on;
      })

  -- by what it answers
  moved_kept : (fault : Bool) → IsKept fault (known_by c fault halt opening old)
      → (own : List Event) → ComesBy c d (losses ++ own) → (answer : Moved)
      → steps.Moves p who es own old now (is_some halt) answer
      → IsKept (fault_by answer fault)
      (known_by d (fault_by answer fault) (halt_by answer halt) opening now)
  moved_kept fault kept own come moved.Over is = rests_kept fault kept own come is.1
  moved_kept fault kept own come moved.Lost is = rests_kept fault kept own come is.2
  moved_kept fault kept own come moved.Nothing is =
      rests_kept fault kept own come is.1.rests
  moved_kept false kept own come (moved.Did tickets) is =
      did_kept kept own tickets.items come is.1
  moved_kept false kept own come moved.SinkFault is =
      failed_kept kept own come (none_there (replay p es).graph.end
      (neither (is_some (replay p es).graph.end) (is_some halt) is.0.not_over).0) is.1
  moved_kept true kept own come (moved.Did tickets) is =
      let halted = halts_by true (known_by c true halt opening old) kept refl in
      let none = (neither (is_some (replay p es).graph.end) (is_some halt) is.0.not_over).1 in
      absurd (cc (halted, none))
  moved_kept true kept own come moved.SinkFault is =
      let halted = halts_by true (known_by c true halt opening old) kept refl in
      let none = (neither (is_some (replay p es).graph.end) (is_some halt) is.0.not_over).1 in
      absurd (cc (halted, none))

  -- behind a step
  pub step_stays : (fault : Bool) → IsKept fault (known_by c fault halt opening old)
      → (answer : Moved) → Steps (is_some halt) c d who old now answer
      → IsCore d × IsKept (fault_by answer fault)
      (known_by d (fault_by answer fault) (halt_by answer halt) opening now)
  step_stays fault kept answer is =
      (is.comes.core, moved_kept fault kept is.own is.comes answer is.moves)
