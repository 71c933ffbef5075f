-- Steps of a core, and losses alone, as those of its board.
use Rattle.std.proofs.Common.{◌≡◌, ℕ, List, [], ◌∷◌, ◌++◌, append_assoc, append-nil, Bool, true, false, not, ◌||◌, ◌&&◌, Option, Some, None, is_some, inl, refl, ap, sym, subst, ◌∙◌, arith}
use Rattle.std.specs.Prelude.{Contains}
use Rattle.std.proofs.lemmas.List.Elements.{All-append}
use Rattle.pyd_value.specs.declared.fault.End.{End}
use Rattle.pyd_board.specs.declared.event.Act.TheVariants.{Settle}
use Rattle.pyd_board.specs.declared.event.Event.{Event}
use Rattle.pyd_board.specs.declared.history.Halt.{Halt}
use Rattle.pyd_board.specs.declared.history.Halt.TheVariants.{SinkFault}
use Rattle.pyd_board.specs.declared.history.History.{History}
use Rattle.pyd_board.specs.declared.kept.RunName.{RunName}
use Rattle.pyd_board.specs.declared.seat.Who.{Who}
use Rattle.pyd_board.specs.Histories.{AllBy, entries}
use Rattle.pyd_boards.specs.declared.answers.Moved.{Moved}
use Rattle.pyd_boards.specs.declared.answers.Moved.TheVariants as moved
use Rattle.pyd_boards.specs.Boards.{IsSeatIn, entry, is_done, with_events}
use Rattle.pyd_boards.specs.Calls.{ActKind, IsConcluded, NoneIn, loses, places, refines, settles}
use Rattle.pyd_boards.specs.Moves as moves
use Rattle.pyd_boards.specs.Moves.{KeepsFault, LosesAll, LosesAlone, LosesFirst, NothingToDo}
use Rattle.pyd_runs.specs.Effects.{State}
use Rattle.pyd_runs.specs.Enabled.{CanSettle}
use Rattle.pyd_runs.specs.Following.{BeginningLaw, JournalLaw}
use Rattle.pyd_runs.specs.Plans.{IsSeatOf, Plan}
use Rattle.pyd_runs.specs.Replay.{replay}
use Rattle.pyd_runs.proofs.Going.{seat_there}
use Rattle.pyd_core.specs.declared.keeper.Core.{Core}
use Rattle.pyd_core.specs.Cores.{IsCore, plan_of, state_of}
use Rattle.pyd_core.specs.Facts.{facts_of, may_come}
use Rattle.pyd_core.specs.Steps.{ComesBy}
use Rattle.pyd_steps.specs.declared.told.Told.{Told}
use Rattle.pyd_steps.specs.Losses.{events_behind, losses_first}
use Rattle.pyd_steps.specs.Stepping as steps
use Rattle.pyd_steps.specs.Stepping.{Steps}
use Rattle.pyd_cluster.specs.Keeping.{fault_by, halt_by}
use Rattle.pyd_cluster.proofs.Dues.{all_lose, none_left, unbarred_behind}
use Rattle.pyd_cluster.proofs.Goings.{IsStill, by_seat, same_still, told}
use Rattle.pyd_cluster.proofs.Takings.{HaltsAt, done_same, faults_by, is_faulty}

-- what isn't over hasn't ended, isn't halted and keeps no fault
pub record IsGoing (ended fault halted : Bool) : Type 0 where
  pub not_ended : ended ≡ false
  pub no_fault : fault ≡ false
  pub not_halted : halted ≡ false
  pub not_over : (ended || is_faulty fault) ≡ false

-- so it is where neither the end is there nor a halt
going : (ended fault halted : Bool) → (fault ≡ true → halted ≡ true)
    → (ended || halted) ≡ false → IsGoing ended fault halted
going true fault halted halts is = absurd (cc (is))
going false fault true halts is = absurd (cc (is))
going false true false halts is = absurd (cc (halts refl))
going false false false halts is = record {
  not_ended = refl;
  no_fault = refl;
  not_halted = refl;
  not_over = refl;
}

-- a machine that isn't lost isn't lost in a run that goes on
lost_nowhere : (over lost : Bool) → lost ≡ false → ((not over && lost) || false) ≡ false
lost_nowhere true lost is = refl
lost_nowhere false lost is = ap (λ b. b || false) is

-- one that is lost is lost in a run that goes on
lost_there : (over lost : Bool) → over ≡ false → lost ≡ true
    → ((not over && lost) || false) ≡ true
lost_there over lost goes_on is =
    ap (λ b. (not b && lost) || false) goes_on ∙ ap (λ b. b || false) is

-- where the end is none
none_there : (o : Option End) → is_some o ≡ false → o ≡ None
none_there None is = refl
none_there (Some end) is = absurd (cc (is))

-- what isn't in the first run is in none
in_none : (p : Plan) (kind : ActKind) (run : ℕ) (es : List Event)
    → NoneIn (facts_of p) (may_come p) kind 0 es → NoneIn (facts_of p) (may_come p) kind run es
in_none p kind run es none e may is =
    none e may (record { of_kind = is.of_kind; in_run = refl })

-- no run keeps a fault at first
none_kept : (run : ℕ) → Contains (faults_by false) run → ⊥
none_kept run there = omega (arith, there.1)

-- what isn't halted has no halt
never_halted : (halt : Option Halt) (why : Halt) → is_some halt ≡ false → halt ≡ Some why → ⊥
never_halted None why none is = cc (is)
never_halted (Some before) why none is = cc (none)

module _ (c d : Core) (seat : ℕ) (own : List Event)
    (come : ComesBy c d (losses_first seat c ++ own)) where
  -- the events are those behind the losses and its own
  events_are : d.log.journal.items ≡ events_behind seat c ++ own
  events_are = come.journal ∙ sym (append_assoc c.log.journal.items (losses_first seat c) own)

  -- what is left has these
  left : (faults : List ℕ) (halt : Option Halt)
      → told d faults halt ≡ with_events (with_events (told c faults halt) (losses_first seat c)) own
  left faults halt =
      ap (λ es. record { events = es; sink_faults = faults; halted = halt }) events_are

  -- the same where there are none
  left_alone : own ≡ [] → (faults : List ℕ) (halt : Option Halt)
      → told d faults halt ≡ with_events (told c faults halt) (losses_first seat c)
  left_alone none faults halt =
      ap (λ es. record { events = es; sink_faults = faults; halted = halt })
      (events_are ∙ ap (λ es. events_behind seat c ++ es) none
      ∙ append-nil (events_behind seat c))

-- what a step stands on
pub record StepLaws : Type 0 where
  pub beginning : BeginningLaw
  pub journal : JournalLaw

module _ (laws : StepLaws) (c d : Core) (core : IsCore c) (run : RunName) (fault : Bool)
    (halt : Option Halt) (halts : HaltsAt fault halt) (who : Who) (worker : IsSeatIn c.setup who)
    (old now : Told) where
  abbrev p : Plan
  p = plan_of c

  abbrev es : List Event
  es = events_behind who.seat c

  abbrev s : State
  s = replay (plan_of c) (events_behind who.seat c)

  -- the history behind the losses
  abbrev h : History
  h = with_events (told c (faults_by fault) halt) (losses_first who.seat c)

  -- the board is done where the run is over
  is_done_by : (b : Bool) → (is_some s.graph.end || is_some halt) ≡ b
      → is_done (facts_of p) (run ∷ []) h ≡ b
  is_done_by b is = done_same (is_some s.graph.end) fault (is_some halt) halts ∙ is

  -- where neither the end is there nor a halt
  goes_on : (is_some s.graph.end || is_some halt) ≡ false
      → IsGoing (is_some s.graph.end) fault (is_some halt)
  goes_on is = going (is_some s.graph.end) fault (is_some halt) halts is

  -- the board is open where the core is
  is_open : (own : List Event) → steps.IsOpen p who es own old now (is_some halt)
      → moves.IsOpen (facts_of p) (may_come p) true (run ∷ []) who h
  is_open own is = record {
    not_done = is_done_by false is.not_over;
    not_lost =
        lost_nowhere (is_some s.graph.end || is_faulty fault) (s.lost who.machine) is.not_lost;
  }

  -- where none of the three may be done, nothing is to do
  nothing : NoneIn (facts_of p) (may_come p) loses 0 es → (own : List Event)
      → steps.HasNothing p who es own old now → NothingToDo (facts_of p) (may_come p) h
  nothing none own is number over = (
    in_none p loses number es none,
    in_none p settles number es is.no_settle,
    in_none p refines number es is.no_refine,
    in_none p places number es is.no_place,
  )

  -- the Settle that the sink kept from coming may come
  may_settle : (number : ℕ) → (is_some s.graph.end || is_some halt) ≡ false
      → CanSettle s number → may_come p es (entry es who.seat (Settle number))
  may_settle number open_now can =
      let on = none_there s.graph.end (goes_on open_now).not_ended in
      let of : IsSeatOf p who.machine who.seat = record { from = worker.from; to = worker.to } in (
        core.runnable,
        record {
          seat = seat_there p who.machine who.seat worker.machine of;
          nth = ap (entries who.seat) (sym (laws.journal p es));
          act = (
            record {
              goes_on = on;
              none_due = unbarred_behind laws.beginning p c.log.journal.items who.seat on;
            },
            can,
          );
        },
      )

  -- a fault of the sink is kept, and halts the board
  keeps : NoneIn (facts_of p) (may_come p) loses 0 es → (own : List Event)
      → ComesBy c d (losses_first who.seat c ++ own)
      → steps.IsOpen p who es own old now (is_some halt)
      → steps.FailsAtHead p who es own old now
      → KeepsFault (facts_of p) (may_come p) true (run ∷ []) h
      (told d (faults_by true) (Some SinkFault))
  keeps none own come is fails = record {
    run = 0;
    is_run = omega arith;
    goes_on = (goes_on is.not_over).not_over;
    none_due = none;
    settle = entry es who.seat (Settle fails.number);
    may_settle = may_settle fails.number is.not_over fails.can;
    is_settle = record { of_kind = refl; in_run = refl };
    leaves =
        left_alone c d who.seat own come fails.none (faults_by true) (Some SinkFault)
        ∙ ap (λ b. record {
          events = es;
          sink_faults = faults_by b ++ 0 ∷ [];
          halted = Some SinkFault;
        }) (sym (goes_on is.not_over).no_fault);
  }

  -- what a step answers and does
  moves_as : NoneIn (facts_of p) (may_come p) loses 0 es → (own : List Event)
      → ComesBy c d (losses_first who.seat c ++ own) → (answer : Moved)
      → steps.Moves p who es own old now (is_some halt) answer
      → moves.Moves (facts_of p) (may_come p) true (run ∷ []) who h answer
      (told d (faults_by (fault_by answer fault)) (halt_by answer halt))
  moves_as none own come moved.Over is =
      (is_done_by true is.0, left_alone c d who.seat own come is.1.none (faults_by fault) halt)
  moves_as none own come moved.Lost is = (
    is_done_by false is.0,
    lost_there (is_some s.graph.end || is_faulty fault) (s.lost who.machine)
        (goes_on is.0).not_over is.1,
    left_alone c d who.seat own come is.2.none (faults_by fault) halt,
  )
  moves_as none own come moved.Nothing is = (
    is_open own is.0,
    nothing none own is.1,
    left_alone c d who.seat own come is.1.rests.none (faults_by fault) halt,
  )
  moves_as none own come (moved.Did tickets) is = (
    is_open own is.0,
    inl (record {
      run = 0;
      is_run = omega arith;
      goes_on = (goes_on is.0.not_over).not_over;
      none_due = none;
      own = own;
      thing = is.1.thing;
      leaves = left c d who.seat own come (faults_by fault) halt;
    }),
  )
  moves_as none own come moved.SinkFault is =
      (is_open own is.0, refl, keeps none own come is.0 is.1)

  -- a step of a core is one of its board
  pub steps_as : (answer : Moved) → Steps (is_some halt) c d who old now answer
      → moves.Steps (facts_of p) (may_come p) true (run ∷ []) who (told c (faults_by fault) halt)
      answer (told d (faults_by (fault_by answer fault)) (halt_by answer halt))
  steps_as answer is = record {
    losses = losses_first who.seat c;
    are_losses = all_lose c who.seat;
    none_left = λ single. is.none_due;
    moves = moves_as is.none_due is.own is.comes answer is.moves;
  }

  -- what is kept of faults and halts stays
  pub still_by : (own : List Event) (answer : Moved)
      → steps.Moves p who es own old now (is_some halt) answer
      → IsStill (faults_by fault) (faults_by (fault_by answer fault)) halt (halt_by answer halt)
  still_by own moved.Over is = same_still (faults_by fault) halt
  still_by own moved.Lost is = same_still (faults_by fault) halt
  still_by own moved.Nothing is = same_still (faults_by fault) halt
  still_by own (moved.Did tickets) is = same_still (faults_by fault) halt
  still_by own moved.SinkFault is =
      let on = goes_on is.0.not_over in
      record {
        faults_stay = λ number there.
            absurd (none_kept number (subst (λ b. Contains (faults_by b) number) on.no_fault there));
        halt_stays = λ why is_why. absurd (never_halted halt why on.not_halted is_why);
      }

-- the entries of a step are by its seat
pub step_by_seat : (halted : Bool) (c d : Core) (who : Who) (old now : Told) (answer : Moved)
    (is : Steps halted c d who old now answer)
    → AllBy who.seat (losses_first who.seat c ++ is.own)
step_by_seat halted c d who old now answer is =
    All-append (λ e. e.by ≡ who.seat) (losses_first who.seat c) is.own
    (by_seat who.seat (state_of c)) is.by

module _ (laws : BeginningLaw) (c d : Core) (seat : ℕ) (come : ComesBy c d (losses_first seat c))
    (faults : List ℕ) (halt : Option Halt) where
  -- losses are appended alone
  alone : LosesAlone (facts_of (plan_of c)) (may_come (plan_of c)) (told c faults halt)
      (told d faults halt)
  alone = record {
    losses = losses_first seat c;
    are_losses = all_lose c seat;
    leaves =
        ap (λ es. record { events = es; sink_faults = faults; halted = halt }) come.journal;
  }

  -- none may come behind them
  none_behind : (run : ℕ)
      → NoneIn (facts_of (plan_of c)) (may_come (plan_of c)) loses run d.log.journal.items
  none_behind run =
      subst (NoneIn (facts_of (plan_of c)) (may_come (plan_of c)) loses run) (sym come.journal)
      (in_none (plan_of c) loses run (events_behind seat c)
      (none_left laws (plan_of c) c.log.journal.items seat))

  -- as where a step had no memory
  pub loses_first : LosesFirst (facts_of (plan_of c)) (may_come (plan_of c)) true
      (told c faults halt) (told d faults halt)
  loses_first = record { alone = alone; none_left = λ single. none_behind 0 }

  -- and as where a seat appends those that are due
  pub loses_all : LosesAll (facts_of (plan_of c)) (may_come (plan_of c)) (told c faults halt)
      (told d faults halt)
  loses_all = record { alone = alone; none_left = none_behind }

-- where every run is over the end is there, or a halt
pub concluded : (p : Plan) (run : RunName) (es : List Event) (fault : Bool) (halt : Option Halt)
    → HaltsAt fault halt → IsConcluded (facts_of p) (run ∷ [])
    (record { events = es; sink_faults = faults_by fault; halted = halt })
concluded p run es fault halt halts is =
    by_tests (is_some (replay p es).graph.end) fault (is_some halt) halts is
  where
    by_tests : (ended fault halted : Bool) → (fault ≡ true → halted ≡ true)
        → ((ended || is_faulty fault) && true) ≡ true → (ended || halted) ≡ true
    by_tests true fault halted halts is = refl
    by_tests false true halted halts is = halts refl
    by_tests false false halted halts is = absurd (cc (is))
