-- What a step answers, and the numbers of its tickets.
use Rattle.std.proofs.Common.{◌≡◌, ◌<◌, ◌^◌, ◌⊎◌, inl, inr, ℕ, List, ◌++◌, append_assoc, Bool, Option, Some, is_some, Result, Ok, Err, OnErr, refl, ap, sym, subst, ◌∙◌, arith}
use Rattle.std.specs.List.{All}
use Rattle.std.proofs.lemmas.List.Elements.{All-nil, All-weaker}
use Rattle.pyd_board.specs.declared.event.Act.{Act}
use Rattle.pyd_board.specs.declared.event.Act.TheVariants.{Place, Claim, Finish, Drop, Refine, Settle, Lose, Trim}
use Rattle.pyd_board.specs.declared.event.Event.{Event}
use Rattle.pyd_board.specs.declared.history.Halt.{Halt}
use Rattle.pyd_board.specs.declared.kept.RunName.{RunName}
use Rattle.pyd_board.specs.declared.seat.Ticket.{Ticket}
use Rattle.pyd_board.specs.declared.seat.Who.{Who}
use Rattle.pyd_boards.specs.declared.answers.Moved.{Moved}
use Rattle.pyd_boards.specs.declared.answers.Moved.TheVariants as moved
use Rattle.pyd_boards.specs.Boards.{IsSeatIn}
use Rattle.pyd_boards.specs.Calls.{GoesOnBy, kind_of, number_of, places}
use Rattle.pyd_boards.specs.Moves.{AreNumbered, CouldPlace, PlacesIn, RefinesIn, SettlesIn, moved_tickets}
use Rattle.pyd_runs.specs.Facts.{NumberLaw, node_of}
use Rattle.pyd_runs.specs.Replay.{IsLegal, replay}
use Rattle.pyd_runs.proofs.Beginnings.{goes_behind}
use Rattle.pyd_core.specs.declared.keeper.Core.{Core}
use Rattle.pyd_core.specs.Cores.{IsCore, plan_of, state_of}
use Rattle.pyd_core.specs.Facts.{NextLaw, facts_of, may_come}
use Rattle.pyd_steps.specs.declared.told.Told.{Told}
use Rattle.pyd_steps.specs.Losses.{events_behind, losses_first}
use Rattle.pyd_steps.specs.Stepping.{Steps}
use Rattle.pyd_cluster.specs.Keeping.{fault_by, faults_of, halt_by}
use Rattle.pyd_cluster.proofs.Goings.{goes_on_by, legal_behind, told}
use Rattle.pyd_cluster.proofs.Kept.{alike_behind, losses_are}
use Rattle.pyd_cluster.proofs.Movings.{StepLaws, step_by_seat, still_by}
use Rattle.pyd_cluster.proofs.Takings.{HaltsAt}

-- a fact that is so is so of any error
pub on_err : {A E : Type 0} (result : Result A E) (P : Type 0) → P → OnErr result P
on_err (Ok answer) P is = tt
on_err (Err e) P is = is

-- a step is the same by another test of the halt
pub steps_by : (c d : Core) (who : Who) (old now : Told) (answer : Moved) (halted other : Bool)
    → halted ≡ other → Steps halted c d who old now answer → Steps other c d who old now answer
steps_by c d who old now answer halted other same is =
    subst (λ b. Steps b c d who old now answer) same is

-- the history goes on by a step
pub step_goes_on : NextLaw → StepLaws → (c d : Core) → IsCore c → (run : RunName)
    (fault : Bool) (halt : Option Halt) → HaltsAt fault halt → (who : Who)
    → IsSeatIn c.setup who → (old now : Told) (answer : Moved)
    → Steps (is_some halt) c d who old now answer
    → GoesOnBy (may_come (plan_of c)) who.seat (told c (faults_of fault) halt)
    (told d (faults_of (fault_by answer fault)) (halt_by answer halt))
step_goes_on next laws c d core run fault halt halts who worker old now answer is =
    goes_on_by next c d who.seat (losses_first who.seat c ++ is.own) (faults_of fault)
    (faults_of (fault_by answer fault)) halt (halt_by answer halt) core is.comes
    (step_by_seat (is_some halt) c d who old now answer is)
    (still_by laws c d core run fault halt halts who worker old now is.own answer is.moves)

-- a Place names its node
names_node : (act : Act) → kind_of act ≡ places → node_of act ≡ Some (number_of act)
names_node (Place k attempt machine) is = refl
names_node (Claim k attempt machine) is = refl
names_node (Finish k attempt machine) is = refl
names_node (Drop k attempt machine) is = refl
names_node (Refine k) is = refl
names_node (Settle k) is = refl
names_node (Trim k) is = refl
names_node (Lose machine) is = absurd (cc (is))

module _ (law : NumberLaw) (c d : Core) (core : IsCore c) (halted : Bool) (who : Who)
    (old now : Told) where
  abbrev es : List Event
  es = events_behind who.seat c

  -- a node that could be placed has a number that was given
  could_number : IsLegal (plan_of c) es → (t : Ticket)
      → CouldPlace (facts_of (plan_of c)) (may_come (plan_of c)) 0 es t
      → t.node < (state_of c).graph.next
  could_number legal t could =
      let p = plan_of c in
      let given : t.node < (replay p es).graph.next
      = law p es could.0 t.node core.runnable legal could.1.0.1
      (names_node could.0.act could.1.1.of_kind ∙ ap (λ k. Some k) could.1.2) in
      subst (λ next. t.node < next)
      (alike_behind p c.log.journal.items (losses_first who.seat c) (losses_are who.seat c)).next
      given

  -- so have the tickets of what was done
  thing_numbered : IsLegal (plan_of c) es → (own : List Event) (tickets : List Ticket)
      → SettlesIn (facts_of (plan_of c)) (may_come (plan_of c)) 0 es own tickets
      ⊎ RefinesIn (facts_of (plan_of c)) (may_come (plan_of c)) 0 es own tickets
      ⊎ PlacesIn (facts_of (plan_of c)) (may_come (plan_of c)) 0 es own tickets
      → All (λ t. t.node < (state_of c).graph.next) tickets
  thing_numbered legal own tickets (inl settles) =
      subst (All (λ (t : Ticket). t.node < (state_of c).graph.next)) (sym settles.answers)
      (All-nil (λ (t : Ticket). t.node < (state_of c).graph.next))
  thing_numbered legal own tickets (inr (inl refines)) =
      subst (All (λ (t : Ticket). t.node < (state_of c).graph.next)) (sym refines.answers)
      (All-nil (λ (t : Ticket). t.node < (state_of c).graph.next))
  thing_numbered legal own tickets (inr (inr placed)) =
      All-weaker (CouldPlace (facts_of (plan_of c)) (may_come (plan_of c)) 0 es)
      (λ (t : Ticket). t.node < (state_of c).graph.next) (could_number legal) tickets placed.from

  -- the tickets of a step have numbers that were given
  pub step_numbered : (n : ℕ) → n ≡ (state_of c).graph.next → n < 2 ^ 58 → (answer : Moved)
      → Steps halted c d who old now answer → AreNumbered (moved_tickets answer)
  step_numbered n next few moved.Over is = All-nil (λ (t : Ticket). t.node < 2 ^ 58)
  step_numbered n next few moved.Lost is = All-nil (λ (t : Ticket). t.node < 2 ^ 58)
  step_numbered n next few moved.Nothing is = All-nil (λ (t : Ticket). t.node < 2 ^ 58)
  step_numbered n next few moved.SinkFault is = All-nil (λ (t : Ticket). t.node < 2 ^ 58)
  step_numbered n next few (moved.Did tickets) is =
      let legal : IsLegal (plan_of c) es
      = (goes_behind (plan_of c) es is.own).beginning
      (subst (IsLegal (plan_of c))
      (sym (append_assoc c.log.journal.items (losses_first who.seat c) is.own))
      (legal_behind c d (losses_first who.seat c ++ is.own) is.comes)) in
      All-weaker (λ (t : Ticket). t.node < (state_of c).graph.next)
      (λ (t : Ticket). t.node < 2 ^ 58) (λ t low. omega (arith, low, next, few)) tickets.items
      (thing_numbered legal is.own tickets.items is.moves.1.thing)
