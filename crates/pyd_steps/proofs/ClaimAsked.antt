-- What a claim and a finish append behind losses, and what is asked of a placer then.
use Rattle.std.proofs.Common.{◌≡◌, ℕ, List, [], ◌∷◌, ◌++◌, drop, length, Bool, Option, Result, Ok, Err, IfOk, OnErr, ap, subst, ◌∙◌}
use Rattle.std.specs.List.{All}
use Rattle.std.proofs.lemmas.List.Elements.{All-append, All-cons, All-nil}
use Rattle.pyd_board.specs.declared.event.Act.TheVariants.{Claim}
use Rattle.pyd_board.specs.declared.event.Event.{Event}
use Rattle.pyd_board.specs.declared.placer.Asked.{Asked}
use Rattle.pyd_board.specs.declared.seat.Ticket.{Ticket}
use Rattle.pyd_board.specs.declared.seat.Who.{Who}
use Rattle.pyd_boards.specs.Boards.{entry}
use Rattle.pyd_boards.specs.Calls.{claim_entries}
use Rattle.pyd_boards.specs.declared.answers.Claimed.{Claimed}
use Rattle.pyd_boards.specs.declared.answers.Claimed.TheVariants as claimed
use Rattle.pyd_boards.specs.declared.answers.Finished.{Finished}
use Rattle.pyd_boards.specs.declared.answers.Finished.TheVariants as finished
use Rattle.pyd_ir.specs.declared.job.Job.{Job}
use Rattle.pyd_runs.specs.Following.{BeginningLaw}
use Rattle.pyd_core.specs.declared.keeper.Core.{Core}
use Rattle.pyd_core.specs.Cores.{state_of}
use Rattle.pyd_core.specs.Finishing.{act_of}
use Rattle.pyd_core.specs.Steps.{ComesBy, Makes, Stays}
use Rattle.pyd_steps.specs.Claiming.{Claims, ClaimsNow, answer_in}
use Rattle.pyd_steps.specs.Losses.{losses_first}
use Rattle.pyd_steps.specs.Placers.{AsksBetween, IsNoPlace, Tells}
use Rattle.pyd_steps.proofs.Asked.{asks_nothing, asks_on, asks_still, asks_told, losses_no_place}
use Rattle.pyd_steps.proofs.Asking.{IsSilent}
use Rattle.pyd_steps.proofs.FirstLosses.{all_losses}
use Rattle.pyd_steps.proofs.Joined.{comes_on, makes_then, state_then}

-- of a claim's own entries no placer is told
claim_silent : (answer : Claimed Job) (ticket : Ticket) (who : Who) (events : List Event)
    → All (λ e. IsSilent e.act) (claim_entries answer ticket who events)
claim_silent (claimed.Job job) ticket who events =
    All-cons (λ (e : Event). IsSilent e.act)
    (entry events who.seat (Claim ticket.node ticket.attempt who.machine)) [] tt
    (All-nil (λ (e : Event). IsSilent e.act))
claim_silent claimed.Over ticket who events = All-nil (λ (e : Event). IsSilent e.act)
claim_silent (claimed.Lost back) ticket who events = All-nil (λ (e : Event). IsSilent e.act)
claim_silent claimed.Stale ticket who events = All-nil (λ (e : Event). IsSilent e.act)

-- a claim behind the losses that were due
pub claims_then : (b c d : Core) (halted : Bool) (ticket : Ticket) (who : Who)
    (answer : Claimed Job) → ComesBy b c (losses_first who.seat b)
    → ClaimsNow halted c d ticket who answer → Claims halted b d ticket who answer
claims_then b c d halted ticket who answer comes now =
    let first = losses_first who.seat b in
    record {
      answers = now.answers
          ∙ ap (λ s. answer_in halted s ticket who) (state_then b c first comes);
      comes = subst (λ (js : List Event). ComesBy b d (first ++ claim_entries answer ticket who js))
          comes.journal
          (comes_on b c first comes d (claim_entries answer ticket who c.log.journal.items)
          now.comes);
    }

-- and what is asked
pub claims_asked : BeginningLaw → (b c d : Core) (halted : Bool) (ticket : Ticket) (who : Who)
    {E : Type 0} (t u : Option (Option (List Asked))) (r : Result (Claimed Job) E)
    → ComesBy b c (losses_first who.seat b) → AsksBetween b c t u
    → IfOk r (ClaimsNow halted c d ticket who) → OnErr r (Stays c d) → AsksBetween b d t u
claims_asked beginning b c d halted ticket who t u (Ok answer) comes one now stays =
    let own = claim_entries answer ticket who c.log.journal.items in
    asks_on b c d (losses_first who.seat b) own t u u beginning comes one now.comes
    (asks_nothing c d own u now.comes
    (claim_silent answer ticket who c.log.journal.items))
claims_asked beginning b c d halted ticket who t u (Err e) comes one now stays =
    asks_on b c d (losses_first who.seat b) [] t u u beginning comes one stays
    (asks_still c d u stays)

-- a finish's own entry is no Place
finish_none : (answer : Finished) (node attempt machine : ℕ)
    → IsNoPlace (act_of answer node attempt machine)
finish_none finished.Kept node attempt machine = tt
finish_none finished.Dropped node attempt machine = tt

-- nor are the losses before it
first_none : (b : Core) (seat : ℕ) → All (λ (e : Event). IsNoPlace e.act) (losses_first seat b)
first_none b seat = losses_no_place (losses_first seat b) (all_losses seat (state_of b))

-- what is asked of a finish
pub finish_asked : (b c d : Core) (node attempt machine seat : ℕ) {E : Type 0}
    (t u : Option (Option (List Asked))) (entries : List Event) (r : Result Finished E)
    → ComesBy b c (losses_first seat b)
    → IfOk r (λ answer. Makes c d seat (act_of answer node attempt machine))
    → OnErr r (Stays c d) → entries ≡ drop (length b.log.journal.items) d.log.journal.items
    → Tells entries t u → AsksBetween b d t u
finish_asked b c d node attempt machine seat t u entries (Ok answer) losses made stays are told =
    let first = losses_first seat b in
    let act = act_of answer node attempt machine in
    let own : Event = entry (b.log.journal.items ++ first) seat act in
    asks_told b d (first ++ own ∷ []) entries t u (makes_then b c first losses d seat act made) are
    (All-append (λ (e : Event). IsNoPlace e.act) first (own ∷ []) (first_none b seat)
    (All-cons (λ (e : Event). IsNoPlace e.act) own [] (finish_none answer node attempt machine)
    (All-nil (λ (e : Event). IsNoPlace e.act)))) told
finish_asked b c d node attempt machine seat t u entries (Err e) losses made stays are told =
    let first = losses_first seat b in
    asks_told b d (first ++ []) entries t u (comes_on b c first losses d [] stays) are
    (All-append (λ (e : Event). IsNoPlace e.act) first [] (first_none b seat)
    (All-nil (λ (e : Event). IsNoPlace e.act))) told
