-- What is asked of a placer as one core comes from another.
use Rattle.std.proofs.Common.{◌≡◌, ℕ, List, [], ◌∷◌, ◌++◌, append_assoc, append-nil, drop, drop_at, length, Option, refl, ap, sym, subst, ◌∙◌, arith}
use Rattle.std.specs.List.{All}
use Rattle.std.proofs.lemmas.List.{append_cancel_left}
use Rattle.std.proofs.lemmas.List.Elements.{All-weaker}
use Rattle.pyd_board.specs.declared.event.Act.{Act}
use Rattle.pyd_board.specs.declared.event.Act.TheVariants.{Place, Claim, Finish, Drop, Refine, Settle, Lose, Trim}
use Rattle.pyd_board.specs.declared.event.Event.{Event}
use Rattle.pyd_board.specs.declared.placer.Asked.{Asked}
use Rattle.pyd_boards.specs.Boards.{entry}
use Rattle.pyd_boards.specs.Calls.{kind_of, places}
use Rattle.pyd_runs.specs.Enabled.{IsLoss}
use Rattle.pyd_runs.specs.Following.{BeginningLaw}
use Rattle.pyd_runs.specs.Replay.{after, replay}
use Rattle.pyd_core.specs.declared.keeper.Core.{Core}
use Rattle.pyd_core.specs.Cores.{plan_of, state_of}
use Rattle.pyd_core.specs.Steps.{ComesBy, Makes, Stays}
use Rattle.pyd_steps.specs.Placers.{Asks, AsksBetween, Chooses, IsNoPlace, Tells}
use Rattle.pyd_steps.proofs.Asking.{IsSilent, asks_none, asks_silent, asks_then}

-- what the events ask that were appended
pub asks_by : (b c : Core) (es : List Event) (t u : Option (Option (List Asked)))
    → ComesBy b c es → Asks (plan_of b) (state_of b) es t u → AsksBetween b c t u
asks_by b c es t u comes asks more is =
    subst (λ (xs : List Event). Asks (plan_of b) (state_of b) xs t u)
    (append_cancel_left b.log.journal.items es more (sym comes.journal ∙ is)) asks

-- of events of which no placer is told nothing is asked
pub asks_nothing : (b c : Core) (es : List Event) (t : Option (Option (List Asked)))
    → ComesBy b c es → All (λ e. IsSilent e.act) es → AsksBetween b c t t
asks_nothing b c es t comes silent =
    asks_by b c es t t comes (asks_silent (plan_of b) (state_of b) es t silent)

-- nor is it where nothing was appended
pub asks_still : (b c : Core) (t : Option (Option (List Asked))) → Stays b c → AsksBetween b c t t
asks_still b c t stays =
    asks_nothing b c [] t stays (λ k d lt. absurd (omega (arith, lt)))

-- the state of a core that comes from another
state_behind : (b c : Core) (es : List Event) → BeginningLaw → ComesBy b c es
    → state_of c ≡ after (plan_of b) (state_of b) es
state_behind b c es beginning comes =
    ap (λ p. replay p c.log.journal.items) comes.plan
    ∙ ap (replay (plan_of b)) comes.journal
    ∙ (beginning (plan_of b) b.log.journal.items es).state

-- what was asked, and then more
pub asks_on : (b c d : Core) (es more : List Event) (t u v : Option (Option (List Asked)))
    → BeginningLaw → ComesBy b c es → AsksBetween b c t u → ComesBy c d more
    → AsksBetween c d u v → AsksBetween b d t v
asks_on b c d es more t u v beginning first one then two =
    asks_by b d (es ++ more) t v (record {
      core = then.core;
      plan = then.plan ∙ first.plan;
      journal = then.journal ∙ ap (λ xs. xs ++ more) first.journal
          ∙ append_assoc b.log.journal.items es more;
    }) (asks_then (plan_of b) (state_of b) es more t u v (one es first.journal)
    (subst (λ s. Asks (plan_of b) s more u v) (state_behind b c es beginning first)
    (subst (λ p. Asks p (state_of c) more u v) first.plan (two more then.journal))))

-- the placer was told of what was appended, of which nothing is a Place
pub asks_told : (b c : Core) (es entries : List Event) (t u : Option (Option (List Asked)))
    → ComesBy b c es → entries ≡ drop (length b.log.journal.items) c.log.journal.items
    → All (λ e. IsNoPlace e.act) es → Tells entries t u → AsksBetween b c t u
asks_told b c es entries t u comes are none told =
    let same : entries ≡ es
    = are ∙ ap (drop (length b.log.journal.items)) comes.journal
    ∙ drop_at b.log.journal.items es (length b.log.journal.items) refl in
    asks_by b c es t u comes
    (subst (λ (xs : List Event). Asks (plan_of b) (state_of b) xs t u) same
    (told (plan_of b) (state_of b) (subst (All (λ (e : Event). IsNoPlace e.act)) (sym same) none)))

-- a node was placed on the machine that was chosen
pub asks_placed : (b c : Core) (seat k attempt machine : ℕ) (t u : Option (Option (List Asked)))
    → Makes b c seat (Place k attempt machine) → Chooses (plan_of b) (state_of b) k machine t u
    → AsksBetween b c t u
asks_placed b c seat k attempt machine t u makes chooses =
    let e = entry b.log.journal.items seat (Place k attempt machine) in
    asks_by b c (e ∷ []) t u makes (chooses e attempt refl)

-- of a core that is as it was nothing is asked
pub asks_same : (c : Core) (t : Option (Option (List Asked))) → AsksBetween c c t t
asks_same c t es is =
    let entries = c.log.journal.items in
    let none : [] ≡ es
    = append_cancel_left entries [] es (append-nil entries ∙ is) in
    subst (λ (xs : List Event). Asks (plan_of c) (state_of c) xs t t) none
    (asks_none (plan_of c) (state_of c) t)

-- a loss is no Place, and nor is an act of another kind
loss_no_place : (act : Act) → IsLoss act → IsNoPlace act
loss_no_place (Lose machine) is = tt
loss_no_place (Place k attempt machine) is = is
loss_no_place (Claim k attempt machine) is = tt
loss_no_place (Finish k attempt machine) is = tt
loss_no_place (Drop k attempt machine) is = tt
loss_no_place (Refine k) is = tt
loss_no_place (Settle k) is = tt
loss_no_place (Trim k) is = tt

pub losses_no_place : (es : List Event) → All (λ (e : Event). IsLoss e.act) es
    → All (λ (e : Event). IsNoPlace e.act) es
losses_no_place es are =
    All-weaker (λ (e : Event). IsLoss e.act) (λ (e : Event). IsNoPlace e.act)
    (λ e is. loss_no_place e.act is) es are

pub other_no_place : (act : Act) → (kind_of act ≡ places → ⊥) → IsNoPlace act
other_no_place (Place k attempt machine) other = other refl
other_no_place (Claim k attempt machine) other = tt
other_no_place (Finish k attempt machine) other = tt
other_no_place (Drop k attempt machine) other = tt
other_no_place (Refine k) other = tt
other_no_place (Settle k) other = tt
other_no_place (Lose machine) other = tt
other_no_place (Trim k) other = tt
