-- What is asked of a placer as a step is made.
use Rattle.std.proofs.Common.{Global, vec_len, ◌≡◌, ◌⊎◌, ℕ, Bool, List, [], ◌∷◌, drop, take, take_all, length, length-drop, ◌-◌, Option, Result, Ok, Err, IfOk, OnErr, inl, inr, refl, ap, sym, subst, ◌∙◌, arith}
use Rattle.std.specs.Prelude.{Vec}
use Rattle.std.proofs.lemmas.List.{append-nil}
use Rattle.std.proofs.lemmas.List.Elements.{All-nil, All-cons, All-same, All-weaker}
use Rattle.pyd_board.specs.declared.event.Act.{Act}
use Rattle.pyd_board.specs.declared.event.Act.TheVariants.{Place, Claim, Finish, Drop, Refine, Settle, Lose, Trim}
use Rattle.pyd_board.specs.declared.event.Event.{Event}
use Rattle.pyd_board.specs.declared.placer.Asked.{Asked}
use Rattle.pyd_board.specs.declared.seat.Who.{Who}
use Rattle.pyd_boards.specs.Calls.{IsIn, kind_of, loses, places, refines, trims}
use Rattle.pyd_boards.specs.declared.answers.Moved.{Moved}
use Rattle.pyd_runs.specs.Enabled.{IsLoss}
use Rattle.pyd_runs.specs.Following.{BeginningLaw}
use Rattle.pyd_runs.specs.Plans.{Plan}
use Rattle.pyd_core.specs.declared.keeper.Core.{Core}
use Rattle.pyd_core.specs.Cores.{IsCore, plan_of, state_of}
use Rattle.pyd_core.specs.Facts.{facts_of}
use Rattle.pyd_core.specs.Steps.{ComesBy, Stays}
use Rattle.pyd_steps.specs.declared.settling.Headed.{Headed}
use Rattle.pyd_steps.specs.declared.settling.Headed.TheVariants as headed
use Rattle.pyd_steps.specs.declared.told.Told.{Told}
use Rattle.pyd_steps.specs.Losses.{losses_first}
use Rattle.pyd_steps.specs.Placers.{AsksBetween, IsNoPlace, Tells}
use Rattle.pyd_steps.specs.Refining.{RefinesFirst}
use Rattle.pyd_steps.specs.Settling.{Fails, HeadMoves, SettlesAndTrims}
use Rattle.pyd_steps.specs.Stepping.{GoesOn}
use Rattle.pyd_steps.proofs.Asking.{IsSilent}
use Rattle.pyd_steps.proofs.Asked.{asks_nothing, asks_on, asks_still, asks_told}
use Rattle.pyd_steps.proofs.FirstLosses.{all_losses}

-- what stands behind a journal that was, as a slice of the journal that is
pub all_behind : (was : Vec Event Global) (now slice : List Event) (n : ℕ) → slice ≡ now
    → n ≡ vec_len was
    → take (length slice - n) (drop n slice) ≡ drop (length was.items) now
all_behind was now slice n is count =
    let all : vec_len was ≡ length was.items = omega (arith, was.ok.0) in
    take_all (length slice - n) (drop n slice)
    (let long = length-drop n slice in omega (arith, long))
    ∙ ap (drop n) is ∙ ap (λ (i : ℕ). drop i now) (count ∙ all)

-- nothing is asked where nothing is done
pub asks_itself : (c : Core) (t : Option (Option (List Asked))) → IsCore c → AsksBetween c c t t
asks_itself c t core = asks_still c c t (record {
  core = core;
  plan = refl;
  journal = sym (append-nil c.log.journal.items);
})

-- an act of another kind is no Place
other_act : (act : Act) → (kind_of act ≡ places → ⊥) → IsNoPlace act
other_act (Place k attempt machine) other = other refl
other_act (Claim k attempt machine) other = tt
other_act (Finish k attempt machine) other = tt
other_act (Drop k attempt machine) other = tt
other_act (Refine k) other = tt
other_act (Settle k) other = tt
other_act (Lose machine) other = tt
other_act (Trim k) other = tt

-- a Trim and a loss are none
trim_or_loss : (p : Plan) (e : Event)
    → IsIn (facts_of p) trims 0 e ⊎ IsIn (facts_of p) loses 0 e → IsNoPlace e.act
trim_or_loss p e (inl is) =
    other_act e.act (λ place. (let trim = is.of_kind in cc (place, trim)))
trim_or_loss p e (inr is) =
    other_act e.act (λ place. (let loss = is.of_kind in cc (place, loss)))

-- of a Refine no placer is told
refine_silent : (act : Act) → kind_of act ≡ refines → IsSilent act
refine_silent (Refine k) is = tt
refine_silent (Place k attempt machine) is = absurd (cc (is))
refine_silent (Claim k attempt machine) is = absurd (cc (is))
refine_silent (Finish k attempt machine) is = absurd (cc (is))
refine_silent (Drop k attempt machine) is = absurd (cc (is))
refine_silent (Settle k) is = absurd (cc (is))
refine_silent (Lose machine) is = absurd (cc (is))
refine_silent (Trim k) is = absurd (cc (is))

-- a loss is no Place
loss_is_none : (act : Act) → IsLoss act → IsNoPlace act
loss_is_none (Lose machine) is = tt
loss_is_none (Place k attempt machine) is = absurd is
loss_is_none (Claim k attempt machine) is = absurd is
loss_is_none (Finish k attempt machine) is = absurd is
loss_is_none (Drop k attempt machine) is = absurd is
loss_is_none (Refine k) is = absurd is
loss_is_none (Settle k) is = absurd is
loss_is_none (Trim k) is = absurd is

module _ (b c : Core) (t u : Option (Option (List Asked))) where
  -- the placer was told of the losses that were due
  pub losses_told : (seat : ℕ) (entries : List Event) → ComesBy b c (losses_first seat b)
      → entries ≡ drop (length b.log.journal.items) c.log.journal.items → Tells entries t u
      → AsksBetween b c t u
  losses_told seat entries comes are told =
      asks_told b c (losses_first seat b) entries t u comes are
      (All-weaker (λ (e : Event). IsLoss e.act) (λ (e : Event). IsNoPlace e.act)
      (λ e loss. loss_is_none e.act loss) (losses_first seat b) (all_losses seat (state_of b)))
      told

  module _ (seat : ℕ) (told now : Told) (h : Headed) (moves : HeadMoves b c seat told now h) where
    -- and of a head that was settled, and what was trimmed
    pub settled_told : h ≡ headed.Settled → (entries : List Event)
        → entries ≡ drop (length b.log.journal.items) c.log.journal.items → Tells entries t u
        → AsksBetween b c t u
    settled_told settled entries are calls =
        let is : SettlesAndTrims b c seat told now
        = subst (HeadMoves b c seat told now) settled moves in
        let p = plan_of b in
        let kind = is.settles.is_settle.of_kind in
        asks_told b c is.own entries t u is.comes are
        (All-same (λ (e : Event). IsNoPlace e.act) is.own
        (is.settles.settled ∷ is.settles.more) is.settles.acts
        (All-cons (λ (e : Event). IsNoPlace e.act) is.settles.settled is.settles.more
        (other_act is.settles.settled.act (λ place. cc (place, kind)))
        (All-weaker
        (λ (e : Event). IsIn (facts_of p) trims 0 e ⊎ IsIn (facts_of p) loses 0 e)
        (λ (e : Event). IsNoPlace e.act) (trim_or_loss p) is.settles.more is.settles.are_trims)))
        calls

-- where the sink failed nothing is asked
pub failed_asks : (b c : Core) (t : Option (Option (List Asked))) (seat : ℕ) (told now : Told)
    (h : Headed) → HeadMoves b c seat told now h → h ≡ headed.SinkFault → AsksBetween b c t t
failed_asks b c t seat told now h moves failed =
    let is : Fails b c told now = subst (HeadMoves b c seat told now) failed moves in
    asks_still b c t is.stays

-- nor is it where a composite was refined
pub refined_asks : (b c : Core) (t : Option (Option (List Asked))) (seat : ℕ)
    → RefinesFirst b c seat → AsksBetween b c t t
refined_asks b c t seat is =
    asks_nothing b c is.own t is.comes
    (All-same (λ (e : Event). IsSilent e.act) is.own (is.refines.refined ∷ []) is.refines.acts
    (All-cons (λ (e : Event). IsSilent e.act) is.refines.refined []
    (refine_silent is.refines.refined.act is.refines.is_refine.of_kind)
    (All-nil (λ (e : Event). IsSilent e.act))))

-- what was asked for losses, and then in a step where none is due
pub asks_then_on : {E : Type 0} → BeginningLaw → (b c d : Core) (who : Who) (halted : Bool)
    (told now : Told) (t u v : Option (Option (List Asked))) (r : Result Moved E)
    → ComesBy b c (losses_first who.seat b) → AsksBetween b c t u
    → IfOk r (GoesOn halted c d who told now) → OnErr r (Stays c d) → AsksBetween c d u v
    → AsksBetween b d t v
asks_then_on beginning b c d who halted told now t u v (Ok answer) comes one on stays two =
    asks_on b c d (losses_first who.seat b) on.own t u v beginning comes one on.comes two
asks_then_on beginning b c d who halted told now t u v (Err e) comes one on stays two =
    asks_on b c d (losses_first who.seat b) [] t u v beginning comes one stays two
