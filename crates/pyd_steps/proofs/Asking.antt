-- What is asked of a placer, event after event.
use Rattle.std.proofs.Common.{◌≡◌, ◌<◌, ◌≤◌, ◌+◌, ℕ, suc, Bool, get_or, length, take, take-suc, take_all, List, [], ◌∷◌, ◌++◌, append_assoc, append-nil, Option, Some, None, ◌⊎◌, inl, inr, refl, ap, sym, subst, ◌∙◌, arith}
use Rattle.std.specs.List.{All}
use Rattle.std.proofs.lemmas.List.Elements.{All-head, All-tail}
use Rattle.pyd_board.specs.declared.event.Act.{Act}
use Rattle.pyd_board.specs.declared.event.Act.TheVariants.{Place, Claim, Finish, Drop, Refine, Settle, Lose, Trim}
use Rattle.pyd_board.specs.declared.event.Event.{Event}
use Rattle.pyd_board.specs.declared.placer.Asked.{Asked}
use Rattle.pyd_board.specs.declared.placer.Asked.TheVariants.{Ended, Lost}
use Rattle.pyd_board.specs.declared.placer.Asked.TheVariants as asked
use Rattle.pyd_board.specs.Placing.{Told, placed_on}
use Rattle.pyd_runs.specs.Effects.{State, happens}
use Rattle.pyd_runs.specs.Plans.{Plan}
use Rattle.pyd_runs.specs.Replay.{after}
use Rattle.pyd_steps.specs.Placers.{Adds, AddsOr, Answers, AreAtHome, AreCalls, AreCallsOf, Asks, IsAtHome, Chooses, IsAnswered, IsNoPlace, Tells, TellsOf}
use Rattle.pyd_steps.specs.Machines.{alive_in, callee_in, home_of}

-- the calls for events behind others
calls_then : (p : Plan) (s : State) (es more : List Event) (made next : List Asked)
    → AreCalls p s es made → AreCalls p (after p s es) more next
    → AreCalls p s (es ++ more) (made ++ next)
unfolding AreCalls after
calls_then p s [] more made next are then =
    subst (AreCalls p s more) (ap (λ calls. calls ++ next) (sym are)) then
calls_then p s (e ∷ es) more made next are then = record {
  one = are.one;
  more = are.more ++ next;
  both = ap (λ calls. calls ++ next) are.both ∙ append_assoc are.one are.more next;
  first = are.first;
  behind = calls_then p (happens p s e) es more are.more next are.behind then;
}

-- the homes of events behind others
homes_then : (p : Plan) (s : State) (es more : List Event) → AreAtHome p s es
    → AreAtHome p (after p s es) more → AreAtHome p s (es ++ more)
unfolding AreAtHome after
homes_then p s [] more are then = then
homes_then p s (e ∷ es) more are then =
    (are.0, homes_then p (happens p s e) es more are.1 then)

adds_then : (First Then Both : List Asked → Type 0)
    → ((made next : List Asked) → First made → Then next → Both (made ++ next))
    → (a b c : Option (List Asked)) → Adds First a b → Adds Then b c → Adds Both a c
adds_then First Then Both join None b c one two =
    subst (λ told. Adds Then told c) one two
adds_then First Then Both join (Some a) None None one two = tt
adds_then First Then Both join (Some a) None (Some c) one two = absurd (cc (two))
adds_then First Then Both join (Some a) (Some b) None one two = tt
adds_then First Then Both join (Some a) (Some b) (Some c) one two = (
  one.0 ++ two.0,
  two.1 ∙ ap (λ calls. calls ++ two.0) one.1 ∙ append_assoc a one.0 two.0,
  join one.0 two.0 one.2 two.2,
)

-- what is asked for events, and then for more, is asked for both
pub asks_then : (p : Plan) (s : State) (es more : List Event)
    (a b c : Option (Option (List Asked))) → Asks p s es a b → Asks p (after p s es) more b c
    → Asks p s (es ++ more) a c
unfolding Asks
asks_then p s es more None None None one two = homes_then p s es more one two
asks_then p s es more None None (Some c) one two = absurd two
asks_then p s es more None (Some b) c one two = absurd one
asks_then p s es more (Some a) None c one two = absurd one
asks_then p s es more (Some a) (Some b) None one two = absurd two
asks_then p s es more (Some a) (Some b) (Some c) one two =
    adds_then (AreCalls p s es) (AreCalls p (after p s es) more) (AreCalls p s (es ++ more))
    (calls_then p s es more) a b c one two

-- no calls
nothing_adds : (Are : List Asked → Type 0) → Are [] → (a : Option (List Asked)) → Adds Are a a
nothing_adds Are none None = refl
nothing_adds Are none (Some a) = ([], sym (append-nil a), none)

-- for no events nothing is asked
pub asks_none : (p : Plan) (s : State) (a : Option (Option (List Asked))) → Asks p s [] a a
unfolding Asks AreCalls AreAtHome
asks_none p s None = tt
asks_none p s (Some a) = nothing_adds (AreCalls p s []) refl a

-- of one act
adds_more : (First Then : List Asked → Type 0)
    → ((made : List Asked) → First made → Then made)
    → (a b : Option (List Asked)) → Adds First a b → Adds Then a b
adds_more First Then so None b one = one
adds_more First Then so (Some a) None one = tt
adds_more First Then so (Some a) (Some b) one = (one.0, one.1, so one.0 one.2)

adds_or_more : (Without Otherwise : Type 0) (First Then : List Asked → Type 0)
    → (Without → Otherwise) → ((made : List Asked) → First made → Then made)
    → (a b : Option (Option (List Asked))) → AddsOr Without First a b
    → AddsOr Otherwise Then a b
adds_or_more Without Otherwise First Then without so None None one = without one
adds_or_more Without Otherwise First Then without so None (Some b) one = absurd one
adds_or_more Without Otherwise First Then without so (Some a) None one = absurd one
adds_or_more Without Otherwise First Then without so (Some a) (Some b) one =
    adds_more First Then so a b one

one_call : (p : Plan) (s : State) (e : Event) (made : List Asked) → AreCallsOf p s e.act made
    → AreCalls p s (e ∷ []) made
unfolding AreCalls
one_call p s e made are = record {
  one = made;
  more = [];
  both = sym (append-nil made);
  first = are;
  behind = refl;
}

one_home : (p : Plan) (s : State) (e : Event) → IsAtHome p s e.act → AreAtHome p s (e ∷ [])
unfolding AreAtHome
one_home p s e is = (is, tt)

-- what is asked for an act is asked for an event of it
pub asks_one : (p : Plan) (s : State) (e : Event) (act : Act) (a b : Option (Option (List Asked)))
    → e.act ≡ act → AddsOr (IsAtHome p s act) (AreCallsOf p s act) a b → Asks p s (e ∷ []) a b
unfolding Asks
asks_one p s e act a b is one =
    adds_or_more (IsAtHome p s act) (AreAtHome p s (e ∷ [])) (AreCallsOf p s act)
    (AreCalls p s (e ∷ []))
    (λ at. one_home p s e (subst (IsAtHome p s) (sym is) at))
    (λ made are. one_call p s e made
    (subst (λ act. AreCallsOf p s act made) (sym is) are))
    a b one

-- a placer was told of a Finish
pub tells_finish : (act : Act) (k attempt machine : ℕ) (a b : Option (Option (List Asked)))
    → act ≡ Finish k attempt machine
    → AddsOr (Unit {0}) (λ made. made ≡ Ended k machine ∷ []) a b → TellsOf act a b
tells_finish act k attempt machine a b is one p s e same none =
    asks_one p s e (Finish k attempt machine) a b (same ∙ is) one

-- or of a loss
pub tells_lose : (act : Act) (machine : ℕ) (a b : Option (Option (List Asked)))
    → act ≡ Lose machine → AddsOr (Unit {0}) (λ made. made ≡ Lost machine ∷ []) a b
    → TellsOf act a b
tells_lose act machine a b is one p s e same none =
    asks_one p s e (Lose machine) a b (same ∙ is) one

-- of an act no placer is told, nor is one asked
abbrev pub IsSilent : Act → Type 0
IsSilent (Place k attempt machine) = ⊥
IsSilent (Claim k attempt machine) = Unit {0}
IsSilent (Finish k attempt machine) = ⊥
IsSilent (Drop k attempt machine) = Unit {0}
IsSilent (Refine k) = Unit {0}
IsSilent (Settle k) = Unit {0}
IsSilent (Lose machine) = ⊥
IsSilent (Trim k) = Unit {0}

-- of a silent act nothing is asked
silent_adds : (p : Plan) (s : State) (act : Act) → IsSilent act
    → (a : Option (Option (List Asked))) → AddsOr (IsAtHome p s act) (AreCallsOf p s act) a a
silent_adds p s (Place k attempt machine) silent a = absurd silent
silent_adds p s (Finish k attempt machine) silent a = absurd silent
silent_adds p s (Lose machine) silent a = absurd silent
silent_adds p s (Claim k attempt machine) silent None = tt
silent_adds p s (Claim k attempt machine) silent (Some a) =
    nothing_adds (λ made. made ≡ []) refl a
silent_adds p s (Drop k attempt machine) silent None = tt
silent_adds p s (Drop k attempt machine) silent (Some a) =
    nothing_adds (λ made. made ≡ []) refl a
silent_adds p s (Refine k) silent None = tt
silent_adds p s (Refine k) silent (Some a) = nothing_adds (λ made. made ≡ []) refl a
silent_adds p s (Settle k) silent None = tt
silent_adds p s (Settle k) silent (Some a) = nothing_adds (λ made. made ≡ []) refl a
silent_adds p s (Trim k) silent None = tt
silent_adds p s (Trim k) silent (Some a) = nothing_adds (λ made. made ≡ []) refl a

-- nor is it of any other that is no Place
pub tells_other : (act : Act) (a : Option (Option (List Asked)))
    → ((x : ℕ) × (y : ℕ) × (z : ℕ) × (act ≡ Place x y z))
    ⊎ (((x : ℕ) × (y : ℕ) × (z : ℕ) × (act ≡ Claim x y z))
    ⊎ (((x : ℕ) × (y : ℕ) × (z : ℕ) × (act ≡ Drop x y z))
    ⊎ (((x : ℕ) × (act ≡ Refine x)) ⊎ (((x : ℕ) × (act ≡ Settle x)) ⊎ ((x : ℕ) × (act ≡ Trim x))))))
    → TellsOf act a a
tells_other act a (inl (x, y, z, is)) p s e same none = absurd (subst IsNoPlace is none)
tells_other act a (inr (inl (x, y, z, is))) p s e same none =
    asks_one p s e act a a same (subst (λ act. AddsOr (IsAtHome p s act) (AreCallsOf p s act) a a)
    (sym is) (silent_adds p s (Claim x y z) tt a))
tells_other act a (inr (inr (inl (x, y, z, is)))) p s e same none =
    asks_one p s e act a a same (subst (λ act. AddsOr (IsAtHome p s act) (AreCallsOf p s act) a a)
    (sym is) (silent_adds p s (Drop x y z) tt a))
tells_other act a (inr (inr (inr (inl (x, is))))) p s e same none =
    asks_one p s e act a a same (subst (λ act. AddsOr (IsAtHome p s act) (AreCallsOf p s act) a a)
    (sym is) (silent_adds p s (Refine x) tt a))
tells_other act a (inr (inr (inr (inr (inl (x, is)))))) p s e same none =
    asks_one p s e act a a same (subst (λ act. AddsOr (IsAtHome p s act) (AreCallsOf p s act) a a)
    (sym is) (silent_adds p s (Settle x) tt a))
tells_other act a (inr (inr (inr (inr (inr (x, is)))))) p s e same none =
    asks_one p s e act a a same (subst (λ act. AddsOr (IsAtHome p s act) (AreCallsOf p s act) a a)
    (sym is) (silent_adds p s (Trim x) tt a))

-- of silent events nothing is asked
pub asks_silent : (p : Plan) (s : State) (es : List Event) (a : Option (Option (List Asked)))
    → All (λ e. IsSilent e.act) es → Asks p s es a a
asks_silent p s [] a all = asks_none p s a
asks_silent p s (e ∷ es) a all =
    asks_then p s (e ∷ []) es a a a
    (asks_one p s e e.act a a refl
    (silent_adds p s e.act (All-head (λ (x : Event). IsSilent x.act) e es all) a))
    (asks_silent p (after p s (e ∷ [])) es a (All-tail (λ (x : Event). IsSilent x.act) e es all))

-- before and after it was told of the first of some events
abbrev pub TellsFirst : ℕ → List Event → Option (Option (List Asked))
    → Option (Option (List Asked)) → Type 0
TellsFirst i es told now =
    (p : Plan) (s : State) → All (λ e. IsNoPlace e.act) es → Asks p s (take i es) told now

-- of none
pub tells_none : (es : List Event) (a : Option (Option (List Asked))) → TellsFirst 0 es a a
tells_none es a p s all = asks_none p s a

-- of one more
pub tells_next : (es : List Event) (i : ℕ) (e : Event) (a b c : Option (Option (List Asked)))
    → i < length es → TellsFirst i es a b → TellsOf (get_or es i e).act b c
    → TellsFirst (i + 1) es a c
tells_next es i e a b c lt so_far next p s all =
    let x = get_or es i e in
    let next_place : i + 1 ≡ suc i = omega arith in
    subst (λ (xs : List Event). Asks p s xs a c)
    (sym (ap (λ j. take j es) next_place ∙ take-suc es i e lt))
    (asks_then p s (take i es) (x ∷ []) a b c (so_far p s all)
    (next p (after p s (take i es)) x refl (all i e lt)))

-- of all
pub tells_all : (es : List Event) (i : ℕ) (a b : Option (Option (List Asked)))
    → length es ≤ i → TellsFirst i es a b → Tells es a b
tells_all es i a b past told p s all =
    subst (λ (xs : List Event). Asks p s xs a b) (take_all i es past) (told p s all)

told_adds : (Are : List Asked → Type 0) (one : Asked) (a b : Option (List Asked))
    → Told a one b → Are (one ∷ []) → Adds Are a b
told_adds Are one None b told are = told
told_adds Are one (Some a) None told are = tt
told_adds Are one (Some a) (Some b) told are = (one ∷ [], told, are)

-- a node was placed by an answer
pub answered : (alive : List Bool) (k func machine answer : ℕ) (found : Option ℕ)
    (a b : Option (Option (List Asked))) → found ≡ Some answer → Answers k func found a b
    → machine ≡ placed_on alive answer
    → AddsOr (machine ≡ home_of alive k) (IsAnswered alive k func machine) a b
answered alive k func machine answer None a b is answers followed = absurd (cc (is))
answered alive k func machine answer (Some other) None b is answers followed = absurd answers
answered alive k func machine answer (Some other) (Some a) None is answers followed =
    absurd answers
answered alive k func machine answer (Some other) (Some a) (Some b) is answers followed =
    let same : other ≡ answer = cc (is) in
    told_adds (IsAnswered alive k func machine) (asked.Place k func other) a b answers
    (record {
      answer = other;
      made = refl;
      followed = followed ∙ ap (placed_on alive) (sym same);
    })

-- or at home
pub unanswered : (alive : List Bool) (k func machine : ℕ) (found : Option ℕ)
    (a b : Option (Option (List Asked))) → found ≡ None → Answers k func found a b
    → machine ≡ home_of alive k
    → AddsOr (machine ≡ home_of alive k) (IsAnswered alive k func machine) a b
unanswered alive k func machine None None None is answers at = at
unanswered alive k func machine None None (Some b) is answers at = absurd answers
unanswered alive k func machine None (Some a) b is answers at = absurd answers
unanswered alive k func machine (Some other) a b is answers at = absurd (cc (is))

-- so a machine was chosen
pub chooses : (p : Plan) (s : State) (alive : List Bool) (k func machine : ℕ)
    (a b : Option (Option (List Asked))) → alive ≡ alive_in p s → func ≡ callee_in s k
    → AddsOr (machine ≡ home_of alive k) (IsAnswered alive k func machine) a b
    → Chooses p s k machine a b
chooses p s alive k func machine a b lives calls one e attempt is =
    asks_one p s e (Place k attempt machine) a b is
    (subst (λ alive. AddsOr (machine ≡ home_of alive k)
    (IsAnswered alive k (callee_in s k) machine) a b) lives
    (subst (λ func. AddsOr (machine ≡ home_of alive k) (IsAnswered alive k func machine) a b)
    calls one))
