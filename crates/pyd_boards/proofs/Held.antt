-- Which claims a seat holds after further events.
use Rattle.std.proofs.Common.{◌≡◌, ◌≢◌, ℕ, ◌+◌, ◌==◌, ◌&&◌, List, [], ◌∷◌, ◌++◌, Bool, true, false, true≢false, cond, refl, sym, ap, ◌∙◌, arith, append_assoc, ne_eqb, eq-eqb}
use Rattle.std.specs.List.{All, count_by}
use Rattle.std.proofs.lemmas.List.Elements.{All-nil, All-cons, All-head, All-tail, All-same, All-append}
use Rattle.std.proofs.lemmas.List.Sums.{sum_by-cons}
use Rattle.pyd_board.specs.declared.event.Act.TheVariants.{Claim}
use Rattle.pyd_board.specs.declared.event.Event.{Event}
use Rattle.pyd_board.specs.declared.history.History.{History}
use Rattle.pyd_board.specs.declared.seat.Who.{Who}
use Rattle.pyd_board.specs.Histories.{entries, entries_of, AllBy, Extends, ExtendsBy}
use Rattle.pyd_boards.specs.Boards.{ClaimAfter, Holds, entry, is_release, lets_go}
use Rattle.pyd_boards.specs.Holding.{HoldsNone, is_claim}
use Rattle.pyd_board.proofs.Extending.{entries_added}

-- no release of a claim is among events that another seat made
abbrev pub Unreleased : ℕ → ClaimAfter → List Event → Type 0
Unreleased seat claim es = All (λ e. is_release seat claim e ≡ false) es

pub unreleased_by : (seat other : ℕ) (claim : ClaimAfter) → other ≢ seat → (es : List Event) → AllBy other es → Unreleased seat claim es
unreleased_by seat other claim apart [] by = All-nil (λ (e : Event). is_release seat claim e ≡ false)
unreleased_by seat other claim apart (e ∷ es) by =
    let away : (e.by == seat) ≡ false = ne_eqb e.by seat (λ same. apart (sym (All-head (λ (x : Event). x.by ≡ other) e es by) ∙ same)) in
    All-cons (λ (x : Event). is_release seat claim x ≡ false) e es
    (ap (λ (b : Bool). b && lets_go claim.node claim.attempt e.act) away)
    (unreleased_by seat other claim apart es (All-tail (λ (x : Event). x.by ≡ other) e es by))

none_first : (b : Bool) (n : ℕ) → cond {A = ℕ} b 1 0 + n ≡ 0 → b ≡ false
none_first true n e = absurd (omega (arith, e))
none_first false n e = refl

none_later : (b : Bool) (n : ℕ) → cond {A = ℕ} b 1 0 + n ≡ 0 → n ≡ 0
none_later true n e = omega (arith, e)
none_later false n e = omega (arith, e)

-- nor among events none of which is the seat's
pub unreleased_without : (seat : ℕ) (claim : ClaimAfter) (es : List Event) → entries seat es ≡ 0 → Unreleased seat claim es
unreleased_without seat claim [] none = All-nil (λ (e : Event). is_release seat claim e ≡ false)
unreleased_without seat claim (e ∷ es) none =
    let split : cond {A = ℕ} (e.by == seat) 1 0 + count_by (λ (x : Event). x.by == seat) es ≡ 0 = sym (sum_by-cons (λ (x : Event). cond (x.by == seat) 1 0) e es) ∙ none in
    All-cons (λ (x : Event). is_release seat claim x ≡ false) e es
    (ap (λ (b : Bool). b && lets_go claim.node claim.attempt e.act) (none_first (e.by == seat) (count_by (λ (x : Event). x.by == seat) es) split))
    (unreleased_without seat claim es (none_later (e.by == seat) (count_by (λ (x : Event). x.by == seat) es) split))

-- a claim is held after further events that don't release it
pub held_on : (who : Who) (claim : ClaimAfter) (old new more : List Event) → new ≡ old ++ more → Unreleased who.seat claim more → Holds who claim old → Holds who claim new
held_on who claim old new more is kept h = record {
  since = h.since ++ more;
  claimed = is ∙ (ap (λ z. z ++ more) h.claimed ∙ append_assoc claim.before (entry claim.before who.seat (Claim claim.node claim.attempt who.machine) ∷ h.since) more);
  held = All-append (λ (e : Event). is_release who.seat claim e ≡ false) h.since more h.held kept;
}

-- so it is after another seat's events
pub held_after_others : (who : Who) (claim : ClaimAfter) (seat : ℕ) (old new : History) → seat ≢ who.seat → ExtendsBy seat old new → Holds who claim old.events → Holds who claim new.events
held_after_others who claim seat old new apart more h =
    held_on who claim old.events new.events more.extends.events.0 more.extends.events.1
    (unreleased_by who.seat seat claim apart more.extends.events.0 more.alone) h

-- and wherever the seat has no further entry
pub held_meanwhile : (who : Who) (claim : ClaimAfter) (old new : History) → Extends old new → entries_of who.seat new ≡ entries_of who.seat old → Holds who claim old.events → Holds who claim new.events
held_meanwhile who claim old new more same h =
    let added = entries_added who.seat old new more in
    let none : entries who.seat more.events.0 ≡ 0 = omega (arith, same, added) in
    held_on who claim old.events new.events more.events.0 more.events.1
    (unreleased_without who.seat claim more.events.0 none) h

-- where an element of two lists one behind the other stands: in the first, or in the second
pub data Stands {A : Type 0} (x : A) (before behind first second : List A) : Type 0 where
  in_first : (rest : List A) → first ≡ before ++ (x ∷ rest) → behind ≡ rest ++ second → Stands x before behind first second
  in_second : (rest : List A) → second ≡ rest ++ (x ∷ behind) → Stands x before behind first second

pub head_same : {A : Type 0} (x y : A) (xs ys : List A) → x ∷ xs ≡ y ∷ ys → (x ≡ y) × (xs ≡ ys)
head_same x y xs ys e = (ap (λ l. elim l [ [] ↦ x | z ∷ zs ↦ z ]) e, ap (λ l. elim l [ [] ↦ xs | z ∷ zs ↦ zs ]) e)

pub standing : {A : Type 0} (x : A) (before behind first second : List A) → before ++ (x ∷ behind) ≡ first ++ second → Stands x before behind first second
standing x before behind [] second e = in_second before (sym e)
standing x [] behind (y ∷ first) second e =
    let h = head_same x y behind (first ++ second) e in
    in_first first (ap (λ z. z ∷ first) (sym h.0)) h.1
standing x (b ∷ before) behind (y ∷ first) second e =
    let h = head_same b y (before ++ (x ∷ behind)) (first ++ second) e in
    elim (standing x before behind first second h.1) [
      | in_first rest at behind_is ↦ in_first rest (ap (λ z. z ∷ first) (sym h.0) ∙ ap (λ z. b ∷ z) at) behind_is
      | in_second rest at ↦ in_second rest at
    ]

-- what is true of all of two lists is true of the first, and of the second
pub all_first : {X : Type 0} (P : X → Type 0) (xs ys : List X) → All P (xs ++ ys) → All P xs
all_first P [] ys h = All-nil P
all_first P (x ∷ xs) ys h = All-cons P x xs (All-head P x (xs ++ ys) h) (all_first P xs ys (All-tail P x (xs ++ ys) h))

pub all_second : {X : Type 0} (P : X → Type 0) (xs ys : List X) → All P (xs ++ ys) → All P ys
all_second P [] ys h = h
all_second P (x ∷ xs) ys h = all_second P xs ys (All-tail P x (xs ++ ys) h)

-- a seat that holds none holds none after further events without a claim of its own
pub none_held_after : (who : Who) (events more : List Event) → HoldsNone who events → All (λ e. ((e.by == who.seat) && is_claim e.act) ≡ false) more → HoldsNone who (events ++ more)
none_held_after who events more none quiet claim h =
    let own : Event = entry claim.before who.seat (Claim claim.node claim.attempt who.machine) in
    elim (standing own claim.before h.since events more (sym h.claimed)) [
      | in_first rest at behind ↦ none claim (record {
        since = rest;
        claimed = at;
        held = all_first (λ (e : Event). is_release who.seat claim e ≡ false) rest more (All-same (λ (e : Event). is_release who.seat claim e ≡ false) (rest ++ more) h.since (sym behind) h.held);
      })
      | in_second rest at ↦
          let no : ((own.by == who.seat) && is_claim own.act) ≡ false = All-head (λ (e : Event). ((e.by == who.seat) && is_claim e.act) ≡ false) own h.since (all_second (λ (e : Event). ((e.by == who.seat) && is_claim e.act) ≡ false) rest (own ∷ h.since) (All-same (λ (e : Event). ((e.by == who.seat) && is_claim e.act) ≡ false) (rest ++ (own ∷ h.since)) more (sym at) quiet)) in
          let same : (own.by == who.seat) ≡ true = eq-eqb own.by who.seat refl in
          true≢false (sym (ap (λ (b : Bool). b && true) same) ∙ no)
    ]
