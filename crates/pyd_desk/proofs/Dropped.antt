-- A desk whose claim was let go.
use Rattle.std.proofs.Common.{◌≡◌, ◌≢◌, ℕ, ◌==◌, ◌<◌, List, [], ◌∷◌, length, set, Bool, true, false, not, ◌&&◌, if◌then◌else◌, cond, Option, Some, None, option_map, inl, inr, refl, ap, sym, ◌∙◌}
use Rattle.std.proofs.lemmas.Bool.{and_parts}
use Rattle.pyd_runs.specs.Desks as runs
use Rattle.pyd_runs.specs.Desks.{put_at}
use Rattle.pyd_runs.specs.Losses.{held_elsewhere}
use Rattle.pyd_runs.specs.Records.{or_else}
use Rattle.pyd_runs.proofs.Putting.{at_cases, put_same, put_else, test_same, other_test}
use Rattle.pyd_desk.specs.declared.desk.Desk.{Desk}
use Rattle.pyd_desk.specs.declared.desk.Held.{Held}
use Rattle.pyd_desk.specs.declared.desk.Mark.{Mark}
use Rattle.pyd_desk.specs.declared.desk.Undone.{Undone}
use Rattle.pyd_desk.specs.Desks.{claim_by, desk_of, goes_with, held_of, is_lost, is_of, kept_in, mark_at, placed_of, undone_but, undone_by, undone_in}
use Rattle.pyd_desk.specs.Dropping.{released}
use Rattle.pyd_desk.proofs.Numbers.{through, unchanged}
use Rattle.pyd_desk.proofs.Written.{desk_by, put_mark}

-- what a claim stands for once it is let go, by whether its machine is lost and its attempt is the one
goes_from : (alive : List Bool) (h : Held) (b : Bool)
    → claim_by alive (if b then None else Some h) ≡ (if b then None else claim_by alive (Some h))
goes_from alive h true = refl
goes_from alive h false = refl

left_standing : (l a : Bool) (machine : ℕ) (c : runs.Held)
    → (if (if l then a else c.machine == machine) then None else (if l then None else Some c))
    ≡ held_elsewhere machine (if l then None else Some c)
left_standing true true machine c = refl
left_standing true false machine c = refl
left_standing false a machine c = refl

claim_left : (alive : List Bool) (attempt machine : ℕ) (c : Option Held)
    → claim_by alive (released alive attempt machine c) ≡ held_elsewhere machine (claim_by alive c)
claim_left alive attempt machine None = refl
claim_left alive attempt machine (Some h) =
    goes_from alive h (goes_with alive attempt machine (Some h))
    ∙ left_standing (is_lost alive h.machine) (h.attempt == attempt) machine (held_of h)

or_none : {A : Type 0} (o : Option A) → or_else o None ≡ o
or_none None = refl
or_none (Some a) = refl

-- of those that are kept apart none of the attempt is left
but_same_by : (u : Undone) (us : List Undone) (k a : ℕ) (t : Bool) → is_of k a u ≡ t
    → undone_in (undone_but k a us) k a ≡ None
    → undone_in (cond (not t) (u ∷ undone_but k a us) (undone_but k a us)) k a ≡ None
but_same_by u us k a true is rest = rest
but_same_by u us k a false is rest =
    ap (λ o. or_else o (if is_of k a u then Some (held_of u.held) else None)) rest
    ∙ ap (λ b. if b then Some (held_of u.held) else None) is

but_same : (us : List Undone) (k a : ℕ) → undone_in (undone_but k a us) k a ≡ None
but_same [] k a = refl
but_same (u ∷ us) k a = but_same_by u us k a (is_of k a u) refl (but_same us k a)

-- and others are
but_else_by : (u : Undone) (us : List Undone) (k a n b : ℕ) (t : Bool)
    → (t ≡ true → is_of n b u ≡ false)
    → undone_in (undone_but k a us) n b ≡ undone_in us n b
    → undone_in (cond (not t) (u ∷ undone_but k a us) (undone_but k a us)) n b
    ≡ undone_in (u ∷ us) n b
but_else_by u us k a n b true apart rest =
    rest ∙ sym (or_none (undone_in us n b))
    ∙ ap (λ x. or_else (undone_in us n b) (if x then Some (held_of u.held) else None)) (sym (apart refl))
but_else_by u us k a n b false apart rest =
    ap (λ o. or_else o (if is_of n b u then Some (held_of u.held) else None)) rest

but_else : (us : List Undone) (k a n b : ℕ)
    → ((u : Undone) → is_of k a u ≡ true → is_of n b u ≡ false)
    → undone_in (undone_but k a us) n b ≡ undone_in us n b
but_else [] k a n b apart = refl
but_else (u ∷ us) k a n b apart =
    but_else_by u us k a n b (is_of k a u) (apart u) (but_else us k a n b apart)

-- those of another node, and those of another attempt
other_node : (k a n b : ℕ) (u : Undone) → n ≢ k → is_of k a u ≡ true → is_of n b u ≡ false
other_node k a n b u other is =
    let same : u.node ≡ k = test_same u.node k (and_parts (u.node == k) (u.held.attempt == a) is).0 in
    ap (λ t. t && (u.held.attempt == b)) (other_test u.node n (λ e. other (sym e ∙ same)))

and_no : (t : Bool) → (t && false) ≡ false
and_no true = refl
and_no false = refl

other_attempt : (k a b : ℕ) (u : Undone) → b ≢ a → is_of k a u ≡ true → is_of k b u ≡ false
other_attempt k a b u other is =
    let same : u.held.attempt ≡ a =
    test_same u.held.attempt a (and_parts (u.node == k) (u.held.attempt == a) is).1 in
    ap (λ t. (u.node == k) && t) (other_test u.held.attempt b (λ e. other (sym e ∙ same)))
    ∙ and_no (u.node == k)

-- the claim of the attempt itself is gone
gone_by : (alive : List Bool) (attempt : ℕ) (h : Held) (l e m : Bool)
    → is_lost alive h.machine ≡ l → (h.attempt == attempt) ≡ e
    → undone_by alive attempt (if (if l then e else m) then None else Some h) None ≡ None
gone_by alive attempt h true true m lost is = refl
gone_by alive attempt h true false m lost is =
    ap (λ t. if is_lost alive h.machine && t then Some (held_of h) else None) is
    ∙ ap (λ t. if t then Some (held_of h) else None) (and_no (is_lost alive h.machine))
gone_by alive attempt h false e true lost is = refl
gone_by alive attempt h false e false lost is =
    ap (λ t. if t && (h.attempt == attempt) then Some (held_of h) else None) lost

undone_gone : (alive : List Bool) (attempt machine : ℕ) (c : Option Held)
    → undone_by alive attempt (released alive attempt machine c) None ≡ None
undone_gone alive attempt machine None = refl
undone_gone alive attempt machine (Some h) =
    gone_by alive attempt h (is_lost alive h.machine) (h.attempt == attempt) (h.machine == machine) refl refl

-- of another attempt it stays
stays_by : (alive : List Bool) (attempt b : ℕ) (h : Held) (o : Option runs.Held) (l e m : Bool)
    → is_lost alive h.machine ≡ l → (e ≡ true → (h.attempt == b) ≡ false)
    → undone_by alive b (if (if l then e else m) then None else Some h) o
    ≡ undone_by alive b (Some h) o
stays_by alive attempt b h o true true m lost apart =
    sym (ap (λ t. if is_lost alive h.machine && t then Some (held_of h) else o) (apart refl)
    ∙ ap (λ t. if t then Some (held_of h) else o) (and_no (is_lost alive h.machine)))
stays_by alive attempt b h o true false m lost apart = refl
stays_by alive attempt b h o false e true lost apart =
    sym (ap (λ t. if t && (h.attempt == b) then Some (held_of h) else o) lost)
stays_by alive attempt b h o false e false lost apart = refl

undone_stays : (alive : List Bool) (attempt machine b : ℕ) (c : Option Held) (o : Option runs.Held)
    → b ≢ attempt
    → undone_by alive b (released alive attempt machine c) o ≡ undone_by alive b c o
undone_stays alive attempt machine b None o other = refl
undone_stays alive attempt machine b (Some h) o other =
    stays_by alive attempt b h o (is_lost alive h.machine) (h.attempt == attempt) (h.machine == machine) refl
    (λ is. other_test h.attempt b (λ e. other (sym e ∙ test_same h.attempt attempt is)))

-- what is undone of the node
undone_here : (alive : List Bool) (us : List Undone) (k attempt machine b : ℕ) (c : Option Held)
    → undone_by alive b (released alive attempt machine c) (undone_in (undone_but k attempt us) k b)
    ≡ put_at (λ j. undone_by alive j c (undone_in us k j)) attempt None b
undone_here alive us k attempt machine b c =
    let old : ℕ → Option runs.Held = λ j. undone_by alive j c (undone_in us k j) in
    elim (at_cases b attempt) [
      | inl same ↦
          ap (λ j. undone_by alive j (released alive attempt machine c)
          (undone_in (undone_but k attempt us) k j)) same
          ∙ ap (undone_by alive attempt (released alive attempt machine c)) (but_same us k attempt)
          ∙ undone_gone alive attempt machine c
          ∙ sym (put_same old attempt None b same)
      | inr other ↦
          ap (undone_by alive b (released alive attempt machine c))
          (but_else us k attempt k b (λ u. other_attempt k attempt b u other))
          ∙ undone_stays alive attempt machine b c (undone_in us k b) other
          ∙ sym (put_else old attempt None b other)
    ]

-- the mark of the node without its claim, if that goes
abbrev pub with_release : List Bool → ℕ → ℕ → Mark → Mark
with_release alive attempt machine m = record m { claim = released alive attempt machine m.claim }

undone_at : (alive : List Bool) (us : List Undone) (at : ℕ → Mark) (k attempt machine n b : ℕ)
    → undone_by alive b (put_at at k (with_release alive attempt machine (at k)) n).claim
    (undone_in (undone_but k attempt us) n b)
    ≡ put_at (λ j x. undone_by alive x (at j).claim (undone_in us j x)) k
    (put_at (λ x. undone_by alive x (at k).claim (undone_in us k x)) attempt None) n b
undone_at alive us at k attempt machine n b =
    let m : Mark = with_release alive attempt machine (at k) in
    let old : ℕ → ℕ → Option runs.Held = λ j x. undone_by alive x (at j).claim (undone_in us j x) in
    elim (at_cases n k) [
      | inl same ↦
          ap (λ (x : Mark). undone_by alive b x.claim (undone_in (undone_but k attempt us) n b))
          (put_same at k m n same)
          ∙ ap (λ j. undone_by alive b m.claim (undone_in (undone_but k attempt us) j b)) same
          ∙ undone_here alive us k attempt machine b (at k).claim
          ∙ ap (λ (f : ℕ → Option runs.Held). f b) (sym (put_same old k (put_at (old k) attempt None) n same))
      | inr other ↦
          ap (λ (x : Mark). undone_by alive b x.claim (undone_in (undone_but k attempt us) n b))
          (put_else at k m n other)
          ∙ ap (undone_by alive b (at n).claim)
          (but_else us k attempt n b (λ u. other_node k attempt n b u other))
          ∙ ap (λ (f : ℕ → Option runs.Held). f b) (sym (put_else old k (put_at (old k) attempt None) n other))
    ]

-- the desk
pub dropped_is : (d : Desk) (items : List Mark) (undone : List Undone) (k attempt machine : ℕ)
    → k < length d.marks.items
    → items ≡ set d.marks.items k (with_release d.alive.items attempt machine (mark_at d.marks.items k))
    → undone ≡ undone_but k attempt d.undone.items
    → desk_by d.stores.items d.alive.items undone (mark_at items)
    ≡ record (desk_of d) {
      claim = put_at (desk_of d).claim k (held_elsewhere machine ((desk_of d).claim k));
      undone = put_at (desk_of d).undone k (put_at ((desk_of d).undone k) attempt None);
    }
dropped_is d items undone k attempt machine within e left =
    let stores = d.stores.items in
    let alive = d.alive.items in
    let us = d.undone.items in
    let at = mark_at d.marks.items in
    let m : Mark = with_release alive attempt machine (at k) in
    ap (λ xs. desk_by stores alive xs (mark_at items)) left
    ∙ ap (λ xs. desk_by stores alive (undone_but k attempt us) (mark_at xs)) e
    ∙ ap (desk_by stores alive (undone_but k attempt us)) (put_mark d.marks.items k m within)
    ∙ (λ i. record {
      stores = (through (λ n x. kept_in stores n x.machine) at k m
          ∙ unchanged (desk_of d).stores k _ refl) i;
      places = (through (λ n x. x.places) at k m ∙ unchanged (desk_of d).places k _ refl) i;
      ticket = (through (λ n x. option_map placed_of x.ticket) at k m
          ∙ unchanged (desk_of d).ticket k _ refl) i;
      claim = (through (λ n x. claim_by alive x.claim) at k m
          ∙ ap (put_at (desk_of d).claim k) (claim_left alive attempt machine (at k).claim)) i;
      undone = λ n b. undone_at alive us at k attempt machine n b i;
    })
