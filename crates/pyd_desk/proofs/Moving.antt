-- What a desk stands for after each move.
use Rattle.std.proofs.Common.{◌≡◌, ◌≢◌, ℕ, ◌==◌, ◌<◌, List, [], ◌∷◌, ◌++◌, length, get_or, set, Bool, true, false, ◌&&◌, if◌then◌else◌, Option, Some, None, IsSome, option_map, inl, inr, refl, ap, sym, ◌∙◌}
use Rattle.pyd_value.specs.declared.fault.Outcome.{Outcome}
use Rattle.pyd_ir.specs.declared.job.Job.{Job}
use Rattle.pyd_store.specs.Laws.{MapLaws}
use Rattle.pyd_store.specs.Outcomes.{Outcomes}
use Rattle.pyd_runs.specs.Desks as runs
use Rattle.pyd_runs.specs.Desks.{put_at}
use Rattle.pyd_runs.specs.Effects.{State, claimed, held_by}
use Rattle.pyd_runs.specs.Records.{or_else, ready}
use Rattle.pyd_runs.proofs.Putting.{at_cases, put_same, put_else, same_test, other_test}
use Rattle.pyd_desk.specs.declared.desk.Desk.{Desk}
use Rattle.pyd_desk.specs.declared.desk.Held.{Held}
use Rattle.pyd_desk.specs.declared.desk.Mark.{Mark}
use Rattle.pyd_desk.specs.declared.desk.Placed.{Placed}
use Rattle.pyd_desk.specs.declared.desk.Undone.{Undone}
use Rattle.pyd_desk.specs.declared.line.Line.{Line}
use Rattle.pyd_desk.specs.Desks.{claim_by, desk_of, held_of, is_lost, is_of, kept_apart, kept_in, mark_at, placed_of, silent, undone_by, undone_in}
use Rattle.pyd_desk.specs.States.{IsStateOf}
use Rattle.pyd_desk.proofs.Numbers.{through, unchanged}
use Rattle.pyd_desk.proofs.Storing.{put_store, put_kept}
use Rattle.pyd_desk.proofs.Written.{desk_by, with_marks, put_mark, set_written}
use Rattle.pyd_desk.proofs.Becoming.{books_are, put_shape, state_by, with_books}

-- a state with the books of a desk, but for the desk itself
abbrev pub beside : State → Desk → runs.Desk → State
beside s d x = record (with_books s d) { desk = x }

-- a node with a ticket
pub placed_is : (d : Desk) (items : List Mark) (k : ℕ) (t : Placed) → k < length d.marks.items
    → items ≡ set d.marks.items k
    (record (mark_at d.marks.items k) { places = t.attempt; ticket = Some t })
    → with_marks d (mark_at items) ≡ record (desk_of d) {
      places = put_at (desk_of d).places k t.attempt;
      ticket = put_at (desk_of d).ticket k
          (Some (record { attempt = t.attempt; machine = t.machine }));
    }
placed_is d items k t within e =
    set_written d items k _ within e
    ∙ (λ i. record {
      stores = unchanged (desk_of d).stores k _ refl i;
      places = put_at (desk_of d).places k t.attempt;
      ticket = put_at (desk_of d).ticket k
          (Some (record { attempt = t.attempt; machine = t.machine }));
      claim = unchanged (desk_of d).claim k _ refl i;
      undone = unchanged (desk_of d).undone k _ refl i;
    })

or_first : {A : Type 0} (b : Bool) (x : A) (o other : Option A)
    → or_else (if b then Some x else o) other ≡ (if b then Some x else or_else o other)
or_first true x o other = refl
or_first false x o other = refl

-- the last of those that are kept apart is found first
undone_last : (xs : List Undone) (u : Undone) (k attempt : ℕ)
    → undone_in (xs ++ u ∷ []) k attempt
    ≡ (if is_of k attempt u then Some (held_of u.held) else undone_in xs k attempt)
undone_last [] u k attempt = refl
undone_last (x ∷ xs) u k attempt =
    ap (λ o. or_else o (if is_of k attempt x then Some (held_of x.held) else None))
    (undone_last xs u k attempt)
    ∙ or_first (is_of k attempt u) (held_of u.held) (undone_in xs k attempt) _

-- a claim, as one that is kept apart
abbrev apart : ℕ → Held → Undone
apart k h = record { node = k; held = h }

apart_same : (l : Bool) (xs : List Undone) (k attempt : ℕ) (h : Held)
    → undone_in (if l then xs ++ apart k h ∷ [] else xs) k attempt
    ≡ (if l && (h.attempt == attempt) then Some (held_of h) else undone_in xs k attempt)
apart_same true xs k attempt h =
    undone_last xs (apart k h) k attempt
    ∙ ap (λ b. if b && (h.attempt == attempt) then Some (held_of h) else undone_in xs k attempt)
    (same_test k k refl)
apart_same false xs k attempt h = refl

apart_here : (alive : List Bool) (xs : List Undone) (k attempt : ℕ) (before : Option Held)
    → undone_in (kept_apart alive xs k before) k attempt
    ≡ undone_by alive attempt before (undone_in xs k attempt)
apart_here alive xs k attempt None = refl
apart_here alive xs k attempt (Some h) = apart_same (is_lost alive h.machine) xs k attempt h

apart_other : (l : Bool) (xs : List Undone) (k n attempt : ℕ) (h : Held) → k ≢ n
    → undone_in (if l then xs ++ apart k h ∷ [] else xs) n attempt ≡ undone_in xs n attempt
apart_other true xs k n attempt h other =
    undone_last xs (apart k h) n attempt
    ∙ ap (λ b. if b && (h.attempt == attempt) then Some (held_of h) else undone_in xs n attempt)
    (other_test k n other)
apart_other false xs k n attempt h other = refl

apart_else : (alive : List Bool) (xs : List Undone) (k n attempt : ℕ) (before : Option Held)
    → k ≢ n → undone_in (kept_apart alive xs k before) n attempt ≡ undone_in xs n attempt
apart_else alive xs k n attempt None other = refl
apart_else alive xs k n attempt (Some h) other =
    apart_other (is_lost alive h.machine) xs k n attempt h other

-- a claim whose machine lives isn't undone
not_undone : (alive : List Bool) (attempt : ℕ) (h : Held) (o : Option runs.Held)
    → is_lost alive h.machine ≡ false → undone_by alive attempt (Some h) o ≡ o
not_undone alive attempt h o lives =
    ap (λ b. if b && (h.attempt == attempt) then Some (held_of h) else o) lives

-- nor is it lost
claim_lives : (alive : List Bool) (h : Held) → is_lost alive h.machine ≡ false
    → claim_by alive (Some h) ≡ Some (held_of h)
claim_lives alive h lives = ap (λ b. if b then None else Some (held_of h)) lives

-- the desk once a node has a claim: the ticket is used, and those that are undone are as before
undone_still : (d : Desk) (k : ℕ) (m : Mark) (h : Held) (n attempt : ℕ)
    → is_lost d.alive.items h.machine ≡ false → m.claim ≡ Some h
    → undone_by d.alive.items attempt (put_at (mark_at d.marks.items) k m n).claim
    (undone_in (kept_apart d.alive.items d.undone.items k (mark_at d.marks.items k).claim) n attempt)
    ≡ (desk_of d).undone n attempt
undone_still d k m h n attempt lives has =
    let alive = d.alive.items in
    let xs = d.undone.items in
    let before : Option Held = (mark_at d.marks.items k).claim in
    elim (at_cases n k) [
      | inl same ↦
          ap (λ (x : Mark). undone_by alive attempt x.claim (undone_in (kept_apart alive xs k before) n attempt))
          (put_same (mark_at d.marks.items) k m n same)
          ∙ ap (λ (x : Option Held). undone_by alive attempt x (undone_in (kept_apart alive xs k before) n attempt)) has
          ∙ not_undone alive attempt h _ lives
          ∙ ap (λ j. undone_in (kept_apart alive xs k before) j attempt) same
          ∙ apart_here alive xs k attempt before
          ∙ ap (λ j. (desk_of d).undone j attempt) (sym same)
      | inr other ↦
          ap (λ (x : Mark). undone_by alive attempt x.claim (undone_in (kept_apart alive xs k before) n attempt))
          (put_else (mark_at d.marks.items) k m n other)
          ∙ ap (undone_by alive attempt (mark_at d.marks.items n).claim)
          (apart_else alive xs k n attempt before (λ e. other (sym e)))
    ]

-- with a claim in the place of the ticket
abbrev pub with_claim : Mark → Held → Mark
with_claim m h = record m { ticket = None; claim = Some h }

pub claimed_is : (d : Desk) (items : List Mark) (undone : List Undone) (k : ℕ) (h : Held)
    → k < length d.marks.items → is_lost d.alive.items h.machine ≡ false
    → items ≡ set d.marks.items k (with_claim (mark_at d.marks.items k) h)
    → undone ≡ kept_apart d.alive.items d.undone.items k (mark_at d.marks.items k).claim
    → desk_by d.stores.items d.alive.items undone (mark_at items)
    ≡ record (desk_of d) {
      ticket = put_at (desk_of d).ticket k None;
      claim = put_at (desk_of d).claim k (Some (held_of h));
    }
claimed_is d items undone k h within lives e kept =
    let stores = d.stores.items in
    let alive = d.alive.items in
    let at = mark_at d.marks.items in
    let m : Mark = with_claim (at k) h in
    ap (λ xs. desk_by stores alive xs (mark_at items)) kept
    ∙ ap (λ xs. desk_by stores alive (kept_apart alive d.undone.items k (at k).claim) (mark_at xs)) e
    ∙ ap (desk_by stores alive (kept_apart alive d.undone.items k (at k).claim))
    (put_mark d.marks.items k m within)
    ∙ (λ i. record {
      stores = (through (λ n x. kept_in stores n x.machine) at k m
          ∙ unchanged (desk_of d).stores k _ refl) i;
      places = (through (λ n x. x.places) at k m ∙ unchanged (desk_of d).places k _ refl) i;
      ticket = through (λ n x. option_map placed_of x.ticket) at k m i;
      claim = (through (λ n x. claim_by alive x.claim) at k m
          ∙ ap (put_at (desk_of d).claim k) (claim_lives alive h lives)) i;
      undone = λ n attempt. undone_still d k m h n attempt lives refl i;
    })

-- where a claim stands, none of the node's is undone but those that are kept apart
standing : {A : Type 0} (l b : Bool) (x y : A) (o : Option A)
    → IsSome (if l then None else Some x) → (if l && b then Some y else o) ≡ o
standing true b x y o stands = absurd (let z : false ≡ true = stands in cc (z))
standing false b x y o stands = refl

pub none_undone : (alive : List Bool) (attempt : ℕ) (c : Option Held) (o : Option runs.Held)
    → IsSome (claim_by alive c) → undone_by alive attempt c o ≡ o
none_undone alive attempt None o stands = refl
none_undone alive attempt (Some h) o stands =
    standing (is_lost alive h.machine) (h.attempt == attempt) (held_of h) (held_of h) o stands

-- with its record in the store of a machine, and its claim done
abbrev pub with_machine : Mark → ℕ → Mark
with_machine m machine = record m { machine = Some machine; claim = None }

pub kept_is : MapLaws → (d : Desk) (items : List Mark) (stores : List Outcomes) (k machine : ℕ)
    (outcome : Outcome) → k < length d.marks.items → machine < length d.stores.items
    → IsSome ((desk_of d).claim k)
    → items ≡ set d.marks.items k (with_machine (mark_at d.marks.items k) machine)
    → stores ≡ put_store d.stores.items machine k outcome
    → desk_by stores d.alive.items d.undone.items (mark_at items)
    ≡ record (desk_of d) {
      claim = put_at (desk_of d).claim k None;
      stores = put_at (desk_of d).stores k
          (Some (record { machine = machine; ran = silent outcome }));
    }
kept_is laws d items stores k machine outcome within there stands e put =
    let alive = d.alive.items in
    let undone = d.undone.items in
    let at = mark_at d.marks.items in
    let m : Mark = with_machine (at k) machine in
    ap (λ xs. desk_by xs alive undone (mark_at items)) put
    ∙ ap (λ xs. desk_by (put_store d.stores.items machine k outcome) alive undone (mark_at xs)) e
    ∙ ap (desk_by (put_store d.stores.items machine k outcome) alive undone)
    (put_mark d.marks.items k m within)
    ∙ (λ i. record {
      stores = put_kept laws d.stores.items at machine k outcome m there refl i;
      places = (through (λ n x. x.places) at k m ∙ unchanged (desk_of d).places k _ refl) i;
      ticket = (through (λ n x. option_map placed_of x.ticket) at k m
          ∙ unchanged (desk_of d).ticket k _ refl) i;
      claim = through (λ n x. claim_by alive x.claim) at k m i;
      undone = (through (λ n x attempt. undone_by alive attempt x.claim (undone_in undone n attempt)) at k m
          ∙ unchanged (desk_of d).undone k _
          (λ i attempt. sym (none_undone alive attempt (at k).claim (undone_in undone k attempt) stands) i)) i;
    })

-- without its claim
abbrev pub without_claim : Mark → Mark
without_claim m = record m { claim = None }

pub done_is : (d : Desk) (items : List Mark) (k : ℕ) → k < length d.marks.items
    → IsSome ((desk_of d).claim k)
    → items ≡ set d.marks.items k (without_claim (mark_at d.marks.items k))
    → with_marks d (mark_at items) ≡ record (desk_of d) {
      claim = put_at (desk_of d).claim k None;
    }
done_is d items k within stands e =
    let alive = d.alive.items in
    let at = mark_at d.marks.items in
    set_written d items k (without_claim (at k)) within e
    ∙ (λ i. record {
      stores = unchanged (desk_of d).stores k _ refl i;
      places = unchanged (desk_of d).places k _ refl i;
      ticket = unchanged (desk_of d).ticket k _ refl i;
      claim = put_at (desk_of d).claim k None;
      undone = unchanged (desk_of d).undone k _
          (λ i attempt. sym (none_undone alive attempt (at k).claim (undone_in d.undone.items k attempt) stands) i) i;
    })

-- a desk on which a node has a claim in the place of its ticket, and no claim was lost sight of
pub record HasTaken (k : ℕ) (h : Held) (old new : Desk) : Type 0 where
  pub marks : new.marks.items
      ≡ set old.marks.items k (with_claim (mark_at old.marks.items k) h)
  pub undone : new.undone.items
      ≡ kept_apart old.alive.items old.undone.items k (mark_at old.marks.items k).claim
  pub driver : new.driver ≡ old.driver
  pub stores : new.stores ≡ old.stores
  pub alive : new.alive ≡ old.alive

-- a claim of a job
abbrev held_with : Held → Job → runs.Held
held_with h job =
    record { attempt = h.attempt; machine = h.machine; seat = h.seat; job = job }

-- where it is the claim of the job that is ready, line and desk are those of the state then
pub taken_on : (line : Line) (d e : Desk) (s : State) (k : ℕ) (h : Held) (job : Job)
    → k < length d.marks.items → is_lost d.alive.items h.machine ≡ false → HasTaken k h d e
    → h.job.value ≡ job → IsStateOf line d s
    → ready s.graph s.desk.stores k h.attempt ≡ Some job
    → IsStateOf line e (claimed s h.seat k h.attempt h.machine)
taken_on line d e s k h job within lives has same is there =
    state_by line d e s
    (put_shape d e k (with_claim (mark_at d.marks.items k) h) within has.marks refl
    (ap (λ x. length x.items) has.driver))
    is (λ x. claimed x h.seat k h.attempt h.machine)
    ((λ i. record (with_books s d) {
      graph = record s.graph { driver = λ j. get_or (has.driver i).items j None };
      desk = desk_by (has.stores i).items (has.alive i).items e.undone.items (mark_at e.marks.items);
      lost = is_lost (has.alive i).items;
    })
    ∙ ap (beside s d)
    (claimed_is d e.marks.items e.undone.items k h within lives has.marks has.undone)
    ∙ ap (λ (o : Option runs.Held). beside s d (record (desk_of d) {
      ticket = put_at (desk_of d).ticket k None;
      claim = put_at (desk_of d).claim k o;
    }))
    (ap (λ (j : Job). Some (held_with h j)) same
    ∙ ap (held_by h.attempt h.machine h.seat)
    (sym there ∙ ap (λ (x : State). ready x.graph x.desk.stores k h.attempt)
    (sym (books_are line d s is)))))
