-- A desk whose tickets of nodes that aren't ready died.
use Rattle.std.proofs.Common.{◌≡◌, ℕ, ◌==◌, ◌+◌, ◌<◌, List, [], ◌∷◌, ◌++◌, length, set, Bool, true, false, not, ◌&&◌, ◌||◌, if◌then◌else◌, Option, None, option_map, get_or, inl, inr, refl, ap, sym, ◌∙◌, length-set, subst, take, add-one}
use Rattle.std.specs.List.{All}
use Rattle.std.proofs.lemmas.List.{get_or-set_same, get_or-set_other}
use Rattle.std.proofs.lemmas.List.Elements.{All-get_or}
use Rattle.std.proofs.Math.Seq.{take-suc}
use Rattle.std.proofs.lemmas.List.Folds.{list_any-append}
use Rattle.pyd_meaning.specs.declared.ran.Ran.{Ran}
use Rattle.pyd_store.specs.Outcomes.{Outcomes}
use Rattle.pyd_ir.specs.declared.node.Node.{Node}
use Rattle.pyd_ir.specs.Inputs.{Given}
use Rattle.pyd_runs.specs.Records.{or_else}
use Rattle.pyd_runs.proofs.Putting.{at_cases, same_test, other_test}
use Rattle.pyd_desk.specs.declared.desk.Desk.{Desk}
use Rattle.pyd_desk.specs.declared.desk.Mark.{Mark}
use Rattle.pyd_desk.specs.Desks.{blank, mark_at}
use Rattle.pyd_desk.specs.Reading.{given_of, ports_at, stored_in}
use Rattle.pyd_desk.specs.Tickets.{IsRidOf, has_waiting, is_ready_in, is_waiting, live_mark}

-- what stands at ports, by the marks
abbrev given_by : List (Option Ran) → List Outcomes → (ℕ → Mark) → Given
given_by driver stores at k = ports_at (at k).ports
    (or_else (option_map (λ ran. ran.outcome) (get_or driver k None)) (stored_in stores k (at k).machine))

-- the same stands at ports
pub same_given : (chain ns : List Node) (old now : Desk) → IsRidOf chain ns old now
    → given_of now ≡ given_of old
same_given chain ns old now r =
    ap (λ xs. given_by xs now.stores.items (mark_at now.marks.items)) (ap (λ v. v.items) r.driver)
    ∙ ap (λ xs. given_by old.driver.items xs (mark_at now.marks.items)) (ap (λ v. v.items) r.stores)
    ∙ ap (given_by old.driver.items old.stores.items) (λ i k. r.marks k i)

and_no : (t : Bool) → (t && false) ≡ false
and_no true = refl
and_no false = refl

or_no : (t : Bool) → (t || false) ≡ t
or_no true = refl
or_no false = refl

-- a ticket that dies twice
twice : (a b : Bool) (m : Mark) → live_mark b (live_mark a m) ≡ live_mark (a || b) m
twice true true m = refl
twice true false m = refl
twice false true m = refl
twice false false m = refl

-- the marks once a node was looked at
checked : (marks : List Mark) (j k : ℕ) (r : Bool) → j < length marks
    → mark_at (if r then marks else set marks j (live_mark true (mark_at marks j))) k
    ≡ live_mark ((j == k) && not r) (mark_at marks k)
checked marks j k true within =
    sym (ap (λ b. live_mark b (mark_at marks k)) (and_no (j == k)))
checked marks j k false within = elim (at_cases k j) [
  | inl same ↦
      ap (mark_at (set marks j (live_mark true (mark_at marks j)))) same
      ∙ get_or-set_same marks j (live_mark true (mark_at marks j)) blank within
      ∙ ap (λ n. live_mark true (mark_at marks n)) (sym same)
      ∙ ap (λ b. live_mark (b && true) (mark_at marks k)) (sym (same_test j k (sym same)))
  | inr other ↦
      get_or-set_other marks j k (live_mark true (mark_at marks j)) blank other
      ∙ ap (λ b. live_mark (b && true) (mark_at marks k)) (sym (other_test j k (λ e. other (sym e))))
]

checked_count : (marks : List Mark) (j : ℕ) (r : Bool)
    → length (if r then marks else set marks j (live_mark true (mark_at marks j))) ≡ length marks
checked_count marks j true = refl
checked_count marks j false = length-set marks j (live_mark true (mark_at marks j))

-- one node more
more_waiting : (chain : List Node) (given : Given) (ns : List Node) (n : Node) (k : ℕ)
    → (has_waiting chain given ns k || is_waiting chain given k n)
    ≡ has_waiting chain given (ns ++ n ∷ []) k
more_waiting chain given ns n k =
    ap (λ b. has_waiting chain given ns k || b) (sym (or_no (is_waiting chain given k n)))
    ∙ sym (list_any-append (is_waiting chain given k) ns (n ∷ []))

pub more_rid : (chain ns : List Node) (n : Node) (old now new : Desk) → IsRidOf chain ns old now
    → n.id < length now.marks.items
    → new.marks.items ≡ (if is_ready_in chain (given_of now) n then now.marks.items
    else set now.marks.items n.id (live_mark true (mark_at now.marks.items n.id)))
    → new.driver ≡ now.driver → new.stores ≡ now.stores → new.alive ≡ now.alive
    → new.undone ≡ now.undone
    → IsRidOf chain (ns ++ n ∷ []) old new
more_rid chain ns n old now new r within marks driver stores alive undone =
    let ready : Bool = is_ready_in chain (given_of now) n in
    record {
      marks = λ k.
          ap (λ xs. mark_at xs k) marks
          ∙ checked now.marks.items n.id k ready within
          ∙ ap (λ given. live_mark (is_waiting chain given k n) (mark_at now.marks.items k))
          (same_given chain ns old now r)
          ∙ ap (live_mark (is_waiting chain (given_of old) k n)) (r.marks k)
          ∙ twice (has_waiting chain (given_of old) ns k) (is_waiting chain (given_of old) k n)
          (mark_at old.marks.items k)
          ∙ ap (λ b. live_mark b (mark_at old.marks.items k))
          (more_waiting chain (given_of old) ns n k);
      count = ap length marks ∙ checked_count now.marks.items n.id ready ∙ r.count;
      driver = driver ∙ r.driver;
      stores = stores ∙ r.stores;
      alive = alive ∙ r.alive;
      undone = undone ∙ r.undone;
    }

-- the next node of a list
pub next_rid : (chain ns : List Node) (i : ℕ) (n : Node) (old now new : Desk)
    → IsRidOf chain (take i ns) old now → i < length ns → n ≡ get_or ns i n
    → All (λ (x : Node). x.id < length old.marks.items) ns
    → new.marks.items ≡ (if is_ready_in chain (given_of now) n then now.marks.items
    else set now.marks.items n.id (live_mark true (mark_at now.marks.items n.id)))
    → new.driver ≡ now.driver → new.stores ≡ now.stores → new.alive ≡ now.alive
    → new.undone ≡ now.undone
    → IsRidOf chain (take (i + 1) ns) old new
next_rid chain ns i n old now new r within is numbered marks driver stores alive undone =
    let cut : take (i + 1) ns ≡ take i ns ++ n ∷ [] =
    ap (λ j. take j ns) (add-one i) ∙ take-suc ns i n within ∙ ap (λ x. take i ns ++ x ∷ []) (sym is) in
    let below : (get_or ns i n).id < length old.marks.items =
    All-get_or (λ (x : Node). x.id < length old.marks.items) ns i n within numbered in
    let there : n.id < length now.marks.items =
    subst (λ (x : Node). x.id < length now.marks.items) (sym is)
    (subst (λ m. (get_or ns i n).id < m) (sym r.count) below) in
    subst (λ done. IsRidOf chain done old new) (sym cut)
    (more_rid chain (take i ns) n old now new r there marks driver stores alive undone)
