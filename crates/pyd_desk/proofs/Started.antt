-- A desk before any event.
use Rattle.std.proofs.Common.{◌≡◌, ℕ, zero, suc, ◌+◌, ◌-◌, ◌<◌, ◌++◌, append_assoc, List, [], ◌∷◌, length, map, get_or, replicate, true, not, cond, Some, None, option_map, refl, ap, sym, ◌∙◌, arith}
use Rattle.std.proofs.lemmas.List.{length-append, length-map, length-replicate}
use Rattle.pyd_ir.specs.declared.node.Node.{Node}
use Rattle.pyd_translate.specs.Matching.{AreNumbered}
use Rattle.pyd_runs.specs.Desks.{first_desk}
use Rattle.pyd_runs.specs.Records.{node_at}
use Rattle.pyd_runs.proofs.Putting.{same_test, other_test}
use Rattle.pyd_desk.specs.declared.desk.Desk.{Desk}
use Rattle.pyd_desk.specs.declared.desk.Mark.{Mark}
use Rattle.pyd_desk.specs.Desks.{blank, claim_by, desk_of, is_lost, kept_in, mark_at, placed_of, undone_by, undone_in}
use Rattle.pyd_desk.specs.Lines.{TellsPorts, kind_of}
use Rattle.pyd_desk.specs.Starting.{IsFirst, first_mark}

-- the items of a list of equal ones, and what is past it
pub get_same : {A : Type 0} (n k : ℕ) (a : A) → get_or (replicate n a) k a ≡ a
get_same zero k a = refl
get_same (suc n) zero a = refl
get_same (suc n) (suc k) a = get_same n k a

-- one item more of equal ones
pub one_more : {A : Type 0} (xs ys all : List A) (count : ℕ) (x : A) → length xs < count
    → xs ++ replicate (count - length xs) x ≡ all → ys ≡ xs ++ x ∷ []
    → ys ++ replicate (count - length ys) x ≡ all
one_more xs ys all count x less is more =
    let len : length ys ≡ length xs + 1 = ap length more ∙ length-append xs (x ∷ []) in
    let left : count - length xs ≡ suc (count - length ys) = omega (arith, less, len) in
    ap (λ zs. zs ++ replicate (count - length ys) x) more
    ∙ append_assoc xs (x ∷ []) (replicate (count - length ys) x)
    ∙ ap (λ n. xs ++ replicate n x) (sym left) ∙ is

-- all is blank but for the ports
plain : (ns : List Node) (k : ℕ)
    → mark_at (map first_mark ns) k
    ≡ record blank { ports = (mark_at (map first_mark ns) k).ports }
plain [] k = refl
plain (n ∷ ns) zero = refl
plain (n ∷ ns) (suc k) = plain ns k

-- the marks tell of the nodes' ports
told_from : (ids : ℕ) (ns : List Node) (k : ℕ) → AreNumbered ids ns
    → (mark_at (map first_mark ns) k).ports ≡ kind_of (node_at ns (ids + k))
told_from ids [] k numbered = refl
told_from ids (n ∷ ns) zero numbered =
    let same : n.id ≡ ids + 0 = omega (arith, numbered.0) in
    sym (ap (λ b. kind_of (cond b (Some n) (node_at ns (ids + 0)))) (same_test n.id (ids + 0) same))
told_from ids (n ∷ ns) (suc k) numbered =
    let other : n.id ≡ ids + suc k → ⊥ = λ z. absurd (omega (arith, numbered.0, z)) in
    let more : suc ids + k ≡ ids + suc k = omega arith in
    told_from (suc ids) ns k numbered.2
    ∙ ap (λ j. kind_of (node_at ns j)) more
    ∙ sym (ap (λ b. kind_of (cond b (Some n) (node_at ns (ids + suc k))))
    (other_test n.id (ids + suc k) other))

module _ (d : Desk) (ns : List Node) (marks : d.marks.items ≡ map first_mark ns) where
  at : (k : ℕ) → mark_at d.marks.items k
      ≡ record blank { ports = (mark_at (map first_mark ns) k).ports }
  at k = ap (λ xs. mark_at xs k) marks ∙ plain ns k

  -- nothing stands on the desk
  bare : d.undone.items ≡ [] → desk_of d ≡ first_desk
  bare none = λ i. record {
    stores = λ k. ap (λ (m : Mark). kept_in d.stores.items k m.machine) (at k) i;
    places = λ k. ap (λ (m : Mark). m.places) (at k) i;
    ticket = λ k. ap (λ (m : Mark). option_map placed_of m.ticket) (at k) i;
    claim = λ k. ap (λ (m : Mark). claim_by d.alive.items m.claim) (at k) i;
    undone = λ k attempt. (ap (λ (m : Mark). undone_by d.alive.items attempt m.claim
        (undone_in d.undone.items k attempt)) (at k)
        ∙ ap (λ us. undone_in us k attempt) none) i;
  }

  told : AreNumbered 0 ns → TellsPorts ns d.marks.items
  told numbered k = ap (λ xs. (mark_at xs k).ports) marks ∙ told_from 0 ns k numbered
      ∙ ap (λ j. kind_of (node_at ns j)) (let z : 0 + k ≡ k = omega arith in z)

-- a desk whose vectors are those of the start
pub first_is : (d : Desk) (ns : List Node) (machines : ℕ)
    → d.marks.items ≡ map first_mark ns → d.driver.items ≡ replicate (length ns) None
    → length d.stores.items ≡ machines → d.alive.items ≡ replicate machines true
    → d.undone.items ≡ [] → IsFirst ns machines d
first_is d ns machines marks driver stores alive none = record {
  desk = bare d ns marks none;
  kept = λ i k. (ap (λ xs. get_or xs k None) driver ∙ get_same (length ns) k None) i;
  lost = λ i m. (ap (λ xs. is_lost xs m) alive ∙ ap not (get_same machines m true)) i;
  ports = told d ns marks;
  marks = ap length marks ∙ length-map ns first_mark;
  driver = ap length driver ∙ length-replicate (length ns) None;
  stores = stores;
  alive = ap length alive ∙ length-replicate machines true;
}
