-- Marks that are added, and marks that tell of ports.
use Rattle.std.proofs.Common.{◌≡◌, ◌<◌, ◌≤◌, ◌+◌, ◌==◌, ℕ, zero, suc, List, [], ◌∷◌, ◌++◌, drop, length, get_or, set, Bool, true, false, cond, Option, Some, None, inl, inr, refl, ap, sym, subst, ◌∙◌, arith}
use Rattle.std.specs.List.{All}
use Rattle.std.proofs.lemmas.List.{drop_more}
use Rattle.std.proofs.lemmas.List.Elements.{All-get_or}
use Rattle.pyd_ir.specs.declared.node.Node.{Node}
use Rattle.pyd_runs.specs.Desks.{put_at}
use Rattle.pyd_runs.specs.Records.{node_at}
use Rattle.pyd_runs.proofs.Putting.{at_cases, put_same, put_else, same_test, other_test}
use Rattle.pyd_desk.specs.declared.desk.Desk.{Desk}
use Rattle.pyd_desk.specs.declared.desk.Mark.{Mark}
use Rattle.pyd_desk.specs.declared.desk.PortKind.{PortKind}
use Rattle.pyd_desk.specs.Desks.{mark_at}
use Rattle.pyd_desk.specs.Growing.{HasNew, gone, marks_with, told}
use Rattle.pyd_desk.specs.States.{IsSameDesk}
use Rattle.pyd_desk.specs.Works.{port_kind}
use Rattle.pyd_desk.proofs.Written.{put_mark}

-- one more of what stands past the end changes nothing
pub more_blank : {A : Type 0} (xs : List A) (d : A) (k : ℕ)
    → get_or (xs ++ d ∷ []) k d ≡ get_or xs k d
more_blank [] d zero = refl
more_blank [] d (suc k) = refl
more_blank (x ∷ xs) d zero = refl
more_blank (x ∷ xs) d (suc k) = more_blank xs d k

-- the mark of a node
pub set_told : (old new : List Mark) (n : Node) (ports : PortKind) → n.id < length old
    → new ≡ set old n.id (record (mark_at old n.id) { ports = ports }) → ports ≡ port_kind n.work
    → (k : ℕ) → mark_at new k ≡ told (node_at (n ∷ []) k) (mark_at old k)
set_told old new n ports within e kind k =
    ap (λ xs. mark_at xs k) e
    ∙ ap (λ (f : ℕ → Mark). f k) (put_mark old n.id (record (mark_at old n.id) { ports = ports }) within)
    ∙ elim (at_cases k n.id) [
      | inl same ↦
          put_same (mark_at old) n.id (record (mark_at old n.id) { ports = ports }) k same
          ∙ (λ i. record (mark_at old (sym same i)) { ports = kind i })
          ∙ sym (ap (λ b. told (cond b (Some n) None) (mark_at old k)) (same_test n.id k (sym same)))
      | inr other ↦
          put_else (mark_at old) n.id (record (mark_at old n.id) { ports = ports }) k other
          ∙ sym (ap (λ b. told (cond b (Some n) None) (mark_at old k))
          (other_test n.id k (λ z. other (sym z))))
    ]

told_twice : (b : Bool) (n : Node) (o : Option Node) (m : Mark)
    → told (cond b (Some n) None) (told o m) ≡ told (cond b (Some n) o) m
told_twice false n o m = refl
told_twice true n None m = refl
told_twice true n (Some x) m = refl

-- one node more, from the last one on
pub told_more : (ns : List Node) (first mid last : List Mark) (i : ℕ) (n : Node) → i < length ns
    → n ≡ get_or ns i n → length mid ≡ length first
    → (n.id < length mid → (k : ℕ) → mark_at last k ≡ told (node_at (n ∷ []) k) (mark_at mid k))
    → (All (λ (x : Node). x.id < length first) ns → (k : ℕ)
    → mark_at mid k ≡ told (node_at (drop (i + 1) ns) k) (mark_at first k))
    → All (λ (x : Node). x.id < length first) ns → (k : ℕ)
    → mark_at last k ≡ told (node_at (drop i ns) k) (mark_at first k)
told_more ns first mid last i n within is count turn so_far low k =
    let below : n.id < length mid
    = subst (λ j. n.id < j) (sym count)
    (subst (λ (x : Node). x.id < length first) (sym is)
    (All-get_or (λ (x : Node). x.id < length first) ns i n within low)) in
    turn below k
    ∙ ap (told (node_at (n ∷ []) k)) (so_far low k)
    ∙ told_twice (n.id == k) n (node_at (drop (i + 1) ns) k) (mark_at first k)
    ∙ ap (λ (xs : List Node). told (node_at xs k) (mark_at first k))
    (ap (λ x. x ∷ drop (i + 1) ns) is ∙ sym (drop_more ns i n within))

-- the marks once new ones were added, one node is gone, and those of new nodes tell of ports
pub new_marks : (old more but last : List Mark) (id numbers : ℕ) (ns : List Node)
    → id < length old → length old ≤ numbers → All (λ (n : Node). n.id < numbers) ns
    → ((k : ℕ) → mark_at more k ≡ mark_at old k) → length more ≡ numbers
    → (id < length more → but ≡ set more id (gone (mark_at more id)))
    → length but ≡ length more
    → (All (λ (n : Node). n.id < length but) ns → (k : ℕ)
    → mark_at last k ≡ told (node_at ns k) (mark_at but k))
    → (k : ℕ) → mark_at last k ≡ marks_with id ns old k
new_marks old more but last id numbers ns within grown below same count but_is but_count tells k =
    let low : id < length more = omega (arith, within, grown, count) in
    tells (subst (λ j. All (λ (n : Node). n.id < j) ns) (sym (but_count ∙ count)) below) k
    ∙ ap (told (node_at ns k))
    (ap (λ (f : ℕ → Mark). f k)
    (ap mark_at (but_is low) ∙ put_mark more id (gone (mark_at more id)) low
    ∙ ap (λ (f : ℕ → Mark). put_at f id (gone (f id))) (λ i j. same j i)))

-- room changes nothing
pub has_still : (id numbers : ℕ) (ns : List Node) (d mid e : Desk) → IsSameDesk d mid
    → HasNew id numbers ns mid e → HasNew id numbers ns d e
has_still id numbers ns d mid e same has = record {
  marks = subst (λ (xs : List Mark). id < length xs → length xs ≤ numbers
      → All (λ (n : Node). n.id < numbers) ns → (k : ℕ)
      → mark_at e.marks.items k ≡ marks_with id ns xs k) same.marks has.marks;
  driver = λ k. has.driver k ∙ ap (λ xs. get_or xs k None) same.driver;
  mark_count = subst (λ (xs : List Mark). length xs ≤ numbers → length e.marks.items ≡ numbers)
      same.marks has.mark_count;
  driver_count = subst (λ n. n ≤ numbers → length e.driver.items ≡ numbers)
      (ap length same.driver) has.driver_count;
  stores = has.stores ∙ same.stores;
  alive = has.alive ∙ same.alive;
  undone = has.undone ∙ same.undone;
}
