-- For callers: the hands that come to the close are those that were made.
use Rattle.std.proofs.Common.{◌≡◌, ℕ, zero, suc, ◌+◌, ◌<◌, ◌≤◌, List, [], ◌∷◌, ◌++◌, length, map, sym, refl, ap, ◌∙◌, subst, arith, Global}
use mathlib.Core.Option.{some, some-injective, some-ne-none}
use lib.ListN.{get_elem?}
use Rattle.crossbeam_deque.specs.Handles.{worker_deque, stealer_deque}
use Rattle.crossbeam_queue.specs.SegTies.{SegId}
use Rattle.atomic_blocks.specs.Lent.{RowsId}
use Rattle.pyd_pool.specs.declared.hand.Hand.{Hand}
use Rattle.pyd_pool.specs.declared.pool.Pool.{Pool}
use Rattle.pyd_pool.specs.declared.reach.Reach.{Reach}
use Rattle.pyd_pool.specs.Hands.{deque_id, queue_id}
use Rattle.pyd_pool.specs.Whole.{places, SamePlaces}
use Rattle.pyd_pool.specs.Ends.{hand_deque, hand_places, keeper_queue, AllHands}
use Rattle.pyd_pool.proofs.Apart.{long_map}
use Rattle.pyd_pool.proofs.Merging.{at_map}
use Rattle.pyd_pool.proofs.Splitting.{map_end}

-- it is the same hand
pub same_hand : (old new : Reach) → SamePlaces old new → places new ≡ places old
same_hand old new s = λ i. (s.0 i, s.1 i, s.2 i, s.3 i)

abbrev Places : Type 0
Places = ℕ × (RowsId × Global) × List (RowsId × Global) × List (SegId Global)

deques_of : (xs : List Hand) → map (λ (p : Places). p.1) (map hand_places xs) ≡ map hand_deque xs
deques_of [] = refl
deques_of (x ∷ xs) = let e = deques_of xs in λ i. hand_deque x ∷ e i

-- who has these places
holder : (xs : List Hand) (k : ℕ) (p : Places) → get_elem? (map hand_places xs) k ≡ some p → (x : Hand) × (get_elem? xs k ≡ some x) × (hand_places x ≡ p)
holder [] k p e = absurd (some-ne-none p (sym e))
holder (x ∷ xs) zero p e = (x, refl, some-injective (hand_places x) p e)
holder (x ∷ xs) (suc k) p e = holder xs k p e

-- the same hands in the same order are all hands of the same pool
pub still_all : (pool : Pool) (xs ys : List Hand) → map hand_places ys ≡ map hand_places xs → AllHands pool xs → AllHands pool ys
still_all pool xs ys same all = let long : length ys ≡ length xs = sym (long_map hand_places ys) ∙ ap length same ∙ long_map hand_places xs in (
  sym (deques_of ys) ∙ ap (map (λ (p : Places). p.1)) same ∙ deques_of xs ∙ all.0,
  (let a = all.1 in omega arith),
  (let a = all.2 in omega arith),
  (λ k y e. let h = holder xs k (hand_places y) (subst (λ l. get_elem? l k ≡ some (hand_places y)) same (at_map hand_places ys k y e)) in
      let is = all.3 k h.0 h.1 in (sym (ap (λ (p : Places). p.2) h.2) ∙ is.0, sym (ap (λ (p : Places). p.3) h.2) ∙ is.1)),
  (λ k x e. let a = all.4 k x e in ((let p = a.0 in omega arith), a.1, a.2)),
)

-- a hand goes back to the end
pub back_at_end : (xs ys zs vs : List Hand) (x y : Hand) → zs ≡ xs ++ x ∷ [] → vs ≡ ys ++ y ∷ [] → map hand_places ys ≡ map hand_places xs → hand_places y ≡ hand_places x → map hand_places vs ≡ map hand_places zs
back_at_end xs ys zs vs x y ez ev same one = ap (map hand_places) ev ∙ map_end hand_places ys y ∙ (λ i. same i ++ one i ∷ []) ∙ sym (map_end hand_places xs x) ∙ sym (ap (map hand_places) ez)
