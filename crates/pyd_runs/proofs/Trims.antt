-- Trims in a row.
use Rattle.std.proofs.Common.{◌≡◌, ◌≢◌, ◌+◌, ◌==◌, ℕ, suc, List, [], ◌∷◌, ◌++◌, length, cond, None, inl, inr, refl, ap, sym, ◌∙◌, subst, arith}
use Rattle.std.specs.List.{Contains}
use Rattle.std.proofs.lemmas.List.{length-append}
use Rattle.std.proofs.lemmas.List.Sums.{sum_by-append, sum_by-cons}
use Rattle.pyd_board.specs.declared.event.Act.TheVariants.{Trim}
use Rattle.pyd_board.specs.declared.event.Event.{Event}
use Rattle.pyd_board.specs.Histories.{entries}
use Rattle.pyd_ir.specs.declared.node.Node.{Node}
use Rattle.pyd_lineage.specs.Lineage.{Reaches, AreThose}
use Rattle.pyd_runs.specs.Plans.{Plan, IsSeat}
use Rattle.pyd_runs.specs.Losses.{due_at}
use Rattle.pyd_runs.specs.Effects.{State, acted, happens, trimmed}
use Rattle.pyd_runs.specs.Enabled.{CanTrim}
use Rattle.pyd_runs.specs.Replay.{IsLegalFrom}
use Rattle.pyd_runs.specs.Sound.{IsFresh}
use Rattle.pyd_runs.specs.Following.{TrimmedLaw, SparedLaw, TrimsLaw, trims, IsSpared}
use Rattle.pyd_runs.proofs.Putting.{same_test}
use Rattle.pyd_runs.proofs.Without.{here, behind, is_left}
use Rattle.pyd_runs.proofs.Standing.{AreApart, past_apart}
use Rattle.pyd_runs.proofs.Trimming.{still_reached}
use Rattle.pyd_runs.proofs.Lineage.{reaches_same}

-- a Trim leaves what others may be trimmed
pub can_still : TrimmedLaw
unfolding acted trimmed
can_still p s seat k j can other = record {
  node = can.node;
  stands = is_left k s.graph.past can.node can.stands (λ z. other (sym can.number ∙ z));
  number = can.number;
  unreached = λ r. can.unreached (still_reached k s.graph j r);
}

-- so does a loss
pub can_spared : SparedLaw
can_spared s machine j can = record {
  node = can.node;
  stands = can.stands;
  number = can.number;
  unreached = λ r. can.unreached r;
}

-- a number that isn't among some
abbrev Differs : ℕ → List ℕ → Type 0
Differs k [] = Unit {0}
Differs k (j ∷ ks) = (j ≢ k) × Differs k ks

-- each of some nodes may be trimmed, and no number comes twice
abbrev MayTrim : State → List ℕ → Type 0
MayTrim s [] = Unit {0}
MayTrim s (k ∷ ks) = CanTrim s k × Differs k ks × MayTrim s ks

-- a number that no node of a list has isn't among those of some of its nodes
fresh_those : (IsSo : Node → Type 0) (k : ℕ) (xs : List Node) (ks : List ℕ) → IsFresh k xs
    → AreThose IsSo xs ks → Differs k ks
fresh_those IsSo k [] ks fresh none = subst (Differs k) (sym none) tt
fresh_those IsSo k (x ∷ xs) ks fresh (inl a) =
    let more = a.1 in
    subst (Differs k) (sym more.1) (fresh.0, fresh_those IsSo k xs more.0 fresh.1 more.2)
fresh_those IsSo k (x ∷ xs) ks fresh (inr b) = fresh_those IsSo k xs ks fresh.1 b.1

-- the nodes of a part of the past that aren't reached
those_may : (s : State) (xs : List Node) (ks : List ℕ)
    → ((n : Node) → Contains xs n → Contains s.graph.past n) → AreApart xs
    → AreThose (λ (x : Node). Reaches s.graph.past s.graph.chain [] x.id → ⊥) xs ks
    → MayTrim s ks
those_may s [] ks within apart none = subst (MayTrim s) (sym none) tt
those_may s (x ∷ xs) ks within apart (inl a) =
    let more = a.1 in
    subst (MayTrim s) (sym more.1) (
      record {
        node = x;
        stands = within x (here x xs);
        number = refl;
        unreached = λ r. a.0 ((reaches_same s.graph x.id).0 r);
      },
      fresh_those (λ (y : Node). Reaches s.graph.past s.graph.chain [] y.id → ⊥) x.id xs more.0
          apart.0 more.2,
      those_may s xs more.0 (λ n at. within n (behind x xs n at)) apart.1 more.2,
    )
those_may s (x ∷ xs) ks within apart (inr b) =
    those_may s xs ks (λ n at. within n (behind x xs n at)) apart.1 b.1

-- behind a Trim all others may still be trimmed
still_may : (p : Plan) (s : State) (seat k : ℕ) (ks : List ℕ) → Differs k ks → MayTrim s ks
    → MayTrim (acted p s seat (Trim k)) ks
still_may p s seat k [] apart may = tt
still_may p s seat k (j ∷ ks) apart may =
    (can_still p s seat k j may.0 apart.0, may.1, still_may p s seat k ks apart.1 may.2)

-- and the journal says nothing of it
same_may : (p : Plan) (s : State) (e : Event) (ks : List ℕ) → MayTrim (acted p s e.by e.act) ks
    → MayTrim (happens p s e) ks
unfolding happens
same_may p s e [] may = tt
same_may p s e (j ∷ ks) may = (
  record {
    node = may.0.node;
    stands = may.0.stands;
    number = may.0.number;
    unreached = λ r. may.0.unreached r;
  },
  may.1,
  same_may p s e ks may.2,
)

-- one entry more of a seat
pub one_more : (seat : ℕ) (es : List Event) (e : Event) → e.by ≡ seat
    → entries seat (es ++ e ∷ []) ≡ suc (entries seat es)
one_more seat es e by =
    let test : Event → ℕ = λ (x : Event). cond (x.by == seat) 1 0 in
    let parts = sum_by-append test es (e ∷ []) in
    let last = sum_by-cons test e [] in
    let one = ap {B = ℕ} (λ b. cond b 1 0) (same_test e.by seat by) in
    omega (arith, parts, last, one)

-- where so many more events bring no loss, one fewer bring none behind one
spared_on : (es : List Event) (e : Event) (i : ℕ)
    → length es + suc i ≡ length (es ++ e ∷ []) + i
spared_on es e i = let all = length-append es (e ∷ []) in omega (arith, all)

trims_from : (p : Plan) (s : State) (seat nth : ℕ) (ks : List ℕ) → IsSeat p seat
    → s.graph.end ≡ None → nth ≡ entries seat s.journal → MayTrim s ks → IsSpared (length ks) s
    → IsLegalFrom p s (trims seat nth ks)
unfolding IsLegalFrom happens acted trimmed
trims_from p s seat nth [] is_seat goes is may spared = tt
trims_from p s seat nth (k ∷ ks) is_seat goes is may spared =
    let e : Event = record { by = seat; nth = nth; act = Trim k } in
    let s2 : State = happens p s e in
    let same : length s.journal + 0 ≡ length s.journal = omega arith in
    let now : due_at (length s.journal) s.losses ≡ None
    = subst (λ i. due_at i s.losses ≡ None) same (spared 0 (omega arith)) in (
      record {
        seat = is_seat;
        nth = is;
        act = (record { goes_on = goes; none_due = now }, may.0);
      },
      trims_from p s2 seat (suc nth) ks is_seat goes
          (ap suc is ∙ sym (one_more seat s.journal e refl))
          (same_may p s e ks (still_may p s seat k ks may.1 may.2))
          (λ i low. subst (λ n. due_at n s.losses ≡ None) (spared_on s.journal e i)
          (spared (suc i) (omega (arith, low)))),
    )

-- the law
pub trims_row : TrimsLaw
trims_row p s seat ks sound is_seat goes those spared =
    trims_from p s seat (entries seat s.journal) ks is_seat goes refl
    (those_may s s.graph.past ks (λ n at. at) (past_apart s.graph.past sound.graph.ordered) those)
    spared
