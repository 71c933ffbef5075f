-- What a change of the books, or of one view, does to the views.
use Rattle.std.proofs.Common.{◌≡◌, ◌≢◌, ◌⊎◌, ℕ, ◌+◌, ◌<◌, ◌≤◌, List, Bool, true, false, true≢false, All, set, refl, sym, ap, ◌∙◌, subst, inl, inr, ⊎_elim, arith}
use mathlib.Core.Option.{some, some-injective}
use lib.ListN.{get_elem?}
use Rattle.atomic_table.proofs.Lists.{at_set}
use Rattle.pyd_board.specs.Histories.{Extends, entries_of}
use Rattle.pyd_board.specs.declared.history.History.{History}
use Rattle.pyd_board.specs.declared.kept.RunName.{RunName}
use Rattle.pyd_board.proofs.Extending.{entries_grow, extends_refl, extends_trans}
use Rattle.pyd_turn.specs.declared.view.Stage.{Stage}
use Rattle.pyd_turn.specs.declared.view.Stage.TheVariants.{Idle, Waits, Holds, Spent}
use Rattle.pyd_turn.specs.declared.view.Tally.{Tally}
use Rattle.pyd_turn.specs.declared.view.View.{View}
use Rattle.pyd_turn.specs.Rule.{Books, Carries, Counts, Turned}
use Rattle.pyd_turn.specs.Seats.{IsLaterOf}
use Rattle.pyd_turn.specs.Views.{either_of, turns_drawn}
use Rattle.pyd_turn.proofs.Writing.{put, put_else, put_here}

abbrev pub has_value : Stage → Bool
has_value (Holds _) = true
has_value _ = false

pub one_turn : (stage : Stage) → turns_drawn stage ≤ 1
one_turn Idle = omega arith
one_turn (Waits turn) = omega arith
one_turn (Holds turn) = omega arith
one_turn Spent = omega arith

-- two views that differ in whether they hold the value aren't in one place
pub elsewhere : (views : List View) (i j : ℕ) (v w : View) → get_elem? views i ≡ some v → get_elem? views j ≡ some w → has_value v.stage ≡ true → has_value w.stage ≡ false → i ≢ j
elsewhere views i j v w at_i at_j holds free same =
    let one : v ≡ w = some-injective v w (sym at_i ∙ (ap (get_elem? views) same ∙ at_j)) in
    true≢false (sym holds ∙ (ap (λ (u : View). has_value u.stage) one ∙ free))

-- a rule about each view, over a change of one
pub each_set : (name : List RunName) (b : Books) (views : List View) (me : ℕ) (w : View) → Carries name b me w → ((j : ℕ) (v : View) → j ≢ me → get_elem? views j ≡ some v → Carries name b j v)
    → (j : ℕ) (v : View) → get_elem? (set views me w) j ≡ some v → Carries name b j v
each_set name b views me w mine others j v e = ⊎_elim (λ (t : (j ≡ me) × (w ≡ v)). subst (λ (x : ℕ × View). Carries name b x.0 x.1) (λ i. (sym t.0 i, t.1 i)) mine)
    (λ (t : (j ≢ me) × (get_elem? views j ≡ some v)). others j v t.0 t.1) (at_set views me j w v e)

-- a further ticket changes nothing for the others
pub drawn_later : (b : Books) (me j : ℕ) (seen : History) → j ≢ me → (stage : Stage) → Turned b j seen stage → Turned (record b { ticket = b.ticket + 1; drawn_by = put b.drawn_by b.ticket me }) j seen stage
drawn_later b me j seen other Idle h = tt
drawn_later b me j seen other (Waits turn) h = let l = h.below in record { below = omega arith; owner = put_else b.drawn_by b.ticket me turn (λ e. omega arith) ∙ h.owner }
drawn_later b me j seen other (Holds turn) h = let l = h.0.below in (record { below = omega arith; owner = put_else b.drawn_by b.ticket me turn (λ e. omega arith) ∙ h.0.owner }, h.1)
drawn_later b me j seen other Spent h = tt

-- a turn that ends changes nothing for the others
pub served_later : (b : Books) (history : History) (me j turn : ℕ) (seen : History) → j ≢ me → b.drawn_by turn ≡ me → turn ≡ b.serving → (stage : Stage) → Turned b j seen stage
    → Turned (record b { history = history; serving = b.serving + 1 }) j seen stage
served_later b history me j turn seen other mine now Idle h = tt
served_later b history me j turn seen other mine now (Waits t) h = h
served_later b history me j turn seen other mine now (Holds t) h = absurd (other (sym h.0.owner ∙ (ap b.drawn_by (h.1.now ∙ sym now) ∙ mine)))
served_later b history me j turn seen other mine now Spent h = tt

-- one more seat changes no other seat's number of entries
pub counts_later : (b : Books) (m n j : ℕ) (seen : History) (t : Tally) → m ≡ b.made → Counts b.counted_by b.made b.history j seen t → Counts (put b.counted_by m n) (b.made + 1) b.history j seen t
counts_later b m n j seen t is h = let l = h.exists in record { owner = put_else b.counted_by m n t.seat (λ e. omega arith) ∙ h.owner; exists = omega arith; then = h.then; now = h.now }

-- the histories after the turns so far, with one more
pub after_one_more : (after : ℕ → History) (now g : History) (serving : ℕ) → after serving ≡ now → ((i j : ℕ) → i ≤ j → j ≤ serving → Extends (after i) (after j)) → Extends now g
    → (i j : ℕ) → i ≤ j → j ≤ serving + 1 → Dec (i ≡ serving + 1) → Dec (j ≡ serving + 1) → Extends (put after (serving + 1) g i) (put after (serving + 1) g j)
after_one_more after now g serving today ordered grown i j low high (yes a) (yes c) = subst (λ (z : History × History). Extends z.0 z.1)
    (λ t. (sym (ap (put after (serving + 1) g) a ∙ put_here after (serving + 1) g) t, sym (ap (put after (serving + 1) g) c ∙ put_here after (serving + 1) g) t)) (extends_refl g)
after_one_more after now g serving today ordered grown i j low high (yes a) (no c) = absurd (c (omega arith))
after_one_more after now g serving today ordered grown i j low high (no a) (yes c) = subst (λ (z : History × History). Extends z.0 z.1)
    (λ t. (sym (put_else after (serving + 1) g i a) t, sym (ap (put after (serving + 1) g) c ∙ put_here after (serving + 1) g) t))
    (extends_trans (after i) now g (subst (Extends (after i)) today (ordered i serving (omega arith) (omega arith))) grown)
after_one_more after now g serving today ordered grown i j low high (no a) (no c) = subst (λ (z : History × History). Extends z.0 z.1)
    (λ t. (sym (put_else after (serving + 1) g i a) t, sym (put_else after (serving + 1) g j c) t)) (ordered i j low (omega arith))

-- a number of entries that is the same before and after is the same between
pub entries_between : (t : Tally) (a b c : History) → Extends a b → Extends b c → entries_of t.seat a ≡ t.entries → entries_of t.seat c ≡ t.entries → entries_of t.seat b ≡ t.entries
entries_between t a b c p q low high = let x = entries_grow t.seat a b p in let y = entries_grow t.seat b c q in omega arith

-- an extension, of histories that are known by their places
pub extends_there : (after : ℕ → History) (c d : History) (i j : ℕ) → c ≡ after i → d ≡ after j → Extends (after i) (after j) → Extends c d
extends_there after c d i j p q h = subst (λ (z : History × History). Extends z.0 z.1) (λ t. (sym p t, sym q t)) h

-- the later of two histories, where the earlier begins it
pub later_of : (t : Bool) (a b : History) → (t ≡ true → Extends b a) → (t ≡ false → Extends a b) → IsLaterOf (either_of t a b) a b × Extends (either_of t b a) (either_of t a b)
later_of true a b back on = (record { one = inl refl; first = extends_refl a; second = back refl }, back refl)
later_of false a b back on = (record { one = inr refl; first = on refl; second = extends_refl b }, on refl)

pub is_later : (t : Bool) (a b : History) → Extends (either_of t b a) (either_of t a b) → IsLaterOf (either_of t a b) a b
is_later true a b h = record { one = inl refl; first = extends_refl a; second = h }
is_later false a b h = record { one = inr refl; first = h; second = extends_refl b }

pub either_saw : (history : History) (t : Bool) (a b : History) → Extends a history → Extends b history → Extends (either_of t a b) history
either_saw history true a b p q = p
either_saw history false a b p q = q

pub either_when : (serving : ℕ) (t : Bool) (m n : ℕ) → m ≤ serving → n ≤ serving → either_of t m n ≤ serving
either_when serving true m n p q = p
either_when serving false m n p q = q

pub either_was : (after : ℕ → History) (t : Bool) (a b : History) (m n : ℕ) → a ≡ after m → b ≡ after n → either_of t a b ≡ after (either_of t m n)
either_was after true a b m n p q = p
either_was after false a b m n p q = q
