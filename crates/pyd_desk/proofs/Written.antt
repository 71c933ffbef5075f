-- A desk with a mark that was written.
use Rattle.std.proofs.Common.{◌≡◌, ℕ, ◌<◌, List, length, set, Bool, option_map, ap, ◌∙◌}
use Rattle.pyd_store.specs.Outcomes.{Outcomes}
use Rattle.pyd_runs.specs.Desks as runs
use Rattle.pyd_runs.specs.Desks.{put_at}
use Rattle.pyd_desk.specs.declared.desk.Desk.{Desk}
use Rattle.pyd_desk.specs.declared.desk.Mark.{Mark}
use Rattle.pyd_desk.specs.declared.desk.Undone.{Undone}
use Rattle.pyd_desk.specs.Desks.{blank, claim_by, desk_of, kept_in, mark_at, placed_of, undone_by, undone_in}
use Rattle.pyd_desk.proofs.Numbers.{put_or, through}

-- the marks with one of them written
pub put_mark : (marks : List Mark) (k : ℕ) (m : Mark) → k < length marks
    → mark_at (set marks k m) ≡ put_at (mark_at marks) k m
put_mark marks k m within = put_or marks k m blank within

-- a desk as a function of its marks
abbrev pub desk_by : List Outcomes → List Bool → List Undone → (ℕ → Mark) → runs.Desk
desk_by stores alive undone at = record {
  stores = λ k. kept_in stores k (at k).machine;
  places = λ k. (at k).places;
  ticket = λ k. option_map placed_of (at k).ticket;
  claim = λ k. claim_by alive (at k).claim;
  undone = λ k attempt. undone_by alive attempt (at k).claim (undone_in undone k attempt);
}

-- a desk with other marks
abbrev pub with_marks : Desk → (ℕ → Mark) → runs.Desk
with_marks d at = desk_by d.stores.items d.alive.items d.undone.items at

-- a desk as before, with this written at a number
abbrev pub written : Desk → ℕ → Mark → runs.Desk
written d k m = record {
  stores = put_at (desk_of d).stores k (kept_in d.stores.items k m.machine);
  places = put_at (desk_of d).places k m.places;
  ticket = put_at (desk_of d).ticket k (option_map placed_of m.ticket);
  claim = put_at (desk_of d).claim k (claim_by d.alive.items m.claim);
  undone = put_at (desk_of d).undone k
      (λ attempt. undone_by d.alive.items attempt m.claim (undone_in d.undone.items k attempt));
}

-- a desk whose mark was written has it written at the number
pub put_written : (d : Desk) (k : ℕ) (m : Mark)
    → with_marks d (put_at (mark_at d.marks.items) k m) ≡ written d k m
put_written d k m = λ i. record {
  stores = through (λ n x. kept_in d.stores.items n x.machine) (mark_at d.marks.items) k m i;
  places = through (λ n x. x.places) (mark_at d.marks.items) k m i;
  ticket = through (λ n x. option_map placed_of x.ticket) (mark_at d.marks.items) k m i;
  claim = through (λ n x. claim_by d.alive.items x.claim) (mark_at d.marks.items) k m i;
  undone = through (λ n x attempt. undone_by d.alive.items attempt x.claim
      (undone_in d.undone.items n attempt)) (mark_at d.marks.items) k m i;
}

-- so is that of a vector of marks with one of them set
pub set_written : (d : Desk) (items : List Mark) (k : ℕ) (m : Mark) → k < length d.marks.items
    → items ≡ set d.marks.items k m
    → with_marks d (mark_at items) ≡ written d k m
set_written d items k m within e =
    ap (λ xs. with_marks d (mark_at xs)) e
    ∙ ap (with_marks d) (put_mark d.marks.items k m within) ∙ put_written d k m
