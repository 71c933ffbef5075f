-- A name is in the first set where the bindings so far have it, and in the second where they have it twice or more.
use Rattle.std.proofs.Common.{◌≡◌, ℕ, List, take, count_by, nat_le}
use Rattle.std.specs.BTreeSet.{contains}
use Rattle.std.specs.Cmp.Lexicographic.{slice_cmp}
use Rattle.std.specs.Ordering.{nat_cmp}
use Rattle.pyd_names.specs.Binding.{same_name, names_of}
use Rattle.pyd_names.proofs.once.Once.of.Given as goal

abbrev pub invariant-loop-binding : goal.invariant-loop-binding
invariant-loop-binding l =
    record {
      bound : (q : List ℕ) → contains (slice_cmp nat_cmp) l.bound q ≡ nat_le 1 (count_by (same_name q) (names_of (take l.binding-index l.bindings)));
      again : (q : List ℕ) → contains (slice_cmp nat_cmp) l.again q ≡ nat_le 2 (count_by (same_name q) (names_of (take l.binding-index l.bindings)));
    }
