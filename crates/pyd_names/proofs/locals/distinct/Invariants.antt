-- The names so far, and then those that are left and aren't among them, are all, each once.
use Rattle.std.proofs.Common.{◌≡◌, ◌++◌, not, drop}
use Rattle.std.specs.List.{filter}
use Rattle.std.specs.BTreeSet.{contains}
use Rattle.std.specs.Cmp.Lexicographic.{slice_cmp}
use Rattle.std.specs.Ordering.{nat_cmp}
use Rattle.pyd_names.specs.Binding.{distinct}
use Rattle.pyd_names.proofs.locals.distinct.Given as goal

abbrev pub invariant-loop-name : goal.invariant-loop-name
invariant-loop-name l =
    l.out ++ filter (λ m. not (contains (slice_cmp nat_cmp) l.seen m)) (distinct (drop l.name-index l.names)) ≡ distinct l.names
