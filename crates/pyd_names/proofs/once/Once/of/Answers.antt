use Rattle.std.proofs.Common.{◌≡◌, ℕ, List, Bool, take, count_by, sym, ◌∙◌, ap}
use Rattle.std.specs.BTreeSet.{contains}
use Rattle.std.specs.Cmp.Lexicographic.{slice_cmp}
use Rattle.std.specs.Ordering.{nat_cmp}
use Rattle.pyd_names.specs.Binding.{same_name, names_of}
use Rattle.pyd_names.proofs.Names.{added_here, not_true, not_false}
use Rattle.pyd_names.proofs.Counting.{count_more, bound_more, again_new, again_old}
use Rattle.pyd_names.proofs.once.Once.of.Goals as goal
use Rattle.pyd_names.proofs.once.Once.of.Goals.{then-not-branch+in_ok-name-2+in_ok-insert-2, else-not-branch}

pub loop-binding-preserved : goal.loop-binding-preserved
loop-binding-preserved c =
    let x = c.binding-item.result.name in
    let has : List ℕ → Bool = contains (slice_cmp nat_cmp) c.loop-binding.bound in
    let again : List ℕ → Bool = contains (slice_cmp nat_cmp) c.loop-binding.again in
    let count : List ℕ → ℕ = λ q. count_by (same_name q) (names_of (take c.loop-binding.binding-index c.args.bindings.now)) in
    record {
      bound =
          λ q. bound_more q x (has q) _ (count q) _ (c.loop-binding.invariant.bound q)
          (count_more q c.args.bindings.now c.loop-binding.binding-index c.binding-item.result c.loop-binding-test.true c.binding-item.is)
          (added_here c.in_ok-name.name x has (contains (slice_cmp nat_cmp) c.insert.new.self) c.in_ok-name.ensures c.in_ok-insert.ensures.updates.0 q);
      again =
          λ q.
          let more = count_more q c.args.bindings.now c.loop-binding.binding-index c.binding-item.result c.loop-binding-test.true c.binding-item.is in
          let here : has c.in_ok-name.name ≡ has x = ap has c.in_ok-name.ensures in
          elim c.if-not-branch.branch [
            | then-not-branch+in_ok-name-2+in_ok-insert-2 w ↦
                again_old q x count (again q) _ _
                (sym (c.loop-binding.invariant.bound x) ∙ sym here ∙ not_false (has c.in_ok-name.name) (sym c.in_ok-insert.ensures.added ∙ w.if-not-branch.true))
                (c.loop-binding.invariant.again q) more
                (ap (λ s. contains (slice_cmp nat_cmp) s q) w.again-is
                ∙ added_here w.in_ok-name-2.name x again (contains (slice_cmp nat_cmp) w.insert-then-not-branch.new.self) w.in_ok-name-2.ensures w.in_ok-insert-2.ensures.updates.0 q)
            | else-not-branch w ↦
                again_new q x count (again q) _ _
                (sym (c.loop-binding.invariant.bound x) ∙ sym here ∙ not_true (has c.in_ok-name.name) (sym c.in_ok-insert.ensures.added ∙ w.if-not-branch.false))
                (c.loop-binding.invariant.again q) more
                (ap (λ s. contains (slice_cmp nat_cmp) s q) w.again-is)
          ];
    }
