use Rattle.std.proofs.Common.{ℕ, List, [], ◌∷◌, ◌++◌, inl, inr, Bool, not, sym, ◌∙◌, ap}
use Rattle.std.specs.List.{filter, list_any}
use Rattle.std.specs.BTreeSet.{contains}
use Rattle.std.specs.BTreeMap.{is_at}
use Rattle.std.specs.Cmp.Lexicographic.{slice_cmp}
use Rattle.std.specs.Ordering.{nat_cmp}
use Rattle.pyd_names.specs.Binding.{distinct}
use Rattle.pyd_names.proofs.Names.{added_here, not_true, not_false}
use Rattle.pyd_names.proofs.Turns.{turn_by_test, nothing_seen}
use Rattle.pyd_names.proofs.locals.distinct.Goals as goal
use Rattle.pyd_names.proofs.locals.distinct.Goals.{then-branch+in_ok-name+in_ok-add, else-branch}

pub loop-name-init : goal.loop-name-init
loop-name-init c =
    ap (λ out. out ++ filter (λ m. not (contains (slice_cmp nat_cmp) c.new-seen.result m)) (distinct c.args.names.now)) c.new-out.ensures
    ∙ nothing_seen (contains (slice_cmp nat_cmp) c.new-seen.result) (λ q. ap (list_any (is_at (slice_cmp nat_cmp q))) c.new-seen.ensures.empty) (distinct c.args.names.now)

pub loop-name-preserved : goal.loop-name-preserved
loop-name-preserved c =
    let key = c.in_ok-key.ensures in
    let seen : List ℕ → Bool = contains (slice_cmp nat_cmp) c.loop-name.seen in
    turn_by_test c.args.names.now c.loop-name.out c.if-branch.out (distinct c.args.names.now) c.loop-name.name-index c.name-item.result
    seen (contains (slice_cmp nat_cmp) c.insert.new.self)
    c.loop-name-test.true c.name-item.is
    (added_here c.in_ok-key.key c.name-item.result seen (contains (slice_cmp nat_cmp) c.insert.new.self) key c.in_ok-insert.ensures.updates.0)
    c.loop-name.invariant
    (elim c.if-branch.branch [
      | then-branch+in_ok-name+in_ok-add w ↦
          inl (
            ap seen (sym key) ∙ not_true (seen c.in_ok-key.key) (sym c.in_ok-insert.ensures.added ∙ w.if-branch.true),
            w.out-is ∙ w.in_ok-add.ensures.ok ∙ ap (λ n. c.loop-name.out ++ n ∷ []) w.in_ok-name.ensures,
          )
      | else-branch w ↦
          inr (ap seen (sym key) ∙ not_false (seen c.in_ok-key.key) (sym c.in_ok-insert.ensures.added ∙ w.if-branch.false), w.out-is)
    ])
