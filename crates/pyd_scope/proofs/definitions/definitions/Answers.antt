use Rattle.std.proofs.Common.{◌≡◌, ℕ, List, ◌++◌, Bool, not, ◌&&◌, true, drop, length, ◌≤◌, ◌∙◌, ap, sym}
use Rattle.std.specs.List.{flat_map}
use Rattle.std.proofs.lemmas.List.{append-nil}
use Rattle.std.proofs.Math.ListN.{drop_of_length-le}
use Rattle.pyd_tree.specs.declared.file.Item.{Item}
use Rattle.pyd_names.specs.Binding as names
use Rattle.pyd_names.specs.declared.binding.Binding.{Binding}
use Rattle.pyd_scope.specs.Once.{has_once}
use Rattle.pyd_scope.specs.Rules as rule
use Rattle.pyd_scope.proofs.Counting.{once_tells}
use Rattle.pyd_scope.proofs.definitions.definitions.Goals as goal

-- what is defined once no item is left
whole : (once once' : List ℕ → Bool) (early : Bool) (items items' : List Item) (i : ℕ) (out : List Binding)
    → ((q : List ℕ) → once q ≡ once' q) → items ≡ items' → length items ≤ i
    → flat_map rule.definition (names.lines_from once true items) ≡ out ++ flat_map rule.definition (names.lines_from once early (drop i items))
    → out ≡ flat_map rule.definition (names.lines_from once' true items')
whole once once' early items items' i out same listed past is =
    sym (append-nil out)
    ∙ ap (λ (rest : List Item). out ++ flat_map rule.definition (names.lines_from once early rest)) (sym (drop_of_length-le items past))
    ∙ sym is
    ∙ ap (λ (f : List ℕ → Bool). flat_map rule.definition (names.lines_from f true items)) (λ k q. same q k)
    ∙ ap (λ (is : List Item). flat_map rule.definition (names.lines_from once' true is)) listed

pub returns : goal.returns
returns c =
    whole (has_once c.in_ok-once.once) (names.binds_once c.args.file.now) c.loop-item.early c.as_slice-item-items.result.now c.args.file.now.items c.loop-item.item-index c.loop-item.out
    (λ q.
    ap (λ (ns : List (List ℕ)). names.is_among ns q && not (names.is_among c.in_ok-once.once.again q)) c.in_ok-once.ensures.bound
    ∙ ap (λ (ns : List (List ℕ)). names.is_among (names.statement_names c.args.file.now) q && not (names.is_among ns q)) c.in_ok-once.ensures.again
    ∙ once_tells q (names.statement_names c.args.file.now))
    c.as_slice-item-items.ensures c.loop-item-test.false c.loop-item.invariant
