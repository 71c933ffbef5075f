-- How the nodes that the chain reaches are marked: by a set of numbers, from the end of the list on.
use Rattle.std.specs.Prelude.{◌≡◌, ℕ, List, [], ◌∷◌, ◌++◌, map, Bool, cond, not, ◌&&◌, ◌||◌}
use Rattle.std.specs.List.{filter, flat_map}
use Rattle.std.specs.BTreeSet.{BTreeSet, contains}
use Rattle.std.specs.Ordering.{nat_cmp}
use Rattle.pyd_ir.specs.declared.node.Node.{Node}
use Rattle.pyd_ir.specs.Arguments.{is_pure}
use Rattle.pyd_lineage.specs.Lineage.{named_nodes, is_among}

-- whether a set has a number
abbrev pub has : BTreeSet ℕ → ℕ → Bool
has set n = contains nat_cmp set n

-- the set has these numbers
abbrev pub IsSetOf : BTreeSet ℕ → List ℕ → Type 0
IsSetOf set numbers = (n : ℕ) → has set n ≡ is_among numbers n

-- the set has these numbers and those that it had
abbrev pub Adds : BTreeSet ℕ → BTreeSet ℕ → List ℕ → Type 0
Adds old new numbers = (n : ℕ) → has new n ≡ (is_among numbers n || has old n)

-- the numbers that nodes of the chain name, but those of nodes that are known
abbrev pub chain_names : (ℕ → Bool) → List Node → List ℕ
chain_names known xs = flat_map (λ x. cond (known x.id) [] (named_nodes x.work)) xs

-- those that a past node names, where it is named itself and isn't known, before those behind it
abbrev pub with_names : (ℕ → Bool) → Node → List ℕ → List ℕ
with_names known x behind =
    cond (is_among behind x.id && not (known x.id)) (named_nodes x.work ++ behind) behind

-- the same of each past node, from the last one on
abbrev pub past_names : (ℕ → Bool) → List Node → List ℕ → List ℕ
past_names known [] behind = behind
past_names known (x ∷ xs) behind = with_names known x (past_names known xs behind)

-- all numbers that are named so
abbrev pub reached_names : List Node → List Node → (ℕ → Bool) → List ℕ
reached_names past chain known = past_names known past (chain_names known chain)

-- the numbers of the nodes that pass a test
abbrev pub numbers_where : (Node → Bool) → List Node → List ℕ
numbers_where test xs = map (λ x. x.id) (filter test xs)

-- whether a node is a pure leaf that a set doesn't have
abbrev pub is_missing : BTreeSet ℕ → Node → Bool
is_missing known x = is_pure x.work && not (has known x.id)

-- whether it is one that another set has
abbrev pub is_missed : BTreeSet ℕ → BTreeSet ℕ → Node → Bool
is_missed known reached x = is_missing known x && has reached x.id

-- whether a set doesn't have a node
abbrev pub is_left_out : BTreeSet ℕ → Node → Bool
is_left_out reached x = not (has reached x.id)
