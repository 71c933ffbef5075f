-- Which nodes the chain reaches through arguments, which of them have to be run, and which past ones may be dropped.
use Rattle.std.specs.Prelude.{◌≡◌, ℕ, nat_eq, List, [], ◌∷◌, ◌++◌, map, Bool, true, false, Contains, ◌⊎◌}
use Rattle.std.specs.List.{flat_map, list_any, IsDistinct}
use Rattle.pyd_ir.specs.declared.arg.Arg.{Arg}
use Rattle.pyd_ir.specs.declared.arg.Arg.TheVariants.{Known, From, Slot, Unbound}
use Rattle.pyd_ir.specs.declared.node.Node.{Node}
use Rattle.pyd_ir.specs.declared.work.Work.{Work}
use Rattle.pyd_ir.specs.Arguments.{arguments, is_pure}

-- the node whose port an argument names, by its number
abbrev pub named_by : Arg → List ℕ
named_by (Known v) = []
named_by (From at) = at.node ∷ []
named_by (Slot at) = at.node ∷ []
named_by Unbound = []

-- the nodes that the arguments in the fields of a node name
abbrev pub named_nodes : Work → List ℕ
named_nodes w = flat_map named_by (arguments w)

-- whether a number is among some
abbrev pub is_among : List ℕ → ℕ → Bool
is_among numbers n = list_any (nat_eq n) numbers

-- whether an argument of a node names the node of a number
abbrev pub names : Node → ℕ → Bool
names x n = is_among (named_nodes x.work) n

-- the numbers of the nodes that the chain reaches through the arguments of nodes that aren't known
pub data Reaches (past chain : List Node) (known : List ℕ) : ℕ → Type 0 where
  by_chain : (x : Node) (n : ℕ) → Contains chain x → is_among known x.id ≡ false
      → names x n ≡ true → Reaches past chain known n
  by_past : (x : Node) (n : ℕ) → Contains past x → Reaches past chain known x.id
      → is_among known x.id ≡ false → names x n ≡ true → Reaches past chain known n

-- a node of the chain, or a past one that the chain reaches
abbrev pub IsInUse : List Node → List Node → Node → Type 0
IsInUse past chain x = Contains chain x ⊎ Reaches past chain [] x.id

-- where an argument of a node in use names a node of the list, that node stands earlier
abbrev pub NamesEarlier : (Node → Type 0) → List Node → Type 0
NamesEarlier InUse [] = Unit {0}
NamesEarlier InUse (x ∷ xs) =
    (InUse x → (y : Node) → Contains (x ∷ xs) y → names x y.id ≡ false) × NamesEarlier InUse xs

-- the numbers of the nodes differ, and each node in use names only nodes that stand earlier
pub record IsInOrder (past chain : List Node) : Type 0 where
  pub differ : IsDistinct nat_eq (map (λ x. x.id) (past ++ chain))
  pub earlier : NamesEarlier (IsInUse past chain) (past ++ chain)

-- these are the numbers of those nodes of a list that are so, in its order
abbrev pub AreThose : (Node → Type 0) → List Node → List ℕ → Type 0
AreThose IsSo [] numbers = numbers ≡ []
AreThose IsSo (x ∷ xs) numbers =
    (IsSo x × ((more : List ℕ) × (numbers ≡ x.id ∷ more) × AreThose IsSo xs more))
    ⊎ ((IsSo x → ⊥) × AreThose IsSo xs numbers)

-- a pure leaf that isn't known, and that stands in the chain or is reached by it
pub record IsNeeded (past chain : List Node) (known : List ℕ) (x : Node) : Type 0 where
  pub leaf : is_pure x.work ≡ true
  pub unknown : is_among known x.id ≡ false
  pub asked : Contains chain x ⊎ Reaches past chain known x.id

-- the nodes that have to be run, some being known
abbrev pub AreNeeded : List Node → List Node → List ℕ → List ℕ → Type 0
AreNeeded past chain known numbers = AreThose (IsNeeded past chain known) (past ++ chain) numbers

-- the past nodes that no node of the chain reaches
abbrev pub AreUnreached : List Node → List Node → List ℕ → Type 0
AreUnreached past chain numbers = AreThose (λ x. Reaches past chain [] x.id → ⊥) past numbers
