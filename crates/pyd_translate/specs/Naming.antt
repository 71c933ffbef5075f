-- Which nodes may be named, by their numbers.
use Rattle.std.specs.Prelude.{◌≡◌, ℕ, ◌≤◌, ◌<◌, suc, List, [], ◌∷◌, Bool, true}
use Rattle.pyd_ir.specs.declared.arg.Arg.{Arg}
use Rattle.pyd_ir.specs.declared.arg.Arg.TheVariants.{Known, From, Slot, Unbound}
use Rattle.pyd_ir.specs.declared.node.Node.{Node}
use Rattle.pyd_ir.specs.Arguments.{arguments}

-- which numbers may be named
abbrev pub Numbers : Type 0
Numbers = ℕ → Bool

-- an argument names one of these
abbrev pub IsAmong : Numbers → Arg → Type 0
IsAmong known (Known v) = Unit {0}
IsAmong known (From r) = known r.node ≡ true
IsAmong known (Slot r) = known r.node ≡ true
IsAmong known Unbound = Unit {0}

-- all arguments do
abbrev pub AreAmong : Numbers → List Arg → Type 0
AreAmong known [] = Unit {0}
AreAmong known (a ∷ args) = IsAmong known a × AreAmong known args

-- by the number of a node what it may name: what a node before it may, and each node before it from a base on; and the nodes whose slot ports may be named
pub record Naming : Type 0 where
  pub base : ℕ
  pub may : ℕ → Numbers
  pub slots : Numbers
  pub up : (m n k : ℕ) → m ≤ n → may m k ≡ true → may n k ≡ true
  pub made : (n k : ℕ) → base ≤ k → k < n → may n k ≡ true

-- an argument names what a node of this number may name
abbrev pub IsNamed : Naming → ℕ → Arg → Type 0
IsNamed naming n (Known v) = Unit {0}
IsNamed naming n (From r) = naming.may n r.node ≡ true
IsNamed naming n (Slot r) = (naming.may n r.node ≡ true) × (naming.slots r.node ≡ true)
IsNamed naming n Unbound = Unit {0}

-- all arguments do
abbrev pub AreAllNamed : Naming → ℕ → List Arg → Type 0
AreAllNamed naming n [] = Unit {0}
AreAllNamed naming n (a ∷ args) = IsNamed naming n a × AreAllNamed naming n args

-- nodes that are numbered one after another from a number on, each naming only what it may
abbrev pub AreNamed : Naming → ℕ → List Node → Type 0
AreNamed naming ids [] = Unit {0}
AreNamed naming ids (n ∷ ns) =
    (n.id ≡ ids) × AreAllNamed naming ids (arguments n.work) × AreNamed naming (suc ids) ns
