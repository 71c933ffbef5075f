-- Composites that may be refined, by their places in the chain.
use Rattle.std.specs.Prelude.{◌≡◌, ◌<◌, ℕ, suc, List, [], ◌∷◌, Bool, cond, Option, Some, None}
use Rattle.std.specs.List.{slice_get}
use Rattle.pyd_board.specs.declared.event.Act.TheVariants.{Refine}
use Rattle.pyd_ir.specs.declared.node.Node.{Node}
use Rattle.pyd_translate.specs.declared.piece.Piece.{Piece}
use Rattle.pyd_runs.specs.Enabled.{CanRefine}
use Rattle.pyd_runs.specs.Growth.{piece_for}
use Rattle.pyd_runs.specs.Records.{recorded}
use Rattle.pyd_desk.specs.Lines.{chain_of}
use Rattle.pyd_core.specs.declared.keeper.Core.{Core}
use Rattle.pyd_core.specs.Cores.{plan_of, state_of}
use Rattle.pyd_core.specs.Steps.{Makes}

-- the node at a place of the chain may be refined
pub record IsRefinableAt (c : Core) (at : ℕ) : Type 0 where
  pub node : Node
  pub there : slice_get (chain_of c.line) at ≡ Some node
  pub may : CanRefine (plan_of c) (state_of c) node.id

-- no node may be refined
abbrev pub NoneRefinable : Core → Type 0
NoneRefinable c = (k : ℕ) → CanRefine (plan_of c) (state_of c) k → ⊥

-- the node at a place of the chain may be refined, and none before it
pub record IsFirstRefinable (c : Core) (at : ℕ) : Type 0 where
  pub is : IsRefinableAt c at
  pub none_before : (b : ℕ) (n : Node) → b < at → slice_get (chain_of c.line) b ≡ Some n
      → CanRefine (plan_of c) (state_of c) n.id → ⊥

-- the place, counted from a number on, of the first node that passes a test
abbrev pub first_place_from : (Node → Bool) → ℕ → List Node → Option ℕ
first_place_from test k [] = None
first_place_from test k (n ∷ ns) = cond (test n) (Some k) (first_place_from test (suc k) ns)

-- a piece is that of the node at a place of the chain
abbrev pub IsPieceAt : Core → ℕ → Piece → Type 0
IsPieceAt c at piece = (n : Node) → slice_get (chain_of c.line) at ≡ Some n
    → piece ≡ piece_for (plan_of c)
    (recorded (state_of c).graph (state_of c).desk.stores) (state_of c).graph.next n

-- a core comes from another by a seat's Refine of the node at a place of the chain
abbrev pub RefinesAt : Core → Core → ℕ → ℕ → Type 0
RefinesAt old new seat at = (n : Node) → slice_get (chain_of old.line) at ≡ Some n
    → Makes old new seat (Refine n.id)
