-- Stores, tickets and claims, by node.
use Rattle.std.specs.Prelude.{ℕ, ◌==◌, if◌then◌else◌, Option, None}
use Rattle.pyd_ir.specs.declared.job.Job.{Job}
use Rattle.pyd_meaning.specs.declared.ran.Ran.{Ran}

-- a record, in the store of a machine
pub record Kept : Type 0 where
  pub machine : ℕ
  pub ran : Ran

-- a ticket for an attempt, placed on a machine
pub record Placed : Type 0 where
  pub attempt : ℕ
  pub machine : ℕ

-- a claim of an attempt, by a seat of a machine, with its job
pub record Held : Type 0 where
  pub attempt : ℕ
  pub machine : ℕ
  pub seat : ℕ
  pub job : Job

-- the records in the stores of machines, by node
abbrev pub Stores : Type 0
Stores = ℕ → Option Kept

-- what stands where
pub record Desk : Type 0 where
  pub stores : Stores
  -- how often each node was placed
  pub places : ℕ → ℕ
  pub ticket : ℕ → Option Placed
  pub claim : ℕ → Option Held
  -- by node and attempt the claims that a loss undid and that weren't dropped since
  pub undone : ℕ → ℕ → Option Held

-- the desk before any event
abbrev pub first_desk : Desk
first_desk = record {
  stores = λ node. None;
  places = λ node. 0;
  ticket = λ node. None;
  claim = λ node. None;
  undone = λ node attempt. None;
}

-- the same, but for one number
abbrev pub put_at : {A : Type 0} → (ℕ → A) → ℕ → A → ℕ → A
put_at f k a n = if n == k then a else f n
