-- A placer that keeps its calls, as its callers see it.
use Rattle.std.specs.Prelude.{◌∷◌, [], ◌++◌, ℕ, List, Option, Some, None, cond, length, nat_lt}
use Rattle.pyd_board.specs.declared.placer.Asked.{Asked}
use Rattle.pyd_board.specs.declared.round_robin.RoundRobin.{RoundRobin}

-- the placer that answers, how many calls are told at most, and the calls so far where they are told
pub record Noted : Type 0 where
  pub inner : RoundRobin
  pub room : ℕ
  pub calls : Option (List Asked)

-- the calls that are told after one more: all of them, or none where they are more than the room
abbrev pub noted : ℕ → Option (List Asked) → Asked → Option (List Asked)
noted room None entry = None
noted room (Some calls) entry = cond (nat_lt (length calls) room) (Some (calls ++ entry ∷ [])) None
