-- Which machine a placer answers, which one its answer counts as, and which calls it tells.
use Rattle.std.specs.Prelude.{◌≡◌, ⊤, ◌+◌, ◌^◌, ◌∷◌, [], ◌++◌, ℕ, Bool, false, List, Option, Some, None, cond, drop, take, slice_index_or, unwrap_or}
use Rattle.std.specs.List.{position_from}
use Rattle.pyd_board.specs.declared.placer.Asked.{Asked}

-- a machine's number is below this
abbrev pub NUMBERS : ℕ
NUMBERS = 2 ^ 32

-- the circle: the entries that have a machine's number
abbrev pub circle : List Bool → List Bool
circle alive = take NUMBERS alive

-- the machine lives
abbrev pub lives : List Bool → ℕ → Bool
lives alive machine = slice_index_or alive machine false

-- the least live machine at a place or after it
abbrev pub live_from : List Bool → ℕ → Option ℕ
live_from alive place = position_from (λ alive. alive) place (drop place (circle alive))

-- the least live machine, 0 where no machine lives
abbrev pub least_live : List Bool → ℕ
least_live alive = unwrap_or (live_from alive 0) 0

-- the place behind the machine that was answered last, 0 before the first answer
abbrev pub behind : Option ℕ → ℕ
behind None = 0
behind (Some machine) = machine + 1

-- round robin: the least live machine behind the last one, in circular order
abbrev pub next_live : List Bool → Option ℕ → ℕ
next_live alive last = unwrap_or (live_from alive (behind last)) (least_live alive)

-- the machine that an answer counts as: itself where it lives, else the least live one
abbrev pub placed_on : List Bool → ℕ → ℕ
placed_on alive answer = cond (lives alive answer) answer (least_live alive)

-- what a call does to the calls that are told: it adds its own where they are told before and after it, and what isn't told is never told again
abbrev pub Told : Option (List Asked) → Asked → Option (List Asked) → Type 0
Told None entry after = after ≡ None
Told (Some before) entry None = ⊤
Told (Some before) entry (Some after) = after ≡ before ++ entry ∷ []
