-- The number of each seat's entries.
use Rattle.std.specs.Prelude.{◌≡◌, ◌<◌, ℕ, get_or, length}
use Rattle.pyd_board.specs.Histories.{entries}
use Rattle.pyd_core.specs.declared.log.Log.{Log}

-- what is counted of each seat is the number of its entries
abbrev pub IsCounted : Log → Type 0
IsCounted log = (seat : ℕ) → seat < length log.counts.items
    → get_or log.counts.items seat 0 ≡ entries seat log.journal.items
