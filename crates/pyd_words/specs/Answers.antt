-- How an answer keeps to its definition.
use Rattle.std.specs.Prelude.{◌≡◌, ◌≢◌, ⊤, Bool, true, Result, Ok, Err}
use Rattle.clap.specs.declared.error.kind.ErrorKind.{ErrorKind}
use Rattle.clap.specs.declared.error.kind.ErrorKind.TheVariants.{OutOfMemory}
use Rattle.pyd_words.specs.declared.fault.WordsFault.{WordsFault}
use Rattle.pyd_words.specs.declared.fault.WordsFault.TheVariants.{Line}
use Rattle.pyd_words.specs.declared.fault.WordsStop.{WordsStop}
use Rattle.pyd_words.specs.declared.fault.WordsStop.TheVariants.{Fault, NoMemory}

-- the answer is the one that is meant, unless memory runs out
abbrev pub Answers : {A : Type 0} → Result A WordsFault → Result A WordsStop → Type 0
Answers meant (Ok x) = meant ≡ Ok x
Answers meant (Err (Fault fault)) = meant ≡ Err fault
Answers meant (Err NoMemory) = ⊤

-- the stop tells of words that are no command line, and of nothing else but want of memory
abbrev pub StopsLine : Bool → WordsStop → Type 0
StopsLine refused (Fault fault) = (fault ≡ Line) × (refused ≡ true)
StopsLine refused NoMemory = ⊤

-- an error of `clap` is want of memory where it says so, and otherwise tells of words that are no command line
abbrev pub IsStopOf : ErrorKind → WordsStop → Type 0
IsStopOf kind (Fault fault) = (fault ≡ Line) × (kind ≢ OutOfMemory)
IsStopOf kind NoMemory = kind ≡ OutOfMemory
