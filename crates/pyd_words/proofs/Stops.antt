-- What an error of `clap` tells of the words.
use Rattle.std.proofs.Common.{◌≡◌, ◌==◌, true, not, [], ◌∷◌, length, ap, inl, inr, arith}
use Rattle.std.proofs.lemmas.Bool.{ne_eqb}
use Rattle.clap.specs.Words.{HasKind, Kinds, kind_of}
use Rattle.clap.specs.declared.error.Error.{Error}
use Rattle.clap.specs.declared.error.kind.ErrorKind.{ErrorKind}
use Rattle.pyd_words.specs.declared.fault.WordsStop.{WordsStop}
use Rattle.pyd_words.specs.declared.fault.WordsStop.TheVariants.{Fault, NoMemory}
use Rattle.pyd_words.specs.Answers.{IsStopOf, StopsLine}

-- a list with an item has a length
not_empty : (k : ErrorKind) (ks : Kinds) → not (length (k ∷ ks) == 0) ≡ true
not_empty k ks = ap not (ne_eqb (length (k ∷ ks)) 0 (λ e. absurd (omega arith)))

-- an error other than want of memory comes only where a kind does
pub stops_line : (kinds : Kinds) (e : Error) (stop : WordsStop) → HasKind kinds e → IsStopOf (kind_of e) stop → StopsLine (not (length kinds == 0)) stop
stops_line kinds e NoMemory h s = tt
stops_line [] e (Fault f) h s = elim h [ inl memory ↦ absurd (s.1 memory) | inr none ↦ absurd none ]
stops_line (k ∷ ks) e (Fault f) h s = (s.0, not_empty k ks)
