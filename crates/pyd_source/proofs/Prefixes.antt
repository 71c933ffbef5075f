-- A part of some bytes that was added, from the first byte on.
use Rattle.std.proofs.Common.{◌∙◌, ap, sym, refl, ℕ, List, [], ◌++◌, take, drop, append_assoc, append-nil, take-append-drop}
use Rattle.std.specs.Prelude.{Option, None, Some}
use Rattle.pyd_source.specs.Content.{Added, AddedPrefix}
use Rattle.pyd_source.proofs.Moves.{added_more}

-- no byte was added
pub added_none : (before : Option (List ℕ)) → Added before [] before
added_none None = refl
added_none (Some held) = ap Some (sym (append-nil held))

-- none of these bytes
pub prefix_none : (before : Option (List ℕ)) (bytes : List ℕ) → AddedPrefix before bytes before
prefix_none before bytes = record { gone = []; rest = bytes; added = added_none before; whole = refl }

-- the first few
pub prefix_take : (before after : Option (List ℕ)) (bytes : List ℕ) (n : ℕ) → Added before (take n bytes) after → AddedPrefix before bytes after
prefix_take before after bytes n added = record { gone = take n bytes; rest = drop n bytes; added = added; whole = take-append-drop n bytes }

-- all of them
pub prefix_all : (before after : Option (List ℕ)) (bytes : List ℕ) → Added before bytes after → AddedPrefix before bytes after
prefix_all before after bytes added = record { gone = bytes; rest = []; added = added; whole = append-nil bytes }

-- a part of the first of two pieces
pub prefix_front : (before after : Option (List ℕ)) (xs ys : List ℕ) → AddedPrefix before xs after → AddedPrefix before (xs ++ ys) after
prefix_front before after xs ys part =
    record { gone = part.gone; rest = part.rest ++ ys; added = part.added; whole = sym (append_assoc part.gone part.rest ys) ∙ ap (λ bytes. bytes ++ ys) part.whole }

-- a piece in full, and then a part of the next
pub prefix_behind : (before mid after : Option (List ℕ)) (xs ys : List ℕ) → Added before xs mid → AddedPrefix mid ys after → AddedPrefix before (xs ++ ys) after
prefix_behind before mid after xs ys first part =
    record {
      gone = xs ++ part.gone;
      rest = part.rest;
      added = added_more before mid after xs part.gone first part.added;
      whole = append_assoc xs part.gone part.rest ∙ ap (λ bytes. xs ++ bytes) part.whole;
    }
