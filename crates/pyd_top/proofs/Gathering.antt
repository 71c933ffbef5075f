-- Lines that are put one after another, of which some wait.
use Rattle.std.proofs.Common.{◌≡◌, ℕ, ◌+◌, ◌<◌, List, [], ◌∷◌, ◌++◌, length, slice_index_or, take, drop, ap, sym, ◌∙◌, subst, append_assoc, append-nil, take-append-drop, Option, encode_utf8_all}
use Rattle.std.proofs.lemmas.Grind.{flat_map-append}
use Rattle.std.proofs.lemmas.List.{take_more}
use Rattle.pyd_source.specs.Content.{Added, AddedPrefix}
use Rattle.pyd_source.proofs.Moves.{added_more}
use Rattle.pyd_source.proofs.Prefixes.{added_none, prefix_front}
use Rattle.pyd_meaning.specs.Module.{bytes_of}
use Rattle.pyd_top.specs.Lines.{line_bytes, Gathers}

bytes_of-append : (lines more : List (List ℕ)) → bytes_of (lines ++ more) ≡ bytes_of lines ++ bytes_of more
unfolding bytes_of
bytes_of-append lines more = flat_map-append (λ line. encode_utf8_all line ++ 10 ∷ []) lines more

bytes_of-one : (line : List ℕ) → bytes_of (line ∷ []) ≡ line_bytes line
unfolding bytes_of
bytes_of-one line = append-nil (line_bytes line)

-- the bytes of one line more
bytes_of-more : (lines : List (List ℕ)) (i : ℕ) (line : List ℕ) → i < length lines → line ≡ slice_index_or lines i line
    → bytes_of (take (i + 1) lines) ≡ bytes_of (take i lines) ++ line_bytes line
bytes_of-more lines i line within is =
    ap bytes_of (take_more lines i line within ∙ ap (λ (l : List ℕ). take i lines ++ l ∷ []) (sym is))
    ∙ bytes_of-append (take i lines) (line ∷ []) ∙ ap (λ bytes. bytes_of (take i lines) ++ bytes) (bytes_of-one line)

-- nothing has begun
pub gathers_none : (before : Option (List ℕ)) (waiting : List ℕ) → waiting ≡ [] → Gathers before before waiting (bytes_of [])
unfolding bytes_of
gathers_none before waiting none = record { gone = []; added = added_none before; whole = none }

-- all still waits
pub gathers_wait : (before : Option (List ℕ)) (waiting bytes : List ℕ) → waiting ≡ bytes → Gathers before before waiting bytes
gathers_wait before waiting bytes same = record { gone = []; added = added_none before; whole = same }

-- all that waited was put
pub gathers_put : (before after : Option (List ℕ)) (waiting bytes : List ℕ) → waiting ≡ bytes → Added before waiting after → Gathers before after [] bytes
gathers_put before after waiting bytes same added = record { gone = waiting; added = added; whole = append-nil waiting ∙ same }

both : (gone more waiting line so_far next : List ℕ) → gone ++ waiting ≡ so_far → more ++ next ≡ waiting ++ line → (gone ++ more) ++ next ≡ so_far ++ line
both gone more waiting line so_far next first second =
    append_assoc gone more next ∙ ap (λ bytes. gone ++ bytes) second ∙ sym (append_assoc gone waiting line) ∙ ap (λ bytes. bytes ++ line) first

-- a line more was gathered
pub gathers_more : (before mid after : Option (List ℕ)) (waiting next : List ℕ) (lines : List (List ℕ)) (i : ℕ) (line : List ℕ) → i < length lines → line ≡ slice_index_or lines i line
    → Gathers before mid waiting (bytes_of (take i lines)) → Gathers mid after next (waiting ++ line_bytes line) → Gathers before after next (bytes_of (take (i + 1) lines))
gathers_more before mid after waiting next lines i line within is p q =
    record {
      gone = p.gone ++ q.gone;
      added = added_more before mid after p.gone q.gone p.added q.added;
      whole = both p.gone q.gone waiting (line_bytes line) (bytes_of (take i lines)) next p.whole q.whole ∙ sym (bytes_of-more lines i line within is);
    }

-- a line more was put only in part
pub prefix_more : (before mid after : Option (List ℕ)) (waiting : List ℕ) (lines : List (List ℕ)) (i : ℕ) (line : List ℕ) → i < length lines → line ≡ slice_index_or lines i line
    → Gathers before mid waiting (bytes_of (take i lines)) → AddedPrefix mid (waiting ++ line_bytes line) after → AddedPrefix before (bytes_of lines) after
prefix_more before mid after waiting lines i line within is p q =
    let whole : bytes_of (take (i + 1) lines) ++ bytes_of (drop (i + 1) lines) ≡ bytes_of lines =
    sym (bytes_of-append (take (i + 1) lines) (drop (i + 1) lines)) ∙ ap bytes_of (take-append-drop (i + 1) lines) in
    let part : AddedPrefix before (bytes_of (take (i + 1) lines)) after =
    record {
      gone = p.gone ++ q.gone;
      rest = q.rest;
      added = added_more before mid after p.gone q.gone p.added q.added;
      whole = both p.gone q.gone waiting (line_bytes line) (bytes_of (take i lines)) q.rest p.whole q.whole ∙ sym (bytes_of-more lines i line within is);
    } in
    subst (λ bytes. AddedPrefix before bytes after) whole (prefix_front before after (bytes_of (take (i + 1) lines)) (bytes_of (drop (i + 1) lines)) part)

-- what waited was put too
pub gathered_put : (before mid after : Option (List ℕ)) (waiting bytes : List ℕ) → Gathers before mid waiting bytes → Added mid waiting after → Added before bytes after
gathered_put before mid after waiting bytes p added =
    subst (λ all. Added before all after) p.whole (added_more before mid after p.gone waiting p.added added)

-- what waited was put only in part
pub gathered_prefix : (before mid after : Option (List ℕ)) (waiting bytes : List ℕ) → Gathers before mid waiting bytes → AddedPrefix mid waiting after → AddedPrefix before bytes after
gathered_prefix before mid after waiting bytes p q =
    record {
      gone = p.gone ++ q.gone;
      rest = q.rest;
      added = added_more before mid after p.gone q.gone p.added q.added;
      whole = append_assoc p.gone q.gone q.rest ∙ ap (λ all. p.gone ++ all) q.whole ∙ p.whole;
    }
