-- What a sink holds behind bytes that were put one after another.
use Rattle.std.proofs.Common.{◌≡◌, ◌+◌, ◌≤◌, ℕ, List, [], ◌++◌, append_assoc, append-nil, length, length-append, Option, Some, None, option_map, refl, ap, sym, subst, ◌∙◌, arith}
use Rattle.std.specs.Prelude.{encode_utf8_all, ◌∷◌}
use Rattle.std.proofs.lemmas.List.Concat.{flat_map-append}
use Rattle.pyd_meaning.specs.Module.{bytes_of}
use Rattle.pyd_source.specs.Content.{Added, Exceeds, Lowered}
use Rattle.pyd_source.specs.Faults.{Rose}
use Rattle.pyd_steps.specs.declared.told.Told.{Told}
use Rattle.pyd_steps.specs.Sinks.{Puts}

-- the bytes of lines, and then of others
pub bytes_more : (lines more : List (List ℕ))
    → bytes_of (lines ++ more) ≡ bytes_of lines ++ bytes_of more
unfolding bytes_of
bytes_more lines more = flat_map-append (λ line. encode_utf8_all line ++ 10 ∷ []) lines more

-- no lines have no bytes
pub bytes_none : bytes_of [] ≡ []
unfolding bytes_of
bytes_none = refl

-- bytes were added, and then others
pub added_more : (a b c : Option (List ℕ)) (first more : List ℕ) → Added a first b
    → Added b more c → Added a (first ++ more) c
added_more None None c first more one other = other
added_more None (Some b) c first more one other = absurd (cc (one))
added_more (Some a) None c first more one other = absurd (cc (one))
added_more (Some a) (Some b) c first more one other =
    let same : b ≡ a ++ first = cc (one) in
    other ∙ ap (λ held. Some (held ++ more)) same
    ∙ ap (λ held. Some held) (append_assoc a first more)

-- none were added
pub added_none : (a : Option (List ℕ)) → Added a [] a
added_none None = refl
added_none (Some a) = ap (λ held. Some held) (sym (append-nil a))

-- room was used, and then more
pub lowered_more : (a b c : Option ℕ) (first more : ℕ) → Lowered a first b → Lowered b more c
    → Lowered a (first + more) c
lowered_more a b None first more one other = one ∙ ap (option_map (λ room. room + first)) other
lowered_more a b (Some c) first more one other =
    one ∙ ap (option_map (λ room. room + first)) other
    ∙ ap (λ room. Some room) (omega arith)

-- none was used
pub lowered_none : (a : Option ℕ) → Lowered a 0 a
lowered_none None = refl
lowered_none (Some a) = ap (λ room. Some room) (omega arith)

-- what was put, and then more
pub puts_more : (a b c : Told) (first more : List ℕ) → Puts a first b → Puts b more c
    → Puts a (first ++ more) c
puts_more a b c first more one other = record {
  held = added_more a.held b.held c.held first more one.held other.held;
  room = subst (λ n. Lowered a.room n c.room) (sym (length-append first more))
      (lowered_more a.room b.room c.room (length first) (length more) one.room other.room);
  sure = other.sure ∙ one.sure;
  count = (let was = one.count in let now = other.count in omega (arith, was, now));
}

-- nothing was put
pub puts_none : (a : Told) → Puts a [] a
puts_none a = record {
  held = added_none a.held;
  room = lowered_none a.room;
  sure = refl;
  count = omega arith;
}

-- a count that rose behind another
pub rose_behind : (a b c : ℕ) → a ≤ b → Rose b c → Rose a c
rose_behind a b c was rose = omega (arith, was, rose)

-- what is more than the room that is left is more than the room that there was
pub exceeds_before : (a b : Option ℕ) (first more all : ℕ) → Lowered a first b → Exceeds more b
    → first + more ≤ all → Exceeds all a
exceeds_before None b first more all one more_than fits = tt
exceeds_before (Some a) None first more all one more_than fits = absurd (cc (one))
exceeds_before (Some a) (Some b) first more all one more_than fits =
    let same : a ≡ b + first = cc (one) in
    omega (arith, same, more_than, fits)
