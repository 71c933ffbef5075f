-- What a sink tells behind lines that go out one after another.
use Rattle.std.proofs.Common.{◌≡◌, ◌+◌, ℕ, List, [], ◌∷◌, ◌++◌, append_assoc, append-nil, length, length-append, encode_utf8_all, Option, Some, None, option_map, refl, ap, sym, subst, ◌∙◌, arith}
use Rattle.std.proofs.lemmas.Grind.{flat_map-append}
use Rattle.pyd_source.specs.Content.{Added, Lowered}
use Rattle.pyd_meaning.specs.Module.{bytes_of}
use Rattle.pyd_steps.specs.declared.told.Told.{Told}
use Rattle.pyd_steps.specs.Sinks.{Puts}

added_none : (held : Option (List ℕ)) → Added held [] held
added_none None = refl
added_none (Some bytes) = ap Some (sym (append-nil bytes))

lowered_none : (room : Option ℕ) → Lowered room 0 room
lowered_none None = refl
lowered_none (Some room) = ap Some (omega arith)

added_then : (a b c : Option (List ℕ)) (xs ys : List ℕ) → Added a xs b → Added b ys c
    → Added a (xs ++ ys) c
added_then None b c xs ys one two =
    two ∙ ap (λ o. option_map (λ (held : List ℕ). held ++ ys) o) one
added_then (Some a) b c xs ys one two =
    two ∙ ap (λ o. option_map (λ (held : List ℕ). held ++ ys) o) one
    ∙ ap Some (append_assoc a xs ys)

lowered_then : (a b c : Option ℕ) (m n : ℕ) → Lowered a m b → Lowered b n c → Lowered a (m + n) c
lowered_then a b None m n one two = one ∙ ap (λ o. option_map (λ (room : ℕ). room + m) o) two
lowered_then a b (Some c) m n one two =
    one ∙ ap (λ o. option_map (λ (room : ℕ). room + m) o) two ∙ ap Some (omega arith)

bytes_then : (xs ys : List (List ℕ)) → bytes_of (xs ++ ys) ≡ bytes_of xs ++ bytes_of ys
unfolding bytes_of
bytes_then xs ys = flat_map-append (λ line. encode_utf8_all line ++ 10 ∷ []) xs ys

-- no lines
pub puts_none : (told : Told) → Puts told (bytes_of []) told
unfolding bytes_of
puts_none told = record {
  held = added_none told.held;
  room = lowered_none told.room;
  sure = refl;
  count = omega arith;
}

-- lines behind others
pub puts_then : (a b c : Told) (xs ys : List (List ℕ)) → Puts a (bytes_of xs) b
    → Puts b (bytes_of ys) c → Puts a (bytes_of (xs ++ ys)) c
puts_then a b c xs ys one two =
    let low = one.count in
    let high = two.count in
    subst (λ bytes. Puts a bytes c) (sym (bytes_then xs ys)) (record {
      held = added_then a.held b.held c.held (bytes_of xs) (bytes_of ys) one.held two.held;
      room = subst (λ n. Lowered a.room n c.room)
          (sym (length-append (bytes_of xs) (bytes_of ys)))
          (lowered_then a.room b.room c.room (length (bytes_of xs)) (length (bytes_of ys))
          one.room two.room);
      sure = two.sure ∙ one.sure;
      count = omega (arith, low, high);
    })
