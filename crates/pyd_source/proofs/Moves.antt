-- How what two calls move adds up.
use Rattle.std.proofs.Common.{◌≡◌, ◌∙◌, ap, sym, subst, arith, ℕ, ◌+◌, ◌-◌, ◌≤◌, List, ◌++◌, length, take, drop, append_assoc, length-append, length-drop, take-append-drop}
use Rattle.std.proofs.lemmas.List.{take_all, drop-drop}
use Rattle.std.proofs.Math.Seq.{take-add}
use Rattle.std.specs.Prelude.{Option, None, Some, option_map}
use Rattle.pyd_source.specs.Content.{Taken, TookExactly, TookAtMost, Added, Lowered}

pub taken_more : (a b c : Option (List ℕ)) (xs ys : List ℕ) → Taken a xs b → Taken b ys c → Taken a (xs ++ ys) c
taken_more a b None xs ys first more = first ∙ ap (option_map (λ rest. xs ++ rest)) more
taken_more a b (Some left) xs ys first more = first ∙ ap (option_map (λ rest. xs ++ rest)) more ∙ ap Some (sym (append_assoc xs ys left))

-- what was taken before a last call and in it
pub took_exactly : (a b c : Option (List ℕ)) (xs : List ℕ) (more all : ℕ) → Taken a xs b → TookExactly b more c → length xs + more ≡ all → TookExactly a all c
took_exactly a b c xs more all first last size =
    (xs ++ last.0, length-append xs last.0 ∙ ap (λ n. length xs + n) last.1 ∙ size, taken_more a b c xs last.0 first last.2)

pub took_at_most : (a b c : Option (List ℕ)) (xs ys : List ℕ) (all : ℕ) → Taken a xs b → Taken b ys c → length xs + length ys ≤ all → TookAtMost a all c
took_at_most a b c xs ys all first last size =
    (xs ++ ys, omega (arith, length-append xs ys, size), taken_more a b c xs ys first last)

pub added_more : (a b c : Option (List ℕ)) (xs ys : List ℕ) → Added a xs b → Added b ys c → Added a (xs ++ ys) c
added_more None b c xs ys first more = more ∙ ap (option_map (λ held. held ++ ys)) first
added_more (Some held) b c xs ys first more = more ∙ ap (option_map (λ held. held ++ ys)) first ∙ ap Some (append_assoc held xs ys)

pub lowered_more : (a b c : Option ℕ) (m n : ℕ) → Lowered a m b → Lowered b n c → Lowered a (m + n) c
lowered_more a b None m n first more = first ∙ ap (option_map (λ room. room + m)) more
lowered_more a b (Some left) m n first more = first ∙ ap (option_map (λ room. room + m)) more ∙ ap Some (omega arith)

-- what hasn't gone out, as a slice to its end
rest : (bytes : List ℕ) (gone : ℕ) → take (length bytes - gone) (drop gone bytes) ≡ drop gone bytes
rest bytes gone = take_all _ _ (omega (arith, length-drop gone bytes))

pub gone_within : (bytes : List ℕ) (gone count : ℕ) → gone ≤ length bytes → count ≤ length (take (length bytes - gone) (drop gone bytes)) → gone + count ≤ length bytes
gone_within bytes gone count within took = omega (arith, within, took, ap length (rest bytes gone), length-drop gone bytes)

pub gone_more : (bytes : List ℕ) (gone count : ℕ) → take gone bytes ++ take count (take (length bytes - gone) (drop gone bytes)) ≡ take (gone + count) bytes
gone_more bytes gone count =
    ap (λ (more : List ℕ). take gone bytes ++ take count more) (rest bytes gone) ∙ sym (take-add gone count bytes)

-- a slice to its end is the front of it that was copied, and then the rest
pub copied_front : (slice bytes front : List ℕ) (at count : ℕ) → slice ≡ bytes → front ≡ take count (take (length slice - at) (drop at slice)) → drop at bytes ≡ front ++ drop (at + count) bytes
copied_front slice bytes front at count same copied =
    let P = λ (l : List ℕ). drop at l ≡ front ++ drop (at + count) l in
    subst P same (
    sym (take-append-drop count (drop at slice))
    ∙ ap (λ (l : List ℕ). l ++ drop count (drop at slice)) (sym (copied ∙ ap (take count) (rest slice at)))
    ∙ ap (λ (l : List ℕ). front ++ l) (drop-drop count at slice))
