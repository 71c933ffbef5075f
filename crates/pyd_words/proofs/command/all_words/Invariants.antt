use Rattle.std.proofs.Common.{◌≡◌, ◌∷◌, codes, map, string_bytes, take}
use Rattle.pyd_words.proofs.command.all_words.Given as goal

abbrev pub invariant-loop-word : goal.invariant-loop-word
invariant-loop-word l = map (λ z. z.now) l.all.items ≡ codes "pydron" ∷ map string_bytes (take l.word-index l.words)
