-- The input of a run, where the source tells it and where it doesn't.
use Rattle.std.proofs.Common.{◌≡◌, ℕ, ◌+◌, ◌<◌, List, [], ◌++◌, length, refl, ap, ◌∙◌, arith, length-append, append-nil, Option, Some, None, IfSome, ◌≤◌}
use Rattle.std.specs.Option.{option_map}
use Rattle.pyd_source.specs.Content.{Taken, TookExactly, Emptied}
use Rattle.pyd_grammar.specs.Limits.{longest_source}
use Rattle.pyd_top.specs.Streams.{Stream, IsRead}

-- the input is this, where it is told
abbrev pub IsTold : Option (List ℕ) → List ℕ → Type 0
IsTold left input = IfSome left (λ bytes. bytes ≡ input)

-- an input for whatever is told
pub some_input : (left : Option (List ℕ)) → (input : List ℕ) × IsTold left input
some_input None = ([], tt)
some_input (Some bytes) = (bytes, refl)

the_same : (a b : List ℕ) → (let o : Option (List ℕ) = Some a in o) ≡ Some b → a ≡ b
the_same a b e = cc

-- what was read to the end is the input
pub input_read : (left after : Option (List ℕ)) (bytes : List ℕ) → Taken left bytes after → Emptied left after → IsTold left bytes
input_read None after bytes taken emptied = tt
input_read (Some told) after bytes taken emptied =
    the_same told bytes (taken ∙ ap (option_map (λ rest. bytes ++ rest)) emptied ∙ ap Some (append-nil bytes))

longer : (told taken : List ℕ) (after : Option (List ℕ)) (n : ℕ) → length taken ≡ n + 1 → (let o : Option (List ℕ) = Some told in o) ≡ option_map (λ rest. taken ++ rest) after → n < length told
longer told taken None n count e = let never : (let o : Option (List ℕ) = Some told in o) ≡ None = e in absurd cc
longer told taken (Some rest) n count e =
    let same = the_same told (taken ++ rest) e in omega (arith, ap length same, length-append taken rest)

-- where more than n bytes were taken, the input has more
pub input_long : (left after : Option (List ℕ)) (n : ℕ) → TookExactly left (n + 1) after → (input : List ℕ) × IsTold left input × (n < length input)
input_long None after n took = (took.0, tt, omega (arith, took.1))
input_long (Some told) after n took = (told, refl, longer told took.0 after n took.1 took.2)

-- an input that fits, read to its end
pub is_read : (input : List ℕ) (source : Stream) → length input ≤ longest_source → Emptied source.before source.after → IsRead input source
is_read input source fits emptied = record { whole = λ _. emptied; long = λ long. absurd (omega arith) }

-- a longer one, read a byte past the limit
pub is_read_long : (input : List ℕ) (source : Stream) → longest_source < length input → TookExactly source.before (longest_source + 1) source.after → IsRead input source
is_read_long input source long took = record { whole = λ fits. absurd (omega arith); long = λ _. took }
