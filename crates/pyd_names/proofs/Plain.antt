-- The names of the builtins are plain bytes.
use Rattle.std.proofs.Common.{◌≡◌, ℕ, true, cond, List, [], ◌∷◌, encode_utf8_all, Some, refl, sym, ◌∙◌, ap}
use Rattle.std.specs.Str.{chars}
use Rattle.std.specs.Char.{is_ascii}
use Rattle.std.specs.List.{list_all}
use Rattle.std.specs.Map.{lookup}
use Rattle.pyd_value.proofs.Ascii.{own_bytes}
use Rattle.pyd_value.specs.declared.operator.Builtin.{Builtin}
use Rattle.pyd_names.specs.Binding.{same_name}
use Rattle.pyd_names.specs.Resolution.{builtins, builtin_named}
use Rattle.pyd_names.proofs.Names.{same_is, is_same, both_ways}

-- each name is its own bytes
abbrev Plain : List (List ℕ × Builtin) → Type 0
Plain [] = Unit {0}
Plain (e ∷ es) = (chars e.0 ≡ e.0) × ((list_all is_ascii e.0 ≡ true) × Plain es)

-- a plain name is the same as the bytes of a name where it is the same as the name
same_bytes : (name bytes key : List ℕ) → chars bytes ≡ name → bytes ≡ encode_utf8_all name → chars key ≡ key → encode_utf8_all key ≡ key
    → same_name bytes key ≡ same_name name key
same_bytes name bytes key characters coded plain own =
    both_ways (same_name bytes key) (same_name name key)
    (λ h. is_same name key (sym characters ∙ ap chars (same_is bytes key h) ∙ plain))
    (λ h. is_same bytes key (coded ∙ ap encode_utf8_all (same_is name key h) ∙ own))

lookup_bytes : (name bytes : List ℕ) (es : List (List ℕ × Builtin)) → chars bytes ≡ name → bytes ≡ encode_utf8_all name → Plain es
    → lookup (same_name bytes) es ≡ lookup (same_name name) es
lookup_bytes name bytes [] characters coded plain = refl
lookup_bytes name bytes (e ∷ es) characters coded plain =
    ap (λ b. cond b (Some e.1) (lookup (same_name bytes) es)) (same_bytes name bytes e.0 characters coded plain.0 (own_bytes e.0 plain.1.0))
    ∙ ap (λ rest. cond (same_name name e.0) (Some e.1) rest) (lookup_bytes name bytes es characters coded plain.1.1)

plain_builtins : Plain builtins
unfolding chars
plain_builtins = (refl, (refl, (refl, (refl, (refl, (refl, (refl, (refl, (refl, (refl, (refl, (refl, (refl, (refl, (refl, (refl, (refl, (refl, (refl, (refl, (refl, (refl, tt))))))))))))))))))))))

-- a builtin is found by the bytes of its name
pub builtin_bytes : (name bytes : List ℕ) → chars bytes ≡ name → bytes ≡ encode_utf8_all name → builtin_named bytes ≡ builtin_named name
builtin_bytes name bytes characters coded = lookup_bytes name bytes builtins characters coded plain_builtins
