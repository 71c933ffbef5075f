-- An act is determined by the first letter of its name and by its fields.
use Rattle.std.proofs.Common.{◌≡◌, ℕ, ◌≤◌, List, [], ◌∷◌, ◌++◌, length, get_or, refl, ap, sym, ◌∙◌, arith, false}
use Rattle.std.proofs.lemmas.List.{append_cancel_left}
use Rattle.std.proofs.lemmas.List.Elements.{All-from_recursion}
use Rattle.std.specs.Prelude.{if◌then◌else◌, ◌==◌}
use Rattle.std.specs.List.{All}
use Rattle.pyd_board.specs.declared.event.Act.{Act}
use Rattle.pyd_board.specs.declared.event.Act.TheVariants.{Place, Claim, Finish, Drop, Refine, Settle, Lose, Trim}
use Rattle.pyd_trace.specs.Text.{act_name, act_fields, fields_text}
use Rattle.pyd_trace.specs.Reading.{IsAct}
use Rattle.pyd_trace.specs.Guessing.{has_space}
use Rattle.pyd_trace.proofs.Digits.{Wide, same_fields}

-- the act whose name begins with this letter
abbrev pub act_at : ℕ → ℕ → ℕ → ℕ → ℕ → Act
act_at letter node attempt machine only =
    if letter == 80 then Place node attempt machine else
    if letter == 67 then Claim node attempt machine else
    if letter == 70 then Finish node attempt machine else
    if letter == 68 then Drop node attempt machine else
    if letter == 82 then Refine node else
    if letter == 83 then Settle node else
    if letter == 76 then Lose only else Trim node

abbrev pub initial : Act → ℕ
initial act = get_or (act_name act) 0 0

-- the fields of an act are within the widest type
pub wide_fields : (act : Act) → IsAct act → All Wide (act_fields act)
wide_fields (Place n a m) is = All-from_recursion Wide (n ∷ a ∷ m ∷ []) (is.0, (is.1, (omega (arith, is.2), tt)))
wide_fields (Claim n a m) is = All-from_recursion Wide (n ∷ a ∷ m ∷ []) (is.0, (is.1, (omega (arith, is.2), tt)))
wide_fields (Finish n a m) is = All-from_recursion Wide (n ∷ a ∷ m ∷ []) (is.0, (is.1, (omega (arith, is.2), tt)))
wide_fields (Drop n a m) is = All-from_recursion Wide (n ∷ a ∷ m ∷ []) (is.0, (is.1, (omega (arith, is.2), tt)))
wide_fields (Refine n) is = All-from_recursion Wide (n ∷ []) (is, tt)
wide_fields (Settle n) is = All-from_recursion Wide (n ∷ []) (is, tt)
wide_fields (Lose m) is = All-from_recursion Wide (m ∷ []) (omega (arith, is), tt)
wide_fields (Trim n) is = All-from_recursion Wide (n ∷ []) (is, tt)

-- an act has at most three fields
pub few_fields : (act : Act) → length (act_fields act) ≤ 3
few_fields (Place n a m) = omega arith
few_fields (Claim n a m) = omega arith
few_fields (Finish n a m) = omega arith
few_fields (Drop n a m) = omega arith
few_fields (Refine n) = omega arith
few_fields (Settle n) = omega arith
few_fields (Lose m) = omega arith
few_fields (Trim n) = omega arith

-- no name has a space
pub no_space_in_name : (act : Act) → has_space (act_name act) ≡ false
no_space_in_name (Place n a m) = refl
no_space_in_name (Claim n a m) = refl
no_space_in_name (Finish n a m) = refl
no_space_in_name (Drop n a m) = refl
no_space_in_name (Refine n) = refl
no_space_in_name (Settle n) = refl
no_space_in_name (Lose m) = refl
no_space_in_name (Trim n) = refl

-- a name isn't empty
pub begins_name : (act : Act) (rest : List ℕ) → (more : List ℕ) × (act_name act ++ rest ≡ initial act ∷ more)
begins_name (Place n a m) rest = (_, refl)
begins_name (Claim n a m) rest = (_, refl)
begins_name (Finish n a m) rest = (_, refl)
begins_name (Drop n a m) rest = (_, refl)
begins_name (Refine n) rest = (_, refl)
begins_name (Settle n) rest = (_, refl)
begins_name (Lose m) rest = (_, refl)
begins_name (Trim n) rest = (_, refl)

-- names that begin alike are one
name_at : (act : Act) → act_name (act_at (initial act) 0 0 0 0) ≡ act_name act
name_at (Place n a m) = refl
name_at (Claim n a m) = refl
name_at (Finish n a m) = refl
name_at (Drop n a m) = refl
name_at (Refine n) = refl
name_at (Settle n) = refl
name_at (Lose m) = refl
name_at (Trim n) = refl

-- an act from its letter and its fields
abbrev act_with : ℕ → List ℕ → Act
act_with letter numbers = act_at letter (get_or numbers 0 0) (get_or numbers 1 0) (get_or numbers 2 0) (get_or numbers 0 0)

act_is : (act : Act) → act_with (initial act) (act_fields act) ≡ act
act_is (Place n a m) = refl
act_is (Claim n a m) = refl
act_is (Finish n a m) = refl
act_is (Drop n a m) = refl
act_is (Refine n) = refl
act_is (Settle n) = refl
act_is (Lose m) = refl
act_is (Trim n) = refl

-- the letters of two acts in front of one text are one
same_initials : (a b : Act) (r s : List ℕ) → act_name a ++ r ≡ act_name b ++ s → initial a ≡ initial b
same_initials a b r s e =
    let first = begins_name a r in
    let second = begins_name b s in
    let both : initial a ∷ first.0 ≡ initial b ∷ second.0 = sym first.1 ∙ e ∙ second.1 in cc

-- two acts in front of one text are one
pub same_act : (a b : Act) (r s : List ℕ) → IsAct a → IsAct b → act_name a ++ (fields_text (act_fields a) ++ 10 ∷ r) ≡ act_name b ++ (fields_text (act_fields b) ++ 10 ∷ s) → (a ≡ b) × (r ≡ s)
same_act a b r s p q e =
    let letters = same_initials a b _ _ e in
    let names : act_name a ≡ act_name b = sym (name_at a) ∙ ap (λ l. act_name (act_at l 0 0 0 0)) letters ∙ name_at b in
    let behind = append_cancel_left (act_name b) _ _ (ap (λ name. name ++ (fields_text (act_fields a) ++ 10 ∷ r)) (sym names) ∙ e) in
    let fields = same_fields (act_fields a) (act_fields b) r s (wide_fields a p) (wide_fields b q) behind in
    (sym (act_is a) ∙ ap (λ l. act_with l (act_fields a)) letters ∙ ap (λ ns. act_with (initial b) ns) fields.0 ∙ act_is b, fields.1)
