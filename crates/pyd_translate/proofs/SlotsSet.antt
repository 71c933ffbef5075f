-- A name's slot is set where it is a local, and slots are the ports of a composite.
use Rattle.std.proofs.Common.{◌≡◌, ℕ, zero, suc, ◌+◌, ◌<◌, ◌≤◌, List, [], ◌∷◌, ◌++◌, take, take_all, length, Bool, true, false, if◌then◌else◌, ◌||◌, ◌⊎◌, inl, inr, Some, refl, sym, ap, ◌∙◌, arith}
use Rattle.std.specs.Borrow.{Bor}
use Rattle.std.specs.List.{slice_set}
use Rattle.pyd_value.specs.declared.value.Value.{Value}
use Rattle.pyd_tree.specs.declared.file.File.{File}
use Rattle.pyd_names.specs.Binding.{is_among, same_name, locals}
use Rattle.pyd_names.specs.Resolution.{Resolution, resolved, resolved_outside}
use Rattle.pyd_names.specs.Resolution as resolution
use Rattle.pyd_scope.specs.declared.routine.Routine.{Routine}
use Rattle.pyd_scope.specs.declared.uses.Use.{Use}
use Rattle.pyd_scope.specs.declared.uses.Use.TheVariants as uses
use Rattle.pyd_scope.specs.Parts.{routines}
use Rattle.pyd_scope.specs.Places.{place}
use Rattle.pyd_scope.specs.Resolving.{resolution_of, slots_in}
use Rattle.std.specs.Prelude.{slice_get}
use Rattle.pyd_scope.proofs.Resolved.{slots}
use Rattle.pyd_ir.specs.declared.arg.Arg.{Arg}
use Rattle.pyd_ir.specs.declared.arg.Arg.TheVariants.{Slot, Unbound}
use Rattle.pyd_translate.specs.Making.{port}
use Rattle.pyd_translate.specs.Slots.{set_slot, slot_ports, unbound_slots}
use Rattle.pyd_translate.proofs.Operands.{HasNoValue}
use Rattle.pyd_translate.proofs.SlotPlaces.{slot_put}

-- a local's slot is set at its place
pub local_set : (file : File) (rs : List Routine) (k : ℕ) (name : List ℕ) (env : List Arg) (b : Arg) (i : ℕ)
    → rs ≡ routines file → place (slots_in (slice_get rs k)) name ≡ Some i
    → slice_set env i b ≡ set_slot (locals file k) env name b
local_set file rs k name env b i are is =
    slot_put (locals file k) env name b i
    (ap (λ (ns : List (List ℕ)). place ns name) (sym (slots file rs k are)) ∙ is)

not_here : (t : Bool) (slots : List (List ℕ)) (env : List Arg) (name : List ℕ) (a b : Arg)
    → (is_among slots name ≡ false → set_slot slots env name b ≡ env)
    → (t || is_among slots name) ≡ false
    → (if t then b ∷ env else a ∷ set_slot slots env name b) ≡ a ∷ env
not_here true slots env name a b later absent = absurd (cc absent)
not_here false slots env name a b later absent = ap (λ xs. a ∷ xs) (later absent)

-- no slot has the name
not_there : (slots : List (List ℕ)) (env : List Arg) (name : List ℕ) (b : Arg)
    → is_among slots name ≡ false → set_slot slots env name b ≡ env
not_there [] env name b absent = refl
not_there (slot ∷ slots) [] name b absent = refl
not_there (slot ∷ slots) (a ∷ env) name b absent =
    not_here (same_name name slot) slots env name a b (not_there slots env name b) absent

no_local : (l : Bool) (r s : Resolution) → s ≡ (if l then resolution.Local else r)
    → ¬ (s ≡ resolution.Local) → l ≡ false
no_local true r s is other = absurd (other is)
no_local false r s is other = refl

-- a use that is no slot
abbrev pub IsNoSlot : Use → Type 0
IsNoSlot u = ((v : Bor Value) × (u ≡ uses.Constant v)) ⊎ HasNoValue u

-- it is no local
never_local : (u : Use) → IsNoSlot u → ¬ (resolution_of u ≡ resolution.Local)
never_local u (inl (v, is)) e =
    let h : resolution.Constant v.now ≡ resolution.Local = sym (ap resolution_of is) ∙ e in cc
never_local u (inr (inl (k, is))) e =
    let h : resolution.Function k ≡ resolution.Local = sym (ap resolution_of is) ∙ e in cc
never_local u (inr (inr (inl (b, is)))) e =
    let h : resolution.Builtin b ≡ resolution.Local = sym (ap resolution_of is) ∙ e in cc
never_local u (inr (inr (inr (inl is)))) e =
    let h : resolution.Imported ≡ resolution.Local = sym (ap resolution_of is) ∙ e in cc
never_local u (inr (inr (inr (inr (inl is))))) e =
    let h : resolution.Variable ≡ resolution.Local = sym (ap resolution_of is) ∙ e in cc
never_local u (inr (inr (inr (inr (inr is))))) e =
    let h : resolution.Unbound ≡ resolution.Local = sym (ap resolution_of is) ∙ e in cc

-- what is no local leaves the slots
pub other_set : (file : File) (k : ℕ) (name : List ℕ) (u : Use) (env : List Arg) (b : Arg)
    → resolution_of u ≡ resolved file k name → IsNoSlot u
    → env ≡ set_slot (locals file k) env name b
other_set file k name u env b is none =
    sym (not_there (locals file k) env name b
    (no_local (is_among (locals file k) name) (resolved_outside file name) (resolution_of u) is
    (never_local u none)))

-- one port more
pub ports_more : {A : Type 0} (id p n : ℕ) (names : List A) → n < length names
    → take (suc n) (slot_ports id p names) ≡ take n (slot_ports id p names) ++ Slot (port id (p + n)) ∷ []
ports_more id p n [] some = absurd (omega (arith, some))
ports_more id p zero (x ∷ names) some =
    let e : p ≡ p + 0 = omega arith in
    ap (λ m. Slot (port id m) ∷ []) e
ports_more id p (suc n) (x ∷ names) some =
    let less : n < length names = omega (arith, some) in
    let e : suc p + n ≡ p + suc n = omega arith in
    ap (λ ports. Slot (port id p) ∷ ports) (ports_more id (suc p) n names less)
    ∙ ap (λ m. Slot (port id p) ∷ (take n (slot_ports id (suc p) names) ++ Slot (port id m) ∷ [])) e

-- the next of all ports
pub ports_next : {A : Type 0} (id n : ℕ) (names : List A) (env new : List Arg) → n < length names
    → env ≡ take n (slot_ports id 0 names) → new ≡ env ++ Slot (port id n) ∷ []
    → new ≡ take (n + 1) (slot_ports id 0 names)
ports_next id n names env new some is more =
    let e : n + 1 ≡ suc n = omega arith in
    let here : 0 + n ≡ n = omega arith in
    more ∙ (λ i. is i ++ Slot (port id (sym here i)) ∷ [])
    ∙ sym (ports_more id 0 n names some) ∙ ap (λ m. take m (slot_ports id 0 names)) (sym e)

ports_all : {A : Type 0} (id p : ℕ) (names : List A)
    → take (length names) (slot_ports id p names) ≡ slot_ports id p names
ports_all id p [] = refl
ports_all id p (x ∷ names) = ap (λ ports. Slot (port id p) ∷ ports) (ports_all id (suc p) names)

-- all ports
pub ports_done : {A : Type 0} (id n : ℕ) (names : List A) (env : List Arg) → n ≡ length names
    → env ≡ take n (slot_ports id 0 names) → env ≡ slot_ports id 0 names
ports_done id n names env all is =
    is ∙ ap (λ m. take m (slot_ports id 0 names)) all ∙ ports_all id 0 names

unbound_more : {A : Type 0} (n : ℕ) (names : List A) → n < length names
    → unbound_slots (take (suc n) names) ≡ unbound_slots (take n names) ++ Unbound ∷ []
unbound_more n [] some = absurd (omega (arith, some))
unbound_more zero (x ∷ names) some = refl
unbound_more (suc n) (x ∷ names) some =
    let less : n < length names = omega (arith, some) in
    ap (λ args. Unbound ∷ args) (unbound_more n names less)

-- the next slot that isn't bound
pub unbound_next : {A : Type 0} (names : List A) (n : ℕ) (args new : List Arg) → n < length names
    → args ≡ unbound_slots (take n names) → new ≡ args ++ Unbound ∷ []
    → new ≡ unbound_slots (take (n + 1) names)
unbound_next names n args new some is more =
    let e : n + 1 ≡ suc n = omega arith in
    more ∙ ap (λ before. before ++ Unbound ∷ []) is ∙ sym (unbound_more n names some)
    ∙ ap (λ m. unbound_slots (take m names)) (sym e)

-- all slots
pub unbound_done : {A : Type 0} (names : List A) (n : ℕ) (args : List Arg) → length names ≤ n
    → args ≡ unbound_slots (take n names) → args ≡ unbound_slots names
unbound_done names n args all is = is ∙ ap unbound_slots (take_all n names all)
