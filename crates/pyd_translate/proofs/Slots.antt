-- Binding a slot is binding its name, and the slot ports of a composite give back the names.
use Rattle.std.proofs.Common.{◌≡◌, ℕ, suc, ◌+◌, List, [], ◌∷◌, length, refl, sym, ap, ◌∙◌, arith, Option, Some, None, Bool, true, false, ◌||◌, if◌then◌else◌}
use Rattle.pyd_value.specs.declared.value.Value.{Value}
use Rattle.pyd_names.specs.Binding.{same_name, is_among}
use Rattle.pyd_names.proofs.Names.{same_is, is_same}
use Rattle.pyd_meaning.specs.Names.{Names, no_names, bind}
use Rattle.pyd_ir.specs.declared.arg.Arg.{Arg}
use Rattle.pyd_ir.specs.declared.arg.Arg.TheVariants.{Slot, Unbound}
use Rattle.pyd_ir.specs.Inputs.{Given, value_of}
use Rattle.pyd_ir.specs.Ports.{Ports}
use Rattle.pyd_translate.specs.Making.{port}
use Rattle.pyd_translate.specs.Slots.{arg_of, set_slot, slot_ports, unbound_slots}
use Rattle.pyd_translate.specs.Walk.{give, slot_values}
use Rattle.pyd_translate.specs.Matching.{IsGiven, AreGiven, HasValue, AreSlots}
use Rattle.pyd_translate.proofs.Keeping.{given-has}
use Rattle.pyd_translate.proofs.Emitting.{itself}

-- no name is bound but those of slots
abbrev pub IsWithin : List (List ℕ) → Names → Type 0
IsWithin slots names = (name : List ℕ) → is_among slots name ≡ false → names name ≡ None

outside_if : (t u : Bool) (given : Given) (a b : Arg) → (t || u) ≡ false
    → (u ≡ false → value_of given b ≡ None) → value_of given (if t then a else b) ≡ None
outside_if true u given a b q f = absurd (cc q)
outside_if false u given a b q f = f q

-- what is no slot has no value
arg_outside : (slots : List (List ℕ)) (env : List Arg) (given : Given) (name : List ℕ)
    → is_among slots name ≡ false → value_of given (arg_of slots env name) ≡ None
arg_outside [] env given name e = refl
arg_outside (slot ∷ slots) [] given name e = refl
arg_outside (slot ∷ slots) (a ∷ env) given name e =
    outside_if (same_name name slot) (is_among slots name) given a (arg_of slots env name) e
    (λ q. arg_outside slots env given name q)

-- the names of slots are bound in slots alone
pub slots_within : (slots : List (List ℕ)) (ids : ℕ) (given : Given) (env : List Arg) (names : Names)
    → AreSlots slots ids given env names → IsWithin slots names
slots_within slots ids given env names s name q =
    ap (λ (n : Names). n name) (sym s.bound) ∙ arg_outside slots env given name q

-- a name that is a slot is bound
within_if : (slots : List (List ℕ)) (x y : List ℕ) (t : Bool) (v : Value) (o : Option Value)
    → same_name y x ≡ t → is_among slots x ≡ true → is_among slots y ≡ false → o ≡ None
    → (if t then Some v else o) ≡ None
within_if slots x y true v o q p e n =
    let z = ap (is_among slots) (same_is y x q) in absurd (cc (sym p, sym z, e))
within_if slots x y false v o q p e n = n

-- binding a slot's name binds in slots alone
pub within_bind : (slots : List (List ℕ)) (names : Names) (x : List ℕ) (v : Value)
    → is_among slots x ≡ true → IsWithin slots names → IsWithin slots (bind names x v)
within_bind slots names x v p w y e =
    within_if slots x y (same_name y x) v (names y) refl p e (w y e)

-- binding

count_if : (t : Bool) (xs ys : List Arg) (n : ℕ) → length xs ≡ n → length ys ≡ n
    → length (if t then xs else ys) ≡ n
count_if true xs ys n p q = p
count_if false xs ys n p q = q

-- there are as many arguments as before
pub set_count : (slots : List (List ℕ)) (env : List Arg) (name : List ℕ) (b : Arg)
    → length env ≡ length slots → length (set_slot slots env name b) ≡ length slots
set_count [] env name b e = e
set_count (slot ∷ slots) [] name b e = e
set_count (slot ∷ slots) (a ∷ env) name b e =
    let q : length env ≡ length slots = omega arith in
    count_if (same_name name slot) (b ∷ env) (a ∷ set_slot slots env name b) (suc (length slots)) e
    (ap suc (set_count slots env name b q))

given_list_if : (t : Bool) (ids : ℕ) (given : Given) (xs ys : List Arg) → AreGiven ids given xs
    → AreGiven ids given ys → AreGiven ids given (if t then xs else ys)
given_list_if true ids given xs ys p q = p
given_list_if false ids given xs ys p q = q

-- they are given where the new one is
pub set_given : (slots : List (List ℕ)) (ids : ℕ) (given : Given) (env : List Arg) (name : List ℕ) (b : Arg)
    → AreGiven ids given env → IsGiven ids given b → AreGiven ids given (set_slot slots env name b)
set_given [] ids given env name b p q = p
set_given (slot ∷ slots) ids given [] name b p q = tt
set_given (slot ∷ slots) ids given (a ∷ env) name b p q =
    given_list_if (same_name name slot) ids given (b ∷ env) (a ∷ set_slot slots env name b)
    (q, p.1) (p.0, set_given slots ids given env name b p.1 q)

-- names that a test holds apart
apart : (y x : List ℕ) → same_name y x ≡ false → y ≡ x → ⊥
apart y x e p = let z : same_name y x ≡ true = is_same y x p in cc (e, z)

-- y's argument after x was given b, by the three tests at the head
module _ (given : Given) (x y slot : List ℕ) (a b : Arg) (v : Value) (slots : List (List ℕ))
    (env : List Arg) (has : value_of given b ≡ Some v) where
  abbrev Bound : Bool → Bool → Bool → Type 0
  Bound xs ys yx =
      value_of given (arg_of (slot ∷ slots) (if xs then b ∷ env else a ∷ set_slot slots env x b) y)
      ≡ (if yx then Some v else value_of given (if ys then a else arg_of slots env y))

  bound_head : (xs ys yx : Bool) → same_name x slot ≡ xs → same_name y slot ≡ ys
      → same_name y x ≡ yx
      → (xs ≡ false → value_of given (arg_of slots (set_slot slots env x b) y)
      ≡ (if yx then Some v else value_of given (arg_of slots env y)))
      → Bound xs ys yx
  bound_head true true true p q r more =
      ap (λ t. value_of given (if t then b else arg_of slots env y)) q ∙ has
  bound_head true true false p q r more =
      absurd (apart y x r (same_is y slot q ∙ sym (same_is x slot p)))
  bound_head true false true p q r more =
      absurd (apart y slot q (same_is y x r ∙ same_is x slot p))
  bound_head true false false p q r more =
      ap (λ t. value_of given (if t then b else arg_of slots env y)) q
  bound_head false true true p q r more =
      absurd (apart x slot p (sym (same_is y x r) ∙ same_is y slot q))
  bound_head false true false p q r more =
      ap (λ t. value_of given (if t then a else arg_of slots (set_slot slots env x b) y)) q
  bound_head false false yx p q r more =
      ap (λ t. value_of given (if t then a else arg_of slots (set_slot slots env x b) y)) q ∙ more refl

bound_names : (slots : List (List ℕ)) (env : List Arg) (given : Given) (x : List ℕ) (b : Arg) (v : Value)
    → length env ≡ length slots → is_among slots x ≡ true → value_of given b ≡ Some v → (y : List ℕ)
    → value_of given (arg_of slots (set_slot slots env x b) y)
    ≡ (if same_name y x then Some v else value_of given (arg_of slots env y))
bound_names [] env given x b v l e has y = absurd (cc e)
bound_names (slot ∷ slots) [] given x b v l e has y = absurd (omega arith)
bound_names (slot ∷ slots) (a ∷ env) given x b v l e has y =
    let m : length env ≡ length slots = omega arith in
    bound_head given x y slot a b v slots env has (same_name x slot) (same_name y slot) (same_name y x)
    refl refl refl
    (λ p. bound_names slots env given x b v m (ap (λ t. t || is_among slots x) (sym p) ∙ e) has y)

-- a slot is bound to an argument, and its name to the argument's value
pub slots_bind : (slots : List (List ℕ)) (ids : ℕ) (given : Given) (env : List Arg) (names : Names)
    (x : List ℕ) (a : Arg) (v : Value) → is_among slots x ≡ true
    → AreSlots slots ids given env names → HasValue ids given a v
    → AreSlots slots ids given (set_slot slots env x a) (bind names x v)
slots_bind slots ids given env names x a v p s has = record {
  count = set_count slots env x a s.count;
  all_given = set_given slots ids given env x a s.all_given (given-has ids given a v has);
  bound = λ i y. (bound_names slots env given x a v s.count p has.0 y
      ∙ ap (λ (n : Names). if same_name y x then Some v else n y) s.bound) i;
}

-- slots of which none is bound

unbound_count : (slots : List (List ℕ)) → length (unbound_slots slots) ≡ length slots
unbound_count [] = refl
unbound_count (slot ∷ slots) = ap suc (unbound_count slots)

unbound_given : (slots : List (List ℕ)) (ids : ℕ) (given : Given)
    → AreGiven ids given (unbound_slots slots)
unbound_given [] ids given = tt
unbound_given (slot ∷ slots) ids given = (tt, unbound_given slots ids given)

no_value : (t : Bool) (given : Given) (b : Arg) → value_of given b ≡ None
    → value_of given (if t then Unbound else b) ≡ None
no_value true given b e = refl
no_value false given b e = e

unbound_value : (slots : List (List ℕ)) (given : Given) (name : List ℕ)
    → value_of given (arg_of slots (unbound_slots slots) name) ≡ None
unbound_value [] given name = refl
unbound_value (slot ∷ slots) given name =
    no_value (same_name name slot) given (arg_of slots (unbound_slots slots) name)
    (unbound_value slots given name)

-- slots of which none is bound have no names
pub slots_unbound : (slots : List (List ℕ)) (ids : ℕ) (given : Given)
    → AreSlots slots ids given (unbound_slots slots) no_names
slots_unbound slots ids given = record {
  count = unbound_count slots;
  all_given = unbound_given slots ids given;
  bound = λ i name. unbound_value slots given name i;
}

-- the ports of a composite

pub ports_count : (slots : List (List ℕ)) (id p : ℕ) → length (slot_ports id p slots) ≡ length slots
ports_count [] id p = refl
ports_count (slot ∷ slots) id p = ap suc (ports_count slots id (suc p))

pub ports_given : (slots : List (List ℕ)) (id p : ℕ) (given : Given)
    → AreGiven (suc id) given (slot_ports id p slots)
ports_given [] id p given = tt
ports_given (slot ∷ slots) id p given = (omega arith, ports_given slots id (suc p) given)

port_if : (names : Names) (given : Given) (id p : ℕ) (y slot : List ℕ) (t : Bool) (b : Arg)
    → same_name y slot ≡ t → given id p ≡ names slot → (t ≡ false → value_of given b ≡ names y)
    → value_of given (if t then Slot (port id p) else b) ≡ names y
port_if names given id p y slot true b q e f = e ∙ ap names (sym (same_is y slot q))
port_if names given id p y slot false b q e f = f refl

ports_names : (slots : List (List ℕ)) (names : Names) (v : Value) (given : Given) (id i : ℕ) (y : List ℕ)
    → ((p : ℕ) → given id (i + p) ≡ slot_values slots names v p) → is_among slots y ≡ true
    → value_of given (arg_of slots (slot_ports id i slots) y) ≡ names y
ports_names [] names v given id i y f e = absurd (cc e)
ports_names (slot ∷ slots) names v given id i y f e =
    let z : i + 0 ≡ i = omega arith in
    port_if names given id i y slot (same_name y slot) (arg_of slots (slot_ports id (suc i) slots) y)
    refl (ap (given id) (sym z) ∙ f 0)
    (λ q. ports_names slots names v given id (suc i) y
    (λ p. let w : suc i + p ≡ i + suc p = omega arith in ap (given id) w ∙ f (suc p))
    (ap (λ t. t || is_among slots y) (sym q) ∙ e))

-- what a node has given stands at its ports
pub given_ports : (id : ℕ) (ports : Ports) (given : Given) (p : ℕ)
    → give id ports given id p ≡ ports p
given_ports id ports given p =
    ap (λ t. (if t then ports else given id) p) (itself id)

among_or : (slots : List (List ℕ)) (y : List ℕ) (t : Bool) (o n : Option Value)
    → is_among slots y ≡ t → (is_among slots y ≡ true → o ≡ n) → (is_among slots y ≡ false → o ≡ n)
    → o ≡ n
among_or slots y true o n q f g = f q
among_or slots y false o n q f g = g q

-- the slot ports of a composite have the names with which it ends
pub slots_ported : (slots : List (List ℕ)) (id : ℕ) (given : Given) (names : Names) (v : Value)
    → IsWithin slots names
    → AreSlots slots (suc id) (give id (slot_values slots names v) given) (slot_ports id 0 slots) names
slots_ported slots id given names v w =
    let after = give id (slot_values slots names v) given in
    record {
      count = ports_count slots id 0;
      all_given = ports_given slots id 0 after;
      bound = λ i y. among_or slots y (is_among slots y)
          (value_of after (arg_of slots (slot_ports id 0 slots) y)) (names y) refl
          (λ e. ports_names slots names v after id 0 y
          (λ p. given_ports id (slot_values slots names v) given (0 + p)
          ∙ (let z : 0 + p ≡ p = omega arith in ap (slot_values slots names v) z)) e)
          (λ e. arg_outside slots (slot_ports id 0 slots) after y e ∙ sym (w y e)) i;
    }

last_port : (slots : List (List ℕ)) (names : Names) (v : Value)
    → slot_values slots names v (length slots) ≡ Some v
last_port [] names v = refl
last_port (slot ∷ slots) names v = last_port slots names v

-- behind the slots stands the value
pub value_ported : (slots : List (List ℕ)) (id : ℕ) (given : Given) (names : Names) (v : Value)
    → give id (slot_values slots names v) given id (length slots) ≡ Some v
value_ported slots id given names v =
    given_ports id (slot_values slots names v) given (length slots) ∙ last_port slots names v
