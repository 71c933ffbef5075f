-- What stands in the place of a composite's ports has the values of its slots and its own.
use Rattle.std.proofs.Common.{◌≡◌, ℕ, zero, suc, List, [], ◌∷◌, length, filter, refl, sym, ap, ◌∙◌, arith, Option, Some, None, Bool, true, false, not, cond, if◌then◌else◌}
use Rattle.std.specs.Prelude.{◌||◌}
use Rattle.pyd_value.specs.declared.value.Value.{Value}
use Rattle.pyd_tree.specs.declared.file.File.{File}
use Rattle.pyd_tree.specs.declared.file.Func.{Func}
use Rattle.pyd_names.specs.Binding.{same_name, is_among, distinct, function, locals_in, locals}
use Rattle.pyd_names.proofs.Names.{same_is, is_same}
use Rattle.pyd_meaning.specs.Names.{Names}
use Rattle.pyd_ir.specs.declared.arg.Arg.{Arg}
use Rattle.pyd_ir.specs.Inputs.{Given, value_of}
use Rattle.pyd_ir.specs.Ports.{Ports, only_port}
use Rattle.pyd_translate.specs.Slots.{arg_of}
use Rattle.pyd_translate.specs.Statements.{Done}
use Rattle.pyd_translate.specs.Walk.{slot_values, Finish}
use Rattle.pyd_translate.specs.Matching.{AreGiven, HasValue, IsFinish}
use Rattle.pyd_translate.proofs.Keeping.{given-has}
use Rattle.pyd_translate.proofs.Supplying.{given-both}
use Rattle.pyd_refine.specs.Composites.{only_value}
use Rattle.pyd_refine.specs.Redirecting.{image, images}
use Rattle.pyd_refine.specs.Readiness.{ArePorts}
use Rattle.pyd_refine.proofs.Ordering.{neither, second-true}

-- no name stands among those behind it
abbrev pub AreDistinct : List (List ℕ) → Type 0
AreDistinct [] = Unit {0}
AreDistinct (n ∷ ns) = (is_among ns n ≡ false) × AreDistinct ns

-- what isn't among names isn't among some of them
unlisted-kept : (p : List ℕ → Bool) (ns : List (List ℕ)) (n : List ℕ)
    → is_among ns n ≡ false → is_among (filter p ns) n ≡ false
unlisted-kept p [] n e = refl
unlisted-kept p (m ∷ ns) n e =
    let both = neither (same_name n m) (is_among ns n) e in
    let more = unlisted-kept p ns n both.1 in
    elim (p m) as (λ b. is_among (cond b (m ∷ filter p ns) (filter p ns)) n ≡ false)
    [ true ↦ ap (λ b. b || is_among (filter p ns) n) both.0 ∙ more | false ↦ more ]

-- a name isn't among those that are others
others-unlisted : (n : List ℕ) (ns : List (List ℕ)) → is_among (filter (λ m. not (same_name n m)) ns) n ≡ false
others-unlisted n [] = refl
others-unlisted n (m ∷ ns) =
    let others = filter (λ m. not (same_name n m)) ns in
    elim (same_name n m) as (λ b. same_name n m ≡ b → is_among (cond (not b) (m ∷ others) others) n ≡ false) [
      | true ↦ λ e. others-unlisted n ns
      | false ↦ λ e. ap (λ b. b || is_among others n) e ∙ others-unlisted n ns
    ] refl

-- some of distinct names are distinct
some-distinct : (p : List ℕ → Bool) (ns : List (List ℕ)) → AreDistinct ns → AreDistinct (filter p ns)
some-distinct p [] d = tt
some-distinct p (n ∷ ns) d =
    let more = some-distinct p ns d.1 in
    elim (p n) as (λ b. AreDistinct (cond b (n ∷ filter p ns) (filter p ns)))
    [ true ↦ (unlisted-kept p ns n d.0, more) | false ↦ more ]

-- names taken once are distinct
are-distinct : (ns : List (List ℕ)) → AreDistinct (distinct ns)
are-distinct [] = tt
are-distinct (n ∷ ns) =
    (others-unlisted n (distinct ns), some-distinct (λ m. not (same_name n m)) (distinct ns) (are-distinct ns))

-- the slots of a function that may be there
function-distinct : (f : Option Func) → AreDistinct (locals_in f)
function-distinct None = tt
function-distinct (Some f) = are-distinct _

-- a routine has no slot twice
pub locals-distinct : (file : File) (routine : ℕ) → AreDistinct (locals file routine)
locals-distinct file zero = are-distinct _
locals-distinct file (suc k) = function-distinct (function file (suc k))

-- a slot is none of those behind it
behind-apart : (slots : List (List ℕ)) (slot x : List ℕ) (t : Bool) → same_name x slot ≡ t
    → is_among slots slot ≡ false → is_among slots x ≡ true → t ≡ false
behind-apart slots slot x true e d p =
    absurd (cc (sym (ap (is_among slots) (same_is x slot e)) ∙ p, d))
behind-apart slots slot x false e d p = refl

-- the slots and the value stand in the place of the ports
images-have : (slots : List (List ℕ)) (env : List Arg) (a : Arg) (names : Names) (v : Value) (given : Given)
    → length env ≡ length slots → AreDistinct slots
    → ((x : List ℕ) → is_among slots x ≡ true → value_of given (arg_of slots env x) ≡ names x)
    → value_of given a ≡ Some v
    → (port : ℕ) → value_of given (image (images env a) port) ≡ slot_values slots names v port
images-have [] [] a names v given l d f e zero = e
images-have [] [] a names v given l d f e (suc port) = refl
images-have [] (b ∷ env) a names v given l d f e port = absurd (omega (arith, l))
images-have (s ∷ ss) [] a names v given l d f e port = absurd (omega (arith, l))
images-have (s ∷ ss) (b ∷ env) a names v given l d f e zero =
    let own = is_same s s refl in
    ap (λ t. value_of given (if t then b else arg_of ss env s)) (sym own)
    ∙ f s (ap (λ t. t || is_among ss s) own)
images-have (s ∷ ss) (b ∷ env) a names v given l d f e (suc port) =
    let m : length env ≡ length ss = omega (arith, l) in
    images-have ss env a names v given m d.1
    (λ x p. ap (λ t. value_of given (if t then b else arg_of ss env x)) (sym (behind-apart ss s x (same_name x s) refl d.0 p))
    ∙ f x (second-true (same_name x s) (is_among ss x) p)) e port

-- what stands in the place of the ports has their values, and is given
abbrev pub AreImages : ℕ → Given → Done → Ports → Type 0
AreImages next given done ports =
    ArePorts next given done ports × AreGiven next given (images done.env done.value)

-- a piece of statements, in the place of a composite with slots
pub finish-ports : (slots : List (List ℕ)) (next : ℕ) (given : Given) (d : Done) (fin : Finish)
    → AreDistinct slots → IsFinish slots next given d fin
    → AreImages next given d (slot_values slots fin.names fin.value)
finish-ports slots next given d fin apart is = (
  images-have slots d.env d.value fin.names fin.value given is.env.count apart
      (λ x p. ap (λ (n : Names). n x) is.env.bound) is.value.0,
  given-both next given d.env (d.value ∷ []) is.env.all_given (given-has next given d.value fin.value is.value, tt),
)

-- a value's port
value-port : (given : Given) (a : Arg) (v : Value) → value_of given a ≡ Some v
    → (port : ℕ) → value_of given (image (images [] a) port) ≡ only_port v port
value-port given a v e zero = e
value-port given a v e (suc port) = refl

-- a value alone, in the place of a composite without slots
pub value-ports : (next : ℕ) (given : Given) (a : Arg) (v : Value)
    → HasValue next given a v → AreImages next given (only_value a) (only_port v)
value-ports next given a v has = (value-port given a v has.0, (given-has next given a v has, tt))
