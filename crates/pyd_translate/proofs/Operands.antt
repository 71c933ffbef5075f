-- What names give as operands.
use Rattle.std.proofs.Common.{◌≡◌, ℕ, ◌⊎◌, inl, inr, List, length, nat_eq, true, false, if◌then◌else◌, refl, sym, ap, ◌∙◌, arith, Option, Some, None}
use Rattle.std.specs.Prelude.{option_map}
use Rattle.std.specs.Borrow.{Bor}
use Rattle.std.proofs.lemmas.Bool.Decides.{nat_tests}
use Rattle.pyd_value.specs.declared.value.Value.{Value}
use Rattle.pyd_value.specs.declared.fault.Kind.TheVariants.{NameError, TypeError}
use Rattle.pyd_value.specs.declared.operator.Builtin.{Builtin}
use Rattle.pyd_tree.specs.declared.file.Func.{Func}
use Rattle.pyd_scope.specs.declared.routine.Routine.{Routine}
use Rattle.pyd_scope.specs.declared.uses.Use.{Use}
use Rattle.pyd_scope.specs.declared.uses.Use.TheVariants as uses
use Rattle.pyd_scope.specs.Parts.{function_routine}
use Rattle.pyd_scope.specs.Resolving.{resolution_of}
use Rattle.std.specs.List.{slice_get}
use Rattle.pyd_tree.specs.declared.file.File.{File}
use Rattle.pyd_names.specs.Binding.{locals}
use Rattle.pyd_names.specs.Resolution.{Resolution, resolved}
use Rattle.pyd_names.specs.Resolution as resolution
use Rattle.pyd_scope.specs.Places.{place}
use Rattle.pyd_ir.specs.declared.arg.Arg.{Arg}
use Rattle.pyd_ir.specs.declared.arg.Arg.TheVariants.{Known, From}
use Rattle.pyd_ir.specs.declared.arg.Ref.{Ref}
use Rattle.pyd_ir.specs.declared.node.Node.{Node}
use Rattle.pyd_translate.specs.Making.{Making, Context, pure, stop_by, emit_value}
use Rattle.pyd_translate.specs.Slots.{arg_of, operand, operand_as}
use Rattle.pyd_translate.specs.Expressions.{name_operand, value_call, call_as, resolution_at, function_call, function_work}
use Rattle.pyd_translate.specs.Drafts.{onto, or_unbound, routine_work}
use Rattle.pyd_translate.proofs.Onto.{onto_pure}
use Rattle.pyd_translate.proofs.SlotPlaces.{arg_at}

-- a name that stands for this
pub named : (file : File) (name : List ℕ) (at : Context) (r : Resolution)
    → r ≡ resolved file at.routine name
    → operand_as r at (arg_of (locals file at.routine) at.env name) ≡ name_operand file name at
named file name at r is =
    ap (λ x. operand_as x at (arg_of (locals file at.routine) at.env name)) is

-- a local, by the place of its slot
pub named_local : (file : File) (name : List ℕ) (at : Context) (slots : List (List ℕ)) (i : ℕ)
    → resolution.Local ≡ resolved file at.routine name → slots ≡ locals file at.routine
    → place slots name ≡ Some i
    → operand at (or_unbound (slice_get at.env i)) ≡ name_operand file name at
named_local file name at slots i is same p =
    ap (operand at) (sym (arg_at (locals file at.routine) at.env name i
    (ap (λ (ns : List (List ℕ)). place ns name) (sym same) ∙ p)))
    ∙ named file name at resolution.Local is

-- a use that has no value
abbrev pub HasNoValue : Use → Type 0
HasNoValue u =
    ((k : ℕ) × (u ≡ uses.Routine k)) ⊎ (((b : Builtin) × (u ≡ uses.Builtin b))
    ⊎ ((u ≡ uses.Imported) ⊎ ((u ≡ uses.Variable) ⊎ (u ≡ uses.Unbound))))

-- it stops
pub no_value : (u : Use) (at : Context) (a : Arg) → HasNoValue u
    → operand_as (resolution_of u) at a ≡ stop_by at NameError
no_value u at a (inl (k, is)) = rw is refl
no_value u at a (inr (inl (b, is))) = rw is refl
no_value u at a (inr (inr (inl is))) = rw is refl
no_value u at a (inr (inr (inr (inl is)))) = rw is refl
no_value u at a (inr (inr (inr (inr is)))) = rw is refl

-- a name without a value stops
pub named_nothing : (file : File) (name : List ℕ) (at : Context) (u : Use)
    → resolution_of u ≡ resolved file at.routine name → HasNoValue u
    → stop_by at NameError ≡ name_operand file name at
named_nothing file name at u is none =
    sym (no_value u at (arg_of (locals file at.routine) at.env name) none)
    ∙ named file name at (resolution_of u) is

-- a use that is no function
abbrev pub IsNoFunction : Use → Type 0
IsNoFunction u =
    ((i : ℕ) × (u ≡ uses.Slot i)) ⊎ (((v : Bor Value) × (u ≡ uses.Constant v))
    ⊎ ((u ≡ uses.Imported) ⊎ ((u ≡ uses.Variable) ⊎ (u ≡ uses.Unbound))))

-- a call of it
pub no_function : (file : File) (u : Use) (at : Context) (callee : Making Arg) (args : Making (List Arg))
    → IsNoFunction u → value_call at callee args ≡ call_as file (resolution_of u) at callee args
no_function file u at callee args (inl (i, is)) = rw is refl
no_function file u at callee args (inr (inl (v, is))) = rw is refl
no_function file u at callee args (inr (inr (inl is))) = rw is refl
no_function file u at callee args (inr (inr (inr (inl is)))) = rw is refl
no_function file u at callee args (inr (inr (inr (inr is)))) = rw is refl

-- a call of a name that stands for this
pub call_named : (file : File) (name : List ℕ) (at : Context) (callee : Making Arg) (args : Making (List Arg)) (r : Resolution)
    → r ≡ resolved file at.routine name
    → call_as file r at callee args ≡ call_as file (resolution_at file at name) at callee args
call_named file name at callee args r is = ap (λ x. call_as file x at callee args) is

same_number : (a b : ℕ) → a ≡ b → nat_eq a b ≡ true
same_number a b e = grind (arith, nat_tests)

other_number : (a b : ℕ) → ¬ (a ≡ b) → nat_eq a b ≡ false
other_number a b e = grind (arith, nat_tests)

module _ (number : ℕ) (at : Context) (args : List Arg) where
  -- there is none
  pub function_missing : (o : Option Func) → None ≡ option_map function_routine o
      → stop_by at NameError ≡ function_call o number at args
  function_missing None is = refl
  function_missing (Some f) is = cc

  -- with another count of parameters
  pub function_uneven : (o : Option Func) (r : Routine) → Some r ≡ option_map function_routine o
      → ¬ (length args ≡ r.params)
      → stop_by at TypeError ≡ function_call o number at args
  function_uneven None r is other = cc
  function_uneven (Some f) r is other =
      let same : r ≡ function_routine f = cc in
      let differs : ¬ (length args ≡ length f.params) = λ e. other (e ∙ sym (ap (λ (x : Routine). x.params) same)) in
      let t : nat_eq (length args) (length f.params) ≡ false = other_number (length args) (length f.params) differs in
      ap (λ b. if b then emit_value at (function_work f number args) else stop_by at TypeError) (sym t)

  -- with this count
  pub function_even : (o : Option Func) (r : Routine) → Some r ≡ option_map function_routine o
      → length args ≡ r.params
      → emit_value at (routine_work r number args) ≡ function_call o number at args
  function_even None r is even = cc
  function_even (Some f) r is even =
      let same : r ≡ function_routine f = cc in
      let e : length args ≡ length f.params = even ∙ ap (λ (x : Routine). x.params) same in
      let t : nat_eq (length args) (length f.params) ≡ true = same_number (length args) (length f.params) e in
      ap (λ (x : Routine). emit_value at (routine_work x number args)) same
      ∙ ap (λ b. if b then emit_value at (function_work f number args) else stop_by at TypeError) (sym t)

-- another form of a making
pub other_form : {A : Type 0} (u v : Making A) (before : List Node) (next : ℕ) (x : List Node × Option A × ℕ)
    → u ≡ v → onto before (u next) ≡ x → onto before (v next) ≡ x
other_form {A = A} u v before next x e h = ap (λ (w : Making A). onto before (w next)) (sym e) ∙ h

-- a constant is its value
pub constant_made : (file : File) (name : List ℕ) (at : Context) (v copy : Value) (before : List Node) (next : ℕ)
    → resolution.Constant v ≡ resolved file at.routine name → copy ≡ v
    → onto before (name_operand file name at next) ≡ (before, Some (Known copy), next)
constant_made file name at v copy before next is same =
    other_form (pure (Known v)) (name_operand file name at) before next (before, Some (Known copy), next)
    (named file name at (resolution.Constant v) is)
    (onto_pure before (Known v) next ∙ ap (λ x. (before, Some (Known x), next)) (sym same))

-- a value is itself
pub known_operand : (at : Context) (a : Arg) (v copy : Value) (before : List Node) (next : ℕ)
    → a ≡ Known v → copy ≡ v
    → onto before (operand at a next) ≡ (before, Some (Known copy), next)
known_operand at a v copy before next is same =
    ap (λ x. onto before (operand at x next)) is
    ∙ onto_pure before (Known v) next ∙ ap (λ x. (before, Some (Known x), next)) (sym same)

-- so is a port that has a value
pub port_operand : (at : Context) (a : Arg) (r : Ref) (before : List Node) (next : ℕ)
    → a ≡ From r
    → onto before (operand at a next) ≡ (before, Some (From r), next)
port_operand at a r before next is =
    ap (λ x. onto before (operand at x next)) is ∙ onto_pure before (From r) next
