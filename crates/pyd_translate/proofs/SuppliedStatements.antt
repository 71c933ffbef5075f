-- The nodes of one statement have what they need, where those of what goes on behind it have.
use Rattle.std.proofs.Common.{◌<◌, ℕ, suc, List, [], ◌∷◌, ◌++◌, length, Option, Some, None, Bool, true, false, refl, arith}
use Rattle.pyd_value.specs.declared.value.Value.{Bool as Truth}
use Rattle.pyd_value.specs.declared.value.Value.TheVariants as value
use Rattle.pyd_tree.specs.declared.expression.Expr.{Expr}
use Rattle.pyd_tree.specs.declared.statement.What.{What}
use Rattle.pyd_tree.specs.declared.statement.What.TheOpen.{What-F}
use Rattle.pyd_tree.specs.declared.statement.Arm.{Arm, out-Arm}
use Rattle.pyd_tree.specs.declared.statement.Block.{Block}
use Rattle.pyd_tree.specs.declared.statement.Stmt.{Stmt}
use Rattle.pyd_tree.specs.declared.file.File.{File}
use Rattle.pyd_names.specs.Binding.{locals}
use Rattle.pyd_meaning.specs.declared.limits.Limits.{Limits}
use Rattle.pyd_ir.specs.declared.arg.Arg.{Arg}
use Rattle.pyd_ir.specs.declared.arg.Arg.TheVariants.{Known, From}
use Rattle.pyd_ir.specs.declared.work.Frame.{Frame}
use Rattle.pyd_ir.specs.declared.work.Frame.TheVariants.{After}
use Rattle.pyd_ir.specs.declared.work.Work.{Work}
use Rattle.pyd_ir.specs.declared.work.Work.TheVariants.{Cond, While, For}
use Rattle.pyd_ir.specs.Arguments.{arguments, rest_arguments}
use Rattle.pyd_ir.specs.Inputs.{Given}
use Rattle.pyd_ir.specs.Ports.{Ports}
use Rattle.pyd_translate.specs.Making.{Making, Context, pure, emit, port, ◌>>>◌}
use Rattle.pyd_scope.specs.Numbering.{Point, past_expression}
use Rattle.pyd_translate.specs.Slots.{slot_ports}
use Rattle.pyd_translate.specs.Statements.{done, Exit, Break, Continue, Onward, Sequel, ported, with_rest, in_line, slots_at, header, assigned, augmented, asserted, returned, headed_by, if_unfolds, what_unfolds, then_done}
use Rattle.pyd_translate.specs.Matching.{AreGiven, HaveValues}
use Rattle.pyd_translate.specs.Supplied.{HasNeeds}
use Rattle.pyd_translate.proofs.Keeping.{given-has, all_given-kept}
use Rattle.pyd_translate.proofs.Slots.{ports_count, ports_given}
use Rattle.pyd_translate.proofs.Supplying.{IsLater, later-then, HasSome, have-later, given-values, given-both, some-true, have-true, IsMade, HasSlots, AreStocked, Supplied, then-supplied, done-stocked, then-stocked, pure-stocked, emit-supplied}
use Rattle.pyd_translate.proofs.SuppliedExpressions.{IsStaged, staged-later}
use Rattle.pyd_translate.proofs.SuppliedBindings.{Binds, header-supplied, assigned-bound, augmented-bound, asserted-bound}

-- whatever stands at ports
abbrev pub Anything : Ports → Type 0
Anything ports = Unit {0}

module _ (file : File) (limits : Limits) where
  -- the nodes that are made have what they need
  abbrev pub Stocks : {A : Type 0} → ℕ → Given → Making A → Type 0
  Stocks ids given u = AreStocked file limits (u ids).nodes given

  -- what goes on from slots that are given has what it needs
  abbrev pub GoesOn : ℕ → ℕ → Given → Onward → Type 0
  GoesOn routine ids given onward = (next : ℕ) (mid : Given) (env : List Arg) → IsLater ids given next mid
      → HasSlots file limits routine next mid env → Stocks next mid (onward env)

  -- so does what stands behind a statement
  pub record IsSequel (routine ids : ℕ) (given : Given) (sequel : Sequel) : Type 0 where
    pub rest : HaveValues ids given (rest_arguments sequel.rest)
    pub leave : (exit : Exit) → GoesOn routine ids given (sequel.leave exit)
    pub next : GoesOn routine ids given sequel.next

  -- the slot ports of a node below the number
  slots-made : (routine ids id : ℕ) (given : Given) → id < ids
      → HasSlots file limits routine ids given (slot_ports id 0 (locals file routine))
  slots-made routine ids id given lt = (
    ports_count (locals file routine) id 0,
    all_given-kept (suc id) ids given given (slot_ports id 0 (locals file routine)) (omega (arith, lt)) (λ node p low. refl)
        (ports_given (locals file routine) id 0 given),
  )

  -- a node of this work has what it needs and gives what it gives
  abbrev IsFit : ℕ → Given → Context → Work → Type 0
  IsFit ids given at work = AreGiven ids given (arguments work) × HasNeeds file at.routine given work

  -- a node that is made with what it needs
  made-fit : (ids : ℕ) (given : Given) (at : Context) (work : Work) → IsFit ids given at work
      → Supplied file limits (IsMade Anything) ids given (emit at work ids)
  made-fit ids given at work fit =
      emit-supplied file limits Anything ids given at work fit.0 fit.1 (λ ports walked. tt)

  -- a composite that has taken the rest with it
  pub ported-stocked : (ids : ℕ) (given : Given) (at : Context) (work : Work) (slots : List (List ℕ))
      → AreGiven ids given (arguments work) × HasNeeds file at.routine given work
      → Stocks ids given (emit at work >>> ported slots)
  ported-stocked ids given at work slots fit =
      then-stocked file limits (IsMade Anything) ids given (emit at work) (ported slots) (made-fit ids given at work fit)
      (λ next mid id later made.
      pure-stocked file limits next mid (done (slot_ports id 0 slots) (From (port id (length slots)))))

  -- a composite's control, its rest and its slots
  pub composite-given : (ids : ℕ) (given : Given) (a : Arg) (rest : List Frame) (env : List Arg) → HasSome ids given a
      → HaveValues ids given (rest_arguments rest) → AreGiven ids given env
      → AreGiven ids given (a ∷ (rest_arguments rest ++ env))
  composite-given ids given a rest env v have are = (
    given-has ids given a v.0 v.1,
    given-both ids given (rest_arguments rest) env (given-values ids given (rest_arguments rest) have) are,
  )

  -- the works of a composite have what they need where their rests have values
  abbrev FitsRests : ℕ → Given → Context → (List Frame → Work) → Type 0
  FitsRests ids given at work =
      (rest : List Frame) → HaveValues ids given (rest_arguments rest) → IsFit ids given at (work rest)

  -- a composite made from its rest
  rest-stocked : (early : Bool) (k : ℕ) (work : List Frame → Work) (at : Context) (sequel : Sequel)
      (low : ℕ) (before : Given) (ids : ℕ) (given : Given)
      → IsSequel at.routine low before sequel → IsLater low before ids given → FitsRests ids given at work
      → Stocks ids given (with_rest (locals file at.routine) early k work at sequel)
  rest-stocked true k work at sequel low before ids given is later fits =
      ported-stocked ids given at (work (After k ∷ sequel.rest)) (locals file at.routine)
      (fits (After k ∷ sequel.rest) (have-later low ids before given (rest_arguments sequel.rest) later is.rest))
  rest-stocked false k work at sequel low before ids given is later fits =
      then-stocked file limits (IsMade Anything) ids given (emit at (work []))
      (λ id. sequel.next (slot_ports id 0 (locals file at.routine)))
      (made-fit ids given at (work []) (fits [] tt))
      (λ next mid id more made. is.next next mid (slot_ports id 0 (locals file at.routine))
      (later-then low ids next before given mid later more) (slots-made at.routine next id mid made.0))

  -- a `return`
  returned-stocked : (e : Option Expr) (p : Point) (at : Context) (ids : ℕ) (given : Given)
      → IsStaged file limits at ids given → Stocks ids given (returned file e p at)
  returned-stocked None p at ids given has = pure-stocked file limits ids given (done at.env (Known value.None))
  returned-stocked (Some e) p at ids given has =
      done-stocked file limits HasSome ids given at.env (header file e p at) (λ a. pure (done at.env a))
      (header-supplied file limits e p at ids given has)
      (λ next mid a later v. pure-stocked file limits next mid (done at.env a))

  -- what binds slots, and then what goes on
  binding-stocked : (at : Context) (u : Making (List Arg)) (sequel : Sequel) (low : ℕ) (before : Given) (ids : ℕ) (given : Given)
      → IsSequel at.routine low before sequel → IsLater low before ids given → Binds file limits at.routine ids given u
      → Stocks ids given (then_done at.env u sequel.next)
  binding-stocked at u sequel low before ids given is later p =
      done-stocked file limits (HasSlots file limits at.routine) ids given at.env u sequel.next p
      (λ next mid slots more has. is.next next mid slots (later-then low ids next before given mid later more) has)

  -- the header of a compound statement, and its composite
  headed-stocked : (e : Expr) (work : Arg → List Frame → Work) (early : Bool) (p : Point) (at : Context) (sequel : Sequel)
      (low : ℕ) (before : Given) (ids : ℕ) (given : Given)
      → IsSequel at.routine low before sequel → IsLater low before ids given → IsStaged file limits at ids given
      → ((a : Arg) (next : ℕ) (mid : Given) → IsStaged file limits at next mid → HasSome next mid a → FitsRests next mid at (work a))
      → Stocks ids given (headed_by file e work early p at sequel)
  headed-stocked e work early p at sequel low before ids given is later has fits =
      done-stocked file limits HasSome ids given at.env (header file e p at)
      (λ a. with_rest (slots_at file at) early p.statement (work a) at sequel)
      (header-supplied file limits e p at ids given has)
      (λ next mid a more v. rest-stocked early p.statement (work a) at sequel low before next mid is
      (later-then low ids next before given mid later more)
      (fits a next mid (staged-later file limits at ids next given mid more has) v))

  -- an `if`
  if-stocked : (arms : List Arm) (early : Bool) (p : Point) (at : Context) (sequel : Sequel)
      (low : ℕ) (before : Given) (ids : ℕ) (given : Given)
      → IsSequel at.routine low before sequel → IsLater low before ids given → IsStaged file limits at ids given
      → Stocks ids given (if_unfolds file arms early p at sequel)
  if-stocked [] early p at sequel low before ids given is later has =
      rest-stocked early p.statement (λ rest. Cond (Known (Truth false)) p.statement 0 rest at.env) at sequel low before ids given
      is later
      (λ rest have. (
        composite-given ids given (Known (Truth false)) rest at.env (Truth false, (refl, tt)) have has.1,
        (refl, have-true ids given (rest_arguments rest) have, has.0),
      ))
  if-stocked (a ∷ arms) early p at sequel low before ids given is later has =
      headed-stocked (out-Arm a).test (λ t rest. Cond t p.statement 0 rest at.env) early p
      (in_line (out-Arm a).line at) sequel low before ids given is later has
      (λ t next mid now v rest have. (
        composite-given next mid t rest at.env v have now.1,
        (some-true next mid t v, have-true next mid (rest_arguments rest) have, now.0),
      ))

  -- a statement
  pub what-stocked : (y : What-F What Arm Block Stmt) (early : Bool) (p : Point) (at : Context) (sequel : Sequel)
      (low : ℕ) (before : Given) (ids : ℕ) (given : Given)
      → IsSequel at.routine low before sequel → IsLater low before ids given → IsStaged file limits at ids given
      → Stocks ids given (what_unfolds file y early p at sequel)
  what-stocked (What-F.Expr e) early p at sequel low before ids given is later has =
      done-stocked file limits HasSome ids given at.env (header file e p at) (λ a. sequel.next at.env)
      (header-supplied file limits e p at ids given has)
      (λ next mid a more v. is.next next mid at.env (later-then low ids next before given mid later more)
      (staged-later file limits at ids next given mid more has))
  what-stocked (What-F.Assign targets e) early p at sequel low before ids given is later has =
      binding-stocked at (header file e p at >>> assigned file targets at) sequel low before ids given is later
      (assigned-bound file limits targets e p at ids given has)
  what-stocked (What-F.Aug name op e) early p at sequel low before ids given is later has =
      binding-stocked at (augmented file name op e p at) sequel low before ids given is later
      (augmented-bound file limits name op e p at ids given has)
  what-stocked (What-F.If arms otherwise) early p at sequel low before ids given is later has =
      if-stocked arms early p at sequel low before ids given is later has
  what-stocked (What-F.While test body) early p at sequel low before ids given is later has =
      headed-stocked test (λ t rest. While t p.statement 0 rest at.env) early p at sequel low before ids given is later has
      (λ t next mid now v rest have. (
        composite-given next mid t rest at.env v have now.1,
        (some-true next mid t v, have-true next mid (rest_arguments rest) have, now.0),
      ))
  what-stocked (What-F.For targets e body) early p at sequel low before ids given is later has =
      headed-stocked e (λ over rest. For over p.statement 0 rest at.env) early p at sequel low before ids given is later has
      (λ t next mid now v rest have. (
        composite-given next mid t rest at.env v have now.1,
        (some-true next mid t v, have-true next mid (rest_arguments rest) have, now.0),
      ))
  what-stocked (What-F.Return e) early p at sequel low before ids given is later has = returned-stocked e p at ids given has
  what-stocked What-F.Break early p at sequel low before ids given is later has =
      is.leave Break ids given at.env later has
  what-stocked What-F.Continue early p at sequel low before ids given is later has =
      is.leave Continue ids given at.env later has
  what-stocked What-F.Pass early p at sequel low before ids given is later has = is.next ids given at.env later has
  what-stocked (What-F.Assert test message) early p at sequel low before ids given is later has =
      binding-stocked at
      (header file test p at >>> asserted file message (past_expression test p).expression at) sequel low before ids given
      is later
      (then-supplied file limits HasSome (HasSlots file limits at.routine) ids given (header file test p at)
      (asserted file message (past_expression test p).expression at) (header-supplied file limits test p at ids given has)
      (λ next mid t more v. asserted-bound file limits message (past_expression test p).expression at t next mid
      (staged-later file limits at ids next given mid more has) v))
