-- Nodes that each have what they need where a walk comes to them: how what makes them keeps that.
use Rattle.std.proofs.Common.{◌≡◌, ◌≤◌, ◌<◌, ℕ, suc, List, [], ◌∷◌, ◌++◌, Option, Some, None, Result, Ok, Err, if◌then◌else◌, refl, sym, ap, subst, ◌∙◌, arith}
use Rattle.std.specs.Prelude.{IsTrue, is_some, ◌&&◌}
use Rattle.pyd_value.specs.declared.value.Value.{Value}
use Rattle.pyd_value.specs.declared.fault.Fault.{Fault}
use Rattle.pyd_tree.specs.declared.file.File.{File}
use Rattle.pyd_meaning.specs.declared.limits.Limits.{Limits}
use Rattle.pyd_meaning.specs.Evaluation.{settled, gives}
use Rattle.pyd_ir.specs.declared.arg.Arg.{Arg}
use Rattle.pyd_ir.specs.declared.arg.Arg.TheVariants.{From}
use Rattle.pyd_ir.specs.declared.node.Node.{Node}
use Rattle.pyd_ir.specs.declared.work.Work.{Work}
use Rattle.pyd_ir.specs.declared.work.Work.TheVariants.{Stop}
use Rattle.pyd_ir.specs.Arguments.{arguments}
use Rattle.pyd_ir.specs.Inputs.{Given, has_value, have_values}
use Rattle.pyd_ir.specs.Ports.{Ports}
use Rattle.pyd_translate.specs.Making.{Piece, Making, Context, pure, carry, ◌>>>◌, node_of, emit, stop, emit_value, port}
use Rattle.pyd_translate.specs.Statements.{Done, or_stopped, then_done}
use Rattle.pyd_translate.specs.Walk.{give, work_ports, walk}
use Rattle.pyd_translate.specs.Matching.{AreGiven, IsKept, HasValue, HaveValues}
use Rattle.pyd_translate.specs.Supplied.{AreFilled, HasNeeds, WhereGiven}
use Rattle.pyd_translate.proofs.Keeping.{given-has, all_given-kept, has-kept}
use Rattle.pyd_translate.proofs.Sequencing.{then-ok, kept-then, walk-append}
use Rattle.pyd_translate.proofs.Emitting.{kept-give, itself}
use Rattle.pyd_translate.proofs.Yields.{Yields, yields-gives, yields-then}

-- what holds of what was given, and what follows from it there
pub where-then : {A : Type 0} (r : Result A Fault) (P Q : A → Type 0) → WhereGiven r P
    → ((a : A) → r ≡ Ok a → P a → Q a) → WhereGiven r Q
where-then (Ok a) P Q p f = f a refl p
where-then (Err e) P Q p f = tt

-- what holds of all holds of what was given
where-all : {A : Type 0} (r : Result A Fault) (P : A → Type 0) → ((a : A) → P a) → WhereGiven r P
where-all (Ok a) P f = f a
where-all (Err e) P f = tt

-- more nodes are numbered, and those below gave the same
pub record IsLater (low : ℕ) (before : Given) (high : ℕ) (after : Given) : Type 0 where
  pub grown : low ≤ high
  pub kept : IsKept low before after

-- nothing was made meanwhile
pub later-same : (ids : ℕ) (given : Given) → IsLater ids given ids given
later-same ids given = record { grown = omega arith; kept = λ node port lt. refl }

-- twice later is later
pub later-then : (low mid high : ℕ) (before between after : Given)
    → IsLater low before mid between → IsLater mid between high after → IsLater low before high after
later-then low mid high before between after first second = record {
  grown = let p = first.grown in let q = second.grown in omega arith;
  kept = kept-then low mid before between after first.grown first.kept second.kept;
}

-- an argument has some value and names a node below a number
abbrev pub HasSome : ℕ → Given → Arg → Type 0
HasSome next given a = (v : Value) × HasValue next given a v

-- it has it later too
pub some-later : (low high : ℕ) (before after : Given) (a : Arg)
    → IsLater low before high after → HasSome low before a → HasSome high after a
some-later low high before after a later has =
    (has.0, has-kept low high before after a has.0 later.grown later.kept has.1)

-- so do several
pub have-later : (low high : ℕ) (before after : Given) (args : List Arg)
    → IsLater low before high after → HaveValues low before args → HaveValues high after args
have-later low high before after [] later have = tt
have-later low high before after (a ∷ args) later have =
    (some-later low high before after a later have.0, have-later low high before after args later have.1)

-- arguments and then others have values
pub have-both : (next : ℕ) (given : Given) (xs ys : List Arg)
    → HaveValues next given xs → HaveValues next given ys → HaveValues next given (xs ++ ys)
have-both next given [] ys p q = q
have-both next given (x ∷ xs) ys p q = (p.0, have-both next given xs ys p.1 q)

-- arguments that have values are given
pub given-values : (next : ℕ) (given : Given) (args : List Arg) → HaveValues next given args → AreGiven next given args
given-values next given [] have = tt
given-values next given (a ∷ args) have =
    (given-has next given a have.0.0 have.0.1, given-values next given args have.1)

-- arguments and then others are given
pub given-both : (next : ℕ) (given : Given) (xs ys : List Arg)
    → AreGiven next given xs → AreGiven next given ys → AreGiven next given (xs ++ ys)
given-both next given [] ys p q = q
given-both next given (x ∷ xs) ys p q = (p.0, given-both next given xs ys p.1 q)

-- an argument that has a value has one by test
pub some-true : (next : ℕ) (given : Given) (a : Arg) → HasSome next given a → IsTrue (has_value given a)
some-true next given a has = ap is_some has.1.0

-- so have several
pub have-true : (next : ℕ) (given : Given) (args : List Arg) → HaveValues next given args → IsTrue (have_values given args)
have-true next given [] have = refl
have-true next given (a ∷ args) have =
    λ i. some-true next given a have.0 i && have-true next given args have.1 i

-- a value stands at the first port
abbrev pub HasFirst : Ports → Type 0
HasFirst ports = (v : Value) × (ports 0 ≡ Some v)

-- a node was made below the next number, and P of what stands at its ports
abbrev pub IsMade : (Ports → Type 0) → ℕ → Given → ℕ → Type 0
IsMade P next after id = (id < next) × P (after id)

-- what came of nodes is R later, unless a Stop ended them
abbrev pub IfGot : {A : Type 0} → (ℕ → Given → A → Type 0) → ℕ → Given → ℕ → Given → Option A → Type 0
IfGot R ids before next after (Some a) = IsLater ids before next after × R next after a
IfGot R ids before next after None = Unit {0}

-- the same from an earlier number on
got-later : {A : Type 0} (R : ℕ → Given → A → Type 0) (low mid high : ℕ) (before between after : Given) (got : Option A)
    → IsLater low before mid between → IfGot R mid between high after got → IfGot R low before high after got
got-later R low mid high before between after None later is = tt
got-later R low mid high before between after (Some a) later is =
    (later-then low mid high before between after later is.0, is.1)

module _ (file : File) (limits : Limits) where
  -- there is an argument for each slot, and they are given
  abbrev pub HasSlots : ℕ → ℕ → Given → List Arg → Type 0
  HasSlots routine next given env = AreFilled file routine env × AreGiven next given env

  -- so it is later
  pub slots-later : (routine low high : ℕ) (before after : Given) (env : List Arg)
      → IsLater low before high after → HasSlots routine low before env → HasSlots routine high after env
  slots-later routine low high before after env later has =
      (has.0, all_given-kept low high before after env later.grown later.kept has.1)

  -- each node has what it needs, and its arguments are given by nodes below its own number
  unfoldable pub AreStocked : List Node → Given → Type 0
  AreStocked [] given = Unit {0}
  AreStocked (n ∷ ns) given =
      AreGiven n.id given (arguments n.work) × HasNeeds file n.routine given n.work
      × WhereGiven (work_ports file limits n.work n given).result
      (λ ports. AreStocked ns (give n.id ports given))

  -- nodes that are supplied, and what came of them is R
  pub record Supplied {A : Type 0} (R : ℕ → Given → A → Type 0) (ids : ℕ) (given : Given) (p : Piece A) : Type 0 where
    pub nodes : AreStocked p.nodes given
    pub got : Yields (walk file limits p.nodes given) (λ after. IfGot R ids given p.next after p.got)

  -- nodes, and then others wherever the walk of the first comes
  stocked-both : (xs ys : List Node) (given : Given) → AreStocked xs given
      → Yields (walk file limits xs given) (λ mid. AreStocked ys mid) → AreStocked (xs ++ ys) given
  unfolding AreStocked walk settled
  stocked-both [] ys given p q = q given refl
  stocked-both (x ∷ xs) ys given p q = (
    p.0,
    p.1,
    where-then (work_ports file limits x.work x given).result _ _ p.2
        (λ ports is rest. stocked-both xs ys (give x.id ports given) rest
        (λ mid walked. q mid (ap (λ e. e.result)
        (then-ok (work_ports file limits x.work x given) ports (λ o. walk file limits xs (give x.id o given)) is) ∙ walked))),
  )

  -- one piece and then what follows, by what came of the first
  carry-supplied : {A B : Type 0} (R : ℕ → Given → A → Type 0) (S : ℕ → Given → B → Type 0) (ids : ℕ) (given : Given)
      (nodes : List Node) (got : Option A) (next : ℕ) (f : A → Making B)
      → AreStocked nodes given → Yields (walk file limits nodes given) (λ mid. IfGot R ids given next mid got)
      → ((mid : Given) (a : A) → IsLater ids given next mid → R next mid a → Supplied S next mid (f a next))
      → Supplied S ids given (carry nodes got next f)
  carry-supplied R S ids given nodes None next f stocked was onward =
      record { nodes = stocked; got = λ mid walked. tt }
  carry-supplied R S ids given nodes (Some a) next f stocked was onward = record {
    nodes =
        stocked-both nodes (f a next).nodes given stocked
        (λ mid walked. let g = was mid walked in (onward mid a g.0 g.1).nodes);
    got =
        subst (λ e. Yields e (λ after. IfGot S ids given (f a next).next after (f a next).got))
        (sym (walk-append file limits nodes (f a next).nodes given))
        (yields-then (walk file limits nodes given) (walk file limits (f a next).nodes)
        (λ mid. IfGot R ids given next mid (Some a)) (λ after. IfGot S ids given (f a next).next after (f a next).got) was
        (λ mid g last walked.
        got-later S ids next (f a next).next given mid last (f a next).got g.0 ((onward mid a g.0 g.1).got last walked)));
  }

  -- one piece and then the next are supplied
  pub then-supplied : {A B : Type 0} (R : ℕ → Given → A → Type 0) (S : ℕ → Given → B → Type 0) (ids : ℕ) (given : Given)
      (u : Making A) (f : A → Making B) → Supplied R ids given (u ids)
      → ((next : ℕ) (mid : Given) (a : A) → IsLater ids given next mid → R next mid a → Supplied S next mid (f a next))
      → Supplied S ids given ((u >>> f) ids)
  unfolding ◌>>>◌
  then-supplied R S ids given u f first onward =
      carry-supplied R S ids given (u ids).nodes (u ids).got (u ids).next f first.nodes first.got (onward (u ids).next)

  -- a piece and then what follows it in a statement, by what came of the first
  stopped-stocked : {A : Type 0} (R : ℕ → Given → A → Type 0) (ids : ℕ) (given : Given) (env : List Arg)
      (nodes : List Node) (got : Option A) (next : ℕ) (f : A → Making Done)
      → AreStocked nodes given → Yields (walk file limits nodes given) (λ mid. IfGot R ids given next mid got)
      → ((mid : Given) (a : A) → IsLater ids given next mid → R next mid a → AreStocked (f a next).nodes mid)
      → AreStocked (or_stopped env nodes got next f).nodes given
  stopped-stocked R ids given env nodes None next f stocked was onward = stocked
  stopped-stocked R ids given env nodes (Some a) next f stocked was onward =
      stocked-both nodes (f a next).nodes given stocked
      (λ mid walked. let g = was mid walked in onward mid a g.0 g.1)

  -- a header and then what follows it in a statement
  pub done-stocked : {A : Type 0} (R : ℕ → Given → A → Type 0) (ids : ℕ) (given : Given) (env : List Arg)
      (u : Making A) (f : A → Making Done) → Supplied R ids given (u ids)
      → ((next : ℕ) (mid : Given) (a : A) → IsLater ids given next mid → R next mid a → AreStocked (f a next).nodes mid)
      → AreStocked (then_done env u f ids).nodes given
  unfolding then_done
  done-stocked R ids given env u f first onward =
      stopped-stocked R ids given env (u ids).nodes (u ids).got (u ids).next f first.nodes first.got (onward (u ids).next)

  -- the same of one piece and then the next, by what came of the first
  carry-stocked : {A B : Type 0} (R : ℕ → Given → A → Type 0) (ids : ℕ) (given : Given)
      (nodes : List Node) (got : Option A) (next : ℕ) (f : A → Making B)
      → AreStocked nodes given → Yields (walk file limits nodes given) (λ mid. IfGot R ids given next mid got)
      → ((mid : Given) (a : A) → IsLater ids given next mid → R next mid a → AreStocked (f a next).nodes mid)
      → AreStocked (carry nodes got next f).nodes given
  carry-stocked R ids given nodes None next f stocked was onward = stocked
  carry-stocked R ids given nodes (Some a) next f stocked was onward =
      stocked-both nodes (f a next).nodes given stocked
      (λ mid walked. let g = was mid walked in onward mid a g.0 g.1)

  -- one piece and then the next, whatever comes of the next
  pub then-stocked : {A B : Type 0} (R : ℕ → Given → A → Type 0) (ids : ℕ) (given : Given)
      (u : Making A) (f : A → Making B) → Supplied R ids given (u ids)
      → ((next : ℕ) (mid : Given) (a : A) → IsLater ids given next mid → R next mid a → AreStocked (f a next).nodes mid)
      → AreStocked ((u >>> f) ids).nodes given
  unfolding ◌>>>◌
  then-stocked R ids given u f first onward =
      carry-stocked R ids given (u ids).nodes (u ids).got (u ids).next f first.nodes first.got (onward (u ids).next)

  -- no node is supplied
  pub pure-stocked : {A : Type 0} (ids : ℕ) (given : Given) (a : A) → AreStocked (pure a ids).nodes given
  unfolding pure AreStocked
  pure-stocked ids given a = tt

  -- no node, and what comes of it
  pub pure-supplied : {A : Type 0} (R : ℕ → Given → A → Type 0) (ids : ℕ) (given : Given) (a : A)
      → R ids given a → Supplied R ids given (pure a ids)
  unfolding pure walk AreStocked
  pure-supplied R ids given a r = record {
    nodes = tt;
    got = yields-gives given (λ after. IfGot R ids given ids after (Some a)) (later-same ids given, r);
  }

  -- one node that has what it needs
  pub emit-supplied : (P : Ports → Type 0) (ids : ℕ) (given : Given) (at : Context) (work : Work)
      → AreGiven ids given (arguments work) → HasNeeds file at.routine given work
      → Yields (work_ports file limits work (node_of at ids work) given) P
      → Supplied (IsMade P) ids given (emit at work ids)
  unfolding emit walk AreStocked
  emit-supplied P ids given at work are needs puts = record {
    nodes = (are, needs, where-all (work_ports file limits work (node_of at ids work) given).result _ (λ ports. tt));
    got =
        yields-then (work_ports file limits work (node_of at ids work) given) (λ ports. gives (give ids ports given)) P
        (λ after. IfGot (IsMade P) ids given (suc ids) after (Some ids)) puts
        (λ ports p. yields-gives (give ids ports given) (λ after. IfGot (IsMade P) ids given (suc ids) after (Some ids)) (
          record { grown = omega arith; kept = kept-give ids ports given },
          (omega arith, subst P (sym (ap (λ b. if b then ports else given ids) (itself ids))) p),
        ));
  }

  -- one node, and its value
  pub value-supplied : (ids : ℕ) (given : Given) (at : Context) (work : Work)
      → AreGiven ids given (arguments work) → HasNeeds file at.routine given work
      → Yields (work_ports file limits work (node_of at ids work) given) HasFirst
      → Supplied HasSome ids given (emit_value at work ids)
  value-supplied ids given at work are needs puts =
      then-supplied (IsMade HasFirst) HasSome ids given (emit at work) (λ id. pure (From (port id 0)))
      (emit-supplied HasFirst ids given at work are needs puts)
      (λ next mid id later made.
      pure-supplied HasSome next mid (From (port id 0)) (made.1.0, (made.1.1, made.0)))

  -- a Stop, whatever would have come of it
  pub stop-supplied : {A : Type 0} (R : ℕ → Given → A → Type 0) (ids : ℕ) (given : Given) (at : Context) (fault : Fault)
      → Supplied R ids given (stop at fault ids)
  unfolding stop AreStocked
  stop-supplied R ids given at fault = record {
    nodes = (tt, tt, where-all (work_ports file limits (Stop fault) (node_of at ids (Stop fault)) given).result _ (λ ports. tt));
    got = λ after walked. tt;
  }
