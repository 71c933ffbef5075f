-- Lists whose nodes have what they need: their parts, and that a composite in one is ready.
use Rattle.std.proofs.Common.{◌≡◌, ◌≤◌, ℕ, List, [], ◌∷◌, ◌++◌, Option, Some, None, refl, ap, subst, ◌∙◌}
use Rattle.std.specs.Prelude.{IsTrue, is_some}
use Rattle.pyd_value.specs.declared.value.Value.{Value}
use Rattle.pyd_tree.specs.declared.file.File.{File}
use Rattle.pyd_names.specs.Binding.{locals}
use Rattle.pyd_meaning.specs.declared.limits.Limits.{Limits}
use Rattle.pyd_meaning.specs.Evaluation.{Evaluation, settled}
use Rattle.pyd_ir.specs.declared.arg.Arg.{Arg}
use Rattle.pyd_ir.specs.declared.node.Node.{Node}
use Rattle.pyd_ir.specs.declared.work.Frame.{Frame}
use Rattle.pyd_ir.specs.declared.work.Work.{Work}
use Rattle.pyd_ir.specs.declared.work.Work.TheVariants.{Op, Read, Call, Stop, Print, Run, Cond, While, For, Pick, Enter}
use Rattle.pyd_ir.specs.Arguments.{arguments, rest_arguments, side_arguments, is_composite}
use Rattle.pyd_ir.specs.Inputs.{Given, value_of, has_value, have_values}
use Rattle.pyd_translate.specs.Walk.{give, work_ports, walk}
use Rattle.pyd_translate.specs.Matching.{IsGiven, AreGiven, HaveValues}
use Rattle.pyd_translate.specs.Supplied.{AreFilled, HasNeeds, WhereGiven, AreSupplied}
use Rattle.pyd_translate.proofs.Keeping.{given-below, all_given-below, all_given-kept}
use Rattle.pyd_translate.proofs.Supplying.{HasSome, where-then}
use Rattle.pyd_translate.proofs.Sequencing.{then-ok}
use Rattle.pyd_translate.proofs.Yields.{yields-gives, yields-then}
use Rattle.pyd_refine.specs.Readiness.{Yields, IsThere, control_value, HasRest, IsLoopNode, IsReadyFor, IsReady}
use Rattle.pyd_refine.specs.Supply.{ReadyLaw}
use Rattle.pyd_refine.proofs.Naming.{each-true}

-- what holds where something was given holds of whatever an evaluation gives
pub where-yields : {A : Type 0} (e : Evaluation A) (P : A → Type 0) → WhereGiven e.result P → Yields e P
where-yields e P w x is = subst (λ r. WhereGiven r P) is w

-- a value that is there by test
some-there : (o : Option Value) → IsTrue (is_some o) → (v : Value) × (o ≡ Some v)
some-there (Some v) p = (v, refl)
some-there None p = absurd (cc p)

-- the same as a fact
is-there : (o : Option Value) → IsTrue (is_some o) → IsThere o
is-there (Some v) p = tt
is-there None p = absurd (cc p)

-- an argument that is given and has a value by test
pub value-had : (next : ℕ) (given : Given) (a : Arg) → IsGiven next given a → IsTrue (has_value given a)
    → HasSome next given a
value-had next given a is p =
    let there = some-there (value_of given a) p in
    (there.0, (there.1, given-below next given a is))

-- several of them
pub values-had : (next : ℕ) (given : Given) (args : List Arg) → AreGiven next given args → IsTrue (have_values given args)
    → HaveValues next given args
values-had next given [] are p = tt
values-had next given (a ∷ args) are p =
    let both = each-true (has_value given a) (have_values given args) p in
    (value-had next given a are.0 both.0, values-had next given args are.1 both.1)

-- the first of two lists of arguments
pub given-left : (next : ℕ) (given : Given) (xs ys : List Arg) → AreGiven next given (xs ++ ys) → AreGiven next given xs
given-left next given [] ys are = tt
given-left next given (x ∷ xs) ys are = (are.0, given-left next given xs ys are.1)

-- the second
pub given-right : (next : ℕ) (given : Given) (xs ys : List Arg) → AreGiven next given (xs ++ ys) → AreGiven next given ys
given-right next given [] ys are = are
given-right next given (x ∷ xs) ys are = given-right next given xs ys are.1

module _ (file : File) (limits : Limits) where
  -- a list is supplied by any greater number
  pub supplied-higher : (low high : ℕ) (ns : List Node) (given : Given) → low ≤ high
      → AreSupplied file limits low ns given → AreSupplied file limits high ns given
  unfolding AreSupplied
  supplied-higher low high [] given le s = tt
  supplied-higher low high (n ∷ ns) given le s = (
    all_given-kept low high given given (arguments n.work) le (λ node port lt. refl) s.0,
    s.1,
    where-then (work_ports file limits n.work n given).result _ _ s.2
        (λ ports is rest. supplied-higher low high ns (give n.id ports given) le rest),
  )

  -- the first of two lists
  pub supplied-left : (next : ℕ) (xs ys : List Node) (given : Given)
      → AreSupplied file limits next (xs ++ ys) given → AreSupplied file limits next xs given
  unfolding AreSupplied
  supplied-left next [] ys given s = tt
  supplied-left next (x ∷ xs) ys given s = (
    s.0,
    s.1,
    where-then (work_ports file limits x.work x given).result _ _ s.2
        (λ ports is rest. supplied-left next xs ys (give x.id ports given) rest),
  )

  -- the second, wherever the walk of the first leads
  pub supplied-right : (next : ℕ) (xs ys : List Node) (given : Given)
      → AreSupplied file limits next (xs ++ ys) given
      → Yields (walk file limits xs given) (λ reached. AreSupplied file limits next ys reached)
  unfolding AreSupplied walk
  supplied-right next [] ys given s = yields-gives given (λ reached. AreSupplied file limits next ys reached) s
  supplied-right next (x ∷ xs) ys given s =
      yields-then (work_ports file limits x.work x given) (λ ports. walk file limits xs (give x.id ports given))
      (λ ports. AreSupplied file limits next (xs ++ ys) (give x.id ports given))
      (λ reached. AreSupplied file limits next ys reached)
      (where-yields (work_ports file limits x.work x given) _ s.2)
      (λ ports rest. supplied-right next xs ys (give x.id ports given) rest)

  -- two lists, where the second is supplied wherever the walk of the first leads
  pub supplied-both : (next : ℕ) (xs ys : List Node) (given : Given) → AreSupplied file limits next xs given
      → Yields (walk file limits xs given) (λ reached. AreSupplied file limits next ys reached)
      → AreSupplied file limits next (xs ++ ys) given
  unfolding AreSupplied walk settled
  supplied-both next [] ys given s on = on given refl
  supplied-both next (x ∷ xs) ys given s on = (
    s.0,
    s.1,
    where-then (work_ports file limits x.work x given).result _ _ s.2
        (λ ports is rest. supplied-both next xs ys (give x.id ports given) rest
        (λ reached walked. on reached (ap (λ e. e.result)
        (then-ok (work_ports file limits x.work x given) ports (λ o. walk file limits xs (give x.id o given)) is) ∙ walked))),
  )

  module _ (node : Node) (chosen : Option Value) (ids : ℕ) (given : Given) where
    -- the rest and the slots of a composite that has what it needs
    has-rest : (rest : List Frame) (env : List Arg) → AreGiven ids given (rest_arguments rest ++ env)
        → AreFilled file node.routine env → HasRest (locals file node.routine) ids given rest env
    has-rest rest env are filled = record {
      filled = record { count = filled; all_given = given-right ids given (rest_arguments rest) env are };
      below = all_given-below ids given (rest_arguments rest) (given-left ids given (rest_arguments rest) env are);
    }

    -- a loop's node that has what it needs
    loop-node : (a : Arg) (k : ℕ) (rest : List Frame) (env : List Arg) → AreGiven ids given (a ∷ (rest_arguments rest ++ env))
        → AreFilled file node.routine env → IsLoopNode file ids given node a k rest env
    loop-node a k rest env are filled = record {
      over = (given-below ids given a are.0, tt);
      goes_on = has-rest rest env are.1 filled;
    }

    -- each composite that has what it needs is ready
    work-ready : (w : Work) → IsTrue (is_composite w) → AreGiven ids given (arguments w)
        → HasNeeds file node.routine given w → control_value given w ≡ chosen → IsReadyFor file ids given chosen w node
    work-ready (Op op args) is are needs e = absurd (cc is)
    work-ready (Read arg kind) is are needs e = absurd (cc is)
    work-ready (Call func args) is are needs e = absurd (cc is)
    work-ready (Stop fault) is are needs e = absurd (cc is)
    work-ready (Print args) is are needs e = absurd (cc is)
    work-ready (Run func args) is are needs e = absurd (cc is)
    work-ready (Cond test k arm rest env) is are needs e =
        (subst IsThere e (is-there (value_of given test) needs.0), has-rest rest env are.1 needs.2)
    work-ready (While test k turns rest env) is are needs e =
        (subst IsThere e (is-there (value_of given test) needs.0), loop-node test k rest env are needs.2)
    work-ready (For over k turns rest env) is are needs e =
        (subst IsThere e (is-there (value_of given over) needs.0), loop-node over k rest env are needs.2)
    work-ready (Pick test first second env) is are needs e =
        let others = given-right ids given (side_arguments first) (side_arguments second ++ env) are.1 in (
          subst IsThere e (is-there (value_of given test) needs.0),
          record { count = needs.3; all_given = given-right ids given (side_arguments second) env others },
          values-had ids given (side_arguments first)
              (given-left ids given (side_arguments first) (side_arguments second ++ env) are.1) needs.1,
          values-had ids given (side_arguments second) (given-left ids given (side_arguments second) env others) needs.2,
        )
    work-ready (Enter func args) is are needs e = values-had ids given args are needs

  -- the first of a list that is supplied, where it is a composite
  first-ready : (ids : ℕ) (given : Given) (node : Node) (after : List Node) (chosen : Option Value)
      → AreSupplied file limits ids (node ∷ after) given → IsTrue (is_composite node.work)
      → control_value given node.work ≡ chosen → IsReady file ids given node chosen
  unfolding AreSupplied
  first-ready ids given node after chosen s is e =
      record { fields = work-ready node chosen ids given node.work is s.0 s.1 e; value = e }

-- a composite in a list that is supplied is ready wherever the walk leads to it
pub ready : ReadyLaw
ready file limits ids given before node after chosen supplied is control reached walked =
    first-ready file limits ids reached node after chosen
    (supplied-right file limits ids before (node ∷ after) given supplied reached walked) is (control reached walked)
