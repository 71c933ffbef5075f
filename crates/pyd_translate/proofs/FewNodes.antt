-- How many nodes are made at most by what makes them: those of an expression leave one to spare.
use Rattle.std.proofs.Common.{◌≡◌, ◌≤◌, ℕ, ◌+◌, List, ◌++◌, length, Option, Some, None, Bool, true, false, if◌then◌else◌, arith}
use Rattle.std.proofs.lemmas.List.{length-append}
use Rattle.pyd_value.specs.declared.fault.Fault.{Fault}
use Rattle.pyd_ir.specs.declared.arg.Arg.{Arg}
use Rattle.pyd_ir.specs.declared.node.Node.{Node}
use Rattle.pyd_ir.specs.declared.work.Work.{Work}
use Rattle.pyd_translate.specs.Making.{Making, Context, pure, carry, ◌>>>◌, emit, stop, emit_value}
use Rattle.pyd_translate.specs.Statements.{Done, or_stopped, then_done}

-- no more nodes are made than so many, with some to spare
abbrev pub Few : {A : Type 0} → ℕ → ℕ → Making A → Type 0
Few count spare making = (ids : ℕ) → length (making ids).nodes + spare ≤ count

-- nodes, and then others
carry_few : {A B : Type 0} (a p b q n r : ℕ) (nodes : List Node) (got : Option A) (next : ℕ)
    (f : A → Making B) → length nodes + p ≤ a → ((x : A) → Few b q (f x))
    → a + r ≤ n + p → a + b + r ≤ n + p + q
    → length (carry nodes got next f).nodes + r ≤ n
carry_few a p b q n r nodes None next f few behind one both = omega (arith, few, one)
carry_few a p b q n r nodes (Some x) next f few behind one both =
    let more : length (f x next).nodes + q ≤ b = behind x next in
    let all : length (nodes ++ (f x next).nodes) ≡ length nodes + length (f x next).nodes =
    length-append nodes (f x next).nodes in
    omega (arith, few, more, all, both)

-- the same where a Stop leaves the slots as they were
stopped_few : {A : Type 0} (a p b q n r : ℕ) (env : List Arg) (nodes : List Node)
    (got : Option A) (next : ℕ) (f : A → Making Done) → length nodes + p ≤ a
    → ((x : A) → Few b q (f x)) → a + r ≤ n + p → a + b + r ≤ n + p + q
    → length (or_stopped env nodes got next f).nodes + r ≤ n
stopped_few a p b q n r env nodes None next f few behind one both = omega (arith, few, one)
stopped_few a p b q n r env nodes (Some x) next f few behind one both =
    carry_few a p b q n r nodes (Some x) next f few behind one both

-- one piece, and then the next
pub then_few : {A B : Type 0} (a p b q n r : ℕ) (u : Making A) (f : A → Making B)
    → Few a p u → ((x : A) → Few b q (f x)) → a + r ≤ n + p → a + b + r ≤ n + p + q
    → Few n r (u >>> f)
unfolding ◌>>>◌
then_few a p b q n r u f few behind one both ids =
    carry_few a p b q n r (u ids).nodes (u ids).got (u ids).next f (few ids) behind one both

-- what a statement evaluates, and then what it does
pub done_few : {A : Type 0} (a p b q n r : ℕ) (env : List Arg) (u : Making A)
    (f : A → Making Done) → Few a p u → ((x : A) → Few b q (f x))
    → a + r ≤ n + p → a + b + r ≤ n + p + q → Few n r (then_done env u f)
unfolding then_done
done_few a p b q n r env u f few behind one both ids =
    stopped_few a p b q n r env (u ids).nodes (u ids).got (u ids).next f (few ids) behind one both

-- fewer are made, or more are left to spare
pub few_more : {A : Type 0} (a p n r : ℕ) (u : Making A) → Few a p u → a + r ≤ n + p → Few n r u
few_more a p n r u few le ids = let one : length (u ids).nodes + p ≤ a = few ids in omega (arith, one, le)

-- no node
pub pure_few : {A : Type 0} (n r : ℕ) (a : A) → r ≤ n → Few n r (pure a)
unfolding pure
pure_few n r a le ids = omega (arith, le)

-- one node
pub emit_few : (at : Context) (work : Work) → Few 1 0 (emit at work)
unfolding emit
emit_few at work ids = omega arith

-- one node, and its value
pub value_few : (at : Context) (work : Work) → Few 1 0 (emit_value at work)
unfolding ◌>>>◌ emit pure
value_few at work ids = omega arith

-- a Stop
pub stop_few : (A : Type 0) (at : Context) (fault : Fault) → Few 1 0 (stop {A = A} at fault)
unfolding stop
stop_few A at fault ids = omega arith

-- one of two
pub if_few : {A : Type 0} (n r : ℕ) (which : Bool) (u v : Making A) → Few n r u → Few n r v
    → Few n r (if which then u else v)
if_few n r true u v p q = p
if_few n r false u v p q = q
