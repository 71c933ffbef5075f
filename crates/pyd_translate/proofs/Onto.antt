-- What is made onto nodes that were there before.
use Rattle.std.proofs.Common.{◌≡◌, ℕ, suc, List, [], ◌∷◌, ◌++◌, append_assoc, append-nil, refl, sym, ap, ◌∙◌, Option, Some, None}
use Rattle.pyd_value.specs.declared.fault.Fault.{Fault}
use Rattle.pyd_ir.specs.declared.node.Node.{Node}
use Rattle.pyd_ir.specs.declared.arg.Arg.TheVariants.{From}
use Rattle.pyd_ir.specs.declared.work.Work.{Work}
use Rattle.pyd_ir.specs.declared.work.Work.TheVariants.{Stop}
use Rattle.pyd_translate.specs.Making.{Piece, Making, Context, pure, carry, ◌>>>◌, node_of, emit, emit_value, stop, port}
use Rattle.pyd_translate.specs.Drafts.{onto}

-- no node
pub onto_pure : {A : Type 0} (before : List Node) (a : A) (ids : ℕ)
    → onto before (pure a ids) ≡ (before, Some a, ids)
unfolding onto pure
onto_pure before a ids = ap (λ l. (l, Some a, ids)) (append-nil before)

carry_some : {A B : Type 0} (before mid nodes : List Node) (got : Option A) (n next : ℕ) (a : A) (f : A → Making B)
    → before ++ nodes ≡ mid → got ≡ Some a → n ≡ next
    → onto before (carry nodes got n f) ≡ onto mid (f a next)
unfolding onto
carry_some before mid nodes got n next a f p q r =
    ap (λ o. onto before (carry nodes o n f)) q
    ∙ ap (λ (l : List Node). (l, (f a n).got, (f a n).next)) (sym (append_assoc before nodes (f a n).nodes))
    ∙ (λ i. (p i ++ (f a (r i)).nodes, (f a (r i)).got, (f a (r i)).next))

carry_none : {A B : Type 0} (before mid nodes : List Node) (got : Option A) (n next : ℕ) (f : A → Making B)
    → before ++ nodes ≡ mid → got ≡ None → n ≡ next
    → onto before (carry nodes got n f) ≡ (mid, None, next)
unfolding onto
carry_none {B = B} before mid nodes got n next f p q r =
    ap (λ o. onto before (carry nodes o n f)) q ∙ (λ i. (p i, None, r i))

-- what follows, behind something that came
pub onto_then : {A B : Type 0} (before mid : List Node) (u : Making A) (f : A → Making B) (ids next : ℕ) (a : A)
    → onto before (u ids) ≡ (mid, Some a, next)
    → onto before ((u >>> f) ids) ≡ onto mid (f a next)
unfolding onto ◌>>>◌
onto_then before mid u f ids next a e =
    carry_some before mid (u ids).nodes (u ids).got (u ids).next next a f
    (ap (λ t. t.0) e) (ap (λ t. t.1) e) (ap (λ t. t.2) e)

-- behind a Stop nothing follows
pub onto_none : {A B : Type 0} (before mid : List Node) (u : Making A) (f : A → Making B) (ids next : ℕ)
    → onto before (u ids) ≡ (mid, None, next)
    → onto before ((u >>> f) ids) ≡ (mid, None, next)
unfolding onto ◌>>>◌
onto_none before mid u f ids next e =
    carry_none before mid (u ids).nodes (u ids).got (u ids).next next f
    (ap (λ t. t.0) e) (ap (λ t. t.1) e) (ap (λ t. t.2) e)

-- one node
pub onto_emit : (before : List Node) (at : Context) (w : Work) (ids : ℕ)
    → onto before (emit at w ids) ≡ (before ++ node_of at ids w ∷ [], Some ids, suc ids)
unfolding onto emit
onto_emit before at w ids = refl

-- a node that is a Stop
pub onto_stop : {A : Type 0} (before mid : List Node) (at : Context) (x : Fault) (ids id next : ℕ)
    → onto before (emit at (Stop x) ids) ≡ (mid, Some id, next)
    → onto before (stop {A = A} at x ids) ≡ (mid, None, next)
unfolding onto emit stop
onto_stop before mid at x ids id next e = λ i. (ap (λ t. t.0) e i, None, ap (λ t. t.2) e i)

-- a node and its value
pub onto_value : (before mid : List Node) (at : Context) (w : Work) (ids id next : ℕ)
    → onto before (emit at w ids) ≡ (mid, Some id, next)
    → onto before (emit_value at w ids) ≡ (mid, Some (From (port id 0)), next)
onto_value before mid at w ids id next e =
    onto_then before mid (emit at w) (λ n. pure (From (port n 0))) ids next id e
    ∙ onto_pure mid (From (port id 0)) next

-- what is last
pub onto_last : {A B : Type 0} (before mid : List Node) (u : Making A) (f : A → B) (ids next : ℕ) (a : A)
    → onto before (u ids) ≡ (mid, Some a, next)
    → onto before ((u >>> (λ x. pure (f x))) ids) ≡ (mid, Some (f a), next)
onto_last before mid u f ids next a e =
    onto_then before mid u (λ x. pure (f x)) ids next a e ∙ onto_pure mid (f a) next

-- what follows a value that follows
assoc_in : {B C : Type 0} (nodes ms : List Node) (got : Option B) (n : ℕ) (h : B → Making C)
    → carry (nodes ++ ms) got n h
    ≡ (let p : Piece C = carry ms got n h in record { nodes = nodes ++ p.nodes; got = p.got; next = p.next })
assoc_in nodes ms (Some b) n h =
    ap (λ (l : List Node). (let p : Piece _ = record { nodes = l; got = (h b n).got; next = (h b n).next } in p))
    (append_assoc nodes ms (h b n).nodes)
assoc_in nodes ms None n h = refl

assoc_carry : {A B C : Type 0} (nodes : List Node) (got : Option A) (n : ℕ) (f : A → Making B) (h : B → Making C)
    → carry (carry nodes got n f).nodes (carry nodes got n f).got (carry nodes got n f).next h
    ≡ carry nodes got n (λ a. f a >>> h)
unfolding ◌>>>◌
assoc_carry nodes (Some a) n f h = assoc_in nodes (f a n).nodes (f a n).got (f a n).next h
assoc_carry nodes None n f h = refl

pub making_assoc : {A B C : Type 0} (u : Making A) (f : A → Making B) (h : B → Making C)
    → ((u >>> f) >>> h) ≡ (u >>> (λ a. f a >>> h))
unfolding ◌>>>◌
making_assoc u f h = λ i ids. assoc_carry (u ids).nodes (u ids).got (u ids).next f h i

pure_carry : {A : Type 0} (nodes : List Node) (got : Option A) (n : ℕ)
    → carry nodes got n (λ a. pure a) ≡ record { nodes = nodes; got = got; next = n }
unfolding pure
pure_carry nodes (Some a) n =
    ap (λ (l : List Node). (let p : Piece _ = record { nodes = l; got = Some a; next = n } in p)) (append-nil nodes)
pure_carry nodes None n = refl

pub then_pure : {A : Type 0} (u : Making A) → (u >>> (λ a. pure a)) ≡ u
unfolding ◌>>>◌
then_pure u = λ i ids. pure_carry (u ids).nodes (u ids).got (u ids).next i

pub pure_then : {A B : Type 0} (a : A) (f : A → Making B) → (pure a >>> f) ≡ f a
unfolding ◌>>>◌ pure
pure_then a f = refl
