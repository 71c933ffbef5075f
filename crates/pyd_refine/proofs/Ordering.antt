-- How lists in order are cut and put together.
use Rattle.std.proofs.Common.{◌≡◌, ℕ, ◌≤◌, ◌<◌, List, [], ◌∷◌, ◌++◌, refl, sym, ap, subst, ◌∙◌, arith, inl, inr, ◌⊎◌, nat_eq, Bool, true, false}
use Rattle.std.specs.Prelude.{◌||◌}
use Rattle.std.proofs.lemmas.Bool.Decides.{nat_tests}
use Rattle.pyd_ir.specs.declared.arg.Arg.{Arg}
use Rattle.pyd_ir.specs.declared.arg.Arg.TheVariants.{Known, From, Slot, Unbound}
use Rattle.pyd_ir.specs.declared.node.Node.{Node}
use Rattle.pyd_translate.specs.Naming.{Numbers, IsAmong, AreAmong}
use Rattle.pyd_refine.specs.Ordering.{and_one, and_nodes, IsOrdered, LieBelow}
use Rattle.pyd_refine.specs.Laws.{AreFrom}

-- neither of two is true
pub neither : (a b : Bool) → (a || b) ≡ false → (a ≡ false) × (b ≡ false)
neither true b e = absurd (cc e)
neither false b e = (refl, e)

-- the second of two is true
pub second-true : (a b : Bool) → b ≡ true → (a || b) ≡ true
second-true true b e = refl
second-true false b e = e

-- one of two is true
pub one-true : (a b : Bool) → (a || b) ≡ true → (a ≡ true) ⊎ (b ≡ true)
one-true true b e = inl refl
one-true false b e = inr e

-- what isn't true is false
pub not-true : (a : Bool) → ((a ≡ true) → ⊥) → a ≡ false
not-true true f = absurd (f refl)
not-true false f = refl

-- a number is itself
pub is-itself : (n : ℕ) → nat_eq n n ≡ true
is-itself n = grind (arith, nat_tests)

-- equal by test
pub test-equal : (m n : ℕ) → nat_eq m n ≡ true → m ≡ n
test-equal m n e = grind (arith, nat_tests)

-- apart where one lies below what the other lies above
pub test-apart : (m n low : ℕ) → m < low → low ≤ n → nat_eq m n ≡ false
test-apart m n low p q = grind (arith, nat_tests)

-- known numbers and unknown ones are apart
pub known-apart : (known : Numbers) (m n : ℕ) → known m ≡ true → known n ≡ false → nat_eq m n ≡ false
known-apart known m n p q =
    not-true (nat_eq m n) (λ e. cc (sym p ∙ ap known (test-equal m n e) ∙ q))

-- what names some numbers names any that are more
pub among-more : (known more : Numbers) → ((m : ℕ) → known m ≡ true → more m ≡ true)
    → (a : Arg) → IsAmong known a → IsAmong more a
among-more known more f (Known v) p = tt
among-more known more f (From r) p = f r.node p
among-more known more f (Slot r) p = f r.node p
among-more known more f Unbound p = tt

-- the same of lists
pub all-more : (known more : Numbers) → ((m : ℕ) → known m ≡ true → more m ≡ true)
    → (args : List Arg) → AreAmong known args → AreAmong more args
all-more known more f [] p = tt
all-more known more f (a ∷ args) p = (among-more known more f a p.0, all-more known more f args p.1)

-- the arguments of two lists
pub among-append : (known : Numbers) (xs ys : List Arg) → AreAmong known xs → AreAmong known ys → AreAmong known (xs ++ ys)
among-append known [] ys p q = q
among-append known (x ∷ xs) ys p q = (p.0, among-append known xs ys p.1 q)

-- those of the first
pub among-left : (known : Numbers) (xs ys : List Arg) → AreAmong known (xs ++ ys) → AreAmong known xs
among-left known [] ys p = tt
among-left known (x ∷ xs) ys p = (p.0, among-left known xs ys p.1)

-- those of the second
pub among-right : (known : Numbers) (xs ys : List Arg) → AreAmong known (xs ++ ys) → AreAmong known ys
among-right known [] ys p = p
among-right known (x ∷ xs) ys p = among-right known xs ys p.1

-- what is known stays known
pub still-known : (known : Numbers) (ns : List Node) (m : ℕ) → known m ≡ true → and_nodes known ns m ≡ true
still-known known [] m p = p
still-known known (n ∷ ns) m p =
    still-known (and_one known n.id) ns m (second-true (nat_eq m n.id) (known m) p)

-- a number below those of new nodes stays unknown
pub still-unknown : (known : Numbers) (low : ℕ) (ns : List Node) (m : ℕ)
    → AreFrom low ns → m < low → known m ≡ false → and_nodes known ns m ≡ false
still-unknown known low [] m from lt p = p
still-unknown known low (n ∷ ns) m from lt p =
    still-unknown (and_one known n.id) low ns m from.1 lt
    (ap (λ b. b || known m) (test-apart m n.id low lt from.0) ∙ p)

-- what is known with one more is known or is that one
pub one-more-below : (known : Numbers) (id next : ℕ) → id < next → LieBelow known next → LieBelow (and_one known id) next
one-more-below known id next lt below m p = go (one-true (nat_eq m id) (known m) p)
  where
    go : (nat_eq m id ≡ true) ⊎ (known m ≡ true) → m < next
    go (inl e) = subst (λ n. n < next) (sym (test-equal m id e)) lt
    go (inr e) = below m e

-- what is known with nodes in order lies below the next number
pub nodes-below : (known : Numbers) (next : ℕ) (ns : List Node)
    → IsOrdered known next ns → LieBelow known next → LieBelow (and_nodes known ns) next
nodes-below known next [] o below = below
nodes-below known next (n ∷ ns) o below =
    nodes-below (and_one known n.id) next ns o.3 (one-more-below known n.id next o.0 below)

-- the first of two lists in order
pub ordered-left : (known : Numbers) (next : ℕ) (xs ys : List Node)
    → IsOrdered known next (xs ++ ys) → IsOrdered known next xs
ordered-left known next [] ys o = tt
ordered-left known next (x ∷ xs) ys o = (o.0, o.1, o.2, ordered-left (and_one known x.id) next xs ys o.3)

-- the second, behind the first
pub ordered-right : (known : Numbers) (next : ℕ) (xs ys : List Node)
    → IsOrdered known next (xs ++ ys) → IsOrdered (and_nodes known xs) next ys
ordered-right known next [] ys o = o
ordered-right known next (x ∷ xs) ys o = ordered-right (and_one known x.id) next xs ys o.3

-- one list in order, and another behind it
pub ordered-append : (known : Numbers) (next : ℕ) (xs ys : List Node)
    → IsOrdered known next xs → IsOrdered (and_nodes known xs) next ys → IsOrdered known next (xs ++ ys)
ordered-append known next [] ys o p = p
ordered-append known next (x ∷ xs) ys o p =
    (o.0, o.1, o.2, ordered-append (and_one known x.id) next xs ys o.3 p)

-- a greater next number
pub ordered-higher : (known : Numbers) (next high : ℕ) (ns : List Node)
    → next ≤ high → IsOrdered known next ns → IsOrdered known high ns
ordered-higher known next high [] le o = tt
ordered-higher known next high (n ∷ ns) le o =
    let lt = o.0 in
    (omega arith, o.1, o.2, ordered-higher (and_one known n.id) next high ns le o.3)

-- a node that stands later isn't known yet
pub later-unknown : (known : Numbers) (next : ℕ) (xs : List Node) (node : Node) (ys : List Node)
    → IsOrdered known next (xs ++ node ∷ ys) → known node.id ≡ false
later-unknown known next [] node ys o = o.1
later-unknown known next (x ∷ xs) node ys o =
    (neither (nat_eq node.id x.id) (known node.id) (later-unknown (and_one known x.id) next xs node ys o.3)).1

-- and it has another number than each that stands before it
pub later-apart : (known : Numbers) (next : ℕ) (x : Node) (xs : List Node) (node : Node) (ys : List Node)
    → IsOrdered known next (x ∷ (xs ++ node ∷ ys)) → nat_eq x.id node.id ≡ false
later-apart known next x xs node ys o =
    known-apart (and_one known x.id) x.id node.id
    (ap (λ b. b || known x.id) (is-itself x.id))
    (later-unknown (and_one known x.id) next xs node ys o.3)
