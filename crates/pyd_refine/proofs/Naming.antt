-- A piece whose nodes name only what is known or nodes before them in it is new.
use Rattle.std.proofs.Common.{◌≡◌, ℕ, suc, ◌+◌, ◌≤◌, ◌<◌, nat_eq, nat_lt, nat_le, List, [], ◌∷◌, length, Bool, true, false, Option, Some, None, inl, inr, ◌⊎◌, refl, sym, ap, subst, ◌∙◌, arith}
use Rattle.std.specs.Prelude.{◌||◌, ◌&&◌}
use Rattle.std.proofs.lemmas.Bool.Decides.{nat_tests}
use Rattle.pyd_ir.specs.declared.arg.Arg.{Arg}
use Rattle.pyd_ir.specs.declared.arg.Arg.TheVariants.{Unbound}
use Rattle.pyd_ir.specs.declared.node.Node.{Node}
use Rattle.pyd_ir.specs.Arguments.{arguments}
use Rattle.pyd_translate.specs.Making as making
use Rattle.pyd_translate.specs.Naming.{Numbers, AreAmong, Naming, AreNamed}
use Rattle.pyd_translate.specs.Statements.{Done}
use Rattle.pyd_translate.specs.Starts.{done_or_stopped, statements_piece}
use Rattle.pyd_translate.proofs.Ordering.{in_among, are_among, IfThere, InOrder, IsLowDone}
use Rattle.pyd_refine.specs.Redirecting.{images}
use Rattle.pyd_refine.specs.Ordering.{and_one, and_nodes, IsOrdered, LieBelow}
use Rattle.pyd_refine.specs.Laws.{AreFrom, IsNew}
use Rattle.pyd_refine.proofs.Ordering.{second-true, one-true, all-more, among-append, still-known}

-- both of two are true
pub both-true : (a b : Bool) → a ≡ true → b ≡ true → (a && b) ≡ true
both-true true b p q = q
both-true false b p q = absurd (cc p)

-- each of two that are true
pub each-true : (a b : Bool) → (a && b) ≡ true → (a ≡ true) × (b ≡ true)
each-true true b p = (refl, p)
each-true false b p = absurd (cc p)

-- a number is below another, by test
pub is-less : (k n : ℕ) → k < n → nat_lt k n ≡ true
is-less k n lt = grind (arith, nat_tests)

-- and the other way round
pub less-is : (k n : ℕ) → nat_lt k n ≡ true → k < n
less-is k n e = grind (arith, nat_tests)

-- a number is no less than another, by test
pub is-from : (low k : ℕ) → low ≤ k → nat_le low k ≡ true
is-from low k le = grind (arith, nat_tests)

-- and the other way round
pub from-is : (low k : ℕ) → nat_le low k ≡ true → low ≤ k
from-is low k e = grind (arith, nat_tests)

equal-is : (k n : ℕ) → k ≡ n → nat_eq k n ≡ true
equal-is k n e = grind (arith, nat_tests)

other-is : (k n : ℕ) → n < k → nat_eq k n ≡ false
other-is k n lt = grind (arith, nat_tests)

module _ (known : Numbers) (ids : ℕ) where
  -- what is known, and each node before from a number on
  abbrev pub may_name : ℕ → Numbers
  may_name n k = nat_lt k n && (known k || nat_le ids k)

  -- a node of a piece may name these
  abbrev pub piece_naming : Naming
  piece_naming = record {
    base = ids;
    may = may_name;
    slots = λ k. true;
    up = λ m n k le p.
        let both = each-true (nat_lt k m) (known k || nat_le ids k) p in
        both-true (nat_lt k n) (known k || nat_le ids k)
        (is-less k n (let lt = less-is k m both.0 in omega (arith, lt, le))) both.1;
    made = λ n k from lt.
        both-true (nat_lt k n) (known k || nat_le ids k) (is-less k n lt)
        (second-true (known k) (nat_le ids k) (is-from ids k from));
  }

  module _ (below : LieBelow known ids) where
    -- what is known may be named
    pub known-in : (m : ℕ) → known m ≡ true → may_name ids m ≡ true
    known-in m p =
        both-true (nat_lt m ids) (known m || nat_le ids m) (is-less m ids (below m p))
        (ap (λ b. b || nat_le ids m) p)

    -- the first node of a piece may name no more
    in-known : (m : ℕ) → may_name ids m ≡ true → known m ≡ true
    in-known m p =
        let both = each-true (nat_lt m ids) (known m || nat_le ids m) p in
        go (one-true (known m) (nat_le ids m) both.1) (less-is m ids both.0)
      where
        go : (known m ≡ true) ⊎ (nat_le ids m ≡ true) → m < ids → known m ≡ true
        go (inl q) lt = q
        go (inr q) lt = absurd (let le = from-is ids m q in omega (arith, le, lt))

    -- nodes that are named so are in order, and known behind them are those that may then be named
    ordered-from : (start next : ℕ) (ns : List Node) (now : Numbers) → ids ≤ start
        → AreNamed piece_naming start ns → start + length ns ≤ next
        → ((m : ℕ) → may_name start m ≡ true → now m ≡ true)
        → ((m : ℕ) → start ≤ m → now m ≡ false)
        → IsOrdered now next ns × AreFrom ids ns
        × ((m : ℕ) → may_name (start + length ns) m ≡ true → and_nodes now ns m ≡ true)
    ordered-from start next [] now le named few into fresh =
        let number : start + 0 ≡ start = omega arith in
        (tt, tt, λ m p. into m (subst (λ n. may_name n m ≡ true) number p))
    ordered-from start next (n ∷ ns) now le named few into fresh =
        let own : n.id ≡ start = named.0 in
        let number : start + suc (length ns) ≡ suc start + length ns = omega arith in
        let fewer : suc start + length ns ≤ next = omega (arith, few) in
        let higher : ids ≤ suc start = omega (arith, le) in
        let more =
        ordered-from (suc start) next ns (and_one now n.id) higher named.2 fewer
        (λ m p. next-into m p own)
        (λ m up. next-fresh m up own) in (
          (
            omega (arith, own, few),
            fresh n.id (omega (arith, own)),
            all-more (may_name start) now into (arguments n.work)
                (are_among piece_naming start (arguments n.work) named.1),
            more.0,
          ),
          (omega (arith, own, le), more.1),
          λ m p. more.2 m (subst (λ k. may_name k m ≡ true) number p),
        )
      where
        old : (m : ℕ) → may_name (suc start) m ≡ true → (m ≡ start → ⊥) → may_name start m ≡ true
        old m p apart =
            let both = each-true (nat_lt m (suc start)) (known m || nat_le ids m) p in
            both-true (nat_lt m start) (known m || nat_le ids m)
            (is-less m start (let lt = less-is m (suc start) both.0 in omega (arith, lt, apart))) both.1

        by : (m : ℕ) (t : Bool) → nat_eq m n.id ≡ t → n.id ≡ start → may_name (suc start) m ≡ true → (t || now m) ≡ true
        by m true e own p = refl
        by m false e own p =
            into m (old m p (λ q. absurd (cc (sym e ∙ equal-is m n.id (q ∙ sym own)))))

        next-into : (m : ℕ) → may_name (suc start) m ≡ true → n.id ≡ start → and_one now n.id m ≡ true
        next-into m p own = by m (nat_eq m n.id) refl own p

        next-fresh : (m : ℕ) → suc start ≤ m → n.id ≡ start → and_one now n.id m ≡ false
        next-fresh m up own =
            ap (λ b. b || now m) (other-is m n.id (omega (arith, up, own)))
            ∙ fresh m (omega (arith, up))

    -- what came of the piece names what is known behind it
    ports-known : (env : List Arg) (next : ℕ) (got : Option Done) (then : Numbers)
        → IfThere piece_naming (IsLowDone piece_naming) next got → AreAmong known env
        → ((m : ℕ) → may_name next m ≡ true → then m ≡ true) → ((m : ℕ) → known m ≡ true → then m ≡ true)
        → AreAmong then (images (done_or_stopped env got).env (done_or_stopped env got).value)
    ports-known env next (Some d) then low is into still =
        all-more (may_name next) then into (images d.env d.value)
        (among-append (may_name next) d.env (d.value ∷ []) (are_among piece_naming next d.env low.0)
        (in_among piece_naming next d.value low.1, tt))
    ports-known env next None then low is into still =
        among-append then env (Unbound ∷ []) (all-more known then still env is) (tt, tt)

    -- a piece that is named so is new
    pub new-piece : (env : List Arg) (p : making.Piece Done) → AreAmong known env
        → InOrder piece_naming (IsLowDone piece_naming) ids p → IsNew known ids (statements_piece env p)
    new-piece env p is order =
        let end = order.next in
        let few : ids + length p.nodes ≤ p.next = omega (arith, end) in
        let all =
        ordered-from ids p.next p.nodes known (omega arith) order.nodes few in-known
        (λ m le. unknown m le (known m) refl) in
        record {
          grown = omega (arith, end);
          numbers = all.1;
          nodes = all.0;
          ports =
              ports-known env p.next p.got (and_nodes known p.nodes) order.got is
              (λ m q. all.2 m (subst (λ n. may_name n m ≡ true) end q)) (still-known known p.nodes);
        }
      where
        unknown : (m : ℕ) → ids ≤ m → (b : Bool) → known m ≡ b → b ≡ false
        unknown m le true e = absurd (let lt = below m e in omega (arith, le, lt))
        unknown m le false e = refl
