-- What redirecting does to the arguments of nodes, and that a redirected list is in order.
use Rattle.std.proofs.Common.{◌≡◌, ℕ, zero, suc, ◌≤◌, ◌<◌, List, [], ◌∷◌, ◌++◌, map, refl, sym, ap, subst, ◌∙◌, arith, inl, inr, ◌⊎◌, nat_eq, Bool, true, false, if◌then◌else◌}
use Rattle.std.specs.Prelude.{◌||◌}
use Rattle.std.proofs.lemmas.List.{map-append}
use Rattle.pyd_ir.specs.declared.arg.Arg.{Arg}
use Rattle.pyd_ir.specs.declared.arg.Arg.TheVariants.{Known, From, Slot, Unbound}
use Rattle.pyd_ir.specs.declared.node.Node.{Node}
use Rattle.pyd_ir.specs.declared.work.Frame.{Frame}
use Rattle.pyd_ir.specs.declared.work.Frame.TheVariants.{After, Again}
use Rattle.pyd_ir.specs.declared.work.Side.{Side}
use Rattle.pyd_ir.specs.declared.work.Side.TheVariants as side
use Rattle.pyd_ir.specs.declared.work.Work.{Work}
use Rattle.pyd_ir.specs.declared.work.Work.TheVariants.{Op, Read, Call, Stop, Print, Run, Cond, While, For, Pick, Enter}
use Rattle.pyd_ir.specs.Arguments.{arguments, rest_arguments, side_arguments}
use Rattle.pyd_refine.specs.Redirecting.{image, redirect, redirect_all, redirect_rest, redirect_side, redirect_work, redirect_node, replaced_by, replaced}
use Rattle.pyd_translate.specs.Naming.{Numbers, IsAmong, AreAmong}
use Rattle.pyd_refine.specs.Ordering.{and_one, IsOrdered}
use Rattle.pyd_refine.specs.Laws.{FoundLaw}
use Rattle.pyd_refine.proofs.Ordering.{neither, second-true, one-true, is-itself, all-more, later-apart}

-- what names some numbers, in the place of a port
pub image-among : (known : Numbers) (ports : List Arg) (port : ℕ) → AreAmong known ports → IsAmong known (image ports port)
image-among known [] port p = tt
image-among known (a ∷ args) zero p = p.0
image-among known (a ∷ args) (suc port) p = image-among known args port p.1

module _ (id : ℕ) (ports : List Arg) where
  -- the iterables of redirected frames
  pub rest-redirects : (rest : List Frame)
      → rest_arguments (redirect_rest id ports rest) ≡ redirect_all id ports (rest_arguments rest)
  rest-redirects [] = refl
  rest-redirects (After k ∷ rest) = rest-redirects rest
  rest-redirects (Again k turns over ∷ rest) = ap (λ args. redirect id ports over ∷ args) (rest-redirects rest)

  -- those of frames, and slots
  rest-and-slots : (rest : List Frame) (env : List Arg)
      → rest_arguments (redirect_rest id ports rest) ++ redirect_all id ports env
      ≡ redirect_all id ports (rest_arguments rest ++ env)
  rest-and-slots rest env =
      ap (λ args. args ++ redirect_all id ports env) (rest-redirects rest)
      ∙ sym (map-append (redirect id ports) (rest_arguments rest) env)

  -- the argument of a redirected side
  pub side-redirects : (s : Side)
      → side_arguments (redirect_side id ports s) ≡ redirect_all id ports (side_arguments s)
  side-redirects (side.Arg a) = refl
  side-redirects (side.Expr k) = refl
  side-redirects (side.Tail k member left) = refl

  -- those of both sides, and slots
  sides-and-slots : (first second : Side) (env : List Arg)
      → side_arguments (redirect_side id ports first)
      ++ (side_arguments (redirect_side id ports second) ++ redirect_all id ports env)
      ≡ redirect_all id ports (side_arguments first ++ (side_arguments second ++ env))
  sides-and-slots first second env =
      (λ i. side-redirects first i ++ (side-redirects second i ++ redirect_all id ports env))
      ∙ ap (λ args. redirect_all id ports (side_arguments first) ++ args)
      (sym (map-append (redirect id ports) (side_arguments second) env))
      ∙ sym (map-append (redirect id ports) (side_arguments first) (side_arguments second ++ env))

  -- the arguments of a redirected work are the redirected ones
  pub work-redirects : (w : Work)
      → arguments (redirect_work id ports w) ≡ redirect_all id ports (arguments w)
  work-redirects (Op op args) = refl
  work-redirects (Read arg kind) = refl
  work-redirects (Call func args) = refl
  work-redirects (Stop fault) = refl
  work-redirects (Print args) = refl
  work-redirects (Run func args) = refl
  work-redirects (Cond test k arm rest env) = ap (λ args. redirect id ports test ∷ args) (rest-and-slots rest env)
  work-redirects (While test k turns rest env) = ap (λ args. redirect id ports test ∷ args) (rest-and-slots rest env)
  work-redirects (For over k turns rest env) = ap (λ args. redirect id ports over ∷ args) (rest-and-slots rest env)
  work-redirects (Pick test first second env) = ap (λ args. redirect id ports test ∷ args) (sides-and-slots first second env)
  work-redirects (Enter func args) = refl

  module _ (known more : Numbers) (into : (m : ℕ) → known m ≡ true → nat_eq m id ≡ false → more m ≡ true)
      (images : AreAmong more ports) where
    -- what named node id names what stands in the place of its ports
    among-if : (a : Arg) (m port : ℕ) (t : Bool) → nat_eq m id ≡ t
        → known m ≡ true → ((more m ≡ true) → IsAmong more a)
        → IsAmong more (if t then image ports port else a)
    among-if a m port true e p f = image-among more ports port images
    among-if a m port false e p f = f (into m p e)

    -- a redirected argument names what is known and no longer node id
    pub redirect-among : (a : Arg) → IsAmong known a → IsAmong more (redirect id ports a)
    redirect-among (Known v) p = tt
    redirect-among (From r) p = among-if (From r) r.node r.port (nat_eq r.node id) refl p (λ q. q)
    redirect-among (Slot r) p = among-if (Slot r) r.node r.port (nat_eq r.node id) refl p (λ q. q)
    redirect-among Unbound p = tt

    -- all of a list do
    pub redirect-all-among : (args : List Arg) → AreAmong known args → AreAmong more (redirect_all id ports args)
    redirect-all-among [] p = tt
    redirect-all-among (a ∷ args) p = (redirect-among a p.0, redirect-all-among args p.1)

  -- one more is known on both sides
  pub one-more-into : (known more : Numbers) (n : ℕ) → ((m : ℕ) → known m ≡ true → nat_eq m id ≡ false → more m ≡ true)
      → (m : ℕ) → and_one known n m ≡ true → nat_eq m id ≡ false → and_one more n m ≡ true
  one-more-into known more n into m p apart = go (nat_eq m n) refl (one-true (nat_eq m n) (known m) p)
    where
      go : (t : Bool) → nat_eq m n ≡ t → (nat_eq m n ≡ true) ⊎ (known m ≡ true) → and_one more n m ≡ true
      go t e (inl q) = ap (λ b. b || more m) q
      go t e (inr q) = second-true (nat_eq m n) (more m) (into m q apart)

  -- and unknown numbers below stay unknown
  pub one-more-back : (known more : Numbers) (low n : ℕ) → ((m : ℕ) → m < low → known m ≡ false → more m ≡ false)
      → (m : ℕ) → m < low → and_one known n m ≡ false → and_one more n m ≡ false
  one-more-back known more low n back m lt p =
      let q = neither (nat_eq m n) (known m) p in
      ap (λ b. b || more m) q.0 ∙ back m lt q.1

  -- later nodes are in order with what stands in the place of node id
  pub redirected-ordered : (known more : Numbers) (low next : ℕ) (ns : List Node) → low ≤ next
      → ((m : ℕ) → known m ≡ true → nat_eq m id ≡ false → more m ≡ true)
      → ((m : ℕ) → m < low → known m ≡ false → more m ≡ false)
      → AreAmong more ports → IsOrdered known low ns
      → IsOrdered more next (map (redirect_node id ports) ns)
  redirected-ordered known more low next [] le into back images o = tt
  redirected-ordered known more low next (n ∷ ns) le into back images o =
      let lt = o.0 in (
        omega arith,
        back n.id o.0 o.1,
        subst (AreAmong more) (sym (work-redirects n.work))
            (redirect-all-among known more into images (arguments n.work) o.2),
        redirected-ordered (and_one known n.id) (and_one more n.id) low next ns le
            (one-more-into known more n.id into) (one-more-back known more low n.id back)
            (all-more more (and_one more n.id) (λ m p. second-true (nat_eq m n.id) (more m) p) ports images) o.3,
      )

-- the node of a number is found where it stands
pub found : FoundLaw
found known next [] node after p o =
    ap (λ t. if t then replaced_by node.id p after else node ∷ replaced node.id p after) (is-itself node.id)
found known next (x ∷ xs) node after p o =
    ap (λ t. if t then replaced_by node.id p (xs ++ node ∷ after) else x ∷ replaced node.id p (xs ++ node ∷ after))
    (later-apart known next x xs node after o)
    ∙ ap (λ ns. x ∷ ns) (found (and_one known x.id) next xs node after p o.3)
