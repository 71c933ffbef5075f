-- A new piece that does what a node does takes its place.
use Rattle.std.proofs.Common.{◌≡◌, ℕ, ◌+◌, ◌≤◌, ◌<◌, List, ◌∷◌, ◌++◌, map, refl, sym, ap, subst, ◌∙◌, arith, Option, Some, None, Result, Ok, Err, nat_eq, Bool, true, false, if◌then◌else◌}
use Rattle.std.specs.Prelude.{◌||◌}
use Rattle.pyd_value.specs.declared.value.Value.{Value}
use Rattle.pyd_value.specs.declared.fault.Fault.{Fault}
use Rattle.pyd_tree.specs.declared.file.File.{File}
use Rattle.pyd_meaning.specs.declared.limits.Limits.{Limits}
use Rattle.pyd_meaning.specs.Evaluation.{Evaluation, go_on, ◌>>=◌}
use Rattle.pyd_ir.specs.declared.arg.Arg.{Arg}
use Rattle.pyd_ir.specs.declared.arg.Ref.{Ref}
use Rattle.pyd_ir.specs.declared.arg.Arg.TheVariants.{Known, From, Slot, Unbound}
use Rattle.pyd_ir.specs.declared.node.Node.{Node}
use Rattle.pyd_ir.specs.Inputs.{Given, value_of}
use Rattle.pyd_ir.specs.Ports.{Ports}
use Rattle.pyd_translate.specs.declared.piece.Piece.{Piece}
use Rattle.pyd_translate.specs.Making as making
use Rattle.pyd_translate.specs.Statements.{Done}
use Rattle.pyd_translate.specs.Starts.{done_or_stopped, statements_piece}
use Rattle.pyd_translate.specs.Walk.{give, work_ports, walk}
use Rattle.pyd_translate.specs.Matching.{IsKept, AreAlike, IsReached}
use Rattle.pyd_translate.proofs.Sequencing.{walk-append}
use Rattle.pyd_refine.specs.Redirecting.{image, images, piece_images, redirect, redirect_node, replaced_by}
use Rattle.pyd_translate.specs.Naming.{Numbers, IsAmong, AreAmong}
use Rattle.pyd_refine.specs.Ordering.{and_one, and_nodes, IsOrdered, LieBelow}
use Rattle.pyd_refine.specs.Readiness.{Yields, ArePorts, TakesPlace, EndAlike, DoAlike}
use Rattle.pyd_refine.specs.Laws.{AreFrom, IsNew, SubstitutionLaw}
use Rattle.pyd_refine.proofs.Ordering.{is-itself, neither, still-known, still-unknown, nodes-below, ordered-left, ordered-right, ordered-append, ordered-higher}
use Rattle.pyd_refine.proofs.Redirecting.{redirected-ordered}
use Rattle.pyd_refine.proofs.Substituting.{StandsFor, later-same}

-- one evaluation prints and ends as another, and counts fewer steps
pub record GoFewer {A B : Type 0} (e : Evaluation A) (m : Evaluation B) : Type 0 where
  pub lines : e.lines ≡ m.lines
  pub ends : EndAlike e.result m.result
  pub steps : e.steps < m.steps

value-if : (t : Bool) (a b : Arg) (given : Given) (v : Option Value)
    → (t ≡ true → value_of given a ≡ v) → (t ≡ false → value_of given b ≡ v)
    → value_of given (if t then a else b) ≡ v
value-if true a b given v p q = p refl
value-if false a b given v p q = q refl

module _ (file : File) (limits : Limits) (known : Numbers) (ids : ℕ) (below : LieBelow known ids)
    (node : Node) (after : List Node) (order : IsOrdered known ids (node ∷ after)) (given : Given)
    (env : List Arg) where
  -- behind the piece, what stands in the place of the ports has their values
  pub piece-stands : (reached : Given) (d : Done) (ports : Ports)
      → IsKept ids given reached → ((port : ℕ) → value_of reached (image (images d.env d.value) port) ≡ ports port)
      → StandsFor node.id (images d.env d.value) (and_one known node.id) (give node.id ports given) reached
  piece-stands reached d ports kept are a p = go a p
    where
      named : (r : Ref) (c : Arg) → value_of reached c ≡ reached r.node r.port
          → (nat_eq r.node node.id || known r.node) ≡ true
          → value_of reached (if nat_eq r.node node.id then image (images d.env d.value) r.port else c)
          ≡ give node.id ports given r.node r.port
      named r c v p =
          value-if (nat_eq r.node node.id) (image (images d.env d.value) r.port) c reached (give node.id ports given r.node r.port)
          (λ e. are r.port ∙ ap (λ t. (if t then ports else given r.node) r.port) (sym e))
          (λ e. v ∙ kept r.node r.port (below r.node (sym (ap (λ t. t || known r.node) e) ∙ p))
          ∙ ap (λ t. (if t then ports else given r.node) r.port) (sym e))

      go : (a : Arg) → IsAmong (and_one known node.id) a
          → value_of reached (redirect node.id (images d.env d.value) a) ≡ value_of (give node.id ports given) a
      go (Known v) p = refl
      go (From r) p = named r (From r) refl p
      go (Slot r) p = named r (Slot r) refl p
      go Unbound p = refl

  -- numbers of the piece are new
  pub into : (ns : List Node) (m : ℕ)
      → and_one known node.id m ≡ true → nat_eq m node.id ≡ false → and_nodes known ns m ≡ true
  into ns m p apart = still-known known ns m (sym (ap (λ t. t || known m) apart) ∙ p)

  pub back : (ns : List Node) → AreFrom ids ns → (m : ℕ) → m < ids
      → and_one known node.id m ≡ false → and_nodes known ns m ≡ false
  back ns from m lt p = still-unknown known ids ns m from lt (neither (nat_eq m node.id) (known m) p).1

  -- the list behind the place is in order
  pub place-ordered : (p : Piece) → IsNew known ids p → IsOrdered known p.next (replaced_by node.id p after)
  place-ordered p new =
      ordered-append known p.next p.nodes (map (redirect_node node.id (piece_images p)) after) new.nodes
      (redirected-ordered node.id (piece_images p) (and_one known node.id) (and_nodes known p.nodes) ids p.next after
      new.grown (into p.nodes) (back p.nodes new.numbers) new.ports order.3)

  module _ (p : making.Piece Done) (new : IsNew known ids (statements_piece env p)) where
    -- the piece and the later nodes, by the walk of the piece
    place-go : (nodes : List Node) (got : Option Done) (next : ℕ)
        → AreFrom ids nodes → AreAmong (and_nodes known nodes) (images (done_or_stopped env got).env (done_or_stopped env got).value)
        → (wl : List (List ℕ)) (wr : Result Given Fault) (ws : ℕ) (ml : List (List ℕ)) (mr : Result Ports Fault) (ms : ℕ)
        → walk file limits nodes given ≡ record { lines = wl; result = wr; steps = ws }
        → wl ≡ ml → AreAlike wr got mr (IsReached ids given next ArePorts) → ws < ms
        → GoFewer (walk file limits (nodes ++ map (redirect_node node.id (images (done_or_stopped env got).env (done_or_stopped env got).value)) after) given)
        (go_on ml ms mr (λ ports. walk file limits after (give node.id ports given)))
    unfolding ◌>>=◌
    place-go nodes (Some d) next from ports wl (Ok reached) ws ml (Ok out) ms walked lines ends fewer =
        let later = map (redirect_node node.id (images d.env d.value)) after in
        let whole = walk-append file limits nodes later given ∙ ap (λ e. e >>= walk file limits later) walked in
        let same =
        later-same node.id (images d.env d.value) file limits (and_one known node.id) (and_nodes known nodes) ids after
        (give node.id out given) reached (ap (λ t. t || known node.id) (is-itself node.id))
        (back nodes from) ports order.3 (piece-stands reached d out ends.kept ends.related) in
        record {
          lines =
              ap (λ e. e.lines) whole ∙ ap (λ l. l ++ (walk file limits later reached).lines) lines
              ∙ ap (λ l. ml ++ l) same.lines;
          ends = subst (λ e. EndAlike e.result (walk file limits after (give node.id out given)).result) (sym whole) same.ends;
          steps =
              subst (λ e. e.steps < ms + (walk file limits after (give node.id out given)).steps) (sym whole)
              (let q = same.steps in omega arith);
        }
    place-go nodes None next from ports wl (Ok reached) ws ml (Ok out) ms walked lines ends fewer = absurd ends
    place-go nodes got next from ports wl (Ok reached) ws ml (Err e) ms walked lines ends fewer = absurd ends
    place-go nodes got next from ports wl (Err d) ws ml (Ok out) ms walked lines ends fewer = absurd ends
    place-go nodes got next from ports wl (Err d) ws ml (Err e) ms walked lines ends fewer =
        let later = map (redirect_node node.id (images (done_or_stopped env got).env (done_or_stopped env got).value)) after in
        let whole = walk-append file limits nodes later given ∙ ap (λ e. e >>= walk file limits later) walked in
        record {
          lines = ap (λ e. e.lines) whole ∙ lines;
          ends = subst (λ w. EndAlike {B = Given} w.result (Err e)) (sym whole) (faults d e got next ends);
          steps = subst (λ w. w.steps < ms) (sym whole) fewer;
        }
      where
        faults : (d e : Fault) (got : Option Done) (next : ℕ)
            → AreAlike {B = Ports} (Err d) got (Err e) (IsReached ids given next ArePorts) → d ≡ e
        faults d e (Some x) next alike = alike
        faults d e None next alike = alike

    -- the piece in the place of the node
    pub place-same : TakesPlace file limits ids given p (work_ports file limits node.work node given)
        → GoFewer (walk file limits (replaced_by node.id (statements_piece env p) after) given)
        (walk file limits (node ∷ after) given)
    unfolding walk ◌>>=◌
    place-same takes =
        let m = work_ports file limits node.work node given in
        place-go p.nodes p.got p.next new.numbers new.ports
        (walk file limits p.nodes given).lines (walk file limits p.nodes given).result (walk file limits p.nodes given).steps
        m.lines m.result m.steps refl takes.lines takes.ends takes.fewer

-- what stands before both, by what it gave
pub record IsBehind {A : Type 0} (r : Result A Fault) (new old : Evaluation Given) : Type 0 where
  pub same : DoAlike new old
  pub no_more : new.steps ≤ old.steps
  pub fewer : (x : A) → r ≡ Ok x → new.steps < old.steps

behind-go : (lines : List (List ℕ)) (steps : ℕ) (r : Result Given Fault) (f g : Given → Evaluation Given)
    → ((x : Given) → r ≡ Ok x → GoFewer (f x) (g x))
    → IsBehind r (go_on lines steps r f) (go_on lines steps r g)
behind-go lines steps (Ok x) f g on =
    let go = on x refl in record {
      same = record { lines = ap (λ l. lines ++ l) go.lines; ends = go.ends };
      no_more = let q = go.steps in omega arith;
      fewer = λ y e. let q = go.steps in omega arith;
    }
behind-go lines steps (Err e) f g on = record {
  same = record { lines = refl; ends = refl };
  no_more = omega arith;
  fewer = λ y e. absurd (cc e);
}

module _ (file : File) (limits : Limits) (before new old : List Node) (given : Given) where
  -- two lists behind the same nodes
  pub both-behind : Yields (walk file limits before given) (λ reached. GoFewer (walk file limits new reached) (walk file limits old reached))
      → IsBehind (walk file limits before given).result (walk file limits (before ++ new) given) (walk file limits (before ++ old) given)
  unfolding ◌>>=◌
  both-behind on =
      subst (λ e. IsBehind (walk file limits before given).result e (walk file limits (before ++ old) given))
      (sym (walk-append file limits before new given))
      (subst (λ e. IsBehind (walk file limits before given).result (walk file limits before given >>= walk file limits new) e)
      (sym (walk-append file limits before old given))
      (behind-go (walk file limits before given).lines (walk file limits before given).steps (walk file limits before given).result
      (walk file limits new) (walk file limits old) on))

-- in a list in order, a new piece that does what a node does takes its place
pub substitution : SubstitutionLaw
substitution file limits known ids given before node after env p below order new takes =
    let here = and_nodes known before in
    let left = ordered-left known ids before (node ∷ after) order in
    let right = ordered-right known ids before (node ∷ after) order in
    let low = nodes-below known ids before left below in
    let place = statements_piece env p in
    let behind =
    both-behind file limits before (replaced_by node.id place after) (node ∷ after) given
    (λ reached e. place-same file limits here ids low node after right reached env p new (takes reached e)) in
    record {
      same = behind.same;
      order =
          ordered-append known place.next before (replaced_by node.id place after)
          (ordered-higher known ids place.next before new.grown left)
          (place-ordered file limits here ids low node after right given env place new);
      no_more = behind.no_more;
      fewer = behind.fewer;
    }
