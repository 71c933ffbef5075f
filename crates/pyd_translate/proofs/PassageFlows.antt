-- What a block and what goes on behind it make, by what their parts made.
use Rattle.std.proofs.Common.{◌≡◌, ℕ, ◌<◌, ◌⊎◌, inl, inr, List, [], ◌∷◌, length, refl, sym, ap, subst, ◌∙◌, arith, Some, None, Ok, Err}
use Rattle.std.specs.Prelude.{Bool, Result, IfOk, slice_get}
use Rattle.pyd_value.specs.declared.memory.NoMemory.{NoMemory}
use Rattle.pyd_tree.specs.declared.statement.What.{What, out-What}
use Rattle.pyd_tree.specs.declared.statement.What.TheOpen.{What-F}
use Rattle.pyd_tree.specs.declared.statement.Arm.{Arm}
use Rattle.pyd_tree.specs.declared.statement.Block.{Block}
use Rattle.pyd_tree.specs.declared.statement.Stmt.{Stmt}
use Rattle.pyd_tree.specs.declared.file.File.{File}
use Rattle.pyd_scope.specs.Numbering.{Entry, contents, table, expression_table}
use Rattle.pyd_scope.specs.Numbering as numbering
use Rattle.pyd_scope.specs.Passages.{Passage, entry_passage, passage_at}
use Rattle.pyd_ir.specs.declared.node.Node.{Node}
use Rattle.pyd_value.specs.declared.value.Value.TheVariants as value
use Rattle.pyd_ir.specs.declared.arg.Arg.{Arg}
use Rattle.pyd_ir.specs.declared.arg.Arg.TheVariants.{Known}
use Rattle.pyd_ir.specs.declared.work.Frame.{Frame}
use Rattle.pyd_ir.specs.declared.work.Frame.TheVariants.{After, Again}
use Rattle.pyd_translate.specs.declared.flow.Flow.{Flow}
use Rattle.pyd_translate.specs.declared.flow.Flow.TheVariants.{Left, Ended}
use Rattle.pyd_translate.specs.declared.flow.Exit.{Exit as CodeExit}
use Rattle.pyd_translate.specs.declared.flow.Exit.TheVariants as exit
use Rattle.pyd_translate.specs.Making.{Making}
use Rattle.pyd_translate.specs.Compounds.{compound_of, passage_behind}
use Rattle.pyd_translate.specs.Statements.{Done, Exit, Normal, Break, Continue, Onward, done, context, may_leave, what_unfolds, stmts_unfold}
use Rattle.pyd_translate.specs.Rests.{passage_unfolds, again, again_first, rest_unfolds, block_unfolds}
use Rattle.pyd_translate.specs.Drafts.{onto}
use Rattle.pyd_translate.specs.Flows.{exit_of, leaving, onward, sequel_of}
use Rattle.pyd_translate.specs.Laws.{Stands}
use Rattle.pyd_translate.proofs.Onto.{onto_pure}
use Rattle.pyd_translate.proofs.Standing.{stands_at}
use Rattle.pyd_translate.proofs.Lookup.{number_placed, behind_placed}
use Rattle.pyd_translate.proofs.Placing.{StandsAt, behind_at}

-- no first item is none
pub no_first : {A : Type 0} (xs : List A) → None ≡ slice_get xs 0 → xs ≡ []
no_first [] e = refl
no_first (x ∷ xs) e = absurd (cc e)

-- a first item comes before the others
pub first_is : {A : Type 0} (xs : List A) (x : A) → Some x ≡ slice_get xs 0 → (ys : List A) × (xs ≡ x ∷ ys)
first_is [] x e = absurd (cc e)
first_is (y ∷ xs) x e = let same : y ≡ x = cc e in (xs, ap (λ z. z ∷ xs) same)

-- how a rest goes on is how its sequel does
leaving_at : (rest : List Frame) (leave : Exit → Onward) (e : Exit)
    → leaving (sequel_of rest leave (leave Normal)) e ≡ leave e
leaving_at rest leave Normal = refl
leaving_at rest leave Break = refl
leaving_at rest leave Continue = refl

pub leaving_same : (rest : List Frame) (leave : Exit → Onward)
    → leaving (sequel_of rest leave (leave Normal)) ≡ leave
leaving_same rest leave = λ i e. leaving_at rest leave e i

module _ (file : File) (routine : ℕ) where
  -- statements that stand in their routine are those of their number
  statements_found : (ss : List Stmt) (p : numbering.Point) (s : Stmt) → Some s ≡ slice_get ss 0
      → Stands (table file routine) p.statement ((contents ss).table p.expression)
      → passage_at file routine p.statement ≡ record { stmts = ss; point = p }
  statements_found [] p s first st = absurd (cc first)
  statements_found (x ∷ ss) p s first st =
      ap (λ o. entry_passage o p.statement)
      (stands_at (table file routine) p.statement (record { stmts = x ∷ ss; expression = p.expression }) _ st)

  pub passage_found : (here : Passage) (s : Stmt)
      → Some s ≡ slice_get here.stmts 0
      → StandsAt (table file routine) (expression_table file routine) (contents here.stmts) here.point
      → passage_at file routine here.point.statement ≡ here
  passage_found here s first st = statements_found here.stmts here.point s first st.0

  -- what follows the first of them stands behind it
  pub behind_stands : (here behind : Passage) (s : Stmt)
      → Some s ≡ slice_get here.stmts 0
      → StandsAt (table file routine) (expression_table file routine) (contents here.stmts) here.point
      → behind ≡ passage_behind (passage_at file routine here.point.statement)
      → (behind ≡ passage_behind here)
      × StandsAt (table file routine) (expression_table file routine) (contents behind.stmts) behind.point
  behind_stands here behind s first st is =
      let same : behind ≡ passage_behind here = is ∙ ap passage_behind (passage_found here s first st) in (
        same,
        subst (λ b. StandsAt (table file routine) (expression_table file routine) (contents b.stmts) b.point)
            (sym same) (behind_at (table file routine) (expression_table file routine) here.stmts here.point st),
      )

  -- what follows a statement stands in the routine
  pub number_behind : (k : ℕ) (behind : Passage) → behind ≡ passage_behind (passage_at file routine k)
      → StandsAt (table file routine) (expression_table file routine) (contents behind.stmts) behind.point
  number_behind k behind is =
      subst (λ b. StandsAt (table file routine) (expression_table file routine) (contents b.stmts) b.point) (sym is)
      (let placed = behind_placed file routine (passage_at file routine k) (number_placed file routine k) in
      (placed.statements, placed.expressions))

-- fewer statements follow the first than there were
fewer : (ss : List Stmt) (p : numbering.Point) (s : Stmt) → Some s ≡ slice_get ss 0
    → length (passage_behind (record { stmts = ss; point = p })).stmts < length ss
fewer [] p s first = absurd (cc first)
fewer (x ∷ ss) p s first = omega arith

pub fewer_behind : (here : Passage) (s : Stmt) → Some s ≡ slice_get here.stmts 0
    → length (passage_behind here).stmts < length here.stmts
fewer_behind here s first = fewer here.stmts here.point s first

module _ (file : File) (routine depth : ℕ) (rest : List Frame) where
  -- statements are the first, and then those behind it
  one_statement : (ss : List Stmt) (p : numbering.Point) (s : Stmt) (leave : Exit → Onward) (env : List Arg)
      → Some s ≡ slice_get ss 0
      → stmts_unfold file routine depth ss p rest leave env
      ≡ what_unfolds file (out-What s.what) (may_leave s) p (context routine depth s.line env)
      (sequel_of rest leave
      (passage_unfolds file routine depth (passage_behind (record { stmts = ss; point = p })) rest leave))
  unfolding stmts_unfold
  one_statement [] p s leave env first = absurd (cc first)
  one_statement (x ∷ ss) p s leave env first =
      let same : x ≡ s = cc first in
      λ i. what_unfolds file (out-What (same i).what) (may_leave (same i)) p
      (context routine depth (same i).line env)
      (sequel_of rest leave
      (passage_unfolds file routine depth (passage_behind (record { stmts = x ∷ ss; point = p })) rest leave))

  -- no statement is left at its end
  pub none_left : (here : Passage) (leave : Exit → Onward) (env : List Arg) → None ≡ slice_get here.stmts 0
      → passage_unfolds file routine depth here rest leave env ≡ leave Normal env
  unfolding stmts_unfold
  none_left here leave env first =
      ap (λ (ss : List Stmt). stmts_unfold file routine depth ss here.point rest leave env) (no_first here.stmts first)

  module _ (before nodes : List Node) (ids next : ℕ) (env new : List Arg) where
    -- the first statement was made
    pub passage_flows : (here : Passage) (s : Stmt) (early : Bool) (flow : Flow)
        → Some s ≡ slice_get here.stmts 0 → early ≡ may_leave s
        → ((leave : Exit → Onward) (onto_next : Onward)
        → onto before (what_unfolds file (out-What s.what) early here.point (context routine depth s.line env)
        (sequel_of rest leave onto_next) ids)
        ≡ onto nodes (onward (leaving (sequel_of rest leave onto_next)) flow new next))
        → (leave : Exit → Onward)
        → onto before (passage_unfolds file routine depth here rest leave env ids)
        ≡ onto nodes (onward (leaving (sequel_of rest leave
        (passage_unfolds file routine depth (passage_behind here) rest leave))) flow new next)
    passage_flows here s early flow first leaves made leave =
        ap (λ (w : Making Done). onto before (w ids)) (one_statement here.stmts here.point s leave env first)
        ∙ ap (λ b. onto before (what_unfolds file (out-What s.what) b here.point (context routine depth s.line env)
        (sequel_of rest leave (passage_unfolds file routine depth (passage_behind here) rest leave)) ids)) (sym leaves)
        ∙ made leave (passage_unfolds file routine depth (passage_behind here) rest leave)

    -- the same by what came of it
    pub passage_exit : (here : Passage) (s : Stmt) (early : Bool) (flow : Flow)
        → Some s ≡ slice_get here.stmts 0 → early ≡ may_leave s
        → ((leave : Exit → Onward) (onto_next : Onward)
        → onto before (what_unfolds file (out-What s.what) early here.point (context routine depth s.line env)
        (sequel_of rest leave onto_next) ids)
        ≡ onto nodes (onward (leaving (sequel_of rest leave onto_next)) flow new next))
        → (f : Flow) → flow ≡ f → (leave : Exit → Onward)
        → onto before (passage_unfolds file routine depth here rest leave env ids)
        ≡ onto nodes (onward (leaving (sequel_of rest leave
        (passage_unfolds file routine depth (passage_behind here) rest leave))) f new next)
    passage_exit here s early flow first leaves made f is leave =
        passage_flows here s early flow first leaves made leave
        ∙ ap (λ x. onto nodes (onward (leaving (sequel_of rest leave
        (passage_unfolds file routine depth (passage_behind here) rest leave))) x new next)) is

    -- a block that was left in some way
    pub block_left : (r : Result Arg NoMemory) (here : Passage) (flow : Flow) (e : CodeExit)
        (all : List Node) (last : ℕ) (end : List Arg)
        → ((leave : Exit → Onward) (onto_next : Onward)
        → onto before (passage_unfolds file routine depth here rest (leaving (sequel_of rest leave onto_next)) env ids)
        ≡ onto nodes (onward (leaving (sequel_of rest leave onto_next)) flow new next))
        → flow ≡ Left e
        → IfOk r (λ v. onto nodes (rest_unfolds file routine depth rest (exit_of e) new next) ≡ (all, Some (done end v), last))
        → IfOk r (λ v. onto before (block_unfolds file routine depth here rest env ids) ≡ (all, Some (done end v), last))
    block_left (Ok v) here flow e all last end made is h =
        let leave = rest_unfolds file routine depth rest in
        (λ i. onto before (passage_unfolds file routine depth here rest (sym (leaving_same rest leave) i) env ids))
        ∙ made leave (leave Normal)
        ∙ (λ i. onto nodes (onward (leaving_same rest leave i) (is i) new next))
        ∙ h
    block_left (Err x) here flow e all last end made is h = tt

    -- one that ended
    pub block_ended : (here : Passage) (flow : Flow) (v : Arg)
        → ((leave : Exit → Onward) (onto_next : Onward)
        → onto before (passage_unfolds file routine depth here rest (leaving (sequel_of rest leave onto_next)) env ids)
        ≡ onto nodes (onward (leaving (sequel_of rest leave onto_next)) flow new next))
        → flow ≡ Ended v
        → onto before (block_unfolds file routine depth here rest env ids) ≡ (nodes, Some (done new v), next)
    block_ended here flow v made is =
        let leave = rest_unfolds file routine depth rest in
        (λ i. onto before (passage_unfolds file routine depth here rest (sym (leaving_same rest leave) i) env ids))
        ∙ made leave (leave Normal)
        ∙ (λ i. onto nodes (onward (leaving_same rest leave i) (is i) new next))
        ∙ onto_pure nodes (done new v) next

module _ (file : File) (routine depth : ℕ) (others : List Frame) where
  -- a frame by its kind and the way in which the block before it was left
  pub frame_so : (f g : Frame) (e d : CodeExit) (env : List Arg) (before : List Node) (ids : ℕ)
      → f ≡ g → e ≡ d
      → onto before (rest_unfolds file routine depth (f ∷ others) (exit_of e) env ids)
      ≡ onto before (rest_unfolds file routine depth (g ∷ others) (exit_of d) env ids)
  frame_so f g e d env before ids p q =
      λ i. onto before (rest_unfolds file routine depth (p i ∷ others) (exit_of (q i)) env ids)

  -- what follows a statement goes on
  after_so : (f : Frame) (e : CodeExit) (k : ℕ) (behind : Passage) (env : List Arg) (before : List Node) (ids : ℕ)
      → f ≡ After k → e ≡ exit.Normal → behind ≡ passage_behind (passage_at file routine k)
      → onto before (rest_unfolds file routine depth (f ∷ others) (exit_of e) env ids)
      ≡ onto before (passage_unfolds file routine depth behind others
      (leaving (sequel_of others (rest_unfolds file routine depth others) (rest_unfolds file routine depth others Normal))) env ids)
  unfolding rest_unfolds
  after_so f e k behind env before ids is left found =
      frame_so f (After k) e exit.Normal env before ids is left
      ∙ (λ i. onto before (passage_unfolds file routine depth (sym found i) others
      (sym (leaving_same others (rest_unfolds file routine depth others)) i) env ids))

  -- a loop goes on at its end and behind `continue`
  again_at : (k turns : ℕ) (over : Arg) (d : CodeExit) (env : List Arg) → (d ≡ exit.Normal) ⊎ (d ≡ exit.Continue)
      → rest_unfolds file routine depth (Again k turns over ∷ others) (exit_of d) env
      ≡ again_first file routine depth (passage_at file routine k) turns over others
      (rest_unfolds file routine depth others Normal) env
  unfolding rest_unfolds
  again_at k turns over d env (inl is) =
      ap (λ x. rest_unfolds file routine depth (Again k turns over ∷ others) (exit_of x) env) is
  again_at k turns over d env (inr is) =
      ap (λ x. rest_unfolds file routine depth (Again k turns over ∷ others) (exit_of x) env) is

  -- what follows a statement was made
  pub after_made : (r : Result Flow NoMemory) (before nodes : List Node) (ids last : ℕ) (env new : List Arg)
      (f : Frame) (e : CodeExit) (k : ℕ) (behind : Passage)
      → f ≡ After k → e ≡ exit.Normal → behind ≡ passage_behind (passage_at file routine k)
      → IfOk r (λ flow. (leave : Exit → Onward) (onto_next : Onward)
      → onto before (passage_unfolds file routine depth behind others (leaving (sequel_of others leave onto_next)) env ids)
      ≡ onto nodes (onward (leaving (sequel_of others leave onto_next)) flow new last))
      → IfOk r (λ flow. onto before (rest_unfolds file routine depth (f ∷ others) (exit_of e) env ids)
      ≡ onto nodes (onward (rest_unfolds file routine depth others) flow new last))
  after_made (Ok flow) before nodes ids last env new f e k behind is left found made =
      after_so f e k behind env before ids is left found
      ∙ made (rest_unfolds file routine depth others) (rest_unfolds file routine depth others Normal)
      ∙ (λ i. onto nodes (onward (leaving_same others (rest_unfolds file routine depth others) i) flow new last))
  after_made (Err x) before nodes ids last env new f e k behind is left found made = tt

  -- a loop was made
  pub again_made : (r : Result Flow NoMemory) (before nodes : List Node) (ids last : ℕ) (env new : List Arg)
      (f : Frame) (e : CodeExit) (k turns : ℕ) (over : Arg)
      → f ≡ Again k turns over → (e ≡ exit.Normal) ⊎ (e ≡ exit.Continue)
      → IfOk r (λ flow. (leave : Exit → Onward) (onto_next : Onward)
      → onto before (again_first file routine depth (passage_at file routine k) turns over others onto_next env ids)
      ≡ onto nodes (onward (leaving (sequel_of others leave onto_next)) flow new last))
      → IfOk r (λ flow. onto before (rest_unfolds file routine depth (f ∷ others) (exit_of e) env ids)
      ≡ onto nodes (onward (rest_unfolds file routine depth others) flow new last))
  again_made (Ok flow) before nodes ids last env new f e k turns over is left made =
      frame_so f (Again k turns over) e e env before ids is refl
      ∙ ap (λ (w : Making Done). onto before (w ids)) (again_at k turns over e env left)
      ∙ made (rest_unfolds file routine depth others) (rest_unfolds file routine depth others Normal)
      ∙ (λ i. onto nodes (onward (leaving_same others (rest_unfolds file routine depth others) i) flow new last))
  again_made (Err x) before nodes ids last env new f e k turns over is left made = tt

  -- a frame that is dropped
  pub after_dropped : (f : Frame) (e d : CodeExit) (k : ℕ) (env : List Arg) (before : List Node) (ids : ℕ)
      → f ≡ After k → e ≡ d → (d ≡ exit.Break) ⊎ (d ≡ exit.Continue)
      → onto before (rest_unfolds file routine depth (f ∷ others) (exit_of e) env ids)
      ≡ onto before (rest_unfolds file routine depth others (exit_of d) env ids)
  unfolding rest_unfolds
  after_dropped f e d k env before ids is left (inl q) =
      frame_so f (After k) e exit.Break env before ids is (left ∙ q)
      ∙ ap (λ x. onto before (rest_unfolds file routine depth others (exit_of x) env ids)) (sym q)
  after_dropped f e d k env before ids is left (inr q) =
      frame_so f (After k) e exit.Continue env before ids is (left ∙ q)
      ∙ ap (λ x. onto before (rest_unfolds file routine depth others (exit_of x) env ids)) (sym q)

  -- a loop that is left
  pub again_dropped : (f : Frame) (e : CodeExit) (k turns : ℕ) (over : Arg) (env : List Arg) (before : List Node) (ids : ℕ)
      → f ≡ Again k turns over → e ≡ exit.Break
      → onto before (rest_unfolds file routine depth (f ∷ others) (exit_of e) env ids)
      ≡ onto before (rest_unfolds file routine depth others Normal env ids)
  unfolding rest_unfolds
  again_dropped f e k turns over env before ids is left =
      frame_so f (Again k turns over) e exit.Break env before ids is left

  -- the first frame was made
  pub frame_flows : (rest : List Frame) (f : Frame) (e : CodeExit) (flow : Flow) (env new : List Arg)
      (before nodes : List Node) (ids next : ℕ)
      → rest ≡ f ∷ others
      → onto before (rest_unfolds file routine depth (f ∷ others) (exit_of e) env ids)
      ≡ onto nodes (onward (rest_unfolds file routine depth others) flow new next)
      → (d : CodeExit) → flow ≡ Left d
      → onto nodes (rest_unfolds file routine depth others (exit_of d) new next)
      ≡ onto before (rest_unfolds file routine depth rest (exit_of e) env ids)
  frame_flows rest f e flow env new before nodes ids next is made d left =
      ap (λ x. onto nodes (onward (rest_unfolds file routine depth others) x new next)) (sym left)
      ∙ sym made
      ∙ ap (λ (fs : List Frame). onto before (rest_unfolds file routine depth fs (exit_of e) env ids)) (sym is)

  -- the first frame ended
  pub frame_ended : (rest : List Frame) (f : Frame) (e : CodeExit) (flow : Flow) (env new : List Arg)
      (before nodes : List Node) (ids next : ℕ)
      → rest ≡ f ∷ others
      → onto before (rest_unfolds file routine depth (f ∷ others) (exit_of e) env ids)
      ≡ onto nodes (onward (rest_unfolds file routine depth others) flow new next)
      → (v : Arg) → flow ≡ Ended v
      → onto before (rest_unfolds file routine depth rest (exit_of e) env ids) ≡ (nodes, Some (done new v), next)
  frame_ended rest f e flow env new before nodes ids next is made v left =
      ap (λ (fs : List Frame). onto before (rest_unfolds file routine depth fs (exit_of e) env ids)) is
      ∙ made
      ∙ ap (λ x. onto nodes (onward (rest_unfolds file routine depth others) x new next)) left
      ∙ onto_pure nodes (done new v) next

-- behind no frame the value is None
pub rest_over : (file : File) (routine depth : ℕ) (e : CodeExit) (rest : List Frame) (env : List Arg)
    (before : List Node) (ids : ℕ) → rest ≡ []
    → onto before (rest_unfolds file routine depth rest (exit_of e) env ids)
    ≡ (before, Some (done env (Known value.None)), ids)
unfolding rest_unfolds
rest_over file routine depth exit.Normal rest env before ids is =
    ap (λ (fs : List Frame). onto before (rest_unfolds file routine depth fs Normal env ids)) is
    ∙ onto_pure before (done env (Known value.None)) ids
rest_over file routine depth exit.Break rest env before ids is =
    ap (λ (fs : List Frame). onto before (rest_unfolds file routine depth fs Break env ids)) is
    ∙ onto_pure before (done env (Known value.None)) ids
rest_over file routine depth exit.Continue rest env before ids is =
    ap (λ (fs : List Frame). onto before (rest_unfolds file routine depth fs Continue env ids)) is
    ∙ onto_pure before (done env (Known value.None)) ids

-- a loop is the first statement of its passage
again_found : (file : File) (routine depth : ℕ) (ss : List Stmt) (p : numbering.Point) (s : Stmt) (y : What-F What Arm Block Stmt)
    (turns : ℕ) (over : Arg) (rest : List Frame) (next : Onward) (env : List Arg)
    → Some s ≡ slice_get ss 0 → out-What s.what ≡ y
    → again_first file routine depth (record { stmts = ss; point = p }) turns over rest next env
    ≡ again file routine depth (compound_of y) p turns over rest (context routine depth s.line env) next
again_found file routine depth [] p s y turns over rest next env first is = absurd (cc first)
again_found file routine depth (x ∷ ss) p s y turns over rest next env first is =
    let same : x ≡ s = cc first in
    (λ i. again file routine depth (compound_of (out-What (same i).what)) p turns over rest
    (context routine depth (same i).line env) next)
    ∙ ap (λ z. again file routine depth (compound_of z) p turns over rest (context routine depth s.line env) next) is

pub again_so : (file : File) (routine depth : ℕ) (here there : Passage) (s : Stmt) (y : What-F What Arm Block Stmt)
    (turns : ℕ) (over : Arg) (rest : List Frame) (next : Onward) (env : List Arg)
    → here ≡ there → Some s ≡ slice_get here.stmts 0 → out-What s.what ≡ y
    → again_first file routine depth there turns over rest next env
    ≡ again file routine depth (compound_of y) here.point turns over rest (context routine depth s.line env) next
again_so file routine depth here there s y turns over rest next env same first is =
    ap (λ h. again_first file routine depth h turns over rest next env) (sym same)
    ∙ again_found file routine depth here.stmts here.point s y turns over rest next env first is

-- no statement is no loop
pub again_none : (file : File) (routine depth : ℕ) (here there : Passage)
    (turns : ℕ) (over : Arg) (rest : List Frame) (next : Onward) (env : List Arg)
    → here ≡ there → None ≡ slice_get here.stmts 0
    → again_first file routine depth there turns over rest next env ≡ next env
again_none file routine depth here there turns over rest next env same first =
    ap (λ h. again_first file routine depth h turns over rest next env) (sym same)
    ∙ ap (λ (ss : List Stmt). again_first file routine depth (record { stmts = ss; point = here.point }) turns over rest next env)
    (no_first here.stmts first)
