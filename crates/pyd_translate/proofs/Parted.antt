-- What is left of parts that are made one after another.
use Rattle.std.proofs.Common.{◌≡◌, ℕ, suc, ◌+◌, ◌<◌, ◌≤◌, List, [], ◌∷◌, ◌++◌, append_assoc, append-nil, length, map, drop, get_or, add-one, drop-cons, sym, ap, ◌∙◌, Some, None}
use Rattle.std.proofs.lemmas.List.{drop_all}
use Rattle.pyd_value.specs.declared.operator.BinOp.{BinOp}
use Rattle.pyd_tree.specs.declared.expression.Expr.{Expr}
use Rattle.pyd_tree.specs.declared.expression.Suffix.{Suffix}
use Rattle.pyd_tree.specs.declared.file.File.{File}
use Rattle.pyd_ir.specs.declared.node.Node.{Node}
use Rattle.pyd_ir.specs.declared.arg.Arg.{Arg}
use Rattle.pyd_ir.specs.declared.code.OpCode.TheVariants as code
use Rattle.pyd_translate.specs.Making.{Making, Context, pure, ◌>>>◌}
use Rattle.pyd_translate.specs.Expressions.{unfolded, unfolded_suffix, expression_unfolds, each, chained, suffixed, operator}
use Rattle.pyd_translate.specs.Drafts.{onto, unfolded_operands}
use Rattle.pyd_translate.proofs.Onto.{onto_pure, onto_then, onto_none, making_assoc, then_pure, pure_then}

-- arguments that are there already, and those that are made
unfoldable pub fronted : List Arg → Making (List Arg) → Making (List Arg)
fronted args u = u >>> (λ more. pure (args ++ more))

pub front_nil : (u : Making (List Arg)) → fronted [] u ≡ u
unfolding fronted
front_nil u = then_pure u

front_then : (args : List Arg) (u : Making Arg) (f : Arg → Making (List Arg))
    → fronted args (u >>> f) ≡ (u >>> (λ b. fronted args (f b)))
unfolding fronted
front_then args u f = making_assoc u f (λ more. pure (args ++ more))

front_cons : (args : List Arg) (a : Arg) (u : Making (List Arg))
    → fronted args (u >>> (λ more. pure (a ∷ more))) ≡ fronted (args ++ a ∷ []) u
unfolding fronted
front_cons args a u =
    making_assoc u (λ more. pure (a ∷ more)) (λ more. pure (args ++ more))
    ∙ (λ i. u >>> (λ more. pure_then (a ∷ more) (λ all. pure (args ++ all)) i))
    ∙ (λ i. u >>> (λ more. pure (sym (append_assoc args (a ∷ []) more) i)))

module _ (file : File) (at : Context) where
  -- one more
  pub each_more : (es : List Expr) (i k behind next next' : ℕ) (e : Expr) (args args' : List Arg) (a : Arg) (before mid : List Node)
      → i < length es → e ≡ get_or es i e
      → onto before (expression_unfolds file e k at next) ≡ (mid, Some a, next')
      → args' ≡ args ++ a ∷ [] → behind ≡ k + (unfolded file e).count
      → onto before (fronted args (each (map (unfolded file) (drop i es)) k at) next)
      ≡ onto mid (fronted args' (each (map (unfolded file) (drop (i + 1) es)) behind at) next')
  unfolding each
  each_more es i k behind next next' e args args' a before mid lt is p q r =
      let more = each (map (unfolded file) (drop (suc i) es)) (k + (unfolded file e).count) at in
      let u = expression_unfolds file e k at in
      rw (add-one, drop-cons es i e lt, ← is, q, r)
      (ap (λ (w : Making (List Arg)). onto before (w next)) (front_then args u (λ b. more >>> (λ all. pure (b ∷ all))))
      ∙ onto_then before mid u (λ b. fronted args (more >>> (λ all. pure (b ∷ all)))) next next' a p
      ∙ ap (λ (w : Making (List Arg)). onto mid (w next')) (front_cons args a more))

  -- a Stop among them
  pub each_stopped : (es : List Expr) (i k next next' : ℕ) (e : Expr) (args : List Arg) (before mid : List Node)
      → i < length es → e ≡ get_or es i e
      → onto before (expression_unfolds file e k at next) ≡ (mid, None, next')
      → onto before (fronted args (each (map (unfolded file) (drop i es)) k at) next) ≡ (mid, None, next')
  unfolding each fronted
  each_stopped es i k next next' e args before mid lt is p =
      rw (drop-cons es i e lt, ← is)
      (onto_none before mid _ (λ more. pure (args ++ more)) next next'
      (onto_none before mid (expression_unfolds file e k at) _ next next' p))

  -- all of them
  pub each_done : (es : List Expr) (i k next : ℕ) (args : List Arg) (before : List Node)
      → length es ≤ i
      → onto before (fronted args (each (map (unfolded file) (drop i es)) k at) next) ≡ (before, Some args, next)
  unfolding each fronted
  each_done es i k next args before le =
      rw (drop_all i es le)
      (onto_then before before (pure []) (λ more. pure (args ++ more)) next next [] (onto_pure before [] next)
      ∙ onto_pure before (args ++ []) next ∙ ap (λ l. (before, Some l, next)) (append-nil args))

  -- one operator more
  pub chained_more : (links : List (BinOp × Expr)) (i k behind next next' : ℕ) (l : BinOp × Expr) (a b : Arg) (before mid : List Node)
      → i < length links → l ≡ get_or links i l
      → onto before ((expression_unfolds file l.1 k at >>> (λ c. operator (code.Binary l.0) (a ∷ c ∷ []) at)) next) ≡ (mid, Some b, next')
      → behind ≡ k + (unfolded file l.1).count
      → onto before (chained (unfolded_operands file (drop i links)) k at a next)
      ≡ onto mid (chained (unfolded_operands file (drop (i + 1) links)) behind at b next')
  unfolding chained
  chained_more links i k behind next next' l a b before mid lt is p r =
      let u = expression_unfolds file l.1 k at in
      let step : Arg → Making Arg = λ c. operator (code.Binary l.0) (a ∷ c ∷ []) at in
      let go : Arg → Making Arg = λ c. chained (unfolded_operands file (drop (suc i) links)) (k + (unfolded file l.1).count) at c in
      rw (add-one, drop-cons links i l lt, ← is, r)
      (ap (λ (w : Making Arg). onto before (w next)) (sym (making_assoc u step go))
      ∙ onto_then before mid (u >>> step) go next next' b p)

  -- a Stop in a right operand
  pub chained_stopped : (links : List (BinOp × Expr)) (i k next next' : ℕ) (l : BinOp × Expr) (a : Arg) (before mid : List Node)
      → i < length links → l ≡ get_or links i l
      → onto before ((expression_unfolds file l.1 k at >>> (λ c. operator (code.Binary l.0) (a ∷ c ∷ []) at)) next) ≡ (mid, None, next')
      → onto before (chained (unfolded_operands file (drop i links)) k at a next) ≡ (mid, None, next')
  unfolding chained
  chained_stopped links i k next next' l a before mid lt is p =
      let u = expression_unfolds file l.1 k at in
      let step : Arg → Making Arg = λ c. operator (code.Binary l.0) (a ∷ c ∷ []) at in
      let go : Arg → Making Arg = λ c. chained (unfolded_operands file (drop (suc i) links)) (k + (unfolded file l.1).count) at c in
      rw (drop-cons links i l lt, ← is)
      (ap (λ (w : Making Arg). onto before (w next)) (sym (making_assoc u step go))
      ∙ onto_none before mid (u >>> step) go next next' p)

  -- no operator more
  pub chained_done : (links : List (BinOp × Expr)) (i k next : ℕ) (a : Arg) (before : List Node)
      → length links ≤ i
      → onto before (chained (unfolded_operands file (drop i links)) k at a next) ≡ (before, Some a, next)
  unfolding chained
  chained_done links i k next a before le = rw (drop_all i links le) (onto_pure before a next)

  -- one pair of brackets more
  pub suffixed_more : (ss : List Suffix) (i k behind next next' : ℕ) (s : Suffix) (a b : Arg) (before mid : List Node)
      → i < length ss → s ≡ get_or ss i s
      → onto before ((unfolded_suffix file s).build k at a next) ≡ (mid, Some b, next')
      → behind ≡ k + (unfolded_suffix file s).count
      → onto before (suffixed (map (unfolded_suffix file) (drop i ss)) k at a next)
      ≡ onto mid (suffixed (map (unfolded_suffix file) (drop (i + 1) ss)) behind at b next')
  unfolding suffixed
  suffixed_more ss i k behind next next' s a b before mid lt is p r =
      rw (add-one, drop-cons ss i s lt, ← is, r)
      (onto_then before mid ((unfolded_suffix file s).build k at a) _ next next' b p)

  -- a Stop in brackets
  pub suffixed_stopped : (ss : List Suffix) (i k next next' : ℕ) (s : Suffix) (a : Arg) (before mid : List Node)
      → i < length ss → s ≡ get_or ss i s
      → onto before ((unfolded_suffix file s).build k at a next) ≡ (mid, None, next')
      → onto before (suffixed (map (unfolded_suffix file) (drop i ss)) k at a next) ≡ (mid, None, next')
  unfolding suffixed
  suffixed_stopped ss i k next next' s a before mid lt is p =
      rw (drop-cons ss i s lt, ← is)
      (onto_none before mid ((unfolded_suffix file s).build k at a) _ next next' p)

  -- no brackets more
  pub suffixed_done : (ss : List Suffix) (i k next : ℕ) (a : Arg) (before : List Node)
      → length ss ≤ i
      → onto before (suffixed (map (unfolded_suffix file) (drop i ss)) k at a next) ≡ (before, Some a, next)
  unfolding suffixed
  suffixed_done ss i k next a before le = rw (drop_all i ss le) (onto_pure before a next)
