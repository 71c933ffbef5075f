-- What simple statements evaluate, and the slots behind it: assignments, augmented assignments, and asserts.
use Rattle.std.proofs.Common.{◌≡◌, ℕ, ◌+◌, List, [], ◌∷◌, refl, sym, ap, subst, ◌∙◌, Bool, true, false, Option, Some, None}
use Rattle.pyd_value.specs.declared.value.Value.{Value}
use Rattle.pyd_value.specs.declared.value.Value.TheVariants as value
use Rattle.pyd_value.specs.declared.fault.Fault.TheVariants.{Raised}
use Rattle.pyd_value.specs.declared.fault.Kind.TheVariants.{AssertionError}
use Rattle.pyd_value.specs.declared.operator.BinOp.{BinOp}
use Rattle.pyd_value.specs.Truth.{is_true}
use Rattle.pyd_tree.specs.declared.expression.Expr.{Expr}
use Rattle.pyd_tree.specs.declared.statement.Targets.{Targets}
use Rattle.pyd_names.specs.Binding.{is_among}
use Rattle.pyd_ops.specs.Operators.{binary}
use Rattle.pyd_scope.specs.Numbering.{Point, expressions}
use Rattle.pyd_meaning.specs.Evaluation.{Evaluation, settled, gives, ◌>>=◌}
use Rattle.pyd_meaning.specs.Names.{Names, bind}
use Rattle.pyd_meaning.specs.Setting.{raises}
use Rattle.pyd_meaning.specs.Reference.{read}
use Rattle.pyd_meaning.specs.Expression.{meaning_of, branch}
use Rattle.pyd_meaning.specs.Assignment.{assign}
use Rattle.pyd_meaning.specs.Statement.{value_or_none}
use Rattle.pyd_meaning.proofs.Sequencing.{gives-then, faults-then}
use Rattle.pyd_ir.specs.declared.arg.Arg.{Arg}
use Rattle.pyd_ir.specs.declared.arg.Arg.TheVariants.{Known}
use Rattle.pyd_ir.specs.declared.code.OpCode.TheVariants as code
use Rattle.pyd_ir.specs.declared.work.Side.TheVariants as side
use Rattle.pyd_ir.specs.Operation.{assert}
use Rattle.pyd_translate.specs.Making.{pure, ◌>>>◌}
use Rattle.pyd_translate.specs.Slots.{set_slot}
use Rattle.pyd_translate.specs.Expressions.{name_operand, operator}
use Rattle.pyd_translate.specs.Statements.{header, assigned, augmented, message_unfolds, asserted}
use Rattle.pyd_translate.specs.Matching.{HasValue}
use Rattle.pyd_translate.specs.Laws.{Stands}
use Rattle.pyd_translate.proofs.ExpressionsMatch.{expressions_match}
use Rattle.pyd_translate.proofs.Induction.{Each, Maybe}
use Rattle.pyd_translate.proofs.Sequencing.{matches-then, matches-pure}
use Rattle.pyd_translate.proofs.Keeping.{has-kept}
use Rattle.pyd_translate.proofs.Slots.{slots_bind}
use Rattle.pyd_translate.proofs.Assigning.{SlotsAre, binds}
use Rattle.pyd_translate.proofs.OperandsMatch.{operates, one-value, two-values, name-does}
use Rattle.pyd_translate.proofs.ChoicesMatch.{chooses, side-expression}
use Rattle.pyd_translate.proofs.Scopes.{Scope, State, behind, Does, setting, place, table, slots, made_in}

module _ (w : Scope) where
  -- the header of a statement does what its expression means
  pub header-does : (here : State w) (e : Expr) (p : Point) → Stands (table w) p.expression (expressions e)
      → Does w 0 here (header w.file e p (made_in w here.env)) (meaning_of (setting w) e (place w) here.names) HasValue
  header-does here e p stands =
      expressions_match w.file w.limits w.routine w.depth w.line e p.expression here.ids here.given here.env here.names
      stands here.are

  -- an assignment binds its targets to the value of its right side
  pub assigned-does : (here : State w) (targets : Targets) (e : Expr) (p : Point)
      → Each (λ x. is_among (slots w) x ≡ true) targets.names → Stands (table w) p.expression (expressions e)
      → Does w (0 + 1) here
      (header w.file e p (made_in w here.env) >>> assigned w.file targets (made_in w here.env))
      (meaning_of (setting w) e (place w) here.names >>= (λ v. assign targets v (place w) here.names))
      (SlotsAre (slots w))
  assigned-does here targets e p in_slots stands =
      matches-then w.file w.limits 0 1 here.ids here.given HasValue (SlotsAre (slots w))
      (header w.file e p (made_in w here.env)) (assigned w.file targets (made_in w here.env))
      (meaning_of (setting w) e (place w) here.names) (λ v. assign targets v (place w) here.names)
      (header-does here e p stands)
      (λ next mid a v reached.
      let then = behind w here HasValue next mid a v reached in
      binds w.file w.limits (slots w) next mid w.routine w.depth w.line here.env here.names then.are a v
      reached.related targets.tuple targets.names in_slots)

  -- what an augmented assignment means for the names
  abbrev pub augmented_meaning : List ℕ → BinOp → Expr → Names → Evaluation Names
  augmented_meaning name op e names =
      read (setting w) name (place w) names
      >>= (λ a. meaning_of (setting w) e (place w) names
      >>= (λ b. settled (binary op a b w.line) >>= (λ c. gives (bind names name c))))

  -- an augmented assignment binds its name to the value of its operator
  pub augmented-does : (here : State w) (name : List ℕ) (op : BinOp) (e : Expr) (p : Point)
      → is_among (slots w) name ≡ true → Stands (table w) p.expression (expressions e)
      → Does w (1 + (0 + (1 + 0))) here (augmented w.file name op e p (made_in w here.env))
      (augmented_meaning name op e here.names) (SlotsAre (slots w))
  augmented-does here name op e p in_slots stands =
      let at = made_in w here.env in
      matches-then w.file w.limits 1 (0 + (1 + 0)) here.ids here.given HasValue (SlotsAre (slots w))
      (name_operand w.file name at) _ (read (setting w) name (place w) here.names) _ (name-does w here name)
      (λ next mid a u reached.
      let there = behind w here HasValue next mid a u reached in
      matches-then w.file w.limits 0 (1 + 0) next mid HasValue (SlotsAre (slots w))
      (header w.file e p at) _ (meaning_of (setting w) e (place w) here.names) _ (header-does there e p stands)
      (λ last after b v more.
      let where_next = behind w there HasValue last after b v more in
      let kept = has-kept next last mid after a u more.grown more.kept reached.related in
      matches-then w.file w.limits 1 0 last after HasValue (SlotsAre (slots w))
      (operator (code.Binary op) (a ∷ b ∷ []) at) (λ c. pure (set_slot (slots w) here.env name c))
      (settled (binary op u v w.line)) (λ c. gives (bind here.names name c))
      (operates w.file w.limits last after at (code.Binary op) (a ∷ b ∷ []) (u ∷ v ∷ []) (λ t. refl)
      (two-values after a b u v kept.0 more.related.0))
      (λ end final c t done.
      matches-pure w.file w.limits 0 end final (SlotsAre (slots w)) (set_slot (slots w) here.env name c) (bind here.names name t)
      (slots_bind (slots w) end final here.env here.names name c t in_slots
      (behind w where_next HasValue end final c t done).are done.related))))

  -- the message of an assert whose test has a value
  abbrev message_meaning : Option Expr → Value → Names → Evaluation Value
  message_meaning None v names = gives v
  message_meaning (Some e) v names =
      branch (is_true v) (λ now. gives value.None) (meaning_of (setting w) e (place w)) names

  message-does : (here : State w) (message : Option Expr) (n : ℕ) (t : Arg) (v : Value)
      → HasValue here.ids here.given t v → Maybe (λ e. Stands (table w) n (expressions e)) message
      → Does w 2 here (message_unfolds w.file message n (made_in w here.env) t) (message_meaning message v here.names) HasValue
  message-does here None n t v has stands = matches-pure w.file w.limits 2 here.ids here.given HasValue t v has
  message-does here (Some e) n t v has stands =
      chooses w here t v (side.Arg (Known value.None)) (side.Expr n) (λ now. gives value.None)
      (meaning_of (setting w) e (place w)) has refl (side-expression w here.given n e here.names stands)

  -- what an assert means for the names, from the value of its test on
  abbrev pub asserted_meaning : Option Expr → Value → Names → Evaluation Names
  asserted_meaning message v names =
      branch (is_true v) (λ now. gives now)
      (λ now. value_or_none (setting w) message (place w) now >>= (λ u. raises AssertionError (place w))) names

  -- the operator behind the message
  abbrev asserts : Bool → Names → Evaluation Names
  asserts b names = settled (assert b w.line) >>= (λ u. gives names)

  asserted_if : (message : Option Expr) (v : Value) (names : Names) (b : Bool) → is_true v ≡ b
      → message_meaning message v names >>= (λ m. asserts b names)
      ≡ branch b (λ now. gives now)
      (λ now. value_or_none (setting w) message (place w) now >>= (λ u. raises AssertionError (place w))) names
  asserted_if None v names true is = gives-then v (λ m. asserts true names) ∙ gives-then value.None (λ u. gives names)
  asserted_if None v names false is =
      gives-then v (λ m. asserts false names) ∙ faults-then (Raised AssertionError w.line) (λ u. gives names)
      ∙ sym (gives-then value.None (λ u. raises AssertionError (place w)))
  asserted_if (Some e) v names true is =
      ap (λ b. branch b (λ now. gives value.None) (meaning_of (setting w) e (place w)) names >>= (λ m. asserts true names)) is
      ∙ gives-then value.None (λ m. asserts true names) ∙ gives-then value.None (λ u. gives names)
  asserted_if (Some e) v names false is =
      ap (λ b. branch b (λ now. gives value.None) (meaning_of (setting w) e (place w)) names >>= (λ m. asserts false names)) is
      ∙ (λ i. meaning_of (setting w) e (place w) names >>= (λ m. faults-then {A = Value} (Raised AssertionError w.line) (λ u. gives names) i))

  -- an assert from the value of its test on
  pub asserted-does : (here : State w) (message : Option Expr) (n : ℕ) (t : Arg) (v : Value)
      → HasValue here.ids here.given t v → Maybe (λ e. Stands (table w) n (expressions e)) message
      → Does w (2 + (1 + 0)) here (asserted w.file message n (made_in w here.env) t)
      (asserted_meaning message v here.names) (SlotsAre (slots w))
  asserted-does here message n t v has stands =
      let at = made_in w here.env in
      subst (λ m. Does w (2 + (1 + 0)) here (asserted w.file message n at t) m (SlotsAre (slots w)))
      (asserted_if message v here.names (is_true v) refl)
      (matches-then w.file w.limits 2 (1 + 0) here.ids here.given HasValue (SlotsAre (slots w))
      (message_unfolds w.file message n at t) _ (message_meaning message v here.names) (λ m. asserts (is_true v) here.names)
      (message-does here message n t v has stands)
      (λ next mid a u reached.
      let there = behind w here HasValue next mid a u reached in
      let kept = has-kept here.ids next here.given mid t v reached.grown reached.kept has in
      matches-then w.file w.limits 1 0 next mid HasValue (SlotsAre (slots w))
      (operator code.Assert (t ∷ []) at) (λ x. pure here.env) (settled (assert (is_true v) w.line)) (λ x. gives here.names)
      (operates w.file w.limits next mid at code.Assert (t ∷ []) (v ∷ []) (λ x. refl) (one-value mid t v kept.0))
      (λ end final c x done.
      matches-pure w.file w.limits 0 end final (SlotsAre (slots w)) here.env here.names
      (behind w there HasValue end final c x done).are)))
