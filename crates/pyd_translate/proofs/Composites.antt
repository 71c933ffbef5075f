-- What a composite does, and then what comes behind it.
use Rattle.std.proofs.Common.{◌≡◌, ℕ, suc, ◌+◌, ◌*◌, ◌≤◌, List, [], ◌∷◌, ◌++◌, length, append-nil, refl, sym, ap, subst, ◌∙◌, arith, Some, Result, Ok, Err}
use Rattle.pyd_value.specs.declared.fault.Fault.{Fault}
use Rattle.pyd_tree.specs.declared.file.File.{File}
use Rattle.pyd_meaning.specs.declared.limits.Limits.{Limits}
use Rattle.pyd_meaning.specs.Evaluation.{Evaluation, settled, gives, go_on, ◌>>=◌}
use Rattle.pyd_meaning.proofs.Sequencing.{then-gives}
use Rattle.pyd_ir.specs.declared.arg.Arg.TheVariants.{From}
use Rattle.pyd_ir.specs.declared.node.Node.{Node}
use Rattle.pyd_ir.specs.declared.work.Work.{Work}
use Rattle.pyd_ir.specs.Inputs.{Given}
use Rattle.pyd_ir.specs.Ports.{Ports}
use Rattle.pyd_translate.specs.Making.{Making, carry, ◌>>>◌, Context, node_of, emit, port}
use Rattle.pyd_translate.specs.Slots.{slot_ports}
use Rattle.pyd_translate.specs.Statements.{done, ported}
use Rattle.pyd_translate.specs.Walk.{give, slot_values, count_composite, Finish, work_ports, walk}
use Rattle.pyd_translate.specs.Matching.{Relation, AreAlike, IsReached, IsFinish, Matches}
use Rattle.pyd_translate.proofs.Yields.{Yields}
use Rattle.pyd_translate.proofs.Sequencing.{alike-weaker, kept-then, matches-pure}
use Rattle.pyd_translate.proofs.Emitting.{kept-give}
use Rattle.pyd_translate.proofs.Slots.{IsWithin, slots_ported, value_ported}

module _ (file : File) (limits : Limits) {B C D : Type 0} (frames more ids : ℕ) (given : Given)
    (S : Relation C D) (at : Context) (work : Work) (ports : B → Ports) (f : ℕ → Making C)
    (k : B → Evaluation D) where
  -- the composite
  abbrev node : Node
  node = node_of at ids work

  -- what comes behind it does what follows on a value
  abbrev pub Behind : B → Type 0
  Behind b =
      Matches file limits more (suc ids) (give ids (ports b) given) (f ids (suc ids)) (k b) S

  go : (lines : List (List ℕ)) (r : Result B Fault) (n : ℕ)
      → work_ports file limits work node given
      ≡ count_composite frames (go_on lines n r (λ b. gives (ports b)))
      → ((b : B) → r ≡ Ok b → Behind b)
      → Matches file limits (2 + (2 * frames + more)) ids given
      (carry (node ∷ []) (Some ids) (suc ids) f) (go_on lines n r k) S
  unfolding walk settled ◌>>=◌
  go lines (Ok b) n does behind =
      let ns = (f ids (suc ids)).nodes in
      let after = give ids (ports b) given in
      let whole = ap (λ e. e >>= (λ p. walk file limits ns (give ids p given))) does in
      let on = behind b refl in record {
        lines =
            ap (λ e. e.lines) whole
            ∙ ap (λ l. l ++ (walk file limits ns after).lines) (append-nil lines)
            ∙ ap (λ l. lines ++ l) on.lines;
        ends =
            subst (λ e. AreAlike e.result (f ids (suc ids)).got (k b).result
            (IsReached ids given (f ids (suc ids)).next S)) (sym whole)
            (alike-weaker (walk file limits ns after).result (f ids (suc ids)).got (k b).result _ _
            (λ last c d reached. record {
              grown = let g = reached.grown in omega arith;
              kept = let le : ids ≤ suc ids = omega arith in
                  kept-then ids (suc ids) given after last le (kept-give ids (ports b) given) reached.kept;
              related = reached.related;
            }) on.ends);
        steps =
            subst (λ e. e.steps ≤ 4 * (n + (k b).steps) + (2 + (2 * frames + more))) (sym whole)
            (let s = on.steps in omega arith);
      }
  go lines (Err e) n does behind =
      let ns = (f ids (suc ids)).nodes in
      let whole = ap (λ e. e >>= (λ p. walk file limits ns (give ids p given))) does in record {
        lines = ap (λ e. e.lines) whole;
        ends =
            subst (λ w. AreAlike {A = C} {B = D} w.result (f ids (suc ids)).got (Err e)
            (IsReached ids given (f ids (suc ids)).next S)) (sym whole) refl;
        steps =
            subst (λ w. w.steps ≤ 4 * n + (2 + (2 * frames + more))) (sym whole) (omega arith);
      }

  -- a composite and what comes behind it do what its meaning does, and then what follows
  pub matches-composite : (m : Evaluation B)
      → work_ports file limits work node given
      ≡ count_composite frames (m >>= (λ b. gives (ports b)))
      → ((b : B) → m.result ≡ Ok b → Behind b)
      → Matches file limits (2 + (2 * frames + more)) ids given ((emit at work >>> f) ids) (m >>= k) S
  unfolding ◌>>=◌ ◌>>>◌ emit
  matches-composite m does behind = go m.lines m.result m.steps does behind

-- what stands at the ports of a composite where its piece ends so
abbrev pub finish_ports : List (List ℕ) → Finish → Ports
finish_ports slots fin = slot_values slots fin.names fin.value

module _ (file : File) (limits : Limits) (slots : List (List ℕ)) (ids : ℕ) (given : Given) (at : Context)
    (work : Work) where
  -- a composite that takes the rest with it, whose meaning binds slots alone
  pub matches-ported : (frames : ℕ) (m : Evaluation Finish)
      → work_ports file limits work (node_of at ids work) given
      ≡ count_composite frames (m >>= (λ fin. gives (finish_ports slots fin)))
      → Yields m (λ fin. IsWithin slots fin.names)
      → Matches file limits (2 + 2 * frames) ids given ((emit at work >>> ported slots) ids) m
      (IsFinish slots)
  matches-ported frames m does within =
      let count : 2 + (2 * frames + 0) ≡ 2 + 2 * frames = omega arith in
      subst (λ n. Matches file limits n ids given ((emit at work >>> ported slots) ids) m (IsFinish slots)) count
      (subst (λ e. Matches file limits (2 + (2 * frames + 0)) ids given ((emit at work >>> ported slots) ids) e (IsFinish slots))
      (then-gives m)
      (matches-composite file limits frames 0 ids given (IsFinish slots) at work (finish_ports slots)
      (ported slots) (λ fin. gives fin) m does
      (λ fin is. matches-pure file limits 0 (suc ids) (give ids (finish_ports slots fin) given) (IsFinish slots)
      (done (slot_ports ids 0 slots) (From (port ids (length slots)))) fin (record {
        env = slots_ported slots ids given fin.names fin.value (within fin is);
        value = (value_ported slots ids given fin.names fin.value, omega arith);
      }))))
