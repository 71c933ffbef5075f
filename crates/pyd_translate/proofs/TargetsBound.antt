-- Targets that were bound, by the nodes that were made for them.
use Rattle.std.proofs.Common.{◌≡◌, ℕ, suc, ◌+◌, ◌<◌, ◌≤◌, List, [], ◌∷◌, drop, length, get_or, true, false, Some, None, refl, sym, ap, ◌∙◌, arith}
use Rattle.std.proofs.lemmas.List.{drop_all}
use Rattle.pyd_value.specs.declared.fault.Fault.{Fault}
use Rattle.pyd_value.specs.declared.fault.Fault.TheVariants.{Raised}
use Rattle.pyd_value.specs.declared.fault.Kind.TheVariants.{ValueError}
use Rattle.pyd_ir.specs.declared.arg.Arg.{Arg}
use Rattle.pyd_ir.specs.declared.arg.Arg.TheVariants.{From}
use Rattle.pyd_ir.specs.declared.code.OpCode.TheVariants as code
use Rattle.pyd_ir.specs.declared.node.Node.{Node}
use Rattle.pyd_ir.specs.declared.work.Work.{Work}
use Rattle.pyd_ir.specs.declared.work.Work.TheVariants.{Op}
use Rattle.pyd_translate.specs.declared.draft.Draft.{Draft}
use Rattle.pyd_translate.specs.Making.{Context, pure, emit, stop, stop_by, port}
use Rattle.pyd_translate.specs.Slots.{set_slot}
use Rattle.pyd_translate.specs.Statements.{set_members, bind_targets}
use Rattle.pyd_translate.specs.Drafts.{onto, Makes}
use Rattle.pyd_translate.specs.Flows.{Binds}
use Rattle.pyd_translate.proofs.Onto.{onto_pure, onto_last}
use Rattle.pyd_translate.proofs.Operands.{other_form}
use Rattle.pyd_translate.proofs.Walked.{left_from}

-- a Stop, whatever would have come
stop_any : {A B : Type 0} (before mid : List Node) (at : Context) (x : Fault) (ids next : ℕ)
    → onto before (stop {A = A} at x ids) ≡ (mid, None, next)
    → onto before (stop {A = B} at x ids) ≡ (mid, None, next)
unfolding onto stop
stop_any before mid at x ids next e = λ i. (ap (λ t. t.0) e i, None, ap (λ t. t.2) e i)

module _ (slots : List (List ℕ)) where
  -- each target in turn takes its member
  pub members_more : (env new : List Arg) (id p q i : ℕ) (names : List (List ℕ)) (x : List ℕ)
      → i < length names → x ≡ get_or names i x → new ≡ set_slot slots env x (From (port id p))
      → q ≡ suc p
      → set_members slots new id q (drop (i + 1) names) ≡ set_members slots env id p (drop i names)
  members_more env new id p q i names x some is set next =
      (λ j. set_members slots (set j) id (next j) (drop (i + 1) names))
      ∙ ap (set_members slots env id p) (sym (left_from names i x some is))

  -- all have taken theirs
  pub members_done : (env all : List Arg) (id p i : ℕ) (names : List (List ℕ)) → length names ≤ i
      → set_members slots env id p (drop i names) ≡ all → env ≡ all
  members_done env all id p i names past is =
      ap (set_members slots env id p) (sym (drop_all i names past)) ∙ is

  module _ (at : Context) (a : Arg) where
    single_form : (names : List (List ℕ)) (x : List ℕ) → length names ≡ 1 → x ≡ get_or names 0 x
        → pure (set_slot slots at.env x a) ≡ bind_targets slots false names at a
    single_form [] x one is = absurd (cc one)
    single_form (y ∷ []) x one is = ap (λ z. pure (set_slot slots at.env z a)) is
    single_form (y ∷ z ∷ names) x one is = absurd (omega (arith, one))

    stopped_form : (names : List (List ℕ)) → ¬ (length names ≡ 1)
        → stop_by at ValueError ≡ bind_targets slots false names at a
    stopped_form [] other = refl
    stopped_form (y ∷ []) other = absurd (other refl)
    stopped_form (y ∷ z ∷ names) other = refl

    -- a single target
    pub single_bound : (before : Draft) (names : List (List ℕ)) (x : List ℕ) (new : List Arg)
        → length names ≡ 1 → x ≡ get_or names 0 x → new ≡ set_slot slots at.env x a
        → Binds before (bind_targets slots false names at a) before true at.env new
    single_bound before names x new one is set = record {
      made =
          other_form (pure (set_slot slots at.env x a)) (bind_targets slots false names at a)
          before.nodes before.next (before.nodes, Some new, before.next) (single_form names x one is)
          (onto_pure before.nodes (set_slot slots at.env x a) before.next
          ∙ (λ i. (before.nodes, Some (sym set i), before.next)));
      same = λ e. absurd (cc e);
    }

    -- none, or several that are no tuple
    pub none_bound : (before after : Draft) (context : Context) (names : List (List ℕ))
        → context ≡ at → ¬ (length names ≡ 1)
        → Makes before (stop_by {A = Arg} context ValueError) after None
        → Binds before (bind_targets slots false names at a) after false at.env at.env
    none_bound before after context names is other made = record {
      made =
          other_form (stop_by at ValueError) (bind_targets slots false names at a)
          before.nodes before.next (after.nodes, None, after.next) (stopped_form names other)
          (stop_any {A = Arg} {B = List Arg} before.nodes after.nodes at (Raised ValueError at.line)
          before.next after.next
          (ap (λ (c : Context). onto before.nodes (stop_by {A = Arg} c ValueError before.next)) (sym is)
          ∙ made));
      same = λ e. refl;
    }

    -- a tuple of targets
    pub members_bound : (before after : Draft) (context : Context) (id : ℕ)
        (names : List (List ℕ)) (new : List Arg) → context ≡ at
        → Makes before (emit context (Op (code.Unpack (length names)) (a ∷ []))) after (Some id)
        → new ≡ set_members slots at.env id 0 names
        → Binds before (bind_targets slots true names at a) after true at.env new
    members_bound before after context id names new is made set =
        let work : Work = Op (code.Unpack (length names)) (a ∷ []) in record {
          made =
              onto_last before.nodes after.nodes (emit at work) (λ n. set_members slots at.env n 0 names)
              before.next after.next id
              (ap (λ (c : Context). onto before.nodes (emit c work before.next)) (sym is) ∙ made)
              ∙ (λ i. (after.nodes, Some (sym set i), after.next));
          same = λ e. absurd (cc e);
        }
