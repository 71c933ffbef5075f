use Rattle.std.proofs.Common.{◌≡◌, ◌∙◌, ◌++◌, ◌∷◌, [], ap, sym, ℕ, List, true, false, length}
use Rattle.pyd_names.specs.Binding.{is_among}
use Rattle.pyd_scope.specs.Places as spec
use Rattle.pyd_scope.proofs.Finding.{place-again, place-grown}
use Rattle.pyd_scope.proofs.names.Names.add.Goals as goal

pub invariant_of-self-then-found : goal.invariant_of-self-then-found
invariant_of-self-then-found c = λ q.
    let there : is_among c.self.inside.names.items c.args.name.now ≡ true =
    ap (λ (ns : List (List ℕ)). is_among ns c.args.name.now) c.self.view_is ∙ sym c.contains-found.ensures ∙ c.if-found.true in
    let more : c.push.new.self.items ≡ c.self.inside.names.items ++ c.args.name.now ∷ [] =
    c.in_ok-push.ensures.items ∙ ap (λ (n : List ℕ). c.self.inside.names.items ++ n ∷ []) c.in_ok-try_clone.ensures in
    c.self.invariant q ∙ sym (place-again c.self.inside.names.items c.args.name.now q there) ∙ ap (λ (ns : List (List ℕ)). spec.place ns q) (sym more)

pub invariant_of-self-in-Ok-insert : goal.invariant_of-self-in-Ok-insert
invariant_of-self-in-Ok-insert c = λ q.
    let names : List (List ℕ) = c.self.inside.names.items in
    let new : is_among names c.args.name.now ≡ false =
    ap (λ (ns : List (List ℕ)). is_among ns c.args.name.now) c.self.view_is ∙ sym c.contains-found.ensures ∙ c.if-found.false in
    let more : c.push.new.self.items ≡ names ++ c.args.name.now ∷ [] =
    c.in_ok-push.ensures.items ∙ ap (λ (n : List ℕ). names ++ n ∷ []) c.in_ok-try_clone.ensures in
    let sized : length c.as_slice-place.result.now ≡ length names = ap (λ (ns : List (List ℕ)). length ns) c.as_slice-place.ensures.value in
    place-grown names c.args.name.now c.in-Ok.key q (length c.as_slice-place.result.now) _ _ new c.in-Ok.ensures sized (c.self.invariant q) (c.in-Ok-insert.ensures.updates.0 q)
    ∙ ap (λ (ns : List (List ℕ)). spec.place ns q) (sym more)
