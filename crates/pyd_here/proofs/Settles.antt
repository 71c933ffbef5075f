-- A run behind the Settle of its head.
use Rattle.std.proofs.Common.{◌≡◌, ℕ, ◌∷◌, ap, sym, subst, ◌∙◌}
use Rattle.pyd_board.specs.declared.event.Act.TheVariants.{Settle}
use Rattle.pyd_ir.specs.declared.node.Node.{Node}
use Rattle.pyd_runs.specs.Enabled.{CanSettle}
use Rattle.pyd_core.specs.declared.keeper.Core.{Core}
use Rattle.pyd_core.specs.Cores.{plan_of, state_of}
use Rattle.pyd_core.specs.Steps.{Makes}
use Rattle.pyd_steps.specs.declared.told.Told.{Told}
use Rattle.pyd_steps.specs.Settling.{SettlesOut, head_lines}
use Rattle.pyd_here.specs.Asked.{seat_for}
use Rattle.pyd_here.specs.Going.{MakesOut}

-- the lines of the head went out
pub settles_here : (c d : Core) (seat k : ℕ) (told now : Told) → CanSettle (state_of c) k
    → seat ≡ seat_for (plan_of c) (state_of c) (Settle k) → SettlesOut c d seat told now
    → MakesOut c d (Settle k) told now
settles_here c d seat k told now can by out =
    let heads : can.head ∷ can.rest ≡ out.settles.head ∷ out.settles.rest
    = sym can.chain ∙ out.settles.chain in
    let head : can.head ≡ out.settles.head = cc (heads) in
    let number : out.settles.head.id ≡ k = ap (λ (n : Node). n.id) (sym head) ∙ can.number in
    record {
      makes = subst (λ s. Makes c d s (Settle k)) by
          (subst (λ n. Makes c d seat (Settle n)) number out.settles.makes);
      lines = head_lines (plan_of c) (state_of c).graph;
      out = out.settles.out;
      puts = out.puts;
    }
