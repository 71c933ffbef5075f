-- A loss that is due bars any other event.
use Rattle.std.proofs.Common.{◌≡◌, ℕ, Some, None, inl, inr}
use Rattle.pyd_board.specs.declared.event.Act.{Act}
use Rattle.pyd_board.specs.declared.event.Act.TheVariants.{Place, Claim, Finish, Drop, Refine, Settle, Lose, Trim}
use Rattle.pyd_runs.specs.Plans.{Plan}
use Rattle.pyd_runs.specs.Effects.{State}
use Rattle.pyd_runs.specs.Enabled.{CanAct, IsQuiet, due}
use Rattle.pyd_runs.specs.Laws.{BarLaw}

-- where a loss is due, no event waits for none to be
not_quiet : (s : State) (machine : ℕ) (act : Act) → due s ≡ Some machine → IsQuiet s
    → act ≡ Lose machine
not_quiet s machine act d quiet = absurd (let z = quiet.none_due in cc (z, d))

-- what a seat may do is that loss
barred : (p : Plan) (s : State) (seat : ℕ) (act : Act) (machine : ℕ) → s.graph.end ≡ None
    → due s ≡ Some machine → CanAct p s seat act → act ≡ Lose machine
barred p s seat (Place k a m) machine on d can = not_quiet s machine (Place k a m) d can.0
barred p s seat (Claim k a m) machine on d can = not_quiet s machine (Claim k a m) d can.0
barred p s seat (Finish k a m) machine on d can = not_quiet s machine (Finish k a m) d can.0
barred p s seat (Drop k a m) machine on d (inl undone) = absurd (let z = undone.0 on in cc (z, d))
barred p s seat (Drop k a m) machine on d (inr left) = absurd (let z = left.1 in cc (z, on))
barred p s seat (Refine k) machine on d can = not_quiet s machine (Refine k) d can.0
barred p s seat (Settle k) machine on d can = not_quiet s machine (Settle k) d can.0
barred p s seat (Lose m) machine on d can = let z = can.is_due in cc (z, d)
barred p s seat (Trim k) machine on d can = not_quiet s machine (Trim k) d can.0

-- the law
pub due_bars : BarLaw
due_bars p s e machine on d enabled = barred p s e.by e.act machine on d enabled.act
