use Rattle.std.proofs.Common.{◌≡◌, sym, subst, map, arith, add-one, Global}
use mathlib.Core.Option.{some}
use lib.ListN.{get_elem?}
use Rattle.crossbeam_queue.proofs.Lists.{at_index}
use Rattle.crossbeam_deque.specs.Handles.{worker_deque, stealer_deque}
use Rattle.pyd_pool.proofs.Merging.{at_map}
use Rattle.pyd_pool.proofs.Splitting.{image_end}
use Rattle.pyd_pool.proofs.making.new_stealers.Goals as goal

pub loop-k-preserved : goal.loop-k-preserved
loop-k-preserved c = let ds = map worker_deque c.args.owners.now.items in
    image_end stealer_deque ds c.push.new.self.items c.loop-k.stealers.items c.in_ok-stealer.stealer c.loop-k.k _ c.in_ok-push.ensures.items (add-one _)
    (subst (λ a. get_elem? ds c.loop-k.k ≡ some a) (sym c.in_ok-stealer.ensures.0)
    (at_map worker_deque c.args.owners.now.items c.loop-k.k c.index.result.now (at_index c.args.owners.now.items c.loop-k.k c.index.result.now (omega (arith, c.args.owners.now.ok.0)) c.index.ensures)))
    c.loop-k.invariant
