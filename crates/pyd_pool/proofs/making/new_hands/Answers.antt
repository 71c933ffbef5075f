use Rattle.std.proofs.Common.{◌≡◌, ◌<◌, ◌*◌, ◌/◌, ◌++◌, ℕ, List, [], ◌∷◌, length, map, ap, sym, ◌∙◌, subst, arith, length-append, Global}
use mathlib.Core.Option.{some}
use lib.ListN.{get_elem?}
use Rattle.std.specs.Vec.Iter.{into_iter_items}
use Rattle.std.proofs.lemmas.Nat.{div_below}
use Rattle.crossbeam_deque.specs.Handles.{worker_deque}
use Rattle.crossbeam_deque.specs.declared.handles.Worker.{Worker}
use Rattle.pyd_board.specs.declared.seat.Ticket.{Ticket}
use Rattle.pyd_pool.specs.declared.account.Account.{Account}
use Rattle.pyd_pool.specs.declared.hand.Hand.{Hand}
use Rattle.pyd_pool.specs.declared.pool.Rest.{Rest}
use Rattle.pyd_pool.specs.declared.rule.Conserved.{Conserved}
use Rattle.pyd_pool.specs.Hands.{deque_id, queue_id}
use Rattle.pyd_pool.specs.Ends.{keeper_queue, owner_of, Unused}
use Rattle.pyd_pool.proofs.Apart.{long_map}
use Rattle.pyd_pool.proofs.Handing.{at_next, inside, moved, homes_end, none_end}
use Rattle.pyd_pool.proofs.Merging.{last_has, front_has}
use Rattle.pyd_pool.proofs.Splitting.{every_end}
use Rattle.pyd_pool.proofs.making.new_hands.Goals as goal

pub new_hand-requires-clause-fifo : goal.new_hand-requires-clause-fifo
new_hand-requires-clause-fifo c = c.requires.fifo _ c.in-Some.own (at_next owner_of c.loop-own.hands.items c.args.owners.items _ c.in-Some.own _ c.loop-own.invariant.owners c.in-Some.ensures.items)

pub new_hand-requires-clause-parts : goal.new_hand-requires-clause-parts
new_hand-requires-clause-parts c =
    let e = c.requires.fresh _ c.in-Some.own (at_next owner_of c.loop-own.hands.items c.args.owners.items _ c.in-Some.own _ c.loop-own.invariant.owners c.in-Some.ensures.items) in
    let a = ap (λ (u : Account). u.parts) e in
    let r = last_has (λ (x : Rest). (map deque_id x.deques.items ≡ map worker_deque c.args.owners.items) × (map queue_id x.queues.items ≡ map keeper_queue c.args.keepers.now.items)) c.loop-own.rests.items c.pop.new.self.items c.in-Some-pop.rest c.in-Some-pop.ensures.items c.loop-own.invariant.rests in
    let b = ap length r.0 in let l = long_map deque_id c.in-Some-pop.rest.deques.items in let m = long_map worker_deque c.args.owners.items in let n = c.requires.few in omega arith

pub new_hand-requires-clause-few : goal.new_hand-requires-clause-few
new_hand-requires-clause-few c =
    let r = last_has (λ (x : Rest). (map deque_id x.deques.items ≡ map worker_deque c.args.owners.items) × (map queue_id x.queues.items ≡ map keeper_queue c.args.keepers.now.items)) c.loop-own.rests.items c.pop.new.self.items c.in-Some-pop.rest c.in-Some-pop.ensures.items c.loop-own.invariant.rests in
    let b = ap length r.0 in let l = long_map deque_id c.in-Some-pop.rest.deques.items in let m = long_map worker_deque c.args.owners.items in let n = c.requires.few in omega arith

pub new_hand-requires-clause-home : goal.new_hand-requires-clause-home
new_hand-requires-clause-home c =
    let r = last_has (λ (x : Rest). (map deque_id x.deques.items ≡ map worker_deque c.args.owners.items) × (map queue_id x.queues.items ≡ map keeper_queue c.args.keepers.now.items)) c.loop-own.rests.items c.pop.new.self.items c.in-Some-pop.rest c.in-Some-pop.ensures.items c.loop-own.invariant.rests in
    let b = ap length r.1 in let l = long_map queue_id c.in-Some-pop.rest.queues.items in let m = long_map keeper_queue c.args.keepers.now.items in
    let i = inside c.args.owners.items _ c.in-Some.own (at_next owner_of c.loop-own.hands.items c.args.owners.items _ c.in-Some.own _ c.loop-own.invariant.owners c.in-Some.ensures.items) in
    let q = c.requires.queues in let below : c.len.result < length c.args.keepers.now.items * c.args.workers = omega (arith, c.len.ensures, c.loop-own.hands.ok.0) in
    let d = div_below c.len.result c.args.workers (length c.args.keepers.now.items) c.requires.workers below in
    let same : length c.args.keepers.now.items ≡ length c.in-Some-pop.rest.queues.items = omega arith in
    subst (λ n. c.len.result / c.args.workers < n) same d

pub new_hand-requires-clause-fresh : goal.new_hand-requires-clause-fresh
new_hand-requires-clause-fresh c = let e = c.requires.fresh _ c.in-Some.own (at_next owner_of c.loop-own.hands.items c.args.owners.items _ c.in-Some.own _ c.loop-own.invariant.owners c.in-Some.ensures.items) in (ap (λ (u : Account). u.put) e, ap (λ (u : Account). u.taken) e)

pub new_hand-requires-clause-unused : goal.new_hand-requires-clause-unused
new_hand-requires-clause-unused c = λ h. last_has (Unused h) c.loop-own.rests.items c.pop.new.self.items c.in-Some-pop.rest c.in-Some-pop.ensures.items (c.loop-own.invariant.unused h)

pub loop-own-preserved : goal.loop-own-preserved
loop-own-preserved c = let i = c.loop-own.invariant in let y = c.new_hand.result in
    let r = last_has (λ (x : Rest). (map deque_id x.deques.items ≡ map worker_deque c.args.owners.items) × (map queue_id x.queues.items ≡ map keeper_queue c.args.keepers.now.items)) c.loop-own.rests.items c.pop.new.self.items c.in-Some-pop.rest c.in-Some-pop.ensures.items i.rests in
    let count : c.len.result ≡ length c.loop-own.hands.items = omega (arith, c.len.ensures, c.loop-own.hands.ok.0) in
    record {
      owners = moved owner_of c.push.new.self.items c.loop-own.hands.items y c.args.owners.items _ c.in-Some.own _ i.owners c.in-Some.ensures.items c.in_ok-push.ensures.items c.new_hand.ensures.own;
      long = let a = ap length c.in-Some-pop.ensures.items in let p = length-append c.pop.new.self.items (c.in-Some-pop.rest ∷ []) in let b = ap length c.in-Some.ensures.items in let l = i.long in omega arith;
      rests = front_has (λ (x : Rest). (map deque_id x.deques.items ≡ map worker_deque c.args.owners.items) × (map queue_id x.queues.items ≡ map keeper_queue c.args.keepers.now.items)) c.loop-own.rests.items c.pop.new.self.items c.in-Some-pop.rest c.in-Some-pop.ensures.items i.rests;
      unused = λ h. front_has (Unused h) c.loop-own.rests.items c.pop.new.self.items c.in-Some-pop.rest c.in-Some-pop.ensures.items (i.unused h);
      have = every_end (λ (x : Hand). (map deque_id x.reach.deques.items ≡ map worker_deque c.args.owners.items) × (map queue_id x.reach.queues.items ≡ map keeper_queue c.args.keepers.now.items)) c.push.new.self.items c.loop-own.hands.items y c.in_ok-push.ensures.items
          (ap (λ (x : Rest). map deque_id x.deques.items) c.new_hand.ensures.rest ∙ r.0, ap (λ (x : Rest). map queue_id x.queues.items) c.new_hand.ensures.rest ∙ r.1) i.have;
      none = λ h. none_end h c.push.new.self.items c.loop-own.hands.items y c.in_ok-push.ensures.items (c.new_hand.ensures.none h) (i.none h);
      homes = homes_end c.args.workers c.push.new.self.items c.loop-own.hands.items y c.in_ok-push.ensures.items (c.new_hand.ensures.home ∙ ap (λ n. n / c.args.workers) count) i.homes;
    }
