use Rattle.std.proofs.Common.{◌≡◌, ◌+◌, ◌-◌, ℕ, List, [], ◌∷◌, ◌++◌, length, map, sym, refl, ap, ◌∙◌, arith, length-append}
use Rattle.crossbeam_deque.specs.Handles.{worker_deque}
use Rattle.pyd_pool.specs.declared.pool.Rest.{Rest}
use Rattle.pyd_pool.specs.Hands.{deque_id, queue_id}
use Rattle.pyd_pool.specs.Ends.{keeper_queue}
use Rattle.pyd_pool.proofs.Merging.{last_has, front_has, rests_put_pop, rests_taken_pop}
use Rattle.pyd_pool.proofs.closing.gather.Goals as goal

pub loop-rest-init : goal.loop-rest-init
loop-rest-init g c = let a = c.requires.fits.0 in let b = c.requires.fits.1 in let n : 128 - c.len.result + length c.args.rests.items ≡ 128 = omega (arith, c.args.rests.ok.0) in let have = c.requires.parts (128 - c.len.result) n in record {
  count = n;
  more = omega (arith, c.args.rests.ok.0);
  rests = c.requires.rests;
  owners = refl;
  keepers = refl;
  fifo = c.requires.fifo;
  owner_parts = have.0;
  keeper_parts = have.1;
  put = λ h. refl;
  taken = λ h. refl;
}

pub join_deques-requires-clause-is : goal.join_deques-requires-clause-is
join_deques-requires-clause-is g c = let r = last_has (λ (x : Rest). (map deque_id x.deques.items ≡ map worker_deque c.args.owners.items) × (map queue_id x.queues.items ≡ map keeper_queue c.args.keepers.items)) c.loop-rest.rests.items c.pop.new.self.items c.in-Some.rest c.in-Some.ensures.items c.loop-rest.invariant.rests in r.0 ∙ sym c.loop-rest.invariant.owners

pub join_queues-requires-clause-is : goal.join_queues-requires-clause-is
join_queues-requires-clause-is g c = let r = last_has (λ (x : Rest). (map deque_id x.deques.items ≡ map worker_deque c.args.owners.items) × (map queue_id x.queues.items ≡ map keeper_queue c.args.keepers.items)) c.loop-rest.rests.items c.pop.new.self.items c.in-Some.rest c.in-Some.ensures.items c.loop-rest.invariant.rests in r.1 ∙ sym c.loop-rest.invariant.keepers

pub loop-rest-preserved : goal.loop-rest-preserved
loop-rest-preserved g c = record {
  count = let n = ap (λ (l : List Rest). length l) c.in-Some.ensures.items in let m = length-append c.pop.new.self.items (c.in-Some.rest ∷ []) in let o = c.loop-rest.invariant.count in omega arith;
  more = let o = c.loop-rest.invariant.more in omega arith;
  rests = front_has (λ (x : Rest). (map deque_id x.deques.items ≡ map worker_deque c.args.owners.items) × (map queue_id x.queues.items ≡ map keeper_queue c.args.keepers.items)) c.loop-rest.rests.items c.pop.new.self.items c.in-Some.rest c.in-Some.ensures.items c.loop-rest.invariant.rests;
  owners = c.join_deques.ensures.same ∙ c.loop-rest.invariant.owners;
  keepers = c.join_queues.ensures.same ∙ c.loop-rest.invariant.keepers;
  fifo = c.join_deques.ensures.fifo;
  owner_parts = c.join_deques.ensures.parts;
  keeper_parts = c.join_queues.ensures.parts;
  put = λ h. let p = rests_put_pop h c.loop-rest.rests.items c.pop.new.self.items c.in-Some.rest c.in-Some.ensures.items in let a = c.join_deques.ensures.put h in let b = c.join_queues.ensures.put h in let o = c.loop-rest.invariant.put h in omega arith;
  taken = λ h. let p = rests_taken_pop h c.loop-rest.rests.items c.pop.new.self.items c.in-Some.rest c.in-Some.ensures.items in let a = c.join_deques.ensures.taken h in let b = c.join_queues.ensures.taken h in let o = c.loop-rest.invariant.taken h in omega arith;
}
