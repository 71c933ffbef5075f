use Rattle.std.proofs.Common.{◌≡◌, ◌+◌, ◌*◌, ◌<◌, ◌≤◌, length, map, ap, sym, ◌∙◌, arith}
use Rattle.std.proofs.lemmas.Nat.{mul-le}
use Rattle.crossbeam_deque.specs.Handles.{worker_deque}
use Rattle.pyd_pool.specs.declared.account.Account.{Account}
use Rattle.pyd_pool.specs.Ends.{owner_of}
use Rattle.pyd_pool.proofs.Apart.{long_map, map_map}
use Rattle.pyd_pool.proofs.making.make.Goals as goal

pub new_hands-requires-clause-rests : goal.new_hands-requires-clause-rests
new_hands-requires-clause-rests c = let s = c.in_ok-rests.ensures.same in
    λ k x e. let r = c.in_ok-rests.ensures.rests.1 k x e in (r.0 ∙ sym s.0, r.1 ∙ sym s.1)

-- a hand for each deque
all_made : (c : goal.In_ok-hands) → length c.in_ok-hands.hands.items ≡ c.args.machines * c.args.workers
all_made c = sym (long_map owner_of c.in_ok-hands.hands.items) ∙ ap length c.in_ok-hands.ensures.owners
    ∙ sym (long_map worker_deque c.new_rests.new.owners.items) ∙ ap length c.in_ok-rests.ensures.same.0
    ∙ long_map worker_deque c.in_ok-owners.owners.items ∙ c.in_ok-owners.ensures.long

pub returns-clause-hands : goal.returns-clause-hands
returns-clause-hands c = let s = c.in_ok-rests.ensures.same in let n = all_made c in
    let m = c.requires.machines in let w = c.requires.workers in
    let least = mul-le 1 1 c.args.machines c.args.workers m.0 w.0 in
    let most = mul-le c.args.machines c.args.workers 16 4 m.1 w.1 in
    let to = s.0 ∙ sym c.in_ok-stealers.ensures in (
      sym (map_map c.in_ok-hands.hands.items) ∙ ap (map worker_deque) c.in_ok-hands.ensures.owners ∙ to,
      omega arith,
      omega arith,
      (λ k x e. let r = c.in_ok-hands.ensures.rests k x e in (r.0 ∙ to, r.1)),
      (λ k x e. let a = c.in_ok-rests.ensures.logs.1 k x e in let p = ap (λ (u : Account). u.parts) a in
          (omega arith, ap (λ (u : Account). u.put) a, ap (λ (u : Account). u.taken) a)),
    )

pub returns-clause-count : goal.returns-clause-count
returns-clause-count c = all_made c
