use Rattle.std.proofs.Common.{◌≡◌, ap, arith}
use Rattle.pyd_pool.specs.Accounts.{weigh}
use Rattle.pyd_pool.proofs.Apart.{closes_rests, closes_fifo, closes_parts, closes}
use Rattle.pyd_pool.proofs.pool.Pool.close.Goals as goal

pub gather-requires-clause-rests : goal.gather-requires-clause-rests
gather-requires-clause-rests g c = closes_rests c.args.self c.args.hands.items c.part.new.owners.items c.part.new.rests.items c.part.ensures.owners c.part.ensures.rests c.requires

pub gather-requires-clause-fifo : goal.gather-requires-clause-fifo
gather-requires-clause-fifo g c = closes_fifo c.args.self c.args.hands.items c.part.new.owners.items c.part.new.rests.items c.part.ensures.owners c.part.ensures.rests c.requires

pub gather-requires-clause-parts : goal.gather-requires-clause-parts
gather-requires-clause-parts g c = closes_parts c.args.self c.args.hands.items c.part.new.owners.items c.part.new.rests.items c.part.ensures.owners c.part.ensures.rests c.requires

pub returns-clause-whole : goal.returns-clause-whole
returns-clause-whole g c = λ h. closes c.args.self c.args.hands.items c.part.new.owners.items c.part.new.rests.items c.part.ensures.owners c.part.ensures.rests c.requires h _ _ (ap (weigh h) c.in-Ok.ensures.items) (c.gather.ensures h)
