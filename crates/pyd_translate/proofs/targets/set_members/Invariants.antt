use Rattle.std.proofs.Common.{◌≡◌, drop}
use Rattle.pyd_translate.specs.Flows.{slots_in}
use Rattle.pyd_translate.specs.Statements.{set_members}
use Rattle.pyd_translate.proofs.targets.set_members.Given as goal

abbrev pub invariant-loop-name : goal.invariant-loop-name
invariant-loop-name l =
    set_members (slots_in l.at) l.env.items l.id l.port (drop l.name-index l.names)
    ≡ set_members (slots_in l.at) l.initial.env.items l.id 0 l.names
