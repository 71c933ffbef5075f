use Rattle.std.proofs.Common.{[]}
use Rattle.std.proofs.lemmas.List.Elements.{All-head}
use Rattle.pyd_board.specs.declared.kept.RunName.{RunName}
use Rattle.pyd_boards.specs.Boards.{IsSeatIn}
use Rattle.pyd_cluster.proofs.boarding.ClusterBoard.finish.Goals as goal

pub finish-requires-clause-who : goal.finish-requires-clause-who
finish-requires-clause-who g c =
    All-head (λ (run : RunName). IsSeatIn run.setup c.args.who) c.args.self.now.keeper.run []
    c.requires.who
