use Rattle.std.proofs.Common.{Some, None, length-set, refl}
use Rattle.pyd_runs.specs.Effects.{kept_by_driver}
use Rattle.pyd_desk.proofs.Numbers.{put_or}
use Rattle.pyd_desk.proofs.Becoming.{becomes, put_shape, with_books}
use Rattle.pyd_desk.proofs.Moving.{done_is}
use Rattle.pyd_desk.proofs.desk.Desk.keep_run.Goals as goal

pub returns-clause-becomes : goal.returns-clause-becomes
returns-clause-becomes c =
    let d = c.args.self.now in
    let k = c.args.node in
    becomes d _ (λ s. kept_by_driver s k c.args.ran)
    (put_shape d _ k _ c.requires.node c.drop_claim.ensures refl
    (length-set d.driver.items k (Some c.args.ran)))
    (λ s i. record (with_books s d) {
      graph = record s.graph {
        driver = put_or d.driver.items k (Some c.args.ran) None c.requires.driver i;
      };
      desk = done_is d c.drop_claim.new.marks.items k c.requires.node c.requires.claimed
          c.drop_claim.ensures i;
    })
