use Rattle.std.proofs.Common.{Err, ap, inr, refl}
use Rattle.tree_top.proofs.Carried.{too-many}
use Rattle.tree_top.proofs.carry.read_source.Goals as goal

pub returns-in-Err-TooLong-clause-fault : goal.returns-in-Err-TooLong-clause-fault
returns-in-Err-TooLong-clause-fault g c =
    inr (inr (
      refl,
      too-many (g.S.Source.left c.args.source.now) (g.S.Source.left c.read_all.new.source)
          (c.in-Err-TooLong.ensures.too_long (ap Err c.in-Err-TooLong.field-0-is)),
    ))
