use Rattle.std.proofs.Common.{subst, sym}
use Rattle.col_build.specs.Holding.{HoldsSome}
use Rattle.csv_read.proofs.body_columns.note_used.Goals as goal

pub used-items-requires : goal.used-items-requires
used-items-requires c = record {
  holds = subst HoldsSome (sym c.index-builders-j.is) (c.requires.held c.loop-j.j c.index-builders-j.result c.loop-j-test.true);
}
