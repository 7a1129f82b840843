use Rattle.std.proofs.Common.{subst, sym}
use Rattle.field_codec.specs.TextColumns.{AreAllowed, AreProper}
use Rattle.pipe_top.proofs.Flat.{proper-kinds}
use Rattle.pipe_top.proofs.ahead.source_ahead.Goals as goal

pub clone_columns-requires : goal.clone_columns-requires
clone_columns-requires g c = proper-kinds c.args.columns.now c.requires.proper

pub start-requires-clause-proper : goal.start-requires-clause-proper
start-requires-clause-proper g c = subst AreProper (sym c.in_ok-columns.ensures) c.requires.proper

pub start-requires-clause-allowed : goal.start-requires-clause-allowed
start-requires-clause-allowed g c = subst AreAllowed (sym c.in_ok-columns.ensures) c.requires.allowed
