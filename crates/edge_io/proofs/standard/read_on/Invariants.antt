use Rattle.std.proofs.Common.{◌≡◌, length}
use Rattle.std.specs.Io.KnownBytes.{Keeps}
use Rattle.edge_io.proofs.standard.read_on.Given as goal

-- the room keeps its length, and an interrupted read gives nothing
abbrev pub invariant-loop : goal.invariant-loop
invariant-loop g l = record {
  room : length l.room ≡ length l.initial.room;
  kept : Keeps (g.R.Read.remaining l.initial.reader) (g.R.Read.remaining l.reader);
}
