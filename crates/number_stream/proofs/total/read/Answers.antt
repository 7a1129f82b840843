use Rattle.std.proofs.Common.{arith}
use Rattle.number_stream.proofs.total.read.Goals as goal

pub take-total-requires-clause-room : goal.take-total-requires-clause-room
take-total-requires-clause-room g c = omega (arith, c.in-Ok.ensures.units, c.in-Ok.ensures.few c.requires.lawful, c.requires.room)
