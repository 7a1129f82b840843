-- A pointer owns nothing, so it may be sent.
use denote.Param.Send.{IsSend, sendable}
use denote.RattleType.{RattleType}
use Rattle.raw_place.specs.contracts.row.Pointer.{the_row}
use Rattle.std.proofs.CrossingOver.{crosses}

pub send : (T : RattleType) → IsSend T → IsSend (the_row T)
send T of_value = search (sendable, crosses)
