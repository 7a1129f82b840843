-- A `&` to a row holds what a `&` to a vector holds.
use denote.Param.Send.{IsSync, sendable}
use denote.RattleType.{RattleType}
use Rattle.raw_place.specs.Vectors.{as_vec}
use Rattle.raw_place.specs.contracts.row.Row.{the_row}
use Rattle.std.proofs.CrossingOver.{crosses}
use Rattle.std.specs.contracts.vec.Vec as vec
use Rattle.std.specs.declared.alloc.Allocator.{Ghosts}

pub sync : (T A : RattleType) (g : Ghosts A.Denot) → IsSync T → IsSync A → IsSync (the_row T A g)
sync T A g of_value of_heap =
    let listed : IsSync (vec.the_row T A g) = search (sendable, crosses) in
    record { shared = λ row. listed.shared (as_vec row) }
