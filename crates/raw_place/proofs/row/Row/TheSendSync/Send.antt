-- A row owns what a vector owns, and a vector may be sent. At its end a row leaves what its handle does.
use denote.Exit.{Exit, hidden, leaves, pair, unchanged, under}
use denote.Param.Send.{Frees, IsSend, Quiet, sendable}
use denote.RattleType.{RattleType}
use Rattle.raw_place.specs.Vectors.{as_vec}
use Rattle.raw_place.specs.contracts.row.Row.{the_row}
use Rattle.std.proofs.CrossingOver.{crosses}
use Rattle.std.specs.contracts.vec.Vec as vec
use Rattle.std.specs.declared.alloc.Allocator.{Ghosts}

as_handle : {Row At Len Room Heap : Type 0} (fields : Row → At × (Len × (Room × (Heap × Unit {0})))) (e : Exit Heap) → Quiet e
    → Quiet (hidden (under fields (pair unchanged (pair unchanged (pair unchanged (pair e unchanged))))))
as_handle fields unchanged calm = λ row last. tt
as_handle fields (leaves Last left Seen seen first) calm = λ row last. (tt, (tt, (tt, (calm (fields row).1.1.1.0 last.1.1.1.0, tt))))

pub send : (T A : RattleType) (g : Ghosts A.Denot) → IsSend T → IsSend A → Frees g g.dealloc_token → IsSend (the_row T A g)
send T A g of_value of_heap frees =
    let listed : IsSend (vec.the_row T A g) = search (sendable, crosses) in
    record {
      owned = λ row. listed.owned (as_vec row);
      leaving = λ kept. as_handle (λ row. (row.at, (row.len, (row.room, (row.heap, tt))))) (A.exit kept) (of_heap.leaving kept);
    }
