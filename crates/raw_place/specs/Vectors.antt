-- A row's fields are a vector's, in their order.
use Rattle.raw_place.specs.declared.row.Row.{Row}
use Rattle.std.specs.declared.vec.Vec.{Vec}

abbrev pub as_vec : {X Z : Type 0} → Row X Z → Vec X Z
as_vec row = record { ptr = row.at; len = row.len; cap = row.room; alloc = row.heap; items = row.items; ok = row.counted; small = row.small }

abbrev pub as_row : {X Z : Type 0} → Vec X Z → Row X Z
as_row vec = record { at = vec.ptr; len = vec.len; room = vec.cap; heap = vec.alloc; items = vec.items; counted = vec.ok; small = vec.small }
