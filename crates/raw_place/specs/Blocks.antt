-- What the owner of a block holds before a value is written.
use base.Fml.{Fml}
use denote.Memory.{lone}
use denote.RattleType.{RattleType}
use denote.RawPtr.{Ptr}
use mir.Raw.{raw}
use mir.Syntax.{Ty}
use Rattle.std.specs.Allocator.{owned_block}

-- the memory of one value of R at p, whatever is there, and the right `frees` to give the block back
abbrev pub room_owns : (Ty → Ptr → Fml) → RattleType → Ptr → Fml
room_owns frees R p = owned_block frees (raw (lone R.mir)) p
