-- A spot while its value is lent.
use base.Fml.{Fml}
use denote.Follow.{follows}
use denote.RattleType.{RattleType}
use denote.Ref.{MutBor}
use Rattle.raw_place.specs.contracts.spot.Spot as spot
use Rattle.raw_place.specs.declared.spot.Spot.{Spot}
use Rattle.std.specs.declared.alloc.Allocator.{Ghosts}

-- the spot with another value in it
abbrev pub refilled : {X Z : Type 0} → Spot X Z → X → Spot X Z
refilled spot other = record { at = spot.at; heap = spot.heap; value = other }

-- when the borrow `lent` ends, the spot holds what was last written through it
abbrev pub spot_follows : (T A : RattleType) (g : Ghosts A.Denot) → MutBor (Spot T.Denot A.Denot) → MutBor T.Denot → Fml
spot_follows T A g s lent = follows (spot.the_row T A g) T s.ghost_name lent.ghost_name (refilled s.now)
