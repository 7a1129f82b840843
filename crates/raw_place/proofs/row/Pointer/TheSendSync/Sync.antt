-- A `&` to a pointer holds the pointer and a fact.
use denote.Param.Send.{IsSync, cell_keyless}
use denote.RattleType.{RattleType}
use mathlib.Core.List.{[], ◌∷◌}
use mir.Raw.{raw}
use mir.Syntax.{ty_ptr}
use Prim.Native.Nat.{◌+◌}
use Rattle.raw_place.specs.contracts.row.Pointer.{the_row}

pub sync : (T : RattleType) → IsSync T → IsSync (the_row T)
sync T of_value =
    record { shared = λ p b o κ. ((((λ words. (tt, λ q. cell_keyless q (raw ty_ptr ∷ []) words b (o + 0))), tt), λ q. tt), tt) }
