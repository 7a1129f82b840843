-- Where a pointer leads is a fact, which every `&` has.
use denote.Param.Laws.{Laws}
use denote.Param.Shared.{copy_shared}
use denote.RattleType.{RattleType}
use denote.SharingLaws.{said_shr_laws}
use denote.Struct.Field.{RawPtr-field}
use denote.Struct.Laws.{RawPtr-copy}
use denote.Struct.Lending.{Lends-said, of_Lends}
use Rattle.raw_place.specs.Ways.{leads}
use Rattle.raw_place.specs.contracts.row.Pointer as C
use Rattle.raw_place.proofs.row.Pointer.TheLaw.Statement.{statement}

pub shares : (T : RattleType) (L : Laws T) → statement T L
shares T L = of_Lends (C.struct T) (C.the_codes T.Denot T.coded) (C.the_heap T) (C.the_lent T)
    (λ d p. said_shr_laws (leads T d.first d.number d.at) tt) (copy_shared RawPtr-field RawPtr-copy, tt)
    (λ M 𝓤 𝓛 d p. Lends-said 𝓛 (leads T d.first d.number d.at) tt (C.the_row T).lives)
