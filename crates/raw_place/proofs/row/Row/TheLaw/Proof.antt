-- A row owns, lies and lends as a Vec does, so a Vec's law is a row's.
use denote.Memory.{part_of}
use denote.Param.Laws.{Laws}
use denote.RattleType.{RattleType}
use Rattle.raw_place.specs.Vectors.{as_vec}
use Rattle.raw_place.proofs.row.Row.TheLaw.Statement.{statement}
use Rattle.std.proofs.vec.Vec.TheLaws.{the_row_laws}
use Rattle.std.specs.declared.alloc.Allocator.{Ghosts}

pub shares : (T A : RattleType) (g : Ghosts A.Denot) (L : Laws T) (K : Laws A) → statement T A g L K
unfolding part_of
shares T A g of_value of_heap = let vec = the_row_laws T A g of_value of_heap in record {
  shares = λ M 𝓤 𝓛 row κ ts b o inc sp. vec.shares 𝓛 (as_vec row) κ ts b o inc sp;
  shr_laws = λ row b o. vec.shr_laws (as_vec row) b o;
}
