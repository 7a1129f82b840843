-- A row may hold the type that holds it, as a vector may.
use denote.Hole.Carrier.{listed}
use denote.HoleLaws.{Alike}
use denote.HolePlaces.{Recodes}
use denote.Param.Weighed.{Weighed, w_via}
use denote.RattleType.{RattleType}
use mathlib.Core.Former.{Former, children, this, via}
use mathlib.Core.List.{List}
use mathlib.Core.Path.{◌≡◌, refl}
use Rattle.raw_place.specs.Vectors.{as_row, as_vec}
use Rattle.raw_place.specs.contracts.row.Row.{the_row}
use Rattle.raw_place.specs.declared.row.Row.{Row}
use Rattle.std.specs.declared.alloc.Allocator.{Ghosts}
use Rattle.std.specs.formers.vec.Vec as vec

abbrev pub the_former : Former {0} → Type 0 → Former {0}
the_former g Heap = via (vec.the_former g Heap) (λ X. Row (g.Of X) Heap) (λ X. as_vec) (λ X. as_row) (λ X row. refl) (λ X listed. refl)

abbrev pub the_weighed : {g : Former {0}} → Weighed g → (Heap : Type 0) → Weighed (the_former g Heap)
the_weighed {g} weighed Heap = w_via (vec.the_weighed weighed Heap) (λ X. Row (g.Of X) Heap) (λ X. as_vec) (λ X. as_row) (λ X row. refl) (λ X listed. refl)

abbrev pub the_items : (Heap X : Type 0) → Row X Heap → List X
the_items Heap X row = row.items

pub the_items_listed : (Heap X : Type 0) (row : Row X Heap) → listed _ (children (the_former this Heap) X row) ≡ the_items Heap X row
the_items_listed Heap X row = vec.the_items_listed Heap X (as_vec row)

pub the_empty : (Heap : Type 0) → Heap → Row ⊥ Heap
the_empty Heap heap = as_row (vec.the_empty Heap heap)

module _ (A : RattleType) (g : Ghosts A.Denot) (T S : RattleType) (h : T.Denot → S.Denot) where
  pub the_places : Alike T S h → Alike (the_row T A g) (the_row S A g) ((the_former this A.Denot).map T.Denot S.Denot h)
  the_places same = let listed = vec.the_places A g T S h same in record {
    mir_same = refl;
    own_same = λ row i. listed.own_same (as_vec row) i;
    shr_same = λ row i. listed.shr_same (as_vec row) i;
  }

  pub the_codes_placed : Recodes T S h → Recodes (the_row T A g) (the_row S A g) ((the_former this A.Denot).map T.Denot S.Denot h)
  the_codes_placed recodes row = vec.the_codes_placed A g T S h recodes (as_vec row)
