-- Values with the pointers to them may hold the type that holds them, as a list may. The pointers hold none.
use base.Stored.{Coded-set, code_map, coded_list, coded_ℕ, coded×}
use denote.Hole.Carrier.{list-listed, listed}
use denote.Hole.Fix.{over}
use denote.HoleLaws.{Alike}
use denote.HolePlaces.{Recodes, laid, struct_places}
use denote.Model.Placed.{Held, held, view_places}
use denote.Param.Weighed.{Weighed, w_list}
use denote.RattleType.{RattleType}
use denote.RawPtr.{coded_ptr}
use mathlib.Core.Former.{Former, children, list, list_count, list_put, none_left, pair, this, via}
use mathlib.Core.List.{List, [], ◌∷◌, map}
use mathlib.Core.Path.{◌≡◌, ap, refl, sym, ◌∙◌}
use Rattle.raw_place.specs.Led.{way}
use Rattle.raw_place.specs.contracts.pointed.Pointed as C
use Rattle.raw_place.specs.contracts.pointed.Pointed.TheInside as I
use Rattle.raw_place.specs.contracts.row.Pointer.{the_row}
use Rattle.raw_place.specs.declared.pointed.Pointed.TheInside.{Inside}
use Rattle.raw_place.specs.declared.pointed.Pointed.TheView.{invariant, view}
use Rattle.raw_place.specs.declared.row.Pointer.{Pointer}
use Rattle.raw_place.specs.formers.row.Pointer as pointer
use Rattle.raw_place.specs.formers.row.Row as row
use Rattle.std.specs.contracts.alloc.Global as heap
use Rattle.std.specs.contracts.impls.GlobalAllocator.TheImpl.{ghosts}
use Rattle.std.specs.declared.alloc.Global.{Global}
use Rattle.std.specs.formers.vec.Vec as vec

abbrev pub the_former : Former {0} → Former {0}
the_former g = list g

abbrev pub the_weighed : {g : Former {0}} → Weighed g → Weighed (the_former g)
the_weighed weighed = w_list weighed

pub the_empty : List ⊥
the_empty = []

abbrev pub the_items : (X : Type 0) → List X → List X
the_items X values = values

pub the_items_listed : (X : Type 0) (values : List X) → listed _ (children (the_former this) X values) ≡ the_items X values
the_items_listed X values = list-listed X values

-- ---- the fields: the pointers hold no value
abbrev fields : Former {0}
fields = via (pair (vec.the_former this Global) (row.the_former (pointer.the_former this) Global)) Inside (λ X a. (a.values, a.pointers))
    (λ X v. record { values = v.0; pointers = v.1 }) (λ X a. refl) (λ X v. refl)

none_held : (X : Type 0) (ps : List (Pointer X))
    → ◌≡◌ {A = Held X} (none_left, tt) (list_count (pointer.the_former this) (map ((pointer.the_former this).shape X) ps) none_left, list_put (pointer.the_former this) X ps none_left tt)
none_held X [] = refl
none_held X (p ∷ ps) = none_held X ps

all_held : (X : Type 0) (a : Inside X) → held (list this) X (view X a) ≡ held fields X a
all_held X a =
    ap (λ (w : Held X). (list_count this (map (λ x. this.shape X x) a.values.items) w.0, list_put this X a.values.items w.0 w.1))
    (none_held X a.pointers.items)

module _ {X Y : Type 0} (h : X → Y) where
  ways_stay : (ps : List (Pointer X)) → map way (map ((pointer.the_former this).map X Y h) ps) ≡ map way ps
  ways_stay [] = refl
  ways_stay (p ∷ ps) = ap (λ rest. way p ∷ rest) (ways_stay ps)

module _ (R S : RattleType) (h : R.Denot → S.Denot) where
  pub the_places : Alike R S h → Alike (C.the_row R) (C.the_row S) ((the_former this).map R.Denot S.Denot h)
  the_places a = view_places fields (list this) view (λ X Y k u. refl) all_held R.Denot S.Denot h (C.the_row R).coded (C.the_row S).coded
      (invariant R.Denot) (invariant S.Denot) (λ u. Coded-set (coded_list (coded× coded_ptr coded_ℕ)) _ _)
      (λ u. Coded-set (coded_list (coded× coded_ptr coded_ℕ)) _ _)
      (λ u led. ways_stay h u.pointers.items ∙ led) (λ u led. sym (ways_stay h u.pointers.items) ∙ led)
      (over (I.the_row R)) (over (I.the_row S))
      (struct_places (I.the_type R) (I.the_type S) (vec.mapped h, ((row.the_former (pointer.the_former this) Global).map R.Denot S.Denot h, tt)) _ (λ d. refl) refl (
        laid _ _ _ (vec.the_places heap.the_row ghosts R S h a),
        (
          laid _ _ _ (row.the_places heap.the_row ghosts (the_row R) (the_row S) ((pointer.the_former this).map R.Denot S.Denot h)
              (pointer.the_places R S h a)),
          tt,
        ),
      ))

  pub the_codes_placed : Recodes R S h → Recodes (C.the_row R) (C.the_row S) ((the_former this).map R.Denot S.Denot h)
  the_codes_placed recodes values = sym (code_map R.coded.code S.coded.code h (λ x. sym (recodes x)) values)
