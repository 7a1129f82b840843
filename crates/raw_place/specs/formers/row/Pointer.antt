-- A pointer has no value of the type that it leads to.
use base.Fml.{ftrue}
use base.Stored.{gnil}
use denote.HoleLaws.{Alike}
use denote.HolePlaces.{Recodes, one_value}
use denote.Param.Weighed.{Weighed, w_const, w_via}
use denote.RattleType.{RattleType}
use denote.RawPtr.{Ptr, null_ptr}
use denote.Sharing.{nothing}
use mathlib.Core.Former.{Former, const, this, via}
use mathlib.Core.Path.{refl}
use Prim.Native.Nat.{ℕ}
use Rattle.raw_place.specs.contracts.row.Pointer.{the_row}
use Rattle.raw_place.specs.declared.row.Pointer.{Pointer}

abbrev pub the_former : Former {0} → Former {0}
the_former g = via (const (Ptr × (Ptr × ℕ))) (λ X. Pointer (g.Of X)) (λ X p. (p.at, (p.first, p.number)))
    (λ X v. record { at = v.0; first = v.1.0; number = v.1.1 }) (λ X p. refl) (λ X v. refl)

abbrev pub the_weighed : {g : Former {0}} → Weighed g → Weighed (the_former g)
the_weighed {g} weighed = w_via (w_const (Ptr × (Ptr × ℕ))) (λ X. Pointer (g.Of X)) (λ X p. (p.at, (p.first, p.number)))
    (λ X v. record { at = v.0; first = v.1.0; number = v.1.1 }) (λ X p. refl) (λ X v. refl)

pub the_empty : Pointer ⊥
the_empty = record { at = null_ptr; first = null_ptr; number = 0 }

abbrev bare : {X : Type 0} → Pointer X → Pointer (Unit {0})
bare p = record { at = p.at; first = p.first; number = p.number }

module _ (R S : RattleType) (h : R.Denot → S.Denot) where
  pub the_places : Alike R S h → Alike (the_row R) (the_row S) ((the_former this).map R.Denot S.Denot h)
  the_places a =
      record {
        mir_same = refl;
        own_same = λ p i. (the_row (one_value R (a.mir_same i) (λ _. ftrue) (λ _ _. nothing) gnil)).own_val (bare p);
        shr_same = λ p i. (the_row (one_value R (a.mir_same i) (λ _. ftrue) (λ _ _. nothing) gnil)).shr_at (bare p);
      }

  pub the_codes_placed : Recodes R S h → Recodes (the_row R) (the_row S) ((the_former this).map R.Denot S.Denot h)
  the_codes_placed recodes p = refl
