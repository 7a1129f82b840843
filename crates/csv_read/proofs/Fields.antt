-- The fields of a record, by their places.
use Rattle.std.proofs.Common.{◌≡◌, ℕ, zero, suc, List, [], ◌∷◌, get_or, Option, Some, None, refl}
use Rattle.csv.specs.Records.{field_at}

some-text : (a b : List ℕ) → ◌≡◌ {A = Option (List ℕ)} (Some a) (Some b) → a ≡ b
some-text a b e = cc

pub field-some : (fields : List (List ℕ)) (i : ℕ) (f : List ℕ) → Some f ≡ field_at fields i → f ≡ get_or fields i []
unfolding field_at
field-some [] i f e = let none : ◌≡◌ {A = Option (List ℕ)} (Some f) None = e in cc
field-some (g ∷ gs) zero f e = some-text f g e
field-some (g ∷ gs) (suc i) f e = field-some gs i f e

pub field-none : (fields : List (List ℕ)) (i : ℕ) → ◌≡◌ {A = Option (List ℕ)} None (field_at fields i) → [] ≡ get_or fields i []
unfolding field_at
field-none [] zero e = refl
field-none [] (suc i) e = refl
field-none (g ∷ gs) zero e = let none : ◌≡◌ {A = Option (List ℕ)} None (Some g) = e in cc
field-none (g ∷ gs) (suc i) e = field-none gs i e
