-- What the access to a column's items says of how they are stored.
use Rattle.std.proofs.Common.{◌≡◌, ℕ, Bool, true, false, Option, None, Some, refl, ap}
use Rattle.std.specs.Prelude.{◌==◌, is_some, if◌then◌else◌}
use Rattle.std.proofs.lemmas.Bool.{eqb-true}
use Rattle.data_types.specs.promise.KindTrees.{KindTree}
use Rattle.data_types.specs.declared.storage.Storage.{Storage}
use Rattle.data_types.specs.declared.storage.Storage.TheVariants as storages
use Rattle.arr_import.specs.declared.access.Access.{Access}
use Rattle.arr_import.specs.declared.access.Access.TheVariants.{Truths, Int32, Int64, Int128, Between32, Other}
use Rattle.arr_import.specs.Accesses.{access_of, access_of_bits, IsNumber}
use Rattle.arr_import.specs.StoredItems.{AreBetween}

-- what an access says of the storage, and whether it has a dictionary
abbrev pub Says : Access → Storage → Bool → Type 0
Says Truths s is_index = s ≡ storages.Truths
Says Int32 s is_index = (s ≡ storages.Wholes 32 true) × (is_index ≡ false)
Says Int64 s is_index = (s ≡ storages.Wholes 64 true) × (is_index ≡ false)
Says Int128 s is_index = (s ≡ storages.Wholes 128 true) × (is_index ≡ false)
Says Between32 s is_index = AreBetween false s
Says Other s is_index = Unit {0}

bits-say : (bits : ℕ) → Says (access_of_bits bits) (storages.Wholes bits true) false
bits-say bits = by (bits == 32) (bits == 64) (bits == 128) refl refl refl
  where
    by : (a b c : Bool) → (bits == 32) ≡ a → (bits == 64) ≡ b → (bits == 128) ≡ c
        → Says (if a then Int32 else if b then Int64 else if c then Int128 else Other) (storages.Wholes bits true) false
    by true b c is e f = (ap (λ n. storages.Wholes n true) (eqb-true bits 32 is), refl)
    by false true c e is f = (ap (λ n. storages.Wholes n true) (eqb-true bits 64 is), refl)
    by false false true e f is = (ap (λ n. storages.Wholes n true) (eqb-true bits 128 is), refl)
    by false false false e f g = tt

pub says : (s : Storage) (is_index : Bool) → Says (access_of s is_index) s is_index
says storages.Nothing is_index = tt
says storages.Truths is_index = refl
says (storages.Wholes bits false) is_index = tt
says (storages.Wholes bits true) false = bits-say bits
says (storages.Wholes bits true) true = tt
says (storages.Floats bits) is_index = tt
says (storages.Sized size) is_index = tt
says (storages.Between false text) is_index = refl
says (storages.Between true text) is_index = tt
says (storages.Lists wide) is_index = tt
says (storages.FixedLists size) is_index = tt
says storages.Children is_index = tt
says (storages.Views text) is_index = tt

pub none-behind : (dict : Option KindTree) → is_some dict ≡ false → dict ≡ None
none-behind None h = refl
none-behind (Some dict) h = absurd (cc)

-- a number's access has no dictionary
pub number-own : (a : Access) (s : Storage) (is_index : Bool) → Says a s is_index → IsNumber a → is_index ≡ false
number-own Truths s is_index h n = absurd n
number-own Int32 s is_index h n = h.1
number-own Int64 s is_index h n = h.1
number-own Int128 s is_index h n = h.1
number-own Between32 s is_index h n = absurd n
number-own Other s is_index h n = absurd n
