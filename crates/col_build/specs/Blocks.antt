-- The blocks that a builder's buffers are moved into.
use Rattle.std.specs.Prelude.{◌≡◌, ◌≢◌, ◌≤◌, ℕ, Bool, List, [], ◌∷◌, ◌++◌, length, Option, Vec, vec_capacity}
use Rattle.std.specs.Global.{Global}
use Rattle.buf_block.specs.declared.hold.BufView.{BufView}
use Rattle.col_build.specs.Finished.{AreMade, IsMade}
use Rattle.col_build.specs.Holding.{HasBytes, HasOffsets}
use Rattle.col_build.specs.declared.builder.Builder.{Builder}

-- whether a buffer of these bytes is there: 1 or 0
abbrev pub count_if : List ℕ → ℕ
count_if [] = 0
count_if (byte ∷ bytes) = 1

-- a buffer of these bytes was added behind others
abbrev pub IsAdded : List (Option BufView) → Option (List ℕ) → List (Option BufView) → Type 0
IsAdded old bytes new = (view : Option BufView) × IsMade view bytes × (new ≡ old ++ view ∷ [])

-- buffers of these bytes were added behind others
abbrev pub AreAdded : List (Option BufView) → List (Option (List ℕ)) → List (Option BufView) → Type 0
AreAdded old buffers new = (views : List (Option BufView)) × AreMade views buffers × (new ≡ old ++ views)

-- the vector can take these bytes, where there are some
abbrev pub CanTake : Vec ℕ Global → List ℕ → Type 0
CanTake spare content = content ≢ [] → (spare.items ≡ []) × (length content ≤ vec_capacity spare)

-- the builder's buffers were moved away, and the rest stayed
pub record IsEmptied (old new : Builder) : Type 0 where
  pub is_kind : new.kind ≡ old.kind
  pub shape : new.shape ≡ old.shape
  pub count : new.count ≡ old.count
  pub nulls : new.nulls ≡ old.nulls
  pub validity : new.validity.items ≡ []
  pub bytes : HasBytes new.shape [] new.offsets.items new.bytes.items

-- two builders with the same bytes
pub record AreSame (old new : Builder) : Type 0 where
  pub is_kind : new.kind ≡ old.kind
  pub shape : new.shape ≡ old.shape
  pub count : new.count ≡ old.count
  pub nulls : new.nulls ≡ old.nulls
  pub validity : new.validity.items ≡ old.validity.items
  pub offsets : new.offsets.items ≡ old.offsets.items
  pub bytes : new.bytes.items ≡ old.bytes.items

-- and with the offsets of these items
pub record AreSameBut (wide : Bool) (items : List (List ℕ)) (old new : Builder) : Type 0 where
  pub is_kind : new.kind ≡ old.kind
  pub shape : new.shape ≡ old.shape
  pub count : new.count ≡ old.count
  pub nulls : new.nulls ≡ old.nulls
  pub validity : new.validity.items ≡ old.validity.items
  pub offsets : HasOffsets wide items new.offsets.items
  pub bytes : new.bytes.items ≡ old.bytes.items
