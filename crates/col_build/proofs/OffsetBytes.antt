-- Offsets in bytes, with one more item.
use Rattle.std.proofs.Common.{◌≡◌, ◌≢◌, ◌∙◌, ◌+◌, ◌++◌, ℕ, Bool, true, false, List, [], ◌∷◌, length, refl, sym, ap, arith, add-zero, length-append}
use Rattle.std.proofs.Common.{append_assoc, append-nil, inl, inr, subst}
use Rattle.std.proofs.lemmas.Grind.{flat_map-append}
use Rattle.std.proofs.lemmas.List.{map-append}
use Rattle.std.specs.Prelude.{map}
use Rattle.std.specs.List.{concat, flat_map}
use Rattle.data_types.specs.promise.Packed.{le_bytes, offset_width}
use Rattle.data_types.specs.promise.Value.{Value, bytes_of}
use Rattle.col_build.specs.promise.Encoding.{ends}
use Rattle.col_build.specs.Encoding.{offset_bytes}
use Rattle.col_build.specs.Holding.{HasOffsets}

ends-push : (at : ℕ) (items : List (List ℕ)) (item : List ℕ) → ends at (items ++ item ∷ []) ≡ ends at items ++ (at + length (concat items) + length item) ∷ []
ends-push at [] item = rw add-zero refl
ends-push at (first ∷ items) item =
    let size : at + length first + length (concat items) + length item
    ≡ at + length (first ++ concat items) + length item = omega (arith, length-append first (concat items)) in
    ap (λ ns. at ∷ ns) (ends-push (at + length first) items item ∙ ap (λ n. ends (at + length first) items ++ n ∷ []) size)

pub concat-push : (items : List (List ℕ)) (item : List ℕ) → concat (items ++ item ∷ []) ≡ concat items ++ item
concat-push [] item = append-nil item
concat-push (first ∷ items) item = ap (λ bytes. first ++ bytes) (concat-push items item) ∙ sym (append_assoc first (concat items) item)

-- the offsets of one more item
pub offsets-push : (wide : Bool) (items : List (List ℕ)) (item : List ℕ) (end : ℕ) → length (concat items) + length item ≡ end
    → offset_bytes wide (items ++ item ∷ []) ≡ offset_bytes wide items ++ le_bytes (offset_width wide) end
offsets-push wide items item end is =
    let size : 0 + length (concat items) + length item ≡ end = omega arith in
    ap (flat_map (le_bytes (offset_width wide))) (ends-push 0 items item ∙ ap (λ n. ends 0 items ++ n ∷ []) size)
    ∙ flat_map-append (le_bytes (offset_width wide)) (ends 0 items) (end ∷ [])
    ∙ ap (λ bytes. offset_bytes wide items ++ bytes) (append-nil (le_bytes (offset_width wide) end))

-- there is always an offset
some : (wide : Bool) (n : ℕ) (rest : List ℕ) → le_bytes (offset_width wide) n ++ rest ≢ []
some true n rest e = cc
some false n rest e = cc

pub offsets-some : (wide : Bool) (items : List (List ℕ)) → offset_bytes wide items ≢ []
offsets-some wide [] = some wide 0 []
offsets-some wide (item ∷ items) = some wide 0 _

-- the first offset
pub offsets-first : (wide : Bool) (items : List (List ℕ)) (old new : List ℕ) → old ≡ [] → new ≡ old ++ le_bytes (offset_width wide) 0
    → HasOffsets wide items old → new ≡ offset_bytes wide items
offsets-first wide items old new none is (inl has) = absurd (offsets-some wide items (sym has ∙ none))
offsets-first wide items old new none is (inr has) =
    is ∙ ap (λ (xs : List ℕ). xs ++ le_bytes (offset_width wide) 0) none ∙ sym (append-nil (le_bytes (offset_width wide) 0))
    ∙ ap (offset_bytes wide) (sym has.1)

-- offsets that are there
pub offsets-there : (wide : Bool) (items : List (List ℕ)) (old : List ℕ) → old ≢ [] → HasOffsets wide items old → old ≡ offset_bytes wide items
offsets-there wide items old some (inl has) = has
offsets-there wide items old some (inr has) = absurd (some has.0)

-- one more value
pub between-push : (wide : Bool) (values : List Value) (value : Value) (item offsets old bytes : List ℕ) → bytes_of value ≡ item
    → HasOffsets wide (map bytes_of values ++ item ∷ []) offsets
    → old ≡ concat (map bytes_of values) → bytes ≡ old ++ item
    → HasOffsets wide (map bytes_of (values ++ value ∷ [])) offsets × (bytes ≡ concat (map bytes_of (values ++ value ∷ [])))
between-push wide values value item offsets old bytes is has were are =
    let more : map bytes_of values ++ item ∷ [] ≡ map bytes_of (values ++ value ∷ []) =
    ap (λ (x : List ℕ). map bytes_of values ++ x ∷ []) (sym is) ∙ sym (map-append bytes_of values (value ∷ [])) in
    let P : List (List ℕ) → Type 0 = λ items. HasOffsets wide items offsets in
    (subst P more has, are ∙ ap (λ (xs : List ℕ). xs ++ item) were ∙ sym (concat-push (map bytes_of values) item) ∙ ap concat more)
