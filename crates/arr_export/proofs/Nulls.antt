-- The validity bitmap of values, and how many of them are null.
use Rattle.std.proofs.Common.{◌≡◌, ◌∙◌, ℕ, zero, suc, ◌+◌, ◌/◌, ◌<◌, ◌≤◌, pos, Bool, true, false, not, List, [], ◌∷◌, ◌++◌, length, map, get_or, take, refl}
use Rattle.std.proofs.Common.{sym, ap, arith, Option, None, Some}
use Rattle.std.specs.Prelude.{if◌then◌else◌, ◌==◌}
use Rattle.std.proofs.lemmas.Bool.{eqb-true}
use Rattle.std.proofs.lemmas.List.{get_or-map, length-map, take_more, take_all}
use Rattle.raw_array.specs.promise.Members.{Buffer, ArrayMembers, bytes_in}
use Rattle.raw_array.specs.declared.array.ReleaseKind.TheVariants.{Exported}
use Rattle.data_types.specs.promise.Value.{Value, Null, Truth}
use Rattle.col_build.specs.promise.Encoding.{bit_value, bit_bytes, null_total, validity_of}
use Rattle.data_types.specs.promise.Value.{is_null}
use Rattle.layout_rules.specs.promise.Layout.{is_valid, is_valid_by}
use Rattle.layout_rules.specs.promise.Rules.{null_total as null_items}
use Rattle.arr_export.specs.promise.ArrayTrees.{made_if}
use Rattle.arr_export.proofs.BitBytes.{bits-of, length-bit_bytes}

-- ---- the validity of each item
-- the members of a column with these values, whatever is behind the validity bitmap
abbrev pub own : List Value → List (Option Buffer) → ArrayMembers
own values rest = record {
  length = pos (length values);
  null_count = pos (null_total values);
  offset = pos 0;
  buffers = made_if (validity_of values) ∷ rest;
  kind = Exported;
}

pub made-back : (bytes : Option (List ℕ)) → bytes_in (made_if bytes) ≡ bytes
made-back None = refl
made-back (Some bytes) = refl

no-null : (values : List Value) (i : ℕ) → i < length values → null_total values ≡ 0 → not (is_null (get_or values i Null)) ≡ true
no-null [] i lt none = absurd (omega arith)
no-null (Null ∷ values) i lt none = absurd (omega arith)
no-null (Truth truth ∷ values) zero lt none = refl
no-null (Truth truth ∷ values) (suc i) lt none = no-null values i (omega arith) none
no-null (value ∷ values) zero lt none = refl
no-null (value ∷ values) (suc i) lt none = no-null values i (omega arith) none

pub flag-back : (flag : Bool) → (bit_value flag == 1) ≡ flag
flag-back true = refl
flag-back false = refl

valid-if : (none : Bool) (values : List Value) (i : ℕ) → i < length values → (none ≡ true → null_total values ≡ 0)
    → is_valid_by (if none then None else Some (bit_bytes (map (λ value. not (is_null value)) values))) i ≡ not (is_null (get_or values i Null))
valid-if true values i lt all = sym (no-null values i lt (all refl))
valid-if false values i lt all =
    let flags = map (λ (value : Value). not (is_null value)) values in
    let size : i < length flags = omega (arith, length-map values (λ (value : Value). not (is_null value))) in
    ap (λ n. n == 1) (bits-of flags i size ∙ ap bit_value (get_or-map (λ (value : Value). not (is_null value)) values i Null false lt))
    ∙ flag-back (not (is_null (get_or values i Null)))

-- an item is valid where it isn't null
pub valid-at : (values : List Value) (rest : List (Option Buffer)) (i : ℕ) → i < length values
    → is_valid (own values rest) i ≡ not (is_null (get_or values i Null))
valid-at values rest i lt =
    let place : 0 + i ≡ i = omega arith in
    ap (λ (validity : Option (List ℕ)). is_valid_by validity (0 + i)) (made-back (validity_of values))
    ∙ ap (is_valid_by (validity_of values)) place
    ∙ valid-if (null_total values == 0) values i lt (eqb-true (null_total values) 0)

-- ---- how many items are null
null_total-push : (values : List Value) (value : Value) → null_total (values ++ value ∷ []) ≡ null_total values + (if not (is_null value) then 0 else 1)
null_total-push [] Null = refl
null_total-push [] (Truth truth) = refl
null_total-push [] value = refl
null_total-push (Null ∷ values) value = omega (arith, null_total-push values value)
null_total-push (Truth truth ∷ values) value = null_total-push values value
null_total-push (other ∷ values) value = null_total-push values value

nulls-upto : (values : List Value) (rest : List (Option Buffer)) (n : ℕ) → n ≤ length values → null_items (own values rest) n ≡ null_total (take n values)
nulls-upto values rest zero le = refl
nulls-upto values rest (suc n) le =
    let step : suc n ≡ n + 1 = omega arith in
    let here = ap {B = ℕ} (λ (valid : Bool). if valid then 0 else 1) (valid-at values rest n (omega arith)) in
    let more = ap null_total (ap (λ k. take k values) step ∙ take_more values n Null (omega arith)) ∙ null_total-push (take n values) (get_or values n Null) in
    omega (arith, nulls-upto values rest n (omega arith), here, more)

-- the bitmap shows as many nulls as there are
pub nulls-are : (values : List Value) (rest : List (Option Buffer)) → null_items (own values rest) (length values) ≡ null_total values
nulls-are values rest = nulls-upto values rest (length values) (omega arith) ∙ ap null_total (take_all (length values) values (omega arith))

-- the bitmap has a bit for each value
pub validity-long : (values : List Value) (validity : List ℕ) → validity_of values ≡ Some validity → (0 + length values + 7) / 8 ≤ length validity
validity-long values validity is = go (null_total values == 0) is
  where
    go : (none : Bool) → (if none then None else Some (bit_bytes (map (λ (value : Value). not (is_null value)) values))) ≡ Some validity
        → (0 + length values + 7) / 8 ≤ length validity
    go true e = cc
    go false e =
        let same : bit_bytes (map (λ (value : Value). not (is_null value)) values) ≡ validity = cc in
        omega (
          arith,
          ap length same,
          length-bit_bytes (map (λ (value : Value). not (is_null value)) values),
          length-map values (λ (value : Value). not (is_null value)),
        )
