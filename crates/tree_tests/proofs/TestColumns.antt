-- Small columns that tests make by hand.
use Rattle.std.proofs.Common.{◌≡◌, ℕ, ◌^◌, ◌<◌, ◌≤◌, ℤ, pos, negsuc, Bool, true, false, List, [], length, refl, arith, Option, None, Some}
use Rattle.std.specs.List.{AllByRecursion}
use Rattle.std.proofs.lemmas.Int.{ints}
use Rattle.std.proofs.lemmas.List.Elements.{All-from_recursion}
use Rattle.std.proofs.lemmas.Bool.{lt-ltb}
use Rattle.std.specs.Prelude.{◌≤ℤ◌, if◌then◌else◌, nat_lt}
use Rattle.tree_model.specs.promise.TreeParts.{IsLive}
use Rattle.tree_model.specs.promise.TreeData.{Released, Live}
use Rattle.raw_array.specs.promise.Members.{ArrayTree, members_of}
use Rattle.layout_rules.specs.promise.Layout.{natural}
use Rattle.layout_rules.specs.promise.Values.{tree_items}
use Rattle.data_types.specs.promise.FieldText.{Form, form_of}
use Rattle.data_types.specs.Kinds.{KindOk}
use Rattle.data_types.specs.promise.Value.{Value}
use Rattle.data_types.specs.declared.kind.DataType.{DataType}
use Rattle.col_build.specs.promise.Encoding.{are_within, is_by_offsets, is_wide}
use Rattle.data_types.specs.promise.Value.{byte_total}
use Rattle.col_build.specs.Encoding.{Fits, HasForm, are_bounded, push_fault}

within-by : (by_offsets : Bool) (total : ℕ) → total < 2 ^ 31 → (if by_offsets then nat_lt total (2 ^ 31) else true) ≡ true
within-by true total small = lt-ltb total (2 ^ 31) small
within-by false total small = refl

-- few bytes are reached by any offsets
reached : (wide : Bool) (form : Option Form) (total : ℕ) → total < 2 ^ 31 → are_within wide form total ≡ true
reached wide None total small = refl
reached true (Some form) total small = refl
reached false (Some form) total small = within-by (is_by_offsets form) total small

bounded-if : (by_offsets : Bool) (total : ℕ) → total < 2 ^ 63 → (if by_offsets then nat_lt total (2 ^ 63) else true) ≡ true
bounded-if true total small = lt-ltb total (2 ^ 63) small
bounded-if false total small = refl

bounded-by : (form : Option Form) (total : ℕ) → total < 2 ^ 63 → are_bounded form total ≡ true
bounded-by None total small = refl
bounded-by (Some form) total small = bounded-if (is_by_offsets form) total small

pub fitting : (kind : DataType) (values : List Value) → KindOk kind → HasForm (form_of kind) → length values ≤ 2 ^ 40
    → AllByRecursion (λ value. push_fault kind [] value ≡ None) values → byte_total values < 2 ^ 31 → Fits kind values
fitting kind values ok form few each small = record {
  kind_ok = ok;
  flat = form;
  few = few;
  each = All-from_recursion (λ value. push_fault kind [] value ≡ None) values each;
  small = reached (is_wide kind) (form_of kind) (byte_total values) small;
  bounded = bounded-by (form_of kind) (byte_total values) (omega (arith, small));
}

-- a live array of some length has this many items
pub items-of : (array : ArrayTree) (n : ℕ) → IsLive array → pos n ≤ℤ (members_of array).length → n ≤ tree_items array
items-of Released n live le = absurd live
items-of (Live own children dictionary) n live le = by own.length le
  where
    by : (length : ℤ) → pos n ≤ℤ length → n ≤ natural length
    by (pos m) h = omega (arith, ints)
    by (negsuc m) h = absurd (omega (arith, ints))
