-- What holds of rows holds of a part of them: of some of the rows, in their order.
use Rattle.std.proofs.Common.{arith, ◌≡◌, ◌≤◌, ◌+◌, List, [], ◌∷◌, length, map, drop, get_or, All, sym, ap, subst, ◌⊎◌, inl, inr}
use Rattle.std.specs.List.{AllByRecursion, concat}
use Rattle.std.proofs.lemmas.List.{length-append}
use Rattle.std.proofs.lemmas.List.Elements.{All-from_recursion, recursion_from_All}
use Rattle.data_types.specs.FieldText.{IsValueOf}
use Rattle.data_types.specs.promise.Parts.{column_values, fields_of, member_columns}
use Rattle.data_types.specs.promise.Table.{Column, Row, Kind, Flat, Dict, Columns as StructOf, Members, no_members, more_members}
use Rattle.data_types.specs.promise.Value.{Value, Null, byte_total, bytes_of}
use Rattle.data_types.specs.declared.kind.DataType.{DataType}
use Rattle.stream_face.specs.Lawful.{AreFieldItems, AreItems, AreValues, HasFields, IsTable}

-- the first list has some items of the second, in their order
abbrev pub IsPart : {A : Type 0} → List A → List A → Type 0
IsPart [] ys = Unit {0}
IsPart (x ∷ xs) [] = ⊥
IsPart (x ∷ xs) (y ∷ ys) = ((x ≡ y) × IsPart xs ys) ⊎ IsPart (x ∷ xs) ys

pub part-length : {A : Type 0} (xs ys : List A) → IsPart xs ys → length xs ≤ length ys
part-length [] ys part = omega arith
part-length (x ∷ xs) [] part = absurd part
part-length (x ∷ xs) (y ∷ ys) (inl part) = let e = part-length xs ys part.1 in omega (arith, e)
part-length (x ∷ xs) (y ∷ ys) (inr part) = let e = part-length (x ∷ xs) ys part in omega (arith, e)

pub part-map : {A B : Type 0} (f : A → B) (xs ys : List A) → IsPart xs ys → IsPart (map f xs) (map f ys)
part-map f [] ys part = tt
part-map f (x ∷ xs) [] part = absurd part
part-map f (x ∷ xs) (y ∷ ys) (inl part) = inl (ap f part.0, part-map f xs ys part.1)
part-map f (x ∷ xs) (y ∷ ys) (inr part) = inr (part-map f (x ∷ xs) ys part)

each-part : {A : Type 0} (P : A → Type 0) (xs ys : List A) → IsPart xs ys → AllByRecursion P ys → AllByRecursion P xs
each-part P [] ys part all = tt
each-part P (x ∷ xs) [] part all = absurd part
each-part P (x ∷ xs) (y ∷ ys) (inl part) all = (subst P (sym part.0) all.0, each-part P xs ys part.1 all.1)
each-part P (x ∷ xs) (y ∷ ys) (inr part) all = each-part P (x ∷ xs) ys part all.1

pub all-part : {A : Type 0} (P : A → Type 0) (xs ys : List A) → IsPart xs ys → All P ys → All P xs
all-part P xs ys part all = All-from_recursion P xs (each-part P xs ys part (recursion_from_All P ys all))

bytes-first : (v : Value) (vs : List Value) → byte_total (v ∷ vs) ≡ length (bytes_of v) + byte_total vs
bytes-first v vs = length-append (bytes_of v) (concat (map bytes_of vs))

pub part-bytes : (xs ys : List Value) → IsPart xs ys → byte_total xs ≤ byte_total ys
part-bytes [] ys part = omega arith
part-bytes (x ∷ xs) [] part = absurd part
part-bytes (x ∷ xs) (y ∷ ys) (inl part) =
    let e = part-bytes xs ys part.1 in
    let same = ap (λ v. length (bytes_of v)) part.0 in
    omega (arith, e, same, bytes-first x xs, bytes-first y ys)
part-bytes (x ∷ xs) (y ∷ ys) (inr part) = let e = part-bytes (x ∷ xs) ys part in omega (arith, e, bytes-first y ys)

values-part : (kind : DataType) (xs ys : List Value) → IsPart xs ys → AreValues kind ys → AreValues kind xs
values-part kind xs ys part values = (all-part (IsValueOf kind) xs ys part values.0, let e = part-bytes xs ys part in omega (arith, e, values.1))

mutual
  items-part : (kind : Kind) (xs ys : List Value) → IsPart xs ys → AreItems kind ys → AreItems kind xs
  items-part (Flat kind) xs ys part items = values-part kind xs ys part items
  items-part (Dict kind) xs ys part items = values-part kind xs ys part items
  items-part (StructOf members) xs ys part items = (
    all-part (HasFields (length (member_columns members))) xs ys part items.0,
    fields-part members (map fields_of xs) (map fields_of ys) (part-map fields_of xs ys part) items.1,
  )

  fields-part : (members : Members) (xs ys : List Row) → IsPart xs ys → AreFieldItems members ys → AreFieldItems members xs
  fields-part no_members xs ys part items = tt
  fields-part (more_members name kind rest) xs ys part items = (
    items-part kind (column_values 0 xs) (column_values 0 ys) (part-map (λ (row : Row). get_or row 0 Null) xs ys part) items.0,
    fields-part rest (map (drop 1) xs) (map (drop 1) ys) (part-map (drop 1) xs ys part) items.1,
  )

-- a table with some of its rows is one
pub table-part : (columns : List Column) (xs ys : List Row) → IsPart xs ys → IsTable columns ys → IsTable columns xs
table-part columns xs ys part table = record {
  widths = all-part (λ (row : Row). length row ≡ length columns) xs ys part table.widths;
  items = λ k none small.
      items-part (get_or columns k none).kind (column_values k xs) (column_values k ys) (part-map (λ (row : Row). get_or row k Null) xs ys part)
      (table.items k none small);
}
