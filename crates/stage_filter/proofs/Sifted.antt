-- The items of a list that are marked, in their order; what holds of all items holds of these.
use Rattle.std.proofs.Common.{◌≡◌, ◌≤◌, ◌+◌, Bool, true, false, List, [], ◌∷◌, length, map, get_or, drop, All, refl, sym, ap, subst, arith}
use Rattle.std.specs.Prelude.{if◌then◌else◌}
use Rattle.std.specs.List.{AllByRecursion, concat, filter}
use Rattle.std.proofs.lemmas.List.{length-append}
use Rattle.std.proofs.lemmas.List.Elements.{All-cons, All-head, All-tail}
use Rattle.data_types.specs.FieldText.{IsValueOf}
use Rattle.data_types.specs.promise.Parts.{column_values, fields_of, member_columns}
use Rattle.data_types.specs.promise.Table.{Column, Row, Kind, Flat, Dict, Columns, Members, no_members, more_members}
use Rattle.data_types.specs.promise.Value.{Value, Null, byte_total, bytes_of}
use Rattle.stream_face.specs.Lawful.{AreFieldItems, AreItems, HasFields, IsTable, LawfulTables, total_rows}

abbrev pub sifted : {X : Type 0} → List Bool → List X → List X
sifted [] xs = []
sifted (mark ∷ marks) [] = []
sifted (mark ∷ marks) (x ∷ xs) = if mark then x ∷ sifted marks xs else sifted marks xs

pub filter-sifted : {X : Type 0} (p : X → Bool) (xs : List X) → filter p xs ≡ sifted (map p xs) xs
filter-sifted p [] = refl
filter-sifted p (x ∷ xs) = ap (λ ys. if p x then x ∷ ys else ys) (filter-sifted p xs)

pub map-sifted : {X Y : Type 0} (f : X → Y) (marks : List Bool) (xs : List X) → map f (sifted marks xs) ≡ sifted marks (map f xs)
map-sifted f [] xs = refl
map-sifted f (mark ∷ marks) [] = refl
map-sifted f (true ∷ marks) (x ∷ xs) = ap (λ ys. f x ∷ ys) (map-sifted f marks xs)
map-sifted f (false ∷ marks) (x ∷ xs) = map-sifted f marks xs

pub fewer : {X : Type 0} (marks : List Bool) (xs : List X) → length (sifted marks xs) ≤ length xs
fewer [] xs = omega arith
fewer (mark ∷ marks) [] = omega arith
fewer (true ∷ marks) (x ∷ xs) = omega (arith, fewer marks xs)
fewer (false ∷ marks) (x ∷ xs) = omega (arith, fewer marks xs)

pub all-sifted : {X : Type 0} (P : X → Type 0) (marks : List Bool) (xs : List X) → All P xs → All P (sifted marks xs)
all-sifted P [] xs all k d small = absurd (omega (arith, small))
all-sifted P (mark ∷ marks) [] all k d small = absurd (omega (arith, small))
all-sifted P (true ∷ marks) (x ∷ xs) all k d small =
    All-cons P x (sifted marks xs) (All-head P x xs all) (all-sifted P marks xs (All-tail P x xs all)) k d small
all-sifted P (false ∷ marks) (x ∷ xs) all k d small = all-sifted P marks xs (All-tail P x xs all) k d small

-- ---- bytes

pub total-cons : (v : Value) (vs : List Value) → byte_total (v ∷ vs) ≡ length (bytes_of v) + byte_total vs
total-cons v vs = length-append (bytes_of v) (concat (map bytes_of vs))

pub total-fewer : (marks : List Bool) (vs : List Value) → byte_total (sifted marks vs) ≤ byte_total vs
total-fewer [] vs = omega arith
total-fewer (mark ∷ marks) [] = omega arith
total-fewer (true ∷ marks) (v ∷ vs) = omega (arith, total-fewer marks vs, total-cons v vs, total-cons v (sifted marks vs))
total-fewer (false ∷ marks) (v ∷ vs) = omega (arith, total-fewer marks vs, total-cons v vs)

-- ---- the items of columns

mutual
  items-sifted : (kind : Kind) (marks : List Bool) (items : List Value) → AreItems kind items → AreItems kind (sifted marks items)
  items-sifted (Flat kind) marks items are = (all-sifted (IsValueOf kind) marks items are.0, omega (arith, total-fewer marks items, are.1))
  items-sifted (Dict kind) marks items are = (all-sifted (IsValueOf kind) marks items are.0, omega (arith, total-fewer marks items, are.1))
  items-sifted (Columns members) marks items are = (
    all-sifted (HasFields (length (member_columns members))) marks items are.0,
    subst (AreFieldItems members) (sym (map-sifted fields_of marks items)) (fields-sifted members marks (map fields_of items) are.1),
  )

  fields-sifted : (members : Members) (marks : List Bool) (rows : List Row) → AreFieldItems members rows → AreFieldItems members (sifted marks rows)
  fields-sifted no_members marks rows are = tt
  fields-sifted (more_members name kind rest) marks rows are = (
    subst (AreItems kind) (sym (map-sifted (λ row. get_or row 0 Null) marks rows)) (items-sifted kind marks (column_values 0 rows) are.0),
    subst (AreFieldItems rest) (sym (map-sifted (drop 1) marks rows)) (fields-sifted rest marks (map (drop 1) rows) are.1),
  )

pub table-sifted : (columns : List Column) (marks : List Bool) (rows : List Row) → IsTable columns rows → IsTable columns (sifted marks rows)
table-sifted columns marks rows table = record {
  widths = all-sifted (λ (row : Row). length row ≡ length columns) marks rows table.widths;
  items = λ k none small.
      subst (AreItems (get_or columns k none).kind) (sym (map-sifted (λ row. get_or row k Null) marks rows))
      (items-sifted (get_or columns k none).kind marks (column_values k rows) (table.items k none small));
}

pub table-filtered : (columns : List Column) (p : Row → Bool) (rows : List Row) → IsTable columns rows → IsTable columns (filter p rows)
table-filtered columns p rows table = subst (IsTable columns) (sym (filter-sifted p rows)) (table-sifted columns (map p rows) rows table)

pub fewer-filtered : (p : Row → Bool) (rows : List Row) → length (filter p rows) ≤ length rows
fewer-filtered p rows = let e = ap length (filter-sifted p rows) in omega (arith, e, fewer (map p rows) rows)

tables-filtered : (columns : List Column) (p : Row → Bool) (ahead : List (List Row)) → AllByRecursion (IsTable columns) ahead
    → AllByRecursion (IsTable columns) (map (filter p) ahead)
tables-filtered columns p [] tables = tt
tables-filtered columns p (rows ∷ more) tables = (table-filtered columns p rows tables.0, tables-filtered columns p more tables.1)

rows-filtered : (p : Row → Bool) (ahead : List (List Row)) → total_rows (map (filter p) ahead) ≤ total_rows ahead
rows-filtered p [] = omega arith
rows-filtered p (rows ∷ more) = omega (arith, rows-filtered p more, fewer-filtered p rows)

pub lawful-filtered : (columns : List Column) (p : Row → Bool) (ahead : List (List Row)) → LawfulTables columns ahead
    → LawfulTables columns (map (filter p) ahead)
lawful-filtered columns p ahead lawful = record {
  tables = tables-filtered columns p ahead lawful.tables;
  rows = omega (arith, rows-filtered p ahead, lawful.rows);
}
