-- Rows that are grouped and spread out again.
use Rattle.std.proofs.Common.{◌≡◌, ◌∙◌, ◌++◌, Bool, true, false, List, [], ◌∷◌, All, length, map, get_or, refl, sym, ap, arith}
use Rattle.std.proofs.lemmas.List.Elements.{All-head, All-tail}
use Rattle.std.proofs.lemmas.List.Folds.{flat_map-map}
use Rattle.std.proofs.lemmas.Slice.Eq.{bytes_eq-Decides}
use Rattle.std.proofs.lemmas.Bool.{false≢true}
use Rattle.std.proofs.lemmas.Bool.Decides.{Decides-eqb, Decides-int_eq}
use Rattle.std.specs.Prelude.{if◌then◌else◌, not}
use Rattle.std.specs.List.{flat_map}
use Rattle.data_types.specs.promise.Parts.{column_values, replaced, value_list}
use Rattle.data_types.specs.promise.Table.{Row}
use Rattle.data_types.specs.promise.Value.{Value, Null, Truth, Whole, Bits, Bytes, Items, values}
use Rattle.list_cols.specs.Law.{KeysComeTogether}
use Rattle.data_types.specs.promise.Groups.{distinct, same}
use Rattle.list_cols.specs.promise.Nested.{items_in, rows_with}

list-of : (vs : List Value) → value_list (values vs) ≡ vs
list-of [] = refl
list-of (v ∷ vs) = ap (λ (ws : List Value). v ∷ ws) (list-of vs)

-- a row of two is its two values
two : (row : Row) → length row ≡ 2 → row ≡ get_or row 0 Null ∷ get_or row 1 Null ∷ []
two [] e = absurd (omega (arith, e))
two (a ∷ []) e = absurd (omega (arith, e))
two (a ∷ b ∷ []) e = refl
two (a ∷ b ∷ c ∷ more) e = absurd (omega (arith, e))

bool-is : (a b : Bool) → (if a then b else not b) ≡ true → a ≡ b
bool-is true true e = refl
bool-is false false e = refl
bool-is true false e = absurd (false≢true e)
bool-is false true e = absurd (false≢true e)

same-is : (a b : Value) → same a b ≡ true → a ≡ b
same-is Null Null e = refl
same-is (Truth a) (Truth b) e = ap Truth (bool-is a b e)
same-is (Whole m) (Whole n) e = ap Whole ((Decides-int_eq m n).0 e)
same-is (Bits m) (Bits n) e = ap Bits ((Decides-eqb m n).0 e)
same-is (Bytes a) (Bytes b) e = ap Bytes ((bytes_eq-Decides a b).0 e)
same-is _ _ e = absurd (false≢true e)

-- the rows of a key, made of the key and their other values
with-key : (b : Bool) (key : Value) (row : Row) (rows : List Row) → same key (get_or row 0 Null) ≡ b → length row ≡ 2
    → map (λ item. key ∷ item ∷ []) (column_values 1 (rows_with 0 key rows)) ≡ rows_with 0 key rows
    → map (λ item. key ∷ item ∷ []) (column_values 1 (if b then row ∷ rows_with 0 key rows else rows_with 0 key rows))
    ≡ (if b then row ∷ rows_with 0 key rows else rows_with 0 key rows)
with-key false key row rows e wide more = more
with-key true key row rows e wide more =
    (λ k. (same-is key (get_or row 0 Null) e k ∷ get_or row 1 Null ∷ []) ∷ more k)
    ∙ ap (λ (r : Row). r ∷ rows_with 0 key rows) (sym (two row wide))

of-key : (key : Value) (rows : List Row) → All (λ (row : Row). length row ≡ 2) rows
    → map (λ item. key ∷ item ∷ []) (column_values 1 (rows_with 0 key rows)) ≡ rows_with 0 key rows
of-key key [] wide = refl
of-key key (row ∷ rows) wide =
    let P = λ (r : Row). length r ≡ 2 in
    let more = of-key key rows (All-tail P row rows wide) in
    let head = with-key (same key (get_or row 0 Null)) key row rows refl (All-head P row rows wide) more in
    head

-- what a key's row is spread out to
spread : (key : Value) (rows : List Row) → All (λ (row : Row). length row ≡ 2) rows
    → map (λ item. replaced 1 item (key ∷ Items (values (column_values 1 (rows_with 0 key rows))) ∷ []))
    (items_in (Items (values (column_values 1 (rows_with 0 key rows))))) ≡ rows_with 0 key rows
spread key rows wide =
    ap (λ (vs : List Value). map (λ item. key ∷ item ∷ []) vs) (list-of (column_values 1 (rows_with 0 key rows))) ∙ of-key key rows wide

all-keys : (rows : List Row) (keys : List Value) → All (λ (row : Row). length row ≡ 2) rows
    → flat_map (λ key. map (λ item. replaced 1 item (key ∷ Items (values (column_values 1 (rows_with 0 key rows))) ∷ []))
    (items_in (Items (values (column_values 1 (rows_with 0 key rows)))))) keys ≡ flat_map (λ key. rows_with 0 key rows) keys
all-keys rows [] wide = refl
all-keys rows (key ∷ keys) wide = λ k. spread key rows wide k ++ all-keys rows keys wide k

pub together : (rows : List Row) → All (λ (row : Row). length row ≡ 2) rows → KeysComeTogether rows
together rows wide =
    flat_map-map (λ row. map (λ item. replaced 1 item row) (items_in (get_or row 1 Null)))
    (λ key. key ∷ Items (values (column_values 1 (rows_with 0 key rows))) ∷ []) (distinct (column_values 0 rows))
    ∙ all-keys rows (distinct (column_values 0 rows)) wide
