-- The rows whose lists are spread out: their columns, and how many there are.
use Rattle.std.proofs.Common.{◌≡◌, ◌≢◌, ◌∙◌, ℕ, zero, suc, ◌<◌, List, [], ◌∷◌, ◌++◌, All, length, map, replicate, get_or, refl, ap, arith}
use Rattle.std.proofs.lemmas.List.{map-append}
use Rattle.std.specs.List.{flat_map}
use Rattle.data_types.specs.promise.Parts.{column_values, replaced}
use Rattle.data_types.specs.promise.Table.{Row}
use Rattle.data_types.specs.promise.Value.{Value, Null}
use Rattle.layout_rules.specs.promise.Values.{each}
use Rattle.list_cols.specs.promise.Nested.{Explode, items_in}
use Rattle.list_cols.proofs.Replaced.{length-replaced, replaced-other, replaced-same}

-- the rows of one row's list
abbrev pub spread_row : ℕ → Row → List Row
spread_row column row = map (λ item. replaced column item row) (items_in (get_or row column Null))

-- ---- of one row

row-values : (column k : ℕ) (row : Row) (items : List Value) → column < length row → k ≢ column
    → map (λ (r : Row). get_or r k Null) (map (λ item. replaced column item row) items) ≡ replicate (length items) (get_or row k Null)
row-values column k row [] inside other = refl
row-values column k row (item ∷ items) inside other =
    λ t. replaced-other column k item row Null inside other t ∷ row-values column k row items inside other t

row-items : (column : ℕ) (row : Row) (items : List Value) → column < length row
    → map (λ (r : Row). get_or r column Null) (map (λ item. replaced column item row) items) ≡ items
row-items column row [] inside = refl
row-items column row (item ∷ items) inside = λ t. replaced-same column item row Null inside t ∷ row-items column row items inside t

row-widths : (column : ℕ) (row : Row) (items : List Value) → column < length row
    → All (λ (r : Row). length r ≡ length row) (map (λ item. replaced column item row) items)
row-widths column row [] inside k d lt = absurd (omega (arith, lt))
row-widths column row (item ∷ items) inside zero d lt = length-replaced column item row inside
row-widths column row (item ∷ items) inside (suc k) d lt = row-widths column row items inside k d (omega (arith, lt))

widths-behind : (xs ys : List Row) (w width : ℕ) → All (λ (r : Row). length r ≡ w) xs → w ≡ width → All (λ (r : Row). length r ≡ width) ys
    → All (λ (r : Row). length r ≡ width) (xs ++ ys)
widths-behind [] ys w width few e more k d lt = more k d lt
widths-behind (x ∷ xs) ys w width few e more zero d lt = few 0 d (omega arith) ∙ e
widths-behind (x ∷ xs) ys w width few e more (suc k) d lt =
    widths-behind xs ys w width (λ i c l. few (suc i) c (omega (arith, l))) e more k d (omega (arith, lt))

-- ---- of rows by their numbers: all have this many values, and a list in the column

module _ (row : ℕ → Row) (lists : ℕ → Value) (column width : ℕ) (inside : column < width) (wide : (i : ℕ) → length (row i) ≡ width)
    (is_list : (i : ℕ) → get_or (row i) column Null ≡ lists i) where
  there : (i : ℕ) → column < length (row i)
  there i = omega (arith, wide i, inside)

  -- a column that isn't spread out: an item of each row, as often as its list has items
  pub others : (k : ℕ) (value : ℕ → Value) → k ≢ column → ((i : ℕ) → get_or (row i) k Null ≡ value i) → (a n : ℕ)
      → column_values k (Explode column (each row a n)) ≡ flat_map (λ i. replicate (length (items_in (lists i))) (value i)) (each (λ i. i) a n)
  others k value other is a zero = refl
  others k value other is a (suc n) =
      map-append (λ (r : Row). get_or r k Null) (spread_row column (row a)) (Explode column (each row (suc a) n))
      ∙ (λ t. (row-values column k (row a) (items_in (get_or (row a) column Null)) (there a) other
      ∙ (λ s. replicate (length (items_in (is_list a s))) (is a s))) t ++ others k value other is (suc a) n t)

  -- the column itself: the items of the lists
  pub own : (a n : ℕ) → column_values column (Explode column (each row a n)) ≡ flat_map items_in (each lists a n)
  own a zero = refl
  own a (suc n) =
      map-append (λ (r : Row). get_or r column Null) (spread_row column (row a)) (Explode column (each row (suc a) n))
      ∙ (λ t. (row-items column (row a) (items_in (get_or (row a) column Null)) (there a) ∙ ap items_in (is_list a)) t ++ own (suc a) n t)

  pub widths : (a n : ℕ) → All (λ (r : Row). length r ≡ width) (Explode column (each row a n))
  widths a zero k d lt = absurd (omega (arith, lt))
  widths a (suc n) k d lt =
      widths-behind (spread_row column (row a)) (Explode column (each row (suc a) n)) (length (row a)) width
      (row-widths column (row a) (items_in (get_or (row a) column Null)) (there a)) (wide a) (widths (suc a) n) k d lt
