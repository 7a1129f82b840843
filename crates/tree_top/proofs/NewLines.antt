-- How long the lines of the rows are that are made of rows with lists.
use Rattle.std.proofs.Common.{◌≡◌, ◌∙◌, ◌+◌, ◌-◌, ◌*◌, ◌<◌, ◌≤◌, ℕ, zero, suc, Bool, true, false, List, [], ◌∷◌, ◌++◌, All, length, get_or, map, drop, take}
use Rattle.std.proofs.Common.{ap, arith, length-append, mul-le-mul, refl, sym, pos, negsuc, inl, inr}
use Rattle.std.proofs.lemmas.Bool.{cases_eq}
use Rattle.std.specs.Prelude.{decimal, if◌then◌else◌, ◌/◌, ◌%◌, ◌==◌}
use Rattle.std.specs.List.{flat_map}
use Rattle.std.specs.Fmt.{digit_glyph, digits_onto}
use Rattle.std.proofs.lemmas.Grind.{flat_map-append}
use Rattle.std.proofs.lemmas.List.{append-nil, map-append}
use Rattle.std.proofs.Math.Nat.{suc-mul, zero-mul}
use Rattle.std.proofs.DigitsParse.{digits_onto-nil}
use Rattle.data_types.specs.promise.Parts.{replaced, value_list}
use Rattle.data_types.specs.promise.Table.{Row}
use Rattle.data_types.specs.promise.Value.{Value, Values, values, no_values, more_values, Null, Truth, Whole, Bits, Bytes, Items, Fields}
use Rattle.data_types.specs.promise.ValueTexts.{value_line, value_text}
use Rattle.layout_rules.specs.promise.Values.{each}
use Rattle.list_cols.proofs.Replaced.{length-replaced}
use Rattle.list_cols.specs.promise.Nested.{Explode, items_in}
use Rattle.value_text.proofs.Parts.{each-more, parts}
use Rattle.value_text.specs.Lengths.{capped}
use Rattle.tree_top.specs.promise.ForeignAnswer.{row_value}
use Rattle.tree_top.specs.NewLengths.{most_lines}

-- ---- no text is empty

one-of : (b : Bool) (xs ys : List ℕ) → 1 ≤ length xs → 1 ≤ length ys → 1 ≤ length (if b then xs else ys)
one-of true xs ys left right = left
one-of false xs ys left right = right

onto-some : (k n : ℕ) (acc : List ℕ) → 1 ≤ length acc → 1 ≤ length (digits_onto k 10 false n acc)
onto-some zero n acc some = some
onto-some (suc k) n acc some =
    let more = digit_glyph false (n % 10) ∷ acc in
    one-of (n / 10 == 0) more (digits_onto k 10 false (n / 10) more) (omega arith) (onto-some k (n / 10) more (omega arith))

digits-some : (n : ℕ) → 1 ≤ length (digits_onto 64 10 false n [])
digits-some n =
    let last = digit_glyph false (n % 10) ∷ [] in
    one-of (n / 10 == 0) last (digits_onto 63 10 false (n / 10) last) (omega arith) (onto-some 63 (n / 10) last (omega arith))

pub decimal-some : (n : ℕ) → 1 ≤ length (decimal n)
decimal-some n = omega (arith, ap length (digits_onto-nil 10 false n), digits-some n)

pub value-some : (v : Value) → 1 ≤ length (value_text v)
value-some Null = omega arith
value-some (Truth true) = omega arith
value-some (Truth false) = omega arith
value-some (Whole (pos n)) = decimal-some n
value-some (Whole (negsuc n)) = omega arith
value-some (Bits bits) = omega arith
value-some (Bytes bytes) = omega arith
value-some (Items items) = omega arith
value-some (Fields fields) = omega arith

-- ---- a row

-- the bytes of the texts of values together
abbrev pub texts : List Value → ℕ
texts [] = 0
texts (v ∷ vs) = length (value_text v) + texts vs

pub texts-some : (vs : List Value) → length vs ≤ texts vs
texts-some [] = omega arith
texts-some (v ∷ vs) = omega (arith, value-some v, texts-some vs)

texts-at : (vs : List Value) (k : ℕ) (d : Value) → k < length vs → length (value_text (get_or vs k d)) ≤ texts vs
texts-at [] k d lt = absurd (omega (arith, lt))
texts-at (v ∷ vs) zero d lt = omega arith
texts-at (v ∷ vs) (suc k) d lt = omega (arith, texts-at vs k d (omega (arith, lt)))

parts-long : (v : Value) (vs : List Value) → length (parts (v ∷ vs)) ≡ texts (v ∷ vs) + length vs
parts-long v [] = omega arith
parts-long v (w ∷ vs) = omega (arith, length-append (value_text v) (44 ∷ parts (w ∷ vs)), parts-long w vs)

some-parts : (vs : List Value) → 0 < length vs → length (parts vs) + 1 ≡ texts vs + length vs
some-parts [] some = absurd (omega (arith, some))
some-parts (v ∷ vs) some = omega (arith, parts-long v vs)

pub row-long : (row : Row) → 0 < length row → length (value_text (row_value row)) ≡ texts row + length row + 1
row-long row some = omega (arith, length-append (parts row) (125 ∷ []), some-parts row some)

pub list-long : (items : List Value) → 0 < length items → length (value_text (Items (values items))) ≡ texts items + length items + 1
list-long items some = omega (arith, length-append (parts items) (93 ∷ []), some-parts items some)

pub line-long : (row : Row) → length (value_line (row_value row)) ≡ length (value_text (row_value row)) + 1
line-long row = length-append (value_text (row_value row)) (10 ∷ [])

-- ---- another item in the place of one

texts-replaced : (k : ℕ) (row : Row) (item : Value) → k < length row
    → texts (replaced k item row) + length (value_text (get_or row k Null)) ≡ texts row + length (value_text item)
texts-replaced k [] item lt = absurd (omega (arith, lt))
texts-replaced zero (v ∷ row) item lt = omega arith
texts-replaced (suc k) (v ∷ row) item lt =
    let e : suc k + 1 ≡ suc (k + 1) = omega arith in
    omega (arith, ap (λ n. texts (v ∷ (take k row ++ item ∷ drop n (v ∷ row)))) e, texts-replaced k row item (omega (arith, lt)))

new-line : (k : ℕ) (row : Row) (item : Value) (rest : ℕ) → k < length row
    → rest + length (value_text (get_or row k Null)) ≡ length (value_text (row_value row))
    → length (value_line (row_value (replaced k item row))) ≡ rest + 1 + length (value_text item)
new-line k row item rest lt is =
    let long = length-replaced k item row lt in
    omega (
      arith,
      is,
      long,
      line-long (replaced k item row),
      row-long (replaced k item row) (omega (arith, long, lt)),
      row-long row (omega (arith, lt)),
      texts-replaced k row item lt,
    )

-- ---- the rows of a list

-- the lines of rows
abbrev pub row_lines : List Row → List ℕ
row_lines rows = flat_map value_line (map row_value rows)

abbrev pub new_rows : ℕ → Row → List Row
new_rows k row = map (λ item. replaced k item row) (items_in (get_or row k Null))

spread-long : (k : ℕ) (row : Row) (rest : ℕ) (items : List Value) → k < length row
    → rest + length (value_text (get_or row k Null)) ≡ length (value_text (row_value row))
    → length (row_lines (map (λ item. replaced k item row) items)) ≡ length items * (rest + 1) + texts items
spread-long k row rest [] lt is = omega (arith, zero-mul (rest + 1))
spread-long k row rest (item ∷ items) lt is =
    omega (
      arith,
      suc-mul (length items) (rest + 1),
      new-line k row item rest lt is,
      length-append (value_line (row_value (replaced k item row))) (row_lines (map (λ item. replaced k item row) items)),
      spread-long k row rest items lt is,
    )

back : (vs : Values) → values (value_list vs) ≡ vs
back no_values = refl
back (more_values v vs) = ap (more_values v) (back vs)

by-list : (k : ℕ) (row : Row) (v : Value) (count told : ℕ) → k < length row → get_or row k Null ≡ v → count ≡ length (items_in v) → (count ≡ 0 → told ≡ 0)
    → told ≤ most_lines (capped (length (value_text (row_value row)))) (capped (length (value_text (get_or row k Null)))) count
    → told ≤ length (row_lines (map (λ item. replaced k item row) (items_in v)))
by-list k row (Items vs) count told lt is many none most =
    elim (cases_eq count 0) [
      | inl empty ↦ omega (arith, none empty)
      | inr some ↦
          let items = value_list vs in
          let whole = length (value_text (row_value row)) in
          let own = length (value_text (get_or row k Null)) in
          let rest = whole - own in
          let long : own ≡ texts items + length items + 1 =
          ap (λ v. length (value_text v)) (is ∙ ap Items (sym (back vs))) ∙ list-long items (omega (arith, some, many)) in
          let split : rest + own ≡ whole = omega (arith, row-long row (omega (arith, lt)), texts-at row k Null lt) in
          let all = spread-long k row rest items lt split in
          let less : capped whole - capped own + 1 ≤ rest + 1 = omega arith in
          let few : count ≤ length items = omega (arith, many) in
          let product : count * (capped whole - capped own + 1) ≤ length items * (rest + 1) = mul-le-mul few less in
          omega (arith, most, product, all, long, many)
    ]
by-list k row Null count told lt is many none most = omega (arith, none many)
by-list k row (Truth truth) count told lt is many none most = omega (arith, none many)
by-list k row (Whole number) count told lt is many none most = omega (arith, none many)
by-list k row (Bits bits) count told lt is many none most = omega (arith, none many)
by-list k row (Bytes bytes) count told lt is many none most = omega (arith, none many)
by-list k row (Fields fields) count told lt is many none most = omega (arith, none many)

pub least-lines : (k : ℕ) (row : Row) (count told : ℕ) → k < length row → count ≡ length (items_in (get_or row k Null)) → (count ≡ 0 → told ≡ 0)
    → told ≤ most_lines (capped (length (value_text (row_value row)))) (capped (length (value_text (get_or row k Null)))) count
    → told ≤ length (row_lines (new_rows k row))
least-lines k row count told lt many none most = by-list k row (get_or row k Null) count told lt refl many none most

-- ---- the rows of all lists

lines-append : (xs ys : List Row) → length (row_lines (xs ++ ys)) ≡ length (row_lines xs) + length (row_lines ys)
lines-append xs ys =
    ap (λ vs. length (flat_map value_line vs)) (map-append row_value xs ys)
    ∙ ap length (flat_map-append value_line (map row_value xs) (map row_value ys))
    ∙ length-append (row_lines xs) (row_lines ys)

-- those of one row more
pub more-rows : (k : ℕ) (f : ℕ → Row) (n : ℕ) → length (row_lines (Explode k (each f 0 (n + 1))))
    ≡ length (row_lines (Explode k (each f 0 n))) + length (row_lines (new_rows k (f n)))
more-rows k f n =
    let from : 0 + n ≡ n = omega arith in
    ap (λ rows. length (row_lines (Explode k rows))) (each-more f 0 n ∙ ap (λ j. each f 0 n ++ f j ∷ []) from)
    ∙ ap (λ rows. length (row_lines rows)) (flat_map-append (new_rows k) (each f 0 n) (f n ∷ []) ∙ ap (λ rows. Explode k (each f 0 n) ++ rows) (append-nil (new_rows k (f n))))
    ∙ lines-append (Explode k (each f 0 n)) (new_rows k (f n))

-- a brace, a mark and a value's byte for each field, and the line's end
pub wide-lines : (rows : List Row) (width : ℕ) → 0 < width → All (λ (row : Row). length row ≡ width) rows
    → length rows * (2 + 2 * width) ≤ length (row_lines rows)
wide-lines [] width some all = omega (arith, zero-mul (2 + 2 * width))
wide-lines (row ∷ rows) width some all =
    let here : length row ≡ width = all 0 row (omega arith) in
    let others = wide-lines rows width some (λ j d lt. all (suc j) d (omega (arith, lt))) in
    omega (
      arith,
      suc-mul (length rows) (2 + 2 * width),
      here,
      line-long row,
      row-long row (omega (arith, here, some)),
      texts-some row,
      length-append (value_line (row_value row)) (row_lines rows),
      others,
    )
