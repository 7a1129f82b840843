-- How long the lines of grouped rows are.
use Rattle.std.proofs.Common.{◌≡◌, ◌∙◌, ◌+◌, ◌-◌, ◌*◌, ◌<◌, ◌≤◌, ℕ, zero, suc, Bool, true, false, List, [], ◌∷◌, All, length, get_or, map, ap, arith, length-append, mul-le-mul, refl, subst, sym}
use Rattle.std.proofs.lemmas.Bool.{eqb-true, false≢true}
use Rattle.std.proofs.lemmas.Bool.Decides.{Decides-eqb, Decides-int_eq, nat_tests}
use Rattle.std.proofs.lemmas.List.{get_or-map, length-map}
use Rattle.std.proofs.lemmas.List.Elements.{All-head, All-tail}
use Rattle.std.proofs.lemmas.Slice.Eq.{bytes_eq-Decides}
use Rattle.std.proofs.Math.Nat.{mul-add, mul_assoc, mul_comm, suc-mul, zero-mul}
use Rattle.std.specs.List.{list_any}
use Rattle.std.specs.Prelude.{if◌then◌else◌, nat_lt, ◌==◌, ◌&&◌, ◌||◌}
use Rattle.arr_export.proofs.Each.{length-each}
use Rattle.column_fill.specs.promise.FlatColumns.{is_flat_column}
use Rattle.data_types.specs.declared.kind.DataType.{DataType}
use Rattle.data_types.specs.declared.kind.DataType.TheVariants as kinds
use Rattle.data_types.specs.declared.storage.Storage.{Storage}
use Rattle.data_types.specs.declared.storage.Storage.TheVariants as stored
use Rattle.data_types.specs.promise.Groups.{distinct, distinct_behind, same}
use Rattle.data_types.specs.promise.KindTrees.{KindTree}
use Rattle.data_types.specs.promise.Kinds.{is_flat}
use Rattle.data_types.specs.promise.Parts.{column_values}
use Rattle.data_types.specs.promise.Storage.{storage_of}
use Rattle.data_types.specs.promise.Table.{Row}
use Rattle.data_types.specs.promise.Value.{Value, Null, Truth, Whole, Bits, Bytes, Items, Fields, values}
use Rattle.data_types.specs.promise.ValueTexts.{value_line, value_text}
use Rattle.layout_rules.specs.promise.Layout.{is_valid}
use Rattle.layout_rules.specs.promise.Values.{Reader, each, stored_item, readers, value_at}
use Rattle.layout_rules.specs.Values.{item}
use Rattle.list_cols.proofs.NestedRows.{few-distinct}
use Rattle.list_cols.specs.promise.Faults.{most_named}
use Rattle.list_cols.specs.promise.NestFaults.{is_nest_too_long}
use Rattle.list_cols.specs.promise.Nested.{Nest, nested_value, rows_with}
use Rattle.list_cols.specs.promise.NestedTables.{keys_of}
use Rattle.raw_array.specs.promise.Members.{ArrayMembers, ArrayTree}
use Rattle.tree_model.specs.promise.TreeData.{Released, Live, absent, present, tree_list}
use Rattle.tree_top.specs.promise.ForeignAnswer.{row_value}
use Rattle.tree_top.proofs.NewLines.{line-long, list-long, row-long, row_lines, texts, texts-some}

-- ---- a value of a flat column is the same as itself

-- neither a list nor a struct
abbrev is_plain : Storage → Bool
is_plain (stored.Lists wide) = false
is_plain (stored.FixedLists size) = false
is_plain stored.Children = false
is_plain _ = true

flat-plain : (kind : DataType) → is_flat kind ≡ true → is_plain (storage_of kind) ≡ true
flat-plain (kinds.Decimal precision scale false) flat = refl
flat-plain (kinds.Decimal precision scale true) flat = refl
flat-plain (kinds.List wide) flat = absurd (false≢true flat)
flat-plain (kinds.FixedList size) flat = absurd (false≢true flat)
flat-plain kinds.Struct flat = absurd (false≢true flat)
flat-plain kinds.Map flat = absurd (false≢true flat)
flat-plain _ flat = refl

abbrev is_flat_value : Value → Bool
is_flat_value (Items items) = false
is_flat_value (Fields fields) = false
is_flat_value _ = true

stored-flat : (storage : Storage) (kids : List Reader) (a : ArrayMembers) (children : List ArrayTree) (i : ℕ) → is_plain storage ≡ true
    → is_flat_value (stored_item storage kids a children i) ≡ true
stored-flat (stored.Lists wide) kids a children i plain = absurd (false≢true plain)
stored-flat (stored.FixedLists size) kids a children i plain = absurd (false≢true plain)
stored-flat stored.Children kids a children i plain = absurd (false≢true plain)
stored-flat _ kids a children i plain = refl

value-self : (v : Value) → is_flat_value v ≡ true → same v v ≡ true
value-self Null flat = refl
value-self (Truth true) flat = refl
value-self (Truth false) flat = refl
value-self (Whole number) flat = (Decides-int_eq number number).1 refl
value-self (Bits bits) flat = (Decides-eqb bits bits).1 refl
value-self (Bytes bytes) flat = (bytes_eq-Decides bytes bytes).1 refl
value-self (Items items) flat = absurd (false≢true flat)
value-self (Fields fields) flat = absurd (false≢true flat)

valid-flat : (b : Bool) (v : Value) → is_flat_value v ≡ true → is_flat_value (if b then v else Null) ≡ true
valid-flat true v flat = flat
valid-flat false v flat = refl

item-flat : (typed : KindTree) (array : ArrayTree) (i : ℕ) → is_flat_column typed ≡ true → is_flat_value (value_at typed array i) ≡ true
item-flat Released array i flat = absurd (false≢true flat)
item-flat (Live kind kids (present dict)) array i flat = absurd (false≢true flat)
item-flat (Live kind kids absent) Released i flat = refl
item-flat (Live kind kids absent) (Live a children dictionary) i flat =
    valid-flat (is_valid a i) (item kind (readers kids) a (tree_list children) i)
    (stored-flat (storage_of kind) (readers kids) a (tree_list children) i (flat-plain kind flat))

pub flat-self : (typed : KindTree) (array : ArrayTree) (i : ℕ) → is_flat_column typed ≡ true → same (value_at typed array i) (value_at typed array i) ≡ true
flat-self typed array i flat = value-self (value_at typed array i) (item-flat typed array i flat)

-- ---- each value is the same as a distinct one

or-turned : (s b y : Bool) → ((s || b) || y) ≡ true → (b || (s || y)) ≡ true
or-turned true true y e = refl
or-turned true false y e = refl
or-turned false true y e = refl
or-turned false false y e = e

own-key : (a : Bool) (v : Value) (xs ys : List Value) → same v v ≡ true → (a || list_any (λ u. same u v) (if a then xs else v ∷ ys)) ≡ true
own-key true v xs ys self = refl
own-key false v xs ys self = ap (λ b. b || list_any (λ u. same u v) ys) self

next-key : (a : Bool) (v w : Value) (b : Bool) (xs ys : List Value) → (b || list_any (λ u. same u w) xs) ≡ true
    → ((same v w || b) || list_any (λ u. same u w) ys) ≡ true → (b || list_any (λ u. same u w) (if a then xs else v ∷ ys)) ≡ true
next-key true v w b xs ys old new = old
next-key false v w b xs ys old new = or-turned (same v w) b (list_any (λ u. same u w) ys) new

has-key : (before vs : List Value) (k : ℕ) (d : Value) → k < length vs → same (get_or vs k d) (get_or vs k d) ≡ true
    → (list_any (λ u. same u (get_or vs k d)) before || list_any (λ u. same u (get_or vs k d)) (distinct_behind before vs)) ≡ true
has-key before [] k d lt self = absurd (omega (arith, lt))
has-key before (v ∷ vs) zero d lt self =
    own-key (list_any (λ u. same u v) before) v (distinct_behind before vs) (distinct_behind (v ∷ before) vs) self
has-key before (v ∷ vs) (suc k) d lt self =
    let near : k < length vs = omega (arith, lt) in
    next-key (list_any (λ u. same u v) before) v (get_or vs k d) (list_any (λ u. same u (get_or vs k d)) before) (distinct_behind before vs)
    (distinct_behind (v ∷ before) vs) (has-key before vs k d near self) (has-key (v ∷ before) vs k d near self)

module _ (column : ℕ) where
  abbrev pub IsSelf : Row → Type 0
  IsSelf row = same (get_or row column Null) (get_or row column Null) ≡ true

  abbrev HasKey : List Value → Row → Type 0
  HasKey keys row = list_any (λ u. same u (get_or row column Null)) keys ≡ true

  row-keys : (rows : List Row) → All IsSelf rows → All (HasKey (keys_of column rows)) rows
  row-keys rows self = λ k d lt.
      let own = λ (row : Row). get_or row column Null in
      let vs = column_values column rows in
      let is : get_or vs k Null ≡ own (get_or rows k d) = get_or-map own rows k d Null lt in
      let inside : k < length vs = omega (arith, lt, length-map rows own) in
      subst (λ (v : Value). list_any (λ u. same u v) (distinct vs) ≡ true) is
      (has-key [] vs k Null inside (subst (λ (v : Value). same v v ≡ true) (sym is) (self k d lt)))

  -- ---- so that the rows of all keys are all rows

  -- how many of these keys a value has
  abbrev ones : List Value → Value → ℕ
  ones [] v = 0
  ones (key ∷ keys) v = (if same key v then 1 else 0) + ones keys v

  some-one : (keys : List Value) (v : Value) → list_any (λ u. same u v) keys ≡ true → 1 ≤ ones keys v
  some-one [] v e = absurd (false≢true e)
  some-one (key ∷ keys) v e = one (same key v) (list_any (λ u. same u v) keys) (ones keys v) e (some-one keys v)
    where
      one : (b c : Bool) (n : ℕ) → (b || c) ≡ true → (c ≡ true → 1 ≤ n) → 1 ≤ (if b then 1 else 0) + n
      one true c n e more = omega arith
      one false c n e more = omega (arith, more e)

  abbrev total : List Value → List Row → ℕ
  total [] rows = 0
  total (key ∷ keys) rows = length (rows_with column key rows) + total keys rows

  one-more : (b : Bool) (row : Row) (rows : List Row) → length (if b then row ∷ rows else rows) ≡ (if b then 1 else 0) + length rows
  one-more true row rows = omega arith
  one-more false row rows = omega arith

  total-more : (keys : List Value) (row : Row) (rows : List Row) → total keys (row ∷ rows) ≡ ones keys (get_or row column Null) + total keys rows
  total-more [] row rows = refl
  total-more (key ∷ keys) row rows =
      let here : length (rows_with column key (row ∷ rows)) ≡ (if same key (get_or row column Null) then 1 else 0) + length (rows_with column key rows) =
      one-more (same key (get_or row column Null)) row (rows_with column key rows) in
      omega (arith, here, total-more keys row rows)

  total-all : (keys : List Value) (rows : List Row) → All (HasKey keys) rows → length rows ≤ total keys rows
  total-all keys [] all = omega arith
  total-all keys (row ∷ rows) all =
      let P = HasKey keys in
      omega (
        arith,
        total-more keys row rows,
        some-one keys (get_or row column Null) (All-head P row rows all),
        total-all keys rows (All-tail P row rows all),
      )

  -- ---- a line

  list-bytes : (items : List Value) → 2 * length items ≤ length (value_text (Items (values items)))
  list-bytes [] = omega arith
  list-bytes (v ∷ vs) = omega (arith, list-long (v ∷ vs) (omega arith), texts-some (v ∷ vs))

  module _ (f : ℕ → Value) (least : ℕ) (each-one : (k : ℕ) → (k == column) ≡ false → least ≤ length (value_text (f k))) where
    -- the columns behind one
    behind : (a n : ℕ) → column < a → n * least ≤ texts (each f a n)
    behind a zero lt = omega (arith, zero-mul least)
    behind a (suc n) lt = by-test (a == column) refl (behind (suc a) n (omega (arith, lt)))
      where
        by-test : (b : Bool) → (a == column) ≡ b → n * least ≤ texts (each f (suc a) n) → suc n * least ≤ texts (f a ∷ each f (suc a) n)
        by-test true e rest = absurd (omega (arith, eqb-true a column e, lt))
        by-test false e rest = omega (arith, suc-mul n least, each-one a e, rest)

    -- all but one
    others : (a n : ℕ) → n * least ≤ texts (each f a n) + least
    others a zero = omega (arith, zero-mul least)
    others a (suc n) = by-test (a == column) refl (others (suc a) n)
      where
        by-test : (b : Bool) → (a == column) ≡ b → n * least ≤ texts (each f (suc a) n) + least → suc n * least ≤ texts (f a ∷ each f (suc a) n) + least
        by-test true e rest = omega (arith, suc-mul n least, behind (suc a) n (omega (arith, eqb-true a column e)))
        by-test false e rest = omega (arith, suc-mul n least, each-one a e, rest)

  module _ (width : ℕ) (inside : column < width) (rows : List Row) where
    abbrev key_row : Value → Row
    key_row key = each (nested_value column key rows) 0 width

    key-line : (key : Value) → (width - 1) * (2 * length (rows_with column key rows)) ≤ length (value_line (row_value (key_row key)))
    key-line key =
        let f = nested_value column key rows in
        let many = length (rows_with column key rows) in
        let list = λ (k : ℕ). column_values k (rows_with column key rows) in
        let least : (k : ℕ) → (k == column) ≡ false → 2 * many ≤ length (value_text (f k)) =
        λ k e.
        let is : length (value_text (f k)) ≡ length (value_text (Items (values (list k)))) =
        ap (λ (b : Bool). length (value_text (if b then key else Items (values (list k))))) e in
        omega (arith, is, list-bytes (list k), length-map (rows_with column key rows) (λ (row : Row). get_or row k Null)) in
        let whole : suc (width - 1) * (2 * many) ≡ width * (2 * many) = let e : suc (width - 1) ≡ width = omega (arith, inside) in ap (λ n. n * (2 * many)) e in
        let row = key_row key in
        let long = length-each f 0 width in
        omega (
          arith,
          whole,
          suc-mul (width - 1) (2 * many),
          others f (2 * many) least 0 width,
          long,
          row-long row (omega (arith, long, inside)),
          line-long row,
        )

    key-lines : (keys : List Value) → (width - 1) * (2 * total keys rows) ≤ length (row_lines (map key_row keys))
    key-lines [] = let none : (width - 1) * 0 ≡ 0 = mul_comm (width - 1) 0 ∙ zero-mul (width - 1) in omega (arith, none)
    key-lines (key ∷ keys) =
        let one = length (rows_with column key rows) in
        let rest = total keys rows in
        let double : 2 * (one + rest) ≡ 2 * one + 2 * rest = mul-add 2 one rest in
        let split : (width - 1) * (2 * (one + rest)) ≡ (width - 1) * (2 * one) + (width - 1) * (2 * rest) =
        ap (λ n. (width - 1) * n) double ∙ mul-add (width - 1) (2 * one) (2 * rest) in
        omega (
          arith,
          split,
          key-line key,
          key-lines keys,
          length-append (value_line (row_value (key_row key))) (row_lines (map key_row keys)),
        )

    -- an item of two bytes in each list column for each row
    pub nest-lines : All IsSelf rows → length rows * (2 * (width - 1)) ≤ length (row_lines (Nest width column rows))
    nest-lines self =
        let keys = keys_of column rows in
        let all : length rows ≤ total keys rows = total-all keys rows (row-keys rows self) in
        let same : width - 1 ≤ width - 1 = omega arith in
        let double : 2 * length rows ≤ 2 * total keys rows = omega (arith, all) in
        let product : (width - 1) * (2 * length rows) ≤ (width - 1) * (2 * total keys rows) = mul-le-mul same double in
        let turned : length rows * (2 * (width - 1)) ≡ (width - 1) * (2 * length rows) =
        mul_comm (length rows) (2 * (width - 1)) ∙ ap (λ n. n * length rows) (mul_comm 2 (width - 1)) ∙ mul_assoc (width - 1) 2 (length rows) in
        omega (arith, turned, product, key-lines keys)

    -- where there aren't too many rows, there aren't too many keys
    pub not-too-long : length rows ≤ most_named → is_nest_too_long width column rows ≡ false
    not-too-long few =
        let own = λ (row : Row). get_or row column Null in
        let keys : length (keys_of column rows) ≤ length rows = omega (arith, few-distinct (column_values column rows), length-map rows own) in
        let none : nat_lt most_named (length (keys_of column rows)) ≡ false = grind (arith, nat_tests, keys, few) in
        let short : nat_lt most_named (length rows) ≡ false = grind (arith, nat_tests, few) in
        let is : is_nest_too_long width column rows ≡ (false || (nat_lt 1 width && false)) = (λ j. none j || (nat_lt 1 width && short j)) in
        is ∙ by-and (nat_lt 1 width)
      where
        by-and : (b : Bool) → (false || (b && false)) ≡ false
        by-and true = refl
        by-and false = refl
