-- Where the columns of the new rows have an encoding, and where one has too many bytes.
use Rattle.std.proofs.Common.{◌≡◌, ◌≢◌, ◌∙◌, ◌≤◌, ◌<◌, ◌+◌, ◌^◌, ℕ, Bool, true, false, List, All, length, get_or, Option, None, Some, refl, ap, sym, subst, arith}
use Rattle.std.specs.Prelude.{nat_eq, nat_lt, IfNone, IfSome, if◌then◌else◌}
use Rattle.std.proofs.lemmas.Bool.{eq-eqb, lt-ltb}
use Rattle.std.proofs.lemmas.Bool.Decides.{nat_tests}
use Rattle.data_types.specs.promise.FieldText.{form_of}
use Rattle.data_types.specs.promise.Table.{Flat}
use Rattle.data_types.specs.promise.Value.{Value, byte_total}
use Rattle.data_types.specs.declared.kind.DataType.{DataType}
use Rattle.data_types.specs.declared.kind.DataType.TheVariants as kinds
use Rattle.tree_model.specs.promise.TreeData.{Released, Live, no_trees, more_trees}
use Rattle.tree_model.specs.promise.TreeParts.{child_at, children_of}
use Rattle.raw_array.specs.promise.Members.{ArrayTree}
use Rattle.col_build.specs.promise.Encoding.{are_within, is_wide}
use Rattle.col_build.specs.Encoding.{Fits, HasForm, are_bounded}
use Rattle.data_types.specs.promise.ColumnKinds.{type_of_kind}
use Rattle.data_types.specs.promise.KindTrees.{KindTree}
use Rattle.layout_rules.specs.promise.Values.{rows_of}
use Rattle.array_laws.specs.Items.{IsItemOf}
use Rattle.list_cols.specs.declared.fault.ListFault.{ListFault}
use Rattle.list_cols.specs.declared.fault.ListFault.TheVariants.{WrongKind, TooLong, NoMemory}
use Rattle.list_cols.specs.promise.Exploded.{exploded_kinds}
use Rattle.list_cols.specs.promise.Faults.{explodes, first_wrong, is_flat_list}
use Rattle.column_fill.specs.promise.FlatColumns.{is_flat_column}
use Rattle.list_cols.specs.Listed.{HasTotal}
use Rattle.list_cols.specs.promise.Nested.{Explode}
use Rattle.list_cols.specs.Reaching.{IsHeld, IsLong, IsReached, OffsetsAre, wide_of}
use Rattle.list_cols.specs.Spreading.{FitsAt, spread_values}
use Rattle.list_cols.proofs.Chunks.{IsChunk, many-values}
use Rattle.list_cols.proofs.Kids.{none-wrong}

-- ---- which bytes offsets reach

pub offsets-are : (kind : DataType) → OffsetsAre (is_wide kind) (form_of kind) (wide_of kind)
offsets-are (kinds.Binary true) = λ total. (refl, refl)
offsets-are (kinds.Binary false) = λ total. (refl, refl)
offsets-are (kinds.Utf8 true) = λ total. (refl, refl)
offsets-are (kinds.Utf8 false) = λ total. (refl, refl)
offsets-are (kinds.Decimal precision scale true) = λ total. (refl, refl)
offsets-are (kinds.Decimal precision scale false) = λ total. (refl, refl)
offsets-are _ = λ total. (refl, refl)

not-below : (a b : ℕ) → b ≤ a → nat_lt a b ≡ false
not-below a b le = grind (arith, nat_tests, le)

pub wide-reached : (bytes total : ℕ) → HasTotal bytes (Some total) → IsReached true bytes None
wide-reached bytes total has = (refl, lt-ltb bytes (2 ^ 63) has.1)

pub narrow-reached : (bytes total : ℕ) → HasTotal bytes (Some total) → total < 2 ^ 31 → IsReached false bytes None
narrow-reached bytes total has few = (lt-ltb bytes (2 ^ 31) (omega (arith, has.0, few)), lt-ltb bytes (2 ^ 63) has.1)

pub narrow-passed : (bytes total : ℕ) → HasTotal bytes (Some total) → 2 ^ 31 ≤ total → IsReached false bytes (Some TooLong)
narrow-passed bytes total has many = not-below bytes (2 ^ 31) (omega (arith, has.0, many))

pub narrow-untold : (bytes : ℕ) → HasTotal bytes None → IsReached false bytes (Some TooLong)
narrow-untold bytes has = not-below bytes (2 ^ 31) (omega (arith, has))

pub held-between : (kind : DataType) (values : List Value) (wide : Bool) (fault : Option ListFault) → wide_of kind ≡ Some wide
    → IsReached wide (byte_total values) fault → IsHeld kind values fault
held-between kind values wide fault between reached = by fault reached
  where
    are : OffsetsAre (is_wide kind) (form_of kind) (Some wide)
    are = subst (λ (w : Option Bool). OffsetsAre (is_wide kind) (form_of kind) w) between (offsets-are kind)

    by : (f : Option ListFault) → IsReached wide (byte_total values) f → IsHeld kind values f
    by None r = ((are (byte_total values)).0 ∙ r.0, (are (byte_total values)).1 ∙ r.1)
    by (Some TooLong) r = (are (byte_total values)).0 ∙ r
    by (Some NoMemory) r = tt
    by (Some (WrongKind column)) r = r

pub held-without : (kind : DataType) (values : List Value) → wide_of kind ≡ None → IsHeld kind values None
held-without kind values without =
    subst (λ (w : Option Bool). OffsetsAre (is_wide kind) (form_of kind) w) without (offsets-are kind) (byte_total values)

-- ---- what the columns are

own-test : (column k : ℕ) (kid : KindTree) → k ≡ column → explodes column k kid ≡ is_flat_list kid
own-test column k kid e = ap (λ b. if b then is_flat_list kid else is_flat_column kid) (eq-eqb k column e)

other-test : (column k : ℕ) (kid : KindTree) → k ≢ column → explodes column k kid ≡ is_flat_column kid
other-test column k kid ne =
    let no : nat_eq k column ≡ false = grind (arith, nat_tests, ne) in
    ap (λ b. if b then is_flat_list kid else is_flat_column kid) no

pub own-flat : (column : ℕ) (typed : KindTree) → first_wrong (explodes column) 0 (children_of typed) ≡ None → column < length (children_of typed)
    → is_flat_list (child_at typed column) ≡ true
own-flat column typed fitting inside =
    let here : 0 + column ≡ column = omega arith in
    sym (own-test column (0 + column) (child_at typed column) here) ∙ none-wrong (explodes column) 0 (children_of typed) fitting column inside

pub other-flat : (column : ℕ) (typed : KindTree) → first_wrong (explodes column) 0 (children_of typed) ≡ None → (k : ℕ) → k < length (children_of typed)
    → k ≢ column → is_flat_column (child_at typed k) ≡ true
other-flat column typed fitting k inside other =
    let apart : 0 + k ≢ column = λ e. other (omega (arith, e)) in
    sym (other-test column (0 + k) (child_at typed k) apart) ∙ none-wrong (explodes column) 0 (children_of typed) fitting k inside

pub has-item : (list : KindTree) → is_flat_list list ≡ true → 0 < length (children_of list)
has-item Released e = absurd (cc)
has-item (Live (kinds.List wide) no_trees dict) e = absurd (cc)
has-item (Live (kinds.List wide) (more_trees kid kids) dict) e = omega arith
has-item (Live _ kids dict) e = absurd (cc)

pub item-flat : (list : KindTree) → is_flat_list list ≡ true → is_flat_column (child_at list 0) ≡ true
item-flat Released e = absurd (cc)
item-flat (Live (kinds.List wide) no_trees dict) e = absurd (cc)
item-flat (Live (kinds.List wide) (more_trees kid kids) dict) e = e
item-flat (Live _ kids dict) e = absurd (cc)

-- ---- a column of values of these kinds

-- what `lawful_values_fit` says of an array's items
abbrev pub FitLaw : KindTree → ArrayTree → Type 0
FitLaw typed array =
    (kind : DataType) (values : List Value) → typed ≡ type_of_kind (Flat kind) → HasForm (form_of kind) → All (IsItemOf typed array) values
    → length values ≤ 2 ^ 40 → are_within (is_wide kind) (form_of kind) (byte_total values) ≡ true → are_bounded (form_of kind) (byte_total values) ≡ true
    → Fits kind values

module _ (column : ℕ) (typed : KindTree) (array : ArrayTree) (is : IsChunk typed array) (inside : column < length (children_of typed)) where
  pub fits-by : length (Explode column (rows_of typed array)) ≤ 2 ^ 40 → (k : ℕ) (kid : KindTree) (child : ArrayTree) (kind : DataType) (values : List Value)
      → get_or (exploded_kinds column typed) k kinds.Null ≡ kind → spread_values column typed array k ≡ values → FitLaw kid child
      → kid ≡ type_of_kind (Flat kind) → HasForm (form_of kind) → All (IsItemOf kid child) values → (r : Option ListFault) → IsHeld kind values r
      → IfNone r (FitsAt column typed array k)
  fits-by few k kid child kind values ek ev law e form all None held =
      let many = many-values column typed array is inside k in
      let long = ap length ev in
      subst (λ (d : DataType). Fits d (spread_values column typed array k)) (sym ek)
      (subst (Fits kind) (sym ev) (law kind values e form all (omega (arith, few, many, long)) held.0 held.1))
  fits-by few k kid child kind values ek ev law e form all (Some fault) held = tt

  pub long-by : (k : ℕ) (kind : DataType) (values : List Value) → get_or (exploded_kinds column typed) k kinds.Null ≡ kind
      → spread_values column typed array k ≡ values → (r : Option ListFault) → IsHeld kind values r
      → IfSome r (λ fault. IsLong (get_or (exploded_kinds column typed) k kinds.Null) (spread_values column typed array k) fault)
  long-by k kind values ek ev None held = tt
  long-by k kind values ek ev (Some fault) held =
      subst (λ (d : DataType). IsLong d (spread_values column typed array k) fault) (sym ek)
      (subst (λ (vs : List Value). IsLong kind vs fault) (sym ev) held)
