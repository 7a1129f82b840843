-- How long the lines of tagged rows are.
use Rattle.std.proofs.Common.{◌≡◌, ◌+◌, ◌*◌, ◌<◌, ◌≤◌, ℕ, zero, suc, Bool, true, false, [], ◌∷◌, ◌++◌, length, get_or, ap, arith, length-append, refl}
use Rattle.std.proofs.lemmas.Bool.{false≢true}
use Rattle.std.specs.Prelude.{decimal}
use Rattle.std.proofs.Math.Nat.{suc-mul, zero-mul}
use Rattle.data_types.specs.NumberedTexts.{numbered_line}
use Rattle.data_types.specs.promise.Table.{Row}
use Rattle.data_types.specs.promise.Value.{Value, Null, Truth, Whole, Bits, Bytes, Items, Fields, is_null}
use Rattle.data_types.specs.promise.ValueTexts.{value_text}
use Rattle.layout_rules.specs.promise.Values.{each}
use Rattle.union_cols.specs.promise.Tags.{tag_of, tagged_item, tagged_items}
use Rattle.union_cols.specs.promise.Unions.{UnionItem}
use Rattle.union_cols.proofs.TagSteps.{first-there}
use Rattle.value_text.specs.Lengths.{text_length}
use Rattle.tree_top.specs.NewLengths.{tag_line}
use Rattle.tree_top.specs.promise.UnionAnswer.{items_text}
use Rattle.tree_top.specs.AnswerParts.{numbered_item}
use Rattle.tree_top.proofs.NewLines.{decimal-some, value-some}
use Rattle.tree_top.proofs.UnionLines.{item_lines, lines-more}

-- a number, two marks, and the value
numbered-long : (n : ℕ) (v : Value) → length (value_text v) + 3 ≤ length (numbered_line (n, v))
numbered-long n v =
    omega (
      arith,
      decimal-some n,
      length-append (decimal n) (32 ∷ (value_text v ++ 10 ∷ [])),
      length-append (value_text v) (10 ∷ []),
    )

pub any-line : (row : Row) → 4 ≤ length (tag_line row)
any-line row = omega (arith, numbered-long (tag_of row) (get_or row (tag_of row) Null), value-some (get_or row (tag_of row) Null))

null-is : (v : Value) → is_null v ≡ true → v ≡ Null
null-is Null is = refl
null-is (Truth truth) is = absurd (false≢true is)
null-is (Whole number) is = absurd (false≢true is)
null-is (Bits bits) is = absurd (false≢true is)
null-is (Bytes bytes) is = absurd (false≢true is)
null-is (Items items) is = absurd (false≢true is)
null-is (Fields fields) is = absurd (false≢true is)

by-null : (b : Bool) (row : Row) (k c : ℕ) → is_null (get_or row k Null) ≡ b → k < length row
    → ((j : ℕ) → j < k → is_null (get_or row j Null) ≡ true) → c ≡ text_length (get_or row k Null) → 3 + c ≤ length (tag_line row)
by-null true row k c is lt before same =
    omega (arith, any-line row, same, ap text_length (null-is (get_or row k Null) is))
by-null false row k c is lt before same =
    let here : tag_of row ≡ k = first-there row k Null lt before is in
    omega (arith, same, numbered-long (tag_of row) (get_or row (tag_of row) Null), ap (λ p. length (value_text (get_or row p Null))) here)

-- where the columns before one are null, and that one's text has this length
pub known-line : (row : Row) (k c : ℕ) → k < length row → ((j : ℕ) → j < k → is_null (get_or row j Null) ≡ true)
    → c ≡ text_length (get_or row k Null) → 3 + c ≤ length (tag_line row)
known-line row k c lt before same = by-null (is_null (get_or row k Null)) row k c refl lt before same

map-each : (f : ℕ → Row) (a n : ℕ) → tagged_items (each f a n) ≡ each (λ i. tagged_item (f i)) a n
map-each f a zero = refl
map-each f a (suc n) = ap (λ items. tagged_item (f a) ∷ items) (map-each f (suc a) n)

least-items : (f : ℕ → UnionItem) (n least : ℕ) → ((i : ℕ) → i < n → least ≤ length (numbered_line (numbered_item (f i))))
    → n * least ≤ length (item_lines (each f 0 n))
least-items f zero least each_one = omega (arith, zero-mul least)
least-items f (suc n) least each_one =
    let e : n + 1 ≡ suc n = omega arith in
    omega (
      arith,
      suc-mul n least,
      least-items f n least (λ i lt. each_one i (omega (arith, lt))),
      each_one n (omega arith),
      ap (λ k. length (item_lines (each f 0 k))) e,
      ap length (lines-more f n),
      length-append (item_lines (each f 0 n)) (numbered_line (numbered_item (f n))),
    )

-- and with that of `ok`
pub least-text : (f : ℕ → Row) (n least : ℕ) → ((i : ℕ) → i < n → least ≤ length (tag_line (f i)))
    → 3 + n * least ≤ length (items_text (tagged_items (each f 0 n)))
least-text f n least each_one =
    omega (
      arith,
      least-items (λ i. tagged_item (f i)) n least each_one,
      ap (λ items. length (item_lines items)) (map-each f 0 n),
    )
