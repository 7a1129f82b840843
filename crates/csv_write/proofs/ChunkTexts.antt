-- The lines of a chunk's rows are those of the table's rows.
use Rattle.std.proofs.Common.{◌≡◌, ◌≢◌, ◌∙◌, ◌<◌, ◌+◌, ◌++◌, ◌^◌, ℕ, zero, suc, List, [], ◌∷◌, length, map, get_or, refl, sym, ap, subst, arith, Some}
use Rattle.std.proofs.Common.{below_more, append-nil, append_assoc}
use Rattle.std.specs.List.{AllZip, concat}
use Rattle.std.specs.Prelude.{ℤ, Bool}
use Rattle.std.proofs.lemmas.List.{length-append, length-map, map-append, get_or_append_left, get_or_default}
use Rattle.std.proofs.Math.Seq.{get_or-append_seam}
use Rattle.std.proofs.lemmas.List.Folds.{concat-append}
use Rattle.csv.specs.Writing.{default_writer, row_text}
use Rattle.data_types.specs.promise.FieldText.{Form, Truths, Wholes, FloatBits, Text, HexBytes, SizedHex, Decimals, form_of, written_field, written_form, written_if}
use Rattle.data_types.specs.promise.FieldText.{written_text}
use Rattle.data_types.specs.declared.kind.DataType.{DataType}
use Rattle.data_types.specs.declared.kind.DataType.TheVariants as kinds
use Rattle.data_types.specs.promise.Table.{Column, Kind, Flat, Dict, Columns}
use Rattle.data_types.specs.promise.Value.{Value, Null, Truth, Whole, Bits, Bytes, Items, Fields}
use Rattle.csv_model.specs.promise.Text.{row_fields}
use Rattle.csv_model.specs.Text.{rows_text}
use Rattle.tree_model.specs.promise.TreeParts.{children_of}
use Rattle.tree_model.specs.promise.TreeData.{tree_list, trees}
use Rattle.data_types.specs.promise.KindTrees.{KindTree}
use Rattle.layout_rules.specs.promise.Values.{each, row_items}
use Rattle.data_types.specs.promise.ColumnKinds.{type_of_columns}
use Rattle.data_types.specs.ColumnKinds.{type_of_column, types_of_columns}
use Rattle.arr_import.specs.Cols.{window_of}
use Rattle.arr_import.specs.Window.{Window, child_window, item_at}
use Rattle.csv_write.specs.ChunkTexts.{AreChildren, HasRow, IsChild, row_at, rows_at, text_in}
use Rattle.csv_write.specs.CsvTexts.{AreFormsOf, IsFormOf, rows_in}
use Rattle.field_codec.specs.FieldForms.{IsProper, form_in, null_text, written_in}
use Rattle.csv_write.specs.declared.chunk_text.ChunkColumn.{ChunkColumn}
use Rattle.field_codec.specs.declared.form.FieldForm.{FieldForm}
use Rattle.field_codec.specs.declared.form.FieldForm.TheVariants as forms

-- ---- lists, place by place

pub zip-push : {A B : Type 0} → (R : A → B → Type 0) (xs : List A) (ys : List B) (x : A) (y : B) → AllZip R xs ys → R x y
    → AllZip R (xs ++ x ∷ []) (ys ++ y ∷ [])
zip-push R [] [] x y h r = (r, tt)
zip-push R [] (b ∷ ys) x y h r = absurd h
zip-push R (a ∷ xs) [] x y h r = absurd h
zip-push R (a ∷ xs) (b ∷ ys) x y h r = (h.0, zip-push R xs ys x y h.1 r)

pub zip-long : {A B : Type 0} → (R : A → B → Type 0) (xs : List A) (ys : List B) → AllZip R xs ys → length xs ≡ length ys
zip-long R [] [] h = refl
zip-long R [] (b ∷ ys) h = absurd h
zip-long R (a ∷ xs) [] h = absurd h
zip-long R (a ∷ xs) (b ∷ ys) h = let more : length xs ≡ length ys = zip-long R xs ys h.1 in omega (arith, more)

zip-at : {A B : Type 0} → (R : A → B → Type 0) (xs : List A) (ys : List B) (j : ℕ) (d : A) (e : B) → AllZip R xs ys → j < length ys
    → R (get_or xs j d) (get_or ys j e)
zip-at R [] [] j d e h lt = absurd (omega (arith, lt))
zip-at R [] (b ∷ ys) j d e h lt = absurd h
zip-at R (a ∷ xs) [] j d e h lt = absurd h
zip-at R (a ∷ xs) (b ∷ ys) zero d e h lt = h.0
zip-at R (a ∷ xs) (b ∷ ys) (suc j) d e h lt = zip-at R xs ys j d e h.1 (omega (arith, lt))

pub each-push : {X : Type 0} → (f : ℕ → X) (from n : ℕ) → each f from (suc n) ≡ each f from n ++ f (from + n) ∷ []
each-push f from zero = let start : from ≡ from + 0 = omega arith in ap (λ k. f k ∷ []) start
each-push f from (suc n) =
    let place : suc from + n ≡ from + suc n = omega arith in
    ap (λ xs. f from ∷ xs) (each-push f (suc from) n ∙ ap (λ k. each f (suc from) n ++ f k ∷ []) place)

-- the lines of one more row
pub lines-push : (mark : List ℕ) (columns : List ChunkColumn) (n : ℕ) (text : List ℕ)
    → text ++ concat (map (row_text default_writer) (rows_at mark columns (n + 1)))
    ≡ (text ++ concat (map (row_text default_writer) (rows_at mark columns n))) ++ row_text default_writer (row_at mark columns n)
lines-push mark columns n text =
    let next : n + 1 ≡ suc n = omega arith in
    let place : 0 + n ≡ n = omega arith in
    let rows : rows_at mark columns (n + 1) ≡ rows_at mark columns n ++ row_at mark columns n ∷ [] =
    ap (λ m. each (row_at mark columns) 0 m) next ∙ each-push (row_at mark columns) 0 n
    ∙ ap (λ k. each (row_at mark columns) 0 n ++ row_at mark columns k ∷ []) place in
    rw (rows, map-append, concat-append, append-nil, append_assoc) refl

-- ---- the columns of a chunk

pub child-there : (column : ChunkColumn) (fs : List FieldForm) (w : Window) (k : ℕ) (d : FieldForm) → k < length fs → column.form ≡ get_or fs k d
    → window_of column.items ≡ child_window w k
    → ((i : ℕ) → get_or (row_items w.typed w.array (w.start + i)) k Null ≡ item_at (window_of column.items) i) → (f : FieldForm)
    → IsChild column (get_or fs k f) w k
child-there column fs w k d lt form window items f = record { form_is = form ∙ get_or_default fs k d f lt; count = ap (λ v. v.count) window; items = items }

pub children-push : (ts : List ChunkColumn) (t : ChunkColumn) (fs : List FieldForm) (w : Window) (k : ℕ) → length ts ≡ k
    → ((f : FieldForm) → IsChild t (get_or fs k f) w k)
    → ((j : ℕ) (d : ChunkColumn) (f : FieldForm) → j < k → IsChild (get_or ts j d) (get_or fs j f) w j)
    → (j : ℕ) (d : ChunkColumn) (f : FieldForm) → j < k + 1 → IsChild (get_or (ts ++ t ∷ []) j d) (get_or fs j f) w j
children-push ts t fs w k e last before j d f lt =
    below_more (λ n. (d : ChunkColumn) (f : FieldForm) → IsChild (get_or (ts ++ t ∷ []) n d) (get_or fs n f) w n) k
    (λ n less d f. subst (λ x. IsChild x (get_or fs n f) w n) (sym (get_or_append_left ts (t ∷ []) d n (omega (arith, less, e)))) (before n d f less))
    (λ d f. subst (λ x. IsChild x (get_or fs k f) w k) (sym (subst (λ n. get_or (ts ++ t ∷ []) n d ≡ t) e (get_or-append_seam ts t [] d))) (last f))
    j lt d f

-- the columns of a struct's first children
pub record AreFirst (columns : List ChunkColumn) (forms : List FieldForm) (w : Window) (k : ℕ) : Type 0 where
  pub count : length columns ≡ k
  pub each_is : (j : ℕ) (d : ChunkColumn) (f : FieldForm) → j < k → IsChild (get_or columns j d) (get_or forms j f) w j

pub first-push : (ts : List ChunkColumn) (t : ChunkColumn) (fs : List FieldForm) (w : Window) (k : ℕ) → AreFirst ts fs w k
    → ((f : FieldForm) → IsChild t (get_or fs k f) w k) → AreFirst (ts ++ t ∷ []) fs w (k + 1)
first-push ts t fs w k before last =
    let long = length-append ts (t ∷ []) in
    record { count = omega (arith, long, before.count); each_is = children-push ts t fs w k before.count last before.each_is }

pub first-all : (ts : List ChunkColumn) (fs : List FieldForm) (w : Window) (k : ℕ) → AreFirst ts fs w k → k ≡ length fs
    → ((i : ℕ) → length (row_items w.typed w.array (w.start + i)) ≡ length fs) → AreChildren ts fs w
first-all ts fs w k first end wide =
    record { count = first.count ∙ end; each_is = λ j d f lt. first.each_is j d f (omega (arith, lt, end)); wide = wide }

listed-trees : (types : List KindTree) → tree_list (trees types) ≡ types
listed-trees [] = refl
listed-trees (type ∷ types) = ap (λ ts. type ∷ ts) (listed-trees types)

pub kids-long : (columns : List Column) → length (children_of (type_of_columns columns)) ≡ length columns
kids-long columns = ap length (listed-trees (types_of_columns columns)) ∙ length-map columns type_of_column

-- ---- a row

-- a value is written by the form of its column
text-of : (mark : List ℕ) (form : FieldForm) (kind : DataType) (v : Value) → form_of kind ≡ Some (form_in form)
    → written_in mark (form_in form) v ≡ written_text mark kind v
text-of mark form kind Null is = refl
text-of mark form kind (Truth truth) is = ap (λ f. written_if f (Truth truth)) (sym is)
text-of mark form kind (Whole number) is = ap (λ f. written_if f (Whole number)) (sym is)
text-of mark form kind (Bits bits) is = ap (λ f. written_if f (Bits bits)) (sym is)
text-of mark form kind (Bytes bytes) is = ap (λ f. written_if f (Bytes bytes)) (sym is)
text-of mark form kind (Items items) is = ap (λ f. written_if f (Items items)) (sym is)
text-of mark form kind (Fields fields) is = ap (λ f. written_if f (Fields fields)) (sym is)

kind-text : (mark : List ℕ) (form : FieldForm) (kind : Kind) (v : Value) → IsFormOf form kind → written_in mark (form_in form) v ≡ written_field mark kind v
kind-text mark form (Flat kind) v h = text-of mark form kind v h.0
kind-text mark form (Dict kind) v h = text-of mark form kind v h.0
kind-text mark form (Columns _) v h = absurd h

-- ---- an item of another form

other-text : (mark : List ℕ) (form : Form) (v : Value) → written_form form v ≡ [] → written_in mark form v ≡ null_text mark v
other-text mark form Null none = refl
other-text mark form (Truth truth) none = none
other-text mark form (Whole number) none = none
other-text mark form (Bits bits) none = none
other-text mark form (Bytes bytes) none = none
other-text mark form (Items items) none = none
other-text mark form (Fields fields) none = none

pub other-truth : (mark : List ℕ) (v : Value) → ((truth : Bool) → v ≢ Truth truth) → written_in mark Truths v ≡ null_text mark v
other-truth mark Null other = refl
other-truth mark (Truth truth) other = absurd (other truth refl)
other-truth mark (Whole number) other = refl
other-truth mark (Bits bits) other = refl
other-truth mark (Bytes bytes) other = refl
other-truth mark (Items items) other = refl
other-truth mark (Fields fields) other = refl

pub other-whole : (mark : List ℕ) (bits : ℕ) (signed : Bool) (v : Value) → ((number : ℤ) → v ≢ Whole number)
    → written_in mark (Wholes bits signed) v ≡ null_text mark v
other-whole mark bits signed Null other = refl
other-whole mark bits signed (Truth truth) other = refl
other-whole mark bits signed (Whole number) other = absurd (other number refl)
other-whole mark bits signed (Bits n) other = refl
other-whole mark bits signed (Bytes bytes) other = refl
other-whole mark bits signed (Items items) other = refl
other-whole mark bits signed (Fields fields) other = refl

pub other-decimal : (mark : List ℕ) (precision places : ℕ) (v : Value) → ((number : ℤ) → v ≢ Whole number)
    → written_in mark (Decimals precision places) v ≡ null_text mark v
other-decimal mark precision places Null other = refl
other-decimal mark precision places (Truth truth) other = refl
other-decimal mark precision places (Whole number) other = absurd (other number refl)
other-decimal mark precision places (Bits n) other = refl
other-decimal mark precision places (Bytes bytes) other = refl
other-decimal mark precision places (Items items) other = refl
other-decimal mark precision places (Fields fields) other = refl

pub other-bits : (mark : List ℕ) (size : ℕ) (v : Value) → ((bits : ℕ) → v ≢ Bits bits) → written_in mark (FloatBits size) v ≡ null_text mark v
other-bits mark size Null other = refl
other-bits mark size (Truth truth) other = refl
other-bits mark size (Whole number) other = refl
other-bits mark size (Bits bits) other = absurd (other bits refl)
other-bits mark size (Bytes bytes) other = refl
other-bits mark size (Items items) other = refl
other-bits mark size (Fields fields) other = refl

-- ---- an item where the form is of bytes
-- forms of bytes
abbrev IsOfBytes : Form → Type 0
IsOfBytes Text = Unit {0}
IsOfBytes HexBytes = Unit {0}
IsOfBytes (SizedHex size) = Unit {0}
IsOfBytes _ = ⊥

bytes-none : (form : Form) (v : Value) → IsOfBytes form → ((bytes : List ℕ) → v ≢ Bytes bytes) → written_form form v ≡ []
bytes-none Text Null of other = refl
bytes-none Text (Truth truth) of other = refl
bytes-none Text (Whole number) of other = refl
bytes-none Text (Bits n) of other = refl
bytes-none Text (Bytes bytes) of other = absurd (other bytes refl)
bytes-none Text (Items items) of other = refl
bytes-none Text (Fields fields) of other = refl
bytes-none HexBytes Null of other = refl
bytes-none HexBytes (Truth truth) of other = refl
bytes-none HexBytes (Whole number) of other = refl
bytes-none HexBytes (Bits n) of other = refl
bytes-none HexBytes (Bytes bytes) of other = absurd (other bytes refl)
bytes-none HexBytes (Items items) of other = refl
bytes-none HexBytes (Fields fields) of other = refl
bytes-none (SizedHex size) Null of other = refl
bytes-none (SizedHex size) (Truth truth) of other = refl
bytes-none (SizedHex size) (Whole number) of other = refl
bytes-none (SizedHex size) (Bits n) of other = refl
bytes-none (SizedHex size) (Bytes bytes) of other = absurd (other bytes refl)
bytes-none (SizedHex size) (Items items) of other = refl
bytes-none (SizedHex size) (Fields fields) of other = refl
bytes-none _ v of other = absurd of

pub other-bytes : (mark : List ℕ) (form : Form) (v : Value) → IsOfBytes form → ((bytes : List ℕ) → v ≢ Bytes bytes) → written_in mark form v ≡ null_text mark v
other-bytes mark form v of other = other-text mark form v (bytes-none form v of other)

pub ruleset other_texts = (other-truth, other-whole, other-decimal, other-bits, other-bytes)

-- ---- the fields of a row
kind-proper : (form : FieldForm) (kind : Kind) → IsFormOf form kind → IsProper form
kind-proper form (Flat kind) h = h.1
kind-proper form (Dict kind) h = h.1
kind-proper form (Columns _) h = absurd h

abbrev no_column : Column
no_column = record { name = []; kind = Flat kinds.Bool }

text-at : (mark : List ℕ) (columns : List ChunkColumn) (i j : ℕ) (text : List ℕ) → j < length columns
    → ((d : ChunkColumn) → text_in mark i (get_or columns j d) ≡ text) → get_or (row_at mark columns i) j [] ≡ text
text-at mark [] i j text lt same = absurd (omega (arith, lt))
text-at mark (column ∷ columns) i zero text lt same = same column
text-at mark (column ∷ columns) i (suc j) text lt same = text-at mark columns i j text (omega (arith, lt)) same

fields-are : (mark : List ℕ) (columns : List Column) (row : List Value) (texts : List (List ℕ)) → length texts ≡ length columns → length row ≡ length columns
    → ((j : ℕ) (c : Column) → j < length columns → get_or texts j [] ≡ written_field mark (get_or columns j c).kind (get_or row j Null))
    → texts ≡ row_fields mark columns row
fields-are mark [] row [] e l same = refl
fields-are mark [] row (t ∷ texts) e l same = absurd (omega (arith, e))
fields-are mark (c ∷ cs) [] texts e l same = absurd (omega (arith, l))
fields-are mark (c ∷ cs) (v ∷ row) [] e l same = absurd (omega (arith, e))
fields-are mark (c ∷ cs) (v ∷ row) (t ∷ texts) e l same =
    let head : t ≡ written_field mark c.kind v = same 0 c (omega arith) in
    ap (λ x. x ∷ texts) head
    ∙ ap (λ xs. written_field mark c.kind v ∷ xs)
    (fields-are mark cs row texts (omega (arith, e)) (omega (arith, l)) (λ j d lt. same (suc j) d (omega (arith, lt))))

module _ (mark : List ℕ) (ts : List ChunkColumn) (fs : List FieldForm) (columns : List Column) (w : Window) (are : AreChildren ts fs w)
    (of : AreFormsOf fs columns) where
  long : length fs ≡ length columns
  long = zip-long (λ form column. IsFormOf form column.kind) fs columns of

  child-text : (i j : ℕ) (c : Column) (d : ChunkColumn) → j < length columns
      → text_in mark i (get_or ts j d) ≡ written_field mark (get_or columns j c).kind (get_or (row_items w.typed w.array (w.start + i)) j Null)
  child-text i j c d lt =
      let few : j < length fs = omega (arith, lt, long) in
      let child = are.each_is j d forms.Truths few in
      ap (λ f. written_in mark (form_in f) (item_at (window_of (get_or ts j d).items) i)) child.form_is
      ∙ ap (λ v. written_in mark (form_in (get_or fs j forms.Truths)) v) (sym (child.items i))
      ∙ kind-text mark (get_or fs j forms.Truths) (get_or columns j c).kind _
      (zip-at (λ form column. IsFormOf form column.kind) fs columns j forms.Truths c of lt)

  row-is : (i : ℕ) → row_at mark ts i ≡ row_fields mark columns (row_items w.typed w.array (w.start + i))
  row-is i =
      fields-are mark columns (row_items w.typed w.array (w.start + i)) (row_at mark ts i)
      (omega (arith, length-map ts (text_in mark i), are.count, long)) (are.wide i ∙ long)
      (λ j c lt.
      let some : j < length ts = omega (arith, lt, long, are.count) in
      text-at mark ts i j _ some (λ d. child-text i j c d lt))

  -- ---- all rows

  lines-from : (n from place : ℕ) → place ≡ w.start + from
      → concat (map (row_text default_writer) (each (row_at mark ts) from n)) ≡ rows_text mark columns (each (row_items w.typed w.array) place n)
  lines-from zero from place e = refl
  lines-from (suc n) from place e =
      let next : suc place ≡ w.start + suc from = omega (arith, e) in
      ap (λ fields. row_text default_writer fields ++ concat (map (row_text default_writer) (each (row_at mark ts) (suc from) n)))
      (row-is from ∙ ap (λ k. row_fields mark columns (row_items w.typed w.array k)) (sym e))
      ∙ ap (λ text. row_text default_writer (row_fields mark columns (row_items w.typed w.array place)) ++ text) (lines-from n (suc from) (suc place) next)

  pub lines-are : concat (map (row_text default_writer) (rows_at mark ts w.count)) ≡ rows_text mark columns (rows_in w)
  lines-are = let start : w.start ≡ w.start + 0 = omega arith in lines-from w.count 0 w.start start

  pub rows-there : w.count < 2 ^ 63 → (i : ℕ) → i < w.count → HasRow ts i
  rows-there small i lt j d inside =
      let few : j < length fs = omega (arith, inside, are.count) in
      let some : j < length columns = omega (arith, few, long) in
      let child = are.each_is j d forms.Truths few in
      let form = zip-at (λ form column. IsFormOf form column.kind) fs columns j forms.Truths no_column of some in
      record {
        proper = subst (λ f. IsProper f) (sym child.form_is) (kind-proper (get_or fs j forms.Truths) (get_or columns j no_column).kind form);
        inside = omega (arith, lt, child.count);
        small = omega (arith, small, lt);
      }
