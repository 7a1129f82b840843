-- A column of a chunk, as a window over its items and as the values of the chunk's rows.
use Rattle.std.proofs.Common.{◌≡◌, ◌∙◌, ◌+◌, ℕ, zero, suc, Bool, true, false, List, ◌∷◌, length, map, get_or, refl, sym, ap, subst, arith}
use Rattle.std.proofs.lemmas.List.{length-map}
use Rattle.data_types.specs.promise.Parts.{column_values}
use Rattle.data_types.specs.promise.Table.{Row}
use Rattle.data_types.specs.promise.Value.{Value, Null}
use Rattle.data_types.specs.declared.kind.DataType.{DataType}
use Rattle.tree_model.specs.promise.TreeData.{Released, Live}
use Rattle.raw_array.specs.promise.Members.{ArrayTree, members_of}
use Rattle.data_types.specs.promise.KindTrees.{KindTree}
use Rattle.layout_rules.specs.promise.Layout.{natural}
use Rattle.layout_rules.specs.promise.Values.{each, row_items, rows_of, tree_items, value_at}
use Rattle.arr_export.specs.ArrayTrees.{IsColumn}
use Rattle.arr_import.specs.Window.{Window, child_window, item_at, items_of, whole}
use Rattle.stream_face.specs.Lawful.{AreValues}
use Rattle.column_fill.proofs.Counts.{length-each}
use Rattle.dict_stage.specs.Indices.{recoded_tree}
use Rattle.dict_stage.specs.Recoded.{TextsOf, text_kind}
use Rattle.dict_stage.specs.Texts.{HasTexts}
use Rattle.dict_stage.proofs.Codes.{count-of}
use Rattle.dict_stage.proofs.Recoded.{length-indices}

from-zero : {X : Type 0} (f : ℕ → X) (from n : ℕ) → each f from n ≡ each (λ i. f (from + i)) 0 n
from-zero f from n = shifted f from 0 from n (omega arith)
  where
    shifted : {X : Type 0} (f : ℕ → X) (from k at n : ℕ) → at ≡ from + k → each f at n ≡ each (λ i. f (from + i)) k n
    shifted f from k at zero is = refl
    shifted f from k at (suc n) is = λ i. f (is i) ∷ shifted f from (suc k) (suc at) n (omega (arith, is)) i

each-same : {X : Type 0} (f g : ℕ → X) (from n : ℕ) → ((i : ℕ) → f i ≡ g i) → each f from n ≡ each g from n
each-same f g from zero same = refl
each-same f g from (suc n) same = λ i. same from i ∷ each-same f g (suc from) n same i

map-each : {X Y : Type 0} (g : X → Y) (f : ℕ → X) (from n : ℕ) → map g (each f from n) ≡ each (λ i. g (f i)) from n
map-each g f from zero = refl
map-each g f from (suc n) = ap (λ (ys : List _). g (f from) ∷ ys) (map-each g f (suc from) n)

pub row-count : (typed : KindTree) (chunk : ArrayTree) (place : ℕ) → length (column_values place (rows_of typed chunk)) ≡ tree_items chunk
row-count typed chunk place =
    omega (
      arith,
      length-map (rows_of typed chunk) (λ (row : Row). get_or row place Null),
      length-each (row_items typed chunk) 0 (tree_items chunk),
    )

-- the items of a chunk's column are the values of its rows
pub own-values : (typed : KindTree) (chunk : ArrayTree) (place : ℕ) (w own : Window) → w ≡ whole typed chunk → own ≡ child_window w place
    → ((i : ℕ) → get_or (row_items w.typed w.array (w.start + i)) place Null ≡ item_at own i)
    → items_of own ≡ column_values place (rows_of typed chunk)
own-values typed chunk place w own is window same =
    let n = tree_items chunk in
    let count : own.count ≡ n = ap (λ (v : Window). v.count) window ∙ ap (λ (v : Window). v.count) is in
    let there = subst (λ (v : Window). (i : ℕ) → get_or (row_items v.typed v.array (v.start + i)) place Null ≡ item_at own i) is same in
    from-zero (value_at own.typed own.array) own.start own.count ∙ ap (each (item_at own) 0) count
    ∙ each-same (item_at own) (λ i. get_or (row_items typed chunk i) place Null) 0 n
    (λ i. let e : 0 + i ≡ i = omega arith in sym (there i) ∙ ap (λ k. get_or (row_items typed chunk k) place Null) e)
    ∙ sym (map-each (λ (row : Row). get_or row place Null) (row_items typed chunk) 0 n)

pub texts-in : (type : DataType) (own : Window) (vs : List Value) → items_of own ≡ vs → TextsOf type vs → HasTexts type own
texts-in type own vs is texts = record {
  is = texts.is;
  bytes = texts.bytes;
  items = subst (AreValues type) (sym is) texts.are;
  few = let e = ap (length {A = Value}) is in omega (arith, e, count-of own, texts.few);
}

items-are : (chunk : ArrayTree) → tree_items chunk ≡ natural (members_of chunk).length
items-are Released = refl
items-are (Live m ts d) = refl

column-of : (dict : Bool) (type : DataType) (vs : List Value) (n : ℕ) → n ≡ length vs → IsColumn n (recoded_tree (text_kind dict type) vs)
column-of false type vs n is = record { live = tt; not_deep = omega arith; long = omega (arith, is) }
column-of true type vs n is = record { live = tt; not_deep = omega arith; long = omega (arith, is, length-indices vs) }

-- the new column may be in the chunk's table
pub column-fits : (dict : Bool) (type : DataType) (typed : KindTree) (chunk column : ArrayTree) (place : ℕ)
    → column ≡ recoded_tree (text_kind dict type) (column_values place (rows_of typed chunk)) → IsColumn (natural (members_of chunk).length) column
column-fits dict type typed chunk column place is =
    subst (IsColumn (natural (members_of chunk).length)) (sym is)
    (column-of dict type (column_values place (rows_of typed chunk)) (natural (members_of chunk).length)
    (sym (items-are chunk) ∙ sym (row-count typed chunk place)))
