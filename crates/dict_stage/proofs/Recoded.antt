-- The arrays that are made of values of texts or bytes: what they cost, that they are lawful, and their values.
use Rattle.std.proofs.Common.{◌≡◌, ◌≢◌, ◌∙◌, ◌≤◌, ◌<◌, ◌+◌, ◌^◌, ◌||◌, ◌++◌, ℕ, suc, Bool, true, false, not, List, [], ◌∷◌, length, map, get_or, All}
use Rattle.std.proofs.Common.{None, Some, refl, sym, ap, subst, arith, true≢false}
use Rattle.std.proofs.lemmas.List.{length-map}
use Rattle.std.proofs.lemmas.List.Elements.{All-cons, All-head, All-tail}
use Rattle.std.specs.Prelude.{Option, if◌then◌else◌}
use Rattle.std.specs.List.{list_any}
use Rattle.std.specs.Str.{bytes_eq}
use Rattle.std.proofs.lemmas.Slice.Eq.{bytes_eq-Decides}
use Rattle.data_types.specs.ColumnForms.{IsColumnKind}
use Rattle.data_types.specs.FieldText.{IsValueOf}
use Rattle.data_types.specs.promise.Table.{Flat, Dict}
use Rattle.data_types.specs.promise.Value.{Value, Null, Truth, Whole, Bits, Bytes, Items, Fields, is_null}
use Rattle.data_types.specs.declared.kind.DataType.{DataType}
use Rattle.tree_model.specs.promise.TreeData.{maybe_tree}
use Rattle.unit_pass.specs.promise.Tally.{risen}
use Rattle.unit_pass.specs.Tally.{Tally}
use Rattle.raw_array.specs.promise.Members.{ArrayTree, Cost, holds_of}
use Rattle.raw_array.specs.Members.{cost_of_maybe}
use Rattle.col_build.specs.promise.Encoding.{encoded}
use Rattle.col_build.specs.Encoding.{Fits}
use Rattle.col_build.specs.promise.Finished.{blocks_of, present_count}
use Rattle.arr_export.specs.promise.ArrayTrees.{column_tree, made_buffers}
use Rattle.arr_export.specs.ArrayTrees.{AreIndices, IsPlaceOf, looked_up}
use Rattle.stage_model.specs.promise.Dictionary.{Dictionary}
use Rattle.stage_model.specs.Dictionary.{has_bytes}
use Rattle.stage_model.specs.promise.Traffic.{Made, flat_blocks, kind_blocks}
use Rattle.stage_model.specs.Traffic.{index_blocks, row_blocks}
use Rattle.stream_face.specs.Lawful.{AreValues, HasBytes}
use Rattle.column_fill.proofs.ColumnBlocks.{blocks-are}
use Rattle.column_fill.proofs.ColumnCosts.{few-blocks}
use Rattle.column_fill.proofs.ValuesTaken.{values-fit}
use Rattle.dict_stage.specs.Indices.{Indices, index_type, recoded_tree}
use Rattle.dict_stage.specs.Recoded.{IsRecoded}
use Rattle.item_keys.specs.Distinct.{number_of, texts_with}
use Rattle.dict_stage.specs.Texts.{IsText, index_by, texts_after}
use Rattle.dict_stage.proofs.Codes.{fewer, index-kind, index-of, no-bytes, shorter, text-of}
use Rattle.dict_stage.proofs.Texts.{AreIn, are-in-after, dictionary-is, indices-are, with-new, with-old}

-- ---- what a column costs

holds-are : (buffers : List (Option (List ℕ))) → holds_of (made_buffers buffers) ≡ present_count buffers
holds-are [] = refl
holds-are (None ∷ buffers) = holds-are buffers
holds-are (Some bytes ∷ buffers) = ap (λ n. 1 + n) (holds-are buffers)

pub column-cost : (kind : DataType) (values : List Value) (dictionary : Option ArrayTree)
    → Cost (column_tree kind values dictionary) ≡ 1 + blocks_of kind values + cost_of_maybe (maybe_tree dictionary)
column-cost kind values dictionary = omega (arith, holds-are (encoded kind values).buffers)

-- ---- the dictionary's values

abbrev AreOf : DataType → List (List ℕ) → Type 0
AreOf type [] = Unit {0}
AreOf type (text ∷ texts) = IsValueOf type (Bytes text) × AreOf type texts

of-push : (type : DataType) (texts : List (List ℕ)) (text : List ℕ) → AreOf type texts → IsValueOf type (Bytes text) → AreOf type (texts ++ text ∷ [])
of-push type [] text are is = (is, tt)
of-push type (t ∷ texts) text are is = (are.0, of-push type texts text are.1 is)

of-with : (b : Bool) (type : DataType) (texts : List (List ℕ)) (text : List ℕ) → has_bytes texts text ≡ b → AreOf type texts
    → IsValueOf type (Bytes text) → AreOf type (texts_with texts text)
of-with true type texts text e are is = subst (AreOf type) (sym (with-old texts text e)) are
of-with false type texts text e are is = subst (AreOf type) (sym (with-new texts text e)) (of-push type texts text are is)

of-after : (type : DataType) (texts : List (List ℕ)) (vs : List Value) → AreOf type texts → All (IsValueOf type) vs → AreOf type (texts_after texts vs)
of-after type texts [] are all = are
of-after type texts (Bytes text ∷ vs) are all =
    of-after type (texts_with texts text) vs
    (of-with (has_bytes texts text) type texts text refl are (All-head (IsValueOf type) (Bytes text) vs all)) (All-tail (IsValueOf type) (Bytes text) vs all)
of-after type texts (Null ∷ vs) are all = of-after type texts vs are (All-tail (IsValueOf type) Null vs all)
of-after type texts (Truth t ∷ vs) are all = of-after type texts vs are (All-tail (IsValueOf type) (Truth t) vs all)
of-after type texts (Whole n ∷ vs) are all = of-after type texts vs are (All-tail (IsValueOf type) (Whole n) vs all)
of-after type texts (Bits n ∷ vs) are all = of-after type texts vs are (All-tail (IsValueOf type) (Bits n) vs all)
of-after type texts (Items xs ∷ vs) are all = of-after type texts vs are (All-tail (IsValueOf type) (Items xs) vs all)
of-after type texts (Fields xs ∷ vs) are all = of-after type texts vs are (All-tail (IsValueOf type) (Fields xs) vs all)

all-of : (type : DataType) (texts : List (List ℕ)) → AreOf type texts → All (IsValueOf type) (map Bytes texts)
all-of type [] are = λ k none small. absurd (omega (arith, small))
all-of type (text ∷ texts) are = All-cons (IsValueOf type) (Bytes text) (map Bytes texts) are.0 (all-of type texts are.1)

entry-values : (type : DataType) (vs : List Value) → AreValues type vs → AreValues type (Dictionary vs)
entry-values type vs are =
    subst (AreValues type) (dictionary-is vs)
    (all-of type (texts_after [] vs) (of-after type [] vs tt are.0), (omega (arith, shorter [] vs, are.1)))

few-entries : (vs : List Value) → length (Dictionary vs) ≤ length vs
few-entries vs =
    let e = ap (length {A = Value}) (dictionary-is vs) in omega (arith, e, fewer [] vs, length-map (texts_after [] vs) Bytes)

pub dictionary-fits : (type : DataType) (vs : List Value) → IsColumnKind type → AreValues type vs → length vs ≤ 2 ^ 30 → Fits type (Dictionary vs)
dictionary-fits type vs is are few = values-fit type (Dictionary vs) is (entry-values type vs are) (omega (arith, few-entries vs, few))

no-null : (texts : List (List ℕ)) → All (λ v. v ≢ Null) (map Bytes texts)
no-null [] = λ k none small. absurd (omega (arith, small))
no-null (text ∷ texts) = All-cons (λ (v : Value). v ≢ Null) (Bytes text) (map Bytes texts) (λ e. absurd (cc)) (no-null texts)

pub dictionary-full : (vs : List Value) → All (λ v. v ≢ Null) (Dictionary vs)
dictionary-full vs = subst (All (λ v. v ≢ Null)) (dictionary-is vs) (no-null (texts_after [] vs))

-- ---- the indices

all-index : (texts : List (List ℕ)) (vs : List Value) → length texts < 2 ^ 31 → All (IsValueOf index_type) (map (index_by texts) vs)
all-index texts [] few = λ k none small. absurd (omega (arith, small))
all-index texts (v ∷ vs) few =
    All-cons (IsValueOf index_type) (index_by texts v) (map (index_by texts) vs) (index-of texts v few) (all-index texts vs few)

index-values : (vs : List Value) → length vs ≤ 2 ^ 30 → AreValues index_type (Indices vs)
index-values vs few =
    let texts = texts_after [] vs in
    subst (AreValues index_type) (indices-are vs) (all-index texts vs (omega (arith, fewer [] vs, few)), (omega (arith, no-bytes texts vs)))

pub length-indices : (vs : List Value) → length (Indices vs) ≡ length vs
length-indices vs = length-map vs _

pub indices-fit : (vs : List Value) → length vs ≤ 2 ^ 30 → Fits index_type (Indices vs)
indices-fit vs few = values-fit index_type (Indices vs) index-kind (index-values vs few) (let e = length-indices vs in omega (arith, e, few))

below : (texts : List (List ℕ)) (text : List ℕ) → has_bytes texts text ≡ true → number_of texts text < length texts
below [] text has = absurd (true≢false (sym has))
below (t ∷ texts) text has =
    elim (bytes_eq t text) as (λ b. (b || has_bytes texts text) ≡ true → (if not b then 1 + number_of texts text else 0) < suc (length texts)) [
      | true ↦ λ h. omega arith
      | false ↦ λ h. let e = below texts text h in omega (arith, e)
    ] has

places : (texts : List (List ℕ)) (vs : List Value) → AreIn texts vs → All (IsPlaceOf (length texts)) (map (index_by texts) vs)
places texts [] are = λ k none small. absurd (omega (arith, small))
places texts (Bytes text ∷ vs) are =
    All-cons (IsPlaceOf (length texts)) (index_by texts (Bytes text)) (map (index_by texts) vs) (below texts text are.0) (places texts vs are.1)
places texts (Null ∷ vs) are = All-cons (IsPlaceOf (length texts)) Null (map (index_by texts) vs) tt (places texts vs are)
places texts (Truth t ∷ vs) are = All-cons (IsPlaceOf (length texts)) Null (map (index_by texts) vs) tt (places texts vs are)
places texts (Whole n ∷ vs) are = All-cons (IsPlaceOf (length texts)) Null (map (index_by texts) vs) tt (places texts vs are)
places texts (Bits n ∷ vs) are = All-cons (IsPlaceOf (length texts)) Null (map (index_by texts) vs) tt (places texts vs are)
places texts (Items xs ∷ vs) are = All-cons (IsPlaceOf (length texts)) Null (map (index_by texts) vs) tt (places texts vs are)
places texts (Fields xs ∷ vs) are = All-cons (IsPlaceOf (length texts)) Null (map (index_by texts) vs) tt (places texts vs are)

pub indices-of : (type : DataType) (vs : List Value) → AreIndices index_type (Indices vs) (column_tree type (Dictionary vs) None)
indices-of type vs =
    let texts = texts_after [] vs in
    let count : length texts ≡ length (Dictionary vs) =
    let e = ap (length {A = Value}) (dictionary-is vs) in omega (arith, e, length-map texts Bytes) in
    record {
      kind_ok = tt;
      live = tt;
      not_deep = omega arith;
      places = subst (λ n. All (IsPlaceOf n) (Indices vs)) count
          (subst (All (IsPlaceOf (length texts))) (indices-are vs) (places texts vs (are-in-after [] vs)));
    }

-- ---- blocks

abbrev AreTexts : List Value → Type 0
AreTexts [] = Unit {0}
AreTexts (v ∷ vs) = IsText v × AreTexts vs

pub texts-of : (type : DataType) (vs : List Value) → HasBytes type → All (IsValueOf type) vs → AreTexts vs
texts-of type [] has all = tt
texts-of type (v ∷ vs) has all =
    (text-of type v has (All-head (IsValueOf type) v vs all), texts-of type vs has (All-tail (IsValueOf type) v vs all))

same-null : (texts : List (List ℕ)) (v : Value) → IsText v → is_null (index_by texts v) ≡ is_null v
same-null texts Null is = refl
same-null texts (Bytes text) is = refl
same-null texts _ is = absurd is

same-nulls : (texts : List (List ℕ)) (vs : List Value) → AreTexts vs → list_any is_null (map (index_by texts) vs) ≡ list_any is_null vs
same-nulls texts [] are = refl
same-nulls texts (v ∷ vs) are = λ i. same-null texts v are.0 i || same-nulls texts vs are.1 i

same-rows : (texts : List (List ℕ)) (vs : List Value) → row_blocks (map (index_by texts) vs) ≡ row_blocks vs
same-rows texts [] = refl
same-rows texts (v ∷ vs) = refl

index-are : (texts : List (List ℕ)) (vs : List Value) → AreTexts vs → flat_blocks index_type (map (index_by texts) vs) ≡ index_blocks vs
index-are texts vs are = λ i. (if same-nulls texts vs are i then 1 else 0) + same-rows texts vs i

pub index-blocks : (type : DataType) (vs : List Value) → HasBytes type → AreValues type vs → length vs ≤ 2 ^ 30
    → blocks_of index_type (Indices vs) ≡ index_blocks vs
index-blocks type vs has are few =
    blocks-are index_type (Indices vs) index-kind (index-values vs few).0
    ∙ ap (flat_blocks index_type) (sym (indices-are vs)) ∙ index-are (texts_after [] vs) vs (texts-of type vs has are.0)

pub entry-blocks : (type : DataType) (vs : List Value) → IsColumnKind type → AreValues type vs
    → blocks_of type (Dictionary vs) ≡ flat_blocks type (Dictionary vs)
entry-blocks type vs is are = blocks-are type (Dictionary vs) is (entry-values type vs are).0

-- ---- the arrays, made

risen-more : (a b c m n : ℕ) → b ≡ risen a m → c ≡ risen b n → c ≡ risen a (m + n)
risen-more a b c m n e f = omega (arith, e, f)

pub plain-made : (type : DataType) (vs : List Value) (tree : ArrayTree) (before after : Tally) → IsColumnKind type → AreValues type vs
    → tree ≡ column_tree type vs None → after.units + (1 + blocks_of type vs) ≡ before.units
    → after.blocks ≡ risen before.blocks (blocks_of type vs) → after.nodes ≡ risen before.nodes 1
    → IsRecoded (Flat type) vs tree before after
plain-made type vs tree before after is are tree_is units blocks nodes =
    let cost = ap Cost tree_is in
    record {
      tree_is = tree_is;
      units = omega (arith, cost, column-cost type vs None, units);
      small = omega (arith, cost, column-cost type vs None, few-blocks type vs);
      blocks = blocks ∙ ap (risen before.blocks) (blocks-are type vs is are.0);
      nodes = nodes;
    }

pub dict-made : (type : DataType) (vs : List Value) (dictionary tree : ArrayTree) (before between after : Tally)
    → IsColumnKind type → HasBytes type → AreValues type vs → length vs ≤ 2 ^ 30
    → dictionary ≡ column_tree type (Dictionary vs) None → between.units + (1 + blocks_of type (Dictionary vs)) ≡ before.units
    → between.blocks ≡ risen before.blocks (blocks_of type (Dictionary vs)) → between.nodes ≡ risen before.nodes 1
    → tree ≡ column_tree index_type (Indices vs) (Some dictionary) → after.units + (1 + blocks_of index_type (Indices vs)) ≡ between.units
    → after.blocks ≡ risen between.blocks (blocks_of index_type (Indices vs)) → after.nodes ≡ risen between.nodes 1
    → IsRecoded (Dict type) vs tree before after
dict-made type vs dictionary tree before between after is has are few own own_units own_blocks own_nodes tree_is units blocks nodes =
    let whole : tree ≡ recoded_tree (Dict type) vs = tree_is ∙ ap (λ (d : ArrayTree). column_tree index_type (Indices vs) (Some d)) own in
    let cost = ap Cost whole in
    let a = column-cost index_type (Indices vs) (Some (column_tree type (Dictionary vs) None)) in
    let b = column-cost type (Dictionary vs) None in
    let entries = entry-blocks type vs is are in
    let indices = index-blocks type vs has are few in
    let all : blocks_of type (Dictionary vs) + blocks_of index_type (Indices vs) ≡ kind_blocks Made (Dict type) vs = omega (arith, entries, indices) in
    record {
      tree_is = whole;
      units = omega (arith, cost, a, b, own_units, units);
      small = omega (arith, cost, a, b, few-blocks type (Dictionary vs), few-blocks index_type (Indices vs));
      blocks = risen-more before.blocks between.blocks after.blocks (blocks_of type (Dictionary vs)) (blocks_of index_type (Indices vs)) own_blocks blocks
          ∙ ap (risen before.blocks) all;
      nodes = risen-more before.nodes between.nodes after.nodes 1 1 own_nodes nodes;
    }

-- ---- the values, looked up

own-entry : (texts : List (List ℕ)) (text : List ℕ) → has_bytes texts text ≡ true → get_or (map Bytes texts) (number_of texts text) Null ≡ Bytes text
own-entry [] text has = absurd (true≢false (sym has))
own-entry (t ∷ texts) text has =
    elim (bytes_eq t text) as (λ b. bytes_eq t text ≡ b → (b || has_bytes texts text) ≡ true
    → get_or (map Bytes (t ∷ texts)) (if not b then 1 + number_of texts text else 0) Null ≡ Bytes text) [
      | true ↦ λ e h. ap Bytes ((bytes_eq-Decides t text).0 e)
      | false ↦ λ e h.
          let s : 1 + number_of texts text ≡ suc (number_of texts text) = omega arith in
          ap (λ n. get_or (map Bytes (t ∷ texts)) n Null) s ∙ own-entry texts text h
    ] refl has

looked-by : (texts : List (List ℕ)) (vs : List Value) → AreTexts vs → AreIn texts vs → map (looked_up (map Bytes texts)) (map (index_by texts) vs) ≡ vs
looked-by texts [] are among = refl
looked-by texts (Null ∷ vs) are among = ap (λ (xs : List Value). Null ∷ xs) (looked-by texts vs are.1 among)
looked-by texts (Bytes text ∷ vs) are among = λ i. own-entry texts text among.0 i ∷ looked-by texts vs are.1 among.1 i
looked-by texts (Truth t ∷ vs) are among = absurd are.0
looked-by texts (Whole n ∷ vs) are among = absurd are.0
looked-by texts (Bits n ∷ vs) are among = absurd are.0
looked-by texts (Items xs ∷ vs) are among = absurd are.0
looked-by texts (Fields xs ∷ vs) are among = absurd are.0

pub looked-up : (type : DataType) (vs : List Value) → HasBytes type → AreValues type vs → map (looked_up (Dictionary vs)) (Indices vs) ≡ vs
looked-up type vs has are =
    let texts = texts_after [] vs in
    (λ i. map (looked_up (sym (dictionary-is vs) i)) (sym (indices-are vs) i))
    ∙ looked-by texts vs (texts-of type vs has are.0) (are-in-after [] vs)
