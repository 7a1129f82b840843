-- The items of a struct are its rows.
use Rattle.std.proofs.Common.{◌≡◌, ◌∙◌, ℕ, zero, suc, List, [], ◌∷◌, map, All, refl, ap}
use Rattle.std.proofs.lemmas.List.Elements.{All-head, All-tail}
use Rattle.data_types.specs.promise.Parts.{fields_of, value_list}
use Rattle.data_types.specs.promise.Table.{Row}
use Rattle.data_types.specs.promise.Value.{Value, Values, Fields, no_values, more_values, values}
use Rattle.raw_array.specs.promise.Members.{ArrayTree}
use Rattle.data_types.specs.ColumnKinds.{table_type}
use Rattle.data_types.specs.promise.KindTrees.{KindTree}
use Rattle.layout_rules.specs.promise.Values.{each, row_items, rows_of, values_of}
use Rattle.arr_export.specs.promise.ArrayTrees.{table_tree}
use Rattle.stream_face.specs.Lawful.{HasFields}

-- ---- a struct's items are its rows

pub each-fields : (f : ℕ → Row) (from n : ℕ) → each (λ i. Fields (values (f i))) from n ≡ map (λ (row : Row). Fields (values row)) (each f from n)
each-fields f from zero = refl
each-fields f from (suc n) = ap (λ (vs : List Value). Fields (values (f from)) ∷ vs) (each-fields f (suc from) n)

pub struct-values : (types : List KindTree) (columns : List ArrayTree) (rows : ℕ)
    → values_of (table_type types) (table_tree rows columns) ≡ map (λ (row : Row). Fields (values row)) (rows_of (table_type types) (table_tree rows columns))
struct-values types columns rows = each-fields (row_items (table_type types) (table_tree rows columns)) 0 rows

back : (vs : Values) → values (value_list vs) ≡ vs
back no_values = refl
back (more_values v vs) = ap (more_values v) (back vs)

field-back : (count : ℕ) (v : Value) → HasFields count v → Fields (values (fields_of v)) ≡ v
field-back count (Fields vs) has = ap Fields (back vs)
field-back count _ has = absurd has

pub fields-back : (count : ℕ) (vs : List Value) → All (HasFields count) vs → map (λ (row : Row). Fields (values row)) (map fields_of vs) ≡ vs
fields-back count [] has = refl
fields-back count (v ∷ vs) has =
    ap (λ (x : Value). x ∷ map (λ (row : Row). Fields (values row)) (map fields_of vs)) (field-back count v (All-head (HasFields count) v vs has))
    ∙ ap (λ (xs : List Value). v ∷ xs) (fields-back count vs (All-tail (HasFields count) v vs has))
