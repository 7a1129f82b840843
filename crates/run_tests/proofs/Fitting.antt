-- The values of the example's columns fit their types, so that builders take them and its chunk is lawful.
use Rattle.std.proofs.Common.{◌≡◌, ◌≢◌, ◌<◌, ◌^◌, ℕ, true, List, [], ◌∷◌, All, None, codes, length, refl, rules, arith}
use Rattle.std.proofs.lemmas.List.Elements.{All-from_recursion}
use Rattle.std.specs.Fmt.{digits}
use Rattle.std.specs.Str.{chars, is_utf8}
use lib.Utf8.{encode}
use Rattle.arr_export.specs.ArrayTrees.{AreIndices, IsPlaceOf}
use Rattle.arr_export.specs.ValueColumns.{plain_tree}
use Rattle.col_build.specs.Encoding.{push_fault}
use Rattle.col_build.specs.Holding.{Holds, Takes}
use Rattle.col_build.specs.declared.builder.Builder.{Builder}
use Rattle.column_fill.specs.Tables.{FitsRows, HasDictionary, index_type}
use Rattle.data_types.specs.FaultTexts.{row_fault_text}
use Rattle.data_types.specs.FieldText.{IsValueOf}
use Rattle.data_types.specs.promise.Value.{Value, Bytes, Null}
use Rattle.data_types.specs.declared.kind.DataType.{DataType}
use Rattle.run_tests.specs.Own.{entries, k_values, long, n_values, numbers, own_record, own_values, places, text, whole, x, y}

text-x : is_utf8 (codes "x") ≡ true
unfolding is_utf8 chars encode
text-x = refl

text-y : is_utf8 (codes "y") ≡ true
unfolding is_utf8 chars encode
text-y = refl

not-null : (bytes : List ℕ) → Bytes bytes ≡ Null → ⊥
not-null bytes e = cc

-- ---- the columns

are-places : All (IsPlaceOf 2) places.values
are-places = All-from_recursion (IsPlaceOf 2) places.values (omega arith, (omega arith, (omega arith, tt)))

has-dictionary : HasDictionary places entries
has-dictionary = record {
  index = refl;
  bytes = tt;
  values = (All-from_recursion (IsValueOf text) entries.values (text-x, (text-y, tt)), omega arith);
  full = All-from_recursion (λ (v : Value). v ≢ Null) entries.values (not-null (codes "x"), (not-null (codes "y"), tt));
  few = omega arith;
  places = are-places;
}

k-fits : FitsRows 3 (record { name = codes "k"; values = k_values })
k-fits = record {
  kind = (tt, tt);
  count = refl;
  items = (All-from_recursion (IsValueOf text) (x ∷ y ∷ x ∷ []) (text-x, (text-y, (text-x, tt))), omega arith);
  dictionary = has-dictionary;
}

n-fits : FitsRows 3 (record { name = codes "n"; values = n_values })
n-fits = record {
  kind = search (rules);
  count = refl;
  items = (All-from_recursion (IsValueOf long) numbers.values (refl, (refl, (refl, tt))), omega arith);
  dictionary = tt;
}

pub fit : All (FitsRows 3) own_values
fit = All-from_recursion (FitsRows 3) own_values (k-fits, (n-fits, tt))

pub own-indices : AreIndices index_type places.values (plain_tree entries)
own-indices = record { kind_ok = tt; live = tt; not_deep = omega arith; places = are-places }

-- ---- what builders take

takes : (kind : DataType) (values : List Value) (value : Value) (builder : Builder) → length values < 2 ^ 40 → push_fault kind values value ≡ None
    → Holds builder kind values → Takes builder value
takes kind values value builder few fits holds = (kind, values, holds, few, fits)

x-fits : push_fault text [] x ≡ None
unfolding is_utf8 chars encode
x-fits = refl

y-fits : push_fault text (x ∷ []) y ≡ None
unfolding is_utf8 chars encode
y-fits = refl

pub takes-x : (builder : Builder) → Holds builder text [] → Takes builder x
takes-x builder = takes text [] x builder (omega arith) x-fits

pub takes-y : (builder : Builder) → Holds builder text (x ∷ []) → Takes builder y
takes-y builder = takes text (x ∷ []) y builder (omega arith) y-fits

pub takes-place : (n : ℕ) (values : List Value) (builder : Builder) → length values < 2 ^ 40 → push_fault index_type values (whole n) ≡ None
    → Holds builder index_type values → Takes builder (whole n)
takes-place n values builder = takes index_type values (whole n) builder

pub takes-number : (n : ℕ) (values : List Value) (builder : Builder) → length values < 2 ^ 40 → push_fault long values (whole n) ≡ None
    → Holds builder long values → Takes builder (whole n)
takes-number n values builder = takes long values (whole n) builder

-- ---- the text of the refusal

pub told : codes "record 4: 1 fields" ≡ row_fault_text own_record
unfolding digits
told = refl
