-- The distinct texts of a column's first items, as a dictionary in the making holds them.
use Rattle.std.proofs.Common.{◌-◌, ◌≡◌, ◌∙◌, ◌≤◌, ◌<◌, ◌+◌, ◌^◌, ◌++◌, ℕ, zero, suc, pos, Bool, true, false, List, [], ◌∷◌, length, map, get_or, take}
use Rattle.std.proofs.Common.{not, rules, refl, sym, ap, subst, arith}
use Rattle.std.proofs.lemmas.List.{length-append, length-map, length-take, take_more}
use Rattle.std.proofs.Math.Seq.{take-length}
use Rattle.std.specs.Prelude.{if◌then◌else◌}
use Rattle.std.specs.List.{concat}
use Rattle.std.specs.Str.{bytes_eq}
use Rattle.std.proofs.lemmas.Bool.{lt-ltb}
use Rattle.data_types.specs.ColumnForms.{IsColumnKind}
use Rattle.data_types.specs.FieldText.{IsValueOf}
use Rattle.data_types.specs.promise.Storage.{storage_of}
use Rattle.data_types.specs.promise.Value.{Value, Null, Truth, Whole, Bits, Bytes, Items, Fields, byte_total, bytes_of}
use Rattle.data_types.specs.declared.kind.DataType.{DataType}
use Rattle.data_types.specs.declared.kind.DataType.TheVariants as kinds
use Rattle.data_types.specs.declared.storage.Storage.{Storage}
use Rattle.col_build.specs.Holding.{Adds, Holds, Takes as IsTaken}
use Rattle.col_build.specs.declared.builder.Builder.{Builder}
use Rattle.layout_rules.specs.promise.Values.{each, value_at}
use Rattle.arr_import.specs.Window.{Window, item_at, items_of}
use Rattle.stage_model.specs.Dictionary.{has_bytes}
use Rattle.stream_face.specs.Lawful.{HasBytes}
use Rattle.column_fill.proofs.Counts.{length-each}
use Rattle.column_fill.specs.Takes.{IsStored, Takes}
use Rattle.column_fill.proofs.ValuesTaken.{before-small, value-stored, value-taken}
use Rattle.dict_stage.specs.Indices.{index_type}
use Rattle.item_keys.specs.Distinct.{Numbers, number_of, texts_with}
use Rattle.dict_stage.specs.Texts.{Codes, HasTexts, IsText, index_by, texts_after}
use Rattle.dict_stage.specs.declared.coder.Coder.{Coder}
use Rattle.dict_stage.proofs.Texts.{after-push, are-in-after, indices-stay, same-number, with-new, with-old}

-- ---- a column's items

pub there : {X : Type 0} → (f : ℕ → X) (from n i : ℕ) (d : X) → i < n → get_or (each f from n) i d ≡ f (from + i)
there f from zero i d small = absurd (omega (arith, small))
there f from (suc n) zero d small = let e : from ≡ from + 0 = omega arith in ap f e
there f from (suc n) (suc i) d small =
    let e : suc from + i ≡ from + suc i = omega arith in
    there f (suc from) n i d (omega (arith, small)) ∙ ap f e

pub count-of : (w : Window) → length (items_of w) ≡ w.count
count-of w = length-each (value_at w.typed w.array) w.start w.count

pub item-of : (w : Window) (i : ℕ) (d : Value) → i < w.count → get_or (items_of w) i d ≡ item_at w i
item-of w i d small = there (value_at w.typed w.array) w.start w.count i d small

pub one-more : (w : Window) (i : ℕ) → i < w.count → take (i + 1) (items_of w) ≡ take i (items_of w) ++ item_at w i ∷ []
one-more w i small =
    let within : i < length (items_of w) = omega (arith, count-of w, small) in
    take_more (items_of w) i Null within ∙ ap (λ (v : Value). take i (items_of w) ++ v ∷ []) (item-of w i Null small)

-- ---- values of texts or bytes

pub text-of : (type : DataType) (v : Value) → HasBytes type → IsValueOf type v → IsText v
text-of (kinds.Utf8 wide) Null has of = tt
text-of (kinds.Utf8 wide) (Bytes text) has of = tt
text-of (kinds.Utf8 wide) _ has of = absurd of
text-of (kinds.Binary wide) Null has of = tt
text-of (kinds.Binary wide) (Bytes text) has of = tt
text-of (kinds.Binary wide) _ has of = absurd of
text-of _ v has of = absurd has

pub own-value : (type : DataType) (w : Window) (i : ℕ) → HasTexts type w → i < w.count → IsValueOf type (item_at w i)
own-value type w i has small =
    let within : i < length (items_of w) = omega (arith, count-of w, small) in
    subst (IsValueOf type) (item-of w i Null small) (has.items.0 i Null within)

pub item-text : (type : DataType) (w : Window) (i : ℕ) → HasTexts type w → i < w.count → IsText (item_at w i)
item-text type w i has small = text-of type (item_at w i) has.bytes (own-value type w i has small)

-- ---- distinct texts are no more, and no longer, than the values

total-with : (texts : List (List ℕ)) (text : List ℕ) → byte_total (map Bytes (texts ++ text ∷ [])) ≡ byte_total (map Bytes texts) + length text
total-with [] text = let e = length-append text [] in omega (arith, e)
total-with (t ∷ texts) text =
    let a = length-append t (concat (map bytes_of (map Bytes (texts ++ text ∷ [])))) in
    let b = length-append t (concat (map bytes_of (map Bytes texts))) in
    let e = total-with texts text in
    omega (arith, a, b, e)

fewer-by : (b : Bool) (texts : List (List ℕ)) (text : List ℕ) → has_bytes texts text ≡ b → length (texts_with texts text) ≤ length texts + 1
fewer-by true texts text e = let s = ap (length {A = List ℕ}) (with-old texts text e) in omega (arith, s)
fewer-by false texts text e = let s = ap (length {A = List ℕ}) (with-new texts text e) in omega (arith, s, length-append texts (text ∷ []))

shorter-by : (b : Bool) (texts : List (List ℕ)) (text : List ℕ) → has_bytes texts text ≡ b
    → byte_total (map Bytes (texts_with texts text)) ≤ byte_total (map Bytes texts) + length text
shorter-by true texts text e = let s = ap (λ (ts : List (List ℕ)). byte_total (map Bytes ts)) (with-old texts text e) in omega (arith, s)
shorter-by false texts text e =
    let s = ap (λ (ts : List (List ℕ)). byte_total (map Bytes ts)) (with-new texts text e) in omega (arith, s, total-with texts text)

pub fewer : (texts : List (List ℕ)) (vs : List Value) → length (texts_after texts vs) ≤ length texts + length vs
fewer texts [] = omega arith
fewer texts (Bytes text ∷ vs) =
    let e = fewer (texts_with texts text) vs in let f = fewer-by (has_bytes texts text) texts text refl in omega (arith, e, f)
fewer texts (Null ∷ vs) = let e = fewer texts vs in omega (arith, e)
fewer texts (Truth t ∷ vs) = let e = fewer texts vs in omega (arith, e)
fewer texts (Whole n ∷ vs) = let e = fewer texts vs in omega (arith, e)
fewer texts (Bits n ∷ vs) = let e = fewer texts vs in omega (arith, e)
fewer texts (Items xs ∷ vs) = let e = fewer texts vs in omega (arith, e)
fewer texts (Fields xs ∷ vs) = let e = fewer texts vs in omega (arith, e)

pub shorter : (texts : List (List ℕ)) (vs : List Value) → byte_total (map Bytes (texts_after texts vs)) ≤ byte_total (map Bytes texts) + byte_total vs
shorter texts [] = omega arith
shorter texts (Bytes text ∷ vs) =
    let e = shorter (texts_with texts text) vs in
    let f = shorter-by (has_bytes texts text) texts text refl in
    let g = length-append text (concat (map bytes_of vs)) in
    omega (arith, e, f, g)
shorter texts (Null ∷ vs) = shorter texts vs
shorter texts (Truth t ∷ vs) = shorter texts vs
shorter texts (Whole n ∷ vs) = shorter texts vs
shorter texts (Bits n ∷ vs) = shorter texts vs
shorter texts (Items xs ∷ vs) = shorter texts vs
shorter texts (Fields xs ∷ vs) = shorter texts vs

-- ---- what a builder takes

few-first : (type : DataType) (w : Window) (i : ℕ) → HasTexts type w → i < w.count → length (take i (items_of w)) ≤ i
few-first type w i has small = omega (arith, length-take i (items_of w))

-- the dictionary takes the next text
pub takes-entry : (type : DataType) (w : Window) (i : ℕ) (builder : Builder) → HasTexts type w → i < w.count
    → Holds builder type (map Bytes (texts_after [] (take i (items_of w))))
    → IsTaken builder (item_at w i)
takes-entry type w i builder has small holds =
    let items = items_of w in
    let within : i < length items = omega (arith, count-of w, small) in
    let of = own-value type w i has small in
    let texts = texts_after [] (take i items) in
    let own = ap (λ (v : Value). length (bytes_of v)) (item-of w i Null small) in
    let long = length-map texts Bytes in (
      type,
      map Bytes texts,
      holds,
      omega (arith, long, fewer [] (take i items), few-first type w i has small, has.few, small),
      value-taken type (map Bytes texts) (item_at w i) has.is of
          (omega (arith, shorter [] (take i items), before-small items i Null within, own, has.items.1)),
    )

-- the plain column takes the next item
pub takes-item : (type : DataType) (w : Window) (i : ℕ) (builder : Builder) (storage : Storage) → HasTexts type w → i < w.count
    → Holds builder type (take i (items_of w)) → storage ≡ storage_of type
    → Takes builder storage (item_at w i)
takes-item type w i builder storage has small holds stored =
    let items = items_of w in
    let within : i < length items = omega (arith, count-of w, small) in
    let of = own-value type w i has small in
    let own = ap (λ (v : Value). length (bytes_of v)) (item-of w i Null small) in
    record {
      kind = type;
      values = take i items;
      holds = holds;
      few = omega (arith, few-first type w i has small, has.few, small);
      stored = stored;
      is = subst (λ (s : Storage). IsStored s (item_at w i)) (sym stored) (value-stored type (item_at w i) of);
      taken = value-taken type (take i items) (item_at w i) has.is of (omega (arith, before-small items i Null within, own, has.items.1));
    }

-- ---- a dictionary in the making

push-map : {X Y : Type 0} (f : X → Y) (xs : List X) (x : X) → map f (xs ++ x ∷ []) ≡ map f xs ++ f x ∷ []
push-map f [] x = refl
push-map f (y ∷ xs) x = ap (λ (zs : List _). f y ∷ zs) (push-map f xs x)

pub codes-new : (coder after : Coder) (type : DataType) (texts : List (List ℕ)) (text : List ℕ) → Codes coder type texts
    → has_bytes texts text ≡ false → Numbers after.texts (texts_with texts text)
    → Adds (Bytes text) coder.entries after.entries → Codes after type (texts_with texts text)
codes-new coder after type texts text codes fresh numbers adds = record {
  numbers = numbers;
  holds = subst (Holds after.entries type) (sym (push-map Bytes texts text) ∙ ap (map Bytes) (sym (with-new texts text fresh)))
      (adds type (map Bytes texts) codes.holds);
}

pub codes-old : (coder after : Coder) (type : DataType) (texts : List (List ℕ)) (text : List ℕ) → Codes coder type texts
    → has_bytes texts text ≡ true → Numbers after.texts (texts_with texts text)
    → after.entries ≡ coder.entries → Codes after type (texts_with texts text)
codes-old coder after type texts text codes known numbers same = record {
  numbers = numbers;
  holds = subst (λ (ts : List (List ℕ)). Holds after.entries type (map Bytes ts)) (sym (with-old texts text known))
      (subst (λ (b : Builder). Holds b type (map Bytes texts)) (sym same) codes.holds);
}

-- ---- indices

-- the indices of one value more
pub indices-next : (vs : List Value) (v : Value)
    → map (index_by (texts_after [] vs)) vs ++ index_by (texts_after [] vs) v ∷ []
    ≡ map (index_by (texts_after (texts_after [] vs) (v ∷ []))) (vs ++ v ∷ [])
indices-next vs (Bytes text) =
    let texts = texts_after [] vs in
    (λ i. sym (indices-stay texts text vs (are-in-after [] vs)) i ++ Whole (pos (same-number texts text i)) ∷ [])
    ∙ sym (push-map (index_by (texts_with texts text)) vs (Bytes text))
indices-next vs Null = sym (push-map (index_by (texts_after [] vs)) vs Null)
indices-next vs (Truth t) = sym (push-map (index_by (texts_after [] vs)) vs (Truth t))
indices-next vs (Whole n) = sym (push-map (index_by (texts_after [] vs)) vs (Whole n))
indices-next vs (Bits n) = sym (push-map (index_by (texts_after [] vs)) vs (Bits n))
indices-next vs (Items xs) = sym (push-map (index_by (texts_after [] vs)) vs (Items xs))
indices-next vs (Fields xs) = sym (push-map (index_by (texts_after [] vs)) vs (Fields xs))

pub no-bytes : (texts : List (List ℕ)) (vs : List Value) → byte_total (map (index_by texts) vs) ≡ 0
no-bytes texts [] = refl
no-bytes texts (Bytes text ∷ vs) = no-bytes texts vs
no-bytes texts (Null ∷ vs) = no-bytes texts vs
no-bytes texts (Truth t ∷ vs) = no-bytes texts vs
no-bytes texts (Whole n ∷ vs) = no-bytes texts vs
no-bytes texts (Bits n ∷ vs) = no-bytes texts vs
no-bytes texts (Items xs ∷ vs) = no-bytes texts vs
no-bytes texts (Fields xs ∷ vs) = no-bytes texts vs

number-small : (texts : List (List ℕ)) (text : List ℕ) → number_of texts text ≤ length texts
number-small [] text = omega arith
number-small (t ∷ texts) text =
    let e = number-small texts text in
    elim (bytes_eq t text) as (λ b. (if not b then 1 + number_of texts text else 0) ≤ suc (length texts)) [ true ↦ omega arith | false ↦ omega (arith, e) ]

pub index-kind : IsColumnKind index_type
index-kind = (search rules, tt)

pub index-of : (texts : List (List ℕ)) (v : Value) → length texts < 2 ^ 31 → IsValueOf index_type (index_by texts v)
index-of texts (Bytes text) few = lt-ltb (number_of texts text) (2 ^ 31) (omega (arith, number-small texts text, few))
index-of texts Null few = tt
index-of texts (Truth t) few = tt
index-of texts (Whole n) few = tt
index-of texts (Bits n) few = tt
index-of texts (Items xs) few = tt
index-of texts (Fields xs) few = tt

index-bytes : (texts : List (List ℕ)) (v : Value) → bytes_of (index_by texts v) ≡ []
index-bytes texts (Bytes text) = refl
index-bytes texts Null = refl
index-bytes texts (Truth t) = refl
index-bytes texts (Whole n) = refl
index-bytes texts (Bits n) = refl
index-bytes texts (Items xs) = refl
index-bytes texts (Fields xs) = refl

-- the indices take that of the next one
pub takes-index : (type : DataType) (w : Window) (i : ℕ) (builder : Builder) (v : Value) → HasTexts type w → i < w.count
    → Holds builder index_type (map (index_by (texts_after [] (take i (items_of w)))) (take i (items_of w))) → v ≡ item_at w i
    → IsTaken builder (index_by (texts_after [] (take i (items_of w))) v)
takes-index type w i builder v has small holds is =
    let vs = take i (items_of w) in
    let texts = texts_after [] vs in
    let many = length-map vs (index_by texts) in
    let few : length texts < 2 ^ 31 = omega (arith, fewer [] vs, few-first type w i has small, has.few, small) in
    let of = index-of texts (item_at w i) few in
    let none = ap (length {A = ℕ}) (index-bytes texts (item_at w i)) in
    subst (λ (x : Value). IsTaken builder (index_by texts x)) (sym is) (
      index_type,
      map (index_by texts) vs,
      holds,
      omega (arith, many, few-first type w i has small, has.few, small),
      value-taken index_type (map (index_by texts) vs) (index_by texts (item_at w i)) index-kind of (omega (arith, no-bytes texts vs, none)),
    )

-- the texts of the items so far are few
pub few-texts : (type : DataType) (w : Window) (i : ℕ) → HasTexts type w → i < w.count → length (texts_after [] (take i (items_of w))) < 2 ^ 32 - 1
few-texts type w i has small = omega (arith, fewer [] (take i (items_of w)), few-first type w i has small, has.few, small)

-- ---- one item more

pub texts-next : (w : Window) (i : ℕ) (v : Value) → i < w.count → v ≡ item_at w i
    → texts_after (texts_after [] (take i (items_of w))) (v ∷ []) ≡ texts_after [] (take (i + 1) (items_of w))
texts-next w i v small is =
    ap (λ (x : Value). texts_after (texts_after [] (take i (items_of w))) (x ∷ [])) is
    ∙ sym (after-push [] (take i (items_of w)) (item_at w i)) ∙ ap (texts_after []) (sym (one-more w i small))

pub indices-more : (w : Window) (i : ℕ) (v index : Value) → i < w.count → v ≡ item_at w i
    → index ≡ index_by (texts_after [] (take i (items_of w))) v
    → map (index_by (texts_after [] (take i (items_of w)))) (take i (items_of w)) ++ index ∷ []
    ≡ map (index_by (texts_after [] (take (i + 1) (items_of w)))) (take (i + 1) (items_of w))
indices-more w i v index small is own =
    let vs = take i (items_of w) in
    let texts = texts_after [] vs in
    ap (λ (x : Value). map (index_by texts) vs ++ x ∷ []) (own ∙ ap (index_by texts) is)
    ∙ indices-next vs (item_at w i)
    ∙ (λ k. map (index_by (texts-next w i (item_at w i) small refl k)) (sym (one-more w i small) k))

pub is-false : (b : Bool) → not b ≡ true → b ≡ false
is-false true e = sym e
is-false false e = refl

pub is-true : (b : Bool) → not b ≡ false → b ≡ true
is-true true e = refl
is-true false e = sym e

pub all-taken : (w : Window) (i : ℕ) → i ≡ w.count → take i (items_of w) ≡ items_of w
all-taken w i is = ap (λ n. take n (items_of w)) (is ∙ sym (count-of w)) ∙ take-length (items_of w)
