-- The steps of the making of a union's buffers and its format.
use Rattle.std.proofs.Common.{◌≡◌, ℕ, zero, suc, ◌+◌, ◌-◌, ◌/◌, ◌%◌, take, ◌<◌, ◌≤◌, Bool, true, false, cond, List, [], ◌∷◌, ◌++◌, length, get_or, map, Option, None, Some, refl, ap, sym, ◌∙◌, append_assoc, arith}
use Rattle.std.specs.Prelude.{decimal, not, slice_range, if◌then◌else◌, ◌==◌}
use Rattle.std.specs.List.{flat_map, position_from}
use Rattle.std.specs.declared.alloc.Global.{Global}
use Rattle.std.specs.declared.vec.Vec.{Vec}
use Rattle.std.proofs.lemmas.Bool.{ne_eqb}
use Rattle.std.proofs.lemmas.Grind.{flat_map-append}
use Rattle.std.proofs.lemmas.Iterator.Adapters.{position_from-zero}
use Rattle.std.proofs.lemmas.List.{append-nil, take_all}
use Rattle.data_types.specs.promise.Packed.{le_bytes}
use Rattle.buf_block.specs.declared.hold.BufView.{BufView}
use Rattle.raw_array.specs.promise.Members.{Buffer, holds_of, whole}
use Rattle.raw_array.specs.View.{buffer_if, buffers_of}
use Rattle.raw_array.proofs.Buffers.{buffers_of-append}
use Rattle.data_types.specs.promise.Table.{Row}
use Rattle.data_types.specs.promise.Value.{Value, is_null}
use Rattle.fmt_string.specs.promise.FormatString.{comma}
use Rattle.layout_rules.specs.promise.Values.{each}
use Rattle.union_cols.specs.promise.Tags.{tag_of}
use Rattle.union_cols.specs.Tags.{block_of, numbers, start_bytes, tag_buffers, tag_format}
use Rattle.union_cols.specs.TagViews.{starts_in}
use Rattle.union_cols.specs.promise.UnionFormats.{ids_before, joined, keyword}
use Rattle.union_cols.specs.promise.Unions.{or_zero}
use Rattle.union_cols.proofs.Formats.{joined_push}
use Rattle.union_cols.proofs.Numbering.{each-more}

-- ---- the first value that isn't null

abbrev there : Value → Bool
there value = not (is_null value)

first-from : (row : Row) (m k : ℕ) (d : Value) → k < length row → ((j : ℕ) → j < k → is_null (get_or row j d) ≡ true) → is_null (get_or row k d) ≡ false
    → position_from there m row ≡ Some (m + k)
first-from [] m k d h before at = absurd (omega arith)
first-from (x ∷ row) m zero d h before at =
    let e : m ≡ m + 0 = omega arith in
    ap (λ b. cond (not b) (Some m) (position_from there (m + 1) row)) at ∙ ap Some e
first-from (x ∷ row) m (suc k) d h before at =
    let e : m + 1 + k ≡ m + suc k = omega arith in
    ap (λ b. cond (not b) (Some m) (position_from there (m + 1) row)) (before 0 (omega arith))
    ∙ first-from row (m + 1) k d (omega arith) (λ j lt. before (suc j) (omega (arith, lt))) at ∙ ap Some e

none-from : (row : Row) (m : ℕ) (d : Value) → ((j : ℕ) → j < length row → is_null (get_or row j d) ≡ true) → position_from there m row ≡ None
none-from [] m d all = refl
none-from (x ∷ row) m d all =
    ap (λ b. cond (not b) (Some m) (position_from there (m + 1) row)) (all 0 (omega arith))
    ∙ none-from row (m + 1) d (λ j lt. all (suc j) (omega (arith, lt)))

pub first-there : (row : Row) (k : ℕ) (d : Value) → k < length row → ((j : ℕ) → j < k → is_null (get_or row j d) ≡ true) → is_null (get_or row k d) ≡ false
    → tag_of row ≡ k
first-there row k d h before at =
    let e : 0 + k ≡ k = omega arith in
    ap or_zero (position_from-zero there row ∙ first-from row 0 k d h before at) ∙ e

pub none-there : (row : Row) (d : Value) → ((j : ℕ) → j < length row → is_null (get_or row j d) ≡ true) → tag_of row ≡ 0
none-there row d all = ap or_zero (position_from-zero there row ∙ none-from row 0 d all)

-- ---- one more

pub each-next : {X : Type 0} → (f : ℕ → X) (a n : ℕ) → each f a (n + 1) ≡ each f a n ++ f (a + n) ∷ []
each-next f a n = let e : n + 1 ≡ suc n = omega arith in ap (each f a) e ∙ each-more f a n

numbers-next : (n : ℕ) → numbers (n + 1) ≡ numbers n ++ n ∷ []
numbers-next n = let e : 0 + n ≡ n = omega arith in each-next (λ k. k) 0 n ∙ ap (λ k. numbers n ++ k ∷ []) e

pub starts-next : (n : ℕ) → start_bytes (n + 1) ≡ start_bytes n ++ le_bytes 4 n
starts-next n =
    ap (flat_map (le_bytes 4)) (numbers-next n) ∙ flat_map-append (le_bytes 4) (numbers n) (n ∷ [])
    ∙ ap (λ bs. start_bytes n ++ bs) (append-nil (le_bytes 4 n))

pub before-next : (n : ℕ) → ids_before (numbers (n + 1)) ≡ ids_before (numbers n) ++ (decimal n ++ comma)
before-next n =
    ap ids_before (numbers-next n) ∙ flat_map-append (λ id. decimal id ++ comma) (numbers n) (n ∷ [])
    ∙ ap (λ bs. ids_before (numbers n) ++ bs) (append-nil (decimal n ++ comma))

pub format-last : (dense : Bool) (n : ℕ) → (keyword dense ++ ids_before (numbers n)) ++ decimal n ≡ tag_format dense (n + 1)
format-last dense n =
    append_assoc (keyword dense) (ids_before (numbers n)) (decimal n)
    ∙ ap (λ t. keyword dense ++ t) (sym (ap (λ ids. joined (map decimal ids)) (numbers-next n) ∙ joined_push (numbers n) n))

-- ---- bytes

-- the bytes of an offset, one by one
pub four-bytes : (n : ℕ) → n % 256 ∷ n / 256 % 256 ∷ n / 65536 % 256 ∷ n / 16777216 % 256 ∷ [] ≡ le_bytes 4 n
four-bytes n =
    let third : n / 65536 ≡ n / 256 / 256 = omega arith in
    let fourth : n / 16777216 ≡ n / 256 / 256 / 256 = omega arith in
    λ t. n % 256 ∷ n / 256 % 256 ∷ third t % 256 ∷ fourth t % 256 ∷ []

-- ---- buffers

pub buffers-push : (vs : List (Option BufView)) (v : Option BufView) → buffers_of (vs ++ v ∷ []) ≡ buffers_of vs ++ buffer_if v ∷ []
buffers-push vs v = buffers_of-append vs (v ∷ [])

holds-append : (bs cs : List (Option Buffer)) → holds_of (bs ++ cs) ≡ holds_of bs + holds_of cs
holds-append [] cs = omega arith
holds-append (None ∷ bs) cs = holds-append bs cs
holds-append (Some b ∷ bs) cs = omega (arith, holds-append bs cs)

-- one more buffer
pub holds-push : (vs ws : List (Option BufView)) (b : Option Buffer) → buffers_of ws ≡ buffers_of vs ++ b ∷ []
    → holds_of (buffers_of ws) ≡ holds_of (buffers_of vs) + holds_of (b ∷ [])
holds-push vs ws b e = ap holds_of e ∙ holds-append (buffers_of vs) (b ∷ [])

pub no-block : (bytes : List ℕ) → length bytes ≡ 0 → block_of bytes ≡ None
no-block [] e = refl
no-block (b ∷ bytes) e = absurd (omega (arith, e))

some-block : (bytes : List ℕ) → 0 < length bytes → block_of bytes ≡ Some (record { bytes = bytes; amount = whole })
some-block [] h = absurd (omega (arith, h))
some-block (b ∷ bytes) h = refl

-- a view of the whole of a new block
pub whole-block : (view : BufView) (bytes : List ℕ) → 0 < length bytes → view.hold.bytes ≡ bytes → view.hold.amount ≡ whole → view.start ≡ 0
    → view.len ≡ length bytes → buffer_if (Some view) ≡ block_of bytes
whole-block view bytes some content amount from to =
    let e : 0 + length bytes - 0 ≡ length bytes = omega arith in
    let shown : slice_range view.hold.bytes view.start (view.start + view.len) ≡ bytes =
    (λ t. slice_range (content t) (from t) (from t + to t)) ∙ ap (λ n. take n bytes) e ∙ take_all (length bytes) bytes (omega arith) in
    (λ t. Some (record { bytes = shown t; amount = amount t })) ∙ sym (some-block bytes some)

pub few-starts : (starts : Option (Vec ℕ Global)) → length (starts_in starts) ≤ 1
few-starts None = omega arith
few-starts (Some starts) = omega arith

-- how many blocks there are
pub tag-holds : (dense : Bool) (ids : List ℕ) → holds_of (tag_buffers dense ids) ≡ (if length ids == 0 then 0 else if dense then 2 else 1)
tag-holds true [] = refl
tag-holds true (id ∷ ids) = ap (λ (b : Bool). if b then 0 else 2) (sym (ne_eqb (suc (length ids)) 0 (λ e. omega (arith, e))))
tag-holds false [] = refl
tag-holds false (id ∷ ids) = ap (λ (b : Bool). if b then 0 else 1) (sym (ne_eqb (suc (length ids)) 0 (λ e. omega (arith, e))))
