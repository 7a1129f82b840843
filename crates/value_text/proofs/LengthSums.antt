-- How long the texts of lists and of lines are, by the lengths of their items.
use Rattle.std.proofs.Common.{◌≡◌, ◌∙◌, ℕ, zero, suc, ◌+◌, ◌-◌, ◌*◌, ◌<◌, ◌≤◌, List, [], ◌∷◌, ◌++◌, length, get_or, take, inl, inr, ap, refl, sym, arith, length-append}
use Rattle.std.proofs.lemmas.Bool.{cases_eq}
use Rattle.std.proofs.lemmas.List.{get_or_append_left, take_all, take_more}
use Rattle.std.proofs.Math.Seq.{get_or-append_seam}
use Rattle.std.proofs.Math.Nat.{suc-mul}
use Rattle.std.specs.Prelude.{IfSome, None, Option, Some}
use Rattle.std.specs.List.{flat_map}
use Rattle.data_types.specs.promise.Value.{Value, Null, Items, Fields, values}
use Rattle.data_types.specs.promise.ValueTexts.{value_line, value_text}
use Rattle.layout_rules.specs.promise.Values.{each}
use Rattle.value_text.specs.Behind.{item_text}
use Rattle.value_text.specs.Lengths.{AreFieldLengths, AreSummed, Tells, IsReached, capped, field_length, first_fields, length_at, some_fields, text_length}
use Rattle.value_text.specs.declared.lengths.Lengths.{Lengths}
use Rattle.value_text.specs.declared.lengths.Lengths.TheVariants as all
use Rattle.value_text.proofs.Parts.{lines-more, list-more, parts, row-more}

-- ---- items of one length

part-sum : (n c sum : ℕ) (v : Value) → c ≡ text_length v → capped sum ≡ capped (n * c + (n - 1))
    → capped (sum + length (item_text n v)) ≡ capped (suc n * c + n)
part-sum zero c sum v is so_far =
    omega (arith, is, so_far)
part-sum (suc n) c sum v is so_far =
    let one : suc (suc n) * c ≡ suc n * c + c = suc-mul (suc n) c in
    omega (arith, is, so_far, one)

pub same-parts : (item : ℕ → Value) (from c n : ℕ) → ((j : ℕ) → j < n → c ≡ text_length (item (from + j)))
    → capped (length (parts (each item from n))) ≡ capped (n * c + (n - 1))
same-parts item from c zero same =
    omega arith
same-parts item from c (suc n) same =
    let before = same-parts item from c n (λ j inside. same j (omega (arith, inside))) in
    let v = item (from + n) in
    let e : n + 1 ≡ suc n = omega arith in
    let long : length (parts (each item from (suc n))) ≡ length (parts (each item from n)) + length (item_text n v) =
    ap (λ k. length (parts (each item from k))) (sym e) ∙ ap length (list-more item from n) ∙ length-append (parts (each item from n)) (item_text n v) in
    let sum = part-sum n c (length (parts (each item from n))) v (same n (omega arith)) before in
    omega (arith, long, sum)

pub list-long : (vs : List Value) → length (value_text (Items (values vs))) ≡ length (parts vs) + 2
list-long vs = omega (arith, length-append (parts vs) (93 ∷ []))

line-long : (v : Value) → length (value_line v) ≡ length (value_text v) + 1
line-long v = length-append (value_text v) (10 ∷ [])

pub more-lines : (item : ℕ → Value) (n : ℕ) → length (flat_map value_line (each item 0 (n + 1)))
    ≡ length (flat_map value_line (each item 0 n)) + (length (value_text (item n)) + 1)
more-lines item n =
    let e : 0 + n ≡ n = omega arith in
    ap length (lines-more item 0 n)
    ∙ length-append (flat_map value_line (each item 0 n)) (value_line (item (0 + n)))
    ∙ ap (λ k. length (flat_map value_line (each item 0 n)) + k) (line-long (item (0 + n)) ∙ ap (λ k. length (value_text (item k)) + 1) e)

pub same-lines : (item : ℕ → Value) (c n : ℕ) → ((j : ℕ) → j < n → c ≡ text_length (item j))
    → capped (length (flat_map value_line (each item 0 n))) ≡ capped (n * c + n)
same-lines item c zero same =
    omega arith
same-lines item c (suc n) same =
    let before = same-lines item c n (λ j inside. same j (omega (arith, inside))) in
    let e : n + 1 ≡ suc n = omega arith in
    let long : length (flat_map value_line (each item 0 (suc n))) ≡ length (flat_map value_line (each item 0 n)) + (length (value_text (item n)) + 1) =
    ap (λ k. length (flat_map value_line (each item 0 k))) (sym e) ∙ more-lines item n in
    let one : suc n * c ≡ n * c + c = suc-mul n c in
    omega (arith, before, long, one, same n (omega arith))

-- ---- what lengths say of a place

pub are-reached : (ls : Lengths) (item : ℕ → Value) (n m : ℕ) → Tells ls item n → m ≤ n → IsReached ls m
are-reached (all.Same count) item n m known few = tt
are-reached (all.Own lengths) item n m known few = omega (arith, known.many, few)

pub length-there : (ls : Lengths) (item : ℕ → Value) (n i : ℕ) → Tells ls item n → i < n → length_at ls i ≡ text_length (item i)
length-there (all.Same count) item n i known inside = known i inside
length-there (all.Own lengths) item n i known inside = known.each i inside

-- ---- the fields of a struct

some-more : (ls : List Lengths) (place : ℕ) (ks : List ℕ) (k : ℕ) → some_fields ls place (ks ++ k ∷ []) ≡ some_fields ls place ks + field_length ls place k
some-more ls place [] k = omega arith
some-more ls place (j ∷ ks) k = omega (arith, some-more ls place ks k)

-- one with a length for all rows more
pub summed-same : (ls : List Lengths) (n same c : ℕ) (own : List ℕ) → get_or ls n (all.Same 0) ≡ all.Same c → AreSummed ls n same own
    → AreSummed ls (n + 1) (capped (same + c)) own
summed-same ls n same c own is so_far = record {
  sums = λ place.
      let e : n + 1 ≡ suc n = omega arith in
      let one : field_length ls place n ≡ c = ap (λ l. length_at l place) is in
      omega (arith, ap (first_fields ls place) e, so_far.sums place, one);
  below = λ q inside. omega (arith, so_far.below q inside);
}

-- one with a length for each row more
pub summed-own : (ls : List Lengths) (n same : ℕ) (own : List ℕ) → AreSummed ls n same own → AreSummed ls (n + 1) same (own ++ n ∷ [])
summed-own ls n same own so_far = record {
  sums = λ place.
      let e : n + 1 ≡ suc n = omega arith in
      omega (arith, ap (first_fields ls place) e, so_far.sums place, some-more ls place own n);
  below = λ q inside.
      elim (cases_eq q (length own)) [
        | inl last ↦ omega (arith, ap (λ k. get_or {A = ℕ} (own ++ n ∷ []) k 0) last, get_or-append_seam own n [] 0)
        | inr other ↦
            let before : q < length own = omega (arith, inside, other, length-append own (n ∷ [])) in
            omega (arith, get_or_append_left own (n ∷ []) 0 q before, so_far.below q before)
      ];
}

pub any-length : (ls : List Lengths) (k : ℕ) (c d : Lengths) → k < length ls → get_or ls k c ≡ get_or ls k d
any-length [] k c d inside = absurd (omega (arith, inside))
any-length (l ∷ ls) zero c d inside = refl
any-length (l ∷ ls) (suc k) c d inside = any-length ls k c d (omega (arith, inside))

-- one of these more
pub some-next : (ls : List Lengths) (place : ℕ) (own : List ℕ) (q : ℕ) → q < length own
    → some_fields ls place (take (q + 1) own) ≡ some_fields ls place (take q own) + field_length ls place (get_or own q 0)
some-next ls place own q inside = ap (some_fields ls place) (take_more own q 0 inside) ∙ some-more ls place (take q own) (get_or own q 0)

part-next : (n c total sum : ℕ) (v : Value) → c ≡ text_length v → capped sum ≡ capped (total + (n - 1))
    → capped (sum + length (item_text n v)) ≡ capped (total + c + n)
part-next zero c total sum v is so_far = omega (arith, is, so_far)
part-next (suc n) c total sum v is so_far = omega (arith, is, so_far)

row-parts : (ls : List Lengths) (row : List Value) (place n : ℕ) → AreFieldLengths ls place row → n ≤ length row
    → capped (length (parts (take n row))) ≡ capped (first_fields ls place n + (n - 1))
row-parts ls row place zero known few = refl
row-parts ls row place (suc n) known few =
    let before = row-parts ls row place n known (omega (arith, few)) in
    let v = get_or row n Null in
    let e : n + 1 ≡ suc n = omega arith in
    let long : length (parts (take (suc n) row)) ≡ length (parts (take n row)) + length (item_text n v) =
    ap (λ k. length (parts (take k row))) (sym e) ∙ ap length (row-more row n (omega (arith, few))) ∙ length-append (parts (take n row)) (item_text n v) in
    let one = part-next n (field_length ls place n) (first_fields ls place n) (length (parts (take n row))) v
    (known.each n (all.Same 0) (omega (arith, few, known.many))) before in
    omega (arith, long, one)

row-text : (row : List Value) → length (value_text (Fields (values row))) ≡ length (parts row) + 2
row-text row = omega (arith, length-append (parts row) (125 ∷ []))

-- a struct's text by what its fields have together
pub row-long : (ls : List Lengths) (row : List Value) (place same : ℕ) (own : List ℕ) → AreFieldLengths ls place row → AreSummed ls (length ls) same own
    → text_length (Fields (values row)) ≡ capped (same + some_fields ls place own + (length ls - 1) + 2)
row-long ls row place same own known summed =
    let all_of : take (length row) row ≡ row = take_all (length row) row (omega arith) in
    let long = row-parts ls row place (length row) known (omega arith) in
    let whole : length (parts (take (length row) row)) ≡ length (parts row) = ap (λ vs. length (parts vs)) all_of in
    let total : first_fields ls place (length row) ≡ first_fields ls place (length ls) = ap (first_fields ls place) known.many in
    omega (arith, row-text row, whole, long, total, known.many, summed.sums place)

-- ---- what is so of a number, where there is one

pub some-by : {P Q : ℕ → Type 0} → (found : Option ℕ) → IfSome found P → ((n : ℕ) → P n → Q n) → IfSome found Q
some-by None known so = tt
some-by (Some n) known so = so n known

pub ruleset known_lengths = (are-reached, length-there)
