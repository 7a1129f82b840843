-- Each text is the format of a union or has a first fault.
use Rattle.std.proofs.Common.{◌≡◌, ◌≢◌, ◌⊎◌, ℕ, zero, suc, ◌+◌, ◌<◌, ◌≤◌, ◌^◌, min, Bool, true, false, List, [], ◌∷◌, ◌++◌, length, take, drop, map}
use Rattle.std.proofs.Common.{Ok, Err, refl, ap, arith, inl, inr}
use Rattle.std.specs.Prelude.{Result, decimal, nat_eq}
use Rattle.std.specs.Char.{is_ascii_digit}
use Rattle.std.specs.List.{list_any, starts_with, prefix_len}
use Rattle.std.specs.Str.Parse.{digits_value}
use Rattle.std.proofs.lemmas.Bool.{cases_Bool, cases_eq, cases_lt}
use Rattle.std.proofs.lemmas.List.{length-append}
use Rattle.std.proofs.lemmas.Str.{digit_value_digit}
use Rattle.fmt_string.specs.promise.FormatString.{IsDigit, IsPrefix, NoNumber, NumberThen, StartsWithDigit}
use Rattle.fmt_string.proofs.Digits.{digit_in, digit_out, front_within, number_front}
use Rattle.fmt_string.proofs.OneAnswer.{begins, front}
use Rattle.union_cols.specs.promise.UnionFormats.{AreIds, UnionFormat, ids_before, joined, keyword}
use Rattle.union_cols.specs.UnionFormats.{FormatReads, IdsFault}
use Rattle.union_cols.proofs.FormatSteps.{behind_id, format_is, front_id, last_id, missing_id, named_before, next_id, no_ids, push_id}

-- ---- a number in front

starts_digit : (text : List ℕ) → StartsWithDigit text ⊎ (StartsWithDigit text → ⊥)
starts_digit [] = inr (λ h. h)
starts_digit (c ∷ cs) = elim (cases_Bool (is_ascii_digit c)) [
  | inl good ↦ inl (digit_in c good)
  | inr bad ↦ inr (digit_out c bad)
]

record Number (text : List ℕ) : Type 0 where
  digits : List ℕ
  more : List ℕ
  then : NumberThen text digits more (digits_value 10 digits)

zero_in_front : (c : ℕ) (cs : List ℕ) → IsDigit c → (StartsWithDigit cs → ⊥) → Number (c ∷ cs)
zero_in_front c cs digit ends = record {
  digits = c ∷ [];
  more = cs;
  then = record {
    is = record { digits = (omega (arith, digit_value_digit c digit, digit), tt); some = omega arith; no_zero = λ h. refl; value = refl };
    split = refl;
    ends = ends;
  };
}

digits_in_front : (c : ℕ) (cs : List ℕ) → is_ascii_digit c ≡ true → c ≢ 48 → Number (c ∷ cs)
digits_in_front c cs digit other =
    let n = prefix_len is_ascii_digit (c ∷ cs) in
    let some : 0 < n = rw digit (omega arith) in
    record {
      digits = take n (c ∷ cs);
      more = drop n (c ∷ cs);
      then = number_front (c ∷ cs) n refl some (front_within (c ∷ cs) n refl) (λ h. absurd (other h));
    }

number : (text : List ℕ) → NoNumber text ⊎ Number text
number [] = inl tt
number (c ∷ cs) = elim (cases_Bool (is_ascii_digit c)) [
  | inl digit ↦ elim (cases_eq c 48) [
    | inl is ↦ elim (starts_digit cs) [
      | inl more ↦ inl (inr (is, more))
      | inr ends ↦ inr (zero_in_front c cs (digit_in c digit) ends)
    ]
    | inr other ↦ inr (digits_in_front c cs digit other)
  ]
  | inr none ↦ inl (inl (digit_out c none))
]

-- ---- the list

abbrev SomeIds : List ℕ → Type 0
SomeIds list = ((ids : List ℕ) × AreIds ids × (list ≡ joined (map decimal ids))) ⊎ ((place : ℕ) × IdsFault list place)

-- what is behind some ids and their commas, which is no longer than this
abbrev SomeFrom : ℕ → Type 0
SomeFrom n =
    (list ids left : List ℕ) → length left ≤ n → AreIds ids → 0 < length list → list ≡ ids_before ids ++ left → SomeIds list

module _ (n : ℕ) (shorter : SomeFrom n) (list ids left : List ℕ) (long : length left ≤ suc n) (are : AreIds ids) (some : 0 < length list)
    (split : list ≡ ids_before ids ++ left) where
  behind : (id : ℕ) (more : List ℕ) → AreIds (ids ++ id ∷ []) → left ≡ decimal id ++ more → (StartsWithDigit more → ⊥) → SomeIds list
  behind id [] more_are front ends = inl (ids ++ id ∷ [], more_are, last_id list ids id left [] _ split front refl refl)
  behind id (c ∷ cs) more_are front ends = elim (cases_eq c 44) [
    | inl comma ↦
        let fewer : length cs ≤ n = omega (arith, long, ap length front, length-append (decimal id) (c ∷ cs)) in
        shorter list (ids ++ id ∷ []) cs fewer more_are some (next_id list ids id left (c ∷ cs) cs _ split front (ap (λ (x : ℕ). x ∷ cs) comma) refl)
    | inr other ↦ inr (_, behind_id list ids id left (c ∷ cs) _ more_are split front (omega arith) ends other refl)
  ]

  new_id : (digits more : List ℕ) (id : ℕ) → NumberThen left digits more id → id ≤ 127 → (list_any (λ y. nat_eq y id) ids ≡ true)
      ⊎ (list_any (λ y. nat_eq y id) ids ≡ false) → SomeIds list
  new_id digits more id then small (inl found) =
      let same : id ≡ min id (2 ^ 40) = omega (arith, small) in
      inr (_, missing_id list ids left _ are some split (named_before ids left digits more id id then same small found) refl)
  new_id digits more id then small (inr none) =
      let same : id ≡ min id (2 ^ 40) = omega (arith, small) in
      behind id more (push_id ids id are small none) (front_id left digits more id id then same small) then.ends

  sized : (digits more : List ℕ) (id : ℕ) → NumberThen left digits more id → (127 < id) ⊎ (id ≤ 127) → SomeIds list
  sized digits more id then (inl large) =
      inr (_, missing_id list ids left _ are some split (inr (digits, more, id, then, inl large)) refl)
  sized digits more id then (inr small) = new_id digits more id then small (cases_Bool (list_any (λ y. nat_eq y id) ids))

  one_more : NoNumber left ⊎ Number left → SomeIds list
  one_more (inl none) = inr (_, missing_id list ids left _ are some split (inl none) refl)
  one_more (inr found) =
      sized found.digits found.more (digits_value 10 found.digits) found.then (cases_lt 127 (digits_value 10 found.digits))

some_from : (n : ℕ) → SomeFrom n
some_from zero list ids [] long are some split = inr (_, missing_id list ids [] _ are some split (inl tt) refl)
some_from zero list ids (c ∷ cs) long are some split = absurd (omega (arith, long))
some_from (suc n) list ids left long are some split = one_more n (some_from n) list ids left long are some split (number left)

some_ids : (list : List ℕ) → SomeIds list
some_ids [] = inl ([], no_ids, refl)
some_ids (c ∷ cs) = some_from (length (c ∷ cs)) (c ∷ cs) [] (c ∷ cs) (omega arith) no_ids (omega arith) refl

-- ---- the whole text

in_list : (text list : List ℕ) (dense : Bool) → text ≡ keyword dense ++ list → SomeIds list → (read : Result UnionFormat ℕ) × FormatReads text read
in_list text list dense split (inl found) =
    (Ok (record { dense = dense; ids = found.0 }), format_is text list dense found.0 split found.1 found.2)
in_list text list dense split (inr fault) = (Err (4 + fault.0), inr (dense, list, fault.0, split, fault.1, refl))

a_prefix : (word text : List ℕ) → IsPrefix word text ⊎ (IsPrefix word text → ⊥)
a_prefix word text = elim (cases_Bool (starts_with nat_eq text word)) [
  | inl good ↦ inl (drop (length word) text, front text word good)
  | inr bad ↦ inr (λ h. let starts : starts_with nat_eq text word ≡ true = begins text word h.0 h.1 in absurd cc)
]

no_word : (text : List ℕ) → (IsPrefix (keyword true) text → ⊥) → (IsPrefix (keyword false) text → ⊥) → (dense : Bool) → IsPrefix (keyword dense) text → ⊥
no_word text no_dense no_sparse true = no_dense
no_word text no_dense no_sparse false = no_sparse

pub some_format : (text : List ℕ) → (read : Result UnionFormat ℕ) × FormatReads text read
some_format text = elim (a_prefix (keyword true) text) [
  | inl dense ↦ in_list text dense.0 true dense.1 (some_ids dense.0)
  | inr no_dense ↦ elim (a_prefix (keyword false) text) [
    | inl sparse ↦ in_list text sparse.0 false sparse.1 (some_ids sparse.0)
    | inr no_sparse ↦ (Err 0, inl (no_word text no_dense no_sparse, refl))
  ]
]
