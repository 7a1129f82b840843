-- Each text has a reading: a kind or a first fault.
use Rattle.std.proofs.Common.{◌≡◌, ◌≢◌, ℕ, zero, suc, ℤ, pos, negsuc, neg_ℤ, ◌+◌, ◌<◌, ◌≤◌, ◌^◌, Bool, true, false, nat_eq, List, [], ◌∷◌, ◌++◌, length, take}
use Rattle.std.proofs.Common.{drop}
use Rattle.std.proofs.Common.{Ok, refl, sym, ap, subst, ◌∙◌, inl, inr, arith, append_assoc}
use Rattle.std.specs.Prelude.{◌⊎◌, All, Any, Contains, FitsSigned, codes}
use Rattle.std.specs.Int.{w32}
use Rattle.std.specs.Char.{is_ascii_digit}
use Rattle.std.specs.List.{starts_with, prefix_len}
use Rattle.std.specs.Str.Parse.{digits_value}
use Rattle.std.proofs.lemmas.Bool.{cases_Bool, cases_lt, eqb-true, eqb-false}
use Rattle.std.proofs.lemmas.List.{append-nil}
use Rattle.std.proofs.lemmas.List.Elements.{All-nil, All-cons, All-get_or}
use Rattle.std.proofs.lemmas.Str.{digit_value_digit}
use Rattle.fmt_string.specs.declared.fault.FormatRule.{FormatRule}
use Rattle.fmt_string.specs.declared.fault.FormatRule.TheVariants as rules
use Rattle.data_types.specs.declared.kind.DataType.{DataType}
use Rattle.data_types.specs.declared.kind.DataType.TheVariants as kinds
use Rattle.fmt_string.specs.promise.Keywords.{Keyword, keywords, Behind}
use Rattle.fmt_string.specs.promise.Keywords.Behind.{Alone, Zone, BinarySize, ListSize, Numbers, Refused}
use Rattle.fmt_string.specs.promise.FormatString.{IsDigit, IsNumber, IsSigned, NoNumber, NoSigned, NumberThen, StartsWith, StartsWithDigit, SizeFails, comma, Parts}
use Rattle.fmt_string.specs.promise.FormatString.{parts_text}
use Rattle.fmt_string.specs.promise.FormatString.{PartsAre, width_of, DecimalIs, KnownWidth, most_at, RangeFails, NumbersFail, RestIs, RestFails}
use Rattle.data_types.specs.promise.Kinds.{most_precise}
use Rattle.fmt_string.specs.promise.FormatString.{IsPrefix, UnknownAt}
use Rattle.fmt_string.specs.promise.FormatString.NumberPlace.{AtPrecision, AtScale, AtWidth}
use Rattle.fmt_string.specs.Decimal.{parts}
use Rattle.fmt_string.specs.Answer.{Reads}
use Rattle.fmt_string.proofs.Digits.{digit_in, digit_out, number_front, front_within}
use Rattle.fmt_string.proofs.Decimals.{above_zero, minus_is}
use Rattle.fmt_string.proofs.OneAnswer.{begins, front}
use Rattle.fmt_string.proofs.RereadDecimal.{Answer, fault, regroup}

-- ---- choices

equal : (a b : ℕ) → (a ≡ b) ⊎ (a ≢ b)
equal a b = elim (cases_Bool (nat_eq a b)) [
  | inl good ↦ inl (eqb-true a b good)
  | inr bad ↦ inr (eqb-false a b bad)
]

a_prefix : (word text : List ℕ) → IsPrefix word text ⊎ (IsPrefix word text → ⊥)
a_prefix word text = elim (cases_Bool (starts_with nat_eq text word)) [
  | inl good ↦ inl (drop (length word) text, front text word good)
  | inr bad ↦ inr (λ h. let starts : starts_with nat_eq text word ≡ true = begins text word h.0 h.1 in absurd cc)
]

module _ (P : Keyword → Type 0) (decide : (k : Keyword) → P k ⊎ (P k → ⊥)) where
  some_or_none : (ks : List Keyword) → Any P ks ⊎ All (λ k. P k → ⊥) ks
  some_or_none [] = inr (All-nil (λ k. P k → ⊥))
  some_or_none (k ∷ ks) = elim (decide k) [
    | inl good ↦ inl (0, k, omega arith, refl, good)
    | inr bad ↦ elim (some_or_none ks) [
      | inl h ↦ inl (suc h.0, h.1, omega (arith, h.2), h.3, h.4)
      | inr none ↦ inr (All-cons (λ k. P k → ⊥) k ks bad none)
    ]
  ]

  some_or_not : (ks : List Keyword) → Any P ks ⊎ (Any P ks → ⊥)
  some_or_not ks = elim (some_or_none ks) [
    | inl h ↦ inl h
    | inr none ↦ inr (λ h. All-get_or (λ k. P k → ⊥) ks h.0 h.1 h.2 none (subst P (sym h.3) h.4))
  ]

-- the largest number up to another for which something holds
record Largest (P : ℕ → Type 0) (n : ℕ) : Type 0 where
  is : ℕ
  within : is ≤ n
  holds : P is
  largest : (q : ℕ) → q ≤ n → P q → q ≤ is

module _ (P : ℕ → Type 0) (decide : (q : ℕ) → P q ⊎ (P q → ⊥)) (first : P 0) where
  largest : (n : ℕ) → Largest P n
  largest zero = record { is = 0; within = omega arith; holds = first; largest = λ q within h. within }
  largest (suc n) = elim (decide (suc n)) [
    | inl good ↦ record { is = suc n; within = omega arith; holds = good; largest = λ q within h. within }
    | inr bad ↦
        let below = largest n in
        record {
          is = below.is;
          within = omega (arith, below.within);
          holds = below.holds;
          largest = λ q within h. elim (cases_lt n q) [
            | inl past ↦ let e : q ≡ suc n = omega (arith, past, within) in absurd (bad (subst P e h))
            | inr short ↦ below.largest q short h
          ];
        }
  ]

abbrev BeginsSome : List ℕ → ℕ → Type 0
BeginsSome text q = Any (λ k. IsPrefix (take q text) k.word) keywords

unknown : (text : List ℕ) → All (λ k. IsPrefix k.word text → ⊥) keywords → (p : ℕ) × UnknownAt text p
unknown text none =
    let decide = λ (q : ℕ). some_or_not (λ k. IsPrefix (take q text) k.word) (λ k. a_prefix (take q text) k.word) keywords in
    let first : BeginsSome text 0 = (0, record { word = codes "n"; behind = Alone kinds.Null }, omega arith, refl, (codes "n", refl)) in
    let found = largest (BeginsSome text) decide first (length text) in
    (found.is, record { none = none; within = found.within; begins = found.holds; longest = found.largest })

-- ---- numbers

starts_digit : (text : List ℕ) → StartsWithDigit text ⊎ (StartsWithDigit text → ⊥)
starts_digit [] = inr (λ h. h)
starts_digit (c ∷ cs) = elim (cases_Bool (is_ascii_digit c)) [
  | inl good ↦ inl (digit_in c good)
  | inr bad ↦ inr (digit_out c bad)
]

-- a number in front, and the rest
record Number (text : List ℕ) : Type 0 where
  digits : List ℕ
  more : List ℕ
  then : NumberThen text digits more (digits_value 10 digits)

zero_in_front : (c : ℕ) (cs : List ℕ) → IsDigit c → (StartsWithDigit cs → ⊥) → Number (c ∷ cs)
zero_in_front c cs digit ends = record {
  digits = c ∷ [];
  more = cs;
  then = record {
    is = record { digits = (omega (arith, digit_value_digit c digit, digit), tt); some = omega arith; no_zero = λ h. refl; value = refl };
    split = refl;
    ends = ends;
  };
}

digits_in_front : (c : ℕ) (cs : List ℕ) → is_ascii_digit c ≡ true → c ≢ 48 → Number (c ∷ cs)
digits_in_front c cs digit other =
    let n = prefix_len is_ascii_digit (c ∷ cs) in
    let some : 0 < n = rw digit (omega arith) in
    record {
      digits = take n (c ∷ cs);
      more = drop n (c ∷ cs);
      then = number_front (c ∷ cs) n refl some (front_within (c ∷ cs) n refl) (λ h. absurd (other h));
    }

number : (text : List ℕ) → NoNumber text ⊎ Number text
number [] = inl tt
number (c ∷ cs) = elim (cases_Bool (is_ascii_digit c)) [
  | inl digit ↦ elim (equal c 48) [
    | inl is ↦ elim (starts_digit cs) [
      | inl more ↦ inl (inr (is, more))
      | inr ends ↦ inr (zero_in_front c cs (digit_in c digit) ends)
    ]
    | inr other ↦ inr (digits_in_front c cs digit other)
  ]
  | inr none ↦ inl (inl (digit_out c none))
]

-- ---- numbers with a sign
-- a number in front that a minus may begin, and the rest
record Signed (text : List ℕ) : Type 0 where
  digits : List ℕ
  more : List ℕ
  value : ℤ
  is : IsSigned digits value
  split : text ≡ digits ++ more
  ends : StartsWithDigit more → ⊥

behind_minus : (c : ℕ) (cs digits more : List ℕ) → c ≡ 45 → NumberThen cs digits more (digits_value 10 digits) → NoSigned (c ∷ cs) ⊎ Signed (c ∷ cs)
behind_minus c cs [] more minus then = absurd (omega (arith, then.is.some))
behind_minus c cs (d ∷ ds) more minus then = elim (equal d 48) [
  | inl is ↦ inl (inl (minus, inr (subst (StartsWith 48) (sym then.split) is)))
  | inr other ↦
      let value = digits_value 10 (d ∷ ds) in
      let split : c ∷ cs ≡ 45 ∷ ((d ∷ ds) ++ more) = cc (minus, then.split) in
      inr (record {
        digits = 45 ∷ d ∷ ds;
        more = more;
        value = neg_ℤ (pos value);
        is = minus_is (d ∷ ds) value then.is (above_zero (d ∷ ds) value then.is other);
        split = split;
        ends = then.ends;
      })
]

signed : (text : List ℕ) → NoSigned text ⊎ Signed text
signed [] = inl tt
signed (c ∷ cs) = elim (equal c 45) [
  | inl minus ↦ elim (number cs) [
    | inl none ↦ inl (inl (minus, inl none))
    | inr h ↦ behind_minus c cs h.digits h.more minus h.then
  ]
  | inr other ↦ elim (number (c ∷ cs)) [
    | inl none ↦ inl (inr (other, none))
    | inr h ↦
        inr (record { digits = h.digits; more = h.more; value = pos (digits_value 10 h.digits); is = h.then.is; split = h.then.split; ends = h.then.ends })
  ]
]

-- ---- sizes

abbrev Size : List ℕ → Type 0
Size text = ((n : ℕ) × (n < 2 ^ 31) × IsNumber text n) ⊎ ((rule : FormatRule) × (p : ℕ) × SizeFails text rule p)

whole_size : (text : List ℕ) (n : ℕ) → IsNumber text n → Size text
whole_size text n is = elim (cases_lt n (2 ^ 31)) [
  | inl small ↦ inl (n, small, is)
  | inr large ↦ inr (rules.OutOfRange, 0, (n, is, large, refl))
]

front_size : (text digits more : List ℕ) (n : ℕ) → NumberThen text digits more n → Size text
front_size text digits [] n then = whole_size text n (subst (λ (t : List ℕ). IsNumber t n) (sym (then.split ∙ append-nil digits)) then.is)
front_size text digits (c ∷ cs) n then = inr (rules.Trailing, length digits, (digits, c ∷ cs, n, then, omega arith, refl))

size : (text : List ℕ) → Size text
size text = elim (number text) [
  | inl none ↦ inr (rules.BadNumber, 0, (none, refl))
  | inr h ↦ front_size text h.digits h.more (digits_value 10 h.digits) h.then
]

-- ---- decimals

abbrev Decimal : List ℕ → Type 0
Decimal text = ((kind : DataType) × DecimalIs text kind) ⊎ ((rule : FormatRule) × (p : ℕ) × NumbersFail text rule p)

scale_fits : (scale : ℤ) → FitsSigned w32 scale ⊎ (FitsSigned w32 scale → ⊥)
scale_fits (pos n) = elim (cases_lt n (2 ^ 31)) [
  | inl small ↦ inl (record { sfits = small })
  | inr large ↦ inr (λ h. omega (arith, h.sfits, large))
]
scale_fits (negsuc n) = elim (cases_lt n (2 ^ 31)) [
  | inl small ↦ inl (record { sfits = small })
  | inr large ↦ inr (λ h. omega (arith, h.sfits, large))
]

known_width : (wide : Bool) → KnownWidth (width_of wide)
known_width false = inl refl
known_width true = inr refl

most_same : (wide : Bool) → most_at (width_of wide) ≡ most_precise wide
most_same false = refl
most_same true = refl

-- ---- decimals with all their numbers
module _ (text : List ℕ) (all : Parts) (n : ℕ) (z : ℤ) where
  out_of_range : (width : ℕ) → PartsAre all n z width → text ≡ parts_text all → (rule : FormatRule) (p : ℕ) → RangeFails rule all n z width p → Decimal text
  out_of_range width are spelled rule p fails = inr (rule, p, inr (inr (inr (all, n, z, width, are, spelled, fails))))

  of_width : (wide : Bool) → PartsAre all n z (width_of wide) → text ≡ parts_text all → Decimal text
  of_width wide are spelled =
      let fails = out_of_range (width_of wide) are spelled in
      let known = known_width wide in
      elim (cases_lt n 1) [
        | inl none ↦ fails rules.OutOfRange 0 (inr (inl (known, refl, inl none, refl)))
        | inr some ↦ elim (cases_lt (most_precise wide) n) [
          | inl many ↦ fails rules.OutOfRange 0 (inr (inl (known, refl, inr (subst (λ (m : ℕ). m < n) (sym (most_same wide)) many), refl)))
          | inr few ↦ elim (scale_fits z) [
            | inl fit ↦
                inl (
                  kinds.Decimal n z wide,
                  record {
                    parts = all;
                    precision = n;
                    scale = z;
                    wide = wide;
                    are = are;
                    at_least = some;
                    at_most = few;
                    fits = fit;
                    spelled = spelled;
                    is = refl;
                  },
                )
            | inr bad ↦
                let most : n ≤ most_at (width_of wide) = subst (λ (m : ℕ). n ≤ m) (sym (most_same wide)) few in
                fails rules.OutOfRange (length all.precision + 1) (inr (inr (known, refl, some, most, bad, refl)))
          ]
        ]
      ]

  in_range : (width : ℕ) → PartsAre all n z width → text ≡ parts_text all → Decimal text
  in_range width are spelled =
      let place = length all.precision + 1 + length all.scale + 1 in
      let fails = out_of_range width are spelled in
      elim (equal width 128) [
        | inl is ↦ of_width false (subst (PartsAre all n z) is are) spelled
        | inr not_128 ↦ elim (equal width 256) [
          | inl is ↦ of_width true (subst (PartsAre all n z) is are) spelled
          | inr not_256 ↦ elim (equal width 32) [
            | inl is ↦ fails rules.Unsupported place (inl (inl is, refl))
            | inr not_32 ↦ elim (equal width 64) [
              | inl is ↦ fails rules.Unsupported place (inl (inr is, refl))
              | inr not_64 ↦
                  fails rules.OutOfRange place
                  (inl ((λ h. elim h [ inl e ↦ not_32 e | inr e ↦ not_64 e ], λ h. elim h [ inl e ↦ not_128 e | inr e ↦ not_256 e ]), refl))
            ]
          ]
        ]
      ]

-- ---- behind the scale
spelling : (p s w : List ℕ) → p ++ (44 ∷ (s ++ w)) ≡ parts_text (parts p s w)
spelling p s w = sym (simp append_assoc)

module _ (text p s : List ℕ) (n : ℕ) (z : ℤ) (p_is : IsNumber p n) (s_is : IsSigned s z) where
  behind_width : (behind digits more : List ℕ) → text ≡ p ++ (44 ∷ (s ++ (44 ∷ behind))) → NumberThen behind digits more (digits_value 10 digits) → Decimal text
  behind_width behind digits [] split then =
      let spelled : text ≡ parts_text (parts p s (44 ∷ digits)) =
      split ∙ ap (λ (t : List ℕ). p ++ (44 ∷ (s ++ (44 ∷ t)))) (then.split ∙ append-nil digits) ∙ spelling p s (44 ∷ digits) in
      in_range text (parts p s (44 ∷ digits)) n z (digits_value 10 digits)
      (record { precision_is = p_is; scale_is = s_is; width_is = inr (digits, refl, then.is) }) spelled
  behind_width behind digits (c ∷ cs) split then =
      let spelled : text ≡ parts_text (parts p s (44 ∷ digits)) ++ (c ∷ cs) =
      split ∙ ap (λ (t : List ℕ). p ++ (44 ∷ (s ++ (44 ∷ t)))) then.split ∙ sym (regroup p s (44 ∷ digits) (c ∷ cs)) in
      inr (
        rules.Trailing,
        length (parts_text (parts p s (44 ∷ digits))),
        inr (inr (inl (
          refl,
          parts p s (44 ∷ digits),
          c ∷ cs,
          n,
          z,
          digits_value 10 digits,
          record { precision_is = p_is; scale_is = s_is; width_is = inr (digits, refl, then.is) },
          spelled,
          (then.ends, λ e. absurd cc),
          omega arith,
          refl,
        ))),
      )

  behind_scale : (more : List ℕ) → text ≡ p ++ (44 ∷ (s ++ more)) → (StartsWithDigit more → ⊥) → Decimal text
  behind_scale [] split ends =
      in_range text (parts p s []) n z 128 (record { precision_is = p_is; scale_is = s_is; width_is = inl (refl, refl) }) (split ∙ spelling p s [])
  behind_scale (c ∷ cs) split ends = elim (equal c 44) [
    | inl is ↦
        let again : text ≡ p ++ (44 ∷ (s ++ (44 ∷ cs))) = split ∙ ap (λ (x : ℕ). p ++ (44 ∷ (s ++ (x ∷ cs)))) is in
        elim (number cs) [
          | inl none ↦
              inr (
                rules.BadNumber,
                length (p ++ comma ++ s ++ comma),
                inl (
                  refl,
                  AtWidth p s,
                  cs,
                  ((n, p_is), (z, s_is)),
                  again ∙ sym (regroup p s comma cs),
                  none,
                  refl,
                ),
              )
          | inr h ↦ behind_width cs h.digits h.more again h.then
        ]
    | inr other ↦
        inr (
          rules.Trailing,
          length (parts_text (parts p s [])),
          inr (inr (inl (
            refl,
            parts p s [],
            c ∷ cs,
            n,
            z,
            128,
            record { precision_is = p_is; scale_is = s_is; width_is = inl (refl, refl) },
            split ∙ sym (regroup p s [] (c ∷ cs)),
            (ends, λ e h. other h),
            omega arith,
            refl,
          ))),
        )
  ]

-- ---- behind the precision
behind_precision : (text p more : List ℕ) (n : ℕ) → NumberThen text p more n → Decimal text
behind_precision text p [] n then = inr (rules.BadNumber, length p, inr (inl (refl, p, [], n, then, λ h. h, refl)))
behind_precision text p (c ∷ cs) n then = elim (equal c 44) [
  | inl is ↦
      let split : text ≡ p ++ (44 ∷ cs) = then.split ∙ ap (λ (x : ℕ). p ++ (x ∷ cs)) is in
      elim (signed cs) [
        | inl none ↦ inr (rules.BadNumber, length (p ++ comma), inl (refl, AtScale p, cs, (n, then.is), split ∙ sym (append_assoc p comma cs), none, refl))
        | inr h ↦ behind_scale text p h.digits n h.value then.is h.is h.more (split ∙ ap (λ (t : List ℕ). p ++ (44 ∷ t)) h.split) h.ends
      ]
  | inr other ↦ inr (rules.BadNumber, length p, inr (inl (refl, p, c ∷ cs, n, then, λ h. other h, refl)))
]

decimal : (text : List ℕ) → Decimal text
decimal text = elim (number text) [
  | inl none ↦ inr (rules.BadNumber, 0, inl (refl, AtPrecision, text, tt, refl, none, refl))
  | inr h ↦ behind_precision text h.digits h.more (digits_value 10 h.digits) h.then
]

-- ---- behind a keyword

abbrev Rest : Behind → List ℕ → Type 0
Rest behind rest = ((kind : DataType) × RestIs behind rest kind) ⊎ ((rule : FormatRule) × (p : ℕ) × RestFails behind rest rule p) ⊎ (behind ≡ Refused)

rest_of : (behind : Behind) (rest : List ℕ) → Rest behind rest
rest_of (Alone kind) [] = inl (kind, (refl, refl))
rest_of (Alone kind) (c ∷ cs) = inr (inl (rules.Trailing, 0, (refl, omega arith, refl)))
rest_of (Zone tick) rest = inl (kinds.Timestamp tick rest, refl)
rest_of BinarySize rest = elim (size rest) [
  | inl h ↦ inl (kinds.FixedBinary h.0, (h.0, h.1, h.2, refl))
  | inr h ↦ inr (inl h)
]
rest_of ListSize rest = elim (size rest) [
  | inl h ↦ inl (kinds.FixedList h.0, (h.0, h.1, h.2, refl))
  | inr h ↦ inr (inl h)
]
rest_of Numbers rest = elim (decimal rest) [
  | inl h ↦ inl h
  | inr h ↦ inr (inl h)
]
rest_of Refused rest = inr (inr refl)

-- ---- a reading

abbrev Reading : List ℕ → Type 0
Reading text = (read : Answer) × Reads text read

behind_keyword : (text rest : List ℕ) (key : Keyword) → Contains keywords key → text ≡ key.word ++ rest → Rest key.behind rest → Reading text
behind_keyword text rest key known split (inl h) = (Ok h.0, record { key = key; rest = rest; known = known; split = split; completed = h.1 })
behind_keyword text rest key known split (inr (inl h)) = (
  fault h.0 (length key.word + h.1),
  inr (inr (inr (record {
    key = key;
    rest = rest;
    p = h.1;
    known = known;
    split = split;
    place_is = refl;
    fails = h.2;
  }))),
)
behind_keyword text rest key known split (inr (inr refused)) =
    let refuses : Contains keywords (record { word = key.word; behind = Refused }) =
    subst (λ (b : Behind). Contains keywords (record { word = key.word; behind = b })) refused known in
    (fault rules.Unsupported 0, inr (inr (inl (refl, (key.word, refuses, (rest, split)), refl))))

pub some_reading : (text : List ℕ) → Reading text
some_reading [] = (fault rules.Empty 0, inl (refl, refl, refl))
some_reading (c ∷ cs) = elim (some_or_none (λ k. IsPrefix k.word (c ∷ cs)) (λ k. a_prefix k.word (c ∷ cs)) keywords) [
  | inl h ↦ behind_keyword (c ∷ cs) h.4.0 h.1 (h.0, h.2, h.3) h.4.1 (rest_of h.1.behind h.4.0)
  | inr none ↦ let u = unknown (c ∷ cs) none in (fault rules.Unknown u.0, inr (inl (refl, omega arith, u.1)))
]
