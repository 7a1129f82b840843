-- The steps of the reading of a format.
use Rattle.std.proofs.Common.{◌≡◌, ◌≢◌, ℕ, ◌+◌, ◌-◌, ◌^◌, ◌<◌, ◌≤◌, min, Bool, true, false, List, [], ◌∷◌, ◌++◌, length, get_or, take, map, refl, ap, sym, ◌∙◌, subst, inl, inr, arith}
use Rattle.std.proofs.Common.{append_assoc}
use Rattle.std.specs.Prelude.{decimal, codes, Contains, nat_eq}
use Rattle.std.specs.List.{list_any}
use Rattle.std.proofs.lemmas.Bool.{eqb-true, eq-eqb}
use Rattle.std.proofs.lemmas.List.{append-nil, length-append, get_or_default}
use Rattle.std.proofs.lemmas.List.Elements.{All-push}
use Rattle.std.proofs.lemmas.List.Folds.{Any-from_list_any, list_any_at}
use Rattle.std.proofs.lemmas.List.Quantifiers.{all_pairs_push}
use Rattle.fmt_string.specs.promise.FormatString.{IsPrefix, IsNumber, NumberThen, StartsWith, StartsWithDigit}
use Rattle.union_cols.specs.promise.UnionFormats.{keyword, joined, AreIds, UnionFormatIs, ids_before, NoNewId, StartsOtherwise}
use Rattle.union_cols.specs.UnionFormats.{IdsFault}
use Rattle.union_cols.specs.promise.UnionFormats.{UnionFormatFault}
use Rattle.union_cols.proofs.Formats.{decimal_of, text_push, joined_push}

-- ---- the keyword

pub short_word : (text : List ℕ) → length text < 4 → (dense : Bool) → IsPrefix (keyword dense) text → ⊥
short_word text short true (rest, split) = omega (arith, short, ap length split, length-append (codes "+ud:") rest)
short_word text short false (rest, split) = omega (arith, short, ap length split, length-append (codes "+us:") rest)

front_word : (word list : List ℕ) → length word ≡ 4 → take 4 (word ++ list) ≡ word
front_word [] list four = absurd (omega arith)
front_word (a ∷ []) list four = absurd (omega arith)
front_word (a ∷ b ∷ []) list four = absurd (omega arith)
front_word (a ∷ b ∷ c ∷ []) list four = absurd (omega arith)
front_word (a ∷ b ∷ c ∷ d ∷ []) list four = refl
front_word (a ∷ b ∷ c ∷ d ∷ e ∷ more) list four = absurd (omega arith)

pub other_word : (text word list : List ℕ) → text ≡ word ++ list → length word ≡ 4 → (word ≡ codes "+ud:" → ⊥) → (word ≡ codes "+us:" → ⊥)
    → (dense : Bool) → IsPrefix (keyword dense) text → ⊥
other_word text word list split four no_dense no_sparse true (rest, is) = no_dense (sym (front_word word list four) ∙ ap (take 4) (sym split ∙ is))
other_word text word list split four no_dense no_sparse false (rest, is) = no_sparse (sym (front_word word list four) ∙ ap (take 4) (sym split ∙ is))

-- ---- an id

contained : (ids : List ℕ) (id : ℕ) → list_any (λ y. nat_eq y id) ids ≡ true → Contains ids id
contained ids id e =
    let found = Any-from_list_any (λ y. nat_eq y id) ids e in
    (found.0, found.2, get_or_default ids found.0 id found.1 found.2 ∙ found.3 ∙ eqb-true found.1 id found.4)

not_contained : (ids : List ℕ) (id : ℕ) → list_any (λ y. nat_eq y id) ids ≡ false → (k d : ℕ) → k < length ids → get_or ids k d ≢ id
not_contained ids id e k d h same =
    let test = eq-eqb (get_or ids k d) id same in
    let yes = list_any_at (λ y. nat_eq y id) ids k d h test in
    cc

pub push_id : (ids : List ℕ) (id : ℕ) → AreIds ids → id ≤ 127 → list_any (λ y. nat_eq y id) ids ≡ false → AreIds (ids ++ id ∷ [])
push_id ids id are small none =
    record {
      small = All-push (λ x. x ≤ 127) ids id are.small small;
      distinct = all_pairs_push (λ a b. a ≢ b) ids id are.distinct (λ k d h. not_contained ids id none k d h);
    }

-- a number in front that is no new id
pub too_large : (ids text digits more : List ℕ) (n value : ℕ) → NumberThen text digits more n → value ≡ min n (2 ^ 40) → 127 < value → NoNewId ids text
too_large ids text digits more n value then is large = inr (digits, more, n, then, inl (omega (arith, is, large)))

pub named_before : (ids text digits more : List ℕ) (n value : ℕ) → NumberThen text digits more n → value ≡ min n (2 ^ 40) → value ≤ 127
    → list_any (λ y. nat_eq y value) ids ≡ true → NoNewId ids text
named_before ids text digits more n value then is small found =
    let same : value ≡ n = omega (arith, is, small) in
    inr (digits, more, n, then, inr (subst (Contains ids) same (contained ids value found)))

pub front_id : (text digits more : List ℕ) (n value : ℕ) → NumberThen text digits more n → value ≡ min n (2 ^ 40) → value ≤ 127 → text ≡ decimal value ++ more
front_id text digits more n value then is small =
    let same : n ≡ value = omega (arith, is, small) in
    let number : IsNumber digits value = subst (IsNumber digits) same then.is in
    then.split ∙ ap (λ (t : List ℕ). t ++ more) (decimal_of digits value number small)

-- ---- the list

length_left : (list before left : List ℕ) → list ≡ before ++ left → length list - length left ≡ length before
length_left list before left split = omega (arith, ap length split, length-append before left)

pub missing_id : (list ids left : List ℕ) (place : ℕ) → AreIds ids → 0 < length list → list ≡ ids_before ids ++ left → NoNewId ids left
    → place ≡ length list - length left → IdsFault list place
missing_id list ids left place are some split none is =
    inl (record {
      ids = ids;
      rest = left;
      split = split;
      ids_are = are;
      some = some;
      none = none;
      place_is = is ∙ length_left list (ids_before ids) left split;
    })

starts_otherwise : (rest : List ℕ) → 0 < length rest → (StartsWithDigit rest → ⊥) → (StartsWith 44 rest → ⊥) → StartsOtherwise rest
starts_otherwise [] some digit comma = absurd (omega (arith, some))
starts_otherwise (c ∷ cs) some digit comma = (digit, comma)

both : (list ids : List ℕ) (id : ℕ) (left rest : List ℕ) → list ≡ ids_before ids ++ left → left ≡ decimal id ++ rest
    → list ≡ (ids_before ids ++ decimal id) ++ rest
both list ids id left rest split front =
    split ∙ ap (λ (t : List ℕ). ids_before ids ++ t) front ∙ sym (append_assoc (ids_before ids) (decimal id) rest)

pub behind_id : (list ids : List ℕ) (id : ℕ) (left rest : List ℕ) (place : ℕ) → AreIds (ids ++ id ∷ []) → list ≡ ids_before ids ++ left
    → left ≡ decimal id ++ rest → 0 < length rest → (StartsWithDigit rest → ⊥) → (StartsWith 44 rest → ⊥)
    → place ≡ length list - length rest → IdsFault list place
behind_id list ids id left rest place are split front some digit comma is =
    let whole = both list ids id left rest split front in
    inr (record {
      ids = ids;
      id = id;
      rest = rest;
      split = whole;
      ids_are = are;
      other = starts_otherwise rest some digit comma;
      place_is = is ∙ length_left list (ids_before ids ++ decimal id) rest whole;
    })

pub last_id : (list ids : List ℕ) (id : ℕ) (left rest more : List ℕ) → list ≡ ids_before ids ++ left → left ≡ decimal id ++ rest → length rest ≡ 0
    → more ≡ ids ++ id ∷ [] → list ≡ joined (map decimal more)
last_id list ids id left rest more split front none grown =
    both list ids id left rest split front
    ∙ ap (λ (t : List ℕ). (ids_before ids ++ decimal id) ++ t) (empty rest none)
    ∙ append-nil (ids_before ids ++ decimal id)
    ∙ sym (joined_push ids id)
    ∙ ap (λ (l : List ℕ). joined (map decimal l)) (sym grown)
  where
    empty : (rest : List ℕ) → length rest ≡ 0 → rest ≡ []
    empty [] h = refl
    empty (c ∷ cs) h = absurd (omega (arith, h))

pub next_id : (list ids : List ℕ) (id : ℕ) (left rest behind more : List ℕ) → list ≡ ids_before ids ++ left → left ≡ decimal id ++ rest
    → rest ≡ 44 ∷ behind → more ≡ ids ++ id ∷ [] → list ≡ ids_before more ++ behind
next_id list ids id left rest behind more split front comma grown =
    split
    ∙ ap (λ (t : List ℕ). ids_before ids ++ t) (front ∙ ap (λ (t : List ℕ). decimal id ++ t) comma)
    ∙ sym (text_push ids id behind)
    ∙ ap (λ (l : List ℕ). ids_before l ++ behind) (sym grown)

pub grown_ids : (ids more : List ℕ) (id : ℕ) → AreIds (ids ++ id ∷ []) → more ≡ ids ++ id ∷ [] → AreIds more
grown_ids ids more id are grown = subst AreIds (sym grown) are

-- ---- the whole text

pub format_is : (text list : List ℕ) (dense : Bool) (ids : List ℕ) → text ≡ keyword dense ++ list → AreIds ids → list ≡ joined (map decimal ids)
    → UnionFormatIs text (record { dense = dense; ids = ids })
format_is text list dense ids split are spelled = record { spelled = split ∙ ap (λ (t : List ℕ). keyword dense ++ t) spelled; ids_are = are }

pub format_fault : (text list : List ℕ) (dense : Bool) (p place : ℕ) → text ≡ keyword dense ++ list → IdsFault list p → place ≡ p + 4
    → UnionFormatFault text place
format_fault text list dense p place split fault is = inr (dense, list, p, split, fault, is ∙ omega arith)

pub no_keyword : (text : List ℕ) → ((dense : Bool) → IsPrefix (keyword dense) text → ⊥) → UnionFormatFault text 0
no_keyword text none = inl (none, refl)

pub no_ids : AreIds []
no_ids = record { small = λ k d h. absurd (omega arith); distinct = λ i j d lt h. absurd (omega arith) }

pub ruleset ids_steps = (push_id, too_large, named_before, front_id)
