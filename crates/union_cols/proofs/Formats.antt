-- A list of ids has one reading.
use Rattle.std.proofs.Common.{◌≡◌, ◌≢◌, ℕ, zero, suc, ◌+◌, ◌^◌, ◌<◌, ◌≤◌, Bool, true, false, List, [], ◌∷◌, ◌++◌, length, get_or, drop, map, Option, Some, None, refl, ap, sym, ◌∙◌, subst}
use Rattle.std.proofs.Common.{append_assoc, inl, inr, arith}
use Rattle.std.specs.Prelude.{Result, Ok, Err, decimal, Contains, ◌⊎◌}
use Rattle.std.specs.Str.Parse.{AllDigits, digits_value}
use Rattle.std.proofs.lemmas.List.{append-nil, length-append, append_cancel_left}
use Rattle.std.proofs.lemmas.Fmt.{decimal_is_IsNumeral, decimal_digit, first_decimal, decimal_injective, decimal-digits_value}
use Rattle.std.proofs.lemmas.Str.Parse.{IsNumeralModel, numerals_by_value, tells_digits}
use Rattle.fmt_string.specs.promise.FormatString.{comma, IsNumber, IsPrefix, StartsWith, StartsWithDigit}
use Rattle.fmt_string.proofs.Rereading.{number_of, number_again, no_number}
use Rattle.union_cols.specs.promise.UnionFormats.{UnionFormat, keyword, joined, AreIds, ids_before, NoNewId, StartsOtherwise}
use Rattle.union_cols.specs.UnionFormats.{FormatReads, IdsFault}

-- ---- the digits of an id

digit_texts : IsNumeralModel (AllDigits 10) (digits_value 10)
digit_texts = numerals_by_value (AllDigits 10) tells_digits

no_zero : (n : ℕ) → n < 2 ^ 64 → get_or (decimal n) 0 0 ≡ 48 → length (decimal n) ≡ 1
no_zero zero fits first = ap length (decimal_digit 0 (omega arith))
no_zero (suc n) fits first = absurd (omega (arith, first, first_decimal (suc n) (omega arith) fits))

pub number_is : (n : ℕ) → n ≤ 127 → IsNumber (decimal n) n
number_is n small =
    let fits : n < 2 ^ 64 = omega (arith, small) in
    let is = decimal_is_IsNumeral n fits in
    record { digits = is.0.1; some = is.0.0; no_zero = no_zero n fits; value = is.1 }

pub decimal_of : (digits : List ℕ) (n : ℕ) → IsNumber digits n → n ≤ 127 → digits ≡ decimal n
decimal_of digits n is small =
    let fits : digits_value 10 digits < 2 ^ 64 = omega (arith, is.value, small) in
    sym (ap decimal (sym is.value) ∙ decimal-digits_value digit_texts digits is.digits is.some is.no_zero fits)

pub same_id : (m n : ℕ) → m ≤ 127 → n ≤ 127 → decimal m ≡ decimal n → m ≡ n
same_id m n a b e = decimal_injective m n (omega (arith, a)) (omega (arith, b)) e

front_is : (text : List ℕ) (id : ℕ) (rest : List ℕ) → id ≤ 127 → text ≡ decimal id ++ rest → (StartsWithDigit rest → ⊥)
    → number_of text ≡ Some (decimal id, rest)
front_is text id rest small split ends = number_again text (decimal id) rest id (record { is = number_is id small; split = split; ends = ends })

no_comma_digit : (rest : List ℕ) → StartsWithDigit (44 ∷ rest) → ⊥
no_comma_digit rest d = omega (arith, d.0)

-- ---- ids and their fronts

get_front : (xs ys : List ℕ) (k d : ℕ) → k < length xs → get_or (xs ++ ys) k d ≡ get_or xs k d
get_front [] ys k d h = absurd (omega arith)
get_front (x ∷ xs) ys zero d h = refl
get_front (x ∷ xs) ys (suc k) d h = get_front xs ys k d (omega arith)

get_last : (xs : List ℕ) (y d : ℕ) → get_or (xs ++ y ∷ []) (length xs) d ≡ y
get_last [] y d = refl
get_last (x ∷ xs) y d = get_last xs y d

pub ids_front : (xs ys : List ℕ) → AreIds (xs ++ ys) → AreIds xs
ids_front xs ys are =
    let longer : length xs ≤ length (xs ++ ys) = omega (arith, length-append xs ys) in
    record {
      small = λ k d h. subst (λ (id : ℕ). id ≤ 127) (get_front xs ys k d h) (are.small k d (omega (arith, h, longer)));
      distinct = λ i j d lt h. subst (λ (b : ℕ). get_or xs i d ≢ b) (get_front xs ys j d h)
          (subst (λ (a : ℕ). a ≢ get_or (xs ++ ys) j d) (get_front xs ys i d (omega (arith, lt, h))) (are.distinct i j d lt (omega (arith, h, longer))));
    }

pub last_small : (ids : List ℕ) (id : ℕ) → AreIds (ids ++ id ∷ []) → id ≤ 127
last_small ids id are =
    subst (λ (x : ℕ). x ≤ 127) (get_last ids id 0) (are.small (length ids) 0 (omega (arith, length-append ids (id ∷ []))))

last_new : (ids : List ℕ) (id : ℕ) → AreIds (ids ++ id ∷ []) → Contains ids id → ⊥
last_new ids id are has =
    are.distinct has.0 (length ids) id has.1 (omega (arith, length-append ids (id ∷ [])))
    (get_front ids (id ∷ []) has.0 id has.1 ∙ has.2 ∙ sym (get_last ids id id))

-- ---- the texts of ids with their commas

pub text_more : (id : ℕ) (ids text : List ℕ) → ids_before (id ∷ ids) ++ text ≡ decimal id ++ (44 ∷ (ids_before ids ++ text))
text_more id ids text =
    append_assoc (decimal id ++ comma) (ids_before ids) text ∙ append_assoc (decimal id) comma (ids_before ids ++ text)

pub text_push : (ids : List ℕ) (id : ℕ) (text : List ℕ) → ids_before (ids ++ id ∷ []) ++ text ≡ ids_before ids ++ (decimal id ++ (44 ∷ text))
text_push [] id text = text_more id [] text
text_push (x ∷ ids) id text =
    text_more x (ids ++ id ∷ []) text ∙ ap (λ (t : List ℕ). decimal x ++ (44 ∷ t)) (text_push ids id text)
    ∙ sym (text_more x ids (decimal id ++ (44 ∷ text)))

pub joined_push : (ids : List ℕ) (id : ℕ) → joined (map decimal (ids ++ id ∷ [])) ≡ ids_before ids ++ decimal id
joined_push [] id = refl
joined_push (x ∷ []) id = ap (λ (t : List ℕ). t ++ decimal id) (sym (append-nil (decimal x ++ comma)))
joined_push (x ∷ y ∷ ids) id =
    append_assoc (decimal x) comma (joined (map decimal (y ∷ (ids ++ id ∷ []))))
    ∙ ap (λ (t : List ℕ). decimal x ++ (44 ∷ t)) (joined_push (y ∷ ids) id)
    ∙ sym (text_more x (y ∷ ids) (decimal id))

-- ---- what is behind some ids and their commas: no new id, or one and what is behind it

pub data End : Type 0 where
  Missing : List ℕ → End
  Last : ℕ → List ℕ → End

abbrev pub end_text : End → List ℕ
end_text (Missing rest) = rest
end_text (Last id rest) = decimal id ++ rest

abbrev pub IsEnd : List ℕ → End → Type 0
IsEnd ids (Missing rest) = NoNewId ids rest
IsEnd ids (Last id rest) = AreIds (ids ++ id ∷ []) × (StartsWithDigit rest → ⊥) × (StartsWith 44 rest → ⊥)

pub record Trace (named text ids : List ℕ) (end : End) : Type 0 where
  pub split : text ≡ ids_before ids ++ end_text end
  pub ids_are : AreIds (named ++ ids)
  pub ends : IsEnd (named ++ ids) end

-- a front and a rest, taken apart
taken : Option (List ℕ × List ℕ) → List ℕ × List ℕ
taken None = ([], [])
taken (Some p) = p

same_front : (a r b s : List ℕ) → ◌≡◌ {A = Option (List ℕ × List ℕ)} (Some (a, r)) (Some (b, s)) → a ≡ b
unfolding taken
same_front a r b s e = ap (λ (o : Option (List ℕ × List ℕ)). (taken o).0) e

same_rest : (a r b s : List ℕ) → ◌≡◌ {A = Option (List ℕ × List ℕ)} (Some (a, r)) (Some (b, s)) → r ≡ s
unfolding taken
same_rest a r b s e = ap (λ (o : Option (List ℕ × List ℕ)). (taken o).1) e

no_last : (ids text : List ℕ) (id : ℕ) (rest : List ℕ) → NoNewId ids text → text ≡ decimal id ++ rest → AreIds (ids ++ id ∷ [])
    → (StartsWithDigit rest → ⊥) → ⊥
no_last ids text id rest (inl none) split are ends =
    let there = front_is text id rest (last_small ids id are) split ends in
    let gone = no_number text none in
    cc
no_last ids text id rest (inr (digits, more, n, then, bad)) split are ends =
    let small = last_small ids id are in
    let there = front_is text id rest small split ends in
    let again = number_again text digits more n then in
    let digits_are = same_front digits more (decimal id) rest (sym again ∙ there) in
    let same : n ≡ id = sym then.is.value ∙ ap (digits_value 10) digits_are ∙ (number_is id small).value in
    elim bad [
      | inl large ↦ omega (arith, large, small, same)
      | inr has ↦ last_new ids id are (subst (λ (x : ℕ). Contains ids x) same has)
    ]

-- the next id is new too
next_is : (named : List ℕ) (id : ℕ) (ids : List ℕ) → AreIds (named ++ id ∷ ids) → AreIds (named ++ id ∷ [])
next_is named id ids are = ids_front (named ++ id ∷ []) ids (subst AreIds (sym (append_assoc named (id ∷ []) ids)) are)

plain_named : (named : List ℕ) (id : ℕ) → AreIds (named ++ id ∷ []) → AreIds ((named ++ []) ++ id ∷ [])
plain_named named id are = subst (λ (xs : List ℕ). AreIds (xs ++ id ∷ [])) (sym (append-nil named)) are

later : (named text : List ℕ) (id : ℕ) (ids : List ℕ) (end : End) (rest : List ℕ) → Trace named text (id ∷ ids) end → rest ≡ ids_before ids ++ end_text end
    → Trace (named ++ id ∷ []) rest ids end
later named text id ids end rest t split =
    let e = append_assoc named (id ∷ []) ids in
    record {
      split = split;
      ids_are = subst AreIds (sym e) t.ids_are;
      ends = subst (λ (xs : List ℕ). IsEnd xs end) (sym e) t.ends;
    }

-- an id and a comma are the front
front_of : (named text : List ℕ) (id : ℕ) (ids : List ℕ) (end : End) → Trace named text (id ∷ ids) end
    → number_of text ≡ Some (decimal id, 44 ∷ (ids_before ids ++ end_text end))
front_of named text id ids end t =
    front_is text id (44 ∷ (ids_before ids ++ end_text end)) (last_small named id (next_is named id ids t.ids_are))
    (t.split ∙ text_more id ids (end_text end)) (no_comma_digit (ids_before ids ++ end_text end))

front_last : (named text : List ℕ) (id : ℕ) (rest : List ℕ) → Trace named text [] (Last id rest) → number_of text ≡ Some (decimal id, rest)
front_last named text id rest t = front_is text id rest (last_small (named ++ []) id t.ends.0) t.split t.ends.1

apart_missing : (named text rest : List ℕ) (id : ℕ) (ids : List ℕ) (end : End) → Trace named text [] (Missing rest) → Trace named text (id ∷ ids) end → ⊥
apart_missing named text rest id ids end f g =
    no_last (named ++ []) text id (44 ∷ (ids_before ids ++ end_text end)) (subst (NoNewId (named ++ [])) (sym f.split) f.ends)
    (g.split ∙ text_more id ids (end_text end)) (plain_named named id (next_is named id ids g.ids_are)) (no_comma_digit (ids_before ids ++ end_text end))

apart_last : (named text : List ℕ) (last : ℕ) (rest : List ℕ) (id : ℕ) (ids : List ℕ) (end : End) → Trace named text [] (Last last rest)
    → Trace named text (id ∷ ids) end → ⊥
apart_last named text last rest id ids end f g =
    let a = front_last named text last rest f in
    let b = front_of named text id ids end g in
    let e = same_rest (decimal last) rest (decimal id) (44 ∷ (ids_before ids ++ end_text end)) (sym a ∙ b) in
    f.ends.2 (subst (StartsWith 44) (sym e) refl)

apart_ends : (named text rest : List ℕ) (id : ℕ) (behind : List ℕ) → Trace named text [] (Missing rest) → Trace named text [] (Last id behind) → ⊥
apart_ends named text rest id behind f g =
    no_last (named ++ []) text id behind (subst (NoNewId (named ++ [])) (sym f.split) f.ends) g.split g.ends.0 g.ends.1

record Same (a : List ℕ) (x : End) (b : List ℕ) (y : End) : Type 0 where
  ids : a ≡ b
  end : x ≡ y

one_trace : (named text a : List ℕ) (x : End) (b : List ℕ) (y : End) → Trace named text a x → Trace named text b y → Same a x b y
one_trace named text [] (Missing r) [] (Missing s) f g = record { ids = refl; end = ap Missing (sym f.split ∙ g.split) }
one_trace named text [] (Missing r) [] (Last id s) f g = absurd (apart_ends named text r id s f g)
one_trace named text [] (Last id r) [] (Missing s) f g = absurd (apart_ends named text s id r g f)
one_trace named text [] (Last id r) [] (Last other s) f g =
    let a = front_last named text id r f in
    let b = front_last named text other s g in
    let digits = same_front (decimal id) r (decimal other) s (sym a ∙ b) in
    let rests = same_rest (decimal id) r (decimal other) s (sym a ∙ b) in
    let same = same_id id other (last_small (named ++ []) id f.ends.0) (last_small (named ++ []) other g.ends.0) digits in
    record { ids = refl; end = λ i. Last (same i) (rests i) }
one_trace named text [] (Missing r) (id ∷ b) y f g = absurd (apart_missing named text r id b y f g)
one_trace named text [] (Last last r) (id ∷ b) y f g = absurd (apart_last named text last r id b y f g)
one_trace named text (id ∷ a) x [] (Missing s) f g = absurd (apart_missing named text s id a x g f)
one_trace named text (id ∷ a) x [] (Last last s) f g = absurd (apart_last named text last s id a x g f)
one_trace named text (id ∷ a) x (other ∷ b) y f g =
    let left = front_of named text id a x f in
    let right = front_of named text other b y g in
    let behind_id = 44 ∷ (ids_before a ++ end_text x) in
    let behind_other = 44 ∷ (ids_before b ++ end_text y) in
    let digits = same_front (decimal id) behind_id (decimal other) behind_other (sym left ∙ right) in
    let rests = ap (drop 1) (same_rest (decimal id) behind_id (decimal other) behind_other (sym left ∙ right)) in
    let same = same_id id other (last_small named id (next_is named id a f.ids_are)) (last_small named other (next_is named other b g.ids_are)) digits in
    let second = later named text other b y (ids_before a ++ end_text x) g rests in
    let rest = one_trace (named ++ id ∷ []) (ids_before a ++ end_text x) a x b y (later named text id a x (ids_before a ++ end_text x) f refl)
    (subst (λ (n : ℕ). Trace (named ++ n ∷ []) (ids_before a ++ end_text x) b y) (sym same) second) in
    record { ids = λ i. same i ∷ rest.ids i; end = rest.end }

-- ---- a list of ids

abbrev pub ListReads : List ℕ → Result (List ℕ) ℕ → Type 0
ListReads list (Ok ids) = (list ≡ joined (map decimal ids)) × AreIds ids
ListReads list (Err place) = IdsFault list place

outcome : List ℕ → End → Result (List ℕ) ℕ
outcome ids (Missing rest) = Err (length (ids_before ids))
outcome ids (Last id []) = Ok (ids ++ id ∷ [])
outcome ids (Last id (c ∷ cs)) = Err (length (ids_before ids ++ decimal id))

record Traced (list : List ℕ) (read : Result (List ℕ) ℕ) : Type 0 where
  ids : List ℕ
  end : End
  trace : Trace [] list ids end
  is : read ≡ outcome ids end

-- all ids but the last, and the last
fronts : ℕ → List ℕ → List ℕ
fronts x [] = []
fronts x (y ∷ ys) = x ∷ fronts y ys

final : ℕ → List ℕ → ℕ
final x [] = x
final x (y ∷ ys) = final y ys

fronts_final : (x : ℕ) (xs : List ℕ) → fronts x xs ++ final x xs ∷ [] ≡ x ∷ xs
unfolding fronts final
fronts_final x [] = refl
fronts_final x (y ∷ ys) = ap (λ (l : List ℕ). x ∷ l) (fronts_final y ys)

no_start : (text : List ℕ) → StartsOtherwise text → StartsWith 44 text → ⊥
no_start [] other h = h
no_start (c ∷ cs) other h = other.1 h

no_digit : (text : List ℕ) → StartsOtherwise text → StartsWithDigit text → ⊥
no_digit [] other h = h
no_digit (c ∷ cs) other h = other.0 h

behind_outcome : (ids : List ℕ) (id : ℕ) (rest : List ℕ) → StartsOtherwise rest → outcome ids (Last id rest) ≡ Err (length (ids_before ids ++ decimal id))
unfolding outcome
behind_outcome ids id [] other = absurd other
behind_outcome ids id (c ∷ cs) other = refl

traced : (list : List ℕ) (read : Result (List ℕ) ℕ) → 0 < length list → ListReads list read → Traced list read
unfolding outcome
traced list (Ok []) some is = absurd (omega (arith, some, ap length is.0))
traced list (Ok (x ∷ xs)) some is =
    let all = fronts_final x xs in
    record {
      ids = fronts x xs;
      end = Last (final x xs) [];
      trace = record {
        split = is.0 ∙ ap (λ (ids : List ℕ). joined (map decimal ids)) (sym all) ∙ joined_push (fronts x xs) (final x xs)
            ∙ ap (λ (t : List ℕ). ids_before (fronts x xs) ++ t) (sym (append-nil (decimal (final x xs))));
        ids_are = ids_front (fronts x xs) (final x xs ∷ []) (subst AreIds (sym all) is.1);
        ends = (subst AreIds (sym all) is.1, λ h. h, λ h. h);
      };
      is = ap Ok (sym all);
    }
traced list (Err place) some (inl at) =
    record {
      ids = at.ids;
      end = Missing at.rest;
      trace = record { split = at.split; ids_are = at.ids_are; ends = at.none };
      is = ap Err at.place_is;
    }
traced list (Err place) some (inr behind) =
    record {
      ids = behind.ids;
      end = Last behind.id behind.rest;
      trace = record {
        split = behind.split ∙ append_assoc (ids_before behind.ids) (decimal behind.id) behind.rest;
        ids_are = ids_front behind.ids (behind.id ∷ []) behind.ids_are;
        ends = (behind.ids_are, no_digit behind.rest behind.other, no_start behind.rest behind.other);
      };
      is = ap Err behind.place_is ∙ sym (behind_outcome behind.ids behind.id behind.rest behind.other);
    }

-- the empty list has no id and no fault
some_digit : (id : ℕ) → id ≤ 127 → 0 < length (decimal id)
some_digit id small = (number_is id small).some

none_joined : (ids : List ℕ) → AreIds ids → 0 ≡ length (joined (map decimal ids)) → ids ≡ []
none_joined [] are e = refl
none_joined (x ∷ xs) are e = absurd (nothing x xs (are.small 0 0 (omega arith)) e)
  where
    nothing : (x : ℕ) (xs : List ℕ) → x ≤ 127 → 0 ≡ length (joined (map decimal (x ∷ xs))) → ⊥
    nothing x [] small e = omega (arith, e, some_digit x small)
    nothing x (y ∷ ys) small e =
        omega (arith, e, some_digit x small, length-append (decimal x ++ comma) (joined (map decimal (y ∷ ys))), length-append (decimal x) comma)

no_list_fault : (place : ℕ) → IdsFault [] place → ⊥
no_list_fault place (inl at) = omega (arith, at.some)
no_list_fault place (inr behind) =
    omega (
      arith,
      ap length behind.split,
      length-append (ids_before behind.ids ++ decimal behind.id) behind.rest,
      length-append (ids_before behind.ids) (decimal behind.id),
      some_digit behind.id (last_small behind.ids behind.id behind.ids_are),
    )

pub one_list : (list : List ℕ) (first second : Result (List ℕ) ℕ) → ListReads list first → ListReads list second → first ≡ second
one_list [] (Ok a) (Ok b) f g =
    λ i. Ok ((none_joined a f.1 (ap length f.0) ∙ sym (none_joined b g.1 (ap length g.0))) i)
one_list [] (Ok a) (Err q) f g = absurd (no_list_fault q g)
one_list [] (Err p) b f g = absurd (no_list_fault p f)
one_list (c ∷ cs) first second f g =
    let a = traced (c ∷ cs) first (omega arith) f in
    let b = traced (c ∷ cs) second (omega arith) g in
    let same = one_trace [] (c ∷ cs) a.ids a.end b.ids b.end a.trace b.trace in
    a.is ∙ (λ i. outcome (same.ids i) (same.end i)) ∙ sym b.is

-- ---- a whole text

same_keyword : (d e : Bool) (a b : List ℕ) → keyword d ++ a ≡ keyword e ++ b → d ≡ e
same_keyword true true a b same = refl
same_keyword false false a b same = refl
same_keyword true false a b same = absurd (omega (arith, ap (λ (l : List ℕ). get_or l 2 0) same))
same_keyword false true a b same = absurd (omega (arith, ap (λ (l : List ℕ). get_or l 2 0) same))

same_list : (d e : Bool) (a b : List ℕ) → keyword d ++ a ≡ keyword e ++ b → a ≡ b
same_list d e a b same =
    append_cancel_left (keyword d) a b (same ∙ ap (λ (k : Bool). keyword k ++ b) (sym (same_keyword d e a b same)))

told : Bool → Result (List ℕ) ℕ → Result UnionFormat ℕ
told dense (Ok ids) = Ok (record { dense = dense; ids = ids })
told dense (Err place) = Err (4 + place)

record Behind (text : List ℕ) (read : Result UnionFormat ℕ) : Type 0 where
  dense : Bool
  list : List ℕ
  inner : Result (List ℕ) ℕ
  split : text ≡ keyword dense ++ list
  reads : ListReads list inner
  is : read ≡ told dense inner

abbrev NoKeyword : List ℕ → Type 0
NoKeyword text = (dense : Bool) → IsPrefix (keyword dense) text → ⊥

behind : (text : List ℕ) (read : Result UnionFormat ℕ) → FormatReads text read → (NoKeyword text × (read ≡ Err 0)) ⊎ Behind text read
unfolding told
behind text (Ok format) is =
    inr (record {
      dense = format.dense;
      list = joined (map decimal format.ids);
      inner = Ok format.ids;
      split = is.spelled;
      reads = (refl, is.ids_are);
      is = refl;
    })
behind text (Err place) (inl none) = inl (none.0, ap Err none.1)
behind text (Err place) (inr (dense, list, p, split, fault, place_is)) =
    inr (record { dense = dense; list = list; inner = Err p; split = split; reads = fault; is = ap Err place_is })

one_behind : (text : List ℕ) (first second : Result UnionFormat ℕ) → Behind text first → Behind text second → first ≡ second
one_behind text first second f g =
    let e = sym f.split ∙ g.split in
    let dense = same_keyword f.dense g.dense f.list g.list e in
    let list = same_list f.dense g.dense f.list g.list e in
    let inner = one_list f.list f.inner g.inner f.reads (subst (λ (l : List ℕ). ListReads l g.inner) (sym list) g.reads) in
    f.is ∙ (λ i. told (dense i) (inner i)) ∙ sym g.is

pub one_format : (text : List ℕ) (first second : Result UnionFormat ℕ) → FormatReads text first → FormatReads text second → first ≡ second
one_format text first second f g =
    elim (behind text first f) [
      | inl none ↦ elim (behind text second g) [
        | inl other ↦ none.1 ∙ sym other.1
        | inr there ↦ absurd (none.0 there.dense (there.list, there.split))
      ]
      | inr there ↦ elim (behind text second g) [
        | inl none ↦ absurd (none.0 there.dense (there.list, there.split))
        | inr other ↦ one_behind text first second there other
      ]
    ]
