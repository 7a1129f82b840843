-- A text has one reading: one kind or one fault.
use Rattle.std.proofs.Common.{◌≡◌, ℕ, zero, suc, ◌+◌, ◌<◌, ◌^◌, Bool, true, false, cond, ltb, nat_eq, List, [], ◌∷◌, ◌++◌, length, get_or, drop, map, Option}
use Rattle.std.proofs.Common.{Some, None, Ok, Err, refl, sym, ap, subst, ◌∙◌, inl, inr, arith}
use Rattle.std.specs.Prelude.{IfOk, IfErr, Contains, All, ◌⊎◌, not}
use Rattle.std.specs.List.{starts_with, list_all}
use Rattle.std.specs.Str.Parse.{digits_value}
use Rattle.std.proofs.lemmas.Bool.{le-ltb, lt-ltb}
use Rattle.std.proofs.lemmas.Bool.Decides.{Decides-eqb}
use Rattle.std.proofs.lemmas.List.{drop_at, append-nil}
use Rattle.std.proofs.lemmas.List.Elements.{All-head, All-tail}
use Rattle.std.proofs.lemmas.Slice.Eq.{starts_is}
use Rattle.fmt_string.specs.declared.fault.FormatRule.{FormatRule}
use Rattle.fmt_string.specs.declared.fault.FormatRule.TheVariants as rules
use Rattle.fmt_string.specs.declared.fault.FormatFault.TheVariants.{At, NoMemory}
use Rattle.data_types.specs.declared.kind.DataType.{DataType}
use Rattle.data_types.specs.declared.kind.DataType.TheVariants as kinds
use Rattle.fmt_string.specs.promise.Keywords.{Keyword, keywords, Behind}
use Rattle.fmt_string.specs.promise.Keywords.Behind.{Alone, Zone, BinarySize, ListSize, Numbers, Refused}
use Rattle.fmt_string.specs.promise.FormatString.{IsNumber, NumberThen, SizeFails, IsPrefix, UnknownAt, RestIs, RestFails, FormatIs, FormatFaultIs}
use Rattle.fmt_string.specs.Answer.{FaultIs, Reads}
use Rattle.fmt_string.proofs.Rereading.{number_of, number_again, no_number}
use Rattle.fmt_string.proofs.RereadDecimal.{Answer, fault, numbers_of, decimal_again, numbers_fail}
use Rattle.data_types.specs.Kinds.{KindOk}
use Rattle.fmt_string.specs.promise.Spelling.{spelling_of}
use Rattle.fmt_string.proofs.Spelled.{spelled}
use Rattle.fmt_string.proofs.Table.{apart, is_prefix_free, keywords_apart, and_left, and_right}

-- ---- sizes

sized : (ℕ → DataType) → ℕ → Option (List ℕ × List ℕ) → Answer
sized make start None = fault rules.BadNumber start
sized make start (Some (digits, [])) = cond (ltb (digits_value 10 digits) (2 ^ 31)) (Ok (make (digits_value 10 digits))) (fault rules.OutOfRange start)
sized make start (Some (digits, c ∷ cs)) = fault rules.Trailing (start + length digits)

whole : (text : List ℕ) (n : ℕ) → IsNumber text n → NumberThen text text [] n
whole text n is = record { is = is; split = sym (append-nil text); ends = λ h. h }

size_is : (make : ℕ → DataType) (start : ℕ) (text : List ℕ) (n : ℕ) → IsNumber text n → n < 2 ^ 31 → sized make start (number_of text) ≡ Ok (make n)
unfolding sized
size_is make start text n is small =
    let yes : ltb n (2 ^ 31) ≡ true = lt-ltb n (2 ^ 31) small in
    rw (number_again text text [] n (whole text n is), is.value, yes) refl

sized_more : (make : ℕ → DataType) (start : ℕ) (text digits more : List ℕ) (n : ℕ) → NumberThen text digits more n → 0 < length more
    → sized make start (number_of text) ≡ fault rules.Trailing (start + length digits)
unfolding sized
sized_more make start text digits [] n then some = absurd (omega arith)
sized_more make start text digits (c ∷ cs) n then some = rw (number_again text digits (c ∷ cs) n then) refl

size_fails : (make : ℕ → DataType) (start : ℕ) (text : List ℕ) (rule : FormatRule) (p : ℕ) → SizeFails text rule p
    → sized make start (number_of text) ≡ fault rule (start + p)
unfolding sized
size_fails make start text rules.BadNumber p h =
    let place : start ≡ start + p = omega (arith, h.1) in
    rw (no_number text h.0) (ap (fault rules.BadNumber) place)
size_fails make start text rules.Trailing p h = sized_more make start text h.0 h.1 h.2 h.3 h.4 ∙ ap (λ (k : ℕ). fault rules.Trailing (start + k)) (sym h.5)
size_fails make start text rules.OutOfRange p h =
    let no : ltb h.0 (2 ^ 31) ≡ false = le-ltb h.0 (2 ^ 31) h.2 in
    let place : start ≡ start + p = omega (arith, h.3) in
    rw (number_again text text [] h.0 (whole text h.0 h.1), h.1.value, no) (ap (fault rules.OutOfRange) place)
size_fails make start text rules.Empty p h = absurd h
size_fails make start text rules.Unknown p h = absurd h
size_fails make start text rules.Unsupported p h = absurd h

-- ---- behind a keyword

alone : DataType → ℕ → List ℕ → Answer
alone kind start [] = Ok kind
alone kind start (c ∷ cs) = fault rules.Trailing start

behind : Behind → ℕ → List ℕ → Answer
behind (Alone kind) start rest = alone kind start rest
behind (Zone tick) start rest = Ok (kinds.Timestamp tick rest)
behind BinarySize start rest = sized kinds.FixedBinary start (number_of rest)
behind ListSize start rest = sized kinds.FixedList start (number_of rest)
behind Numbers start rest = numbers_of start rest
behind Refused start rest = fault rules.Unsupported 0

rest_is : (b : Behind) (start : ℕ) (rest : List ℕ) (kind : DataType) → RestIs b rest kind → behind b start rest ≡ Ok kind
unfolding behind alone
rest_is (Alone known) start rest kind h = ap (alone known start) h.0 ∙ ap Ok (sym h.1)
rest_is (Zone tick) start rest kind h = ap Ok (sym h)
rest_is BinarySize start rest kind h = size_is kinds.FixedBinary start rest h.0 h.2 h.1 ∙ ap Ok (sym h.3)
rest_is ListSize start rest kind h = size_is kinds.FixedList start rest h.0 h.2 h.1 ∙ ap Ok (sym h.3)
rest_is Numbers start rest kind h = decimal_again start rest kind h
rest_is Refused start rest kind h = absurd h

alone_fails : (kind : DataType) (start : ℕ) (rest : List ℕ) → 0 < length rest → alone kind start rest ≡ fault rules.Trailing start
unfolding alone
alone_fails kind start [] some = absurd (omega arith)
alone_fails kind start (c ∷ cs) some = refl

rest_fails : (b : Behind) (start : ℕ) (rest : List ℕ) (rule : FormatRule) (p : ℕ) → RestFails b rest rule p → behind b start rest ≡ fault rule (start + p)
unfolding behind
rest_fails (Alone known) start rest rule p h =
    let place : start ≡ start + p = omega (arith, h.2) in
    alone_fails known start rest h.1 ∙ ap (λ (r : FormatRule). fault r start) (sym h.0) ∙ ap (fault rule) place
rest_fails (Zone tick) start rest rule p h = absurd h
rest_fails BinarySize start rest rule p h = size_fails kinds.FixedBinary start rest rule p h
rest_fails ListSize start rest rule p h = size_fails kinds.FixedList start rest rule p h
rest_fails Numbers start rest rule p h = numbers_fail start rest rule p h
rest_fails Refused start rest rule p h = absurd h

-- ---- the keyword

-- the answer behind the first keyword that the text begins with, or another where it begins with none
in_table : List Keyword → List ℕ → Answer → Answer
in_table [] text other = other
in_table (k ∷ ks) text other = cond (starts_with nat_eq text k.word) (behind k.behind (length k.word) (drop (length k.word) text)) (in_table ks text other)

pub begins : (text word rest : List ℕ) → text ≡ word ++ rest → starts_with nat_eq text word ≡ true
begins text word rest split = (starts_is Decides-eqb text word (starts_with nat_eq text word) refl).1 rest split

pub front : (text word : List ℕ) → starts_with nat_eq text word ≡ true → text ≡ word ++ drop (length word) text
front text word starts = (starts_is Decides-eqb text word (starts_with nat_eq text word) refl).0 starts

-- of two fronts of a text one is a front of the other
nested : (v w xs ys : List ℕ) → v ++ xs ≡ w ++ ys → ((rest : List ℕ) × (v ≡ w ++ rest)) ⊎ ((rest : List ℕ) × (w ≡ v ++ rest))
nested [] w xs ys e = inr (w, refl)
nested (a ∷ v) [] xs ys e = inl (a ∷ v, refl)
nested (a ∷ v) (b ∷ w) xs ys e =
    let head : a ≡ b = cc in
    let tail : v ++ xs ≡ w ++ ys = cc in
    elim (nested v w xs ys tail) [
      | inl h ↦ inl (h.0, cc (head, h.1))
      | inr h ↦ inr (h.0, cc (head, h.1))
    ]

not_true : (a : Bool) → not a ≡ true → a ≡ false
not_true true h = absurd cc
not_true false h = refl

apart_words : (v w : List ℕ) → apart v w ≡ true → (starts_with nat_eq v w ≡ false) × (starts_with nat_eq w v ≡ false)
apart_words v w h = (
  not_true (starts_with nat_eq v w) (and_left (not (starts_with nat_eq v w)) (not (starts_with nat_eq w v)) h),
  not_true (starts_with nat_eq w v) (and_right (not (starts_with nat_eq v w)) (not (starts_with nat_eq w v)) h),
)

not_both : (text v w rest : List ℕ) → apart v w ≡ true → text ≡ w ++ rest → (b : Bool) → starts_with nat_eq text v ≡ b → b ≡ false
not_both text v w rest h split false is = refl
not_both text v w rest h split true is =
    let a = apart_words v w h in
    elim (nested v w (drop (length v) text) rest (sym (front text v is) ∙ split)) [
      | inl n ↦ let yes : starts_with nat_eq v w ≡ true = begins v w n.0 n.1 in absurd cc
      | inr n ↦ let yes : starts_with nat_eq w v ≡ true = begins w v n.0 n.1 in absurd cc
    ]

-- ---- a keyword among words that are apart
apart_from : (w : List ℕ) (ks : List Keyword) (i : ℕ) (d : Keyword) → list_all (apart w) (map (λ k. k.word) ks) ≡ true → i < length ks
    → apart w (get_or ks i d).word ≡ true
apart_from w [] i d all lt = absurd (omega arith)
apart_from w (k ∷ ks) zero d all lt = and_left (apart w k.word) (list_all (apart w) (map (λ k. k.word) ks)) all
apart_from w (k ∷ ks) (suc i) d all lt = apart_from w ks i d (and_right (apart w k.word) (list_all (apart w) (map (λ k. k.word) ks)) all) (omega arith)

found_at : (ks : List Keyword) (text rest : List ℕ) (other : Answer) (i : ℕ) (d : Keyword) → is_prefix_free (map (λ k. k.word) ks) ≡ true → i < length ks
    → text ≡ (get_or ks i d).word ++ rest → in_table ks text other ≡ behind (get_or ks i d).behind (length (get_or ks i d).word) rest
unfolding in_table
found_at [] text rest other i d free lt split = absurd (omega arith)
found_at (k ∷ ks) text rest other zero d free lt split =
    let yes : starts_with nat_eq text k.word ≡ true = begins text k.word rest split in
    let after : drop (length k.word) text ≡ rest = ap (drop (length k.word)) split ∙ drop_at k.word rest (length k.word) refl in
    rw (yes, after) refl
found_at (k ∷ ks) text rest other (suc i) d free lt split =
    let all = and_left (list_all (apart k.word) (map (λ k. k.word) ks)) (is_prefix_free (map (λ k. k.word) ks)) free in
    let more = and_right (list_all (apart k.word) (map (λ k. k.word) ks)) (is_prefix_free (map (λ k. k.word) ks)) free in
    let no : starts_with nat_eq text k.word ≡ false =
    not_both text k.word (get_or ks i d).word rest (apart_from k.word ks i d all (omega arith)) split (starts_with nat_eq text k.word) refl in
    rw no (found_at ks text rest other i d more (omega arith) split)

found : (ks : List Keyword) (text rest : List ℕ) (other : Answer) (key : Keyword) → is_prefix_free (map (λ k. k.word) ks) ≡ true → Contains ks key
    → text ≡ key.word ++ rest → in_table ks text other ≡ behind key.behind (length key.word) rest
found ks text rest other key free in_ks split =
    found_at ks text rest other in_ks.0 key free in_ks.1 (split ∙ ap (λ (k : Keyword). k.word ++ rest) (sym in_ks.2))
    ∙ ap (λ (k : Keyword). behind k.behind (length k.word) rest) in_ks.2

not_begun : (text word : List ℕ) (b : Bool) → starts_with nat_eq text word ≡ b → (IsPrefix word text → ⊥) → b ≡ false
not_begun text word false is none = refl
not_begun text word true is none = absurd (none (drop (length word) text, front text word is))

not_found : (ks : List Keyword) (text : List ℕ) (other : Answer) → All (λ k. IsPrefix k.word text → ⊥) ks → in_table ks text other ≡ other
unfolding in_table
not_found [] text other none = refl
not_found (k ∷ ks) text other none =
    let no : starts_with nat_eq text k.word ≡ false =
    not_begun text k.word (starts_with nat_eq text k.word) refl (All-head (λ k. IsPrefix k.word text → ⊥) k ks none) in
    rw no (not_found ks text other (All-tail (λ k. IsPrefix k.word text → ⊥) k ks none))

-- ---- one answer

-- the text begins with a keyword, or with none: then it is empty or unknown
data Place (text : List ℕ) (read : Answer) : Type 0 where
  Known : ((other : Answer) → in_table keywords text other ≡ read) → Place text read
  Empty : text ≡ [] → read ≡ fault rules.Empty 0 → Place text read
  Unknown : (p : ℕ) → 0 < length text → UnknownAt text p → read ≡ fault rules.Unknown p → Place text read

place_of_kind : (text : List ℕ) (kind : DataType) → FormatIs text kind → Place text (Ok kind)
place_of_kind text kind is = Known
    (λ other. found keywords text is.rest other is.key keywords_apart is.known is.split ∙ rest_is is.key.behind (length is.key.word) is.rest kind is.completed)

place_of_fault : (text : List ℕ) (rule : FormatRule) (place : ℕ) → FormatFaultIs text rule place → Place text (fault rule place)
unfolding behind
place_of_fault text rule place (inl h) = Empty h.1 (ap (λ (r : FormatRule). fault r place) h.0 ∙ ap (fault rules.Empty) h.2)
place_of_fault text rule place (inr (inl h)) = Unknown place h.1 h.2 (ap (λ (r : FormatRule). fault r place) h.0)
place_of_fault text rule place (inr (inr (inl h))) =
    Known (λ other.
    found keywords text h.1.2.0 other (record { word = h.1.0; behind = Refused }) keywords_apart h.1.1 h.1.2.1
    ∙ sym (ap (λ (r : FormatRule). fault r place) h.0 ∙ ap (fault rules.Unsupported) h.2))
place_of_fault text rule place (inr (inr (inr h))) =
    Known (λ other.
    found keywords text h.rest other h.key keywords_apart h.known h.split
    ∙ rest_fails h.key.behind (length h.key.word) h.rest rule h.p h.fails
    ∙ ap (fault rule) (sym h.place_is))

place_of : (text : List ℕ) (read : Answer) → Reads text read → Place text read
place_of text (Ok kind) reads = place_of_kind text kind reads
place_of text (Err (At rule place)) reads = place_of_fault text rule place reads
place_of text (Err NoMemory) reads = absurd reads

-- a text that begins with no keyword isn't at a known place
no_place : (text : List ℕ) (read : Answer) → ((other : Answer) → in_table keywords text other ≡ read)
    → ((other : Answer) → in_table keywords text other ≡ other) → ⊥
no_place text read known none =
    let a : read ≡ Ok kinds.Null = sym (known (Ok kinds.Null)) ∙ none (Ok kinds.Null) in
    let b : read ≡ Err NoMemory = sym (known (Err NoMemory)) ∙ none (Err NoMemory) in
    absurd cc

none_empty : (text : List ℕ) → text ≡ [] → (other : Answer) → in_table keywords text other ≡ other
unfolding in_table
none_empty text is other = ap (λ (t : List ℕ). in_table keywords t other) is

same : (text : List ℕ) (a b : Answer) → Place text a → Place text b → a ≡ b
same text a b (Known ka) (Known kb) = sym (ka (Err NoMemory)) ∙ kb (Err NoMemory)
same text a b (Known ka) (Empty e is) = absurd (no_place text a ka (none_empty text e))
same text a b (Known ka) (Unknown p some u is) = absurd (no_place text a ka (λ other. not_found keywords text other u.none))
same text a b (Empty e is) (Known kb) = absurd (no_place text b kb (none_empty text e))
same text a b (Empty e is) (Empty e2 is2) = is ∙ sym is2
same text a b (Empty e is) (Unknown p some u is2) = absurd (omega (arith, ap length e, some))
same text a b (Unknown p some u is) (Known kb) = absurd (no_place text b kb (λ other. not_found keywords text other u.none))
same text a b (Unknown p some u is) (Empty e is2) = absurd (omega (arith, ap length e, some))
same text a b (Unknown p some u is) (Unknown q some2 v is2) =
    let pq : p ≡ q = omega (arith, u.longest q v.within v.begins, v.longest p u.within u.begins) in
    is ∙ ap (fault rules.Unknown) pq ∙ sym is2

pub one_reading : (text : List ℕ) (a b : Answer) → Reads text a → Reads text b → a ≡ b
one_reading text a b ra rb = same text a b (place_of text a ra) (place_of text b rb)

pub one_answer : (text : List ℕ) (result : Answer) → IfOk result (FormatIs text) → IfErr result (FaultIs text) → (read : Answer) → Reads text read
    → (result ≡ read) ⊎ (result ≡ Err NoMemory)
one_answer text (Ok kind) found fault read reads = inl (one_reading text (Ok kind) read found reads)
one_answer text (Err (At rule place)) found fault read reads = inl (one_reading text (Err (At rule place)) read fault reads)
one_answer text (Err NoMemory) found fault read reads = inr refl

pub one_spelling : (kind other : DataType) → KindOk kind → KindOk other → spelling_of kind ≡ spelling_of other → kind ≡ other
one_spelling kind other kind_ok other_ok same =
    let e : Ok kind ≡ Ok other =
    one_reading (spelling_of kind) (Ok kind) (Ok other) (spelled kind kind_ok) (subst (λ (t : List ℕ). FormatIs t other) (sym same) (spelled other other_ok)) in
    cc
