-- The parts of a list or a struct, joined one by one.
use Rattle.std.proofs.Common.{◌≡◌, ◌∙◌, ℕ, zero, suc, ◌+◌, ◌<◌, List, [], ◌∷◌, ◌++◌, length, get_or, take, Result, Ok, Err, OnOk}
use Rattle.std.proofs.Common.{ap, refl, sym, arith, append_assoc, append-nil}
use Rattle.std.proofs.lemmas.Grind.{flat_map-append}
use Rattle.std.proofs.lemmas.List.{take_more, length-take-le}
use Rattle.std.specs.List.{flat_map}
use Rattle.unit_pass.specs.declared.no_memory.NoMemory.{NoMemory}
use Rattle.data_types.specs.promise.Value.{Value, values, Null}
use Rattle.layout_rules.specs.promise.Values.{each}
use Rattle.value_text.specs.Behind.{item_text}
use Rattle.data_types.specs.promise.ValueTexts.{value_line, value_text, value_texts}
use Rattle.data_types.specs.ValueTexts.{joined}

-- the joined texts of values
abbrev pub parts : List Value → List ℕ
parts vs = joined (value_texts (values vs))

parts-more : (vs : List Value) (v : Value) → parts (vs ++ v ∷ []) ≡ parts vs ++ item_text (length vs) v
parts-more [] v = refl
parts-more (u ∷ []) v = refl
parts-more (u ∷ w ∷ vs) v =
    ap (λ text. value_text u ++ (44 ∷ text)) (parts-more (w ∷ vs) v)
    ∙ sym (append_assoc (value_text u) (44 ∷ parts (w ∷ vs)) (item_text (length (w ∷ vs)) v))

-- ---- one by one

each-next : {X : Type 0} → (f : ℕ → X) (a n : ℕ) → each f a (suc n) ≡ each f a n ++ f (a + n) ∷ []
each-next f a zero = ap (λ k. f k ∷ []) (let e : a ≡ a + 0 = omega arith in e)
each-next f a (suc n) =
    let e : suc a + n ≡ a + suc n = omega arith in
    ap (λ xs. f a ∷ xs) (each-next f (suc a) n ∙ ap (λ k. each f (suc a) n ++ f k ∷ []) e)

pub each-more : {X : Type 0} → (f : ℕ → X) (a n : ℕ) → each f a (n + 1) ≡ each f a n ++ f (a + n) ∷ []
each-more f a n =
    let e : n + 1 ≡ suc n = omega arith in
    ap (each f a) e ∙ each-next f a n

length-each : {X : Type 0} → (f : ℕ → X) (a n : ℕ) → length (each f a n) ≡ n
length-each f a zero = refl
length-each f a (suc n) = ap suc (length-each f (suc a) n)

-- a list's
pub list-more : (f : ℕ → Value) (a n : ℕ) → parts (each f a (n + 1)) ≡ parts (each f a n) ++ item_text n (f (a + n))
list-more f a n =
    ap parts (each-more f a n)
    ∙ parts-more (each f a n) (f (a + n))
    ∙ ap (λ k. parts (each f a n) ++ item_text k (f (a + n))) (length-each f a n)

-- a struct's
pub row-more : (vs : List Value) (k : ℕ) → k < length vs → parts (take (k + 1) vs) ≡ parts (take k vs) ++ item_text k (get_or vs k Null)
row-more vs k within =
    let is : length (take k vs) ≡ k = length-take-le k vs (omega (arith, within)) in
    ap parts (take_more vs k Null within)
    ∙ parts-more (take k vs) (get_or vs k Null)
    ∙ ap (λ n. parts (take k vs) ++ item_text n (get_or vs k Null)) is

-- the lines
pub lines-more : (f : ℕ → Value) (a n : ℕ) → flat_map value_line (each f a (n + 1)) ≡ flat_map value_line (each f a n) ++ value_line (f (a + n))
lines-more f a n =
    ap (flat_map value_line) (each-more f a n)
    ∙ flat_map-append value_line (each f a n) (f (a + n) ∷ [])
    ∙ ap (λ text. flat_map value_line (each f a n) ++ text) (append-nil (value_line (f (a + n))))

-- ---- pieces that are appended

-- two, one after the other
pub both-appended : (r : Result (Unit {0}) NoMemory) (old middle new one other : List ℕ) → middle ≡ old ++ one → OnOk r (new ≡ middle ++ other)
    → OnOk r (new ≡ old ++ (one ++ other))
both-appended (Ok done) old middle new one other first second = second ∙ ap (λ text. text ++ other) first ∙ append_assoc old one other
both-appended (Err fault) old middle new one other first second = tt

-- one more behind those before it
pub appended : (old before text new one more : List ℕ) → new ≡ text ++ one → text ≡ old ++ before → before ++ one ≡ more → new ≡ old ++ more
appended old before text new one more last invariant is =
    last ∙ ap (λ t. t ++ one) invariant ∙ append_assoc old before one ∙ ap (λ t. old ++ t) is

-- between two brackets
pub bracketed : (text inner : List ℕ) (open_mark close_mark : ℕ) → ((text ++ open_mark ∷ []) ++ inner) ++ close_mark ∷ []
    ≡ text ++ ((open_mark ∷ [] ++ inner) ++ close_mark ∷ [])
bracketed text inner open_mark close_mark = simp append_assoc
