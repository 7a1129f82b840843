-- Items that have the same key have the same value, and the other way round.
use Rattle.std.proofs.Common.{◌≡◌, ◌∙◌, ◌-◌, ◌*◌, ◌^◌, ◌<◌, ℕ, suc, Bool, true, false, not, List, [], ◌∷◌, length, get_or, None, Some}
use Rattle.std.proofs.Common.{inl, inr, refl, sym, ap, subst, arith}
use Rattle.std.proofs.Math.IntN.{pos-ne-negsuc}
use Rattle.std.proofs.lemmas.Bool.{false≢true}
use Rattle.std.proofs.lemmas.Bool.Decides.{Decides-eqb, Decides-int_eq}
use Rattle.std.proofs.lemmas.Nat.{pow-add}
use Rattle.std.proofs.lemmas.Slice.Eq.{bytes_eq-Decides}
use Rattle.std.specs.Ordering.{int_eq}
use Rattle.std.specs.Prelude.{◌/◌, ◌==◌, ℤ, pos, negsuc, if◌then◌else◌, nat_eq, nat_lt}
use Rattle.std.specs.Str.{bytes_eq}
use Rattle.data_types.specs.promise.Value.{Value, Null, Truth, Whole, Bits, Bytes, Items, Fields, Values}
use Rattle.data_types.specs.declared.storage.Storage.{Storage}
use Rattle.data_types.specs.declared.storage.Storage.TheVariants as storages
use Rattle.data_types.specs.promise.Packed.{le_number, meant}
use Rattle.layout_rules.specs.promise.Layout.{natural}
use Rattle.data_types.specs.promise.Groups.{same}
use Rattle.row_groups.specs.ItemKeys.{AreNumberBytes, HasKey, IsKey, value_of}
use Rattle.row_groups.specs.Numbering.{Key, same_key}

bool-both : (a b : Bool) → (a ≡ true → b ≡ true) → (b ≡ true → a ≡ true) → a ≡ b
bool-both true true to back = refl
bool-both true false to back = sym (to refl)
bool-both false true to back = back refl
bool-both false false to back = refl

-- ---- numbers and their bytes

abbrev AreBytes : List ℕ → Type 0
AreBytes bytes = (i : ℕ) → get_or bytes i 0 < 256

le-small : (bytes : List ℕ) → AreBytes bytes → le_number bytes < 2 ^ (8 * length bytes)
le-small [] are = omega arith
le-small (b ∷ bs) are =
    let power : 2 ^ (8 * suc (length bs)) ≡ 2 ^ (8 * length bs) * 256 = ap (λ (e : ℕ). 2 ^ e) (omega arith) ∙ pow-add 2 (8 * length bs) 8 in
    omega (arith, are 0, power, le-small bs (λ i. are (suc i)))

le-same : (a b : List ℕ) → length a ≡ length b → AreBytes a → AreBytes b → le_number a ≡ le_number b → a ≡ b
le-same [] [] long p q e = refl
le-same [] (b ∷ bs) long p q e = absurd (omega (arith, long))
le-same (a ∷ xs) [] long p q e = absurd (omega (arith, long))
le-same (a ∷ xs) (b ∷ ys) long p q e =
    let head : a ≡ b = omega (arith, p 0, q 0, e) in
    let rest : le_number xs ≡ le_number ys = omega (arith, p 0, q 0, e) in
    let tail = le-same xs ys (omega (arith, long)) (λ i. p (suc i)) (λ i. q (suc i)) rest in
    λ t. head t ∷ tail t

abbrev behind : ℤ → ℕ
behind (pos n) = 0
behind (negsuc n) = n

negsuc-same : (m n : ℕ) → negsuc m ≡ negsuc n → m ≡ n
negsuc-same m n e = ap behind e

meant-same : (width : ℕ) (signed : Bool) (m n : ℕ) → m < 2 ^ (8 * width) → n < 2 ^ (8 * width) → meant width signed m ≡ meant width signed n → m ≡ n
meant-same width false m n p q e = ap natural e
meant-same width true m n p q e = pick (nat_lt m (2 ^ (8 * width - 1))) (nat_lt n (2 ^ (8 * width - 1))) e
  where
    pick : (a b : Bool) → (if a then pos m else negsuc (2 ^ (8 * width) - 1 - m)) ≡ (if b then pos n else negsuc (2 ^ (8 * width) - 1 - n)) → m ≡ n
    pick true true f = ap natural f
    pick true false f = absurd (pos-ne-negsuc m (2 ^ (8 * width) - 1 - n) f)
    pick false true f = absurd (pos-ne-negsuc n (2 ^ (8 * width) - 1 - m) (sym f))
    pick false false f =
        let g = negsuc-same (2 ^ (8 * width) - 1 - m) (2 ^ (8 * width) - 1 - n) f in
        omega (arith, g, p, q)

small-of : (width : ℕ) (text : List ℕ) → AreNumberBytes width text → le_number text < 2 ^ (8 * width)
small-of width text are = subst (λ w. le_number text < 2 ^ (8 * w)) are.long (le-small text are.bytes)

same-number : (width : ℕ) (a b : List ℕ) → AreNumberBytes width a → AreNumberBytes width b → le_number a ≡ le_number b → a ≡ b
same-number width a b p q e = le-same a b (p.long ∙ sym q.long) p.bytes q.bytes e

-- ---- values and their keys

pub agree : (key other : Key) (storage : Storage) → IsKey key storage → IsKey other storage → same (value_of key storage) (value_of other storage) ≡ same_key key other
agree None None storage p q = refl
agree None (Some b) storages.Truths p q = refl
agree None (Some b) (storages.Wholes bits signed) p q = refl
agree None (Some b) (storages.Floats bits) p q = refl
agree None (Some b) (storages.Sized size) p q = refl
agree None (Some b) (storages.Between wide is_text) p q = refl
agree None (Some b) _ p q = absurd q
agree (Some a) None storages.Truths p q = refl
agree (Some a) None (storages.Wholes bits signed) p q = refl
agree (Some a) None (storages.Floats bits) p q = refl
agree (Some a) None (storages.Sized size) p q = refl
agree (Some a) None (storages.Between wide is_text) p q = refl
agree (Some a) None _ p q = absurd p
agree (Some a) (Some b) storages.Truths (inl e) (inl f) =
    (λ t. same (Truth (get_or (e t) 0 0 == 1)) (Truth (get_or (f t) 0 0 == 1))) ∙ (λ t. bytes_eq (sym e t) (sym f t))
agree (Some a) (Some b) storages.Truths (inl e) (inr f) =
    (λ t. same (Truth (get_or (e t) 0 0 == 1)) (Truth (get_or (f t) 0 0 == 1))) ∙ (λ t. bytes_eq (sym e t) (sym f t))
agree (Some a) (Some b) storages.Truths (inr e) (inl f) =
    (λ t. same (Truth (get_or (e t) 0 0 == 1)) (Truth (get_or (f t) 0 0 == 1))) ∙ (λ t. bytes_eq (sym e t) (sym f t))
agree (Some a) (Some b) storages.Truths (inr e) (inr f) =
    (λ t. same (Truth (get_or (e t) 0 0 == 1)) (Truth (get_or (f t) 0 0 == 1))) ∙ (λ t. bytes_eq (sym e t) (sym f t))
agree (Some a) (Some b) (storages.Wholes bits signed) p q =
    bool-both (int_eq (meant (bits / 8) signed (le_number a)) (meant (bits / 8) signed (le_number b))) (bytes_eq a b)
    (λ e. (bytes_eq-Decides a b).1 (same-number (bits / 8) a b p q (meant-same (bits / 8) signed (le_number a) (le_number b)
    (small-of (bits / 8) a p) (small-of (bits / 8) b q) ((Decides-int_eq _ _).0 e))))
    (λ e. (Decides-int_eq _ _).1 (ap (λ (x : List ℕ). meant (bits / 8) signed (le_number x)) ((bytes_eq-Decides a b).0 e)))
agree (Some a) (Some b) (storages.Floats bits) p q =
    bool-both (nat_eq (le_number a) (le_number b)) (bytes_eq a b)
    (λ e. (bytes_eq-Decides a b).1 (same-number (bits / 8) a b p q ((Decides-eqb _ _).0 e)))
    (λ e. (Decides-eqb _ _).1 (ap le_number ((bytes_eq-Decides a b).0 e)))
agree (Some a) (Some b) (storages.Sized size) p q = refl
agree (Some a) (Some b) (storages.Between wide is_text) p q = refl
agree (Some a) (Some b) _ p q = absurd p

pub values-agree : (storage : Storage) (v w : Value) (key other : Key) → HasKey storage v key → HasKey storage w other → same v w ≡ same_key key other
values-agree storage v w key other p q = (λ t. same (p.is t) (q.is t)) ∙ agree key other storage p.key_is q.key_is

-- ---- the same values are equal

truth-is : (a b : Bool) → (if a then b else not b) ≡ true → a ≡ b
truth-is true true e = refl
truth-is false false e = refl
truth-is true false e = absurd (false≢true e)
truth-is false true e = absurd (false≢true e)

pub same-is : (a b : Value) → same a b ≡ true → a ≡ b
same-is Null Null e = refl
same-is (Truth a) (Truth b) e = ap Truth (truth-is a b e)
same-is (Whole m) (Whole n) e = ap Whole ((Decides-int_eq m n).0 e)
same-is (Bits m) (Bits n) e = ap Bits ((Decides-eqb m n).0 e)
same-is (Bytes a) (Bytes b) e = ap Bytes ((bytes_eq-Decides a b).0 e)
same-is _ _ e = absurd (false≢true e)

truth-turned : (a b : Bool) → (if a then b else not b) ≡ (if b then a else not a)
truth-turned true true = refl
truth-turned true false = refl
truth-turned false true = refl
truth-turned false false = refl

no-items : (x : Values) (b : Value) → same b (Items x) ≡ false
no-items x Null = refl
no-items x (Truth b) = refl
no-items x (Whole n) = refl
no-items x (Bits n) = refl
no-items x (Bytes b) = refl
no-items x (Items y) = refl
no-items x (Fields y) = refl

no-fields : (x : Values) (b : Value) → same b (Fields x) ≡ false
no-fields x Null = refl
no-fields x (Truth b) = refl
no-fields x (Whole n) = refl
no-fields x (Bits n) = refl
no-fields x (Bytes b) = refl
no-fields x (Items y) = refl
no-fields x (Fields y) = refl

pub same-turned : (a b : Value) → same a b ≡ same b a
same-turned Null Null = refl
same-turned (Truth a) (Truth b) = truth-turned a b
same-turned (Whole m) (Whole n) = bool-both (int_eq m n) (int_eq n m) (λ e. (Decides-int_eq n m).1 (sym ((Decides-int_eq m n).0 e)))
    (λ e. (Decides-int_eq m n).1 (sym ((Decides-int_eq n m).0 e)))
same-turned (Bits m) (Bits n) = bool-both (nat_eq m n) (nat_eq n m) (λ e. (Decides-eqb n m).1 (sym ((Decides-eqb m n).0 e)))
    (λ e. (Decides-eqb m n).1 (sym ((Decides-eqb n m).0 e)))
same-turned (Bytes a) (Bytes b) = bool-both (bytes_eq a b) (bytes_eq b a) (λ e. (bytes_eq-Decides b a).1 (sym ((bytes_eq-Decides a b).0 e)))
    (λ e. (bytes_eq-Decides a b).1 (sym ((bytes_eq-Decides b a).0 e)))
same-turned (Items x) b = sym (no-items x b)
same-turned (Fields x) b = sym (no-fields x b)
same-turned _ _ = refl
