-- Numbers read by a function of the text, to show that a text has one reading.
use Rattle.std.proofs.Common.{◌≡◌, ◌≢◌, ℕ, suc, ℤ, pos, negsuc, neg_ℤ, ◌+◌, ◌<◌, Bool, true, false, cond, nat_eq, List, [], ◌∷◌, ◌++◌, Option, Some, None, refl}
use Rattle.std.proofs.Common.{ap, subst, ◌∙◌, inl, inr, arith}
use Rattle.std.specs.Char.{is_ascii_digit, digit_value}
use Rattle.std.specs.Str.Parse.{AllDigits, digits_value}
use Rattle.std.proofs.lemmas.Bool.Decides.{nat_tests}
use Rattle.std.proofs.lemmas.Str.Parse.{digit_from_value}
use Rattle.fmt_string.specs.promise.FormatString.{IsDigit, IsNumber, IsSigned, NoNumber, NoSigned, NumberThen, StartsWith, StartsWithDigit}
use Rattle.fmt_string.specs.Decimal.{signed_value}
use Rattle.fmt_string.proofs.Digits.{digit_in, digit_out}

digit_yes : (c : ℕ) (b : Bool) → is_ascii_digit c ≡ b → IsDigit c → b ≡ true
digit_yes c true is d = refl
digit_yes c false is d = absurd (digit_out c is d)

digit_no : (c : ℕ) (b : Bool) → is_ascii_digit c ≡ b → (IsDigit c → ⊥) → b ≡ false
digit_no c true is d = absurd (d (digit_in c is))
digit_no c false is d = refl

digit_of : (c : ℕ) → digit_value c < 10 → IsDigit c
digit_of c h = let d = digit_from_value c h in (omega (arith, d), omega (arith, d))

pub other_byte : (c d : ℕ) → c ≢ d → nat_eq c d ≡ false
other_byte c d apart = grind (arith, nat_tests)

pub same_byte : (c d : ℕ) → c ≡ d → nat_eq c d ≡ true
same_byte c d same = grind (arith, nat_tests)

-- the digits in front, and the rest
span : List ℕ → List ℕ × List ℕ
span [] = ([], [])
span (c ∷ cs) = cond (is_ascii_digit c) (c ∷ (span cs).0, (span cs).1) ([], c ∷ cs)

valid : List ℕ → List ℕ → Option (List ℕ × List ℕ)
valid [] more = None
valid (c ∷ []) more = Some (c ∷ [], more)
valid (c ∷ d ∷ ds) more = cond (nat_eq c 48) None (Some (c ∷ d ∷ ds, more))

-- the number in front, and the rest
pub number_of : List ℕ → Option (List ℕ × List ℕ)
number_of text = valid (span text).0 (span text).1

span_again : (digits more : List ℕ) → AllDigits 10 digits → (StartsWithDigit more → ⊥) → span (digits ++ more) ≡ (digits, more)
unfolding span
span_again [] [] all ends = refl
span_again [] (c ∷ cs) all ends = let e : is_ascii_digit c ≡ false = digit_no c (is_ascii_digit c) refl ends in rw e refl
span_again (d ∷ ds) more all ends =
    let e : is_ascii_digit d ≡ true = digit_yes d (is_ascii_digit d) refl (digit_of d all.0) in
    rw (e, span_again ds more all.1 ends) refl

valid_again : (digits more : List ℕ) (n : ℕ) → IsNumber digits n → valid digits more ≡ Some (digits, more)
unfolding valid
valid_again [] more n is = absurd (omega (arith, is.some))
valid_again (c ∷ []) more n is = refl
valid_again (c ∷ d ∷ ds) more n is =
    let apart : c ≢ 48 = λ h. absurd (omega (arith, is.no_zero h)) in
    rw (other_byte c 48 apart) refl

pub number_again : (text digits more : List ℕ) (n : ℕ) → NumberThen text digits more n → number_of text ≡ Some (digits, more)
unfolding number_of
number_again text digits more n then =
    let e : span text ≡ (digits, more) = ap span then.split ∙ span_again digits more then.is.digits then.ends in
    rw e (valid_again digits more n then.is)

pub no_number : (text : List ℕ) → NoNumber text → number_of text ≡ None
unfolding number_of span valid
no_number [] none = refl
no_number (c ∷ cs) (inl not_digit) = let e : is_ascii_digit c ≡ false = digit_no c (is_ascii_digit c) refl not_digit in rw e refl
no_number (c ∷ []) (inr zeros) = absurd zeros.1
no_number (c ∷ d ∷ ds) (inr zeros) =
    let first : is_ascii_digit c ≡ true = digit_yes c (is_ascii_digit c) refl (omega (arith, zeros.0), omega (arith, zeros.0)) in
    let second : is_ascii_digit d ≡ true = digit_yes d (is_ascii_digit d) refl zeros.1 in
    rw (first, second, same_byte c 48 zeros.0) refl

-- ---- with a sign

starts_zero : List ℕ → Bool
starts_zero [] = false
starts_zero (c ∷ cs) = nat_eq c 48

behind_minus : Option (List ℕ × List ℕ) → Option (List ℕ × List ℕ)
behind_minus None = None
behind_minus (Some p) = cond (starts_zero p.0) None (Some (45 ∷ p.0, p.1))

-- the number in front that a minus may begin, and the rest
pub signed_of : List ℕ → Option (List ℕ × List ℕ)
signed_of [] = None
signed_of (c ∷ cs) = cond (nat_eq c 45) (behind_minus (number_of cs)) (number_of (c ∷ cs))

zero_alone : (c n : ℕ) → c ≡ 48 → digits_value 10 (c ∷ []) ≡ n + 1 → ⊥
zero_alone c n is value = omega (arith, subst (λ (x : ℕ). digits_value 10 (x ∷ []) ≡ n + 1) is value)

not_zero : (digits : List ℕ) (n : ℕ) → IsNumber digits (n + 1) → starts_zero digits ≡ false
unfolding starts_zero
not_zero [] n is = refl
not_zero (c ∷ []) n is = other_byte c 48 (λ h. absurd (zero_alone c n h is.value))
not_zero (c ∷ d ∷ ds) n is = other_byte c 48 (λ h. absurd (omega (arith, is.no_zero h)))

pub signed_again : (text scale more : List ℕ) (z : ℤ) → IsSigned scale z → text ≡ scale ++ more → (StartsWithDigit more → ⊥)
    → signed_of text ≡ Some (scale, more)
unfolding signed_of behind_minus
signed_again text [] more (pos n) is split ends = absurd (omega (arith, is.some))
signed_again text (c ∷ cs) more (pos n) is split ends =
    let d = digit_of c is.digits.0 in
    let apart : c ≢ 45 = omega (arith, d) in
    let no : nat_eq c 45 ≡ false = other_byte c 45 apart in
    let then : NumberThen ((c ∷ cs) ++ more) (c ∷ cs) more n = record { is = is; split = refl; ends = ends } in
    ap signed_of split ∙ rw no (number_again ((c ∷ cs) ++ more) (c ∷ cs) more n then)
signed_again text scale more (negsuc n) is split ends =
    let whole : text ≡ 45 ∷ (is.0 ++ more) = split ∙ ap (λ (t : List ℕ). t ++ more) is.1 in
    let then : NumberThen (is.0 ++ more) is.0 more (n + 1) = record { is = is.2; split = refl; ends = ends } in
    let inner : number_of (is.0 ++ more) ≡ Some (is.0, more) = number_again (is.0 ++ more) is.0 more (n + 1) then in
    ap signed_of whole ∙ rw (inner, not_zero is.0 n is.2, is.1) refl

zero_stops : (digits more : List ℕ) (c : ℕ) → c ≡ 48 → behind_minus (valid (c ∷ digits) more) ≡ None
unfolding behind_minus valid starts_zero
zero_stops [] more c is = rw (same_byte c 48 is) refl
zero_stops (d ∷ ds) more c is = rw (same_byte c 48 is) refl

zero_behind_minus : (text : List ℕ) → StartsWith 48 text → behind_minus (number_of text) ≡ None
unfolding number_of span
zero_behind_minus [] is = absurd is
zero_behind_minus (c ∷ cs) is =
    let e : is_ascii_digit c ≡ true = digit_yes c (is_ascii_digit c) refl (omega (arith, is), omega (arith, is)) in
    rw e (zero_stops (span cs).0 (span cs).1 c is)

none_behind_minus : (text : List ℕ) → NoNumber text → behind_minus (number_of text) ≡ None
unfolding behind_minus
none_behind_minus text none = rw (no_number text none) refl

pub no_signed : (text : List ℕ) → NoSigned text → signed_of text ≡ None
unfolding signed_of
no_signed [] none = refl
no_signed (c ∷ cs) (inl (minus, inl none)) = rw (same_byte c 45 minus) (none_behind_minus cs none)
no_signed (c ∷ cs) (inl (minus, inr zero_first)) = rw (same_byte c 45 minus) (zero_behind_minus cs zero_first)
no_signed (c ∷ cs) (inr h) = rw (other_byte c 45 h.0) (no_number (c ∷ cs) h.1)

-- ---- values

pub signed_is : (scale : List ℕ) (z : ℤ) → IsSigned scale z → signed_value scale ≡ z
signed_is [] (pos n) is = absurd (omega (arith, is.some))
signed_is (c ∷ cs) (pos n) is =
    let d = digit_of c is.digits.0 in
    let no : nat_eq c 45 ≡ false = other_byte c 45 (omega (arith, d)) in
    rw no (ap pos is.value)
signed_is scale (negsuc n) is =
    let e : digits_value 10 is.0 ≡ suc n = omega (arith, is.2.value) in
    ap signed_value is.1 ∙ ap (λ (k : ℕ). neg_ℤ (pos k)) e
