-- A decimal's numbers read by a function of the text.
use Rattle.std.proofs.Common.{◌≡◌, ℕ, ℤ, pos, negsuc, ◌+◌, ◌<◌, ◌≤◌, ◌^◌, Bool, true, false, cond, nat_eq, ltb, List, [], ◌∷◌, ◌++◌, length, length-append}
use Rattle.std.proofs.Common.{append_assoc, Option, Some, None, Result, Ok, Err, refl, sym, ap, subst, ◌∙◌, inl, inr, arith}
use Rattle.std.specs.Prelude.{FitsSigned, ◌⊎◌, ◌||◌}
use Rattle.std.specs.Int.{w32}
use Rattle.std.specs.Str.Parse.{digits_value}
use Rattle.std.proofs.lemmas.Bool.{le-ltb, lt-ltb, cases_lt}
use Rattle.std.proofs.lemmas.List.{append-nil}
use Rattle.fmt_string.specs.declared.fault.FormatRule.{FormatRule}
use Rattle.fmt_string.specs.declared.fault.FormatRule.TheVariants as rules
use Rattle.fmt_string.specs.declared.fault.FormatFault.{FormatFault}
use Rattle.fmt_string.specs.declared.fault.FormatFault.TheVariants.{At}
use Rattle.data_types.specs.declared.kind.DataType.{DataType}
use Rattle.data_types.specs.declared.kind.DataType.TheVariants as kinds
use Rattle.fmt_string.specs.promise.FormatString.{IsDigit, IsNumber, IsSigned, NoNumber, NumberThen, StartsWith, StartsWithDigit, comma, Parts, parts_text}
use Rattle.fmt_string.specs.FormatString.{IsWidth}
use Rattle.fmt_string.specs.promise.FormatString.{PartsAre, Ends, width_of, DecimalIs, NumberPlace, numbers_before, IsNumberPlace, Misses, KnownWidth}
use Rattle.data_types.specs.promise.Kinds.{most_precise}
use Rattle.fmt_string.specs.promise.FormatString.{most_at, WidthFails, RangeFails, NumbersFail}
use Rattle.fmt_string.specs.promise.FormatString.NumberPlace.{AtPrecision, AtScale, AtWidth}
use Rattle.fmt_string.specs.Decimal.{signed_value, width_value}
use Rattle.fmt_string.proofs.Rereading.{number_of, number_again, no_number, signed_of, signed_again, no_signed, signed_is, other_byte}

abbrev pub Answer : Type 0
Answer = Result DataType FormatFault

abbrev pub fault : FormatRule → ℕ → Answer
fault rule place = Err (At rule place)

fits : ℤ → Bool
fits (pos n) = ltb n (2 ^ 31)
fits (negsuc n) = ltb n (2 ^ 31)

-- the numbers in their ranges; lp and ls are the lengths of the texts of the precision and the scale
of_scale : ℕ → ℕ → ℕ → ℤ → Bool → Answer
of_scale start lp n z wide = cond (fits z) (Ok (kinds.Decimal n z wide)) (fault rules.OutOfRange (start + (lp + 1)))

of_precision : ℕ → ℕ → ℕ → ℤ → Bool → Answer
of_precision start lp n z wide =
    cond (ltb n 1) (fault rules.OutOfRange start) (cond (ltb (most_precise wide) n) (fault rules.OutOfRange start) (of_scale start lp n z wide))

of_width : ℕ → ℕ → ℕ → ℕ → ℤ → ℕ → Answer
of_width start lp ls n z width =
    cond (nat_eq width 128) (of_precision start lp n z false)
    (cond (nat_eq width 256) (of_precision start lp n z true)
    (cond (nat_eq width 32 || nat_eq width 64) (fault rules.Unsupported (start + (lp + 1 + ls + 1))) (fault rules.OutOfRange (start + (lp + 1 + ls + 1)))))

in_range : ℕ → List ℕ → List ℕ → List ℕ → Answer
in_range start p s w = of_width start (length p) (length s) (digits_value 10 p) (signed_value s) (width_value w)

with_width : ℕ → List ℕ → List ℕ → Option (List ℕ × List ℕ) → Answer
with_width start p s None = fault rules.BadNumber (start + (length p + 1 + length s + 1))
with_width start p s (Some (w, [])) = in_range start p s (44 ∷ w)
with_width start p s (Some (w, c ∷ cs)) = fault rules.Trailing (start + (length p + 1 + length s + 1 + length w))

with_more : ℕ → List ℕ → List ℕ → List ℕ → Answer
with_more start p s [] = in_range start p s []
with_more start p s (c ∷ cs) = cond (nat_eq c 44) (with_width start p s (number_of cs)) (fault rules.Trailing (start + (length p + 1 + length s)))

with_scale : ℕ → List ℕ → Option (List ℕ × List ℕ) → Answer
with_scale start p None = fault rules.BadNumber (start + (length p + 1))
with_scale start p (Some (s, more)) = with_more start p s more

with_comma : ℕ → List ℕ → List ℕ → Answer
with_comma start p [] = fault rules.BadNumber (start + length p)
with_comma start p (c ∷ cs) = cond (nat_eq c 44) (with_scale start p (signed_of cs)) (fault rules.BadNumber (start + length p))

with_precision : ℕ → Option (List ℕ × List ℕ) → Answer
with_precision start None = fault rules.BadNumber start
with_precision start (Some (p, more)) = with_comma start p more

pub numbers_of : ℕ → List ℕ → Answer
numbers_of start text = with_precision start (number_of text)

-- ---- texts that go on

precision_again : (start : ℕ) (text p more : List ℕ) (n : ℕ) → IsNumber p n → text ≡ p ++ (44 ∷ more)
    → numbers_of start text ≡ with_scale start p (signed_of more)
unfolding numbers_of with_precision with_comma
precision_again start text p more n is split =
    let then : NumberThen text p (44 ∷ more) n = record { is = is; split = split; ends = λ d. absurd (omega (arith, d)) } in
    rw (number_again text p (44 ∷ more) n then) refl

scale_again : (start : ℕ) (p text s more : List ℕ) (z : ℤ) → IsSigned s z → text ≡ s ++ more → (StartsWithDigit more → ⊥)
    → with_scale start p (signed_of text) ≡ with_more start p s more
unfolding with_scale
scale_again start p text s more z is split ends = rw (signed_again text s more z is split ends) refl

both_again : (start : ℕ) (text p s more : List ℕ) (n : ℕ) (z : ℤ) → IsNumber p n → IsSigned s z → text ≡ p ++ (44 ∷ (s ++ more)) → (StartsWithDigit more → ⊥)
    → numbers_of start text ≡ with_more start p s more
both_again start text p s more n z p_is s_is split ends =
    precision_again start text p (s ++ more) n p_is split ∙ scale_again start p (s ++ more) s more z s_is refl ends

pub regroup : (p s w more : List ℕ) → (((p ++ comma) ++ s) ++ w) ++ more ≡ p ++ (44 ∷ (s ++ (w ++ more)))
regroup p s w more = simp append_assoc

-- the numbers are all there: what is behind them decides
at_end : ℕ → Parts → List ℕ → Answer
at_end start parts [] = in_range start parts.precision parts.scale parts.width
at_end start parts (c ∷ cs) = fault rules.Trailing (start + length (parts_text parts))

text_length : (p s w : List ℕ) → length (((p ++ comma) ++ s) ++ w) ≡ length p + 1 + length s + length w
text_length p s w = omega (arith, length-append ((p ++ comma) ++ s) w, length-append (p ++ comma) s, length-append p comma)

more_again : (start : ℕ) (p s more : List ℕ) (w : List ℕ) → w ≡ [] → (StartsWith 44 more → ⊥)
    → with_more start p s more ≡ at_end start (record { precision = p; scale = s; width = w }) more
unfolding with_more at_end
more_again start p s [] w none no_comma = ap (in_range start p s) (sym none)
more_again start p s (c ∷ cs) w none no_comma =
    let place : length p + 1 + length s ≡ length (((p ++ comma) ++ s) ++ w) = omega (arith, text_length p s w, ap length none) in
    rw (other_byte c 44 no_comma) (ap (λ (k : ℕ). fault rules.Trailing (start + k)) place)

width_again : (start : ℕ) (p s digits more : List ℕ) (n : ℕ) (w : List ℕ) → w ≡ 44 ∷ digits → IsNumber digits n → (StartsWithDigit more → ⊥)
    → with_more start p s (w ++ more) ≡ at_end start (record { precision = p; scale = s; width = w }) more
unfolding with_more with_width at_end
width_again start p s digits [] n w is number ends =
    let then : NumberThen (digits ++ []) digits [] n = record { is = number; split = refl; ends = ends } in
    ap (λ (t : List ℕ). with_more start p s (t ++ [])) is ∙ ap (with_width start p s) (number_again (digits ++ []) digits [] n then)
    ∙ ap (in_range start p s) (sym is)
width_again start p s digits (c ∷ cs) n w is number ends =
    let then : NumberThen (digits ++ (c ∷ cs)) digits (c ∷ cs) n = record { is = number; split = refl; ends = ends } in
    let place : length p + 1 + length s + 1 + length digits ≡ length (((p ++ comma) ++ s) ++ w) = omega (arith, text_length p s w, ap length is) in
    ap (λ (t : List ℕ). with_more start p s (t ++ (c ∷ cs))) is ∙ ap (with_width start p s) (number_again (digits ++ (c ∷ cs)) digits (c ∷ cs) n then)
    ∙ ap (λ (k : ℕ). fault rules.Trailing (start + k)) place

not_digit : (w digits more : List ℕ) → w ≡ 44 ∷ digits → StartsWithDigit (w ++ more) → ⊥
not_digit w digits more is starts =
    let d : IsDigit 44 = subst (λ (t : List ℕ). StartsWithDigit (t ++ more)) is starts in
    absurd (omega (arith, d))

parts_again : (start : ℕ) (text : List ℕ) (parts : Parts) (more : List ℕ) (n : ℕ) (z : ℤ) (b : ℕ) → PartsAre parts n z b → text ≡ parts_text parts ++ more
    → Ends parts more → numbers_of start text ≡ at_end start parts more
parts_again start text parts more n z b are split ends =
    let whole : text ≡ parts.precision ++ (44 ∷ (parts.scale ++ (parts.width ++ more))) = split ∙ regroup parts.precision parts.scale parts.width more in
    elim are.width_is [
      | inl none ↦
          let same : parts.width ++ more ≡ more = ap (λ (t : List ℕ). t ++ more) none.0 in
          let no_digit : StartsWithDigit (parts.width ++ more) → ⊥ = λ h. ends.0 (subst StartsWithDigit same h) in
          both_again start text parts.precision parts.scale (parts.width ++ more) n z are.precision_is are.scale_is whole no_digit
          ∙ ap (with_more start parts.precision parts.scale) same
          ∙ more_again start parts.precision parts.scale more parts.width none.0 (ends.1 none.0)
      | inr given ↦
          both_again start text parts.precision parts.scale (parts.width ++ more) n z are.precision_is are.scale_is whole
          (not_digit parts.width given.0 more given.1)
          ∙ width_again start parts.precision parts.scale given.0 more b parts.width given.1 given.2 ends.0
    ]

-- ---- ranges

width_is : (w : List ℕ) (b : ℕ) → IsWidth w b → width_value w ≡ b
width_is w b (inl none) = ap width_value none.0 ∙ sym none.1
width_is w b (inr given) = ap width_value given.1 ∙ given.2.value

range_again : (start : ℕ) (parts : Parts) (n : ℕ) (z : ℤ) (b : ℕ) → PartsAre parts n z b
    → in_range start parts.precision parts.scale parts.width ≡ of_width start (length parts.precision) (length parts.scale) n z b
unfolding in_range
range_again start parts n z b are = rw (are.precision_is.value, signed_is parts.scale z are.scale_is, width_is parts.width b are.width_is) refl

fits_yes : (z : ℤ) → FitsSigned w32 z → fits z ≡ true
unfolding fits
fits_yes (pos n) h = lt-ltb n (2 ^ 31) (omega (arith, h))
fits_yes (negsuc n) h = lt-ltb n (2 ^ 31) (omega (arith, h))

fits_no : (z : ℤ) → (FitsSigned w32 z → ⊥) → fits z ≡ false
unfolding fits
fits_no (pos n) h =
    elim (cases_lt n (2 ^ 31)) [ inl lt ↦ absurd (h (record { sfits = lt })) | inr le ↦ le-ltb n (2 ^ 31) le ]
fits_no (negsuc n) h =
    elim (cases_lt n (2 ^ 31)) [ inl lt ↦ absurd (h (record { sfits = lt })) | inr le ↦ le-ltb n (2 ^ 31) le ]

precision_fails : (start lp n : ℕ) (z : ℤ) (wide : Bool) → (n < 1) ⊎ (most_precise wide < n) → of_precision start lp n z wide ≡ fault rules.OutOfRange start
unfolding of_precision
precision_fails start lp n z wide (inl low) = let e : ltb n 1 ≡ true = lt-ltb n 1 low in rw e refl
precision_fails start lp n z wide (inr high) =
    let some : ltb n 1 ≡ false = le-ltb n 1 (omega arith) in
    let e : ltb (most_precise wide) n ≡ true = lt-ltb (most_precise wide) n high in
    rw (some, e) refl

scale_decides : (start lp n : ℕ) (z : ℤ) (wide : Bool) → 1 ≤ n → n ≤ most_precise wide → of_precision start lp n z wide ≡ of_scale start lp n z wide
unfolding of_precision
scale_decides start lp n z wide low high =
    let some : ltb n 1 ≡ false = le-ltb n 1 low in
    let e : ltb (most_precise wide) n ≡ false = le-ltb (most_precise wide) n high in
    rw (some, e) refl

scale_fails : (start lp n : ℕ) (z : ℤ) (wide : Bool) → (FitsSigned w32 z → ⊥) → of_scale start lp n z wide ≡ fault rules.OutOfRange (start + (lp + 1))
unfolding of_scale
scale_fails start lp n z wide h = rw (fits_no z h) refl

scale_fits : (start lp n : ℕ) (z : ℤ) (wide : Bool) → FitsSigned w32 z → of_scale start lp n z wide ≡ Ok (kinds.Decimal n z wide)
unfolding of_scale
scale_fits start lp n z wide h = rw (fits_yes z h) refl

-- ---- widths, known and unknown
-- a known width
at_width : (start lp ls n : ℕ) (z : ℤ) (wide : Bool) → of_width start lp ls n z (width_of wide) ≡ of_precision start lp n z wide
unfolding of_width
at_width start lp ls n z false = refl
at_width start lp ls n z true = refl

known : (width : ℕ) → KnownWidth width → (wide : Bool) × (width ≡ width_of wide) × (most_at width ≡ most_precise wide)
known width (inl narrow) = (false, narrow, ap most_at narrow)
known width (inr wide) = (true, wide, ap most_at wide)

width_fails : (start lp ls n : ℕ) (z : ℤ) (width : ℕ) (rule : FormatRule) → WidthFails rule width
    → of_width start lp ls n z width ≡ fault rule (start + (lp + 1 + ls + 1))
unfolding of_width
width_fails start lp ls n z width rules.Unsupported (inl is) = ap (of_width start lp ls n z) is
width_fails start lp ls n z width rules.Unsupported (inr is) = ap (of_width start lp ls n z) is
width_fails start lp ls n z width rules.OutOfRange h =
    let a : nat_eq width 128 ≡ false = other_byte width 128 (λ e. h.1 (inl e)) in
    let b : nat_eq width 256 ≡ false = other_byte width 256 (λ e. h.1 (inr e)) in
    let c : nat_eq width 32 ≡ false = other_byte width 32 (λ e. h.0 (inl e)) in
    let d : nat_eq width 64 ≡ false = other_byte width 64 (λ e. h.0 (inr e)) in
    rw (a, b, c, d) refl
width_fails start lp ls n z width rules.Empty h = absurd h
width_fails start lp ls n z width rules.Unknown h = absurd h
width_fails start lp ls n z width rules.BadNumber h = absurd h
width_fails start lp ls n z width rules.Trailing h = absurd h

range_fails : (start : ℕ) (parts : Parts) (n : ℕ) (z : ℤ) (b : ℕ) (rule : FormatRule) (p : ℕ) → RangeFails rule parts n z b p
    → of_width start (length parts.precision) (length parts.scale) n z b ≡ fault rule (start + p)
range_fails start parts n z b rule p (inl h) =
    width_fails start (length parts.precision) (length parts.scale) n z b rule h.0 ∙ ap (λ (k : ℕ). fault rule (start + k)) (sym h.1)
range_fails start parts n z b rule p (inr (inl h)) =
    let k = known b h.0 in
    let out : (n < 1) ⊎ (most_precise k.0 < n) = elim h.2 [ inl low ↦ inl low | inr high ↦ inr (subst (λ (m : ℕ). m < n) k.2 high) ] in
    let place : start ≡ start + p = omega (arith, h.3) in
    ap (of_width start (length parts.precision) (length parts.scale) n z) k.1
    ∙ at_width start (length parts.precision) (length parts.scale) n z k.0
    ∙ precision_fails start (length parts.precision) n z k.0 out
    ∙ ap (λ (r : FormatRule). fault r start) (sym h.1) ∙ ap (fault rule) place
range_fails start parts n z b rule p (inr (inr h)) =
    let k = known b h.0 in
    let place : start + (length parts.precision + 1) ≡ start + p = omega (arith, h.5) in
    ap (of_width start (length parts.precision) (length parts.scale) n z) k.1
    ∙ at_width start (length parts.precision) (length parts.scale) n z k.0
    ∙ scale_decides start (length parts.precision) n z k.0 h.2 (subst (λ (m : ℕ). n ≤ m) k.2 h.3)
    ∙ scale_fails start (length parts.precision) n z k.0 h.4
    ∙ ap (λ (r : FormatRule). fault r (start + (length parts.precision + 1))) (sym h.1) ∙ ap (fault rule) place

-- ---- the reading of a relation's text

no_more : (parts : Parts) → Ends parts []
no_more parts = (λ h. h, λ _ h. h)

whole_again : (start : ℕ) (text : List ℕ) (parts : Parts) (n : ℕ) (z : ℤ) (b : ℕ) → PartsAre parts n z b → text ≡ parts_text parts
    → numbers_of start text ≡ of_width start (length parts.precision) (length parts.scale) n z b
unfolding at_end
whole_again start text parts n z b are split =
    parts_again start text parts [] n z b are (split ∙ sym (append-nil (parts_text parts))) (no_more parts) ∙ range_again start parts n z b are

pub decimal_again : (start : ℕ) (text : List ℕ) (kind : DataType) → DecimalIs text kind → numbers_of start text ≡ Ok kind
decimal_again start text kind d =
    whole_again start text d.parts d.precision d.scale (width_of d.wide) d.are d.spelled
    ∙ at_width start (length d.parts.precision) (length d.parts.scale) d.precision d.scale d.wide
    ∙ scale_decides start (length d.parts.precision) d.precision d.scale d.wide d.at_least d.at_most
    ∙ scale_fits start (length d.parts.precision) d.precision d.scale d.wide d.fits
    ∙ ap Ok (sym d.is)

starts_precision : (start : ℕ) (text : List ℕ) → number_of text ≡ None → numbers_of start text ≡ fault rules.BadNumber start
unfolding numbers_of with_precision
starts_precision start text none = rw none refl

starts_scale : (start : ℕ) (p text : List ℕ) → signed_of text ≡ None → with_scale start p (signed_of text) ≡ fault rules.BadNumber (start + (length p + 1))
unfolding with_scale
starts_scale start p text none = rw none refl

starts_width : (start : ℕ) (p s text : List ℕ) → number_of text ≡ None
    → with_more start p s (44 ∷ text) ≡ fault rules.BadNumber (start + (length p + 1 + length s + 1))
unfolding with_more with_width
starts_width start p s text none = rw none refl

missing : (start : ℕ) (text : List ℕ) (here : NumberPlace) (more : List ℕ) → IsNumberPlace here → text ≡ numbers_before here ++ more → Misses here more
    → numbers_of start text ≡ fault rules.BadNumber (start + length (numbers_before here))
missing start text AtPrecision more is split misses =
    starts_precision start text (no_number text (subst NoNumber (sym split) misses)) ∙ ap (fault rules.BadNumber) (omega arith)
missing start text (AtScale p) more is split misses =
    precision_again start text p more is.0 is.1 (split ∙ append_assoc p comma more)
    ∙ starts_scale start p more (no_signed more misses)
    ∙ ap (λ (k : ℕ). fault rules.BadNumber (start + k)) (sym (length-append p comma))
missing start text (AtWidth p s) more is split misses =
    let place : length p + 1 + length s + 1 ≡ length (((p ++ comma) ++ s) ++ comma) = omega (arith, text_length p s comma) in
    both_again start text p s (44 ∷ more) is.0.0 is.1.0 is.0.1 is.1.1 (split ∙ regroup p s comma more) (λ d. absurd (omega (arith, d)))
    ∙ starts_width start p s more (no_number more misses)
    ∙ ap (λ (k : ℕ). fault rules.BadNumber (start + k)) place

no_comma : (start : ℕ) (p more : List ℕ) → (StartsWith 44 more → ⊥) → with_comma start p more ≡ fault rules.BadNumber (start + length p)
unfolding with_comma
no_comma start p [] h = refl
no_comma start p (c ∷ cs) h = rw (other_byte c 44 h) refl

comma_missing : (start : ℕ) (text p more : List ℕ) (n : ℕ) → NumberThen text p more n → (StartsWith 44 more → ⊥)
    → numbers_of start text ≡ fault rules.BadNumber (start + length p)
unfolding numbers_of with_precision
comma_missing start text p more n then h = rw (number_again text p more n then) (no_comma start p more h)

trailing : (start : ℕ) (parts : Parts) (more : List ℕ) → 0 < length more → at_end start parts more ≡ fault rules.Trailing (start + length (parts_text parts))
unfolding at_end
trailing start parts [] some = absurd (omega arith)
trailing start parts (c ∷ cs) some = refl

at_fault : (text : List ℕ) (start : ℕ) (rule known_rule : FormatRule) (p place : ℕ) → rule ≡ known_rule → p ≡ place
    → numbers_of start text ≡ fault known_rule (start + place) → numbers_of start text ≡ fault rule (start + p)
at_fault text start rule known_rule p place same here is =
    is ∙ ap (λ (r : FormatRule). fault r (start + place)) (sym same) ∙ ap (λ (k : ℕ). fault rule (start + k)) (sym here)

pub numbers_fail : (start : ℕ) (text : List ℕ) (rule : FormatRule) (p : ℕ) → NumbersFail text rule p → numbers_of start text ≡ fault rule (start + p)
numbers_fail start text rule p (inl h) =
    at_fault text start rule rules.BadNumber p (length (numbers_before h.1)) h.0 h.6 (missing start text h.1 h.2 h.3 h.4 h.5)
numbers_fail start text rule p (inr (inl h)) =
    at_fault text start rule rules.BadNumber p (length h.1) h.0 h.6 (comma_missing start text h.1 h.2 h.3 h.4 h.5)
numbers_fail start text rule p (inr (inr (inl h))) =
    at_fault text start rule rules.Trailing p (length (parts_text h.1)) h.0 h.10
    (parts_again start text h.1 h.2 h.3 h.4 h.5 h.6 h.7 h.8 ∙ trailing start h.1 h.2 h.9)
numbers_fail start text rule p (inr (inr (inr h))) =
    whole_again start text h.0 h.1 h.2 h.3 h.4 h.5 ∙ range_fails start h.0 h.1 h.2 h.3 rule p h.6
