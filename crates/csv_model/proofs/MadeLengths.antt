-- How long the text and its rows are.
use Rattle.std.proofs.Common.{◌≡◌, ℕ, zero, suc, ◌+◌, ◌*◌, ◌/◌, ◌%◌, ◌^◌, ◌<◌, ◌≤◌, Bool, true, false, List, [], ◌∷◌, ◌++◌, length, codes, decimal, ap}
use Rattle.std.proofs.Common.{add-one, arith, length-append}
use Rattle.std.specs.Prelude.{if◌then◌else◌, nat_eq}
use Rattle.std.proofs.lemmas.Fmt.{decimal_by_steps, decimal_digit, decimal_nonempty, length-decimal-le}
use Rattle.std.proofs.lemmas.List.{length_push}
use Rattle.std.proofs.Math.Nat.{pow-suc}
use Rattle.csv_model.specs.promise.Made.{made, made_row, made_rows}
use Rattle.csv_model.specs.Made.{paid_text}

-- a digit more is ten times as much
longer : (n : ℕ) (ds : List ℕ) → 10 ≤ n → n / 10 < 10 ^ length ds → n < 10 ^ length (ds ++ ((48 + n % 10) ∷ []))
longer n ds _ front =
    let more : 10 ^ (length ds + 1) ≡ 10 ^ length ds * 10 = rw (add-one (length ds)) (pow-suc 10 (length ds)) in
    rw (length_push ds (48 + n % 10)) (omega (arith, front, more))

-- a number is below the power of ten of its digits
below_power : (n : ℕ) → n < 2 ^ 64 → n < 10 ^ length (decimal n)
below_power n fits = decimal_by_steps (λ n ds. n < 10 ^ length ds) (λ n small. omega (arith, small, pow-suc 10 0)) longer n fits

-- a number that isn't greater has no more digits
pub digits_rise : (m n : ℕ) → m ≤ n → n < 2 ^ 64 → length (decimal m) ≤ length (decimal n)
digits_rise m n order fits =
    length-decimal-le (length (decimal n)) m (decimal_nonempty n fits) (omega (arith, below_power n fits, order)) (omega (arith, order, fits))

truth_length : (b : Bool) → length (if b then codes "true" else codes "false") ≤ 5
truth_length true = omega arith
truth_length false = omega arith

pub row_length : (d i : ℕ) → length (decimal i) ≤ d → length (made_row i) ≤ 2 * d + 17
row_length d i few =
    let item : length (decimal (i % 10)) ≡ 1 = ap length (decimal_digit (i % 10) (omega arith)) in
    let truth : length (paid_text i) ≤ 5 = truth_length (nat_eq (i % 2) 1) in
    simp length-append (omega (arith, few, item, truth))

pub rows_length : (d n : ℕ) → ((i : ℕ) → i ≤ n → length (decimal i) ≤ d) → length (made_rows n) ≤ n * (2 * d + 17)
rows_length d zero few = omega arith
rows_length d (suc n) few =
    let before : length (made_rows n) ≤ n * (2 * d + 17) = rows_length d n (λ i order. few i (omega (arith, order))) in
    let row : length (made_row (suc n)) ≤ 2 * d + 17 = row_length d (suc n) (few (suc n) (omega arith)) in
    let all : length (made_rows (suc n)) ≡ length (made_rows n) + length (made_row (suc n)) = length-append (made_rows n) (made_row (suc n)) in
    let more : suc n * (2 * d + 17) ≡ n * (2 * d + 17) + (2 * d + 17) = grind arith in
    omega (arith, before, row, all, more)

pub made_length : (d n : ℕ) → ((i : ℕ) → i ≤ n → length (decimal i) ≤ d) → length (made n) ≤ 20 + n * (2 * d + 17)
made_length d n few = omega (arith, rows_length d n few)
