-- A row from the pieces that are appended one after the other.
use Rattle.std.proofs.Common.{◌≡◌, ℕ, ◌+◌, ◌%◌, List, [], ◌∷◌, ◌++◌, ◌∙◌, codes, decimal, ap, sym, append_assoc, refl, arith}
use Rattle.std.proofs.lemmas.Fmt.{decimal_digit}
use Rattle.csv_model.specs.promise.Made.{made_row}
use Rattle.csv_model.specs.Made.{paid_text}

pieces : (old a b c d e f g h : List ℕ) → old ++ a ++ b ++ (c ++ d) ++ e ++ f ++ (g ++ h) ≡ old ++ (a ++ b ++ c ++ d ++ e ++ f ++ g ++ h)
pieces old a b c d e f g h = simp append_assoc refl

pub row_written : (i : ℕ) (old digits last paid one two three four five whole : List ℕ)
    → digits ≡ decimal i → last ≡ (48 + i % 10) ∷ 44 ∷ [] → paid ≡ paid_text i ++ codes "\n"
    → one ≡ old ++ digits → two ≡ one ++ codes ",item" → three ≡ two ++ last → four ≡ three ++ digits → five ≡ four ++ codes ".25,"
    → whole ≡ five ++ paid → whole ≡ old ++ made_row i
row_written i old digits last paid one two three four five whole is-digits is-last is-paid is-one is-two is-three is-four is-five is-whole =
    let item : decimal (i % 10) ≡ (48 + i % 10) ∷ [] = decimal_digit (i % 10) (omega arith) in
    let item-and-comma : last ≡ decimal (i % 10) ++ codes "," = is-last ∙ ap (λ (ds : List ℕ). ds ++ codes ",") (sym item) in
    let joined = pieces old (decimal i) (codes ",item") (decimal (i % 10)) (codes ",") (decimal i) (codes ".25,") (paid_text i) (codes "\n") in
    simp (is-whole, is-five, is-four, is-three, is-two, is-one, is-paid, item-and-comma, is-digits) joined
