-- The text that stands in for an input: a header, and this many rows whose values follow from the row's number.
use Rattle.std.specs.Prelude.{ℕ, zero, suc, ◌%◌, ◌++◌, List, [], codes, decimal, if◌then◌else◌, nat_eq}

-- the row of a number: the number, an item by its last digit, this many and a quarter, and whether it is paid, as rows of odd
-- number are
abbrev pub made_row : ℕ → List ℕ
made_row i =
    decimal i ++ codes ",item" ++ decimal (i % 10) ++ codes "," ++ decimal i ++ codes ".25,"
    ++ (if nat_eq (i % 2) 1 then codes "true" else codes "false") ++ codes "\n"

-- the rows from 1 on, this many of them
abbrev pub made_rows : ℕ → List ℕ
made_rows zero = []
made_rows (suc n) = made_rows n ++ made_row (suc n)

abbrev pub made : ℕ → List ℕ
made n = codes "id,name,amount,paid\n" ++ made_rows n
