-- Names for the parts of the text that stands in for an input.
use Rattle.std.specs.Prelude.{ℕ, ◌%◌, List, codes, if◌then◌else◌, nat_eq}

-- the names of the columns
abbrev pub made_header : List ℕ
made_header = codes "id,name,amount,paid\n"

-- rows of odd number are paid
abbrev pub paid_text : ℕ → List ℕ
paid_text i = if nat_eq (i % 2) 1 then codes "true" else codes "false"
