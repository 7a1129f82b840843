-- How many nodes the columns of grouped rows are made of.
use Rattle.std.proofs.Common.{◌≡◌, ◌+◌, ◌*◌, ◌-◌, ◌<◌, ◌==◌, ℕ, if◌then◌else◌, arith}
use Rattle.std.proofs.lemmas.Bool.Decides.{nat_tests}
use Rattle.list_cols.specs.NestedTables.{nodes_to}

-- one column more
pub nodes-next : (own column k : ℕ) → nodes_to own column (k + 1) ≡ nodes_to own column k + (if k == column then own else 2)
nodes-next own column k = grind (arith, nat_tests)

-- all of them, one of which is the column
pub nodes-all : (own column n : ℕ) → column < n → nodes_to own column n ≡ own + 2 * (n - 1)
nodes-all own column n inside = grind (arith, nat_tests)
