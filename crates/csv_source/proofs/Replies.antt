-- What is left once no record is.
use Rattle.std.proofs.Common.{◌≡◌, ◌+◌, ℕ, List, [], refl, sym, subst}
use Rattle.csv_model.specs.promise.Batches.{batches_if, rows_before}
use Rattle.csv_model.specs.promise.Reading.{Record, body_from}
use Rattle.csv_read.specs.BatchesLeft.{BatchesLeft, batches_left, columns_in}

pub none-left : (batch : ℕ) (s : BatchesLeft) → s.records ≡ [] → (batches_left batch s).chunks ≡ []
none-left batch s none = subst
    (λ (rs : List Record). (batches_if (body_from s.mark (s.read + 1) (columns_in s) rs) batch (rows_before s.mark (s.read + 1) (columns_in s) rs)).chunks ≡ [])
    (sym none) refl
