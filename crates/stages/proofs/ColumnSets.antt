-- An equation of columns is a proposition, since columns have a code.
use Rattle.std.specs.Coded.{Coded-set}
use Rattle.std.proofs.Common.{◌≡◌, List}
use Rattle.std.proofs.Math.Logic.{∥∥₁_elim}
use Rattle.data_types.specs.promise.Table.{Column}
use Rattle.stages.proofs.CodedColumns.{coded_columns}

-- an equation of columns that follows from a fact follows from its being so
pub same_columns : {P : Type 0} (xs ys : List Column) → (P → xs ≡ ys) → ∥ P ∥₁ → xs ≡ ys
same_columns xs ys same so = ∥∥₁_elim so (Coded-set coded_columns xs ys) same
