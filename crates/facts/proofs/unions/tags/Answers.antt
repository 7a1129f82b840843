use Rattle.std.proofs.Common.{refl, ◌++◌, [], ◌∷◌, arith}
use Rattle.std.proofs.lemmas.Fmt.{decimal_digit}
use Rattle.std.specs.Prelude.{true}
use Rattle.union_cols.specs.promise.UnionFormats.{joined, keyword}
use Rattle.facts.proofs.unions.tags.Goals as goal

pub returns : goal.returns
returns c =
    record {
      chunk = refl;
      items = refl;
      sparse = refl;
      dense = refl;
      sparse_is_lawful = refl;
      dense_is_lawful = refl;
      format = λ t. keyword true ++ joined (decimal_digit 0 (omega arith) t ∷ decimal_digit 1 (omega arith) t ∷ decimal_digit 2 (omega arith) t ∷ []);
      starts = refl;
      no_columns = refl;
      columns = refl;
      too_long = refl;
      dense_fits = refl;
      sparse_fits = refl;
    }
