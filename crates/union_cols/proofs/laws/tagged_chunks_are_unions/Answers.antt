use Rattle.union_cols.proofs.TagLaw.{tagged}
use Rattle.union_cols.proofs.laws.tagged_chunks_are_unions.Goals as goal

pub returns : goal.returns
returns c =
    record {
      checks = λ dense typed schema array reads ok chunk none. (tagged typed dense schema array reads ok chunk none).checks;
      items = λ dense typed schema array reads ok chunk none. (tagged typed dense schema array reads ok chunk none).items;
    }
