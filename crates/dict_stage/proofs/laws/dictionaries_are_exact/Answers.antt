use Rattle.dict_stage.proofs.Remade.{column-lawful, column-valued, dictionary-valued}
use Rattle.dict_stage.proofs.Recoded.{dictionary-full}
use Rattle.dict_stage.proofs.laws.dictionaries_are_exact.Goals as goal

pub returns : goal.returns
returns c =
    let flat = c.encoded_columns_are_lawful.ensures in
    let index = c.indexed_columns_are_lawful.ensures in
    record {
      lawful = column-lawful flat.lawful index.lawful;
      values = column-valued flat.values index.values;
      dictionary = dictionary-valued flat.values;
      no_null = dictionary-full;
    }
