use Rattle.stage_filter.proofs.KeptLaw.{kept-dictionary, kept-full, kept-lawful, kept-rows}
use Rattle.stage_filter.proofs.laws.kept_rows_make_a_chunk.Goals as goal

pub returns : goal.returns
returns c =
    let flat = c.encoded_columns_are_lawful.ensures in
    let index = c.indexed_columns_are_lawful.ensures in
    let table = c.lawful_columns_make_a_chunk.ensures in
    let trees = c.lawful_trees.ensures in
    record {
      chunk = kept-lawful flat.lawful flat.values index.lawful index.values table.chunk table.values trees.root trees.parts trees.items;
      rows = kept-rows flat.lawful flat.values index.lawful index.values table.chunk table.values trees.root trees.parts trees.items;
      dictionary = kept-dictionary;
      full = kept-full;
    }
