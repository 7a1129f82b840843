use Rattle.std.proofs.Common.{◌∙◌}
use Rattle.std.proofs.lemmas.List.{length-map}
use Rattle.data_types.specs.ColumnKinds.{type_of_column, types_of_columns}
use Rattle.dict_stage.proofs.Remade.{chunk-after}
use Rattle.dict_stage.proofs.laws.recoded_chunks_have_their_rows.Goals as goal

pub returns : goal.returns
returns c = λ dict place type before rows chunk is lawful now table few of.
    let law = c.dictionaries_are_exact.ensures in
    let replaces = c.replaced_columns_make_a_chunk.ensures in
    chunk-after dict place type before is rows chunk lawful now table few of c.encoded_columns_are_lawful.ensures.values law.lawful law.values
    replaces.chunk replaces.rows c.column_types_follow_picks.ensures.live c.chunks_are_small.ensures
    (c.lawful_structs_have_columns.ensures.children (types_of_columns before) chunk of.ok.0 ∙ length-map before type_of_column)
