use Rattle.std.specs.Prelude.{◌≢◌, All}
use Rattle.std.proofs.Common.{arith, ◌≡◌, ◌∙◌, ◌<◌, ℕ, List, [], ◌∷◌, length, get_or, sym, ap, subst}
use Rattle.std.proofs.lemmas.List.{length-map}
use Rattle.data_types.specs.ColumnForms.{AreColumnKinds}
use Rattle.data_types.specs.promise.Parts.{column_values}
use Rattle.data_types.specs.promise.Table.{Column, Dict, Flat, Kind, Row}
use Rattle.data_types.specs.promise.Value.{Null, Value}
use Rattle.data_types.specs.declared.kind.DataType.{DataType}
use Rattle.tree_model.specs.Tree.{dictionary_at}
use Rattle.raw_array.specs.promise.Members.{ArrayTree}
use Rattle.data_types.specs.promise.ColumnKinds.{type_of_kind}
use Rattle.layout_rules.specs.promise.Values.{values_of}
use Rattle.stage_model.specs.promise.Dictionary.{Dictionary}
use Rattle.stage_model.specs.promise.Typing.{no_column}
use Rattle.stage_model.specs.Typing.{column_at}
use Rattle.stream_face.proofs.Next.{same}
use Rattle.stream_face.specs.Lawful.{AreItems, DictsHaveBytes, LawfulColumns, LawfulTables}
use Rattle.dict_stage.specs.Indices.{HasColumn, recoded_tree}
use Rattle.dict_stage.specs.Recoded.{TextsOf}
use Rattle.stream_tests.proofs.dictionaries.next_coded.Goals as goal

-- the values of a column with a dictionary, of the next table
texts-of : (columns : List Column) (tables : List (List Row)) (column : ℕ) (type : DataType) → LawfulColumns columns → LawfulTables columns tables
    → column < length columns → (column_at columns column).kind ≡ Dict type → (rows : List Row) (more : List (List Row)) → tables ≡ rows ∷ more
    → TextsOf type (column_values column (get_or tables 0 []))
texts-of columns [] column type lawful tables inside is rows more next = absurd (cc)
texts-of columns (first ∷ rest) column type lawful tables inside is rows more next =
    let long = length-map first (λ (row : Row). get_or row column Null) in
    record {
      is = subst AreColumnKinds is (lawful.kinds column no_column inside);
      bytes = subst DictsHaveBytes is (lawful.dicts column no_column inside);
      are = subst (λ (kind : Kind). AreItems kind (column_values column first)) is (tables.tables.0.items column no_column inside);
      few = omega (arith, long, tables.rows);
    }

-- of a tree that is such a column's: what its dictionary holds
dictionary-of : (type : DataType) (values : List Value) → TextsOf type values → (kind : Kind) → kind ≡ Dict type → (tree : ArrayTree)
    → tree ≡ recoded_tree kind values
    → values_of (type_of_kind (Flat type)) (dictionary_at (recoded_tree (Dict type) values)) ≡ Dictionary values
    → values_of (type_of_kind (Flat type)) (dictionary_at tree) ≡ Dictionary values
dictionary-of type values texts kind is tree has exact =
    ap (λ (t : ArrayTree). values_of (type_of_kind (Flat type)) (dictionary_at t)) (has ∙ ap (λ (k : Kind). recoded_tree k values) is) ∙ exact

-- the values of a column of the next table have a dictionary without a null
full-of : (columns : List Column) (tables : List (List Row)) (column : ℕ) → LawfulTables columns tables
    → ((values : List Value) → All (λ value. value ≢ Null) (Dictionary values))
    → All (λ value. value ≢ Null) (Dictionary (column_values column (get_or tables 0 [])))
full-of columns tables column lawful law = law (column_values column (get_or tables 0 []))

pub returns : goal.returns
returns g c =
    let column = c.args.column in
    let call = c.get_next.ensures in
    record {
      coded = λ rows t h. subst (λ (cs : List Column). HasColumn column cs (rows ∷ []) t) (sym call.keeps.columns) (c.requires.coded rows t (call.besides rows t h));
      dictionary = λ type inside is zero live.
          let lawful = c.requires.fresh.lawful in
          let given = (call.answers c.requires.fresh).chunk live in
          let texts = texts-of _ _ column type (c.lawful_facts.ensures.columns lawful) (c.lawful_facts.ensures.tables lawful) inside is given.0 _ given.1 in
          let has = c.requires.coded _ _ (call.gives c.requires.fresh (sym (same c.get_next.result c.get_next.type_inv) ∙ zero) live) in
          dictionary-of type _ texts _ is _ has (c.dictionaries_are_exact.ensures.dictionary type _ texts);
      full = full-of _ _ column (c.lawful_facts.ensures.tables c.requires.fresh.lawful) c.dictionaries_are_exact.ensures.no_null;
    }
