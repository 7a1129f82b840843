-- What the step makes of the columns and the tables before it, and of a chunk.
use Rattle.std.proofs.Common.{arith, ◌≡◌, ◌∙◌, ◌≤◌, ◌<◌, ◌+◌, ◌^◌, ℕ, Bool, true, false, not, List, [], ◌∷◌, length, map, All}
use Rattle.std.proofs.Common.{Some, refl, sym, ap, subst, true≢false}
use Rattle.std.specs.Prelude.{Option}
use Rattle.std.specs.Coded.{Coded-set}
use Rattle.std.proofs.Math.Logic.{∥∥₁_elim}
use Rattle.std.proofs.Props.{props}
use Rattle.data_types.specs.ColumnForms.{AreColumnKinds}
use Rattle.data_types.specs.ColumnView.{column_of}
use Rattle.data_types.specs.promise.Parts.{column_values}
use Rattle.data_types.specs.promise.Table.{Column, Row, Kind, Flat}
use Rattle.data_types.specs.declared.kind.ColumnType.{ColumnType}
use Rattle.data_types.specs.declared.kind.DataType.{DataType}
use Rattle.data_types.specs.declared.kind.DataType.TheVariants as kinds
use Rattle.data_types.specs.declared.row_fault.RowFault.{RowFault}
use Rattle.tree_model.specs.promise.TreeParts.{IsLive, child_at}
use Rattle.tree_model.specs.Tree.{Depth}
use Rattle.unit_pass.specs.promise.Tally.{risen}
use Rattle.unit_pass.specs.Tally.{Tally}
use Rattle.unit_pass.specs.declared.pass.TheConstants.{CHUNK}
use Rattle.raw_array.specs.promise.Members.{ArrayTree}
use Rattle.tree_model.specs.promise.TreeCost.{Nodes}
use Rattle.data_types.specs.promise.ColumnKinds.{type_of_columns}
use Rattle.schema_check.specs.promise.ColumnSchema.{SchemaOf}
use Rattle.data_types.specs.promise.KindTrees.{KindTree}
use Rattle.schema_check.specs.promise.Schemas.{TypedOf}
use Rattle.layout_rules.specs.promise.Values.{rows_of}
use Rattle.array_laws.specs.Picking.{Replaced}
use Rattle.stage_model.specs.promise.Stages.{chunks_after}
use Rattle.stage_model.specs.promise.Traffic.{Made, column_blocks, kind_blocks, kind_nodes, made_blocks, made_nodes}
use Rattle.stage_model.specs.promise.Typing.{is_bytes, is_struct, no_column}
use Rattle.stage_model.specs.Typing.{column_at}
use Rattle.stream_face.specs.Lawful.{DictsHaveBytes, HasBytes, IsChunkOf, IsTable, LawfulColumns, LawfulTables}
use Rattle.stages.specs.Steps.{GivesOut, IsNext}
use Rattle.stages.proofs.CodedColumns.{coded_columns, coded_kind}
use Rattle.dict_stage.specs.Indices.{HasColumn, recoded_tree}
use Rattle.dict_stage.specs.Recoded.{CanRecodeChunk, RecodeFits, Recodes, TextsOf, recode_step, recoded_columns, text_kind, type_in}
use Rattle.dict_stage.proofs.Remade.{lawful-after, new_column, tables-after, texts-are}
use Rattle.dict_stage.proofs.ReplacedChildren.{length-replaced, replaced-at}

-- ---- what the step was made for

pub record Told (dict : Bool) (place : ℕ) (kept : List ColumnType) (before : List Column) : Type 0 where
  pub type : DataType
  pub recodes : Recodes dict place type before
  pub columns : map column_of kept ≡ recoded_columns dict place type before

has-bytes : (dict : Bool) (type : DataType) → (dict ≡ true → is_bytes (Flat type) ≡ true) → DictsHaveBytes (text_kind (not dict) type) → HasBytes type
has-bytes false type bytes has = has
has-bytes true (kinds.Utf8 wide) bytes has = tt
has-bytes true (kinds.Binary wide) bytes has = tt
has-bytes true _ bytes has = absurd (true≢false (sym (bytes refl)))

type-is : (dict : Bool) (kind : Kind) (type : DataType) → kind ≡ text_kind dict type → type ≡ type_in kind
type-is true kind type is = sym (ap type_in is)
type-is false kind type is = sym (ap type_in is)

pub told-of : (dict : Bool) (place : ℕ) (kept : List ColumnType) (before : List Column) → ∥ RecodeFits dict place kept before ∥₁ → LawfulColumns before
    → Told dict place kept before
told-of dict place kept before fits lawful =
    let kind = (column_at before place).kind in
    let type = type_in kind in
    let own : (f : RecodeFits dict place kept before) → f.type ≡ type = λ f. type-is (not dict) kind f.type f.is_old in
    let within : place < length before = ∥∥₁_elim fits (hlevel props) (λ f. f.within) in
    let is_old : kind ≡ text_kind (not dict) type =
    ∥∥₁_elim fits (Coded-set coded_kind kind (text_kind (not dict) type)) (λ f. f.is_old ∙ ap (text_kind (not dict)) (own f)) in
    let bytes : dict ≡ true → is_bytes (Flat type) ≡ true =
    λ e. ∥∥₁_elim fits (hlevel props) (λ f. ap (λ (t : DataType). is_bytes (Flat t)) (sym (own f)) ∙ f.has_bytes e) in
    record {
      type = type;
      recodes = record {
        within = within;
        is_old = is_old;
        bytes = has-bytes dict type bytes (subst DictsHaveBytes is_old (lawful.dicts place no_column within));
        few_structs = ∥∥₁_elim fits (hlevel props) (λ f. f.few_structs);
      };
      columns = ∥∥₁_elim fits (Coded-set coded_columns (map column_of kept) (recoded_columns dict place type before))
          (λ f. f.columns ∙ ap (λ (t : DataType). recoded_columns dict place t before) (own f));
    }

-- ---- what the step says

same-tables : (tables : List (List Row)) → map (λ (rows : List Row). rows) tables ≡ tables
same-tables [] = refl
same-tables (rows ∷ more) = ap (λ (t : List (List Row)). rows ∷ t) (same-tables more)

pub ahead-are : (dict : Bool) (place : ℕ) (ending : Option RowFault) (tables : List (List Row))
    → chunks_after (recode_step dict place) ending tables ≡ tables
ahead-are true place ending tables = same-tables tables
ahead-are false place ending tables = same-tables tables

blocks-are : (dict : Bool) (place : ℕ) (columns : List Column) (rows : List Row)
    → column_blocks place columns rows ≡ made_blocks (Some (recode_step dict place)) columns rows
blocks-are true place columns rows = refl
blocks-are false place columns rows = refl

nodes-are : (dict : Bool) (place : ℕ) (type : DataType) (columns : List Column)
    → kind_nodes Made (text_kind dict type) + 1 ≡ made_nodes (Some (recode_step dict place)) columns
nodes-are true place type columns = refl
nodes-are false place type columns = refl

no-struct : (dict : Bool) (type : DataType) → is_struct (text_kind dict type) ≡ false
no-struct true type = refl
no-struct false type = refl

-- the law of chunks with a column made anew
abbrev pub MakesChunk : Type 0
MakesChunk = (dict : Bool) (place : ℕ) (type : DataType) (before : List Column) (rows : List Row) (chunk : ArrayTree) → Recodes dict place type before
    → LawfulColumns before → LawfulColumns (recoded_columns dict place type before) → IsTable before rows → length rows ≤ 2 ^ 30
    → IsChunkOf before rows chunk
    → IsChunkOf (recoded_columns dict place type before) rows (Replaced chunk place (recoded_tree (text_kind dict type) (column_values place rows)))

module _ (dict : Bool) (place : ℕ) (kept : List ColumnType) (before : List Column) (told : Told dict place kept before) where
  pub many : length (map column_of kept) ≡ length before
  many =
      ap (length {A = Column}) told.columns
      ∙ length-replaced place (new_column dict place told.type before) before told.recodes.within

  pub kind-is : (column_at (map column_of kept) place).kind ≡ text_kind dict told.type
  kind-is =
      ap (λ (cs : List Column). (column_at cs place).kind) told.columns
      ∙ ap (λ (c : Column). c.kind) (replaced-at place (new_column dict place told.type before) before told.recodes.within no_column)

  pub one : is_struct (column_at (map column_of kept) place).kind ≡ false
  one = ap is_struct kind-is ∙ no-struct dict told.type

  pub type-now : type_in (column_at (map column_of kept) place).kind ≡ told.type
  type-now = sym (type-is dict (column_at (map column_of kept) place).kind told.type kind-is)

  -- ---- its columns and tables

  pub columns-after : ((cs : List Column) → All (λ c. AreColumnKinds c.kind) cs → Depth (SchemaOf cs) ≤ 64 → TypedOf (SchemaOf cs) (type_of_columns cs))
      → Nodes (SchemaOf (map column_of kept)) ≤ CHUNK → Depth (SchemaOf (map column_of kept)) ≤ 64 → LawfulColumns before
      → LawfulColumns (map column_of kept)
  columns-after typed small deep lawful =
      let a = ap (λ (cs : List Column). Nodes (SchemaOf cs)) told.columns in
      let b = ap (λ (cs : List Column). Depth (SchemaOf cs)) told.columns in
      subst LawfulColumns (sym told.columns)
      (lawful-after dict place told.type before told.recodes typed (omega (arith, a, small)) (omega (arith, b, deep)) lawful)

  pub tables-are : (ending : Option RowFault) (tables : List (List Row)) → LawfulTables before tables
      → LawfulTables (map column_of kept) (chunks_after (recode_step dict place) ending tables)
  tables-are ending tables lawful =
      subst (LawfulTables (map column_of kept)) (sym (ahead-are dict place ending tables))
      (subst (λ (cs : List Column). LawfulTables cs tables) (sym told.columns)
      (record { tables = tables-after dict place told.type before told.recodes tables lawful.tables; rows = lawful.rows }))

  -- ---- a chunk

  module _ (rows : List Row) (more : List (List Row)) (typed : KindTree) (t : ArrayTree) (next : IsNext before rows more typed t) where
    few : length rows ≤ 2 ^ 30
    few = omega (arith, next.tables.rows)

    read : rows_of typed t ≡ rows
    read = ap (λ (k : KindTree). rows_of k t) next.typed_is ∙ next.is.rows_are

    pub can : CanRecodeChunk told.type place typed t
    can = record {
      columns = before;
      typed_is = next.typed_is;
      ok = next.is.ok;
      inside = told.recodes.within;
      texts = subst (λ (rs : List Row). TextsOf told.type (column_values place rs)) (sym read)
          (texts-are dict place told.type before told.recodes rows next.columns next.tables.tables.0 few);
    }

    -- what is given, of a type that the step read
    pub recode-gives : MakesChunk → LawfulColumns (map column_of kept) → (type : DataType) (made : ArrayTree) (first last : Tally) → type ≡ told.type
        → made ≡ Replaced t place (recoded_tree (text_kind dict type) (column_values place (rows_of typed t)))
        → child_at made place ≡ recoded_tree (text_kind dict type) (column_values place (rows_of typed t))
        → last.blocks ≡ risen first.blocks (kind_blocks Made (text_kind dict type) (column_values place (rows_of typed t)))
        → last.nodes ≡ risen first.nodes (kind_nodes Made (text_kind dict type) + 1)
        → GivesOut (map column_of kept) (made_blocks (Some (recode_step dict place)) (map column_of kept))
        (λ rows. made_nodes (Some (recode_step dict place)) (map column_of kept))
        (λ rows chunk. HasColumn place (map column_of kept) (rows ∷ []) chunk) (λ ending. chunks_after (recode_step dict place) ending (rows ∷ more))
        (λ ending. chunks_after (recode_step dict place) ending more) true first last made
    recode-gives makes now type made first last same tree column blocks nodes =
        let vs = column_values place rows in
        let after = map column_of kept in
        let kind : text_kind dict type ≡ (column_at after place).kind = ap (text_kind dict) same ∙ sym kind-is in
        let tree_is : made ≡ Replaced t place (recoded_tree (text_kind dict told.type) vs) =
        tree ∙ (λ i. Replaced t place (recoded_tree (text_kind dict (same i)) (column_values place (read i)))) in
        let law = makes dict place told.type before rows t told.recodes next.columns (subst LawfulColumns told.columns now) next.tables.tables.0 few next.is in
        record {
          rows = rows;
          ahead = λ ending. ahead-are dict place ending (rows ∷ more) ∙ sym (ap (λ (ts : List (List Row)). rows ∷ ts) (ahead-are dict place ending more));
          is = subst (λ (cs : List Column). IsChunkOf cs rows made) (sym told.columns)
              (subst (IsChunkOf (recoded_columns dict place told.type before) rows) (sym tree_is) law);
          live = subst IsLive (sym tree) tt;
          gives = column ∙ (λ i. recoded_tree (kind i) (column_values place (read i)));
          rests = refl;
          blocks = blocks ∙ (λ i. risen first.blocks (kind_blocks Made (kind i) (column_values place (read i))))
              ∙ ap (risen first.blocks) (blocks-are dict place after rows);
          nodes = nodes ∙ ap (risen first.nodes) (nodes-are dict place type after);
        }
