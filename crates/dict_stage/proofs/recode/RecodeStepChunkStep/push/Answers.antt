use Rattle.std.proofs.Common.{◌≡◌, ◌∙◌, List, length, map, ap, subst, sym, arith}
use Rattle.std.proofs.lemmas.List.{length-map}
use Rattle.data_types.specs.ColumnView.{column_of}
use Rattle.data_types.specs.declared.kind.ColumnType.{ColumnType}
use Rattle.data_types.specs.declared.kind.DataType.{DataType}
use Rattle.data_types.specs.promise.TypedView.{typed_of}
use Rattle.stage_model.specs.promise.Typing.{is_struct}
use Rattle.stage_model.specs.Typing.{column_at}
use Rattle.dict_stage.specs.Recoded.{CanRecodeChunk, type_in}
use Rattle.dict_stage.proofs.Streams.{can, columns-after, many, one, recode-gives, told-of, type-now}
use Rattle.dict_stage.proofs.recode.RecodeStepChunkStep.push.Goals as goal

pub type_at-kind-requires : goal.type_at-kind-requires
type_at-kind-requires g c =
    let s = c.args.self.now in
    let next = c.requires.next in
    let its = told-of s.dict s.column s.out next.0 next.3 next.5.columns in
    let long = many s.dict s.column s.out next.0 its in
    let here = ap (length {A = ColumnType}) c.as_slice.ensures in
    record {
      inside = omega (arith, long, here, length-map s.out column_of, its.recodes.within);
      one = ap (λ (cs : List ColumnType). is_struct (column_at (map column_of cs) s.column).kind) c.as_slice.ensures
          ∙ one s.dict s.column s.out next.0 its;
    }

pub recoded_chunk-requires-clause-chunk : goal.recoded_chunk-requires-clause-chunk
recoded_chunk-requires-clause-chunk g c =
    let s = c.args.self.now in
    let next = c.requires.next in
    let its = told-of s.dict s.column s.out next.0 next.3 next.5.columns in
    let same : c.type_at-kind.result.now ≡ its.type =
    c.type_at-kind.ensures ∙ ap (λ (cs : List ColumnType). type_in (column_at (map column_of cs) s.column).kind) c.as_slice.ensures
    ∙ type-now s.dict s.column s.out next.0 its in
    subst (λ (type : DataType). CanRecodeChunk type s.column (typed_of c.args.typed.now) c.args.chunk) (sym same)
    (can s.dict s.column s.out next.0 its next.1 next.2 (typed_of c.args.typed.now) c.args.chunk next.5)

pub recoded_chunk-requires-clause-types : goal.recoded_chunk-requires-clause-types
recoded_chunk-requires-clause-types g c = c.requires.next.5.types

pub recoded_chunk-requires-clause-units : goal.recoded_chunk-requires-clause-units
recoded_chunk-requires-clause-units g c = omega (arith, c.requires.next.5.is.small, c.requires.room)

pub returns-in-Ok-clause-pushed : goal.returns-in-Ok-clause-pushed
returns-in-Ok-clause-pushed g c = λ before rows more fits _ next.
    let s = c.args.self.now in
    let its = told-of s.dict s.column s.out before fits next.columns in
    let same : c.type_at-kind.result.now ≡ its.type =
    c.type_at-kind.ensures ∙ ap (λ (cs : List ColumnType). type_in (column_at (map column_of cs) s.column).kind) c.as_slice.ensures
    ∙ type-now s.dict s.column s.out before its in
    let after = columns-after s.dict s.column s.out before its c.column_schemas_are_lawful.ensures c.schema_is_small.ensures.small
    c.schema_is_small.ensures.not_deep next.columns in
    recode-gives s.dict s.column s.out before its rows more (typed_of c.args.typed.now) c.args.chunk next c.recoded_chunks_have_their_rows.ensures after
    c.type_at-kind.result.now c.in-Ok.made c.args.pass.now c.recoded_chunk.new.pass same c.in-Ok.ensures.tree c.in-Ok.ensures.column
    c.in-Ok.ensures.blocks c.in-Ok.ensures.nodes
