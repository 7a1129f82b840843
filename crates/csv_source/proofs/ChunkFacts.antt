-- The chunk of rows of plain columns is one of these columns and rows, with as many nodes as a source's chunk has.
use Rattle.std.proofs.Common.{◌≡◌, ◌≤◌, ◌+◌, ◌*◌, ◌∙◌, ℕ, zero, suc, List, [], ◌∷◌, length, All, None, refl, sym, ap, subst, arith}
use Rattle.std.proofs.lemmas.List.Sums.{sum_by-cons}
use Rattle.std.specs.List.{sum_by}
use Rattle.csv_read.specs.Chunks.{chunk_of}
use Rattle.data_types.specs.promise.Table.{Column, Row}
use Rattle.data_types.specs.promise.ColumnKinds.{type_of_columns}
use Rattle.layout_rules.specs.promise.Values.{rows_of}
use Rattle.layout_rules.specs.promise.Walk.{ChunkOk}
use Rattle.raw_array.specs.promise.Members.{ArrayTree, Cost}
use Rattle.stage_model.specs.promise.Traffic.{Made, kind_nodes, made_nodes}
use Rattle.stream_face.specs.Lawful.{DictsAreFull, IsChunkOf}
use Rattle.tree_model.specs.promise.TreeParts.{IsLive, child_at}
use Rattle.csv_source.proofs.PlainKinds.{IsPlain}

columns-nodes : (columns : List Column) → All IsPlain columns → sum_by (λ c. kind_nodes Made c.kind) columns ≡ length columns
columns-nodes [] plain = refl
columns-nodes (c ∷ cs) plain =
    let one : kind_nodes Made c.kind ≡ 1 = ap (kind_nodes Made) (plain zero c (omega arith)).is in
    let rest = columns-nodes cs (λ k d small. plain (suc k) d (omega (arith, small))) in
    sum_by-cons (λ (c : Column). kind_nodes Made c.kind) c cs ∙ omega (arith, one, rest)

pub nodes-are : (columns : List Column) → All IsPlain columns → 1 + length columns ≡ made_nodes None columns
nodes-are columns plain = ap (λ (n : ℕ). 1 + n) (sym (columns-nodes columns plain))

pub is-chunk : (columns : List Column) (rows : List Row) (chunk : ArrayTree) (columns_count : ℕ) → All IsPlain columns → chunk ≡ chunk_of columns rows
    → ChunkOk (type_of_columns columns) (chunk_of columns rows) → rows_of (type_of_columns columns) (chunk_of columns rows) ≡ rows
    → Cost chunk ≤ 1 + 4 * columns_count → columns_count ≤ 1024 → IsChunkOf columns rows chunk
is-chunk columns rows chunk columns_count plain is ok back cost few = record {
  ok = subst (ChunkOk (type_of_columns columns)) (sym is) ok;
  rows_are = ap (rows_of (type_of_columns columns)) is ∙ back;
  small = omega (arith, cost, few);
  dicts = λ k none small. subst (λ kind. DictsAreFull kind (child_at chunk k)) (sym (plain k none small).is) tt;
}

pub live-chunk : (columns : List Column) (rows : List Row) (chunk : ArrayTree) → chunk ≡ chunk_of columns rows → IsLive chunk
live-chunk columns rows chunk is = subst IsLive (sym is) tt
