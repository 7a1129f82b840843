use Rattle.std.proofs.Common.{◌≡◌, ◌≤◌, ◌<◌, ◌^◌, ◌∙◌, List, [], ◌∷◌, Option, None, Some, length, map, arith, ap, refl, subst, sym, to_z, of_z, w32}
use Rattle.std.proofs.lemmas.Int.{ints}
use Rattle.csv_source.proofs.PlainKinds.{plain-columns}
use Rattle.csv_source.proofs.ChunkReplies.{no-refusal, refused-answers}
use Rattle.csv_source.proofs.ChunkStreams.{refused-counts}
use Rattle.csv_source.specs.declared.refused.Refused.{Refused}
use Rattle.csv_model.specs.promise.Header.{most_columns}
use Rattle.data_types.specs.ColumnView.{column_of}
use Rattle.data_types.specs.declared.kind.ColumnType.{ColumnType}
use Rattle.stream_face.proofs.Producers.{given-answers, shows-no-link}
use Rattle.csv_source.proofs.LastPieces.{ended, stopped}
use Rattle.csv_source.proofs.NextTables.{next-table}
use Rattle.csv_source.proofs.AheadReplies.{given-counts, none-stopped, still-last, tables-none}
use Rattle.csv_source.specs.NextPieces.{to_come}
use Rattle.csv_source.specs.Pieces.{tables_of}
use Rattle.csv_source.specs.AheadSources.{tables_left}
use Rattle.csv_source.proofs.ahead.CsvAheadArrayStream.get_next.Goals as goal

pub next_chunk-requires-clause-last : goal.next_chunk-requires-clause-last
next_chunk-requires-clause-last g c =
    let source = c.args.self.now in (
      source.whole.value,
      subst (λ (cs : List ColumnType). length cs ≤ most_columns) (sym source.same) c.as_slice-columns.ensures.few,
      source.last c.in_default.is c.requires.live,
    )

pub invariant_of-self-in-Ok : goal.invariant_of-self-in-Ok
invariant_of-self-in-Ok g c =
    let source = c.args.self.now in
    record {
      same = source.same;
      short = source.short;
      last = λ none _. still-last source.whole.value c.next_chunk.new.out (to_come source.ahead) (to_come c.next_chunk.new.ahead)
          c.args.pass.now c.next_chunk.new.pass (source.last none c.requires.live) c.in-Ok.ensures.chunk c.in-Ok.ensures.end;
      row = source.row;
    }

pub invariant_of-self-in-Err : goal.invariant_of-self-in-Err
invariant_of-self-in-Err g c =
    let source = c.args.self.now in
    let last = source.last c.in_default.is c.requires.live in
    record {
      same = source.same;
      short = source.short;
      last = λ none _. let never : ◌≡◌ {A = Option Refused} (Some c.in-Err.refused) None = none in absurd (cc);
      row = λ row is. (stopped source.whole.value (to_come source.ahead) row (to_come c.next_chunk.new.ahead) last (c.in-Err.ensures.fault row is)).1;
    }

pub returns-in-Ok-clause-answers : goal.returns-in-Ok-clause-answers
returns-in-Ok-clause-answers g c = λ fresh.
    let source = c.args.self.now in
    let m = source.whole.value in
    let out = c.next_chunk.new.out in
    let old = to_come source.ahead in
    let new = to_come c.next_chunk.new.ahead in
    let none = no-refusal source.refused fresh.no_failure in
    let last = source.last none c.requires.live in
    let facts = c.as_slice-columns.ensures in
    let plain = plain-columns (map column_of source.columns) facts.proper facts.allowed in
    given-answers _ _ out
    (λ live.
    let next = next-table m source.columns out old new c.args.pass.now c.next_chunk.new.pass source.same plain source.short facts.few last (c.in-Ok.ensures.chunk live) in (
      next.rows,
      subst (λ (o : Option Refused). tables_left o source.ahead ≡ next.rows ∷ tables_left o c.next_chunk.new.ahead) (sym none) next.ahead,
      next.is,
    ))
    (λ gone.
    let ends = c.in-Ok.ensures.end gone in (
      tables-none source.refused source.ahead (ap tables_of ends.0),
      tables-none source.refused c.next_chunk.new.ahead (ap tables_of ends.1),
      ended m old last ends.0,
    ))

pub returns-in-Ok-clause-counts : goal.returns-in-Ok-clause-counts
returns-in-Ok-clause-counts g c = λ fresh _.
    let source = c.args.self.now in
    let none = no-refusal source.refused fresh.no_failure in
    let last = source.last none c.requires.live in
    let facts = c.as_slice-columns.ensures in
    let plain = plain-columns (map column_of source.columns) facts.proper facts.allowed in
    let blocks : c.args.pass.now.blocks < 2 ^ 64 = omega (arith, c.args.pass.now.most_blocks) in
    let nodes : c.args.pass.now.nodes < 2 ^ 64 = omega (arith, c.args.pass.now.most_nodes) in
    given-counts source.whole.value source.columns source.refused c.next_chunk.new.out source.ahead c.next_chunk.new.ahead c.args.pass.now c.next_chunk.new.pass
    none source.same plain source.short facts.few last blocks nodes c.in-Ok.ensures.chunk c.in-Ok.ensures.end c.in-Ok.ensures.end_counts

pub returns-in-Err-clause-answers : goal.returns-in-Err-clause-answers
returns-in-Err-clause-answers g c = λ fresh.
    let source = c.args.self.now in
    let none = no-refusal source.refused fresh.no_failure in
    let last = source.last none c.requires.live in
    let old = to_come source.ahead in
    let new = to_come c.next_chunk.new.ahead in
    let code : to_z w32 (of_z w32 c.code-code-in-Err.result) ≡ c.code-code-in-Err.result = omega (arith, ints) in
    refused-answers _ _ c.in-Err.refused _ _ c.in-Err.ensures.refuses (code ∙ c.code-code-in-Err.ensures) refl refl (λ row is.
    let is_bad = c.in-Err.ensures.fault row is in
    let stops = stopped source.whole.value old row new last is_bad in (
      tables-none source.refused source.ahead (none-stopped old new row is_bad stops.0),
      refl,
      stops.1,
    ))

pub returns-in-Err-clause-shows : goal.returns-in-Err-clause-shows
returns-in-Err-clause-shows g c = λ _. shows-no-link _ _ _ _ _ (λ _. refl) refl refl refl (λ _. (refl, refl))

pub returns-in-Err-clause-counts : goal.returns-in-Err-clause-counts
returns-in-Err-clause-counts g c = λ fresh had.
    let source = c.args.self.now in
    let last = source.last c.in_default.is c.requires.live in
    let old = to_come source.ahead in
    let new = to_come c.next_chunk.new.ahead in
    let code : to_z w32 (of_z w32 c.code-code-in-Err.result) ≡ c.code-code-in-Err.result = omega (arith, ints) in
    refused-counts (map column_of source.columns) (map column_of source.columns) (tables_left source.refused source.ahead) [] c.in-Err.refused _
    c.args.pass.now c.next_chunk.new.pass c.next_chunk.new.out (code ∙ c.code-code-in-Err.ensures) had
    (λ row is.
    let is_bad = c.in-Err.ensures.fault row is in
    (tables-none source.refused source.ahead (none-stopped old new row is_bad (stopped source.whole.value old row new last is_bad).0), refl))
    c.in-Err.ensures.fault_counts (omega (arith, c.args.pass.now.most_blocks)) (omega (arith, c.args.pass.now.most_nodes))
