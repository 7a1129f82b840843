use Rattle.std.proofs.Common.{◌≡◌, ◌∙◌, List, ◌∷◌, arith, ap, length}
use Rattle.data_types.specs.declared.kind.ColumnType.{ColumnType}
use Rattle.csv_source.proofs.LastPieces.{taken}
use Rattle.csv_source.specs.NextPieces.{to_come}
use Rattle.csv_source.specs.declared.maker.Piece.{Piece}
use Rattle.csv_source.proofs.next_ahead.next_chunk.Goals as goal

pub export-requires-clause-few : goal.export-requires-clause-few
export-requires-clause-few g c =
    let (m, few, last) = c.requires.last in
    let held = c.in-Item-Rows.held in
    let rest = c.next.new.self.coming in
    let came = ap to_come c.in-Some.is ∙ c.in-Item-Rows.ensures.gives ∙ ap (λ (first : Piece). first ∷ rest) c.in-Item-Rows.field-0-is in
    let took = taken m (to_come c.args.ahead.now) held rest last came in
    let same : length held.columns ≡ length m.batches.columns = ap (λ (cs : List ColumnType). length cs) took.columns_are in
    omega (arith, same, few)

pub export-requires-clause-units : goal.export-requires-clause-units
export-requires-clause-units g c =
    let (m, few, last) = c.requires.last in
    let held = c.in-Item-Rows.held in
    let rest = c.next.new.self.coming in
    let came = ap to_come c.in-Some.is ∙ c.in-Item-Rows.ensures.gives ∙ ap (λ (first : Piece). first ∷ rest) c.in-Item-Rows.field-0-is in
    let took = taken m (to_come c.args.ahead.now) held rest last came in
    let same : length held.columns ≡ length m.batches.columns = ap (λ (cs : List ColumnType). length cs) took.columns_are in
    omega (arith, same, few, c.requires.room)
