use Rattle.std.proofs.Common.{rules, arith, List, ℕ, map, subst, take}
use Rattle.data_types.specs.ColumnView.{column_of}
use Rattle.csv_model.specs.promise.Reading.{body_from}
use Rattle.csv_read.specs.Body.{IsBodyFault}
use Rattle.csv_read.specs.BodyRows.{HasBatch, IsRowsFault}
use Rattle.csv_read.proofs.BodyRead.{body-refused, whole-body}
use Rattle.csv_read.proofs.body.read_body.Goals as goal

pub returns-clause-body : goal.returns-clause-body
returns-clause-body g c =
    let columns = map column_of c.args.columns.now in
    let has =
    subst (λ (m : List ℕ). HasBatch m 1 18446744073709551615 columns c.args.records c.read_rows.new.made c.read_rows.new.records) c.in_ok-made.ensures.mark
    (c.in_ok-read_rows.ensures.rows columns c.in_ok-made.ensures.rows) in
    whole-body c.args.mark.now c.read_rows.new.made columns c.args.records c.read_rows.new.records 18446744073709551615 c.requires.short (omega arith) has

pub returns-in_err-read_rows-clause-fault : goal.returns-in_err-read_rows-clause-fault
returns-in_err-read_rows-clause-fault g c =
    let columns = map column_of c.args.columns.now in
    let fault = c.in_err-read_rows.field-0.0 in
    let refused : IsRowsFault fault (body_from c.args.mark.now 1 columns (take 18446744073709551615 c.args.records.records)) =
    subst (λ (m : List ℕ). IsRowsFault fault (body_from m 1 columns (take 18446744073709551615 c.args.records.records))) c.in_ok-made.ensures.mark
    (c.in_err-read_rows.ensures.fault columns c.in_ok-made.ensures.rows) in
    let told : IsBodyFault fault c.args.mark.now columns c.args.records.records =
    body-refused c.args.mark.now columns c.args.records.records 18446744073709551615 fault refused in
    search (rules, told)
