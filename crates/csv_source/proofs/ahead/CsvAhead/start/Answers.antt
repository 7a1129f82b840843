use Rattle.std.proofs.Common.{◌≡◌, ◌∙◌, List, Option, None, Some, map, All, ap, subst, sym}
use Rattle.csv_source.proofs.PlainKinds.{plain-columns}
use Rattle.data_types.specs.ColumnForms.{KindsOk}
use Rattle.data_types.specs.ColumnView.{column_of, kind_of}
use Rattle.data_types.specs.declared.kind.ColumnType.{ColumnType}
use Rattle.data_types.specs.declared.row_fault.RowFault.{RowFault}
use Rattle.field_codec.specs.TextColumns.{AreAllowed, AreProper}
use Rattle.csv_source.proofs.LastPieces.{begun}
use Rattle.csv_source.proofs.AheadReplies.{copied-columns, starting, starts}
use Rattle.csv_source.proofs.SameColumns.{copied-kinds}
use Rattle.csv_source.specs.Pieces.{maker_pieces}
use Rattle.csv_source.proofs.ahead.CsvAhead.start.Goals as goal

pub clone_columns-requires : goal.clone_columns-requires
clone_columns-requires g c =
    subst (λ (cs : List ColumnType). All (λ c. KindsOk (kind_of c.kind)) cs) (sym c.as_slice.ensures.value)
    (copied-kinds c.args.columns.items c.requires.proper)

pub new-own-requires-clause-proper : goal.new-own-requires-clause-proper
new-own-requires-clause-proper g c =
    subst AreProper (sym (copied-columns c.args.columns.items c.as_slice.result.now c.in_ok-copy.copy.items c.as_slice.ensures.value c.in_ok-copy.ensures)) c.requires.proper

pub new-own-requires-clause-allowed : goal.new-own-requires-clause-allowed
new-own-requires-clause-allowed g c =
    subst AreAllowed (sym (copied-columns c.args.columns.items c.as_slice.result.now c.in_ok-copy.copy.items c.as_slice.ensures.value c.in_ok-copy.ensures)) c.requires.allowed

pub invariant_of-result : goal.invariant_of-result
invariant_of-result g c =
    let records = c.args.records in
    let columns = c.args.columns.items in
    let whole = c.of-whole.result.value in
    let plain = plain-columns (map column_of columns) c.requires.proper c.requires.allowed in
    let here = starting whole c.over-maker.result c.in_ok-batches.batches records.records records.size columns c.as_slice.result.now c.in_ok-copy.copy.items
    c.new-own.result c.args.mark.now c.of-whole.ensures c.over-maker.ensures.batches c.in_ok-batches.ensures.left c.are_within_the_text.ensures.count
    c.are_within_the_text.ensures.bytes c.requires.short plain c.as_slice.ensures.value c.in_ok-copy.ensures c.new-own.ensures in
    record {
      same = here.same;
      short = here.short;
      last = λ _ _. begun whole c.in_ok-ahead.ahead.coming (c.in_ok-ahead.ensures ∙ ap maker_pieces (sym c.of-whole.ensures));
      row = λ row no. let never : ◌≡◌ {A = Option RowFault} None (Some row) = no in absurd (cc);
    }

pub returns : goal.returns
returns g c =
    starts c.of-whole.result.value c.over-maker.result c.in_ok-batches.batches c.args.records.records c.args.columns.items c.as_slice.result.now
    c.in_ok-copy.copy.items c.new-own.result c.args.mark.now c.args.batch c.in_ok-ahead.ahead.coming c.of-whole.ensures c.over-maker.ensures.batches
    c.in_ok-batches.ensures.left c.over-maker.ensures.batch c.as_slice.ensures.value c.in_ok-copy.ensures c.new-own.ensures c.in_ok-ahead.ensures
