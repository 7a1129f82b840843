use Rattle.std.proofs.Common.{rules, refl}
use Rattle.csv_model.proofs.RowPieces.{row_written}
use Rattle.csv_model.proofs.made_text.push_row.Goals as goal

pub returns : goal.returns
returns c =
    row_written c.args.i c.args.bytes.now.items c.as_bytes-digits.result.now _ _ _ _ _ _ _ _ (search rules) refl c.paid.ensures
    c.in_ok-extend_from_slice.ensures.items c.in_ok-extend_from_slice-2.ensures.items c.in_ok-extend_from_slice-3.ensures.items
    c.in_ok-extend_from_slice-4.ensures.items c.in_ok-extend_from_slice-5.ensures.items c.in_ok-extend_from_slice-6.ensures.items
