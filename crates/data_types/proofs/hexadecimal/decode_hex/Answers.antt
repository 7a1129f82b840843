use Rattle.std.proofs.Common.{length, refl, Ok, Err}
use Rattle.data_types.specs.promise.FieldText.{hex_bytes}
use Rattle.hex.specs.Hex.{decode_sized}
use Rattle.data_types.proofs.HexPairs.{decoded_err, decoded_ok, sized_is}
use Rattle.data_types.proofs.hexadecimal.decode_hex.Goals as goal

pub returns-in-Ok-clause-found : goal.returns-in-Ok-clause-found
returns-in-Ok-clause-found c =
    let text = c.args.text.now in
    let size = length c.args.room.now in
    decoded_ok (decode_sized text size) (hex_bytes text) c.decode_to_slice.new.out (Ok tt) refl (sized_is text size c.requires) c.in-Ok.ensures.value

pub returns-in-Err-clause-none : goal.returns-in-Err-clause-none
returns-in-Err-clause-none c =
    let text = c.args.text.now in
    let size = length c.args.room.now in
    decoded_err (decode_sized text size) (hex_bytes text) c.decode_to_slice.new.out (Err c.in-Err.field-0) c.in-Err.field-0 refl
    (sized_is text size c.requires) c.in-Err.ensures.value
