use Rattle.std.proofs.Common.{rules, ◌≡◌, ◌∙◌, ◌/◌, to_z, of_z, ap}
use Rattle.std.specs.Fmt.{signed_decimal}
use Rattle.std.specs.Int.{w128}
use Rattle.std.proofs.lemmas.Result.{IfOk-weaker}
use Rattle.data_types.specs.promise.FieldText.{decimal_text, hex_text, last_digits}
use Rattle.data_types.specs.promise.Value.{Truth, Whole, Bits, Bytes}
use Rattle.arr_import.specs.Plain.{valid_item}
use Rattle.csv_write.proofs.Readings.{by-way}
use Rattle.csv_write.specs.declared.way.Way.TheVariants as ways
use Rattle.csv_write.proofs.way.way_text.Goals as goal

pub returns-in-Texts : goal.returns-in-Texts
returns-in-Texts c mark =
    by-way mark c.args.way.now ways.Texts c.in-Texts.is (valid_item c.args.items.now c.args.i) (Bytes c.between.result.now) c.between.ensures

pub returns-in-WideTexts : goal.returns-in-WideTexts
returns-in-WideTexts c mark =
    by-way mark c.args.way.now ways.WideTexts c.in-WideTexts.is (valid_item c.args.items.now c.args.i) (Bytes c.between-in-WideTexts.result.now)
    c.between-in-WideTexts.ensures

pub returns-in-Ints : goal.returns-in-Ints
returns-in-Ints c =
    let number = c.whole.result in
    let told : to_z w128 (of_z w128 c.whole.result) ≡ c.whole.result = search rules in
    IfOk-weaker c.whole_text.result (λ text. text.now ≡ signed_decimal (to_z w128 (of_z w128 number))) _
    (λ text same mark. same ∙ ap signed_decimal told
    ∙ by-way mark c.args.way.now ways.Ints c.in-Ints.is (valid_item c.args.items.now c.args.i) (Whole number) c.whole.ensures)
    c.whole_text.ensures

pub returns-in-Longs : goal.returns-in-Longs
returns-in-Longs c =
    let number = c.whole-in-Longs.result in
    let told : to_z w128 (of_z w128 c.whole-in-Longs.result) ≡ c.whole-in-Longs.result = search rules in
    IfOk-weaker c.whole_text-in-Longs.result (λ text. text.now ≡ signed_decimal (to_z w128 (of_z w128 number))) _
    (λ text same mark. same ∙ ap signed_decimal told
    ∙ by-way mark c.args.way.now ways.Longs c.in-Longs.is (valid_item c.args.items.now c.args.i) (Whole number) c.whole-in-Longs.ensures)
    c.whole_text-in-Longs.ensures

pub returns-in-Wholes : goal.returns-in-Wholes
returns-in-Wholes c =
    let number = c.whole-in-Wholes.result in
    let told : to_z w128 (of_z w128 c.whole-in-Wholes.result) ≡ c.whole-in-Wholes.result = search rules in
    IfOk-weaker c.whole_text-in-Wholes.result (λ text. text.now ≡ signed_decimal (to_z w128 (of_z w128 number))) _
    (λ text same mark. same ∙ ap signed_decimal told
    ∙ by-way mark c.args.way.now (ways.Wholes c.in-Wholes.bits c.in-Wholes.signed) c.in-Wholes.is (valid_item c.args.items.now c.args.i) (Whole number)
    c.whole-in-Wholes.ensures)
    c.whole_text-in-Wholes.ensures

pub returns-in-Decimals : goal.returns-in-Decimals
returns-in-Decimals c =
    let number = c.whole-in-Decimals.result in
    let places = c.in-Decimals.places in
    let told : to_z w128 (of_z w128 c.whole-in-Decimals.result) ≡ c.whole-in-Decimals.result = search rules in
    IfOk-weaker c.decimal_text.result (λ text. text.now ≡ decimal_text places (to_z w128 (of_z w128 number))) _
    (λ text same mark. same ∙ ap (decimal_text places) told
    ∙ by-way mark c.args.way.now (ways.Decimals c.in-Decimals.precision places) c.in-Decimals.is (valid_item c.args.items.now c.args.i) (Whole number)
    c.whole-in-Decimals.ensures)
    c.decimal_text.ensures

pub returns-in-Truths : goal.returns-in-Truths
returns-in-Truths c mark =
    c.truth_text.ensures
    ∙ by-way mark c.args.way.now ways.Truths c.in-Truths.is (valid_item c.args.items.now c.args.i) (Truth c.truth.result) c.truth.ensures

pub returns-in-Doubles : goal.returns-in-Doubles
returns-in-Doubles c =
    let number = c.float_bits.result in
    IfOk-weaker c.bits_text.result (λ text. text.now ≡ last_digits 16 (64 / 4) number) _
    (λ text same mark. same
    ∙ by-way mark c.args.way.now ways.Doubles c.in-Doubles.is (valid_item c.args.items.now c.args.i) (Bits number) c.float_bits.ensures)
    c.bits_text.ensures

pub returns-in-Floats : goal.returns-in-Floats
returns-in-Floats c =
    let number = c.float_bits-in-Floats.result in
    let bits = c.in-Floats.bits in
    IfOk-weaker c.bits_text-in-Floats.result (λ text. text.now ≡ last_digits 16 (bits / 4) number) _
    (λ text same mark. same
    ∙ by-way mark c.args.way.now (ways.Floats bits) c.in-Floats.is (valid_item c.args.items.now c.args.i) (Bits number) c.float_bits-in-Floats.ensures)
    c.bits_text-in-Floats.ensures

pub returns-in-Bytes : goal.returns-in-Bytes
returns-in-Bytes c =
    let bytes = c.between-in-Bytes.result.now in
    IfOk-weaker c.bytes_text.result (λ text. text.now ≡ hex_text bytes) _
    (λ text same mark. same
    ∙ by-way mark c.args.way.now ways.Bytes c.in-Bytes.is (valid_item c.args.items.now c.args.i) (Bytes bytes) c.between-in-Bytes.ensures)
    c.bytes_text.ensures

pub returns-in-WideBytes : goal.returns-in-WideBytes
returns-in-WideBytes c =
    let bytes = c.between-in-WideBytes.result.now in
    IfOk-weaker c.bytes_text-in-WideBytes.result (λ text. text.now ≡ hex_text bytes) _
    (λ text same mark. same
    ∙ by-way mark c.args.way.now ways.WideBytes c.in-WideBytes.is (valid_item c.args.items.now c.args.i) (Bytes bytes) c.between-in-WideBytes.ensures)
    c.bytes_text-in-WideBytes.ensures

pub returns-in-Sized : goal.returns-in-Sized
returns-in-Sized c =
    let bytes = c.sized.result.now in
    IfOk-weaker c.bytes_text-in-Sized.result (λ text. text.now ≡ hex_text bytes) _
    (λ text same mark. same
    ∙ by-way mark c.args.way.now (ways.Sized c.in-Sized.size) c.in-Sized.is (valid_item c.args.items.now c.args.i) (Bytes bytes) c.sized.ensures)
    c.bytes_text-in-Sized.ensures
