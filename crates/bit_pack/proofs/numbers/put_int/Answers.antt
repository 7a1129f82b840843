use Rattle.std.proofs.Common.{◌≡◌, ◌∙◌, ◌++◌, ◌+◌, take, drop, ap, rules, List, ℕ}
use Rattle.data_types.specs.promise.Packed.{number_at, stored, le_bytes}
use Rattle.bit_pack.proofs.NumberFacts.{number_back, number_elsewhere, meant_back, whole_back, stored_bound}
use Rattle.bit_pack.proofs.numbers.put_int.Goals as goal

pub returns-clause-signed_back : goal.returns-clause-signed_back
returns-clause-signed_back c = λ fits.
    let is : c.put_value.new.bytes ≡ take c.args.at c.args.bytes.now ++ le_bytes c.args.width (stored c.args.width c.args.value)
    ++ drop (c.args.at + c.args.width) c.args.bytes.now = search rules in
    let small = stored_bound c.args.width c.args.value c.requires.width c.requires.fits in
    let back =
    ap (λ (bs : List ℕ). number_at bs c.args.at c.args.width) is
    ∙ number_back c.args.bytes.now c.args.at c.args.width (stored c.args.width c.args.value) c.requires.within small in
    meant_back c.args.width (number_at c.put_value.new.bytes c.args.at c.args.width) c.args.value c.requires.width back fits

pub returns-clause-unsigned_back : goal.returns-clause-unsigned_back
returns-clause-unsigned_back c = λ whole.
    let is : c.put_value.new.bytes ≡ take c.args.at c.args.bytes.now ++ le_bytes c.args.width (stored c.args.width c.args.value)
    ++ drop (c.args.at + c.args.width) c.args.bytes.now = search rules in
    let small = stored_bound c.args.width c.args.value c.requires.width c.requires.fits in
    let back =
    ap (λ (bs : List ℕ). number_at bs c.args.at c.args.width) is
    ∙ number_back c.args.bytes.now c.args.at c.args.width (stored c.args.width c.args.value) c.requires.within small in
    whole_back c.args.width (number_at c.put_value.new.bytes c.args.at c.args.width) c.args.value back whole

pub returns-clause-others : goal.returns-clause-others
returns-clause-others c = λ p w apart.
    ap (λ (bs : List ℕ). number_at bs p w) c.put_value.ensures ∙ number_elsewhere c.args.bytes.now c.args.at c.args.width _ p w c.requires.within apart
