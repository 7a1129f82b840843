use Rattle.std.proofs.Common.{◌≡◌, ◌≢◌, ◌+◌, ◌*◌, ◌/◌, ◌%◌, ◌^◌, ◌∙◌, ◌++◌, ◌∷◌, [], ℕ, Bool, List, arith, rules, ap, sym, length, get_or, set}
use Rattle.std.proofs.lemmas.List.{get_or_read, set-get_or}
use Rattle.col_build.specs.promise.Encoding.{bit_bytes, bit_value}
use Rattle.col_build.proofs.BitBytes.{bits-begin, bits-more, ends-within, mask, EndsWithin}
use Rattle.col_build.proofs.bits.push_bit.Goals as goal

-- the byte of a bit that doesn't begin one
within : (bytes : List ℕ) (flags : List Bool) (count : ℕ) → length flags ≡ count → bytes ≡ bit_bytes flags → count % 8 ≢ 0
    → EndsWithin flags (count / 8) (count % 8)
within bytes flags count e is some = ends-within flags (count / 8) (count % 8) (omega arith) (omega arith) (omega arith)

pub returns-in-Ok-clause-added : goal.returns-in-Ok-clause-added
returns-in-Ok-clause-added c flags len is =
    let placed : c.push.new.self.items ≡ c.args.bits.now.items ++ c.from.result ∷ [] = search rules in
    let value : c.from.result ≡ bit_value c.args.flag = c.from.ensures in
    placed ∙ ap (λ (bytes : List ℕ). bytes ++ c.from.result ∷ []) is ∙ ap (λ n. bit_bytes flags ++ n ∷ []) value
    ∙ sym (bits-begin flags (c.args.count / 8) c.args.flag (omega arith))

pub index_mut-requires : goal.index_mut-requires
index_mut-requires c =
    let shows = c.requires.shows in
    let end = within c.args.bits.now.items shows.0 c.args.count shows.1 shows.2 c.if-place-eq0.false in
    omega (arith, end.there, ap length shows.2, c.args.bits.now.ok.0)

-- the byte of a bit that doesn't begin one, as it is read
byte-read : (bytes : List ℕ) (flags : List Bool) (count byte : ℕ) → length flags ≡ count → bytes ≡ bit_bytes flags → count % 8 ≢ 0
    → byte ≡ get_or bytes (count / 8) byte
    → byte ≡ get_or (bit_bytes flags) (count / 8) 0
byte-read bytes flags count byte e is some read =
    let end = within bytes flags count e is some in
    get_or_read bytes (count / 8) byte (omega (arith, end.there, ap length is)) read 0 ∙ ap (λ (xs : List ℕ). get_or xs (count / 8) 0) is

pub overflow_add-index_mut : goal.overflow_add-index_mut
overflow_add-index_mut c =
    let shows = c.requires.shows in
    let end = within c.args.bits.now.items shows.0 c.args.count shows.1 shows.2 c.if-place-eq0.false in
    let byte = byte-read c.args.bits.now.items shows.0 c.args.count c.index_mut.result.now shows.1 shows.2 c.if-place-eq0.false c.index_mut.ensures.value in
    let one = mask (c.args.count % 8) (omega arith) in
    omega (arith, end.small, byte, one.one, one.room)

pub returns-then-flag-clause-added : goal.returns-then-flag-clause-added
returns-then-flag-clause-added c flags len is =
    let byte = byte-read c.args.bits.now.items flags c.args.count c.index_mut.result.now len is c.if-place-eq0.false c.index_mut.ensures.value in
    let one = mask (c.args.count % 8) (omega arith) in
    let value : bit_value c.args.flag ≡ 1 = ap bit_value c.if-flag.true in
    let sum : c.index_mut.result.now + 1 * 2 ^ (c.args.count % 8) % 256
    ≡ get_or (bit_bytes flags) (c.args.count / 8) 0 + bit_value c.args.flag * 2 ^ (c.args.count % 8) = rw (value, one.one) (omega (arith, byte)) in
    ap (λ n. set c.args.bits.now.items (c.args.count / 8) n) sum
    ∙ ap (λ (xs : List ℕ). set xs (c.args.count / 8) (get_or (bit_bytes flags) (c.args.count / 8) 0 + bit_value c.args.flag * 2 ^ (c.args.count % 8))) is
    ∙ sym (bits-more flags (c.args.count / 8) (c.args.count % 8) c.args.flag (omega arith) (omega (arith, c.if-place-eq0.false)) (omega arith))

pub returns-else-flag-clause-added : goal.returns-else-flag-clause-added
returns-else-flag-clause-added c flags len is =
    let value : bit_value c.args.flag ≡ 0 = ap bit_value c.if-flag.false in
    let sum : get_or (bit_bytes flags) (c.args.count / 8) 0 + bit_value c.args.flag * 2 ^ (c.args.count % 8)
    ≡ get_or (bit_bytes flags) (c.args.count / 8) 0 = rw value (omega arith) in
    let more = bits-more flags (c.args.count / 8) (c.args.count % 8) c.args.flag (omega arith) (omega (arith, c.if-place-eq0.false)) (omega arith) in
    is ∙ sym (more ∙ ap (λ n. set (bit_bytes flags) (c.args.count / 8) n) sum ∙ set-get_or (bit_bytes flags) (c.args.count / 8) 0)
