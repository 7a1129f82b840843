use Rattle.std.proofs.Common.{◌≡◌, ◌+◌, ◌++◌, ◌∷◌, [], ℕ, sym, subst, arith}
use Rattle.data_types.specs.promise.Value.{Value}
use Rattle.arr_import.specs.Lent.{lent_bytes}
use Rattle.row_groups.specs.ItemKeys.{HasKey, item_of, stored_as}
use Rattle.row_groups.specs.Walk.{IsGrouped, IsWalked}
use Rattle.row_groups.proofs.Steps.{walked-more}
use Rattle.row_groups.proofs.numbers.numbered.Goals as goal

pub number-requires : goal.number-requires
number-requires c =
    let is = c.loop-i.invariant in
    (is.keys, is.numbered, omega (arith, is.many, is.grouped.few, c.loop-i-test.true, c.requires.few))

pub loop-i-preserved : goal.loop-i-preserved
loop-i-preserved c =
    let column = c.args.column.now in
    let item : ℕ → Value = λ i. item_of column (c.args.start + i) in
    let is = c.loop-i.invariant in
    let i = c.loop-i.i in
    let here : c.args.start + c.from.result ≡ c.args.start + i = omega (arith, c.from.ensures) in
    let has = subst (λ n. HasKey (stored_as column) (item_of column n) (lent_bytes c.key-key.result)) here c.key-key.ensures in
    let more =
    walked-more c.loop-i.numbering c.number.new.self (stored_as column) item i c.loop-i.numbers.items c.loop-i.firsts.items (lent_bytes c.key-key.result)
    c.in_ok-number.number c.in_ok-number.new is has (c.in_ok-number.ensures is.keys is.numbered) in
    subst (λ ns. IsWalked c.number.new.self (stored_as column) item (i + 1) ns c.add_first.new.firsts.items) (sym c.in_ok-push.ensures.items)
    (subst (IsWalked c.number.new.self (stored_as column) item (i + 1) (c.loop-i.numbers.items ++ c.in_ok-number.number ∷ []))
    (sym c.in_ok-add_first.ensures) more)

pub returns : goal.returns
returns c =
    let item : ℕ → Value = λ i. item_of c.args.column.now (c.args.start + i) in
    let all : c.loop-i.i ≡ c.args.count = omega (arith, c.loop-i-test.false, c.loop-i.auto.i-end) in
    subst (λ n. IsGrouped item n c.loop-i.numbers.items c.loop-i.firsts.items) all c.loop-i.invariant.grouped
