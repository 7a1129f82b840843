use Rattle.std.proofs.Common.{◌<◌, ◌+◌, ◌-◌, ◌≡◌, ℕ, Fits, length, w64, arith}
use Rattle.raw_array.specs.promise.Members.{members_of}
use Rattle.layout_rules.specs.promise.Layout.{natural}
use Rattle.layout_rules.specs.promise.Views.{view_length, view_buffer, view_offset}
use Rattle.layout_check.proofs.Casts.{cast_is, cast_below, cast_fits, sum_fits, is_longer-gt}
use Rattle.layout_check.proofs.views.view_data.Goals as goal

two_fit : (k : ℕ) → k < 9223372036854775808 → Fits w64 (k + 2)
two_fit k l = grind (arith, l)

inside : (n k total : ℕ) → n ≡ k → k < total - 3 → n + 2 < total
inside n k total e l = omega (arith, e, l)

pub overflow_cast-from : goal.overflow_cast-from
overflow_cast-from c =
    let own = members_of c.args.node.now.array.now in
    let named = c.requires.within.named (is_longer-gt c.view_length-size.result (view_length own c.args.i) c.view_length-size.type_inv
    c.view_length-size.ensures c.if-size-gt-MOST_IN_VIEW.true) in
    cast_fits c.view_offset-from.result (view_offset own c.args.i) c.view_offset-from.type_inv c.view_offset-from.ensures named.from

pub overflow_cast-place : goal.overflow_cast-place
overflow_cast-place c =
    let own = members_of c.args.node.now.array.now in
    let named = c.requires.within.named (is_longer-gt c.view_length-size.result (view_length own c.args.i) c.view_length-size.type_inv
    c.view_length-size.ensures c.if-size-gt-MOST_IN_VIEW.true) in
    cast_fits c.view_buffer.result (view_buffer own c.args.i) c.view_buffer.type_inv c.view_buffer.ensures named.buffer_from

pub overflow_add-place : goal.overflow_add-place
overflow_add-place c =
    let own = members_of c.args.node.now.array.now in
    let named = c.requires.within.named (is_longer-gt c.view_length-size.result (view_length own c.args.i) c.view_length-size.type_inv
    c.view_length-size.ensures c.if-size-gt-MOST_IN_VIEW.true) in
    two_fit _ (cast_below c.view_buffer.result (view_buffer own c.args.i) c.view_buffer.type_inv c.view_buffer.ensures named.buffer_from)

pub bytes-requires : goal.bytes-requires
bytes-requires c =
    let own = members_of c.args.node.now.array.now in
    let named = c.requires.within.named (is_longer-gt c.view_length-size.result (view_length own c.args.i) c.view_length-size.type_inv
    c.view_length-size.ensures c.if-size-gt-MOST_IN_VIEW.true) in
    inside _ (natural (view_buffer own c.args.i)) (length own.buffers)
    (cast_is c.view_buffer.result (view_buffer own c.args.i) c.view_buffer.type_inv c.view_buffer.ensures named.buffer_from) named.buffer

pub overflow_cast-result : goal.overflow_cast-result
overflow_cast-result c =
    cast_fits c.view_length-size.result (view_length (members_of c.args.node.now.array.now) c.args.i) c.view_length-size.type_inv
    c.view_length-size.ensures c.requires.within.size

pub overflow_add-result : goal.overflow_add-result
overflow_add-result c =
    let own = members_of c.args.node.now.array.now in
    let named = c.requires.within.named (is_longer-gt c.view_length-size.result (view_length own c.args.i) c.view_length-size.type_inv
    c.view_length-size.ensures c.if-size-gt-MOST_IN_VIEW.true) in
    sum_fits _ _ (cast_below c.view_offset-from.result (view_offset own c.args.i) c.view_offset-from.type_inv c.view_offset-from.ensures named.from)
    (cast_below c.view_length-size.result (view_length own c.args.i) c.view_length-size.type_inv c.view_length-size.ensures c.requires.within.size)
