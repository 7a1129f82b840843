use Rattle.std.proofs.Common.{◌+◌, ◌<◌, pos, false, true, ap, sym, subst, ◌∙◌, nat_abs, of_z, to_z, w64}
use mir.Syntax.{w128}
use Rattle.std.specs.Prelude.{nat_lt}
use Rattle.raw_array.specs.promise.Members.{members_of}
use Rattle.layout_rules.specs.promise.Layout.{natural, data_buffers, data_length}
use Rattle.layout_rules.specs.promise.Views.{view_length, view_buffer, view_offset}
use Rattle.layout_rules.specs.promise.Rules.{fault, fault_if}
use Rattle.layout_rules.proofs.Named.{named-no_buffer, named-before, named-behind, named-from, named-below}
use Rattle.layout_check.proofs.Casts.{is_below, is_from, outside_is, cast_is, cast_below, cast_fits, sum_fits, widened, count_widened}
use Rattle.layout_check.proofs.views.named_outside.Goals as goal

pub returns-then-is_outside : goal.returns-then-is_outside
returns-then-is_outside c =
    let own = members_of c.args.node.now.array.now in
    let i = c.args.i in
    let buffer = c.view_buffer-buffer.result in
    let count = c.data_buffers-count.result in
    let outside = outside_is c.is_outside.result true count (data_buffers own) buffer (view_buffer own i) c.view_buffer-buffer.type_inv
    c.is_outside.ensures c.if-is_outside.true c.data_buffers-count.ensures.count c.view_buffer-buffer.ensures in
    c.fault.ensures
    ∙ ap (λ z. fault i z (to_z w128 count)) (widened c.from.result buffer (view_buffer own i) c.from.type_inv c.view_buffer-buffer.type_inv c.from.ensures
    c.view_buffer-buffer.ensures)
    ∙ ap (fault i (view_buffer own i)) (count_widened count (data_buffers own) c.data_buffers-count.ensures.few c.data_buffers-count.ensures.count)
    ∙ sym (named-no_buffer own i outside)

pub returns-then-from-lt0 : goal.returns-then-from-lt0
returns-then-from-lt0 c =
    let own = members_of c.args.node.now.array.now in
    let i = c.args.i in
    let begin = c.view_offset-from.result in
    let outside = outside_is c.is_outside.result false c.data_buffers-count.result (data_buffers own) c.view_buffer-buffer.result (view_buffer own i)
    c.view_buffer-buffer.type_inv c.is_outside.ensures c.if-is_outside.false c.data_buffers-count.ensures.count c.view_buffer-buffer.ensures in
    c.fault-then-from-lt0.ensures
    ∙ ap (λ z. fault i z (pos 0)) (widened c.from-then-from-lt0.result begin (view_offset own i) c.from-then-from-lt0.type_inv c.view_offset-from.type_inv
    c.from-then-from-lt0.ensures c.view_offset-from.ensures)
    ∙ sym (named-before own i outside (is_below begin (view_offset own i) c.view_offset-from.type_inv c.view_offset-from.ensures c.if-from-lt0.true))

pub overflow_cast-to : goal.overflow_cast-to
overflow_cast-to c =
    let begin = view_offset (members_of c.args.node.now.array.now) c.args.i in
    cast_fits c.view_offset-from.result begin c.view_offset-from.type_inv c.view_offset-from.ensures
    (is_from c.view_offset-from.result begin c.view_offset-from.type_inv c.view_offset-from.ensures c.if-from-lt0.false)

pub overflow_cast-to-2 : goal.overflow_cast-to-2
overflow_cast-to-2 c =
    cast_fits c.view_length.result (view_length (members_of c.args.node.now.array.now) c.args.i) c.view_length.type_inv c.view_length.ensures c.requires.size

pub overflow_add-to : goal.overflow_add-to
overflow_add-to c =
    let own = members_of c.args.node.now.array.now in
    let begin = view_offset own c.args.i in
    sum_fits _ _ (cast_below c.view_offset-from.result begin c.view_offset-from.type_inv c.view_offset-from.ensures
    (is_from c.view_offset-from.result begin c.view_offset-from.type_inv c.view_offset-from.ensures c.if-from-lt0.false))
    (cast_below c.view_length.result (view_length own c.args.i) c.view_length.type_inv c.view_length.ensures c.requires.size)

pub overflow_cast-buffer : goal.overflow_cast-buffer
overflow_cast-buffer c =
    let own = members_of c.args.node.now.array.now in
    let outside = outside_is c.is_outside.result false c.data_buffers-count.result (data_buffers own) c.view_buffer-buffer.result (view_buffer own c.args.i)
    c.view_buffer-buffer.type_inv c.is_outside.ensures c.if-is_outside.false c.data_buffers-count.ensures.count c.view_buffer-buffer.ensures in
    cast_fits c.view_buffer-buffer.result (view_buffer own c.args.i) c.view_buffer-buffer.type_inv c.view_buffer-buffer.ensures
    (named-from own c.args.i outside)

pub data_length-requires-clause-inside : goal.data_length-requires-clause-inside
data_length-requires-clause-inside c =
    let own = members_of c.args.node.now.array.now in
    let outside = outside_is c.is_outside.result false c.data_buffers-count.result (data_buffers own) c.view_buffer-buffer.result (view_buffer own c.args.i)
    c.view_buffer-buffer.type_inv c.is_outside.ensures c.if-is_outside.false c.data_buffers-count.ensures.count c.view_buffer-buffer.ensures in
    subst (λ k. k < data_buffers own)
    (sym (cast_is c.view_buffer-buffer.result (view_buffer own c.args.i) c.view_buffer-buffer.type_inv c.view_buffer-buffer.ensures
    (named-from own c.args.i outside)))
    (named-below own c.args.i outside)

pub returns : goal.returns
returns c =
    let own = members_of c.args.node.now.array.now in
    let i = c.args.i in
    let begin = view_offset own i in
    let size = c.data_length.result in
    let outside = outside_is c.is_outside.result false c.data_buffers-count.result (data_buffers own) c.view_buffer-buffer.result (view_buffer own i)
    c.view_buffer-buffer.type_inv c.is_outside.ensures c.if-is_outside.false c.data_buffers-count.ensures.count c.view_buffer-buffer.ensures in
    let not_below = is_from c.view_offset-from.result begin c.view_offset-from.type_inv c.view_offset-from.ensures c.if-from-lt0.false in
    let from = cast_is c.view_offset-from.result begin c.view_offset-from.type_inv c.view_offset-from.ensures not_below in
    let length = cast_is c.view_length.result (view_length own i) c.view_length.type_inv c.view_length.ensures c.requires.size in
    let buffer = cast_is c.view_buffer-buffer.result (view_buffer own i) c.view_buffer-buffer.type_inv c.view_buffer-buffer.ensures
    (named-from own i outside) in
    c.ends_behind.ensures
    ∙ ap (λ to. fault_if (nat_lt size to) i (pos to) (pos size)) (ap (λ n. n + nat_abs (to_z w64 (of_z w64 c.view_length.result))) from
    ∙ ap (λ n. natural begin + n) length)
    ∙ ap (λ n. fault_if (nat_lt n (natural begin + natural (view_length own i))) i (pos (natural begin + natural (view_length own i))) (pos n))
    (c.data_length.ensures.size ∙ ap (data_length own) buffer)
    ∙ sym (named-behind own i outside not_below)
