use Rattle.std.proofs.Common.{ap, subst, sym, ◌∙◌, ◌<◌, take, drop, nat_abs, of_z, to_z, w64}
use Rattle.std.specs.Prelude.{IsUtf8}
use Rattle.raw_array.specs.promise.Members.{members_of}
use Rattle.layout_rules.specs.promise.Layout.{natural, data_buffers}
use Rattle.layout_rules.specs.promise.Views.{view_length, view_buffer, view_offset}
use Rattle.layout_check.specs.Scans.{sized_data}
use Rattle.layout_check.proofs.Casts.{cast_is, cast_below, cast_fits}
use Rattle.layout_check.proofs.LongViews.{view-long, view-named, part-within}
use Rattle.layout_check.proofs.TextRuns.{marks-in}
use Rattle.layout_check.proofs.ViewsScanned.{passes-null, passes-part, passes-text}
use Rattle.layout_check.proofs.view_texts.passes.Goals as goal

pub returns-then-not-is_valid : goal.returns-then-not-is_valid
returns-then-not-is_valid c = λ h. passes-null (members_of c.args.node.now.array.now) c.args.i (sym c.is_valid.ensures ∙ c.if-not-is_valid.true)

pub view_data-requires-clause-within : goal.view_data-requires-clause-within
view_data-requires-clause-within c = c.requires.within (sym c.is_valid.ensures ∙ c.if-not-is_valid.false)

pub returns-then-size-le-MOST_IN_VIEW : goal.returns-then-size-le-MOST_IN_VIEW
returns-then-size-le-MOST_IN_VIEW c =
    λ h. passes-text (members_of c.args.node.now.array.now) c.args.i (subst IsUtf8 c.view_data.ensures.bytes (c.is_text.ensures.0 h))

pub overflow_cast-from : goal.overflow_cast-from
overflow_cast-from c =
    let own = members_of c.args.node.now.array.now in
    let named = view-named own c.args.i c.is_valid.result c.view_length-size.result c.view_length-size.type_inv c.is_valid.ensures c.if-not-is_valid.false
    c.view_length-size.ensures c.if-size-le-MOST_IN_VIEW.false c.requires.within in
    cast_fits c.view_offset-from.result (view_offset own c.args.i) c.view_offset-from.type_inv c.view_offset-from.ensures named.from

pub overflow_cast-k : goal.overflow_cast-k
overflow_cast-k c =
    let own = members_of c.args.node.now.array.now in
    let named = view-named own c.args.i c.is_valid.result c.view_length-size.result c.view_length-size.type_inv c.is_valid.ensures c.if-not-is_valid.false
    c.view_length-size.ensures c.if-size-le-MOST_IN_VIEW.false c.requires.within in
    cast_fits c.view_buffer-k.result (view_buffer own c.args.i) c.view_buffer-k.type_inv c.view_buffer-k.ensures named.buffer_from

pub sized_data-requires-clause-inside : goal.sized_data-requires-clause-inside
sized_data-requires-clause-inside c =
    let own = members_of c.args.node.now.array.now in
    let named = view-named own c.args.i c.is_valid.result c.view_length-size.result c.view_length-size.type_inv c.is_valid.ensures c.if-not-is_valid.false
    c.view_length-size.ensures c.if-size-le-MOST_IN_VIEW.false c.requires.within in
    subst (λ k. k < data_buffers own)
    (sym (cast_is c.view_buffer-k.result (view_buffer own c.args.i) c.view_buffer-k.type_inv c.view_buffer-k.ensures named.buffer_from)) named.buffer

pub sized_data-requires-clause-few : goal.sized_data-requires-clause-few
sized_data-requires-clause-few c =
    let own = members_of c.args.node.now.array.now in
    let named = view-named own c.args.i c.is_valid.result c.view_length-size.result c.view_length-size.type_inv c.is_valid.ensures c.if-not-is_valid.false
    c.view_length-size.ensures c.if-size-le-MOST_IN_VIEW.false c.requires.within in
    cast_below c.view_buffer-k.result (view_buffer own c.args.i) c.view_buffer-k.type_inv c.view_buffer-k.ensures named.buffer_from

pub overflow_cast-size : goal.overflow_cast-size
overflow_cast-size c =
    let own = members_of c.args.node.now.array.now in
    let within = c.requires.within (sym c.is_valid.ensures ∙ c.if-not-is_valid.false) in
    cast_fits c.view_length-size.result (view_length own c.args.i) c.view_length-size.type_inv c.view_length-size.ensures within.size

pub part_is_text-requires-clause-within : goal.part_is_text-requires-clause-within
part_is_text-requires-clause-within c =
    let own = members_of c.args.node.now.array.now in
    let i = c.args.i in
    let within = c.requires.within (sym c.is_valid.ensures ∙ c.if-not-is_valid.false) in
    let named = view-named own i c.is_valid.result c.view_length-size.result c.view_length-size.type_inv c.is_valid.ensures c.if-not-is_valid.false
    c.view_length-size.ensures c.if-size-le-MOST_IN_VIEW.false c.requires.within in
    part-within own _ i c.sized_data.result.now _ _
    (sym (cast_is c.view_buffer-k.result (view_buffer own i) c.view_buffer-k.type_inv c.view_buffer-k.ensures named.buffer_from)) named
    c.sized_data.ensures
    (cast_is c.view_offset-from.result (view_offset own i) c.view_offset-from.type_inv c.view_offset-from.ensures named.from)
    (cast_is c.view_length-size.result (view_length own i) c.view_length-size.type_inv c.view_length-size.ensures within.size)

pub part_is_text-requires-clause-marks : goal.part_is_text-requires-clause-marks
part_is_text-requires-clause-marks c =
    marks-in (members_of c.args.node.now.array.now) c.args.marks.now c.sized_data.result.now _ c.sized_data.ensures c.requires.marks

pub returns : goal.returns
returns c = λ h.
    let own = members_of c.args.node.now.array.now in
    let i = c.args.i in
    let data_of_k = c.sized_data.result.now in
    let valid = sym c.is_valid.ensures ∙ c.if-not-is_valid.false in
    let within = c.requires.within valid in
    let long = view-long own i c.is_valid.result c.view_length-size.result c.view_length-size.type_inv c.is_valid.ensures c.if-not-is_valid.false
    c.view_length-size.ensures c.if-size-le-MOST_IN_VIEW.false c.requires.within in
    let named = within.named long in
    let from = cast_is c.view_offset-from.result (view_offset own i) c.view_offset-from.type_inv c.view_offset-from.ensures named.from in
    let size = cast_is c.view_length-size.result (view_length own i) c.view_length-size.type_inv c.view_length-size.ensures within.size in
    let sized = c.sized_data.ensures
    ∙ ap (sized_data own) (cast_is c.view_buffer-k.result (view_buffer own i) c.view_buffer-k.type_inv c.view_buffer-k.ensures named.buffer_from) in
    let text = subst (λ n. IsUtf8 (take n (drop (natural (view_offset own i)) data_of_k))) size
    (subst (λ n. IsUtf8 (take (nat_abs (to_z w64 (of_z w64 c.view_length-size.result))) (drop n data_of_k))) from (c.part_is_text.ensures h)) in
    passes-part own i long named (subst (λ d. IsUtf8 (take (natural (view_length own i)) (drop (natural (view_offset own i)) d))) sized text)
