use Rattle.std.proofs.Common.{ap, subst, sym, ◌∙◌, ◌+◌, ◌<◌, nat_abs, of_z, to_z, true≢false, w64}
use Rattle.std.specs.Prelude.{IsUtf8}
use Rattle.std.specs.Str.{IsCharBoundary}
use Rattle.raw_array.specs.promise.Members.{members_of}
use Rattle.layout_rules.specs.promise.Layout.{natural, data_buffers}
use Rattle.layout_rules.specs.promise.Views.{view_length, view_buffer, view_offset}
use Rattle.layout_check.specs.Scans.{sized_data}
use Rattle.layout_check.proofs.Casts.{cast_is, cast_below, cast_fits, sum_fits}
use Rattle.layout_check.proofs.LongViews.{view-long, view-named}
use Rattle.layout_check.proofs.ViewsScanned.{passes-cut, passes-null, passes-text}
use Rattle.layout_check.proofs.view_texts.is_cut_well.Goals as goal

pub returns-then-not-is_valid : goal.returns-then-not-is_valid
returns-then-not-is_valid c = λ h. passes-null (members_of c.args.node.now.array.now) c.args.i (sym c.is_valid.ensures ∙ c.if-not-is_valid.true)

pub view_data-requires-clause-within : goal.view_data-requires-clause-within
view_data-requires-clause-within c = c.requires.within (sym c.is_valid.ensures ∙ c.if-not-is_valid.false)

pub returns-then-size-le-MOST_IN_VIEW : goal.returns-then-size-le-MOST_IN_VIEW
returns-then-size-le-MOST_IN_VIEW c =
    λ h. passes-text (members_of c.args.node.now.array.now) c.args.i (subst IsUtf8 c.view_data.ensures.bytes (c.is_text.ensures.0 h))

pub overflow_cast-from : goal.overflow_cast-from
overflow_cast-from c =
    let own = members_of c.args.node.now.array.now in
    let named = view-named own c.args.i c.is_valid.result c.view_length-size.result c.view_length-size.type_inv c.is_valid.ensures c.if-not-is_valid.false
    c.view_length-size.ensures c.if-size-le-MOST_IN_VIEW.false c.requires.within in
    cast_fits c.view_offset-from.result (view_offset own c.args.i) c.view_offset-from.type_inv c.view_offset-from.ensures named.from

pub overflow_cast-view_buffer : goal.overflow_cast-view_buffer
overflow_cast-view_buffer c =
    let own = members_of c.args.node.now.array.now in
    let named = view-named own c.args.i c.is_valid.result c.view_length-size.result c.view_length-size.type_inv c.is_valid.ensures c.if-not-is_valid.false
    c.view_length-size.ensures c.if-size-le-MOST_IN_VIEW.false c.requires.within in
    cast_fits c.view_buffer.result (view_buffer own c.args.i) c.view_buffer.type_inv c.view_buffer.ensures named.buffer_from

pub sized_data-text-requires-clause-inside : goal.sized_data-text-requires-clause-inside
sized_data-text-requires-clause-inside c =
    let own = members_of c.args.node.now.array.now in
    let named = view-named own c.args.i c.is_valid.result c.view_length-size.result c.view_length-size.type_inv c.is_valid.ensures c.if-not-is_valid.false
    c.view_length-size.ensures c.if-size-le-MOST_IN_VIEW.false c.requires.within in
    subst (λ k. k < data_buffers own)
    (sym (cast_is c.view_buffer.result (view_buffer own c.args.i) c.view_buffer.type_inv c.view_buffer.ensures named.buffer_from)) named.buffer

pub sized_data-text-requires-clause-few : goal.sized_data-text-requires-clause-few
sized_data-text-requires-clause-few c =
    let own = members_of c.args.node.now.array.now in
    let named = view-named own c.args.i c.is_valid.result c.view_length-size.result c.view_length-size.type_inv c.is_valid.ensures c.if-not-is_valid.false
    c.view_length-size.ensures c.if-size-le-MOST_IN_VIEW.false c.requires.within in
    cast_below c.view_buffer.result (view_buffer own c.args.i) c.view_buffer.type_inv c.view_buffer.ensures named.buffer_from

pub overflow_cast-size : goal.overflow_cast-size
overflow_cast-size c =
    let own = members_of c.args.node.now.array.now in
    let within = c.requires.within (sym c.is_valid.ensures ∙ c.if-not-is_valid.false) in
    cast_fits c.view_length-size.result (view_length own c.args.i) c.view_length-size.type_inv c.view_length-size.ensures within.size

pub overflow_add-from : goal.overflow_add-from
overflow_add-from c =
    let own = members_of c.args.node.now.array.now in
    let within = c.requires.within (sym c.is_valid.ensures ∙ c.if-not-is_valid.false) in
    let named = view-named own c.args.i c.is_valid.result c.view_length-size.result c.view_length-size.type_inv c.is_valid.ensures c.if-not-is_valid.false
    c.view_length-size.ensures c.if-size-le-MOST_IN_VIEW.false c.requires.within in
    sum_fits _ _ (cast_below c.view_offset-from.result (view_offset own c.args.i) c.view_offset-from.type_inv c.view_offset-from.ensures named.from)
    (cast_below c.view_length-size.result (view_length own c.args.i) c.view_length-size.type_inv c.view_length-size.ensures within.size)

pub returns-then-is_border : goal.returns-then-is_border
returns-then-is_border c = λ h.
    let own = members_of c.args.node.now.array.now in
    let i = c.args.i in
    let text = c.sized_data-text.result.now in
    let valid = sym c.is_valid.ensures ∙ c.if-not-is_valid.false in
    let long = view-long own i c.is_valid.result c.view_length-size.result c.view_length-size.type_inv c.is_valid.ensures c.if-not-is_valid.false
    c.view_length-size.ensures c.if-size-le-MOST_IN_VIEW.false c.requires.within in
    let named = (c.requires.within valid).named long in
    let begin = cast_is c.view_offset-from.result (view_offset own i) c.view_offset-from.type_inv c.view_offset-from.ensures named.from in
    let size = cast_is c.view_length-size.result (view_length own i) c.view_length-size.type_inv c.view_length-size.ensures (c.requires.within valid).size in
    let sized = c.sized_data-text.ensures
    ∙ ap (sized_data own) (cast_is c.view_buffer.result (view_buffer own i) c.view_buffer.type_inv c.view_buffer.ensures named.buffer_from) in
    passes-cut own i c.requires.texts long named
    (subst (λ d. IsCharBoundary d (natural (view_offset own i))) sized
    (subst (IsCharBoundary text) begin (c.is_border.ensures c.if-is_border.true)))
    (subst (λ d. IsCharBoundary d (natural (view_offset own i) + natural (view_length own i))) sized
    (subst (IsCharBoundary text) (ap (λ n. n + nat_abs (to_z w64 (of_z w64 c.view_length-size.result))) begin
    ∙ ap (λ n. natural (view_offset own i) + n) size) (c.is_border-then-is_border.ensures h)))

pub returns-else-is_border : goal.returns-else-is_border
returns-else-is_border c = λ h. absurd (true≢false (sym h ∙ c.if-is_border.false))
