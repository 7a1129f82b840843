use Rattle.std.proofs.Common.{rules, ◌≡◌, ◌∙◌, ◌+◌, ◌*◌, true, ℕ, List, get_or, take, drop, ap, sym, subst, of_z, to_z}
use Rattle.std.specs.Prelude.{Vec, if◌then◌else◌}
use Rattle.std.specs.Int.{w128}
use Rattle.std.specs.Global.{Global}
use Rattle.data_types.specs.promise.Packed.{meant, number_at}
use Rattle.data_types.specs.promise.Value.Value.{Bytes}
use Rattle.raw_array.specs.promise.Members.{members_of}
use Rattle.layout_rules.specs.promise.Layout.{bytes, data_place, natural}
use Rattle.layout_rules.specs.promise.Views.{data_named, is_long, view_buffer, view_length, view_number, view_offset}
use Rattle.layout_rules.specs.Views.{data_in_view}
use Rattle.value_text.specs.Escapes.{CountsEscapes}
use Rattle.value_text.specs.Lengths.{text_length}
use Rattle.value_text.proofs.views.view_length.Goals as goal

pub returns-then-size-gt-MOST_IN_VIEW : goal.returns-then-size-gt-MOST_IN_VIEW
returns-then-size-gt-MOST_IN_VIEW c =
    let own = members_of c.args.array.now in
    let i = c.args.i in
    let counts = c.args.counts.now in
    let word : (w : ℕ) → meant 4 true (number_at c.buffer_bytes-views.result.now ((c.place_of-place.result * 4 + w) * 4) 4) ≡ meant 4 true (view_number own i w) =
    λ w.
    ap (λ b. meant 4 true (number_at b ((c.place_of-place.result * 4 + w) * 4) 4)) c.buffer_bytes-views.ensures
    ∙ ap (λ p. meant 4 true (number_at (bytes own 1) ((p * 4 + w) * 4) 4)) c.place_of-place.ensures.place in
    let size : c.view_word-size.result ≡ view_length own i = c.view_word-size.ensures ∙ word 0 in
    let back : to_z w128 (of_z w128 c.view_word-size.result) ≡ c.view_word-size.result = search rules in
    let back-2 : to_z w128 (of_z w128 c.view_word.result) ≡ c.view_word.result = search rules in
    let back-3 : to_z w128 (of_z w128 c.view_word-then-size-gt-MOST_IN_VIEW.result) ≡ c.view_word-then-size-gt-MOST_IN_VIEW.result = search rules in
    let k : c.number_of-buffer.result ≡ natural (view_buffer own i) = c.number_of-buffer.ensures ∙ ap natural (back-2 ∙ c.view_word.ensures ∙ word 2) in
    let from : c.number_of-from.result ≡ natural (view_offset own i) = c.number_of-from.ensures ∙ ap natural (back-3 ∙ c.view_word-then-size-gt-MOST_IN_VIEW.ensures ∙ word 3) in
    let count : c.number_of-count.result ≡ natural (view_length own i) = c.number_of-count.ensures ∙ ap natural (back ∙ size) in
    let long : is_long (view_length own i) ≡ true = ap is_long (sym size) ∙ (let big : is_long c.view_word-size.result ≡ true = search rules in big) in
    let named = c.view_is_there.ensures.within.named long in
    let all = bytes own (data_place (natural (view_buffer own i))) in
    let entry = c.index-counts-buffer.result in
    let same : c.deref.result.now ≡ (get_or counts (natural (view_buffer own i)) entry).items =
    c.deref.ensures.value ∙ ap (λ (v : Vec ℕ Global). v.items) (c.index-counts-buffer.is ∙ ap (λ n. get_or counts n entry) k) in
    let known : CountsEscapes c.deref.result.now all =
    subst (λ (xs : List ℕ). CountsEscapes xs all) (sym same) (c.requires.counts.each (natural (view_buffer own i)) entry named.buffer) in
    c.piece_length.ensures all known
    ∙ ap (λ n. text_length (Bytes (take n (drop c.number_of-from.result all)))) count
    ∙ ap (λ n. text_length (Bytes (take (natural (view_length own i)) (drop n all)))) from
    ∙ ap (λ b. text_length (Bytes (if b then data_named own i else data_in_view own i))) (sym long)
    ∙ ap text_length (sym c.view_is_there.ensures.value)
