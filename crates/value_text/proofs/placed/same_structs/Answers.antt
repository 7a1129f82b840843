use Rattle.std.proofs.Common.{◌≡◌, ◌∙◌, ◌+◌, ◌<◌, ℕ, List, length, get_or, ap, sym, subst, arith}
use Rattle.data_types.specs.promise.Value.{Value, values}
use Rattle.data_types.specs.promise.Value.Value.{Fields}
use Rattle.tree_model.specs.promise.TreeData.{Released}
use Rattle.tree_model.specs.promise.TreeParts.{child_at}
use Rattle.raw_array.specs.promise.Members.{members_of}
use Rattle.data_types.specs.declared.storage.Storage.{Storage}
use Rattle.data_types.specs.promise.TypedView.{typed_of}
use Rattle.data_types.specs.TypedView.{kids_of}
use Rattle.layout_rules.specs.promise.Layout.{first}
use Rattle.layout_rules.specs.promise.Values.{row_items, tree_items, value_at}
use Rattle.value_text.specs.Lengths.{AreFieldLengths, IsNestedAt, text_length}
use Rattle.value_text.specs.declared.lengths.Lengths.{Lengths}
use Rattle.value_text.proofs.LengthSums.{length-there, some-by}
use Rattle.value_text.proofs.placed.same_structs.Goals as goal

pub returns : goal.returns
returns c =
    let t = c.args.typed.now in
    let array = c.args.array.now in
    let kids = c.args.kids.now in
    some-by c.same_row.result c.same_row.ensures (
    λ (count : ℕ) (told : (row : List Value) (place : ℕ) → AreFieldLengths kids place row → count ≡ text_length (Fields (values row)))
    (i : ℕ) (inside : i < tree_items array).
    let row = row_items (typed_of t) array i in
    let is : value_at (typed_of t) array i ≡ Fields (values row) =
    subst (λ (s : Storage). IsNestedAt s t array i (value_at (typed_of t) array i)) c.requires.storage (c.parts_are_whole.ensures i) in
    told row (first (members_of array) + i) (record {
      many = c.fields_are_there.ensures.many i ∙ sym c.requires.kids.many;
      each = λ (k : ℕ) (d : Lengths) (within : k < length kids).
          let there : k < length (kids_of t) = omega (arith, within, c.requires.kids.many) in
          length-there (get_or kids k d) (value_at (get_or (kids_of t) k Released) (child_at array k)) (tree_items (child_at array k))
          (first (members_of array) + i) (c.requires.kids.each k d there) (c.fields_are_there.ensures.within i k inside there)
          ∙ ap text_length (sym (c.fields_are_there.ensures.fields i k there));
    }) ∙ ap text_length (sym is)
    )
