use Rattle.std.proofs.Common.{◌∙◌, ◌+◌, ◌<◌, ℕ, length, ap, arith, subst}
use Rattle.tree_model.specs.promise.TreeParts.{child_at}
use Rattle.raw_array.specs.promise.Members.{members_of}
use Rattle.data_types.specs.TypedView.{kind_of, kids_of, dict_in}
use Rattle.data_types.specs.declared.typed.Typed.{out-Typed}
use Rattle.layout_rules.specs.promise.Layout.{first, laid_out}
use Rattle.layout_rules.specs.promise.Values.{row_items, tree_items}
use Rattle.layout_rules.specs.Within.{ItemsWithin}
use Rattle.arr_import.proofs.Reading.{row-field}
use Rattle.arr_import.proofs.WholeRows.{row-long}
use Rattle.value_text.proofs.placed.fields_are_there.Goals as goal

pub returns : goal.returns
returns c =
    let t = c.args.typed.now in
    let array = c.args.array.now in
    let live = c.lawful_root.ensures.live in
    let children = c.lawful_root.ensures.children in
    record {
      many = λ (i : ℕ).
          ap (λ k. length (row_items k array i)) c.kinds_of_typed.ensures
          ∙ row-long (kind_of t) (kids_of t) (dict_in (out-Typed t).dict) array i live children;
      within = λ (i k : ℕ) (item : i < tree_items array) (inside : k < length (kids_of t)).
          subst (λ s. ItemsWithin (laid_out s) (members_of array) (first (members_of array) + i) (tree_items (child_at array k))) c.requires.storage
          (c.lawful_items_lie_within.ensures.children i k item inside);
      fields = λ (i k : ℕ) (inside : k < length (kids_of t)).
          row-field t c.kinds_of_typed.ensures array i k live inside (omega (arith, inside, children));
    }
