use Rattle.std.proofs.Common.{◌≡◌, ◌+◌, length, refl, arith}
use Rattle.std.proofs.lemmas.Grind.{merely}
use Rattle.data_types.specs.promise.Storage.{storage_of}
use Rattle.tree_model.specs.promise.TreeParts.{child_at}
use Rattle.raw_array.specs.promise.Members.{members_of}
use Rattle.data_types.specs.TypedView.{kind_of, kids_of}
use Rattle.layout_rules.specs.promise.Layout.{bytes, first}
use Rattle.layout_rules.specs.promise.Values.{tree_items}
use Rattle.arr_import.proofs.Reading.{one-child, are-items-there}
use Rattle.value_text.proofs.placed.items_are_there.Goals as goal

pub returns : goal.returns
returns c =
    let t = c.args.typed.now in
    let array = c.args.array.now in
    let own = members_of array in
    let one : length (kids_of t) ≡ 1 =
    one-child t c.kinds_of_typed.ensures (storage_of (kind_of t)) refl c.requires.list (merely c.requires.types) in
    record {
      one = one;
      live = omega (arith, one, c.lawful_root.ensures.children);
      few = c.lawful_parts.ensures.few 0 (omega (arith, one));
      items =
          are-items-there (kind_of t) (storage_of (kind_of t)) own (bytes own 1) (first own + c.args.i) (tree_items (child_at array 0)) refl refl
          (c.lawful_items_lie_within.ensures.children c.args.i 0 c.requires.inside (omega (arith, one)));
    }
