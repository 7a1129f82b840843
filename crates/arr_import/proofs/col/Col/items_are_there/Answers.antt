use Rattle.std.proofs.Common.{◌≡◌, ◌+◌, ◌<◌, length, arith}
use Rattle.tree_model.specs.promise.TreeParts.{child_at}
use Rattle.raw_array.specs.promise.Members.{members_of}
use Rattle.data_types.specs.TypedView.{kind_of, kids_of}
use Rattle.layout_rules.specs.promise.Layout.{first}
use Rattle.layout_rules.specs.promise.Values.{tree_items}
use Rattle.arr_import.proofs.Reading.{one-child, are-items-there}
use Rattle.arr_import.proofs.col.Col.items_are_there.Goals as goal

pub returns : goal.returns
returns c =
    let col = c.args.self.now in
    let own = members_of col.array.now in
    let inside : col.start + c.args.i < tree_items col.array.now = omega (arith, col.within, c.requires.inside) in
    let one : length (kids_of col.typed.now) ≡ 1 = one-child col.typed.now c.kinds_of_typed.ensures col.storage col.storage_ok c.requires.list col.valid in
    record {
      one = one;
      live = omega (arith, one, c.lawful_root.ensures.children);
      few = c.lawful_parts.ensures.few 0 (omega (arith, one));
      items =
          are-items-there (kind_of col.typed.now) col.storage own col.stored.now (first own + (col.start + c.args.i)) (tree_items (child_at col.array.now 0))
          col.storage_ok col.stored_is
          (c.lawful_items_lie_within.ensures.children (col.start + c.args.i) 0 inside (omega (arith, one)));
    }
