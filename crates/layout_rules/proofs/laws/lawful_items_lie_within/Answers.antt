use Rattle.std.proofs.Common.{ℕ, ◌<◌, ◌≡◌, length, Some, get_or}
use Rattle.tree_model.specs.promise.TreeData.{Released}
use Rattle.tree_model.specs.promise.TreeParts.{child_at, dictionary_of}
use Rattle.raw_array.specs.promise.Members.{ArrayTree}
use Rattle.data_types.specs.promise.KindTrees.{KindTree}
use Rattle.data_types.specs.declared.typed.Typed.{out-Typed}
use Rattle.data_types.specs.TypedView.{kids_of, dict_in}
use Rattle.layout_rules.specs.promise.Values.{tree_items}
use Rattle.layout_rules.proofs.Roots.{level_of, lawful-level}
use Rattle.layout_rules.proofs.ReadWithin.{item-stored, child-needed, item-children, item-view, item-index, child-lawful, dictionary-lawful, kid-typed}
use Rattle.layout_rules.proofs.ReadWithin.{dict-typed, live-of}
use Rattle.layout_rules.proofs.laws.lawful_items_lie_within.Goals as goal

pub returns : goal.returns
returns c =
    let typed = c.args.typed.now in
    let array = c.args.array.now in
    let t = level_of typed in
    let ok = lawful-level typed array c.requires in
    let live =
    λ (k : ℕ) (h : k < length (kids_of typed)). live-of (get_or (kids_of typed) k Released) (child_at array k) (kid-typed (out-Typed typed).kids.items k h)
    (child-lawful t array ok k h) in
    record {
      stored = item-stored t array ok;
      needed = λ (k : ℕ) (h : k < length (kids_of typed)). child-needed t array ok k h (live k h);
      children = λ (i k : ℕ) (l : i < tree_items array) (h : k < length (kids_of typed)). item-children t array ok i k l h (live k h);
      views = item-view t array ok;
      index = λ (i : ℕ) (dict : KindTree) (dictionary : ArrayTree) (h : i < tree_items array) (d : dict_in (out-Typed typed).dict ≡ Some dict)
          (a : dictionary_of array ≡ Some dictionary).
          item-index t array ok i dictionary h a
          (live-of dict dictionary (dict-typed (out-Typed typed).dict dict d) (dictionary-lawful t array ok dict dictionary d a));
    }
