use Rattle.std.proofs.Common.{ℕ, ◌<◌, length, get_or}
use Rattle.tree_model.specs.promise.TreeData.{Released}
use Rattle.tree_model.specs.promise.TreeParts.{child_at}
use Rattle.data_types.specs.declared.typed.Typed.{out-Typed}
use Rattle.data_types.specs.TypedView.{kids_of}
use Rattle.layout_rules.proofs.Roots.{level_of, lawful-level}
use Rattle.layout_rules.proofs.ReadWithin.{child-lawful, dictionary-lawful, kid-typed, few-of}
use Rattle.layout_rules.proofs.laws.lawful_parts.Goals as goal

pub returns : goal.returns
returns c =
    let typed = c.args.typed.now in
    let array = c.args.array.now in
    let t = level_of typed in
    let ok = lawful-level typed array c.requires in
    record {
      children = child-lawful t array ok;
      few = λ (k : ℕ) (h : k < length (kids_of typed)). few-of (get_or (kids_of typed) k Released) (child_at array k)
          (kid-typed (out-Typed typed).kids.items k h) (child-lawful t array ok k h);
      dictionary = dictionary-lawful t array ok;
    }
