use Rattle.layout_rules.proofs.Roots.{level_of, lawful-level, root-live, root-length, root-offset, root-count, root-end, root-validity, root-children}
use Rattle.layout_rules.proofs.Roots.{root-dictionary, tree_items-items}
use Rattle.layout_rules.proofs.laws.lawful_root.Goals as goal

pub returns : goal.returns
returns c =
    let array = c.args.array.now in
    let t = level_of c.args.typed.now in
    let ok = lawful-level c.args.typed.now array c.requires in
    record {
      live = root-live t array ok;
      length = root-length t array ok;
      offset = root-offset t array ok;
      items = tree_items-items array;
      end = root-end t array ok;
      count = root-count t array ok;
      long = root-validity t array ok (root-count t array ok);
      children = root-children t array ok;
      dictionary = root-dictionary t array ok;
    }
