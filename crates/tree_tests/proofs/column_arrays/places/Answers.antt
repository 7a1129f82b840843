use Rattle.std.proofs.Common.{rules, ◌≤◌, refl, arith, inl, pos, false, [], ◌∷◌}
use Rattle.data_types.specs.promise.Value.{Whole}
use Rattle.data_types.specs.declared.kind.DataType.TheVariants as kinds
use Rattle.tree_tests.proofs.TestColumns.{fitting, items-of}
use Rattle.arr_export.specs.ArrayTrees.{IsPlaceOf}
use Rattle.layout_rules.specs.promise.Values.{tree_items}
use Rattle.std.proofs.lemmas.List.Elements.{All-from_recursion}
use Rattle.tree_model.specs.promise.TreeParts.{IsLive}
use Rattle.tree_tests.proofs.column_arrays.places.Goals as goal

pub exported-requires : goal.exported-requires
exported-requires g c =
    let dictionary = c.texts-dictionary.result in
    let live : IsLive dictionary = search rules in
    let enough : 4 ≤ tree_items dictionary = items-of dictionary 4 live (search rules) in (
      kinds.Int 8 false,
      Whole (pos 1) ∷ Whole (pos 0) ∷ Whole (pos 1) ∷ Whole (pos 3) ∷ [],
      record {
        is_encoded = record { length = refl; null_count = refl; buffers = rw c.two.ensures (tt, (c.block-data.ensures, tt)) };
        fits = fitting (kinds.Int 8 false) (Whole (pos 1) ∷ Whole (pos 0) ∷ Whole (pos 1) ∷ Whole (pos 3) ∷ []) (inl refl) tt (omega arith)
            (refl, (refl, (refl, (refl, tt)))) (omega arith);
        indices = record {
          kind_ok = tt;
          live = live;
          not_deep = search rules;
          places = All-from_recursion (IsPlaceOf (tree_items dictionary)) (Whole (pos 1) ∷ Whole (pos 0) ∷ Whole (pos 1) ∷ Whole (pos 3) ∷ [])
              (omega arith, (omega arith, (omega arith, (omega arith, tt))));
        };
      },
    )
