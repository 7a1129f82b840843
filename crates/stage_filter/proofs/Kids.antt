-- The type of a child, as the code keeps it.
use Rattle.std.proofs.Common.{◌≡◌, ◌∙◌, ◌≤◌, ◌<◌, ℕ, zero, suc, List, [], ◌∷◌, length, get_or, sym, ap, subst, arith}
use Rattle.std.proofs.lemmas.List.{length-map}
use Rattle.data_types.specs.promise.Table.{Column}
use Rattle.tree_model.specs.promise.TreeData.{Live, Released, maybe_tree, trees}
use Rattle.tree_model.specs.promise.TreeParts.{children_of}
use Rattle.tree_model.specs.Tree.{Depth, depth_of_all}
use Rattle.tree_model.proofs.Lists.{tree_list-trees}
use Rattle.data_types.specs.declared.typed.Typed.{Typed, out-Typed}
use Rattle.data_types.specs.promise.ColumnKinds.{type_of_columns, type_of_kind}
use Rattle.data_types.specs.ColumnKinds.{type_of_column, types_of_columns}
use Rattle.data_types.specs.promise.KindTrees.{KindTree}
use Rattle.data_types.specs.KindTrees.{AllNodesOk, NodesOk, TypedOk}
use Rattle.data_types.specs.promise.TypedView.{typed_of}
use Rattle.data_types.specs.TypedView.{dict_in, kids_of, kind_of}
use Rattle.arr_import.proofs.Reading.{kid-tree}

-- one level of a type that the code keeps
abbrev pub IsLevel : Typed → Type 0
IsLevel t = typed_of t ≡ Live (kind_of t) (trees (kids_of t)) (maybe_tree (dict_in (out-Typed t).dict))

kids-are : (t : Typed) (columns : List Column) → IsLevel t → typed_of t ≡ type_of_columns columns → kids_of t ≡ types_of_columns columns
kids-are t columns level typed =
    sym (tree_list-trees (kids_of t)) ∙ ap (λ (k : KindTree). children_of k) (sym level ∙ typed) ∙ tree_list-trees (types_of_columns columns)

pub many-kids : (t : Typed) (columns : List Column) → IsLevel t → typed_of t ≡ type_of_columns columns
    → length (out-Typed t).kids.items ≡ length columns
many-kids t columns level typed =
    sym (length-map (out-Typed t).kids.items typed_of) ∙ ap (length {A = KindTree}) (kids-are t columns level typed) ∙ length-map columns type_of_column

each-ok : (types : List KindTree) (k : ℕ) → k < length types → AllNodesOk (trees types) → NodesOk (get_or types k Released)
each-ok [] k small ok = absurd (omega (arith, small))
each-ok (t ∷ types) zero small ok = ok.0
each-ok (t ∷ types) (suc k) small ok = each-ok types k (omega (arith, small)) ok.1

-- the child's type is that of the column, and in order
pub record IsKid (kid : Typed) (c : Column) : Type 0 where
  pub typed : typed_of kid ≡ type_of_kind c.kind
  pub ok : TypedOk (typed_of kid)

pub kid-of : (t kid : Typed) (columns : List Column) (k : ℕ) (c : Column) → IsLevel t → typed_of t ≡ type_of_columns columns → TypedOk (typed_of t)
    → k < length columns → kid ≡ get_or (out-Typed t).kids.items k kid
    → get_or (types_of_columns columns) k Released ≡ type_of_kind c.kind
    → Depth (type_of_kind c.kind) ≤ depth_of_all (trees (types_of_columns columns))
    → IsKid kid c
kid-of t kid columns k c level typed ok small is type shallow =
    let kids = (out-Typed t).kids.items in
    let many = many-kids t columns level typed in
    let own : get_or (types_of_columns columns) k Released ≡ typed_of kid =
    ap (λ (ts : List KindTree). get_or ts k Released) (sym (kids-are t columns level typed)) ∙ kid-tree kids k kid (omega (arith, many, small)) is in
    let same : typed_of kid ≡ type_of_kind c.kind = sym own ∙ type in
    let nodes = subst NodesOk typed ok.1 in
    let deep = ap Depth same in
    let all = ap Depth typed in
    record {
      typed = same;
      ok = (
        omega (arith, deep, all, shallow, ok.0),
        subst NodesOk own (each-ok (types_of_columns columns) k (omega (arith, length-map columns type_of_column, small)) nodes.3),
      );
    }
