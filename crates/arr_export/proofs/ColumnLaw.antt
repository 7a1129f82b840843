-- A column's tree meets the layout rules, and its items are the values that it was made of.
use Rattle.std.proofs.Common.{◌≡◌, ◌∙◌, ℕ, ◌+◌, ◌<◌, pos, Bool, true, false, not, List, [], length, get_or, refl, sym, ap, arith, Option, None, Some}
use Rattle.std.specs.Prelude.{if◌then◌else◌}
use Rattle.std.proofs.lemmas.List.Elements.{All-cons, All-nil}
use Rattle.raw_array.specs.promise.Members.{ArrayMembers, ArrayTree, Buffer}
use Rattle.raw_array.specs.declared.array.ReleaseKind.TheVariants.{Exported}
use Rattle.tree_model.specs.promise.TreeData.{Live, absent, no_trees}
use Rattle.data_types.specs.promise.Value.{Value, Null, Truth}
use Rattle.data_types.specs.declared.kind.DataType.{DataType}
use Rattle.data_types.specs.promise.Value.{is_null}
use Rattle.col_build.specs.promise.Encoding.{null_total}
use Rattle.col_build.specs.Encoding.{Fits}
use Rattle.data_types.specs.promise.KindTrees.{KindTree}
use Rattle.layout_rules.specs.promise.Rules.{count_wrong, indices_wrong, length_if, one_if}
use Rattle.layout_rules.specs.promise.Values.{value_at, values_of}
use Rattle.layout_rules.specs.Values.{item}
use Rattle.data_types.specs.promise.Ways.{Steps}
use Rattle.layout_rules.specs.promise.Walk.{LayoutOk, node_fault, visit_fault}
use Rattle.arr_export.specs.promise.ArrayTrees.{column_members, column_tree}
use Rattle.arr_export.specs.ArrayTrees.{flat_type}
use Rattle.arr_export.proofs.ColumnReads.{Reads, reads}
use Rattle.arr_export.proofs.Each.{each-is}
use Rattle.arr_export.proofs.NodeRules.{node-ok}
use Rattle.arr_export.proofs.Nulls.{own, valid-at}

-- the members of a column's node are made of its values
pub members-are : (kind : DataType) (values : List Value) (r : Reads kind values) → column_members kind values ≡ own values r.rest
members-are kind values r = ap (λ (buffers : List (Option Buffer)). record {
  length = pos (length values);
  null_count = pos (null_total values);
  offset = pos 0;
  buffers = buffers;
  kind = Exported;
}) r.is

null-is : (value : Value) → is_null value ≡ true → value ≡ Null
null-is Null e = refl
null-is (Truth truth) e = cc
null-is value e = cc

valid-or-null : (value read : Value) → (is_null value ≡ false → read ≡ value) → (if not (is_null value) then read else Null) ≡ value
valid-or-null Null read same = refl
valid-or-null (Truth truth) read same = same refl
valid-or-null value read same = same refl

module _ (kind : DataType) (values : List Value) (fits : Fits kind values) where
  r : Reads kind values
  r = reads kind values fits

  -- the rules hold at its node, where they hold of its dictionary
  pub column-node : (dict : Option KindTree) (dictionary : Option ArrayTree) → count_wrong (one_if dictionary) (one_if dict) ≡ None
      → indices_wrong kind (column_members kind values) (length_if dictionary) ≡ None
      → (path : Steps) → node_fault path
      (Some (record { kind = kind; kids = []; dict = dict; own = column_members kind values; children = []; dictionary = dictionary })) ≡ None
  column-node dict dictionary same indices path =
      let is = members-are kind values r in
      ap (λ (m : ArrayMembers). node_fault path (Some (record { kind = kind; kids = []; dict = dict; own = m; children = []; dictionary = dictionary }))) is
      ∙ node-ok kind dict values r.rest dictionary fits.few r.ok r.texts same
      (ap (λ (m : ArrayMembers). indices_wrong kind m (length_if dictionary)) (sym is) ∙ indices) path

  pub column-lawful : LayoutOk (flat_type kind None) (column_tree kind values None)
  column-lawful =
      All-cons (λ visit. visit_fault visit ≡ None) (record {
        path = [];
        node = Some (record { kind = kind; kids = []; dict = None; own = column_members kind values; children = []; dictionary = None });
      }) []
      (column-node None None refl refl []) (All-nil (λ visit. visit_fault visit ≡ None))

  item-is : (i : ℕ) → i < length values → value_at (flat_type kind None) (Live (own values r.rest) no_trees absent) i ≡ get_or values i Null
  item-is i lt =
      ap (λ (valid : Bool). if valid then item kind [] (own values r.rest) [] i else Null) (valid-at values r.rest i lt)
      ∙ valid-or-null (get_or values i Null) (item kind [] (own values r.rest) [] i) (r.item_is i lt)

  pub column-values : values_of (flat_type kind None) (column_tree kind values None) ≡ values
  column-values =
      ap (λ (m : ArrayMembers). values_of (flat_type kind None) (Live m no_trees absent)) (members-are kind values r)
      ∙ each-is (value_at (flat_type kind None) (Live (own values r.rest) no_trees absent)) values 0 Null (λ i lt.
      let place : 0 + i ≡ i = omega arith in
      ap (value_at (flat_type kind None) (Live (own values r.rest) no_trees absent)) place ∙ item-is i lt)
