use Rattle.std.proofs.Common.{Some, List, ℕ, sym, subst}
use Rattle.layout_rules.specs.promise.Layout.{is_valid}
use Rattle.tree_model.specs.promise.TreeParts.{children_of}
use Rattle.raw_array.specs.promise.Members.{members_of}
use Rattle.data_types.specs.promise.KindTrees.{kind_in}
use Rattle.row_groups.specs.ItemKeys.{HasKey, array_of, item_of, stored_as, type_of}
use Rattle.row_groups.proofs.StoredKeys.{flat-storage, has-bytes, has-truth, item-plain, null-key}
use Rattle.row_groups.proofs.column.Column.key.Goals as goal

pub returns-in-Null : goal.returns-in-Null
returns-in-Null c = null-key (stored_as c.args.self.now) (item_of c.args.self.now c.args.i) c.in-Null.ensures

pub returns-in-Truth : goal.returns-in-Truth
returns-in-Truth c =
    let column = c.args.self.now in
    let i = c.args.i in
    let a = array_of column in
    let is = item-plain (type_of column) a c.requires.column.typed c.lawful_root.ensures.live i in
    subst (λ (t : List ℕ). HasKey (stored_as column) (item_of column i) (Some t)) (sym c.truth_key.ensures)
    (has-truth (stored_as column) (is_valid (members_of a) i) (members_of a) (children_of a) i (item_of column i) c.in-Truth.truth is c.in-Truth.ensures)

pub returns-in-Bytes : goal.returns-in-Bytes
returns-in-Bytes c =
    let column = c.args.self.now in
    let i = c.args.i in
    let a = array_of column in
    let is = item-plain (type_of column) a c.requires.column.typed c.lawful_root.ensures.live i in
    has-bytes (stored_as column) (is_valid (members_of a) i) (members_of a) (children_of a) i (item_of column i) c.in-Bytes.bytes.now
    (flat-storage (kind_in (type_of column)) c.requires.column.flat) is c.in-Bytes.ensures
