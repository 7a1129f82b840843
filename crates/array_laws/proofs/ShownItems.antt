-- The items of a tree are those of what it shows.
use Rattle.std.proofs.Common.{◌≡◌, ℕ, ◌+◌, List, [], ◌∷◌, Option, None, Some, refl, ap}
use Rattle.data_types.specs.declared.kind.DataType.{DataType}
use Rattle.tree_model.specs.promise.TreeData.{Released, Live, Trees, no_trees, more_trees, MaybeTree, absent, present, tree_list, option_tree}
use Rattle.tree_model.specs.Tree.{map_trees, map_maybe}
use Rattle.raw_array.specs.promise.Members.{ArrayMembers, ArrayTree}
use Rattle.data_types.specs.promise.KindTrees.{KindTree}
use Rattle.layout_rules.specs.promise.Layout.{first}
use Rattle.layout_rules.specs.promise.Values.{Reader, child_item, each, field_items, readers, reader_of, row_items, rows_of, tree_items, value_at, values_of}
use Rattle.array_laws.specs.Shown.{shown, shown_members}
use Rattle.array_laws.proofs.PlaceItems.{entries, same-read}
use Rattle.array_laws.proofs.ShownParts.{funext, shown-bytes}

abbrev Shows : Reader → Type 0
Shows read = (t : ArrayTree) (i : ℕ) → read (shown t) i ≡ read t i

abbrev AllShow : List Reader → Type 0
AllShow [] = Unit {0}
AllShow (read ∷ others) = Shows read × AllShow others

abbrev ShowsIf : Option Reader → Type 0
ShowsIf None = Unit {0}
ShowsIf (Some read) = Shows read

child-shown : (kids : List Reader) → AllShow kids → (ts : Trees ArrayMembers)
    → child_item kids (tree_list (map_trees shown_members ts)) ≡ child_item kids (tree_list ts)
child-shown [] all ts = refl
child-shown (read ∷ others) all no_trees = refl
child-shown (read ∷ others) all (more_trees t ts) = funext (all.0 t)

fields-at : (kids : List Reader) → AllShow kids → (ts : Trees ArrayMembers) (k : ℕ)
    → field_items kids (tree_list (map_trees shown_members ts)) k ≡ field_items kids (tree_list ts) k
fields-at [] all ts k = refl
fields-at (read ∷ others) all no_trees k = refl
fields-at (read ∷ others) all (more_trees t ts) k = λ i. all.0 t k i ∷ fields-at others all.1 ts k i

pub fields-shown : (kids : List Reader) → AllShow kids → (ts : Trees ArrayMembers)
    → field_items kids (tree_list (map_trees shown_members ts)) ≡ field_items kids (tree_list ts)
fields-shown kids all ts = funext (fields-at kids all ts)

entries-shown : (dict : Option Reader) → ShowsIf dict → (d : MaybeTree ArrayMembers)
    → entries dict (option_tree (map_maybe shown_members d)) ≡ entries dict (option_tree d)
entries-shown None shows d = refl
entries-shown (Some read) shows absent = refl
entries-shown (Some read) shows (present t) = funext (shows t)

live-shown : (kind : DataType) (kids : Trees DataType) (dict : MaybeTree DataType) → AllShow (readers kids) → ShowsIf (reader_of dict)
    → Shows (value_at (Live kind kids dict))
live-shown kind kids dict all shows Released i = refl
live-shown kind kids dict all shows (Live m ts d) i =
    same-read (reader_of dict) kind (readers kids) (shown_members m) m (tree_list (map_trees shown_members ts)) (tree_list ts)
    (option_tree (map_maybe shown_members d)) (option_tree d) i i
    (shown-bytes m).bytes refl (child-shown (readers kids) all ts) (fields-shown (readers kids) all ts) (entries-shown (reader_of dict) shows d)

mutual
  pub value-shown : (typed : KindTree) → Shows (value_at typed)
  value-shown Released = λ t i. refl
  value-shown (Live kind kids dict) = live-shown kind kids dict (all-show kids) (shows-if dict)

  pub all-show : (kids : Trees DataType) → AllShow (readers kids)
  all-show no_trees = tt
  all-show (more_trees kid kids) = (value-shown kid, all-show kids)

  shows-if : (dict : MaybeTree DataType) → ShowsIf (reader_of dict)
  shows-if absent = tt
  shows-if (present dict) = value-shown dict

pub items-shown : (t : ArrayTree) → tree_items (shown t) ≡ tree_items t
items-shown Released = refl
items-shown (Live m ts d) = refl

pub values-shown : (typed : KindTree) (t : ArrayTree) → values_of typed (shown t) ≡ values_of typed t
values-shown typed t = λ i. each (λ k. value-shown typed t k i) 0 (items-shown t i)

row-shown : (typed : KindTree) (t : ArrayTree) (k : ℕ) → row_items typed (shown t) k ≡ row_items typed t k
row-shown Released t k = refl
row-shown (Live kind kids dict) Released k = refl
row-shown (Live kind kids dict) (Live m ts d) k = ap (λ f. f (first m + k)) (fields-shown (readers kids) (all-show kids) ts)

pub rows-shown : (typed : KindTree) (t : ArrayTree) → rows_of typed (shown t) ≡ rows_of typed t
rows-shown typed t = λ i. each (λ k. row-shown typed t k i) 0 (items-shown t i)
