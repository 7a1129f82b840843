-- The tree with another part, as the acts of the C data interface leave it ("Moving child arrays", "Release callback semantics"): a child
-- that is taken out leaves a released one in its place.
use Rattle.std.specs.Prelude.{ℕ}
use Rattle.std.proofs.Common.{set}
use Rattle.tree_model.specs.promise.TreeData.{Tree, Released, Live, Trees, no_trees, more_trees, MaybeTree, absent, present, trees, tree_list}

abbrev pub with_members : {M : Type 0} → (M → M) → Tree M → Tree M
with_members change Released = Released
with_members change (Live members children dictionary) = Live (change members) children dictionary

abbrev pub with_child : {M : Type 0} → Tree M → ℕ → Tree M → Tree M
with_child Released i c = Released
with_child (Live members children dictionary) i c = Live members (trees (set (tree_list children) i c)) dictionary

-- the tree after its dictionary, if any, was taken out
abbrev pub emptied : {M : Type 0} → MaybeTree M → MaybeTree M
emptied absent = absent
emptied (present t) = present Released

abbrev pub without_dictionary : {M : Type 0} → Tree M → Tree M
without_dictionary Released = Released
without_dictionary (Live members children dictionary) = Live members children (emptied dictionary)

-- the tree with each live node's members changed
abbrev mutual
  pub map_tree : {M : Type 0} → (M → M) → Tree M → Tree M
  map_tree change Released = Released
  map_tree change (Live members children dictionary) = Live (change members) (map_trees change children) (map_maybe change dictionary)

  pub map_trees : {M : Type 0} → (M → M) → Trees M → Trees M
  map_trees change no_trees = no_trees
  map_trees change (more_trees t ts) = more_trees (map_tree change t) (map_trees change ts)

  pub map_maybe : {M : Type 0} → (M → M) → MaybeTree M → MaybeTree M
  map_maybe change absent = absent
  map_maybe change (present t) = present (map_tree change t)

-- two trees of one form, whose live nodes' members are related
abbrev mutual
  pub Alike : {M : Type 0} → (M → M → Type 0) → Tree M → Tree M → Type 0
  Alike R Released Released = Unit {0}
  Alike R Released (Live m ts d) = ⊥
  Alike R (Live m ts d) Released = ⊥
  Alike R (Live m ts d) (Live m' ts' d') = R m m' × (AllAlike R ts ts' × MaybeAlike R d d')

  pub AllAlike : {M : Type 0} → (M → M → Type 0) → Trees M → Trees M → Type 0
  AllAlike R no_trees no_trees = Unit {0}
  AllAlike R no_trees (more_trees t ts) = ⊥
  AllAlike R (more_trees t ts) no_trees = ⊥
  AllAlike R (more_trees t ts) (more_trees t' ts') = Alike R t t' × AllAlike R ts ts'

  pub MaybeAlike : {M : Type 0} → (M → M → Type 0) → MaybeTree M → MaybeTree M → Type 0
  MaybeAlike R absent absent = Unit {0}
  MaybeAlike R absent (present t) = ⊥
  MaybeAlike R (present t) absent = ⊥
  MaybeAlike R (present t) (present t') = Alike R t t'
