-- A tree of structures ("The Arrow C Data Interface", "Structure definitions"), over the members of a node's own: released, or live with
-- its members, its children in order and perhaps a dictionary.
use Rattle.std.specs.Prelude.{List, [], ◌∷◌, Option, None, Some}

mutual
  pub data Tree (M : Type 0) : Type 0 where
    Released : Tree M
    Live : M → Trees M → MaybeTree M → Tree M

  -- a list of trees: antt has no data type that holds itself in a `List`
  pub data Trees (M : Type 0) : Type 0 where
    no_trees : Trees M
    more_trees : Tree M → Trees M → Trees M

  pub data MaybeTree (M : Type 0) : Type 0 where
    absent : MaybeTree M
    present : Tree M → MaybeTree M

abbrev pub trees : {M : Type 0} → List (Tree M) → Trees M
trees [] = no_trees
trees (t ∷ ts) = more_trees t (trees ts)

abbrev pub tree_list : {M : Type 0} → Trees M → List (Tree M)
tree_list no_trees = []
tree_list (more_trees t ts) = t ∷ tree_list ts

abbrev pub maybe_tree : {M : Type 0} → Option (Tree M) → MaybeTree M
maybe_tree None = absent
maybe_tree (Some t) = present t

abbrev pub option_tree : {M : Type 0} → MaybeTree M → Option (Tree M)
option_tree absent = None
option_tree (present t) = Some t
