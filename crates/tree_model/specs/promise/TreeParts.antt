-- The parts of a tree; those of a released one are empty.
use Rattle.std.specs.Prelude.{ℕ, List, [], Option, None}
use Rattle.std.proofs.Common.{get_or}
use Rattle.tree_model.specs.promise.TreeData.{Tree, Released, Live, tree_list, option_tree}

abbrev pub IsLive : {M : Type 0} → Tree M → Type 0
IsLive Released = ⊥
IsLive (Live members children dictionary) = Unit {0}

-- the members of a live tree, or `none` of a released one
abbrev pub members_or : {M : Type 0} → M → Tree M → M
members_or none Released = none
members_or none (Live members children dictionary) = members

abbrev pub children_of : {M : Type 0} → Tree M → List (Tree M)
children_of Released = []
children_of (Live members children dictionary) = tree_list children

abbrev pub dictionary_of : {M : Type 0} → Tree M → Option (Tree M)
dictionary_of Released = None
dictionary_of (Live members children dictionary) = option_tree dictionary

abbrev pub child_at : {M : Type 0} → Tree M → ℕ → Tree M
child_at t i = get_or (children_of t) i Released
