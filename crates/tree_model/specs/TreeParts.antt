-- Parts that a tree may lack, as trees that are released.
use Rattle.tree_model.specs.promise.TreeData.{Tree, Released, Live, MaybeTree, absent, present}

abbrev pub tree_or_released : {M : Type 0} → MaybeTree M → Tree M
tree_or_released absent = Released
tree_or_released (present t) = t

-- the dictionary, or a released tree where there is none
abbrev pub dictionary_at : {M : Type 0} → Tree M → Tree M
dictionary_at Released = Released
dictionary_at (Live members children dictionary) = tree_or_released dictionary
