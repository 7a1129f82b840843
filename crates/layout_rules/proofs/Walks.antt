-- The first fault of a walk: that of the node, of its children, of its dictionary.
use Rattle.std.proofs.Common.{◌≡◌, ℕ, suc, List, [], ◌∷◌, ◌++◌, Option, None, Some, refl, ap, ◌∙◌, sym}
use Rattle.std.specs.Option.{option_or}
use Rattle.data_types.specs.declared.kind.DataType.{DataType}
use Rattle.tree_model.specs.promise.TreeData.{Live, Released, trees, maybe_tree}
use Rattle.tree_model.specs.promise.TreeParts.{IsLive, children_of, dictionary_of}
use Rattle.raw_array.specs.promise.Members.{ArrayTree}
use Rattle.data_types.specs.promise.KindTrees.{KindTree}
use Rattle.data_types.specs.promise.Ways.{Steps}
use Rattle.layout_rules.specs.promise.Walk.{visits, walks_of, walk_of, walk_children, walk_dictionary, first_some}
use Rattle.layout_rules.specs.promise.Walk.{visit_fault}
use Rattle.layout_rules.specs.Walk.{fault_from, own_fault, children_fault, dictionary_fault}

option_or-assoc : {X : Type 0} → (a b c : Option X) → option_or (option_or a b) c ≡ option_or a (option_or b c)
option_or-assoc None b c = refl
option_or-assoc (Some x) b c = refl

pub first_some-append : {X Y : Type 0} → (f : X → Option Y) (xs ys : List X) → first_some f (xs ++ ys) ≡ option_or (first_some f xs) (first_some f ys)
first_some-append f [] ys = refl
first_some-append f (x ∷ xs) ys = ap (option_or (f x)) (first_some-append f xs ys) ∙ sym (option_or-assoc (f x) (first_some f xs) (first_some f ys))

walk_children-fault : (kids : List KindTree) (k : ℕ) (path : Steps) (children : List ArrayTree)
    → first_some visit_fault (walk_children (walks_of (trees kids)) k path children) ≡ children_fault kids k path children
walk_children-fault [] k path children = refl
walk_children-fault (kid ∷ kids) k path [] = refl
walk_children-fault (kid ∷ kids) k path (child ∷ rest) =
    first_some-append visit_fault (visits kid (path ++ k ∷ []) child) (walk_children (walks_of (trees kids)) (suc k) path rest)
    ∙ ap (option_or (fault_from kid (path ++ k ∷ []) child)) (walk_children-fault kids (suc k) path rest)

walk_dictionary-fault : (dict : Option KindTree) (path : Steps) (dictionary : Option ArrayTree)
    → first_some visit_fault (walk_dictionary (walk_of (maybe_tree dict)) path dictionary) ≡ dictionary_fault dict path dictionary
walk_dictionary-fault None path dictionary = refl
walk_dictionary-fault (Some dict) path None = refl
walk_dictionary-fault (Some dict) path (Some dictionary) = refl

-- a live node: its own rules, then its children, then its dictionary
pub fault_from-live : (kind : DataType) (kids : List KindTree) (dict : Option KindTree) (path : Steps) (array : ArrayTree) → IsLive array
    → fault_from (Live kind (trees kids) (maybe_tree dict)) path array
    ≡ option_or (own_fault (Live kind (trees kids) (maybe_tree dict)) path array)
    (option_or (children_fault kids 0 path (children_of array)) (dictionary_fault dict path (dictionary_of array)))
fault_from-live kind kids dict path Released live = absurd live
fault_from-live kind kids dict path (Live own children dictionary) live =
    ap (option_or (own_fault (Live kind (trees kids) (maybe_tree dict)) path (Live own children dictionary)))
    (first_some-append visit_fault (walk_children (walks_of (trees kids)) 0 path (children_of (Live own children dictionary)))
    (walk_dictionary (walk_of (maybe_tree dict)) path (dictionary_of (Live own children dictionary)))
    ∙ ap (λ a. option_or a (first_some visit_fault (walk_dictionary (walk_of (maybe_tree dict)) path (dictionary_of (Live own children dictionary)))))
    (walk_children-fault kids 0 path (children_of (Live own children dictionary)))
    ∙ ap (option_or (children_fault kids 0 path (children_of (Live own children dictionary))))
    (walk_dictionary-fault dict path (dictionary_of (Live own children dictionary))))
