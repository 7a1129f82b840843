-- The first fault of a tree is that of what it shows.
use Rattle.std.proofs.Common.{◌≡◌, ◌∙◌, ℕ, suc, pos, List, [], ◌∷◌, ◌++◌, Option, None, Some, refl, ap, sym, not}
use Rattle.std.specs.Prelude.{if◌then◌else◌, nat_lt}
use Rattle.std.specs.Option.{option_or}
use Rattle.data_types.specs.declared.kind.DataType.{DataType}
use Rattle.tree_model.specs.promise.TreeData.{Released, Live, Trees, no_trees, more_trees, MaybeTree, absent, present, tree_list, option_tree}
use Rattle.tree_model.specs.Tree.{map_trees, map_maybe}
use Rattle.raw_array.specs.promise.Members.{ArrayMembers, ArrayTree}
use Rattle.layout_rules.specs.declared.rule.LayoutRule.TheVariants as rules
use Rattle.data_types.specs.promise.KindTrees.{KindTree}
use Rattle.layout_rules.specs.promise.Layout.{items}
use Rattle.data_types.specs.promise.Ways.{Steps, dictionary_step}
use Rattle.layout_rules.specs.promise.Walk.{ChunkOk, LayoutOk, Walk, first_chunk_fault, first_fault, first_some, is_table, root_fault}
use Rattle.layout_rules.specs.promise.Walk.{top_fault, visit_fault, visits, walk_below, walk_children, walk_dictionary, walk_of, walks_of}
use Rattle.layout_rules.proofs.Walks.{first_some-append}
use Rattle.layout_rules.proofs.Lawful.{first_fault-lawful, lawful-first_fault}
use Rattle.array_laws.specs.Shown.{SameShown, shown, shown_members}
use Rattle.array_laws.proofs.ShownRules.{node-shown, total-shown}

abbrev Shows : Walk → Type 0
Shows walk = (path : Steps) (t : ArrayTree) → first_some visit_fault (walk path (shown t)) ≡ first_some visit_fault (walk path t)

abbrev AllShow : List Walk → Type 0
AllShow [] = Unit {0}
AllShow (walk ∷ walks) = Shows walk × AllShow walks

abbrev ShowsIf : Option Walk → Type 0
ShowsIf None = Unit {0}
ShowsIf (Some walk) = Shows walk

-- ---- children, dictionaries and whole trees
children-shown : (walks : List Walk) → AllShow walks → (k : ℕ) (path : Steps) (ts : Trees ArrayMembers)
    → first_some visit_fault (walk_children walks k path (tree_list (map_trees shown_members ts)))
    ≡ first_some visit_fault (walk_children walks k path (tree_list ts))
children-shown [] all k path ts = refl
children-shown (walk ∷ walks) all k path no_trees = refl
children-shown (walk ∷ walks) all k path (more_trees t ts) =
    first_some-append visit_fault (walk (path ++ k ∷ []) (shown t)) (walk_children walks (suc k) path (tree_list (map_trees shown_members ts)))
    ∙ (λ i. option_or (all.0 (path ++ k ∷ []) t i) (children-shown walks all.1 (suc k) path ts i))
    ∙ sym (first_some-append visit_fault (walk (path ++ k ∷ []) t) (walk_children walks (suc k) path (tree_list ts)))

dictionary-shown : (walk : Option Walk) → ShowsIf walk → (path : Steps) (d : MaybeTree ArrayMembers)
    → first_some visit_fault (walk_dictionary walk path (option_tree (map_maybe shown_members d)))
    ≡ first_some visit_fault (walk_dictionary walk path (option_tree d))
dictionary-shown None shows path d = refl
dictionary-shown (Some walk) shows path absent = refl
dictionary-shown (Some walk) shows path (present t) = shows (path ++ dictionary_step ∷ []) t

below-shown : (walks : List Walk) (walk : Option Walk) → AllShow walks → ShowsIf walk → Shows (walk_below walks walk)
below-shown walks walk all shows path Released = refl
below-shown walks walk all shows path (Live m ts d) =
    first_some-append visit_fault (walk_children walks 0 path (tree_list (map_trees shown_members ts)))
    (walk_dictionary walk path (option_tree (map_maybe shown_members d)))
    ∙ (λ i. option_or (children-shown walks all 0 path ts i) (dictionary-shown walk shows path d i))
    ∙ sym (first_some-append visit_fault (walk_children walks 0 path (tree_list ts)) (walk_dictionary walk path (option_tree d)))

live-shown : (kind : DataType) (kids : Trees DataType) (dict : MaybeTree DataType) → AllShow (walks_of kids) → ShowsIf (walk_of dict)
    → Shows (visits (Live kind kids dict))
live-shown kind kids dict all shows path t =
    λ i. option_or (node-shown kind kids dict t path i) (below-shown (walks_of kids) (walk_of dict) all shows path t i)

mutual
  pub walk-shown : (typed : KindTree) → Shows (visits typed)
  walk-shown Released = λ path t. refl
  walk-shown (Live kind kids dict) = live-shown kind kids dict (all-show kids) (shows-if dict)

  all-show : (kids : Trees DataType) → AllShow (walks_of kids)
  all-show no_trees = tt
  all-show (more_trees kid kids) = (walk-shown kid, all-show kids)

  shows-if : (dict : MaybeTree DataType) → ShowsIf (walk_of dict)
  shows-if absent = tt
  shows-if (present dict) = walk-shown dict

pub fault-shown : (typed : KindTree) (t : ArrayTree) → first_fault typed (shown t) ≡ first_fault typed t
fault-shown typed t = walk-shown typed [] t

pub top-shown : (typed : KindTree) (t : ArrayTree) → top_fault typed (shown t) ≡ top_fault typed t
top-shown typed Released = refl
top-shown typed (Live m ts d) =
    ap (λ n. if not (is_table typed) then Some (root_fault rules.TopKind (pos 0)) else if nat_lt 0 n then Some
    (root_fault rules.TopNulls (pos n)) else None) (total-shown m (items m))

pub chunk_fault-shown : (typed : KindTree) (t : ArrayTree) → first_chunk_fault typed (shown t) ≡ first_chunk_fault typed t
chunk_fault-shown typed t = λ i. option_or (fault-shown typed t i) (top-shown typed t i)

-- ---- over trees that show the same

pub same-fault : (typed : KindTree) (t u : ArrayTree) → SameShown t u → first_fault typed t ≡ first_fault typed u
same-fault typed t u e = sym (fault-shown typed t) ∙ ap (first_fault typed) e ∙ fault-shown typed u

pub same-chunk_fault : (typed : KindTree) (t u : ArrayTree) → SameShown t u → first_chunk_fault typed t ≡ first_chunk_fault typed u
same-chunk_fault typed t u e = sym (chunk_fault-shown typed t) ∙ ap (first_chunk_fault typed) e ∙ chunk_fault-shown typed u

pub same-lawful : (typed : KindTree) (t u : ArrayTree) → SameShown t u → LayoutOk typed t → LayoutOk typed u
same-lawful typed t u e ok = first_fault-lawful typed u (sym (same-fault typed t u e) ∙ lawful-first_fault typed t ok)

pub same-chunk : (typed : KindTree) (t u : ArrayTree) → SameShown t u → ChunkOk typed t → ChunkOk typed u
same-chunk typed t u e ok = (
  same-lawful typed t u e ok.0,
  sym (sym (top-shown typed t) ∙ ap (top_fault typed) e ∙ top-shown typed u) ∙ ok.1,
)
