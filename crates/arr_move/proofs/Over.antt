-- New fields over old ones, while the places are filled one after another.
use Rattle.std.proofs.Common.{◌≡◌, None, ℕ, zero, suc, ◌<◌, List, [], ◌∷◌, length, set, get_or, take, refl, ap, sym, ◌∙◌, arith}
use Rattle.std.proofs.lemmas.Option.{none-some}
use Rattle.tree_model.specs.promise.TreeParts.{IsLive, children_of, child_at, dictionary_of}
use Rattle.tree_model.specs.promise.TreeData.{Released, Live, absent, present, trees}
use Rattle.tree_model.specs.Tree.{with_child}
use Rattle.tree_model.proofs.Lists.{tree_list-trees}
use Rattle.arr_move.specs.TreeActs.{with_children}
use Rattle.raw_schema.specs.promise.Members.{SchemaTree, members_of}
use Rattle.arr_move.specs.Fields.{fields_over, new_or_old}

pub kept-new : (new old : SchemaTree) → (new ≡ Released → ⊥) → new_or_old new old ≡ new
kept-new Released old live = absurd (live refl)
kept-new (Live m ts d) old live = refl

over-none : (news : List SchemaTree) → fields_over news [] ≡ news
over-none [] = refl
over-none (n ∷ ns) = refl

pub over-start : (t : SchemaTree) → with_children t (fields_over (children_of t) []) ≡ with_children t (children_of t)
over-start t = ap (with_children t) (over-none (children_of t))

pub length-over : (news olds : List SchemaTree) → length (fields_over news olds) ≡ length news
length-over [] olds = refl
length-over (n ∷ ns) [] = refl
length-over (n ∷ ns) (o ∷ os) = omega (arith, length-over ns os)

over-at : (news olds : List SchemaTree) (k : ℕ) → get_or (fields_over news (take k olds)) k Released ≡ get_or news k Released
over-at [] olds k = refl
over-at (n ∷ ns) olds zero = refl
over-at (n ∷ ns) [] (suc k) = refl
over-at (n ∷ ns) (o ∷ os) (suc k) = over-at ns os k

over-set : (news olds : List SchemaTree) (k : ℕ) → k < length news → k < length olds
    → set (fields_over news (take k olds)) k (new_or_old (get_or news k Released) (get_or olds k Released)) ≡ fields_over news (take (suc k) olds)
over-set [] olds k new old = absurd (omega (arith, new))
over-set (n ∷ ns) [] k new old = absurd (omega (arith, old))
over-set (n ∷ ns) (o ∷ os) zero new old = ap (λ rest. new_or_old n o ∷ rest) (sym (over-none ns))
over-set (n ∷ ns) (o ∷ os) (suc k) new old = ap (λ rest. new_or_old n o ∷ rest) (over-set ns os k (omega (arith, new)) (omega (arith, old)))

children-with : (t : SchemaTree) (cs : List SchemaTree) → length cs ≡ length (children_of t) → children_of (with_children t cs) ≡ cs
children-with Released [] e = refl
children-with Released (c ∷ cs) e = absurd (omega (arith, e))
children-with (Live m ts d) cs e = tree_list-trees cs

child-with : (t : SchemaTree) (cs : List SchemaTree) (i : ℕ) (c : SchemaTree) → with_child (with_children t cs) i c ≡ with_children t (set cs i c)
child-with Released cs i c = refl
child-with (Live m ts d) cs i c = ap (λ us. Live m (trees (set us i c)) d) (tree_list-trees cs)

-- t is the top from the start, u the top now, and k the next place
module _ (t u : SchemaTree) (olds : List SchemaTree) (k : ℕ) (so : u ≡ with_children t (fields_over (children_of t) (take k olds))) where
  now : children_of u ≡ fields_over (children_of t) (take k olds)
  now = ap children_of so ∙ children-with t _ (length-over (children_of t) (take k olds))

  pub place-inside : k < length (children_of t) → k < length (children_of u)
  place-inside inside = omega (arith, ap length now, length-over (children_of t) (take k olds), inside)

  pub place-new : child_at u k ≡ child_at t k
  place-new = ap (λ cs. get_or cs k Released) now ∙ over-at (children_of t) olds k

  pub one-more : k < length (children_of t) → k < length olds
      → with_child u k (new_or_old (child_at t k) (get_or olds k Released)) ≡ with_children t (fields_over (children_of t) (take (suc k) olds))
  one-more new old =
      ap (λ v. with_child v k (new_or_old (child_at t k) (get_or olds k Released))) so
      ∙ child-with t (fields_over (children_of t) (take k olds)) k _
      ∙ ap (with_children t) (over-set (children_of t) olds k new old)

-- ---- the new top: the schema's own members over new fields

pub top-fields : (top t : SchemaTree) (fields : List SchemaTree) → top ≡ Live (members_of t) (trees fields) absent → children_of top ≡ fields
top-fields top t fields e = ap children_of e ∙ tree_list-trees fields

pub top-schema : (top t : SchemaTree) (fields cs : List SchemaTree) → IsLive t → dictionary_of t ≡ None → top ≡ Live (members_of t) (trees fields) absent
    → with_children top cs ≡ with_children t cs
top-schema top Released fields cs live none e = absurd live
top-schema top (Live m ts absent) fields cs live none e = ap (λ u. with_children u cs) e
top-schema top (Live m ts (present d)) fields cs live none e = absurd (none-some d (sym none))
