-- Lengths one by one.
use Rattle.std.proofs.Common.{◌≡◌, ◌∙◌, ℕ, ◌+◌, ◌<◌, List, [], ◌∷◌, ◌++◌, get_or, inl, inr, ap, sym, subst, arith, length-append}
use Rattle.std.proofs.lemmas.Bool.{cases_eq}
use Rattle.std.proofs.lemmas.List.{get_or_append_left}
use Rattle.std.proofs.Math.Seq.{get_or-append_seam}
use Rattle.tree_model.specs.promise.TreeData.{Released}
use Rattle.tree_model.specs.promise.TreeParts.{child_at}
use Rattle.raw_array.specs.promise.Members.{ArrayTree}
use Rattle.data_types.specs.promise.KindTrees.{KindTree}
use Rattle.layout_rules.specs.promise.Values.{tree_items, value_at}
use Rattle.value_text.specs.Lengths.{TellsKids, Tells}
use Rattle.value_text.specs.declared.lengths.Lengths.{Lengths}

-- those of a child more
pub more-told : (lengths : List Lengths) (v : Lengths) (kids : List KindTree) (array : ArrayTree) (k : ℕ)
    → TellsKids lengths kids array k
    → Tells v (value_at (get_or kids k Released) (child_at array k)) (tree_items (child_at array k))
    → TellsKids (lengths ++ v ∷ []) kids array (k + 1)
more-told lengths v kids array k so_far one = record {
  many = omega (arith, so_far.many, length-append lengths (v ∷ []));
  each = λ (j : ℕ) (d : Lengths) (inside : j < k + 1).
      elim (cases_eq j k) [
        | inl e ↦
            let last : get_or (lengths ++ v ∷ []) k d ≡ v =
            ap (λ n. get_or (lengths ++ v ∷ []) n d) (sym so_far.many) ∙ get_or-append_seam lengths v [] d in
            subst (λ n. Tells (get_or (lengths ++ v ∷ []) n d) (value_at (get_or kids n Released) (child_at array n)) (tree_items (child_at array n)))
            (sym e)
            (subst (λ (u : Lengths). Tells u (value_at (get_or kids k Released) (child_at array k)) (tree_items (child_at array k))) (sym last) one)
        | inr other ↦
            let before : j < k = omega (arith, inside, other) in
            subst (λ (u : Lengths). Tells u (value_at (get_or kids j Released) (child_at array j)) (tree_items (child_at array j)))
            (sym (get_or_append_left lengths (v ∷ []) d j (omega (arith, before, so_far.many)))) (so_far.each j d before)
      ];
}
