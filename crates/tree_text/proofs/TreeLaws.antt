-- The lines of trees: how many there are, how they follow one another, and how deep the trees are.
use Rattle.std.proofs.Common.{◌≡◌, ℕ, ◌+◌, ◌≤◌, List, [], ◌∷◌, ◌++◌, length, replicate, refl, sym, ap, ◌∙◌, arith}
use Rattle.std.proofs.Common.{append_assoc, length-append}
use Rattle.std.proofs.lemmas.List.{replicate-append-replicate}
use Rattle.tree_model.specs.promise.TreeData.{Tree, Released, Live, Trees, no_trees, more_trees, MaybeTree, absent, present, trees, tree_list}
use Rattle.tree_model.specs.Tree.{Depth}
use Rattle.tree_model.specs.promise.TreeCost.{Cost, cost_of_all, cost_of_maybe}
use Rattle.tree_model.specs.Tree.{depth_of_all, depth_of_maybe}
use Rattle.tree_text.specs.promise.TreeText.{lines_of, lines_of_all, lines_of_maybe, dictionaries, TreeFits, AllFit, MaybeFits, deepest_level}
use Rattle.tree_text.specs.promise.Standing.{Place, first_fault}

-- ---- depth

mutual
  pub depth_fits : {M : Type 0} (NodeFits : M → ℕ → Type 0) (level : ℕ) (t : Tree M) → TreeFits NodeFits level t → Depth t + level ≤ 101
  depth_fits NodeFits level Released fits = omega (arith, fits)
  depth_fits NodeFits level (Live own children dictionary) fits =
      let all = depth_all_fit NodeFits (level + 1) children (omega (arith, fits.0)) fits.2 in
      let one = depth_maybe_fits NodeFits (level + 1) dictionary (omega (arith, fits.0)) fits.3 in
      omega (arith, all, one, fits.0)

  pub depth_all_fit : {M : Type 0} (NodeFits : M → ℕ → Type 0) (level : ℕ) (ts : Trees M) → level ≤ 101 → AllFit NodeFits level ts
      → depth_of_all ts + level ≤ 101
  depth_all_fit NodeFits level no_trees low fits = omega (arith, low)
  depth_all_fit NodeFits level (more_trees t ts) low fits = omega (arith, depth_fits NodeFits level t fits.0, depth_all_fit NodeFits level ts low fits.1)

  pub depth_maybe_fits : {M : Type 0} (NodeFits : M → ℕ → Type 0) (level : ℕ) (d : MaybeTree M) → level ≤ 101 → MaybeFits NodeFits level d
      → depth_of_maybe d + level ≤ 101
  depth_maybe_fits NodeFits level absent low fits = omega (arith, low)
  depth_maybe_fits NodeFits level (present t) low fits = depth_fits NodeFits level t fits

-- ---- cost

module _ {M : Type 0} (gone : List ℕ) (own_lines : M → ℕ → ℕ → List (List ℕ)) (holds : M → ℕ) (some : (own : M) (c d : ℕ)
    → 1 + holds own ≤ length (own_lines own c d)) where
  mutual
    pub cost_le_lines : (t : Tree M) → Cost holds t ≤ length (lines_of gone own_lines t)
    cost_le_lines Released = omega arith
    cost_le_lines (Live own children dictionary) =
        let first = own_lines own (length (tree_list children)) (dictionaries dictionary) in
        let all = lines_of_all gone own_lines children in
        let one = lines_of_maybe gone own_lines dictionary in
        omega (
          arith,
          some own (length (tree_list children)) (dictionaries dictionary),
          cost_all_le_lines children,
          cost_maybe_le_lines dictionary,
          length-append first (all ++ one),
          length-append all one,
        )

    pub cost_all_le_lines : (ts : Trees M) → cost_of_all holds ts ≤ length (lines_of_all gone own_lines ts)
    cost_all_le_lines no_trees = omega arith
    cost_all_le_lines (more_trees t ts) =
        omega (arith, cost_le_lines t, cost_all_le_lines ts, length-append (lines_of gone own_lines t) (lines_of_all gone own_lines ts))

    pub cost_maybe_le_lines : (d : MaybeTree M) → cost_of_maybe holds d ≤ length (lines_of_maybe gone own_lines d)
    cost_maybe_le_lines absent = omega arith
    cost_maybe_le_lines (present t) = cost_le_lines t

-- ---- trees one after another

pub lines_of_all-append : {M : Type 0} (gone : List ℕ) (own_lines : M → ℕ → ℕ → List (List ℕ)) (xs ys : List (Tree M))
    → lines_of_all gone own_lines (trees (xs ++ ys)) ≡ lines_of_all gone own_lines (trees xs) ++ lines_of_all gone own_lines (trees ys)
lines_of_all-append gone own_lines [] ys = refl
lines_of_all-append gone own_lines (x ∷ xs) ys =
    ap (λ (ls : List (List ℕ)). lines_of gone own_lines x ++ ls) (lines_of_all-append gone own_lines xs ys)
    ∙ sym (append_assoc (lines_of gone own_lines x) (lines_of_all gone own_lines (trees xs)) (lines_of_all gone own_lines (trees ys)))

pub AllFit-append : {M : Type 0} (NodeFits : M → ℕ → Type 0) (level : ℕ) (xs ys : List (Tree M)) → AllFit NodeFits level (trees xs)
    → AllFit NodeFits level (trees ys) → AllFit NodeFits level (trees (xs ++ ys))
AllFit-append NodeFits level [] ys front back = back
AllFit-append NodeFits level (x ∷ xs) ys front back = (front.0, AllFit-append NodeFits level xs ys front.1 back)

pub AllFit-front : {M : Type 0} (NodeFits : M → ℕ → Type 0) (level : ℕ) (xs ys : List (Tree M)) → AllFit NodeFits level (trees (xs ++ ys))
    → AllFit NodeFits level (trees xs)
AllFit-front NodeFits level [] ys all = tt
AllFit-front NodeFits level (x ∷ xs) ys all = (all.0, AllFit-front NodeFits level xs ys all.1)

pub AllFit-back : {M : Type 0} (NodeFits : M → ℕ → Type 0) (level : ℕ) (xs ys : List (Tree M)) → AllFit NodeFits level (trees (xs ++ ys))
    → AllFit NodeFits level (trees ys)
AllFit-back NodeFits level [] ys all = all
AllFit-back NodeFits level (x ∷ xs) ys all = AllFit-back NodeFits level xs ys all.1

-- ---- lines that may be there

module _ {M : Type 0} (gone : List ℕ) (own_lines : M → ℕ → ℕ → List (List ℕ)) (NodeFits : M → ℕ → Type 0) (at : ℕ → Place)
    (gone_stands : (level : ℕ) (places : List Place) (rest : List (List ℕ)) (n : ℕ) → level ≤ deepest_level
    → first_fault (at level ∷ places) (gone ∷ rest) n ≡ first_fault places rest (n + 1))
    (own_stands : (own : M) (c d level : ℕ) (places : List Place) (rest : List (List ℕ)) (n : ℕ) → level ≤ deepest_level → NodeFits own c → d ≤ 1
    → first_fault (at level ∷ places) (own_lines own c d ++ rest) n
    ≡ first_fault (replicate (c + d) (at (level + 1)) ++ places) rest (n + length (own_lines own c d))) where
  few_dictionaries : (d : MaybeTree M) → dictionaries d ≤ 1
  few_dictionaries absent = omega arith
  few_dictionaries (present t) = omega arith

  mutual
    pub tree_stands : (level : ℕ) (t : Tree M) → TreeFits NodeFits level t → (places : List Place) (rest : List (List ℕ)) (n : ℕ)
        → first_fault (at level ∷ places) (lines_of gone own_lines t ++ rest) n ≡ first_fault places rest (n + length (lines_of gone own_lines t))
    tree_stands level Released fits places rest n = gone_stands level places rest n fits
    tree_stands level (Live own children dictionary) fits places rest n =
        let c = length (tree_list children) in
        let d = dictionaries dictionary in
        let first = own_lines own c d in
        let all = lines_of_all gone own_lines children in
        let one = lines_of_maybe gone own_lines dictionary in
        let below = at (level + 1) in
        let split : (first ++ (all ++ one)) ++ rest ≡ first ++ (all ++ (one ++ rest)) =
        append_assoc first (all ++ one) rest ∙ ap (λ (ls : List (List ℕ)). first ++ ls) (append_assoc all one rest) in
        let parts : replicate (c + d) below ++ places ≡ replicate c below ++ (replicate d below ++ places) =
        ap (λ (ps : List Place). ps ++ places) (sym (replicate-append-replicate c d below)) ∙ append_assoc (replicate c below) (replicate d below) places in
        let total : n + length first + length all + length one ≡ n + length (first ++ (all ++ one)) =
        omega (arith, length-append first (all ++ one), length-append all one) in
        ap (λ (ls : List (List ℕ)). first_fault (at level ∷ places) ls n) split
        ∙ own_stands own c d level places (all ++ (one ++ rest)) n fits.0 fits.1 (few_dictionaries dictionary)
        ∙ ap (λ (ps : List Place). first_fault ps (all ++ (one ++ rest)) (n + length first)) parts
        ∙ all_stand (level + 1) children fits.2 (replicate d below ++ places) (one ++ rest) (n + length first)
        ∙ maybe_stands (level + 1) dictionary fits.3 places rest (n + length first + length all)
        ∙ ap (first_fault places rest) total

    pub all_stand : (level : ℕ) (ts : Trees M) → AllFit NodeFits level ts → (places : List Place) (rest : List (List ℕ)) (n : ℕ)
        → first_fault (replicate (length (tree_list ts)) (at level) ++ places) (lines_of_all gone own_lines ts ++ rest) n
        ≡ first_fault places rest (n + length (lines_of_all gone own_lines ts))
    all_stand level no_trees fits places rest n = ap (first_fault places rest) (omega arith)
    all_stand level (more_trees t ts) fits places rest n =
        let first = lines_of gone own_lines t in
        let more = lines_of_all gone own_lines ts in
        let later = replicate (length (tree_list ts)) (at level) ++ places in
        let total : n + length first + length more ≡ n + length (first ++ more) = omega (arith, length-append first more) in
        ap (λ (ls : List (List ℕ)). first_fault (at level ∷ later) ls n) (append_assoc first more rest)
        ∙ tree_stands level t fits.0 later (more ++ rest) n
        ∙ all_stand level ts fits.1 places rest (n + length first)
        ∙ ap (first_fault places rest) total

    pub maybe_stands : (level : ℕ) (d : MaybeTree M) → MaybeFits NodeFits level d → (places : List Place) (rest : List (List ℕ)) (n : ℕ)
        → first_fault (replicate (dictionaries d) (at level) ++ places) (lines_of_maybe gone own_lines d ++ rest) n
        ≡ first_fault places rest (n + length (lines_of_maybe gone own_lines d))
    maybe_stands level absent fits places rest n = ap (first_fault places rest) (omega arith)
    maybe_stands level (present t) fits places rest n = tree_stands level t fits places rest n
