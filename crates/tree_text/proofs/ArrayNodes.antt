-- The array tree, read on from a cursor: nodes.
use Rattle.std.proofs.Common.{◌≡◌, ℕ, ◌+◌, ◌<◌, ◌≤◌, List, [], ◌∷◌, ◌++◌, length, map, replicate, Option, Some, None, refl, sym, ap, ◌∙◌}
use Rattle.std.proofs.Common.{arith, subst, length-append, inl, inr, Result, Ok, Err}
use Rattle.std.specs.Prelude.{IfOk, IfErr}
use Rattle.std.specs.Option.{option_map}
use Rattle.std.proofs.lemmas.Bool.{lt-leb, le-leb, cases_lt}
use Rattle.tree_model.specs.promise.TreeData.{Released, trees, maybe_tree}
use Rattle.tree_model.specs.Tree.{depth_of_all, depth_of_maybe}
use Rattle.tree_model.specs.promise.TreeCost.{holds_of_all, holds_of_maybe}
use Rattle.tree_model.specs.TreeCost.{nodes_of_all, nodes_of_maybe}
use Rattle.tree_model.specs.promise.TreeData.{Tree}
use Rattle.raw_array.specs.promise.Members.{ArrayTree, holds, Cost}
use Rattle.raw_array.specs.Members.{cost_of_all, cost_of_maybe}
use Rattle.raw_array.proofs.Buffers.{holds_of-count}
use Rattle.tree_text.specs.declared.fault.TextFault.{TextFault}
use Rattle.tree_text.specs.declared.cursor.Cursor.{Cursor}
use Rattle.tree_text.specs.promise.TreeText.{array_node_lines, ArrayNodeFits, deepest_level, lines_of_all, array_line, lines_of, ArrayNumbers}
use Rattle.tree_text.specs.TreeText.{released_array, buffer_line}
use Rattle.tree_text.specs.promise.TreeText.{numbers_of, ArrayNumbersFit}
use Rattle.tree_text.specs.promise.Standing.{Place, AtArray, AtBuffer, read_array_line, next, array_parts}
use Rattle.tree_text.specs.Cursors.{left, IsCursor, Stops, Between, ArrayRead, ArraysRead, LiveArrayRead, with_buffers, listed}
use Rattle.tree_text.proofs.LineBack.{ArrayLineIs, array_back}
use Rattle.tree_text.proofs.Stands.{stands, array_gone, array_stands, array_some}
use Rattle.tree_text.proofs.TreeLaws.{AllFit-append, depth_all_fit, cost_le_lines, cost_all_le_lines}
use Rattle.tree_text.proofs.TreeSteps.{one_more, stops_in_list, node_read, stops_below, cost-listed, depth-listed, nothing_between, joined, stops_later}
use Rattle.tree_text.proofs.TreeSteps.{missing, refused}
use Rattle.tree_text.proofs.ArraySteps.{left_buffers}

pub none_made : (bytes : List ℕ) (cursor : Cursor) (level : ℕ) → IsCursor bytes cursor → ArraysRead bytes cursor cursor level 0 []
none_made bytes cursor level is = record { between = nothing_between bytes cursor is; fits = tt; counted = refl }

pub one_added : (bytes : List ℕ) (from mid to : Cursor) (level i : ℕ) (made : List ArrayTree) (t : ArrayTree) → ArraysRead bytes from mid level i made
    → ArrayRead bytes mid to level t
    → ArraysRead bytes from to level (i + 1) (made ++ t ∷ [])
one_added bytes from mid to level i made t front back = record {
  between = one_more released_array array_node_lines ArrayNodeFits AtArray array_gone array_stands bytes from mid to made t front.between back.between;
  fits = AllFit-append ArrayNodeFits level made (t ∷ []) front.fits (back.fits, tt);
  counted = omega (arith, length-append made (t ∷ []), front.counted);
}

pub stops_inside : (bytes : List ℕ) (from to : Cursor) (level count i : ℕ) (made : List ArrayTree) (f : TextFault) → IsCursor bytes from
    → ArraysRead bytes from to level i made → i < count
    → Stops bytes to (AtArray level ∷ []) f → Stops bytes from (replicate count (AtArray level)) f
stops_inside bytes from to level count i made f cursor read more later =
    stops_in_list released_array array_node_lines ArrayNodeFits AtArray array_gone array_stands bytes from to level count i made f cursor read.between
    read.fits read.counted more later

-- what is left of the lines
pub left_tree : (bytes : List ℕ) (from to : Cursor) (level : ℕ) (t : ArrayTree) → ArrayRead bytes from to level t
    → length (left bytes to) + Cost t ≤ length (left bytes from)
left_tree bytes from to level t read =
    let lines = lines_of released_array array_node_lines t in
    let same : length (left bytes from) ≡ length lines + length (left bytes to) = ap length read.between.spelled ∙ length-append lines (left bytes to) in
    omega (arith, same, cost_le_lines released_array array_node_lines holds array_some t)

pub left_all : (bytes : List ℕ) (from to : Cursor) (level count : ℕ) (ts : List ArrayTree) → ArraysRead bytes from to level count ts
    → length (left bytes to) + cost_of_all (trees ts) ≤ length (left bytes from)
left_all bytes from to level count ts read =
    let lines = lines_of_all released_array array_node_lines (trees ts) in
    let same : length (left bytes from) ≡ length lines + length (left bytes to) = ap length read.between.spelled ∙ length-append lines (left bytes to) in
    omega (arith, same, cost_all_le_lines released_array array_node_lines holds array_some (trees ts))

-- the line that tells of a node alone, and what may follow it
line_between : (bytes : List ℕ) (from mid : Cursor) (line : List ℕ) (own : ArrayNumbers) (c d : ℕ) → left bytes from ≡ line ∷ left bytes mid
    → IsCursor bytes mid → ArrayLineIs line own c d
    → Between bytes from mid (array_line own c d ∷ [])
line_between bytes from mid line own c d here cursor is = record { spelled = here ∙ ap (λ (l : List ℕ). l ∷ left bytes mid) is.spelled; cursor = cursor }

pub live_is : (bytes : List ℕ) (from mid to : Cursor) (level c d : ℕ) (line : List ℕ) (own : ArrayNumbers) (t : ArrayTree) → level ≤ deepest_level
    → left bytes from ≡ line ∷ left bytes mid → IsCursor bytes mid
    → ArrayLineIs line own c d → LiveArrayRead bytes mid to level own c d t → ArrayRead bytes from to level t
live_is bytes from mid to level c d line own t low here cursor is live =
    let b_is : length live.buffers ≡ own.buffers = live.first.counted in
    let made = with_buffers own live.buffers in
    let numbers : own ≡ numbers_of made = ap (λ (n : ℕ). record own { buffers = n }) (sym b_is) in
    let first : Between bytes from live.mid (array_node_lines made c d) =
    joined bytes from mid live.mid (array_line (numbers_of made) c d ∷ []) (map buffer_line live.buffers)
    (subst (λ (n : ArrayNumbers). Between bytes from mid (array_line n c d ∷ [])) numbers (line_between bytes from mid line own c d here cursor is))
    live.first.between in
    let fits : ArrayNodeFits made c = record {
      numbers = subst (λ (n : ArrayNumbers). ArrayNumbersFit n c) numbers is.fits;
      buffers = live.first.fits;
      kind =
          refl;
    } in
    let counted : length live.children ≡ c = omega (arith, length-append live.children (listed live.dictionary), live.read.counted, live.one) in
    let node = node_read released_array array_node_lines ArrayNodeFits AtArray array_gone array_stands bytes from live.mid to level c d made live.children
    live.dictionary low fits first live.read.between live.read.fits counted live.one in
    subst (ArrayRead bytes from to level) (sym live.is) (record { between = node.between; fits = node.fits })

pub live_result : (bytes : List ℕ) (from mid : Cursor) (level c d : ℕ) (line : List ℕ) (own : ArrayNumbers) (r : Result (ArrayTree × Cursor) TextFault)
    → level ≤ deepest_level → left bytes from ≡ line ∷ left bytes mid
    → IsCursor bytes mid → ArrayLineIs line own c d → IfOk r (λ x. LiveArrayRead bytes mid x.1 level own c d x.0)
    → IfOk r (λ x. ArrayRead bytes from x.1 level x.0)
live_result bytes from mid level c d line own (Ok x) low here cursor is live = live_is bytes from mid x.1 level c d line own x.0 low here cursor is live
live_result bytes from mid level c d line own (Err f) low here cursor is live = tt

abbrev pub parts_of : ArrayNumbers → ℕ → ℕ → ℕ → List Place
parts_of own c d level = replicate own.buffers AtBuffer ++ replicate (c + d) (AtArray (level + 1))

pub live_fault : (bytes : List ℕ) (from mid : Cursor) (level c d : ℕ) (line : List ℕ) (own : ArrayNumbers) (r : Result (ArrayTree × Cursor) TextFault)
    → IsCursor bytes from → level ≤ deepest_level
    → left bytes from ≡ line ∷ left bytes mid → IsCursor bytes mid → ArrayLineIs line own c d → IfErr r (Stops bytes mid (parts_of own c d level))
    → IfErr r (Stops bytes from (AtArray level ∷ []))
live_fault bytes from mid level c d line own (Ok x) begun low here cursor is later = tt
live_fault bytes from mid level c d line own (Err f) begun low here cursor is later =
    stops_later bytes from mid (array_line own c d ∷ []) (AtArray level ∷ []) (parts_of own c d level) f begun
    (line_between bytes from mid line own c d here cursor is)
    (λ behind rest n. stands (AtArray level) (parts_of own c d level) behind (array_line own c d) rest n
    (rw (le-leb level 100 low) (ap (option_map (array_parts level)) (array_back own c d is.fits is.one))))
    later

pub released_is : (bytes : List ℕ) (from to : Cursor) (level : ℕ) (line : List ℕ) → level ≤ deepest_level → left bytes from ≡ line ∷ left bytes to
    → IsCursor bytes to → line ≡ released_array → ArrayRead bytes from to level Released
released_is bytes from to level line low here cursor is = record {
  between = record { spelled = here ∙ ap (λ (l : List ℕ). l ∷ left bytes to) is; cursor = cursor };
  fits = low;
}

-- a level that is too deep, and a line that tells of no node
pub too_deep : (level : ℕ) (line : List ℕ) → 100 < level → next (AtArray level) line ≡ None
too_deep level line deep = rw (lt-leb level 100 deep) refl

pub no_node : (level : ℕ) (line : List ℕ) → read_array_line line ≡ None → next (AtArray level) line ≡ None
no_node level line none = elim (cases_lt 100 level) [
  | inl deep ↦ too_deep level line deep
  | inr low ↦ rw (le-leb level 100 low) (ap (option_map (array_parts level)) none)
]

-- ---- measures of parts

module _ {M : Type 0} where
  pub nodes-append : (xs ys : List (Tree M)) → nodes_of_all (trees (xs ++ ys)) ≡ nodes_of_all (trees xs) + nodes_of_all (trees ys)
  nodes-append [] ys = omega arith
  nodes-append (x ∷ xs) ys = omega (arith, nodes-append xs ys)

  pub holds-append : (holds : M → ℕ) (xs ys : List (Tree M))
      → holds_of_all holds (trees (xs ++ ys)) ≡ holds_of_all holds (trees xs) + holds_of_all holds (trees ys)
  holds-append holds [] ys = omega arith
  holds-append holds (x ∷ xs) ys = omega (arith, holds-append holds xs ys)

  nodes_listed : (d : Option (Tree M)) → nodes_of_all (trees (listed d)) ≡ nodes_of_maybe (maybe_tree d)
  nodes_listed None = refl
  nodes_listed (Some t) = omega arith

  holds_listed : (holds : M → ℕ) (d : Option (Tree M)) → holds_of_all holds (trees (listed d)) ≡ holds_of_maybe holds (maybe_tree d)
  holds_listed holds None = refl
  holds_listed holds (Some t) = omega arith

pub record PartsMeasure (parts children : List ArrayTree) (d : Option ArrayTree) : Type 0 where
  pub cost : cost_of_all (trees parts) ≡ cost_of_all (trees children) + cost_of_maybe (maybe_tree d)
  pub nodes : nodes_of_all (trees parts) ≡ nodes_of_all (trees children) + nodes_of_maybe (maybe_tree d)
  pub held : holds_of_all holds (trees parts) ≡ holds_of_all holds (trees children) + holds_of_maybe holds (maybe_tree d)

pub parts_measure : (parts children : List ArrayTree) (d : Option ArrayTree) → parts ≡ children ++ listed d → PartsMeasure parts children d
parts_measure parts children d all = record {
  cost = ap (λ (xs : List ArrayTree). cost_of_all (trees xs)) all ∙ cost-listed holds children d;
  nodes = omega (arith, ap (λ (xs : List ArrayTree). nodes_of_all (trees xs)) all, nodes-append children (listed d), nodes_listed d);
  held = omega (arith, ap (λ (xs : List ArrayTree). holds_of_all holds (trees xs)) all, holds-append holds children (listed d), holds_listed holds d);
}

pub depth_parts : (bytes : List ℕ) (from to : Cursor) (level count : ℕ) (parts children : List ArrayTree) (d : Option ArrayTree) → level ≤ 101
    → parts ≡ children ++ listed d → ArraysRead bytes from to level count parts
    → (depth_of_all (trees children) ≤ 127) × (depth_of_maybe (maybe_tree d) ≤ 127)
depth_parts bytes from to level count parts children d low all read =
    let same = ap (λ (xs : List ArrayTree). depth_of_all (trees xs)) all in
    depth-listed 127 children d (omega (arith, same, depth_all_fit ArrayNodeFits level (trees parts) low read.fits))

pub ruleset line_steps = (missing, refused, too_deep, no_node)

pub ruleset steps = (left_tree, left_all, left_buffers, holds_of-count)
