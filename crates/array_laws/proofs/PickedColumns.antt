-- Picked columns of a chunk make a chunk, and its rows are the picked items of the rows.
use Rattle.std.proofs.Common.{◌≡◌, ◌∙◌, ℕ, zero, suc, ◌+◌, ◌<◌, ◌≤◌, pos, List, [], ◌∷◌, length, map, get_or, refl, ap, sym, subst, arith}
use Rattle.std.specs.List.{All}
use Rattle.std.proofs.lemmas.List.Elements.{All-nil, All-cons}
use Rattle.data_types.specs.promise.Value.{Null}
use Rattle.tree_model.specs.promise.TreeParts.{IsLive}
use Rattle.tree_model.specs.promise.TreeData.{Released, Live, Trees, MaybeTree, absent, trees, tree_list}
use Rattle.raw_array.specs.promise.Members.{ArrayMembers, ArrayTree}
use Rattle.data_types.specs.promise.KindTrees.{KindTree}
use Rattle.layout_rules.specs.promise.Layout.{first, items}
use Rattle.layout_rules.specs.promise.Values.{each, field_items, readers, row_items, rows_of, tree_items, value_at}
use Rattle.layout_rules.specs.promise.Walk.{ChunkOk, LayoutOk}
use Rattle.data_types.specs.ColumnKinds.{table_type}
use Rattle.raw_array.specs.Windows.{FitsWindow, Window}
use Rattle.arr_move.specs.TreeActs.{Columns, FitParentWindow, cut, struct_members}
use Rattle.array_laws.proofs.ChunkParts.{StructFacts, struct-facts}
use Rattle.array_laws.proofs.WindowItems.{each-same}
use Rattle.array_laws.proofs.WindowTree.{window-fits, window-item, window-items, window-lawful}
use Rattle.array_laws.specs.Picking.{AreLive}
use Rattle.data_types.specs.promise.Parts.{picked}
use Rattle.data_types.specs.Parts.{AreWithin}
use Rattle.array_laws.proofs.StructLaw.{AreLawful, struct-chunk, struct-rows, struct_tree}

pub head-within : (count p : ℕ) (picks : List ℕ) → AreWithin count (p ∷ picks) → p < count
head-within count p picks within = within zero (omega arith)

pub tail-within : (count p : ℕ) (picks : List ℕ) → AreWithin count (p ∷ picks) → AreWithin count picks
tail-within count p picks within = λ k lt. within (suc k) (omega (arith, lt))

-- ---- lists of columns that are windows on the children of a struct

pub record AreCut (types : List KindTree) (cs : List ArrayTree) (off len : ℕ) : Type 0 where
  pub live_type : (p : ℕ) → p < length types → IsLive (get_or types p Released)
  pub child : (p : ℕ) → p < length types → LayoutOk (get_or types p Released) (get_or cs p Released)
  pub live : (p : ℕ) → p < length types → IsLive (get_or cs p Released)
  pub long : (p : ℕ) → p < length types → off + len ≤ tree_items (get_or cs p Released)

abbrev pub cut_at : List ArrayTree → ℕ → ℕ → ℕ → ArrayTree
cut_at cs off len p = Window (get_or cs p Released) (pos off) (pos len)

module _ (types : List KindTree) (cs : List ArrayTree) (off len : ℕ) (c : AreCut types cs off len) where
  pub cut-lawful : (picks : List ℕ) → AreWithin (length types) picks → AreLawful (picked Released picks types) (map (cut_at cs off len) picks)
  cut-lawful [] within = tt
  cut-lawful (p ∷ picks) within =
      let lt = head-within (length types) p picks within in (
        c.live_type p lt,
        window-lawful (get_or types p Released) (get_or cs p Released) off len (c.long p lt) (c.child p lt),
        cut-lawful picks
            (tail-within (length types) p picks within),
      )

  pub cut-long : (picks : List ℕ) → AreWithin (length types) picks → All (λ column. len ≤ tree_items column) (map (cut_at cs off len) picks)
  cut-long [] within = All-nil (λ column. len ≤ tree_items column)
  cut-long (p ∷ picks) within =
      let lt = head-within (length types) p picks within in
      let e = window-items (get_or cs p Released) off len (c.live p lt) in
      All-cons (λ column. len ≤ tree_items column) (cut_at cs off len p) (map (cut_at cs off len) picks) (omega (arith, e))
      (cut-long picks (tail-within (length types) p picks within))

  -- a row of the cut columns
  pub cut-row : (picks : List ℕ) → AreWithin (length types) picks → (i : ℕ)
      → field_items (map value_at (picked Released picks types)) (map (cut_at cs off len) picks) i
      ≡ map (λ p. value_at (get_or types p Released) (get_or cs p Released) (off + i)) picks
  cut-row [] within i = refl
  cut-row (p ∷ picks) within i =
      let lt = head-within (length types) p picks within in
      let e = window-item (get_or types p Released) (get_or cs p Released) off len (c.long p lt) (c.child p lt) i in
      λ t. e t ∷ cut-row picks (tail-within (length types) p picks within) i t

-- an item of a row of all columns
pub row-at : (types : List KindTree) (cs : List ArrayTree) (k p : ℕ) → p < length types → length cs ≡ length types
    → get_or (field_items (readers (trees types)) cs k) p Null ≡ value_at (get_or types p Released) (get_or cs p Released) k
row-at [] cs k p lt same = absurd (omega (arith, lt))
row-at (type ∷ types) [] k p lt same = absurd (omega (arith, same))
row-at (type ∷ types) (c ∷ cs) k zero lt same = refl
row-at (type ∷ types) (c ∷ cs) k (suc p) lt same = row-at types cs k p (omega (arith, lt)) (omega (arith, same))

pub row-picked : (types : List KindTree) (cs : List ArrayTree) (k : ℕ) → length cs ≡ length types → (picks : List ℕ) → AreWithin (length types) picks
    → map (λ p. value_at (get_or types p Released) (get_or cs p Released) k) picks ≡ picked Null picks (field_items (readers (trees types)) cs k)
row-picked types cs k same [] within = refl
row-picked types cs k same (p ∷ picks) within =
    λ t. sym (row-at types cs k p (head-within (length types) p picks within) same) t ∷ row-picked types cs k same picks
    (tail-within (length types) p picks within) t

pub map-each : {X Y : Type 0} → (g : X → Y) (f : ℕ → X) (a n : ℕ) → map g (each f a n) ≡ each (λ i. g (f i)) a n
map-each g f a zero = refl
map-each g f a (suc n) = ap (λ ys. g (f a) ∷ ys) (map-each g f (suc a) n)

-- ---- the picked columns of a struct

pub facts-cut : (types : List KindTree) (m : ArrayMembers) (cs : List ArrayTree) → AreLive types
    → StructFacts types m cs → AreCut types cs (first m) (items m)
facts-cut types m cs live facts = record {
  live_type = live;
  child = facts.child;
  live = λ p lt. facts.live p lt (live p lt);
  long = λ p lt. facts.long p lt (live p lt);
}

pub cuts-are : (m : ArrayMembers) (ts : Trees ArrayMembers) (d : MaybeTree ArrayMembers) → m.offset ≡ pos (first m) → m.length ≡ pos (items m)
    → (picks : List ℕ)
    → Columns (Live m ts d) picks ≡ struct_tree (items m) (map (cut_at (tree_list ts) (first m) (items m)) picks)
cuts-are m ts d e f picks = λ t. Live (struct_members (f t)) (trees (map (cut (Live m ts d) (e t) (f t)) picks)) absent

module _ (types : List KindTree) (m : ArrayMembers) (ts : Trees ArrayMembers) (d : MaybeTree ArrayMembers)
    (live : AreLive types) (ok : LayoutOk (table_type types) (Live m ts d)) where
  pub picked-chunk : (picks : List ℕ) → AreWithin (length types) picks → ChunkOk (table_type (picked Released picks types)) (Columns (Live m ts d) picks)
  picked-chunk picks within =
      let facts = struct-facts types m ts d ok in
      let c = facts-cut types m (tree_list ts) live facts in
      subst (ChunkOk (table_type (picked Released picks types))) (sym (cuts-are m ts d facts.offset_is facts.length_is picks))
      (struct-chunk (picked Released picks types) (map (cut_at (tree_list ts) (first m) (items m)) picks) (items m)
      (cut-lawful types (tree_list ts) (first m) (items m) c picks within) (cut-long types (tree_list ts) (first m) (items m) c picks within)
      (let e = facts.few in omega (arith, e)))

  pub picked-rows : (picks : List ℕ) → AreWithin (length types) picks
      → rows_of (table_type (picked Released picks types)) (Columns (Live m ts d) picks) ≡ map (picked Null picks) (rows_of (table_type types) (Live m ts d))
  picked-rows picks within =
      let facts = struct-facts types m ts d ok in
      let c = facts-cut types m (tree_list ts) live facts in
      let columns = map (cut_at (tree_list ts) (first m) (items m)) picks in
      ap (rows_of (table_type (picked Released picks types))) (cuts-are m ts d facts.offset_is facts.length_is picks)
      ∙ struct-rows (picked Released picks types) columns (items m)
      ∙ each-same (field_items (map value_at (picked Released picks types)) columns)
      (λ i. picked Null picks (row_items (table_type types) (Live m ts d) i)) 0 0 (items m) (λ i lt.
      cut-row types (tree_list ts) (first m) (items m) c picks within (0 + i)
      ∙ row-picked types (tree_list ts) (first m + (0 + i)) facts.count picks within)
      ∙ sym (map-each (picked Null picks) (row_items (table_type types) (Live m ts d)) 0 (items m))

  pub picked-fit : (picks : List ℕ) → AreWithin (length types) picks → FitParentWindow (Live m ts d) picks
  picked-fit picks within = λ k lt.
      let facts = struct-facts types m ts d ok in
      let p = get_or picks k 0 in
      let here = within k lt in
      let fits : FitsWindow (get_or (tree_list ts) p Released) (pos (first m)) (pos (items m)) =
      window-fits (get_or types p Released) (get_or (tree_list ts) p Released) (first m) (items m) (live p here) (facts.long p here (live p here))
      (facts.child p here) in
      subst (λ len. FitsWindow (get_or (tree_list ts) p Released) m.offset len) (sym facts.length_is)
      (subst (λ off. FitsWindow (get_or (tree_list ts) p Released) off (pos (items m))) (sym facts.offset_is) fits)
