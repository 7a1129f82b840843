-- The rows of a struct, and its columns cut to its window.
use Rattle.std.proofs.Common.{◌≡◌, ℕ, zero, suc, ◌+◌, ◌^◌, ◌<◌, ◌≤◌, Bool, true, false, ℤ, pos, List, [], ◌∷◌, length, get_or, map, Option, None, Some, refl, ap, sym, ◌∙◌, subst, arith}
use Rattle.std.specs.Prelude.{if◌then◌else◌, ◌&&◌, not, IsTrue, position}
use Rattle.std.specs.List.{AllZip}
use Rattle.std.specs.Ordering.{int_eq}
use Rattle.std.proofs.lemmas.Bool.Decides.{Decides-int_eq}
use Rattle.std.proofs.lemmas.List.{get_or-map, length-map}
use Rattle.std.proofs.lemmas.List.Quantifiers.{position-Some}
use Rattle.data_types.specs.promise.Table.{Row}
use Rattle.data_types.specs.promise.Value.{Null, is_null}
use Rattle.tree_model.specs.promise.TreeData.{Released, Live, Trees, MaybeTree, tree_list}
use Rattle.tree_model.specs.promise.TreeParts.{IsLive}
use Rattle.raw_array.specs.promise.Members.{ArrayMembers, ArrayTree}
use Rattle.raw_array.specs.Members.{windowed}
use Rattle.raw_array.specs.Windows.{FitsWindow, Window, is_whole}
use Rattle.data_types.specs.ColumnKinds.{table_type}
use Rattle.data_types.specs.promise.KindTrees.{KindTree}
use Rattle.layout_rules.specs.promise.Layout.{first, items}
use Rattle.layout_rules.specs.promise.Rules.{live_length}
use Rattle.layout_rules.specs.promise.Values.{each, field_items, row_items, rows_of, tree_items, value_at}
use Rattle.layout_rules.specs.promise.Walk.{LayoutOk}
use Rattle.array_laws.proofs.ChunkParts.{StructFacts, struct-facts}
use Rattle.array_laws.proofs.StructLaw.{readers-are}
use Rattle.array_laws.proofs.WindowItems.{each-same, length-each}
use Rattle.array_laws.proofs.WindowTree.{window-fits, window-item, window-lawful}
use Rattle.union_cols.specs.promise.Unions.{id_at, or_zero, union_items, union_value}
use Rattle.union_cols.specs.Unions.{union_item}
use Rattle.union_cols.specs.promise.UnionRules.{union_fault}
use Rattle.union_cols.specs.promise.Tags.{tag_of, tagged_item, tagged_items}
use Rattle.union_cols.specs.Tags.{cut_columns, tag_members}
use Rattle.union_cols.proofs.Numbering.{get_or-each, map-each}
use Rattle.union_cols.proofs.TagRules.{AreCut, id-is, kinds_made, made_union, no-rule-fails, value-is}

-- ---- lists

zip-from : {A B : Type 0} (R : A → B → Type 0) (xs : List A) (ys : List B) (d : A) (e : B) → length ys ≡ length xs
    → ((k : ℕ) → k < length xs → R (get_or xs k d) (get_or ys k e)) → AllZip R xs ys
zip-from R [] [] d e same each = tt
zip-from R [] (y ∷ ys) d e same each = absurd (omega (arith, same))
zip-from R (x ∷ xs) [] d e same each = absurd (omega (arith, same))
zip-from R (x ∷ xs) (y ∷ ys) d e same each =
    (each 0 (omega arith), zip-from R xs ys d e (omega (arith, same)) (λ k h. each (suc k) (omega (arith, h))))

-- ---- a window's length

both-true : (a b : Bool) → (a && b) ≡ true → b ≡ true
both-true true b e = e
both-true false b e = absurd (cc)

live-window : (t : ArrayTree) (off len : ℤ) → IsLive t → live_length (Window t off len) ≡ Some len
live-window Released off len live = absurd live
live-window (Live m ts d) off len live = go (is_whole (Live m ts d) off len) refl
  where
    go : (b : Bool) → is_whole (Live m ts d) off len ≡ b → live_length (if b then Live m ts d else windowed (Live m ts d) off len) ≡ Some len
    go false e = refl
    go true e = ap Some (sym ((Decides-int_eq len m.length).0 (both-true (int_eq off (pos 0)) (int_eq len m.length) e)))

-- ---- a row

field-at : (types : List KindTree) (cs : List ArrayTree) (j k : ℕ) → length cs ≡ length types → k < length types
    → get_or (field_items (map value_at types) cs j) k Null ≡ value_at (get_or types k Released) (get_or cs k Released) j
field-at [] cs j k same h = absurd (omega (arith, h))
field-at (type ∷ types) [] j k same h = absurd (omega (arith, same))
field-at (type ∷ types) (c ∷ cs) j zero same h = refl
field-at (type ∷ types) (c ∷ cs) j (suc k) same h = field-at types cs j k (omega (arith, same)) (omega (arith, h))

length-fields : (types : List KindTree) (cs : List ArrayTree) (j : ℕ) → length cs ≡ length types
    → length (field_items (map value_at types) cs j) ≡ length types
length-fields [] cs j same = refl
length-fields (type ∷ types) [] j same = absurd (omega (arith, same))
length-fields (type ∷ types) (c ∷ cs) j same = ap suc (length-fields types cs j (omega (arith, same)))

zero-or-below : (o : Option ℕ) (n : ℕ) → 0 < n → ((k : ℕ) → o ≡ Some k → k < n) → or_zero o < n
zero-or-below None n some below = some
zero-or-below (Some k) n some below = below k refl

pub tag-below : (row : Row) → 0 < length row → tag_of row < length row
tag-below row some =
    zero-or-below (position (λ value. not (is_null value)) row) (length row) some (λ k e. (position-Some (λ value. not (is_null value)) row k Null e).0)

-- ---- a struct of these types

module _ (types : List KindTree) (m : ArrayMembers) (ts : Trees ArrayMembers) (d : MaybeTree ArrayMembers) (ok : LayoutOk (table_type types) (Live m ts d))
    (kinds : (k : ℕ) → k < length types → IsLive (get_or types k Released)) where
  abbrev array : ArrayTree
  array = Live m ts d

  facts : StructFacts types m (tree_list ts)
  facts = struct-facts types m ts d ok

  abbrev row : ℕ → Row
  row i = row_items (table_type types) array i

  abbrev ids : List ℕ
  ids = map tag_of (rows_of (table_type types) array)

  abbrev columns : List ArrayTree
  columns = cut_columns array

  row-is : (i : ℕ) → row i ≡ field_items (map value_at types) (tree_list ts) (first m + i)
  row-is i = ap (λ rs. field_items rs (tree_list ts) (first m + i)) (readers-are types)

  length-row : (i : ℕ) → length (row i) ≡ length types
  length-row i = ap length (row-is i) ∙ length-fields types (tree_list ts) (first m + i) facts.count

  length-ids : length ids ≡ items m
  length-ids = length-map (rows_of (table_type types) array) tag_of ∙ length-each row 0 (items m)

  id-at : (i : ℕ) → i < items m → get_or ids i 0 ≡ tag_of (row i)
  id-at i h =
      get_or-map tag_of (rows_of (table_type types) array) i [] 0 (omega (arith, h, length-each row 0 (items m)))
      ∙ ap tag_of (let e : 0 + i ≡ i = omega arith in get_or-each row 0 (items m) i [] h ∙ ap row e)

  column-at : (k : ℕ) → k < length types → get_or columns k Released ≡ Window (get_or (tree_list ts) k Released) (pos (first m)) (pos (items m))
  column-at k h =
      get_or-map (λ c. Window c m.offset m.length) (tree_list ts) k Released Released (omega (arith, h, facts.count))
      ∙ (λ t. Window (get_or (tree_list ts) k Released) (facts.offset_is t) (facts.length_is t))

  room : (k : ℕ) → k < length types → first m + items m ≤ tree_items (get_or (tree_list ts) k Released)
  room k h = facts.long k h (kinds k h)

  pub cut : AreCut (items m) types columns
  cut = record {
    count = length-map (tree_list ts) (λ c. Window c m.offset m.length) ∙ facts.count;
    lawful = zip-from LayoutOk types columns Released Released (length-map (tree_list ts) (λ c. Window c m.offset m.length) ∙ facts.count) (λ k h.
        subst (LayoutOk (get_or types k Released)) (sym (column-at k h))
        (window-lawful (get_or types k Released) (get_or (tree_list ts) k Released) (first m) (items m) (room k h) (facts.child k h)));
    lengths = λ k h.
        let inside : k < length types = omega (arith, h, length-map (tree_list ts) (λ c. Window c m.offset m.length), facts.count) in
        ap live_length (column-at k inside) ∙ live-window (get_or (tree_list ts) k Released) (pos (first m)) (pos (items m)) (facts.live k inside (kinds k inside));
  }

  pub fit : (k : ℕ) → k < length types → FitsWindow (get_or (tree_list ts) k Released) m.offset m.length
  fit k h =
      subst (λ off. FitsWindow (get_or (tree_list ts) k Released) off m.length) (sym facts.offset_is)
      (subst (λ len. FitsWindow (get_or (tree_list ts) k Released) (pos (first m)) len) (sym facts.length_is)
      (window-fits (get_or types k Released) (get_or (tree_list ts) k Released) (first m) (items m) (kinds k h) (room k h) (facts.child k h)))

  near : items m ≤ 2 ^ 40
  near = omega (arith, facts.few)

  module _ (dense : Bool) (some : 0 < length types) (few : length types ≤ 128) (starts : IsTrue dense → items m < 2 ^ 31) where
    below : (i : ℕ) → tag_of (row i) < length types
    below i = omega (arith, tag-below (row i) (omega (arith, some, length-row i)), length-row i)

    small : (i : ℕ) → i < items m → get_or ids i 0 < length types
    small i h = omega (arith, id-at i h, below i)

    abbrev made : ArrayTree
    made = made_union dense (items m) ids columns

    pub tagged-rules : union_fault (kinds_made dense types) made ≡ None
    tagged-rules = no-rule-fails dense (items m) ids types columns length-ids near few starts small cut

    one-id : (i : ℕ) → i < items m → id_at (tag_members dense (pos (items m)) ids) i ≡ pos (tag_of (row i))
    one-id i h = id-is (items m) ids length-ids (length types) i few h (small i h) dense ∙ ap pos (id-at i h)

    one-value : (i : ℕ) → i < items m → union_value (kinds_made dense types) made i ≡ get_or (row i) (tag_of (row i)) Null
    one-value i h =
        let k = tag_of (row i) in
        let inside : k < length types = below i in
        let c = get_or (tree_list ts) k Released in
        value-is dense (items m) ids types columns length-ids near few starts small cut i h
        ∙ ap (λ t. value_at (get_or types t Released) (get_or columns t Released) i) (id-at i h)
        ∙ ap (λ u. value_at (get_or types k Released) u i) (column-at k inside)
        ∙ window-item (get_or types k Released) c (first m) (items m) (room k inside) (facts.child k inside) i
        ∙ sym (ap (λ r. get_or r k Null) (row-is i) ∙ field-at types (tree_list ts) (first m + i) k facts.count inside)

    one-item : (i : ℕ) → i < items m → union_item (kinds_made dense types) made i ≡ tagged_item (row i)
    one-item i h = λ t. record { id = one-id i h t; value = one-value i h t }

    pub tagged-items : union_items (kinds_made dense types) made ≡ tagged_items (rows_of (table_type types) array)
    tagged-items =
        each-same (union_item (kinds_made dense types) made) (λ i. tagged_item (row i)) 0 0 (items m) (λ i h.
        let e : 0 + i ≡ i = omega arith in
        ap (union_item (kinds_made dense types) made) e ∙ one-item i h ∙ ap (λ j. tagged_item (row j)) (sym e))
        ∙ sym (map-each tagged_item row 0 (items m))
