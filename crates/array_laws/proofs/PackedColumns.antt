-- Columns that are packed into a struct, and a struct's columns in its place.
use Rattle.std.proofs.Common.{◌≡◌, ◌∙◌, ℕ, zero, suc, ◌+◌, ◌^◌, ◌<◌, ◌≤◌, ℤ, pos, List, [], ◌∷◌, ◌++◌, length, map, get_or, take, drop, refl, ap, sym, subst}
use Rattle.std.proofs.Common.{arith}
use Rattle.std.specs.List.{All}
use Rattle.std.proofs.lemmas.List.Elements.{All-nil, All-cons, All-head, All-tail}
use Rattle.data_types.specs.promise.Value.{Value, Null, Fields, values}
use Rattle.tree_model.specs.promise.TreeData.{Released, Live, Trees, MaybeTree, absent, trees, tree_list}
use Rattle.tree_model.proofs.Lists.{tree_list-trees}
use Rattle.raw_array.specs.promise.Members.{ArrayMembers, ArrayTree, members_of}
use Rattle.data_types.specs.promise.KindTrees.{KindTree}
use Rattle.layout_rules.specs.promise.Layout.{first, items}
use Rattle.layout_rules.specs.promise.Values.{each, field_items, readers, row_items, rows_of, tree_items, value_at}
use Rattle.layout_rules.specs.promise.Walk.{ChunkOk, LayoutOk}
use Rattle.data_types.specs.ColumnKinds.{table_type}
use Rattle.raw_array.specs.Windows.{Window}
use Rattle.arr_move.specs.TreeActs.{struct_members}
use Rattle.array_laws.proofs.ChunkParts.{StructFacts, struct-facts}
use Rattle.array_laws.proofs.PickedColumns.{cut-lawful, cut-long, cut-row, cut_at, cuts-are, facts-cut, map-each, picked-chunk, row-picked}
use Rattle.array_laws.proofs.StructRows.{CutFacts, all-append, all-drop, all-take, cut-facts, lawful-append, lawful-drop, lawful-take, row-append, row-drop}
use Rattle.array_laws.proofs.StructRows.{row-take, struct-item}
use Rattle.array_laws.proofs.WindowItems.{each-same}
use Rattle.data_types.specs.promise.Parts.{fields_of, picked}
use Rattle.data_types.specs.Parts.{packed, unpacked, AreWithin, IsFields}
use Rattle.array_laws.specs.Picking.{AreLive, Packed, Unpacked, cut_children, packed_types, struct_like, unpacked_types}
use Rattle.array_laws.proofs.StructLaw.{AreLawful, column_rows, readers-are, struct-chunk, struct-rows, struct_tree}

-- a struct of lawful columns that are long enough, as long as another
pub like-table : (t : ArrayTree) (columns : List ArrayTree) → (members_of t).length ≡ pos (tree_items t)
    → struct_like t columns ≡ struct_tree (tree_items t) columns
like-table t columns e = ap (λ len. Live (struct_members len) (trees columns) absent) e

pub like-chunk : (types : List KindTree) (t : ArrayTree) (columns : List ArrayTree) → (members_of t).length ≡ pos (tree_items t) → tree_items t ≤ 2 ^ 40
    → AreLawful types columns → All (λ column. tree_items t ≤ tree_items column) columns → ChunkOk (table_type types) (struct_like t columns)
like-chunk types t columns e few lawful long =
    subst (ChunkOk (table_type types)) (sym (like-table t columns e)) (struct-chunk types columns (tree_items t) lawful long few)

pub like-rows : (types : List KindTree) (t : ArrayTree) (columns : List ArrayTree) → (members_of t).length ≡ pos (tree_items t)
    → rows_of (table_type types) (struct_like t columns) ≡ column_rows types columns (tree_items t)
like-rows types t columns e = ap (rows_of (table_type types)) (like-table t columns e) ∙ struct-rows types columns (tree_items t)

-- ---- packed

module _ (types : List KindTree) (m : ArrayMembers) (ts : Trees ArrayMembers) (d : MaybeTree ArrayMembers)
    (live : AreLive types) (ok : LayoutOk (table_type types) (Live m ts d)) (rest picks : List ℕ)
    (a : AreWithin (length types) rest) (b : AreWithin (length types) picks) where
  abbrev cuts : List ℕ → List ArrayTree
  cuts some = map (cut_at (tree_list ts) (first m) (items m)) some

  pack-is : (facts : StructFacts types m (tree_list ts))
      → Packed (Live m ts d) rest picks ≡ struct_tree (items m) (cuts rest ++ struct_tree (items m) (cuts picks) ∷ [])
  pack-is facts = λ i.
      Live (struct_members (facts.length_is i))
      (trees (map (λ p. Window (get_or (tree_list ts) p Released) (facts.offset_is i) (facts.length_is i)) rest
      ++ cuts-are m ts d facts.offset_is facts.length_is picks i ∷ [])) absent

  inner : StructFacts types m (tree_list ts) → ChunkOk (table_type (picked Released picks types)) (struct_tree (items m) (cuts picks))
  inner facts =
      subst (ChunkOk (table_type (picked Released picks types))) (cuts-are m ts d facts.offset_is facts.length_is picks)
      (picked-chunk types m ts d live ok picks b)

  joined : (facts : StructFacts types m (tree_list ts)) → AreLawful (packed_types rest picks types) (cuts rest ++ struct_tree (items m) (cuts picks) ∷ [])
  joined facts =
      lawful-append (picked Released rest types) (cuts rest) (table_type (picked Released picks types) ∷ []) (struct_tree (items m) (cuts picks) ∷ [])
      (cut-lawful types (tree_list ts) (first m) (items m) (facts-cut types m (tree_list ts) live facts) rest a) (tt, (inner facts).0, tt)

  pub pack-chunk : ChunkOk (table_type (packed_types rest picks types)) (Packed (Live m ts d) rest picks)
  pack-chunk =
      let facts = struct-facts types m ts d ok in
      subst (ChunkOk (table_type (packed_types rest picks types))) (sym (pack-is facts))
      (struct-chunk (packed_types rest picks types) (cuts rest ++ struct_tree (items m) (cuts picks) ∷ []) (items m) (joined facts)
      (all-append (λ column. items m ≤ tree_items column) (cuts rest) (struct_tree (items m) (cuts picks) ∷ [])
      (cut-long types (tree_list ts) (first m) (items m) (facts-cut types m (tree_list ts) live facts) rest a)
      (All-cons (λ column. items m ≤ tree_items column) (struct_tree (items m) (cuts picks)) [] (omega arith)
      (All-nil (λ column. items m ≤ tree_items column))))
      (let e = facts.few in omega (arith, e)))

  some-row : (some : List ℕ) → AreWithin (length types) some → (i : ℕ)
      → field_items (map value_at (picked Released some types)) (cuts some) i ≡ picked Null some (row_items (table_type types) (Live m ts d) i)
  some-row some within i =
      let facts = struct-facts types m ts d ok in
      cut-row types (tree_list ts) (first m) (items m) (facts-cut types m (tree_list ts) live facts) some within i
      ∙ row-picked types (tree_list ts) (first m + i) facts.count some within

  pack-row : (facts : StructFacts types m (tree_list ts)) (i : ℕ)
      → field_items (map value_at (packed_types rest picks types)) (cuts rest ++ struct_tree (items m) (cuts picks) ∷ []) i
      ≡ packed rest picks (row_items (table_type types) (Live m ts d) i)
  pack-row facts i =
      let place : 0 + i ≡ i = omega arith in
      row-append (picked Released rest types) (cuts rest) (table_type (picked Released picks types) ∷ []) (struct_tree (items m) (cuts picks) ∷ []) i
      (cut-lawful types (tree_list ts) (first m) (items m) (facts-cut types m (tree_list ts) live facts) rest a)
      ∙ (λ t. some-row rest a i t ++ value_at (table_type (picked Released picks types)) (struct_tree (items m) (cuts picks)) i ∷ [])
      ∙ ap (λ vs. picked Null rest (row_items (table_type types) (Live m ts d) i) ++ Fields (values vs) ∷ [])
      (ap (λ k. field_items (readers (trees (picked Released picks types))) (tree_list (trees (cuts picks))) k) place
      ∙ (λ t. field_items (readers-are (picked Released picks types) t) (tree_list-trees (cuts picks) t) i)
      ∙ some-row picks b i)

  pub pack-rows : rows_of (table_type (packed_types rest picks types)) (Packed (Live m ts d) rest picks)
      ≡ map (packed rest picks) (rows_of (table_type types) (Live m ts d))
  pack-rows =
      let facts = struct-facts types m ts d ok in
      ap (rows_of (table_type (packed_types rest picks types))) (pack-is facts)
      ∙ struct-rows (packed_types rest picks types) (cuts rest ++ struct_tree (items m) (cuts picks) ∷ []) (items m)
      ∙ each-same (field_items (map value_at (packed_types rest picks types)) (cuts rest ++ struct_tree (items m) (cuts picks) ∷ []))
      (λ i. packed rest picks (row_items (table_type types) (Live m ts d) i)) 0 0 (items m) (λ i lt. pack-row facts (0 + i))
      ∙ sym (map-each (packed rest picks) (row_items (table_type types) (Live m ts d)) 0 (items m))

-- ---- unpacked

at-each : {X : Type 0} → (P : X → Type 0) (f : ℕ → X) (a n : ℕ) → All P (each f a n) → (i : ℕ) → i < n → P (f (a + i))
at-each P f a zero all i lt = absurd (omega (arith, lt))
at-each P f a (suc n) all zero lt = let e : a ≡ a + 0 = omega arith in subst (λ k. P (f k)) e (All-head P (f a) (each f (suc a) n) all)
at-each P f a (suc n) all (suc i) lt =
    let e : suc a + i ≡ a + suc i = omega arith in subst (λ k. P (f k)) e
    (at-each P f (suc a) n (All-tail P (f a) (each f (suc a) n) all) i (omega (arith, lt)))

get-cut : (cs : List ArrayTree) (off len : ℤ) (p : ℕ) → p < length cs
    → get_or (map (λ c. Window c off len) cs) p Released ≡ Window (get_or cs p Released) off len
get-cut [] off len p lt = absurd (omega (arith, lt))
get-cut (c ∷ cs) off len zero lt = refl
get-cut (c ∷ cs) off len (suc p) lt = get-cut cs off len p (omega (arith, lt))

lawful-at : (types : List KindTree) (cs : List ArrayTree) (p : ℕ) → AreLawful types cs → p < length types
    → LayoutOk (get_or types p Released) (get_or cs p Released)
lawful-at [] cs p a lt = absurd (omega (arith, lt))
lawful-at (type ∷ types) [] p a lt = absurd a
lawful-at (type ∷ types) (c ∷ cs) zero a lt = a.1
lawful-at (type ∷ types) (c ∷ cs) (suc p) a lt = lawful-at types cs p a.2 (omega (arith, lt))

long-at : (n : ℕ) (types : List KindTree) (cs : List ArrayTree) (p : ℕ) → AreLawful types cs → All (λ column. n ≤ tree_items column) cs → p < length types
    → n ≤ tree_items (get_or cs p Released)
long-at n [] cs p a all lt = absurd (omega (arith, lt))
long-at n (type ∷ types) [] p a all lt = absurd a
long-at n (type ∷ types) (c ∷ cs) zero a all lt = All-head (λ column. n ≤ tree_items column) c cs all
long-at n (type ∷ types) (c ∷ cs) (suc p) a all lt = long-at n types cs p a.2 (All-tail (λ column. n ≤ tree_items column) c cs all) (omega (arith, lt))

item-at : (types : List KindTree) (cs : List ArrayTree) (i p : ℕ) → AreLawful types cs → p < length types
    → get_or (field_items (map value_at types) cs i) p Null ≡ value_at (get_or types p Released) (get_or cs p Released) i
item-at [] cs i p a lt = absurd (omega (arith, lt))
item-at (type ∷ types) [] i p a lt = absurd a
item-at (type ∷ types) (c ∷ cs) i zero a lt = refl
item-at (type ∷ types) (c ∷ cs) i (suc p) a lt = item-at types cs i p a.2 (omega (arith, lt))

all-longer : (n k : ℕ) (cs : List ArrayTree) → n ≤ k → All (λ column. k ≤ tree_items column) cs → All (λ column. n ≤ tree_items column) cs
all-longer n k [] le all = All-nil (λ column. n ≤ tree_items column)
all-longer n k (c ∷ cs) le all =
    let head = All-head (λ column. k ≤ tree_items column) c cs all in
    All-cons (λ column. n ≤ tree_items column) c cs (omega (arith, le, head)) (all-longer n k cs le (All-tail (λ column. k ≤ tree_items column) c cs all))

-- ---- the struct's columns in its place
module _ (types fields : List KindTree) (t : ArrayTree) (place : ℕ)
    (live : AreLive types) (live_fields : AreLive fields) (ok : LayoutOk (table_type types) t) (lt : place < length types)
    (is : get_or types place Released ≡ table_type fields) where
  abbrev one : ArrayTree
  one = get_or (cut_children t) place Released

  abbrev unpacked-columns : List ArrayTree
  unpacked-columns = take place (cut_children t) ++ cut_children one ++ drop (place + 1) (cut_children t)

  one-lawful : CutFacts types t → LayoutOk (table_type fields) one
  one-lawful facts = subst (λ type. LayoutOk type one) is (lawful-at types (cut_children t) place facts.lawful lt)

  one-facts : CutFacts types t → CutFacts fields one
  one-facts facts = cut-facts fields one live_fields (one-lawful facts)

  front-lawful : CutFacts types t → AreLawful (take place types ++ fields) (take place (cut_children t) ++ cut_children one)
  front-lawful facts =
      lawful-append (take place types) (take place (cut_children t)) fields (cut_children one) (lawful-take place types (cut_children t) facts.lawful)
      (one-facts facts).lawful

  unpack-lawful : CutFacts types t → AreLawful (unpacked_types place fields types) unpacked-columns
  unpack-lawful facts =
      lawful-append (take place types ++ fields) (take place (cut_children t) ++ cut_children one) (drop (place + 1) types)
      (drop (place + 1) (cut_children t))
      (front-lawful facts) (lawful-drop (place + 1) types (cut_children t) facts.lawful)

  unpack-long : CutFacts types t → All (λ column. tree_items t ≤ tree_items column) unpacked-columns
  unpack-long facts =
      all-append (λ column. tree_items t ≤ tree_items column) (take place (cut_children t) ++ cut_children one) (drop (place + 1) (cut_children t))
      (all-append (λ column. tree_items t ≤ tree_items column) (take place (cut_children t)) (cut_children one)
      (all-take (λ column. tree_items t ≤ tree_items column) place (cut_children t) facts.long)
      (all-longer (tree_items t) (tree_items one) (cut_children one) (long-at (tree_items t) types (cut_children t) place facts.lawful facts.long lt)
      (one-facts facts).long))
      (all-drop (λ column. tree_items t ≤ tree_items column) (place + 1) (cut_children t) facts.long)

  pub unpack-chunk : ChunkOk (table_type (unpacked_types place fields types)) (Unpacked t place)
  unpack-chunk =
      let facts = cut-facts types t live ok in
      like-chunk (unpacked_types place fields types) t unpacked-columns facts.length_is facts.few (unpack-lawful facts) (unpack-long facts)

  abbrev row : ℕ → List Value
  row i = row_items (table_type types) t i

  one-value : (facts : CutFacts types t) (i : ℕ) → get_or (row i) place Null ≡ value_at (table_type fields) one i
  one-value facts i =
      ap (λ vs. get_or vs place Null) (sym (facts.row i))
      ∙ item-at types (cut_children t) i place facts.lawful lt
      ∙ ap (λ type. value_at type one i) is

  unpack-row : (facts : CutFacts types t) (i : ℕ) → IsFields (get_or (row i) place Null)
      → field_items (map value_at (unpacked_types place fields types)) unpacked-columns i ≡ unpacked place (row i)
  unpack-row facts i item =
      row-append (take place types ++ fields) (take place (cut_children t) ++ cut_children one) (drop (place + 1) types)
      (drop (place + 1) (cut_children t)) i (front-lawful facts)
      ∙ ap (λ vs. vs ++ field_items (map value_at (drop (place + 1) types)) (drop (place + 1) (cut_children t)) i)
      (row-append (take place types) (take place (cut_children t)) fields (cut_children one) i (lawful-take place types (cut_children t) facts.lawful))
      ∙ (λ k. (row-take place types (cut_children t) i facts.lawful ∙ ap (take place) (facts.row i)) k
      ++ (inner-row facts i item) k
      ++ (row-drop (place + 1) types (cut_children t) i facts.lawful ∙ ap (drop (place + 1)) (facts.row i)) k)
    where
      inner-row : (facts : CutFacts types t) (i : ℕ) → IsFields (get_or (row i) place Null)
          → field_items (map value_at fields) (cut_children one) i ≡ fields_of (get_or (row i) place Null)
      inner-row facts i item =
          (one-facts facts).row i
          ∙ sym (struct-item fields one i (subst IsFields (one-value facts i) item))
          ∙ ap fields_of (sym (one-value facts i))

  pub unpack-rows : All (λ r. IsFields (get_or r place Null)) (rows_of (table_type types) t)
      → rows_of (table_type (unpacked_types place fields types)) (Unpacked t place) ≡ map (unpacked place) (rows_of (table_type types) t)
  unpack-rows all =
      let facts = cut-facts types t live ok in
      like-rows (unpacked_types place fields types) t unpacked-columns facts.length_is
      ∙ each-same (field_items (map value_at (unpacked_types place fields types)) unpacked-columns) (λ i. unpacked place (row i)) 0 0 (tree_items t)
      (λ i lt. unpack-row facts (0 + i) (at-each (λ r. IsFields (get_or r place Null)) row 0 (tree_items t) all i lt))
      ∙ sym (map-each (unpacked place) row 0 (tree_items t))
