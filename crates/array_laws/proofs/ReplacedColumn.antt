-- Another column in the place of one.
use Rattle.std.proofs.Common.{◌≡◌, ◌∙◌, ℕ, zero, suc, ◌+◌, ◌<◌, ◌≤◌, List, [], ◌∷◌, ◌++◌, length, map, get_or, take, drop, refl, ap, sym, arith}
use Rattle.std.proofs.lemmas.List.Elements.{All-cons}
use Rattle.data_types.specs.promise.Value.{Value, Null}
use Rattle.tree_model.specs.promise.TreeParts.{IsLive}
use Rattle.raw_array.specs.promise.Members.{ArrayTree}
use Rattle.data_types.specs.promise.KindTrees.{KindTree}
use Rattle.layout_rules.specs.promise.Values.{each, field_items, row_items, rows_of, tree_items, value_at, values_of}
use Rattle.layout_rules.specs.promise.Walk.{ChunkOk, LayoutOk}
use Rattle.data_types.specs.ColumnKinds.{table_type}
use Rattle.array_laws.proofs.PackedColumns.{like-chunk, like-rows}
use Rattle.array_laws.proofs.PickedColumns.{map-each}
use Rattle.array_laws.proofs.StructRows.{CutFacts, all-append, all-drop, all-take, cut-facts, lawful-append, lawful-drop, lawful-take, row-append, row-drop}
use Rattle.array_laws.proofs.StructRows.{row-take}
use Rattle.array_laws.proofs.WindowItems.{each-same, length-each}
use Rattle.data_types.specs.promise.Parts.{replaced}
use Rattle.array_laws.specs.Picking.{AreLive, Replaced, cut_children}
use Rattle.array_laws.proofs.StructLaw.{AreLawful}

value-there : {X : Type 0} → (f : ℕ → X) (a n i : ℕ) (d : X) → i < n → get_or (each f a n) i d ≡ f (a + i)
value-there f a zero i d lt = absurd (omega (arith, lt))
value-there f a (suc n) zero d lt = let e : a ≡ a + 0 = omega arith in ap f e
value-there f a (suc n) (suc i) d lt = let e : suc a + i ≡ a + suc i = omega arith in value-there f (suc a) n i d (omega (arith, lt)) ∙ ap f e

-- the same item in the place of one changes nothing
same-again : {X : Type 0} → (xs : List X) (p : ℕ) (d : X) → p < length xs → replaced p (get_or xs p d) xs ≡ xs
same-again [] p d lt = absurd (omega (arith, lt))
same-again (x ∷ xs) zero d lt = refl
same-again (x ∷ xs) (suc p) d lt =
    let e : suc p + 1 ≡ suc (p + 1) = omega arith in
    ap (λ n. (x ∷ take p xs) ++ get_or xs p d ∷ drop n (x ∷ xs)) e ∙ ap (λ ys. x ∷ ys) (same-again xs p d (omega (arith, lt)))

row-long : (types : List KindTree) (cs : List ArrayTree) (i : ℕ) → AreLawful types cs → length (field_items (map value_at types) cs i) ≡ length types
row-long [] [] i a = refl
row-long [] (c ∷ cs) i a = absurd a
row-long (type ∷ types) [] i a = absurd a
row-long (type ∷ types) (c ∷ cs) i a = ap suc (row-long types cs i a.2)

-- ---- the table with the new column
module _ (types : List KindTree) (t : ArrayTree) (place : ℕ) (type : KindTree) (column : ArrayTree)
    (live : AreLive types) (ok : LayoutOk (table_type types) t) (one_live : IsLive type) (one_ok : LayoutOk type column) where
  new-lawful : CutFacts types t → AreLawful (replaced place type types) (replaced place column (cut_children t))
  new-lawful facts =
      lawful-append (take place types) (take place (cut_children t)) (type ∷ drop (place + 1) types) (column ∷ drop (place + 1) (cut_children t))
      (lawful-take place types (cut_children t) facts.lawful)
      (one_live, one_ok, lawful-drop (place + 1) types (cut_children t) facts.lawful)

  pub replaced-chunk : tree_items t ≤ tree_items column → ChunkOk (table_type (replaced place type types)) (Replaced t place column)
  replaced-chunk long =
      let facts = cut-facts types t live ok in
      like-chunk (replaced place type types) t (replaced place column (cut_children t)) facts.length_is facts.few (new-lawful facts)
      (all-append (λ c. tree_items t ≤ tree_items c) (take place (cut_children t)) (column ∷ drop (place + 1) (cut_children t))
      (all-take (λ c. tree_items t ≤ tree_items c) place (cut_children t) facts.long)
      (All-cons (λ c. tree_items t ≤ tree_items c) column (drop (place + 1) (cut_children t)) long
      (all-drop (λ c. tree_items t ≤ tree_items c) (place + 1) (cut_children t) facts.long)))

  abbrev row : ℕ → List Value
  row i = row_items (table_type types) t i

  replaced-row : (facts : CutFacts types t) (i : ℕ)
      → field_items (map value_at (replaced place type types)) (replaced place column (cut_children t)) i ≡ replaced place (value_at type column i) (row i)
  replaced-row facts i =
      row-append (take place types) (take place (cut_children t)) (type ∷ drop (place + 1) types) (column ∷ drop (place + 1) (cut_children t)) i
      (lawful-take place types (cut_children t) facts.lawful)
      ∙ (λ k. (row-take place types (cut_children t) i facts.lawful ∙ ap (take place) (facts.row i)) k
      ++ value_at type column i ∷ (row-drop (place + 1) types (cut_children t) i facts.lawful ∙ ap (drop (place + 1)) (facts.row i)) k)

  -- a column with the same values leaves the rows as they are
  pub replaced-rows : place < length types → values_of type column ≡ map (λ r. get_or r place Null) (rows_of (table_type types) t)
      → rows_of (table_type (replaced place type types)) (Replaced t place column) ≡ rows_of (table_type types) t
  replaced-rows lt same =
      let facts = cut-facts types t live ok in
      let n = tree_items t in
      let values : each (value_at type column) 0 (tree_items column) ≡ each (λ i. get_or (row i) place Null) 0 n =
      same ∙ map-each (λ r. get_or r place Null) row 0 n in
      let items : tree_items column ≡ n =
      sym (length-each (value_at type column) 0 (tree_items column)) ∙ ap length values ∙ length-each (λ i. get_or (row i) place Null) 0 n in
      like-rows (replaced place type types) t (replaced place column (cut_children t)) facts.length_is
      ∙ each-same (field_items (map value_at (replaced place type types)) (replaced place column (cut_children t))) row 0 0 n (λ i below.
      let value : value_at type column (0 + i) ≡ get_or (row (0 + i)) place Null =
      sym (value-there (value_at type column) 0 (tree_items column) i Null (omega (arith, below, items)))
      ∙ ap (λ vs. get_or vs i Null) values ∙ value-there (λ k. get_or (row k) place Null) 0 n i Null below in
      let long : length (row (0 + i)) ≡ length types = ap length (sym (facts.row (0 + i))) ∙ row-long types (cut_children t) (0 + i) facts.lawful in
      replaced-row facts (0 + i) ∙ ap (λ v. replaced place v (row (0 + i))) value ∙ same-again (row (0 + i)) place Null (omega (arith, lt, long)))
