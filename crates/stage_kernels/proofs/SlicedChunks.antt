-- What a slice makes of a chunk, and of the chunks behind it.
use Rattle.std.proofs.Common.{arith, ◌≡◌, ◌≤◌, ◌<◌, ◌+◌, ◌-◌, ◌^◌, ◌∙◌, ℕ, ℤ, pos, List, [], ◌∷◌, length, take, drop, map, get_or, Option, None, Some, refl, sym, ap, subst}
use Rattle.std.proofs.Common.{if◌then◌else◌, ◌&&◌, inl, inr, true, false}
use Rattle.std.specs.Prelude.{nat_le, nat_lt}
use Rattle.std.proofs.lemmas.Bool.{cases_eq, cases_lt, eq-eqb, le-leb, le-ltb, lt-leb, lt-ltb, ne_eqb}
use Rattle.std.proofs.lemmas.List.{length-drop, length-take}
use Rattle.data_types.specs.ColumnView.{column_of}
use Rattle.data_types.specs.promise.Table.{Column, Row}
use Rattle.data_types.specs.declared.kind.ColumnType.{ColumnType}
use Rattle.tree_model.specs.promise.TreeParts.{IsLive, children_of}
use Rattle.tree_model.specs.promise.TreeData.{Live, Released}
use Rattle.raw_array.specs.promise.Members.{ArrayTree, Cost}
use Rattle.raw_array.specs.Members.{windowed}
use Rattle.raw_array.specs.Windows.{Window, is_whole}
use Rattle.data_types.specs.promise.ColumnKinds.{type_of_columns}
use Rattle.data_types.specs.promise.KindTrees.{KindTree}
use Rattle.layout_rules.specs.promise.Values.{rows_of, tree_items}
use Rattle.layout_rules.specs.promise.Walk.{ChunkOk, LayoutOk}
use Rattle.stage_model.specs.promise.Stages.{sliced, sliced_chunks, unless_empty}
use Rattle.stage_model.specs.Stages.{is_within, window_end, window_start}
use Rattle.stream_face.specs.Lawful.{DictsAreFull, IsChunkOf}
use Rattle.unit_pass.specs.Tally.{Tally}
use Rattle.stages.specs.Steps.{IsNext, Pushes}
use Rattle.stages.proofs.CutColumns.{window-children}
use Rattle.stage_kernels.specs.Slices.{kept_count, kept_part}

-- ---- rows that are counted off

le-off : (off k n : ℕ) → nat_le off (k + n) ≡ nat_le (off - n) k
le-off off k n = elim (cases_lt (k + n) off) [
  | inl h ↦ lt-leb off (k + n) h ∙ sym (lt-leb (off - n) k (omega (arith, h)))
  | inr h ↦ le-leb off (k + n) h ∙ sym (le-leb (off - n) k (omega (arith, h)))
]

lt-off : (off len k n : ℕ) → nat_lt (k + n) (off + len) ≡ nat_lt k ((off - n) + (len - (n - off)))
lt-off off len k n = elim (cases_lt (k + n) (off + len)) [
  | inl h ↦ lt-ltb (k + n) (off + len) h ∙ sym (lt-ltb k ((off - n) + (len - (n - off))) (omega (arith, h)))
  | inr h ↦ le-ltb (k + n) (off + len) h ∙ sym (le-ltb k ((off - n) + (len - (n - off))) (omega (arith, h)))
]

within-off : (off len k n : ℕ) → is_within off len (k + n) ≡ is_within (off - n) (len - (n - off)) k
within-off off len k n = λ i. le-off off k n i && lt-off off len k n i

sliced-off : (off len k n : ℕ) (rows : List Row) → sliced off len (k + n) rows ≡ sliced (off - n) (len - (n - off)) k rows
sliced-off off len k n [] = refl
sliced-off off len k n (row ∷ rows) =
    let next : k + n + 1 ≡ k + 1 + n = omega arith in
    let rest = ap (λ m. sliced off len m rows) next ∙ sliced-off off len (k + 1) n rows in
    λ i. if within-off off len k n i then row ∷ rest i else rest i

-- chunks that come behind n rows are sliced as by a window that begins n rows earlier
chunks-off : (off len k n : ℕ) (chunks : List (List Row)) → sliced_chunks off len (k + n) chunks ≡ sliced_chunks (off - n) (len - (n - off)) k chunks
chunks-off off len k n [] = refl
chunks-off off len k n (rows ∷ chunks) =
    let next : k + n + length rows ≡ k + length rows + n = omega arith in
    let rest = ap (λ m. sliced_chunks off len m chunks) next ∙ chunks-off off len (k + length rows) n chunks in
    λ i. unless_empty (sliced-off off len k n rows i) (rest i)

-- ---- a chunk

-- what the laws say of all slices, and of all trees
abbrev pub Windows : Type 0
Windows = (off len number : ℕ) (rows : List Row) →
    let start = window_start off number (length rows) in
    sliced off len number rows ≡ take (window_end off len number (length rows) - start) (drop start rows)

pub record WindowLaws : Type 0 where
  pub chunk : (typed : KindTree) (t : ArrayTree) (off len : ℕ) → off + len ≤ tree_items t → ChunkOk typed t → ChunkOk typed (Window t (pos off) (pos len))
  pub rows : (typed : KindTree) (t : ArrayTree) (off len : ℕ) → off + len ≤ tree_items t → LayoutOk typed t
      → rows_of typed (Window t (pos off) (pos len)) ≡ take len (drop off (rows_of typed t))
  pub cost : (t : ArrayTree) (off len : ℤ) → Cost (Window t off len) ≡ Cost t
  pub count : (typed : KindTree) (t : ArrayTree) → length (rows_of typed t) ≡ tree_items t
  pub sliced : Windows

no-rows : (m : ℕ) (rows : List Row) → m ≡ 0 → take m rows ≡ []
no-rows m rows e = rw e refl

same-rows : (m n k l : ℕ) (rows : List Row) → m ≡ n → k ≡ l → take m (drop k rows) ≡ take n (drop l rows)
same-rows m n k l rows e f = rw (e, f) refl

none-kept : (skip keep : ℕ) (rows : List Row) → Windows → kept_count skip keep (length rows) ≡ 0 → sliced skip keep 0 rows ≡ []
none-kept skip keep rows law e =
    let none : window_end skip keep 0 (length rows) - window_start skip 0 (length rows) ≡ 0 = omega (arith, e) in
    law skip keep 0 rows ∙ no-rows _ (drop (window_start skip 0 (length rows)) rows) none

some-kept : (skip keep : ℕ) (rows : List Row) → Windows → 0 < kept_count skip keep (length rows)
    → sliced skip keep 0 rows ≡ take (kept_count skip keep (length rows)) (drop skip rows)
some-kept skip keep rows law h =
    let many : window_end skip keep 0 (length rows) - window_start skip 0 (length rows) ≡ kept_count skip keep (length rows) = omega (arith, h) in
    let from : window_start skip 0 (length rows) ≡ skip = omega (arith, h) in
    law skip keep 0 rows ∙ same-rows _ _ _ _ rows many from

unless-any : (rows : List Row) (chunks : List (List Row)) → 0 < length rows → unless_empty rows chunks ≡ rows ∷ chunks
unless-any [] chunks h = absurd (omega (arith, h))
unless-any (row ∷ rows) chunks h = refl

-- no row is kept of a chunk where nothing is given of it
none-left : (skip keep : ℕ) (t : ArrayTree) → kept_part skip keep t ≡ None → kept_count skip keep (tree_items t) ≡ 0
none-left skip keep t none = elim (cases_eq (kept_count skip keep (tree_items t)) 0) [
  | inl e ↦ e
  | inr h ↦ let k : None ≡ Some (Window t (pos skip) (pos (kept_count skip keep (tree_items t)))) = sym none ∙ part-some skip keep t h in absurd (cc)
]
  where
    part-some : (skip keep : ℕ) (t : ArrayTree) → (kept_count skip keep (tree_items t) ≡ 0 → ⊥)
        → kept_part skip keep t ≡ Some (Window t (pos skip) (pos (kept_count skip keep (tree_items t))))
    part-some skip keep t h = rw (ne_eqb (kept_count skip keep (tree_items t)) 0 h) refl

abbrev some_or : ArrayTree → Option ArrayTree → ArrayTree
some_or t None = t
some_or t (Some part) = part

-- what is given of it is a window
record IsPartOf (skip keep : ℕ) (t part : ArrayTree) : Type 0 where
  pub some : 0 < kept_count skip keep (tree_items t)
  pub window : part ≡ Window t (pos skip) (pos (kept_count skip keep (tree_items t)))

part-of : (skip keep : ℕ) (t part : ArrayTree) → Some part ≡ kept_part skip keep t → IsPartOf skip keep t part
part-of skip keep t part made = elim (cases_eq (kept_count skip keep (tree_items t)) 0) [
  | inl e ↦ let k : Some part ≡ None = made ∙ rw (eq-eqb (kept_count skip keep (tree_items t)) 0 e) refl in absurd (cc)
  | inr h ↦
      let k : Some part ≡ Some (Window t (pos skip) (pos (kept_count skip keep (tree_items t)))) =
      made ∙ rw (ne_eqb (kept_count skip keep (tree_items t)) 0 h) refl in
      record { some = omega (arith, h); window = ap (λ (o : Option ArrayTree). some_or t o) k }
]

-- ---- what is kept of a chunk
-- a chunk of which rows are kept is followed by what is kept of the others
after-chunk : (skip keep n : ℕ) (rows : List Row) (chunks : List (List Row)) → length rows ≡ n
    → sliced_chunks skip keep (0 + length rows) chunks ≡ sliced_chunks (skip - n) (keep - (n - skip)) 0 chunks
after-chunk skip keep n rows chunks e = ap (λ m. sliced_chunks skip keep (0 + m) chunks) e ∙ chunks-off skip keep 0 n chunks

-- a chunk of which none are kept leaves what is kept of the others
pub skipped-chunk : (skip keep n : ℕ) (rows : List Row) (chunks : List (List Row)) → Windows → length rows ≡ n → kept_count skip keep n ≡ 0
    → sliced_chunks skip keep 0 (rows ∷ chunks) ≡ sliced_chunks (skip - n) (keep - (n - skip)) 0 chunks
skipped-chunk skip keep n rows chunks law same none =
    let first = none-kept skip keep rows law (ap (kept_count skip keep) same ∙ none) in
    let rest = after-chunk skip keep n rows chunks same in
    λ i. unless_empty (first i) (rest i)

windowed-live : (t : ArrayTree) (off len : ℤ) → IsLive t → IsLive (windowed t off len)
windowed-live Released off len live = live
windowed-live (Live m ts d) off len live = tt

window-live : (t : ArrayTree) (off len : ℤ) → IsLive t → IsLive (Window t off len)
window-live t off len live =
    elim (is_whole t off len) as (λ w. IsLive (if w then t else windowed t off len)) [ true ↦ live | false ↦ windowed-live t off len live ]

-- ---- a call

-- what a slice does with a chunk of these columns and rows
pub slice-pushes : (before : List Column) (kept : List ColumnType) (skip keep next rest : ℕ) (t : ArrayTree) (rows : List Row) (more : List (List Row)) (typed : KindTree) (first last : Tally) (given : Option ArrayTree)
    → WindowLaws → map column_of kept ≡ before → IsNext before rows more typed t → given ≡ kept_part skip keep t → next ≡ skip - tree_items t
    → rest ≡ keep - (tree_items t - skip) → last.blocks ≡ first.blocks → last.nodes ≡ first.nodes → first.blocks < 2 ^ 64 → first.nodes < 2 ^ 64
    → Pushes (map column_of kept) (λ _. 0) (λ _. 0) (λ _ _. Unit {0}) (λ _. sliced_chunks skip keep 0 (rows ∷ more))
    (λ _. sliced_chunks next rest 0 more) (Unit {0}) true first last given
slice-pushes before kept skip keep next rest t rows more typed first last given laws columns here made from many same_blocks same_nodes b n =
    by-given given made
  where
    later : sliced_chunks (skip - tree_items t) (keep - (tree_items t - skip)) 0 more ≡ sliced_chunks next rest 0 more
    later = λ i. sliced_chunks (sym from i) (sym many i) 0 more

    size : length rows ≡ tree_items t
    size = ap (length {A = Row}) (sym here.is.rows_are) ∙ laws.count (type_of_columns before) t

    by-given : (given : Option ArrayTree) → given ≡ kept_part skip keep t
        → Pushes (map column_of kept) (λ _. 0) (λ _. 0) (λ _ _. Unit {0}) (λ _. sliced_chunks skip keep 0 (rows ∷ more))
        (λ _. sliced_chunks next rest 0 more) (Unit {0}) true first last given
    by-given None made = record {
      ahead = λ _. skipped-chunk skip keep (tree_items t) rows more laws.sliced size (none-left skip keep t (sym made)) ∙ later;
      takes = tt;
      blocks = same_blocks;
      nodes = same_nodes;
    }
    by-given (Some part) made =
        let is = part-of skip keep t part made in
        let typed = type_of_columns before in
        let count = kept_count skip keep (tree_items t) in
        let within : skip + count ≤ tree_items t = omega (arith, is.some) in
        let same = ap (kept_count skip keep) size in
        let some : sliced skip keep 0 rows ≡ take count (drop skip rows) =
        some-kept skip keep rows laws.sliced (omega (arith, is.some, same)) ∙ ap (λ m. take m (drop skip rows)) same in
        let taken = length-take count (drop skip rows) in
        let left = length-drop skip rows in
        let behind = after-chunk skip keep (tree_items t) rows more size in
        let kept_rows = take count (drop skip rows) in
        record {
          rows = kept_rows;
          ahead = λ _. (λ i. unless_empty (some i) (behind i))
              ∙ unless-any kept_rows (sliced_chunks (skip - tree_items t) (keep - (tree_items t - skip)) 0 more)
              (omega (arith, taken, left, is.some, size))
              ∙ ap (λ (cs : List (List Row)). kept_rows ∷ cs) later;
          is = subst (λ cs. IsChunkOf cs kept_rows part) (sym columns) (record {
            ok = subst (ChunkOk typed) (sym is.window) (laws.chunk typed t skip count within here.is.ok);
            rows_are = ap (rows_of typed) is.window ∙ laws.rows typed t skip count within here.is.ok.0
                ∙ ap (λ rs. take count (drop skip rs)) here.is.rows_are;
            small = let e = ap Cost is.window in let f = laws.cost t (pos skip) (pos count) in omega (arith, e, f, here.is.small);
            dicts = λ k none inside.
                let children = ap children_of is.window ∙ window-children t (pos skip) (pos count) in
                subst (λ cs. DictsAreFull (get_or before k none).kind (get_or cs k Released)) (sym children) (here.is.dicts k none inside);
          });
          live = subst IsLive (sym is.window) (window-live t (pos skip) (pos count) here.live);
          gives = tt;
          rests = refl;
          blocks = omega (arith, same_blocks, b);
          nodes = omega (arith, same_nodes, n);
        }
