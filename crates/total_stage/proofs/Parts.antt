-- The totals of some rows of a chunk, and of pieces of rows one behind the other.
use Rattle.std.proofs.Common.{arith, ◌≡◌, ◌∙◌, ◌≤◌, ◌<◌, ◌+◌, ◌-◌, ◌++◌, ◌^◌, ℕ, zero, suc, List, [], length, take, drop, get_or, sym, ap, subst, append_assoc}
use Rattle.std.specs.Prelude.{Vec}
use Rattle.std.specs.Global.{Global}
use Rattle.std.specs.List.{filter_map}
use Rattle.std.proofs.lemmas.List.{length-append, length-take}
use Rattle.data_types.specs.promise.Table.{Row}
use Rattle.data_types.specs.promise.Value.{Null}
use Rattle.raw_array.specs.promise.Members.{ArrayTree}
use Rattle.data_types.specs.promise.KindTrees.{KindTree}
use Rattle.layout_rules.specs.promise.Values.{each, row_items, rows_of, tree_items}
use Rattle.array_laws.specs.Pieces.{border, joined_pieces}
use Rattle.array_laws.proofs.WindowItems.{part-each}
use Rattle.arr_import.specs.Window.{Window, item_at}
use Rattle.column_fill.proofs.Counts.{count-is}
use Rattle.stage_model.specs.promise.Stages.{number_if}
use Rattle.stage_model.specs.Stages.{numbers_at}
use Rattle.total_stage.specs.Sums.{AreParts, AreSums, CanSum, rows_between}
use Rattle.total_stage.specs.Totals.{IsSmallItem, numbers_in}
use Rattle.total_stage.specs.declared.numbers.Totals.{Totals}
use Rattle.total_stage.proofs.Joining.{values-each}

-- ---- some rows of a chunk

between-are : (typed : KindTree) (chunk : ArrayTree) (from to : ℕ) → from ≤ to → to ≤ length (rows_of typed chunk)
    → rows_between from to (rows_of typed chunk) ≡ each (row_items typed chunk) from (to - from)
between-are typed chunk from to order inside =
    let e : 0 + from ≡ from = omega arith in
    part-each (row_items typed chunk) 0 (tree_items chunk) from (to - from) (omega (arith, order, inside, count-is typed chunk))
    ∙ ap (λ (a : ℕ). each (row_items typed chunk) a (to - from)) e

-- the numbers of a column of them are those of the items of its child
pub numbers-between : (place : ℕ) (typed : KindTree) (chunk : ArrayTree) (own : Window) (from to : ℕ) → from ≤ to → to ≤ length (rows_of typed chunk)
    → ((i : ℕ) → get_or (row_items typed chunk i) place Null ≡ item_at own i)
    → numbers_in own from (to - from) ≡ numbers_at place (rows_between from to (rows_of typed chunk))
numbers-between place typed chunk own from to order inside same =
    sym (ap (numbers_at place) (between-are typed chunk from to order inside)
    ∙ ap (filter_map number_if) (values-each place (row_items typed chunk) (item_at own) from (to - from) same))

pub row-there : (f : ℕ → Row) (from n i : ℕ) (d : Row) → i < n → get_or (each f from n) i d ≡ f (from + i)
row-there f from zero i d small = absurd (omega (arith, small))
row-there f from (suc n) zero d small = let e : from ≡ from + 0 = omega arith in ap f e
row-there f from (suc n) (suc i) d small =
    let e : suc from + i ≡ from + suc i = omega arith in
    row-there f (suc from) n i d (omega (arith, small)) ∙ ap f e

-- and small, as the numbers of the rows are
pub small-items : (picks : List ℕ) (typed : KindTree) (chunk : ArrayTree) (own : Window) (k : ℕ) → CanSum picks typed (rows_of typed chunk)
    → k < length picks → own.count ≡ tree_items chunk
    → ((i : ℕ) → get_or (row_items typed chunk i) (get_or picks k 0) Null ≡ item_at own i)
    → (i : ℕ) → i < own.count → IsSmallItem (item_at own i)
small-items picks typed chunk own k can inside count same i small =
    let within : i < tree_items chunk = omega (arith, count, small) in
    let e : 0 + i ≡ i = omega arith in
    let here : get_or (rows_of typed chunk) i [] ≡ row_items typed chunk i =
    row-there (row_items typed chunk) 0 (tree_items chunk) i [] within ∙ ap (row_items typed chunk) e in
    subst IsSmallItem (ap (λ (row : Row). get_or row (get_or picks k 0) Null) here ∙ same i)
    (can.small k i inside (omega (arith, within, count-is typed chunk)))

-- ---- pieces one behind the other

module _ (rows : List Row) (workers : ℕ) (rising : (w : ℕ) → border (length rows) workers w ≤ border (length rows) workers (w + 1)) where
  abbrev from : ℕ → ℕ
  from = border (length rows) workers

  short : (n : ℕ) (xs : List Row) → length (take n xs) ≤ n
  short n xs = omega (arith, length-take n xs)

  joined-short : (w : ℕ) → length (joined_pieces from rows w) ≤ from w
  joined-short zero = omega arith
  joined-short (suc w) =
      let next : w + 1 ≡ suc w = omega arith in
      let last = ap from next in
      let piece = take (from (suc w) - from w) (drop (from w) rows) in
      omega (arith, length-append (joined_pieces from rows w) piece, short (from (suc w) - from w) (drop (from w) rows), joined-short w, rising w, last)

  -- the rows of the pieces so far and of the next one are few
  pub few-joined : (before : List Row) (w : ℕ) → length before + length rows ≤ 2 ^ 30 → from w + (from (w + 1) - from w) ≤ length rows
      → length (before ++ joined_pieces from rows w) + length (rows_between (from w) (from (w + 1)) rows) ≤ 2 ^ 30
  few-joined before w few fit =
      omega (
        arith,
        length-append before (joined_pieces from rows w),
        short (from (w + 1) - from w) (drop (from w) rows),
        joined-short w,
        rising w,
        few,
        fit,
      )

  -- one piece more
  pub joined-next : (before : List Row) (w : ℕ)
      → (before ++ joined_pieces from rows w) ++ rows_between (from w) (from (w + 1)) rows ≡ before ++ joined_pieces from rows (w + 1)
  joined-next before w =
      let next : w + 1 ≡ suc w = omega arith in
      append_assoc before (joined_pieces from rows w) (rows_between (from w) (from (w + 1)) rows)
      ∙ ap (λ (more : List Row). before ++ more)
      (ap (λ (n : ℕ). joined_pieces from rows w ++ take (from n - from w) (drop (from w) rows)) next ∙ ap (joined_pieces from rows) (sym next))

-- the totals of one piece
pub part-is : (picks : List ℕ) (rows : List Row) (workers : ℕ) (parts : List (Vec Totals Global)) (w : ℕ) (part : Vec Totals Global)
    → AreParts picks rows workers parts → w < length parts → part ≡ get_or parts w part
    → AreSums part.items picks (rows_between (border (length rows) workers w) (border (length rows) workers (w + 1)) rows)
part-is picks rows workers parts w part are inside is =
    subst (λ (v : Vec Totals Global). AreSums v.items picks (rows_between (border (length rows) workers w) (border (length rows) workers (w + 1)) rows))
    (sym is)
    (are.1 w part (omega (arith, inside, are.0)))
