-- A union that is made of columns meets all rules, and its items are those of its columns.
use Rattle.std.proofs.Common.{◌≡◌, ℕ, zero, suc, ◌+◌, ◌*◌, ◌^◌, ◌<◌, ◌≤◌, Bool, true, false, pos, not, List, [], ◌∷◌, length, get_or, Option, None, Some, refl, ap, sym, ◌∙◌, subst, arith}
use Rattle.std.specs.Prelude.{if◌then◌else◌, ◌&&◌, ◌==◌, is_some, is_none, nat_lt, IsTrue}
use Rattle.std.specs.List.{AllZip}
use Rattle.std.specs.Option.{option_or}
use Rattle.std.proofs.lemmas.Bool.{le-ltb, lt-ltb, eq-eqb}
use Rattle.tree_model.specs.promise.TreeData.{Released, Live, trees, absent, tree_list}
use Rattle.tree_model.specs.promise.TreeParts.{child_at}
use Rattle.tree_model.proofs.Lists.{tree_list-trees}
use Rattle.raw_array.specs.promise.Members.{ArrayMembers, ArrayTree, bytes_in, members_of}
use Rattle.data_types.specs.promise.Packed.{meant, number_at}
use Rattle.data_types.specs.promise.KindTrees.{KindTree}
use Rattle.layout_rules.specs.declared.rule.Numbers.{Numbers}
use Rattle.layout_rules.specs.promise.Layout.{bytes, bytes_or_none, end, first, natural}
use Rattle.layout_rules.specs.promise.Rules.{fault_if, first_below, count_wrong, child_short, short_child, live_length, is_outside, window_limit}
use Rattle.layout_rules.specs.promise.Values.{value_at}
use Rattle.layout_rules.specs.promise.Walk.{LayoutOk, first_fault}
use Rattle.layout_rules.proofs.Lawful.{lawful-first_fault}
use Rattle.array_laws.proofs.NodeParts.{both-none, no-fault, below-none}
use Rattle.root_check.specs.declared.own.OwnRule.TheVariants as own_rules
use Rattle.root_check.specs.promise.OwnRules.{own_fault}
use Rattle.root_check.specs.OwnRules.{own_found}
use Rattle.root_check.specs.promise.Children.{children_fault}
use Rattle.root_check.specs.Children.{at_child}
use Rattle.union_cols.specs.promise.Unions.{UnionTree, id_at, start_at, child_of, child_number, or_zero, union_value}
use Rattle.union_cols.specs.Unions.{item_number}
use Rattle.union_cols.specs.promise.UnionRules.{BufferAbsent, BufferShort, BadTypeId, ChildShort, OffsetRange, WindowTooLong, need}
use Rattle.union_cols.specs.UnionRules.{buffer_absent, buffer_count, buffer_short, child_rule, own_rule}
use Rattle.union_cols.specs.promise.UnionRules.{bad_id, bad_start, union_fault}
use Rattle.root_check.specs.promise.Found.{by}
use Rattle.union_cols.specs.Tags.{block_of, numbers, start_bytes, tag_members}
use Rattle.union_cols.proofs.Numbering.{length-starts, meant-byte, number-of-byte, place-of-number, start-of-number}

-- ---- buffers

block-bytes : (bs : List ℕ) → bytes_or_none (bytes_in (block_of bs)) ≡ bs
block-bytes [] = refl
block-bytes (b ∷ bs) = refl

block-there : (bs : List ℕ) (needed k : ℕ) → needed ≤ length bs
    → fault_if (not (is_some (bytes_in (block_of bs))) && nat_lt 0 needed) k (pos 0) (pos needed) ≡ None
block-there [] zero k h = refl
block-there [] (suc n) k h = absurd (omega (arith, h))
block-there (b ∷ bs) needed k h = refl

block-long : (bs : List ℕ) (needed k : ℕ) → needed ≤ length bs
    → fault_if (is_some (bytes_in (block_of bs)) && nat_lt (length (bytes_or_none (bytes_in (block_of bs)))) needed) k
    (pos (length (bytes_or_none (bytes_in (block_of bs))))) (pos needed) ≡ None
block-long [] needed k h = refl
block-long (b ∷ bs) needed k h = no-fault (nat_lt (length (b ∷ bs)) needed) k (pos (length (b ∷ bs))) (pos needed) (le-ltb (length (b ∷ bs)) needed h)

-- this many items with these ids
module _ (n : ℕ) (ids : List ℕ) (long : length ids ≡ n) where
  abbrev own : Bool → ArrayMembers
  own dense = tag_members dense (pos n) ids

  pub ids-are : (dense : Bool) → bytes (own dense) 0 ≡ ids
  ids-are dense = block-bytes ids

  starts-are : bytes (own true) 1 ≡ start_bytes n
  starts-are = block-bytes (start_bytes (length ids)) ∙ ap start_bytes long

  absent-none : (dense : Bool) (k : ℕ) → k < buffer_count dense → buffer_absent (own dense) k ≡ None
  absent-none true zero h = block-there ids (need (own true) 0) 0 (omega (arith, long))
  absent-none true (suc zero) h = block-there (start_bytes (length ids)) (need (own true) 1) 1 (omega (arith, long, length-starts (length ids)))
  absent-none true (suc (suc k)) h = absurd (omega (arith, h))
  absent-none false zero h = block-there ids (need (own false) 0) 0 (omega (arith, long))
  absent-none false (suc k) h = absurd (omega (arith, h))

  short-none : (dense : Bool) (k : ℕ) → k < buffer_count dense → buffer_short (own dense) k ≡ None
  short-none true zero h = block-long ids (need (own true) 0) 0 (omega (arith, long))
  short-none true (suc zero) h = block-long (start_bytes (length ids)) (need (own true) 1) 1 (omega (arith, long, length-starts (length ids)))
  short-none true (suc (suc k)) h = absurd (omega (arith, h))
  short-none false zero h = block-long ids (need (own false) 0) 0 (omega (arith, long))
  short-none false (suc k) h = absurd (omega (arith, h))

  buffers-counted : (dense : Bool) → length (own dense).buffers ≡ buffer_count dense
  buffers-counted true = refl
  buffers-counted false = refl

  -- an item's id, its child and its number there
  module _ (count i : ℕ) (few : count ≤ 128) (inside : i < n) (small : get_or ids i 0 < count) where
    pub id-is : (dense : Bool) → id_at (own dense) i ≡ pos (get_or ids i 0)
    id-is dense =
        let e : first (own dense) + i ≡ i = omega arith in
        ap (λ bs. meant 1 true (number_at bs (first (own dense) + i) 1)) (ids-are dense)
        ∙ ap (λ p. meant 1 true (number_at ids p 1)) e
        ∙ ap (meant 1 true) (number-of-byte ids i (omega (arith, inside, long)))
        ∙ meant-byte (get_or ids i 0) (omega (arith, small, few))

    pub child-is : (dense : Bool) → child_of (numbers count) (id_at (own dense) i) ≡ Some (get_or ids i 0)
    child-is dense = ap (child_of (numbers count)) (id-is dense) ∙ place-of-number count (get_or ids i 0) small

    pub number-is : (dense : Bool) → child_number (numbers count) (own dense) i ≡ get_or ids i 0
    number-is dense = ap or_zero (child-is dense)

    id-none : (dense : Bool) → bad_id (numbers count) (own dense) i ≡ None
    id-none dense = no-fault (is_none (child_of (numbers count) (id_at (own dense) i))) i (id_at (own dense) i) (pos 0) (ap is_none (child-is dense))

  start-is : n < 2 ^ 31 → (i : ℕ) → i < n → start_at (own true) i ≡ pos i
  start-is few i h =
      let e : first (own true) + i ≡ i = omega arith in
      ap (λ bs. meant 4 true (number_at bs ((first (own true) + i) * 4) 4)) starts-are
      ∙ ap (λ p. meant 4 true (number_at (start_bytes n) (p * 4) 4)) e ∙ start-of-number n i few h

  pub item-is : (dense : Bool) → (IsTrue dense → n < 2 ^ 31) → (i : ℕ) → i < n → item_number dense (own dense) i ≡ i
  item-is true few i h = ap natural (start-is (few refl) i h)
  item-is false few i h = omega arith

-- ---- children

-- the children are as long as the union, and lawful
pub record AreCut (n : ℕ) (kids : List KindTree) (columns : List ArrayTree) : Type 0 where
  pub count : length columns ≡ length kids
  pub lawful : AllZip LayoutOk kids columns
  pub lengths : (k : ℕ) → k < length columns → live_length (get_or columns k Released) ≡ Some (pos n)

short-none-of : (n k : ℕ) (columns : List ArrayTree) → ((p : ℕ) → p < length columns → live_length (get_or columns p Released) ≡ Some (pos n))
    → child_short n k columns ≡ None
short-none-of n k [] lengths = refl
short-none-of n k (column ∷ columns) lengths =
    both-none (short_child n k (live_length column)) (child_short n (suc k) columns)
    (ap (short_child n k) (lengths 0 (omega arith)) ∙ no-fault (nat_lt n n) k (pos n) (pos n) (le-ltb n n (omega arith)))
    (short-none-of n (suc k) columns (λ p h. lengths (suc p) (omega (arith, h))))

children-none : (kids : List KindTree) (k : ℕ) (columns : List ArrayTree) → AllZip LayoutOk kids columns → children_fault kids k columns ≡ None
children-none [] k columns all = refl
children-none (kid ∷ kids) k [] all = refl
children-none (kid ∷ kids) k (column ∷ columns) all =
    both-none (at_child k (first_fault kid column)) (children_fault kids (suc k) columns)
    (ap (at_child k) (lawful-first_fault kid column all.0)) (children-none kids (suc k) columns all.1)

same_counts : (a b : ℕ) → a ≡ b → count_wrong a b ≡ None
same_counts a b e = no-fault (not (a == b)) 0 (pos a) (pos b) (ap not (eq-eqb a b e))

length-of-live : (column : ArrayTree) (n : ℕ) → live_length column ≡ Some (pos n) → (members_of column).length ≡ pos n
length-of-live Released n e = absurd (cc)
length-of-live (Live m ts d) n e = cc

-- ---- the whole

abbrev pub made_union : Bool → ℕ → List ℕ → List ArrayTree → ArrayTree
made_union dense n ids columns = Live (tag_members dense (pos n) ids) (trees columns) absent

abbrev pub kinds_made : Bool → List KindTree → UnionTree
kinds_made dense kids = record { dense = dense; ids = numbers (length kids); kids = kids }

module _ (dense : Bool) (n : ℕ) (ids : List ℕ) (kids : List KindTree) (columns : List ArrayTree) (long : length ids ≡ n) (near : n ≤ 2 ^ 40)
    (few : length kids ≤ 128) (starts : IsTrue dense → n < 2 ^ 31) (small : (i : ℕ) → i < n → get_or ids i 0 < length kids) (cut : AreCut n kids columns) where
  abbrev made : ArrayTree
  made = made_union dense n ids columns

  abbrev own_made : ArrayMembers
  own_made = tag_members dense (pos n) ids

  children-are : tree_list (trees columns) ≡ columns
  children-are = tree_list-trees columns

  own-none : own_fault (buffer_count dense) (length kids) made ≡ None
  own-none =
      let buffers = same_counts (length own_made.buffers) (buffer_count dense) (buffers-counted n ids long dense) in
      let children = same_counts (length (tree_list (trees columns))) (length kids) (ap length children-are ∙ cut.count) in
      ap (λ o. option_or (own_found own_rules.BufferCount o) (option_or (own_found own_rules.ChildCount (count_wrong (length (tree_list (trees columns))) (length kids))) None)) buffers
      ∙ ap (λ o. option_or (own_found own_rules.ChildCount o) None) children

  bad_start-none : (i : ℕ) → i < n → IsTrue dense → bad_start (numbers (length kids)) made i ≡ None
  bad_start-none i h is_dense =
      let k = child_number (numbers (length kids)) own_made i in
      let is : k ≡ get_or ids i 0 = number-is n ids long (length kids) i few h (small i h) dense in
      let there : k < length columns = omega (arith, is, small i h, cut.count) in
      let child = ap (λ cs. get_or cs k Released) children-are in
      let total : (members_of (child_at made k)).length ≡ pos n =
      ap (λ c. (members_of c).length) child ∙ length-of-live (get_or columns k Released) n (cut.lengths k there) in
      let start : start_at own_made i ≡ pos i =
      subst (λ d. start_at (tag_members d (pos n) ids) i ≡ pos i) (sym is_dense) (start-is n ids long (starts is_dense) i h) in
      no-fault (is_outside (members_of (child_at made k)).length (start_at own_made i)) i (start_at own_made i) (members_of (child_at made k)).length
      ((λ t. is_outside (total t) (start t)) ∙ ap not (lt-ltb i n h))

  starts-none : (if dense then first_below (bad_start (numbers (length kids)) made) n else None) ≡ None
  starts-none = go dense refl
    where
      go : (b : Bool) → dense ≡ b → (if b then first_below (bad_start (numbers (length kids)) made) n else None) ≡ None
      go false e = refl
      go true e = below-none (bad_start (numbers (length kids)) made) n (λ i h. bad_start-none i h e)

  shorts-none : (if dense then None else child_short (end own_made) 0 (tree_list (trees columns))) ≡ None
  shorts-none =
      let e : end own_made ≡ n = omega arith in
      go dense ((λ t. child_short (e t) 0 (children-are t)) ∙ short-none-of n 0 columns cut.lengths)
    where
      go : (b : Bool) {o : Option Numbers} → o ≡ None → (if b then None else o) ≡ None
      go true e = refl
      go false e = e

  long-none : fault_if (nat_lt window_limit (end own_made)) 0 (pos (end own_made)) (pos window_limit) ≡ None
  long-none = no-fault (nat_lt window_limit (end own_made)) 0 (pos (end own_made)) (pos window_limit) (le-ltb window_limit (end own_made) (omega (arith, near)))

  pub no-rule-fails : union_fault (kinds_made dense kids) made ≡ None
  no-rule-fails =
      let absents = below-none (buffer_absent own_made) (buffer_count dense) (absent-none n ids long dense) in
      let shorts = below-none (buffer_short own_made) (buffer_count dense) (short-none n ids long dense) in
      let named = below-none (bad_id (numbers (length kids)) own_made) n
      (λ i h. id-none n ids long (length kids) i few h (small i h) dense) in
      let lawful = ap (children_fault kids 0) children-are ∙ children-none kids 0 columns cut.lawful in
      both-none _ _ (ap own_rule own-none)
      (both-none _ _ (ap (by BufferAbsent) absents)
      (both-none _ _ (ap (by BufferShort) shorts)
      (both-none _ _ (ap (by BadTypeId) named)
      (both-none _ _ (ap child_rule lawful)
      (both-none _ _ (ap (by ChildShort) shorts-none)
      (both-none _ _ (ap (by OffsetRange) starts-none)
      (both-none _ _ (ap (by WindowTooLong) long-none) refl)))))))

  -- an item's value is that of the item of this number of its column
  pub value-is : (i : ℕ) → i < n
      → union_value (kinds_made dense kids) made i ≡ value_at (get_or kids (get_or ids i 0) Released) (get_or columns (get_or ids i 0) Released) i
  value-is i h =
      let is = number-is n ids long (length kids) i few h (small i h) dense in
      (λ t. value_at (get_or kids (is t) Released) (get_or (children-are t) (is t) Released) (item-is n ids long dense starts i h t))
