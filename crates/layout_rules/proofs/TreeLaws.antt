-- The laws over all trees.
use Rattle.std.proofs.Common.{◌≡◌, ℕ, zero, suc, ◌<◌, ◌&&◌, not, Bool, true, false, ℤ, pos, negsuc, List, [], ◌∷◌, length, get_or, Some, None, refl, arith}
use Rattle.std.specs.Prelude.{if◌then◌else◌, nat_lt, ◌≤ℤ◌}
use Rattle.data_types.specs.declared.kind.DataType.{DataType}
use Rattle.data_types.specs.declared.kind.DataType.TheVariants as kinds
use Rattle.tree_model.specs.promise.TreeData.{Tree, Released, Live, MaybeTree, absent, present, option_tree}
use Rattle.tree_model.specs.promise.TreeParts.{IsLive, child_at}
use Rattle.raw_array.specs.promise.Members.{ArrayTree}
use Rattle.data_types.specs.promise.KindTrees.{KindTree}
use Rattle.layout_rules.specs.promise.Layout.{items, natural}
use Rattle.layout_rules.specs.promise.Rules.{null_total}
use Rattle.layout_rules.specs.promise.Walk.{LayoutOk, ChunkOk, root_fault, is_struct, is_absent}
use Rattle.layout_rules.specs.declared.rule.LayoutRule.TheVariants as rules
use Rattle.layout_rules.specs.promise.Values.{each, row_items, rows_of, tree_items}
use Rattle.layout_rules.specs.Lawful.{RootHolds, PartsHold, ItemsHold, ChunkHolds}
use Rattle.layout_rules.proofs.Roots.{level_in, lawful-level_in, root-live, root-length, root-offset, root-count, root-end, root-validity, root-children}
use Rattle.layout_rules.proofs.Roots.{root-dictionary, tree_items-items}
use Rattle.layout_rules.proofs.ReadWithin.{item-stored, child-needed, item-children, item-view, item-index, child-lawful, dictionary-lawful, live-of, few-of}

-- what holds of each lawful array whose type is there
abbrev pub OfLawful : (KindTree → ArrayTree → Type 0) → Type 0
OfLawful Holds = (typed : KindTree) (array : ArrayTree) → IsLive typed → LayoutOk typed array → Holds typed array

pub root_holds : OfLawful RootHolds
root_holds Released array live h = absurd live
root_holds (Live kind kids dict) array live h =
    let t = level_in kind kids dict in
    let ok = lawful-level_in kind kids dict array h in
    record {
      live = root-live t array ok;
      sized = root-length t array ok;
      placed = root-offset t array ok;
      many = tree_items-items array;
      near = root-end t array ok;
      counted = root-count t array ok;
      long = root-validity t array ok (root-count t array ok);
      kids = root-children t array ok;
      dict = root-dictionary t array ok;
    }

within : {M : Type 0} → (ts : List (Tree M)) (k : ℕ) → IsLive (get_or ts k Released) → k < length ts
within [] k live = absurd live
within (t ∷ ts) zero live = omega arith
within (t ∷ ts) (suc k) live = omega (arith, within ts k live)

pub parts_hold : OfLawful PartsHold
parts_hold Released array live h = absurd live
parts_hold (Live kind kids dict) array live h =
    let t = level_in kind kids dict in
    let ok = lawful-level_in kind kids dict array h in
    record {
      kids = child-lawful t array ok;
      few = λ k typed. few-of (child_at (Live kind kids dict) k) (child_at array k) typed (child-lawful t array ok k (within t.kids k typed));
      dict = dictionary-lawful t array ok;
    }

pub items_hold : OfLawful ItemsHold
items_hold Released array live h = absurd live
items_hold (Live kind kids dict) array live h =
    let t = level_in kind kids dict in
    let ok = lawful-level_in kind kids dict array h in
    let kid =
    λ (k : ℕ) (typed : IsLive (child_at (Live kind kids dict) k)). live-of (child_at (Live kind kids dict) k) (child_at array k) typed
    (child-lawful t array ok k (within t.kids k typed)) in
    record {
      stored = item-stored t array ok;
      needed = λ k typed. child-needed t array ok k (within t.kids k typed) (kid k typed);
      kids = λ i k l typed. item-children t array ok i k l (within t.kids k typed) (kid k typed);
      views = item-view t array ok;
      index = λ i type dictionary l d typed a. item-index t array ok i dictionary l a
          (live-of type dictionary typed (dictionary-lawful t array ok type dictionary d a));
    }

-- ---- chunks

struct-kind : (kind : DataType) (plain : Bool) (nulls : ℕ)
    → (if not (is_struct kind && plain) then Some (root_fault rules.TopKind (pos 0)) else if nat_lt 0 nulls
    then Some (root_fault rules.TopNulls (pos nulls)) else None) ≡ None
    → (kind ≡ kinds.Struct) × (plain ≡ true) × (nulls ≡ 0)
struct-kind kinds.Struct true nulls e = (refl, refl, grind arith)
struct-kind kinds.Struct false nulls e = absurd (grind arith)
struct-kind kind plain nulls e = absurd (grind arith)

plain-none : (dict : MaybeTree DataType) → is_absent dict ≡ true → option_tree dict ≡ None
plain-none absent e = refl
plain-none (present t) e = absurd (cc)

pub chunk_holds : (typed : KindTree) (array : ArrayTree) → IsLive typed → ChunkOk typed array → ChunkHolds typed array
chunk_holds Released array live h = absurd live
chunk_holds (Live kind kids dict) Released live h = absurd (live-of (Live kind kids dict) Released tt h.0)
chunk_holds (Live kind kids dict) (Live own children dictionary) live h =
    let found = struct-kind kind (is_absent dict) (null_total own (items own)) h.1 in
    record { kind = found.0; dict = plain-none dict found.1; nulls = found.2 }

-- ---- rows

length-each : {X : Type 0} → (f : ℕ → X) (a n : ℕ) → length (each f a n) ≡ n
length-each f a zero = refl
length-each f a (suc n) = let rest = length-each f (suc a) n in omega (arith, rest)

pub length-rows : (typed : KindTree) (array : ArrayTree) → length (rows_of typed array) ≡ tree_items array
length-rows typed array = length-each (row_items typed array) 0 (tree_items array)

pub natural-length : (z : ℤ) → pos 0 ≤ℤ z → z ≡ pos (natural z)
natural-length (pos n) h = refl
natural-length (negsuc n) h = absurd (grind (arith, h))

pub ruleset rows = (length-rows, natural-length)
