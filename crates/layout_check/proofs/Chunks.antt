-- Chunks, and the nulls of an array.
use Rattle.std.proofs.Common.{◌≡◌, ℕ, zero, suc, ◌≤◌, ◌&&◌, not, Bool, true, false, pos, length, Option, Some, None, refl, ap, ◌∙◌, arith}
use Rattle.std.specs.Prelude.{if◌then◌else◌, is_some, nat_lt}
use Rattle.std.specs.Global.{Box}
use Rattle.std.specs.Option.{option_or}
use Rattle.data_types.specs.declared.kind.DataType.{DataType}
use Rattle.tree_model.specs.promise.TreeData.{Released, Live, Trees, trees, MaybeTree, maybe_tree}
use Rattle.tree_model.specs.promise.TreeParts.{IsLive}
use Rattle.raw_array.specs.promise.Members.{ArrayMembers, ArrayTree, members_of}
use Rattle.data_types.specs.declared.typed.Typed.{Typed, out-Typed}
use Rattle.layout_rules.specs.declared.layout.Layout.{Layout}
use Rattle.layout_rules.specs.declared.layout.Layout.TheVariants.{NoBuffers, FixedWidth, TruthBits, ByOffsets, ListOffsets, FixedItems, ByChildren, Views}
use Rattle.layout_rules.specs.declared.rule.LayoutRule.TheVariants as rules
use Rattle.data_types.specs.promise.KindTrees.{KindTree}
use Rattle.data_types.specs.promise.TypedView.{typed_of}
use Rattle.data_types.specs.TypedView.{kids_of, kind_of, dict_in}
use Rattle.layout_rules.specs.promise.Layout.{layout_of, buffer_count, items, is_valid}
use Rattle.layout_rules.specs.promise.Rules.{null_total, null_items}
use Rattle.layout_rules.specs.promise.Walk.{ChunkOk, first_fault, first_chunk_fault, top_fault, root_fault, is_struct, is_absent, is_table}
use Rattle.layout_rules.specs.Walk.{nulls_in}
use Rattle.data_types.proofs.Levels.{typed_out}
use Rattle.layout_rules.proofs.Lawful.{first_fault-lawful, lawful-first_fault, left-none, right-none}

-- ---- no fault of a chunk, exactly where it is lawful

pub first_chunk_fault-lawful : (typed : KindTree) (array : ArrayTree) → first_chunk_fault typed array ≡ None → ChunkOk typed array
first_chunk_fault-lawful typed array e =
    let none = left-none (first_fault typed array) (top_fault typed array) e in
    (first_fault-lawful typed array none, right-none (first_fault typed array) (top_fault typed array) none e)

pub lawful-first_chunk_fault : (typed : KindTree) (array : ArrayTree) → ChunkOk typed array → first_chunk_fault typed array ≡ None
lawful-first_chunk_fault typed array h = ap (λ o. option_or o (top_fault typed array)) (lawful-first_fault typed array h.0) ∙ h.1

pub ruleset lawful = (first_chunk_fault-lawful, lawful-first_chunk_fault)

-- ---- its type

absent-none : (dict : Option (Box Typed)) → is_absent (maybe_tree (dict_in dict)) ≡ not (is_some dict)
absent-none None = refl
absent-none (Some dict) = refl

pub is_table-typed : (t : Typed) → is_table (typed_of t) ≡ (is_struct (out-Typed t).kind && not (is_some (out-Typed t).dict))
is_table-typed t = ap is_table (typed_out t) ∙ ap (λ b. is_struct (out-Typed t).kind && b) (absent-none (out-Typed t).dict)

pub ruleset tables = (is_table-typed)

pub top_fault-live : (typed : KindTree) (array : ArrayTree) → IsLive array
    → top_fault typed array
    ≡ (if not (is_table typed) then Some (root_fault rules.TopKind (pos 0))
    else if nat_lt 0 (null_total (members_of array) (items (members_of array)))
    then Some (root_fault rules.TopNulls (pos (null_total (members_of array) (items (members_of array)))))
    else None)
top_fault-live typed Released live = absurd live
top_fault-live typed (Live own children dictionary) live = refl

pub ruleset tops = (top_fault-live)

-- ---- its nulls

pub null_total-bound : (own : ArrayMembers) (n : ℕ) → null_total own n ≤ n
null_total-bound own zero = omega arith
null_total-bound own (suc n) = omega (arith, null_total-bound own n, one (is_valid own n))
  where
    one : (b : Bool) → (if b then 0 else 1) ≤ 1
    one true = omega arith
    one false = omega arith

nulls-live : (kind : DataType) (kids : Trees DataType) (dict : MaybeTree DataType) (array : ArrayTree) → IsLive array
    → nulls_in (Live kind kids dict) array ≡ null_items (layout_of kind) (members_of array)
nulls-live kind kids dict Released live = absurd live
nulls-live kind kids dict (Live own children dictionary) live = refl

pub nulls-typed : (t : Typed) (array : ArrayTree) → IsLive array → nulls_in (typed_of t) array ≡ null_items (layout_of (out-Typed t).kind) (members_of array)
nulls-typed t array live =
    ap (λ k. nulls_in k array) (typed_out t) ∙ nulls-live (kind_of t) (trees (kids_of t)) (maybe_tree (dict_in (out-Typed t).dict)) array live

pub no_buffers : (layout : Layout) (own : ArrayMembers) → buffer_count layout (length own.buffers) ≡ 0 → null_items layout own ≡ items own
no_buffers NoBuffers own e = refl
no_buffers (FixedWidth width) own e = absurd (omega (arith, e))
no_buffers TruthBits own e = absurd (omega (arith, e))
no_buffers (ByOffsets wide) own e = absurd (omega (arith, e))
no_buffers (ListOffsets wide) own e = absurd (omega (arith, e))
no_buffers (FixedItems size) own e = absurd (omega (arith, e))
no_buffers ByChildren own e = absurd (omega (arith, e))
no_buffers Views own e = absurd (omega (arith, e))

pub some_buffers : (layout : Layout) (own : ArrayMembers) → ¬ (buffer_count layout (length own.buffers) ≡ 0)
    → null_items layout own ≡ null_total own (items own)
some_buffers NoBuffers own e = absurd (e refl)
some_buffers (FixedWidth width) own e = refl
some_buffers TruthBits own e = refl
some_buffers (ByOffsets wide) own e = refl
some_buffers (ListOffsets wide) own e = refl
some_buffers (FixedItems size) own e = refl
some_buffers ByChildren own e = refl
some_buffers Views own e = refl

pub ruleset nulls = (null_total-bound, nulls-typed, no_buffers, some_buffers)
