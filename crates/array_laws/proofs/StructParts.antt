-- What every lawful struct has, in the order of the law's clauses.
use Rattle.std.proofs.Common.{◌≡◌, ℕ, ◌^◌, ◌<◌, ◌≤◌, ℤ, pos, List, length, get_or, arith}
use Rattle.std.specs.Prelude.{◌≤ℤ◌}
use Rattle.data_types.specs.declared.kind.DataType.TheVariants as kinds
use Rattle.tree_model.specs.promise.TreeParts.{IsLive, child_at, children_of}
use Rattle.tree_model.specs.promise.TreeData.{Released, Live, Trees, MaybeTree, absent, trees}
use Rattle.raw_array.specs.promise.Members.{ArrayMembers, ArrayTree, members_of}
use Rattle.data_types.specs.promise.KindTrees.{KindTree}
use Rattle.layout_rules.specs.promise.Layout.{end, natural}
use Rattle.layout_rules.specs.promise.Values.{tree_items}
use Rattle.layout_rules.specs.promise.Walk.{LayoutOk}
use Rattle.data_types.specs.ColumnKinds.{table_type}
use Rattle.array_laws.proofs.ChunkParts.{struct-facts}
use Rattle.array_laws.proofs.LawfulNodes.{lawful-live}

module _ (types : List KindTree) where
  pub live-struct : (t : ArrayTree) → LayoutOk (table_type types) t → IsLive t
  live-struct t ok = lawful-live kinds.Struct (trees types) absent t ok

  -- what holds of live structs holds of lawful ones
  pub of-struct : (P : ArrayTree → Type 0)
      → ((m : ArrayMembers) (ts : Trees ArrayMembers) (d : MaybeTree ArrayMembers) → LayoutOk (table_type types) (Live m ts d) → P (Live m ts d))
      → (t : ArrayTree) → LayoutOk (table_type types) t → P t
  of-struct P one Released ok = absurd (live-struct Released ok)
  of-struct P one (Live m ts d) ok = one m ts d ok

  at-least : (z : ℤ) (n : ℕ) → z ≡ pos n → pos 0 ≤ℤ z
  at-least z n e = grind arith

  pub offset-from : (t : ArrayTree) → LayoutOk (table_type types) t → pos 0 ≤ℤ (members_of t).offset
  offset-from =
      of-struct (λ t. pos 0 ≤ℤ (members_of t).offset) (λ m ts d ok. at-least m.offset (natural m.offset) (struct-facts types m ts d ok).offset_is)

  pub length-from : (t : ArrayTree) → LayoutOk (table_type types) t → pos 0 ≤ℤ (members_of t).length
  length-from =
      of-struct (λ t. pos 0 ≤ℤ (members_of t).length) (λ m ts d ok. at-least m.length (natural m.length) (struct-facts types m ts d ok).length_is)

  pub end-few : (t : ArrayTree) → LayoutOk (table_type types) t → end (members_of t) ≤ 2 ^ 40
  end-few = of-struct (λ t. end (members_of t) ≤ 2 ^ 40) (λ m ts d ok. (struct-facts types m ts d ok).few)

  pub children-are : (t : ArrayTree) → LayoutOk (table_type types) t → length (children_of t) ≡ length types
  children-are = of-struct (λ t. length (children_of t) ≡ length types) (λ m ts d ok. (struct-facts types m ts d ok).count)

  module _ (t : ArrayTree) (p : ℕ) (lt : p < length types) where
    pub column-lawful : LayoutOk (table_type types) t → LayoutOk (get_or types p Released) (child_at t p)
    column-lawful = of-struct (λ t. LayoutOk (get_or types p Released) (child_at t p)) (λ m ts d ok. (struct-facts types m ts d ok).child p lt) t

    pub column-live : IsLive (get_or types p Released) → LayoutOk (table_type types) t → IsLive (child_at t p)
    column-live live = of-struct (λ t. IsLive (child_at t p)) (λ m ts d ok. (struct-facts types m ts d ok).live p lt live) t

    pub column-long : IsLive (get_or types p Released) → LayoutOk (table_type types) t → end (members_of t) ≤ tree_items (child_at t p)
    column-long live = of-struct (λ t. end (members_of t) ≤ tree_items (child_at t p)) (λ m ts d ok. (struct-facts types m ts d ok).long p lt live) t
