-- The rows of a chunk as its values, and what the draining of one chunk says of it.
use Rattle.std.proofs.Common.{◌≡◌, ◌∙◌, ◌↔◌, ℕ, zero, suc, ◌+◌, ◌<◌, true, IsTrue, is_none, List, [], ◌∷◌, length, map, Option, None, Some, Ok, Err}
use Rattle.std.proofs.Common.{ap, arith, refl, subst, sym, if◌then◌else◌, inl, inr}
use Rattle.std.specs.Option.{option_or}
use Rattle.std.proofs.lemmas.Bool.{cases_Bool, cases_eq}
use Rattle.std.proofs.lemmas.List.{length-map}
use Rattle.data_types.specs.promise.Table.{Row}
use Rattle.data_types.specs.promise.Value.{Value, Null}
use Rattle.data_types.specs.declared.kind.DataType.{DataType}
use Rattle.data_types.specs.declared.kind.DataType.TheVariants as kinds
use Rattle.foreign_array.specs.Drained.{Drained, Refused, first_refused, refused_at, table_if}
use Rattle.foreign_array.specs.declared.draining.DrainFault.TheVariants as drains
use Rattle.data_types.specs.promise.KindTrees.{KindTree}
use Rattle.data_types.specs.KindTrees.{TypedOk}
use Rattle.layout_rules.specs.Found.{fault_of}
use Rattle.layout_rules.specs.Lawful.{ChunkHolds}
use Rattle.layout_rules.specs.promise.Layout.{is_valid, items}
use Rattle.layout_rules.specs.promise.Rules.{null_total}
use Rattle.layout_rules.specs.promise.Values.{each, readers, row_items, rows_of, value_at, values_of}
use Rattle.layout_rules.specs.Values.{item}
use Rattle.layout_rules.specs.promise.Walk.{ChunkOk, Fault as ArrayFault, LayoutOk, first_chunk_fault, first_fault, top_fault}
use Rattle.layout_rules.specs.declared.rule.LayoutFault.{LayoutFault}
use Rattle.raw_array.specs.promise.Members.{ArrayMembers, ArrayTree}
use Rattle.tree_model.specs.promise.TreeParts.{IsLive}
use Rattle.tree_model.specs.promise.TreeData.{Live, MaybeTree, Released, Trees, absent, option_tree, present, tree_list}
use Rattle.tree_top.specs.promise.ForeignAnswer.{row_value}
use Rattle.tree_top.specs.Gathered.{shown_in, tables_in}
use Rattle.tree_top.specs.declared.shown.Lines.{Lines}

-- ---- no row of a chunk is null

valid-rows : (own : ArrayMembers) (n i : ℕ) → i < n → null_total own n ≡ 0 → is_valid own i ≡ true
valid-rows own zero i inside none = absurd (omega (arith, inside))
valid-rows own (suc n) i inside none = elim (cases_Bool (is_valid own n)) [
  | inl valid ↦ elim (cases_eq i n) [
    | inl same ↦ subst (λ k. is_valid own k ≡ true) (sym same) valid
    | inr other ↦
        let total : null_total own n + (if is_valid own n then 0 else 1) ≡ 0 = none in
        valid-rows own n i (omega (arith, inside, other)) (omega (arith, total))
  ]
  | inr null ↦
      let total : null_total own n + 1 ≡ 0 = subst (λ b. null_total own n + (if b then 0 else 1) ≡ 0) null none in
      absurd (omega (arith, total))
]

-- a row that isn't null is the struct of its fields
row-is : (kind : DataType) (kids : Trees DataType) (dict : MaybeTree DataType) (own : ArrayMembers) (children : Trees ArrayMembers)
    (dictionary : MaybeTree ArrayMembers) (i : ℕ) → kind ≡ kinds.Struct → option_tree dict ≡ None → is_valid own i ≡ true
    → value_at (Live kind kids dict) (Live own children dictionary) i ≡ row_value (row_items (Live kind kids dict) (Live own children dictionary) i)
row-is kind kids (present dict) own children dictionary i struct none valid = absurd (cc)
row-is kind kids absent own children dictionary i struct none valid =
    ap (λ b. if b then item kind (readers kids) own (tree_list children) i else Null) valid
    ∙ ap (λ k. item k (readers kids) own (tree_list children) i) struct

each-same : (f : ℕ → Value) (g : ℕ → Row) (from count : ℕ) → ((i : ℕ) → i < from + count → f i ≡ row_value (g i))
    → each f from count ≡ map row_value (each g from count)
each-same f g from zero same = refl
each-same f g from (suc count) same =
    ap (λ v. v ∷ each f (suc from) count) (same from (omega arith))
    ∙ ap (λ vs. row_value (g from) ∷ vs) (each-same f g (suc from) count (λ i inside. same i (omega (arith, inside))))

-- so the values of a chunk are its rows
pub chunk-values : (typed : KindTree) (array : ArrayTree) → IsLive typed → ChunkHolds typed array → values_of typed array ≡ map row_value (rows_of typed array)
chunk-values Released array live holds = absurd live
chunk-values (Live kind kids dict) Released live holds = refl
chunk-values (Live kind kids dict) (Live own children dictionary) live holds =
    each-same (value_at (Live kind kids dict) (Live own children dictionary)) (row_items (Live kind kids dict) (Live own children dictionary)) 0 (items own)
    (λ i inside. row-is kind kids dict own children dictionary i holds.kind holds.dict (valid-rows own (items own) i (omega (arith, inside)) holds.nulls))

pub live-kinds : (typed : KindTree) → TypedOk typed → IsLive typed
live-kinds Released ok = absurd ok.1
live-kinds (Live kind kids dict) ok = tt

-- ---- an array that passes as a chunk

left-none : {X : Type 0} → (a b : Option X) → option_or a b ≡ None → a ≡ None
left-none None b e = refl
left-none (Some x) b e = absurd (cc)

right-none : {X : Type 0} → (a b : Option X) → option_or a b ≡ None → b ≡ None
right-none None b e = e
right-none (Some x) b e = absurd (cc)

pub chunk-ok : (typed : KindTree) (array : ArrayTree) → (IsTrue (is_none (first_fault typed array)) ↔ LayoutOk typed array) → first_chunk_fault typed array ≡ None
    → ChunkOk typed array
chunk-ok typed array law none =
    let lawful : first_fault typed array ≡ None = left-none (first_fault typed array) (top_fault typed array) none in
    (law.0 (ap is_none lawful), right-none (first_fault typed array) (top_fault typed array) none)

-- ---- one chunk drained

passed : (fault : Option ArrayFault) → refused_at 0 fault None ≡ None → fault ≡ None
passed None e = refl
passed (Some fault) e = absurd (cc)

abbrev refused-fault : ArrayFault → Option Refused → ArrayFault
refused-fault other None = other
refused-fault other (Some refused) = refused.fault

the-fault : (fault : Option ArrayFault) (number : ℕ) (f : ArrayFault) → refused_at 0 fault None ≡ Some (record { chunk = number; fault = f }) → fault ≡ Some f
the-fault None number f e = absurd (cc)
the-fault (Some fault) number f e = ap (λ r. Some (refused-fault fault r)) e

module _ (typed : KindTree) (chunk : ArrayTree) (chunks : List ArrayTree) (one : chunks ≡ chunk ∷ []) where
  -- it passed, and its rows were seen
  pub drained-passed : (done : Unit {0}) (before after : Option (List (List Row))) → Drained typed chunks (Ok done) before after
      → first_chunk_fault typed chunk ≡ None
  drained-passed done before after drained =
      passed (first_chunk_fault typed chunk) (ap (first_refused typed 0) (sym one) ∙ drained.0)

  pub drained-seen : (done : Unit {0}) (gathered : List Lines) (seen : List (List Row)) → seen ≡ [] → Drained typed chunks (Ok done) (Some seen) (Some (tables_in gathered))
      → tables_in gathered ≡ rows_of typed chunk ∷ []
  drained-seen done gathered seen none drained =
      let is : first_chunk_fault typed chunk ≡ None = drained-passed done (Some seen) (Some (tables_in gathered)) drained in
      let before = subst (λ (s : List (List Row)). Drained typed (chunk ∷ []) (Ok done) (Some s) (Some (tables_in gathered))) none
      (subst (λ cs. Drained typed cs (Ok done) (Some seen) (Some (tables_in gathered))) one drained) in
      let same : ◌≡◌ {A = Option (List (List Row))} (Some (tables_in gathered)) (Some (table_if (first_chunk_fault typed chunk) (rows_of typed chunk) [])) = before.1 in
      let all : tables_in gathered ≡ table_if (first_chunk_fault typed chunk) (rows_of typed chunk) [] = cc in
      all ∙ ap (λ f. table_if f (rows_of typed chunk) []) is

  -- it is refused
  pub drained-refused : (number : ℕ) (fault : LayoutFault) (before after : Option (List (List Row)))
      → Drained typed chunks (Err (drains.Layout number fault)) before after → first_chunk_fault typed chunk ≡ Some (fault_of fault)
  drained-refused number fault before after drained =
      the-fault (first_chunk_fault typed chunk) number (fault_of fault) (ap (first_refused typed 0) (sym one) ∙ drained.0)

pub one-gathered : (gathered : List Lines) (rows : List Row) → tables_in gathered ≡ rows ∷ [] → length gathered ≡ 1
one-gathered gathered rows one = sym (length-map gathered shown_in) ∙ ap length one
