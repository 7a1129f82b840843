-- Lawful columns and chunks come out of ∥..∥₁, so that a producer may keep them in a ghost field. The rows of a chunk and the typing of
-- the columns' schema are handed in: `rows_of` has the rows, and a law of `arr_export` the typing.
use Rattle.std.proofs.Common.{◌≡◌, ◌⊎◌, ◌≤◌, ℕ, List, All, drop, get_or, Option, None, Some, refl, inl, inr}
use Rattle.std.proofs.Math.Logic.{∥∥₁_elim}
use Rattle.std.proofs.Props.{props}
use Rattle.std.proofs.lemmas.Bool.Decides.{eqb_tells}
use Rattle.std.specs.Coded.{Unit-prop, ×_prop}
use Rattle.data_types.specs.ColumnForms.{AreColumnKinds, HasForm, IsColumnKind, MembersAreColumns}
use Rattle.data_types.specs.promise.FieldText.{Form, form_of}
use Rattle.data_types.specs.Kinds.{KindOk}
use Rattle.data_types.specs.promise.Table.{Column, Kind, Flat, Dict, Columns, Members, no_members, more_members, Row}
use Rattle.data_types.specs.declared.kind.DataType.{DataType}
use Rattle.data_types.specs.declared.kind.DataType.TheVariants as kinds
use Rattle.data_types.specs.promise.ColumnKinds.{type_of_columns}
use Rattle.layout_rules.specs.promise.Values.{rows_of}
use Rattle.raw_array.specs.promise.Members.{ArrayTree}
use Rattle.schema_check.specs.promise.ColumnSchema.{SchemaOf}
use Rattle.schema_check.specs.promise.Schemas.{TypedOf}
use Rattle.tree_model.specs.promise.TreeData.{Released}
use Rattle.tree_model.specs.promise.TreeParts.{children_of}
use Rattle.tree_model.specs.Tree.{Depth}
use Rattle.stream_face.specs.Lawful.{DictsAreFull, DictsHaveBytes, HasBytes, IsChunkOf, LawfulColumns, MemberDictsAreFull, MemberDictsHaveBytes}

none : IsProp ⊥
none = λ a b. absurd a

-- an answer to A or not A, on either side
equal : (m n : ℕ) → (m ≡ n) ⊎ (m ≡ n → ⊥)
equal m n = elim (eqb_tells m n) [ inl holds ↦ inl holds.1 | inr fails ↦ inr fails.1 ]

either : {A B : Type 0} → A ⊎ (A → ⊥) → B ⊎ (B → ⊥) → (A ⊎ B) ⊎ (A ⊎ B → ⊥)
either (inl a) b = inl (inl a)
either (inr fails) (inl b) = inl (inr b)
either (inr fails) (inr nor) = inr (elim [ inl a ↦ fails a | inr b ↦ nor b ])

form-prop : (form : Option Form) → IsProp (HasForm form)
form-prop None = none
form-prop (Some form) = Unit-prop

bytes-prop : (kind : DataType) → IsProp (HasBytes kind)
bytes-prop (kinds.Utf8 wide) = Unit-prop
bytes-prop (kinds.Binary wide) = Unit-prop
bytes-prop _ = none

mutual
  dicts-prop : (kind : Kind) → IsProp (DictsHaveBytes kind)
  dicts-prop (Flat kind) = Unit-prop
  dicts-prop (Dict kind) = bytes-prop kind
  dicts-prop (Columns members) = member-dicts-prop members

  member-dicts-prop : (members : Members) → IsProp (MemberDictsHaveBytes members)
  member-dicts-prop no_members = Unit-prop
  member-dicts-prop (more_members name kind rest) = ×_prop (dicts-prop kind) (member-dicts-prop rest)

mutual
  full-prop : (kind : Kind) (column : ArrayTree) → IsProp (DictsAreFull kind column)
  full-prop (Flat kind) column = Unit-prop
  full-prop (Dict kind) column = hlevel props
  full-prop (Columns members) column = full-members-prop members (children_of column)

  full-members-prop : (members : Members) (children : List ArrayTree) → IsProp (MemberDictsAreFull members children)
  full-members-prop no_members children = Unit-prop
  full-members-prop (more_members name kind rest) children =
      ×_prop (full-prop kind (get_or children 0 Released)) (full-members-prop rest (drop 1 children))

-- what follows from B follows from ∥ B ∥₁
module _ {B : Type 0} (some : ∥ B ∥₁) where
  decided : {A : Type 0} → A ⊎ (A → ⊥) → (B → A) → A
  decided (inl holds) says = holds
  decided (inr fails) says = absurd (∥∥₁_elim some none (λ b. fails (says b)))

  no-fault : {A : Type 0} (x : Option A) → (B → x ≡ None) → x ≡ None
  no-fault None says = refl
  no-fault (Some x) says = absurd (∥∥₁_elim some none (λ b. let e : Some x ≡ None = says b in cc))

  kind-ok : (kind : DataType) → (B → KindOk kind) → KindOk kind
  kind-ok (kinds.Int bits signed) says = decided (either (equal bits 8) (either (equal bits 16) (either (equal bits 32) (equal bits 64)))) says
  kind-ok (kinds.Float bits) says = decided (either (equal bits 16) (either (equal bits 32) (equal bits 64))) says
  kind-ok (kinds.FixedBinary size) says = ∥∥₁_elim some (hlevel props) says
  kind-ok (kinds.FixedList size) says = ∥∥₁_elim some (hlevel props) says
  kind-ok (kinds.Decimal precision scale wide) says = ∥∥₁_elim some (hlevel props) says
  kind-ok _ says = tt

  column-kind : (kind : DataType) → (B → IsColumnKind kind) → IsColumnKind kind
  column-kind kind says = (kind-ok kind (λ b. (says b).0), ∥∥₁_elim some (form-prop (form_of kind)) (λ b. (says b).1))

  mutual
    column-kinds : (kind : Kind) → (B → AreColumnKinds kind) → AreColumnKinds kind
    column-kinds (Flat kind) says = column-kind kind says
    column-kinds (Dict kind) says = column-kind kind says
    column-kinds (Columns members) says = member-kinds members says

    member-kinds : (members : Members) → (B → MembersAreColumns members) → MembersAreColumns members
    member-kinds no_members says = tt
    member-kinds (more_members name kind rest) says = (column-kinds kind (λ b. (says b).0), member-kinds rest (λ b. (says b).1))

-- lawful columns, the schema of which has their types
pub columns-back : (columns : List Column) → TypedOf (SchemaOf columns) (type_of_columns columns) → ∥ LawfulColumns columns ∥₁ → LawfulColumns columns
columns-back columns typed some = record {
  kinds = λ k d inside. column-kinds some _ (λ c. c.kinds k d inside);
  dicts = λ k d inside. ∥∥₁_elim some (dicts-prop _) (λ c. c.dicts k d inside);
  few = ∥∥₁_elim some (hlevel props) (λ c. c.few);
  typed = typed;
  small = ∥∥₁_elim some (hlevel props) (λ c. c.small);
  not_deep = ∥∥₁_elim some (hlevel props) (λ c. c.not_deep);
}

-- the kinds of lawful columns, and the depth of their schema, from which the typing follows
pub kinds-back : (columns : List Column) → ∥ LawfulColumns columns ∥₁
    → All (λ (c : Column). AreColumnKinds c.kind) columns × (Depth (SchemaOf columns) ≤ 64)
kinds-back columns some = (λ k d inside. column-kinds some _ (λ c. c.kinds k d inside), ∥∥₁_elim some (hlevel props) (λ c. c.not_deep))

-- a chunk of these columns, with its rows
pub chunk-back : (columns : List Column) (rows : List Row) (chunk : ArrayTree) → rows_of (type_of_columns columns) chunk ≡ rows
    → ∥ IsChunkOf columns rows chunk ∥₁ → IsChunkOf columns rows chunk
chunk-back columns rows chunk are some = record {
  ok = (λ k d inside. no-fault some _ (λ c. c.ok.0 k d inside), no-fault some _ (λ c. c.ok.1));
  rows_are = are;
  small = ∥∥₁_elim some (hlevel props) (λ c. c.small);
  dicts = λ k d inside. ∥∥₁_elim some (full-prop _ _) (λ c. c.dicts k d inside);
}
