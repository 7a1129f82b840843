-- A schema that a text can tell of is a union's, or has a first fault as one.
use Rattle.std.proofs.Common.{◌≡◌, ◌⊎◌, inl, inr, ℕ, suc, ◌+◌, Bool, List, [], ◌∷◌, length, Option, None, Some, Result, Ok, Err, arith, refl, sym, subst}
use Rattle.std.specs.Prelude.{IsSome}
use Rattle.std.proofs.lemmas.Bool.{cases_eq}
use Rattle.data_types.specs.promise.KindTrees.{KindTree}
use Rattle.raw_schema.specs.promise.Members.{SchemaMembers, SchemaTree, members_of}
use Rattle.root_check.specs.promise.Schemas.{KidFault, OwnSchemaReads}
use Rattle.root_check.specs.Schemas.{KidsRead}
use Rattle.root_check.specs.declared.own_schema.OwnSchemaFault.{OwnSchemaFault}
use Rattle.root_check.specs.declared.own_schema.OwnSchemaFault.TheVariants as parts
use Rattle.schema_check.specs.promise.SchemaAnswers.{FirstFault, MetaRefused, SchemaReads}
use Rattle.schema_check.specs.promise.Schemas.{MetaFits}
use Rattle.schema_meta.specs.declared.fault.MetaFault.{MetaFault}
use Rattle.tree_model.specs.promise.TreeData.{Released, Live, Trees, no_trees, more_trees, MaybeTree, tree_list}
use Rattle.tree_model.specs.promise.TreeParts.{children_of, dictionary_of}
use Rattle.tree_text.specs.promise.TreeText.{AllFit, SchemaNodeFits}
use Rattle.tree_text.specs.TreeText.{SchemaFits}
use Rattle.union_cols.specs.promise.UnionFormats.{UnionFormat}
use Rattle.union_cols.specs.UnionFormats.{FormatReads}
use Rattle.union_cols.specs.promise.UnionSchemas.{IsPlainUnion, IsReleased, IsUnion, SchemaFound, UnionReads}
use Rattle.union_cols.specs.promise.UnionSchemas as found
use Rattle.union_cols.specs.promise.Unions.{UnionTree}

abbrev pub SomeFormat : Type 0
SomeFormat = (text : List ℕ) → (read : Result UnionFormat ℕ) × FormatReads text read

abbrev pub SomeKinds : Type 0
SomeKinds = (level : ℕ) (schema : SchemaTree) → SchemaFits level schema → (read : Result KindTree FirstFault) × SchemaReads schema read

abbrev pub SomeMetadata : Type 0
SomeMetadata =
    (level : ℕ) (schema : SchemaTree) → SchemaFits level schema
    → MetaFits (members_of schema).metadata ⊎ ((fault : MetaFault) × MetaRefused (members_of schema).metadata fault)

-- ---- children

abbrev pub Kids : List SchemaTree → Type 0
Kids children = (read : Result (List KindTree) KidFault) × KidsRead children read

one_more : (kid : SchemaTree) (kids : List SchemaTree) (read : Result KindTree FirstFault) → SchemaReads kid read
    → (rest : Result (List KindTree) KidFault) → KidsRead kids rest → Kids (kid ∷ kids)
one_more kid kids (Err first) is rest are =
    (Err (record { child = 0; first = first }), record { inside = omega arith; kids = []; before = tt; fails = is })
one_more kid kids (Ok typed) is (Ok all) are = (Ok (typed ∷ all), (is, are))
one_more kid kids (Ok typed) is (Err fault) are = (
  Err (record { child = suc fault.child; first = fault.first }),
  record { inside = omega (arith, are.inside); kids = typed ∷ are.kids; before = (is, are.before); fails = are.fails },
)

module _ (some-kinds : SomeKinds) where
  pub some-kids : (level : ℕ) (kids : Trees SchemaMembers) → AllFit SchemaNodeFits level kids → Kids (tree_list kids)
  some-kids level no_trees fits = (Ok [], tt)
  some-kids level (more_trees kid kids) fits =
      let first = some-kinds level kid fits.0 in
      let rest = some-kids level kids fits.1 in
      one_more kid (tree_list kids) first.0 first.1 rest.0 rest.1

-- ---- the schema's own parts

abbrev pub Own : SchemaTree → Type 0
Own schema = (read : Result (Unit {0}) OwnSchemaFault) × OwnSchemaReads schema read

pub own-parts : (schema : SchemaTree) → MetaFits (members_of schema).metadata ⊎ ((fault : MetaFault) × MetaRefused (members_of schema).metadata fault)
    → (dictionary : Option SchemaTree) → dictionary_of schema ≡ dictionary → Own schema
own-parts schema (inr refused) dictionary same = (Err (parts.Meta refused.0), refused.1)
own-parts schema (inl fits) None same = (Ok tt, (fits, same))
own-parts schema (inl fits) (Some there) same = (Err parts.Dictionary, (fits, subst IsSome (sym same) refl))

-- ---- the schema of a union

abbrev Read : SchemaTree → Type 0
Read schema = (read : Result UnionTree SchemaFound) × UnionReads schema read

module _ (schema : SchemaTree) (dense : Bool) (ids : List ℕ) where
  abbrev format : UnionFormat
  format = record { dense = dense; ids = ids }

  with-kids : IsPlainUnion schema format → length (children_of schema) ≡ length ids → (read : Result (List KindTree) KidFault)
      → KidsRead (children_of schema) read → Read schema
  with-kids plain same (Ok kids) are = (Ok (record { dense = dense; ids = ids; kids = kids }), record { plain = plain; count = same; kids = are })
  with-kids plain same (Err fault) are = (Err (found.Child fault), (format, plain, same, are))

  with-parts : IsUnion schema format → Kids (children_of schema) → (read : Result (Unit {0}) OwnSchemaFault) → OwnSchemaReads schema read → Read schema
  with-parts union kids (Err fault) is = (Err (found.OwnPart fault), (format, union, is))
  with-parts union kids (Ok done) is =
      let plain : IsPlainUnion schema format = record { union = union; plain = is } in
      elim (cases_eq (length (children_of schema)) (length ids)) [
        | inl same ↦ with-kids plain same kids.0 kids.1
        | inr other ↦ (Err (found.ChildCount (length (children_of schema)) (length ids)), (format, plain, refl, refl, other))
      ]

module _ (some-format : SomeFormat) (some-kinds : SomeKinds) (some-metadata : SomeMetadata) where
  formatted : (level : ℕ) (own : SchemaMembers) (kids : Trees SchemaMembers) (dictionary : MaybeTree SchemaMembers)
      → SchemaFits level (Live own kids dictionary) → (read : Result UnionFormat ℕ) → FormatReads own.format read → Read (Live own kids dictionary)
  formatted level own kids dictionary fits (Err place) is = (Err (found.Format place), (tt, is))
  formatted level own kids dictionary fits (Ok format) is =
      let schema : SchemaTree = Live own kids dictionary in
      let parts = own-parts schema (some-metadata level schema fits) (dictionary_of schema) refl in
      with-parts schema format.dense format.ids (record { live = tt; spelled = is }) (some-kids some-kinds (level + 1) kids fits.2) parts.0 parts.1

  pub some-union : (level : ℕ) (schema : SchemaTree) → SchemaFits level schema → Read schema
  some-union level Released fits = (Err IsReleased, refl)
  some-union level (Live own kids dictionary) fits =
      let format = some-format own.format in
      formatted level own kids dictionary fits format.0 format.1
