-- A schema that a text can tell of is that of a run-end encoded array, or has a first fault as one.
use Rattle.std.proofs.Common.{◌≡◌, ◌⊎◌, inl, inr, ℕ, ◌+◌, Bool, true, false, List, [], ◌∷◌, length, Result, Ok, Err, refl}
use Rattle.std.specs.Prelude.{codes}
use Rattle.std.specs.Bool.{Decides}
use Rattle.std.specs.List.{AllZip}
use Rattle.std.specs.Str.{bytes_eq}
use Rattle.std.proofs.lemmas.Bool.{cases_eq}
use Rattle.std.proofs.lemmas.Slice.Eq.{bytes_eq-Decides}
use Rattle.data_types.specs.declared.kind.DataType.TheVariants as kinds
use Rattle.data_types.specs.promise.KindTrees.{KindTree}
use Rattle.raw_schema.specs.promise.Members.{SchemaMembers, SchemaTree}
use Rattle.root_check.specs.promise.Schemas.{KidFault, OwnSchemaReads}
use Rattle.root_check.specs.Schemas.{KidsRead}
use Rattle.root_check.specs.declared.own_schema.OwnSchemaFault.{OwnSchemaFault}
use Rattle.run_ends.specs.promise.RunSchemas.{ArePlainRuns, IsReleased, IsRuns, RunsReads, SchemaFound}
use Rattle.run_ends.specs.promise.RunSchemas as found
use Rattle.run_ends.specs.promise.Runs.{IsEnds, RunTree}
use Rattle.schema_check.specs.promise.Schemas.{TypedOf}
use Rattle.tree_model.specs.promise.TreeData.{Released, Live, Trees, MaybeTree, absent}
use Rattle.tree_model.specs.promise.TreeParts.{children_of, dictionary_of}
use Rattle.tree_text.specs.TreeText.{SchemaFits}
use Rattle.tree_top.proofs.SomeUnion.{Kids, SomeKinds, SomeMetadata, own-parts, some-kids}

-- ---- what is decided

either : {P : Type 0} → (b : Bool) → Decides b P → P ⊎ (P → ⊥)
either true is = inl (is.0 refl)
either false is = inr (λ p. let e : false ≡ true = is.1 p in cc)

is-ends : (typed : KindTree) → IsEnds typed ⊎ (IsEnds typed → ⊥)
is-ends Released = inr (λ is. is)
is-ends (Live (kinds.Int bits true) kids absent) = elim (cases_eq bits 16) [
  | inl is ↦ inl (inl is)
  | inr no-16 ↦ elim (cases_eq bits 32) [
    | inl is ↦ inl (inr (inl is))
    | inr no-32 ↦ elim (cases_eq bits 64) [
      | inl is ↦ inl (inr (inr is))
      | inr no-64 ↦ inr (none-of bits no-16 no-32 no-64)
    ]
  ]
]
  where
    none-of : (bits : ℕ) → (bits ≡ 16 → ⊥) → (bits ≡ 32 → ⊥) → (bits ≡ 64 → ⊥) → (bits ≡ 16) ⊎ (bits ≡ 32) ⊎ (bits ≡ 64) → ⊥
    none-of bits a b c (inl is) = a is
    none-of bits a b c (inr (inl is)) = b is
    none-of bits a b c (inr (inr is)) = c is
is-ends _ = inr (λ is. is)

-- ---- the schema of a run-end encoded array

abbrev Read : SchemaTree → Type 0
Read schema = (read : Result RunTree SchemaFound) × RunsReads schema read

-- two kinds
pair : (children : List SchemaTree) (kids : List KindTree) → length children ≡ 2 → AllZip TypedOf children kids
    → (u : RunTree) × AllZip TypedOf children (u.ends ∷ u.values ∷ [])
pair (one ∷ two ∷ []) (ends ∷ values ∷ []) count are = (record { ends = ends; values = values }, are)
pair [] _ count are = absurd (cc)
pair (one ∷ []) _ count are = absurd (cc)
pair (one ∷ two ∷ more ∷ rest) _ count are = absurd (cc)
pair (one ∷ two ∷ []) [] count are = absurd are
pair (one ∷ two ∷ []) (ends ∷ []) count are = absurd are.1
pair (one ∷ two ∷ []) (ends ∷ values ∷ more ∷ rest) count are = absurd are.1.1

module _ (schema : SchemaTree) where
  with-kinds : ArePlainRuns schema → length (children_of schema) ≡ 2 → (u : RunTree) → AllZip TypedOf (children_of schema) (u.ends ∷ u.values ∷ [])
      → IsEnds u.ends ⊎ (IsEnds u.ends → ⊥) → Read schema
  with-kinds plain two u are (inl ends) = (Ok u, record { over = record { plain = plain; count = two; kids = are }; ends = ends })
  with-kinds plain two u are (inr none) = (Err found.EndsType, (u, record { plain = plain; count = two; kids = are }, none))

  with-kids : ArePlainRuns schema → length (children_of schema) ≡ 2 → (read : Result (List KindTree) KidFault) → KidsRead (children_of schema) read
      → Read schema
  with-kids plain two (Ok kids) are =
      let both = pair (children_of schema) kids two are in
      with-kinds plain two both.0 both.1 (is-ends both.0.ends)
  with-kids plain two (Err fault) are = (Err (found.Child fault), (plain, two, are))

  with-parts : IsRuns schema → Kids (children_of schema) → (read : Result (Unit {0}) OwnSchemaFault) → OwnSchemaReads schema read → Read schema
  with-parts runs kids (Err fault) is = (Err (found.OwnPart fault), (runs, is))
  with-parts runs kids (Ok done) is =
      let plain : ArePlainRuns schema = record { runs = runs; plain = is } in
      elim (cases_eq (length (children_of schema)) 2) [
        | inl two ↦ with-kids plain two kids.0 kids.1
        | inr other ↦ (Err (found.ChildCount (length (children_of schema))), (plain, refl, other))
      ]

module _ (some-kinds : SomeKinds) (some-metadata : SomeMetadata) where
  formatted : (level : ℕ) (own : SchemaMembers) (kids : Trees SchemaMembers) (dictionary : MaybeTree SchemaMembers)
      → SchemaFits level (Live own kids dictionary) → (own.format ≡ codes "+r") ⊎ (own.format ≡ codes "+r" → ⊥) → Read (Live own kids dictionary)
  formatted level own kids dictionary fits (inr other) = (Err found.Format, (tt, other))
  formatted level own kids dictionary fits (inl is) =
      let schema : SchemaTree = Live own kids dictionary in
      let parts = own-parts schema (some-metadata level schema fits) (dictionary_of schema) refl in
      with-parts schema (record { live = tt; spelled = is }) (some-kids some-kinds (level + 1) kids fits.2) parts.0 parts.1

  pub some-runs : (level : ℕ) (schema : SchemaTree) → SchemaFits level schema → Read schema
  some-runs level Released fits = (Err IsReleased, refl)
  some-runs level (Live own kids dictionary) fits =
      formatted level own kids dictionary fits (either (bytes_eq own.format (codes "+r")) (bytes_eq-Decides own.format (codes "+r")))
