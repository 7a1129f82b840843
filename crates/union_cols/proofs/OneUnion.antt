-- A union's schema has one answer.
use Rattle.std.proofs.Common.{◌≡◌, ◌≢◌, ℕ, List, [], ◌∷◌, length, Option, Some, None, refl, ap, sym, ◌∙◌, subst, inl, inr, arith}
use Rattle.std.specs.Prelude.{Result, Ok, Err, ◌⊎◌, IfOk, IfErr, All}
use Rattle.std.specs.List.{AllZip}
use Rattle.schema_meta.specs.declared.fault.MetaFault.TheVariants as meta
use Rattle.schema_check.specs.declared.schema.SchemaFault.TheVariants as checked
use Rattle.schema_check.specs.promise.Schemas.{TypedOf}
use Rattle.schema_check.specs.promise.SchemaAnswers.{MetaRefused}
use Rattle.tree_model.specs.promise.TreeData.{Released, Live}
use Rattle.tree_model.specs.promise.TreeParts.{IsLive, children_of}
use Rattle.raw_schema.specs.promise.Members.{SchemaTree, members_of}
use Rattle.data_types.specs.promise.KindTrees.{KindTree}
use Rattle.data_types.specs.KindTrees.{TypedOk}
use Rattle.root_check.specs.declared.own_schema.OwnSchemaFault.{OwnSchemaFault}
use Rattle.root_check.specs.declared.own_schema.OwnSchemaFault.TheVariants as parts
use Rattle.root_check.specs.declared.kids.ChildKindsFault.{ChildKindsFault}
use Rattle.root_check.specs.declared.kids.ChildKindsFault.TheVariants as kids
use Rattle.root_check.specs.promise.Schemas.{OwnSchemaReads, KidFault}
use Rattle.root_check.specs.Schemas.{KidsRead}
use Rattle.root_check.specs.KidAnswers.{IsFaultOfKids}
use Rattle.union_cols.specs.declared.kinds.UnionTyped.{UnionTyped}
use Rattle.union_cols.specs.declared.schema_fault.UnionSchemaFault.{UnionSchemaFault}
use Rattle.union_cols.specs.promise.UnionFormats.{UnionFormat, UnionFormatIs, UnionFormatFault}
use Rattle.union_cols.specs.promise.Unions.{UnionTree}
use Rattle.union_cols.specs.Unions.{UnionTypedOk, format_of}
use Rattle.union_cols.specs.promise.UnionSchemas.{IsUnion, IsPlainUnion, UnionOf, SchemaFound, IsReleased, Format, OwnPart, ChildCount, Child, UnionReads}
use Rattle.union_cols.specs.SchemaParts.{own_refused, kids_refused}
use Rattle.union_cols.specs.UnionAnswers.{union_of, named, IsUnionFault, FailsIf, GivesIf, GivesUnion}
use Rattle.union_cols.proofs.Formats.{one_format}

abbrev pub OwnLaw : Type 0
OwnLaw = (schema : SchemaTree) (first second : Result (Unit {0}) OwnSchemaFault) → OwnSchemaReads schema first → OwnSchemaReads schema second → first ≡ second

abbrev pub KidsLaw : Type 0
KidsLaw = (children : List SchemaTree) (first second : Result (List KindTree) KidFault) → KidsRead children first → KidsRead children second → first ≡ second

-- ---- an answer, stage by stage

made : UnionFormat → Result (List KindTree) KidFault → Result UnionTree SchemaFound
made format (Ok kids) = Ok (record { dense = format.dense; ids = format.ids; kids = kids })
made format (Err fault) = Err (Child fault)

record Counted (schema : SchemaTree) (format : UnionFormat) (read : Result UnionTree SchemaFound) : Type 0 where
  inner : Result (List KindTree) KidFault
  reads : KidsRead (children_of schema) inner
  is : read ≡ made format inner

abbrev IsMiscounted : SchemaTree → UnionFormat → Result UnionTree SchemaFound → Type 0
IsMiscounted schema format read =
    (length (children_of schema) ≢ length format.ids) × (read ≡ Err (ChildCount (length (children_of schema)) (length format.ids)))

abbrev BehindOwn : SchemaTree → UnionFormat → Result UnionTree SchemaFound → Type 0
BehindOwn schema format read = IsMiscounted schema format read ⊎ ((length (children_of schema) ≡ length format.ids) × Counted schema format read)

abbrev BehindFormat : SchemaTree → UnionFormat → Result UnionTree SchemaFound → Type 0
BehindFormat schema format read =
    ((fault : OwnSchemaFault) × OwnSchemaReads schema (Err fault) × (read ≡ Err (OwnPart fault)))
    ⊎ (OwnSchemaReads schema (Ok tt) × BehindOwn schema format read)

abbrev Staged : SchemaTree → Result UnionTree SchemaFound → Type 0
Staged schema read =
    ((place : ℕ) × UnionFormatFault (members_of schema).format place × (read ≡ Err (Format place)))
    ⊎ ((format : UnionFormat) × UnionFormatIs (members_of schema).format format × BehindFormat schema format read)

staged : (schema : SchemaTree) (read : Result UnionTree SchemaFound) → IsLive schema → UnionReads schema read → Staged schema read
unfolding made
staged schema (Ok u) live is =
    inr (
      format_of u,
      is.plain.union.spelled,
      inr (is.plain.plain, inr (is.count, record { inner = Ok u.kids; reads = is.kids; is = refl })),
    )
staged schema (Err IsReleased) live is = absurd (subst IsLive is live)
staged schema (Err (Format place)) live is = inl (place, is.1, refl)
staged schema (Err (OwnPart fault)) live is = inr (is.0, is.1.spelled, inl (fault, is.2, refl))
staged schema (Err (ChildCount found needed)) live is =
    inr (is.0, is.1.union.spelled, inr (is.1.plain, inl (λ e. is.4 (is.2 ∙ e ∙ sym is.3), λ i. Err (ChildCount (is.2 i) (is.3 i)))))
staged schema (Err (Child fault)) live is =
    inr (is.0, is.1.union.spelled, inr (is.1.plain, inr (is.2, record { inner = Err fault; reads = is.3; is = refl })))

-- ---- two answers

kids_once : KidsLaw → (schema : SchemaTree) (format : UnionFormat) (first second : Result UnionTree SchemaFound) → Counted schema format first
    → Counted schema format second → first ≡ second
kids_once law schema format first second f g =
    f.is ∙ ap (made format) (law (children_of schema) f.inner g.inner f.reads g.reads) ∙ sym g.is

count_once : KidsLaw → (schema : SchemaTree) (format : UnionFormat) (first second : Result UnionTree SchemaFound) → BehindOwn schema format first
    → BehindOwn schema format second → first ≡ second
count_once law schema format first second (inl f) (inl g) = f.1 ∙ sym g.1
count_once law schema format first second (inl f) (inr g) = absurd (f.0 g.0)
count_once law schema format first second (inr f) (inl g) = absurd (g.0 f.0)
count_once law schema format first second (inr f) (inr g) = kids_once law schema format first second f.1 g.1

own_apart : OwnLaw → (schema : SchemaTree) (fault : OwnSchemaFault) → OwnSchemaReads schema (Err fault) → OwnSchemaReads schema (Ok tt) → ⊥
own_apart law schema fault f g = let e = law schema (Err fault) (Ok tt) f g in cc

own_once : OwnLaw → KidsLaw → (schema : SchemaTree) (format : UnionFormat) (first second : Result UnionTree SchemaFound) → BehindFormat schema format first
    → BehindFormat schema format second → first ≡ second
own_once own kids schema format first second (inl f) (inl g) =
    let e = own schema (Err f.0) (Err g.0) f.1 g.1 in
    let same : f.0 ≡ g.0 = cc in
    f.2 ∙ (λ i. Err (OwnPart (same i))) ∙ sym g.2
own_once own kids schema format first second (inl f) (inr g) = absurd (own_apart own schema f.0 f.1 g.0)
own_once own kids schema format first second (inr f) (inl g) = absurd (own_apart own schema g.0 g.1 f.0)
own_once own kids schema format first second (inr f) (inr g) = count_once kids schema format first second f.1 g.1

format_apart : (text : List ℕ) (place : ℕ) (format : UnionFormat) → UnionFormatFault text place → UnionFormatIs text format → ⊥
format_apart text place format f g = let e = one_format text (Err place) (Ok format) f g in cc

staged_once : OwnLaw → KidsLaw → (schema : SchemaTree) (first second : Result UnionTree SchemaFound) → Staged schema first → Staged schema second
    → first ≡ second
staged_once own kids schema first second (inl f) (inl g) =
    let e = one_format (members_of schema).format (Err f.0) (Err g.0) f.1 g.1 in
    let same : f.0 ≡ g.0 = cc in
    f.2 ∙ (λ i. Err (Format (same i))) ∙ sym g.2
staged_once own kids schema first second (inl f) (inr g) = absurd (format_apart (members_of schema).format f.0 g.0 f.1 g.1)
staged_once own kids schema first second (inr f) (inl g) = absurd (format_apart (members_of schema).format g.0 f.0 g.1 f.1)
staged_once own kids schema first second (inr f) (inr g) =
    let e = one_format (members_of schema).format (Ok f.0) (Ok g.0) f.1 g.1 in
    let same : g.0 ≡ f.0 = cc in
    own_once own kids schema f.0 first second f.2 (subst (λ format. BehindFormat schema format second) same g.2)

released_once : (read : Result UnionTree SchemaFound) → UnionReads Released read → read ≡ Err IsReleased
released_once (Ok u) is = absurd is.plain.union.live
released_once (Err IsReleased) is = refl
released_once (Err (Format place)) is = absurd is.0
released_once (Err (OwnPart fault)) is = absurd is.1.live
released_once (Err (ChildCount found needed)) is = absurd is.1.union.live
released_once (Err (Child fault)) is = absurd is.1.union.live

pub one_union : OwnLaw → KidsLaw → (schema : SchemaTree) (first second : Result UnionTree SchemaFound) → UnionReads schema first → UnionReads schema second
    → first ≡ second
one_union own kids Released first second f g = released_once first f ∙ sym (released_once second g)
one_union own kids (Live members children dictionary) first second f g =
    staged_once own kids (Live members children dictionary) first second (staged (Live members children dictionary) first tt f)
    (staged (Live members children dictionary) second tt g)

-- ---- what the code answers

abbrev pub UnionLaw : Type 0
UnionLaw = (schema : SchemaTree) (first second : Result UnionTree SchemaFound) → UnionReads schema first → UnionReads schema second → first ≡ second

gives_if : UnionLaw → (schema : SchemaTree) (found : Option SchemaFound) (read : Result UnionTree SchemaFound) → FailsIf schema found → UnionReads schema read
    → GivesIf found read
gives_if law schema None read fails is = tt
gives_if law schema (Some found) read fails is = law schema read (Err found) is fails

pub gives_union : UnionLaw → (schema : SchemaTree) (result : Result UnionTyped UnionSchemaFault) → IfOk result (λ typed. UnionOf schema (union_of typed))
    → IfErr result (IsUnionFault schema) → (read : Result UnionTree SchemaFound) → UnionReads schema read → GivesUnion result read
gives_union law schema (Ok typed) found fault read is = law schema read (Ok (union_of typed)) is found
gives_union law schema (Err fault) found fails read is = gives_if law schema (named fault) read fails.1 is

-- ---- the exits of the reading

refused_some : (metadata : Option (List ℕ)) → MetaRefused metadata meta.NoMemory → ⊥
refused_some None h = h
refused_some (Some bytes) h = h

pub own_exit : (schema : SchemaTree) (format : UnionFormat) (fault : OwnSchemaFault) → IsUnion schema format → OwnSchemaReads schema (Err fault)
    → IsUnionFault schema (own_refused fault)
own_exit schema format (parts.Meta meta.NoMemory) union is = absurd (refused_some (members_of schema).metadata is)
own_exit schema format (parts.Meta fault) union is = (tt, (format, union, is))
own_exit schema format parts.Dictionary union is = (tt, (format, union, is))

pub kids_exit : (schema : SchemaTree) (format : UnionFormat) (fault : ChildKindsFault) → IsPlainUnion schema format
    → length (children_of schema) ≡ length format.ids → IsFaultOfKids (children_of schema) fault → IsUnionFault schema (kids_refused fault)
kids_exit schema format (kids.Child child (checked.At path rule)) plain count is = (tt, (format, plain, count, is))
kids_exit schema format (kids.Child child checked.NoMemory) plain count is = absurd is
kids_exit schema format kids.NoMemory plain count is = (tt, tt)

length_zip : (children : List SchemaTree) (kinds : List KindTree) → AllZip TypedOf children kinds → length children ≡ length kinds
length_zip [] [] all = refl
length_zip [] (y ∷ ys) all = absurd all
length_zip (x ∷ xs) [] all = absurd all
length_zip (x ∷ xs) (y ∷ ys) all = omega (arith, length_zip xs ys all.1)

pub union_valid : (schema : SchemaTree) (u : UnionTree) → UnionOf schema u → All TypedOk u.kids → UnionTypedOk u
union_valid schema u is valid =
    record {
      same = sym is.count ∙ length_zip (children_of schema) u.kids is.kids;
      ids_are = is.plain.union.spelled.ids_are;
      kids_are = valid;
    }
