-- A schema has one answer.
use Rattle.std.proofs.Common.{◌≡◌, ◌≢◌, List, [], ◌∷◌, length, map, Option, Some, None, refl, ap, sym, ◌∙◌, subst, inl, inr, arith}
use Rattle.std.specs.Prelude.{Result, Ok, Err, ◌⊎◌, IfOk, IfErr, All, codes}
use Rattle.std.specs.List.{AllZip}
use Rattle.schema_check.specs.promise.Schemas.{TypedOf}
use Rattle.tree_model.specs.promise.TreeData.{Released, Live}
use Rattle.tree_model.specs.promise.TreeParts.{IsLive, children_of}
use Rattle.raw_schema.specs.promise.Members.{SchemaTree, members_of}
use Rattle.data_types.specs.promise.KindTrees.{KindTree}
use Rattle.data_types.specs.KindTrees.{TypedOk}
use Rattle.data_types.specs.declared.typed.Typed.{Typed}
use Rattle.data_types.specs.promise.TypedView.{typed_of}
use Rattle.root_check.specs.declared.own_schema.OwnSchemaFault.{OwnSchemaFault}
use Rattle.root_check.specs.promise.Schemas.{OwnSchemaReads, KidFault}
use Rattle.root_check.specs.Schemas.{KidsRead}
use Rattle.run_ends.specs.declared.kinds.RunTyped.{RunTyped}
use Rattle.run_ends.specs.declared.schema_fault.RunsSchemaFault.{RunsSchemaFault}
use Rattle.run_ends.specs.promise.Runs.{RunTree, IsEnds}
use Rattle.run_ends.specs.Runs.{RunTypedOk}
use Rattle.run_ends.specs.promise.RunSchemas.{ArePlainRuns, AreOver, RunsOf, SchemaFound, IsReleased, Format, OwnPart, ChildCount, Child, EndsType, RunsReads}
use Rattle.run_ends.specs.RunAnswers.{runs_of, named, IsRunsFault, FailsIf, GivesIf, GivesRuns}

abbrev pub OwnLaw : Type 0
OwnLaw = (schema : SchemaTree) (first second : Result (Unit {0}) OwnSchemaFault) → OwnSchemaReads schema first → OwnSchemaReads schema second → first ≡ second

abbrev pub KidsLaw : Type 0
KidsLaw = (children : List SchemaTree) (first second : Result (List KindTree) KidFault) → KidsRead children first → KidsRead children second → first ≡ second

-- ---- an answer, stage by stage

-- the children are of these kinds, of which the first is of ends or isn't
record IsTyped (schema : SchemaTree) (read : Result RunTree SchemaFound) : Type 0 where
  u : RunTree
  kids : AllZip TypedOf (children_of schema) (u.ends ∷ u.values ∷ [])
  is : (IsEnds u.ends × (read ≡ Ok u)) ⊎ ((¬ IsEnds u.ends) × (read ≡ Err EndsType))

abbrev BehindCount : SchemaTree → Result RunTree SchemaFound → Type 0
BehindCount schema read = ((fault : KidFault) × KidsRead (children_of schema) (Err fault) × (read ≡ Err (Child fault))) ⊎ IsTyped schema read

abbrev BehindOwn : SchemaTree → Result RunTree SchemaFound → Type 0
BehindOwn schema read =
    ((length (children_of schema) ≢ 2) × (read ≡ Err (ChildCount (length (children_of schema)))))
    ⊎ ((length (children_of schema) ≡ 2) × BehindCount schema read)

abbrev BehindFormat : SchemaTree → Result RunTree SchemaFound → Type 0
BehindFormat schema read =
    ((fault : OwnSchemaFault) × OwnSchemaReads schema (Err fault) × (read ≡ Err (OwnPart fault))) ⊎ (OwnSchemaReads schema (Ok tt) × BehindOwn schema read)

abbrev Staged : SchemaTree → Result RunTree SchemaFound → Type 0
Staged schema read =
    (((members_of schema).format ≢ codes "+r") × (read ≡ Err Format)) ⊎ (((members_of schema).format ≡ codes "+r") × BehindFormat schema read)

staged : (schema : SchemaTree) (read : Result RunTree SchemaFound) → IsLive schema → RunsReads schema read → Staged schema read
staged schema (Ok u) live is =
    inr (
      is.over.plain.runs.spelled,
      inr (is.over.plain.plain, inr (is.over.count, inr (record { u = u; kids = is.over.kids; is = inl (is.ends, refl) }))),
    )
staged schema (Err IsReleased) live is = absurd (subst IsLive is live)
staged schema (Err Format) live is = inl (is.1, refl)
staged schema (Err (OwnPart fault)) live is = inr (is.0.spelled, inl (fault, is.1, refl))
staged schema (Err (ChildCount found)) live is =
    inr (is.0.runs.spelled, inr (is.0.plain, inl (λ e. is.2 (is.1 ∙ e), λ i. Err (ChildCount (is.1 i)))))
staged schema (Err (Child fault)) live is = inr (is.0.runs.spelled, inr (is.0.plain, inr (is.1, inl (fault, is.2, refl))))
staged schema (Err EndsType) live is =
    inr (
      is.1.plain.runs.spelled,
      inr (is.1.plain.plain, inr (is.1.count, inr (record { u = is.0; kids = is.1.kids; is = inr (is.2, refl) }))),
    )

-- ---- two answers

ends_list : List KindTree → KindTree
ends_list [] = Released
ends_list (x ∷ xs) = x

values_list : List KindTree → KindTree
values_list [] = Released
values_list (x ∷ xs) = ends_list xs

taken : Result (List KindTree) KidFault → List KindTree
taken (Ok xs) = xs
taken (Err fault) = []

same_runs : (u v : RunTree) → ◌≡◌ {A = Result (List KindTree) KidFault} (Ok (u.ends ∷ u.values ∷ [])) (Ok (v.ends ∷ v.values ∷ [])) → u ≡ v
unfolding ends_list values_list taken
same_runs u v e =
    let ends : u.ends ≡ v.ends = ap (λ r. ends_list (taken r)) e in
    let values : u.values ≡ v.values = ap (λ r. values_list (taken r)) e in
    λ i. record { ends = ends i; values = values i }

typed_once : KidsLaw → (schema : SchemaTree) (first second : Result RunTree SchemaFound) → IsTyped schema first → IsTyped schema second → first ≡ second
typed_once law schema first second f g =
    let same : f.u ≡ g.u = same_runs f.u g.u (law (children_of schema) (Ok (f.u.ends ∷ f.u.values ∷ [])) (Ok (g.u.ends ∷ g.u.values ∷ [])) f.kids g.kids) in
    by same f.is g.is
  where
    by : f.u ≡ g.u → (IsEnds f.u.ends × (first ≡ Ok f.u)) ⊎ ((¬ IsEnds f.u.ends) × (first ≡ Err EndsType))
        → (IsEnds g.u.ends × (second ≡ Ok g.u)) ⊎ ((¬ IsEnds g.u.ends) × (second ≡ Err EndsType)) → first ≡ second
    by same (inl p) (inl q) = p.1 ∙ ap Ok same ∙ sym q.1
    by same (inl p) (inr q) = absurd (q.0 (subst (λ (u : RunTree). IsEnds u.ends) same p.0))
    by same (inr p) (inl q) = absurd (p.0 (subst (λ (u : RunTree). IsEnds u.ends) (sym same) q.0))
    by same (inr p) (inr q) = p.1 ∙ sym q.1

kids_apart : KidsLaw → (children : List SchemaTree) (fault : KidFault) (kinds : List KindTree) → KidsRead children (Err fault) → KidsRead children (Ok kinds) → ⊥
kids_apart law children fault kinds f g = let e = law children (Err fault) (Ok kinds) f g in cc

kids_once : KidsLaw → (schema : SchemaTree) (first second : Result RunTree SchemaFound) → BehindCount schema first → BehindCount schema second → first ≡ second
kids_once law schema first second (inl f) (inl g) =
    let e = law (children_of schema) (Err f.0) (Err g.0) f.1 g.1 in
    let same : f.0 ≡ g.0 = cc in
    f.2 ∙ (λ i. Err (Child (same i))) ∙ sym g.2
kids_once law schema first second (inl f) (inr g) = absurd (kids_apart law (children_of schema) f.0 (g.u.ends ∷ g.u.values ∷ []) f.1 g.kids)
kids_once law schema first second (inr f) (inl g) = absurd (kids_apart law (children_of schema) g.0 (f.u.ends ∷ f.u.values ∷ []) g.1 f.kids)
kids_once law schema first second (inr f) (inr g) = typed_once law schema first second f g

count_once : KidsLaw → (schema : SchemaTree) (first second : Result RunTree SchemaFound) → BehindOwn schema first → BehindOwn schema second → first ≡ second
count_once law schema first second (inl f) (inl g) = f.1 ∙ sym g.1
count_once law schema first second (inl f) (inr g) = absurd (f.0 g.0)
count_once law schema first second (inr f) (inl g) = absurd (g.0 f.0)
count_once law schema first second (inr f) (inr g) = kids_once law schema first second f.1 g.1

own_apart : OwnLaw → (schema : SchemaTree) (fault : OwnSchemaFault) → OwnSchemaReads schema (Err fault) → OwnSchemaReads schema (Ok tt) → ⊥
own_apart law schema fault f g = let e = law schema (Err fault) (Ok tt) f g in cc

own_once : OwnLaw → KidsLaw → (schema : SchemaTree) (first second : Result RunTree SchemaFound) → BehindFormat schema first → BehindFormat schema second
    → first ≡ second
own_once own kids schema first second (inl f) (inl g) =
    let e = own schema (Err f.0) (Err g.0) f.1 g.1 in
    let same : f.0 ≡ g.0 = cc in
    f.2 ∙ (λ i. Err (OwnPart (same i))) ∙ sym g.2
own_once own kids schema first second (inl f) (inr g) = absurd (own_apart own schema f.0 f.1 g.0)
own_once own kids schema first second (inr f) (inl g) = absurd (own_apart own schema g.0 g.1 f.0)
own_once own kids schema first second (inr f) (inr g) = count_once kids schema first second f.1 g.1

staged_once : OwnLaw → KidsLaw → (schema : SchemaTree) (first second : Result RunTree SchemaFound) → Staged schema first → Staged schema second
    → first ≡ second
staged_once own kids schema first second (inl f) (inl g) = f.1 ∙ sym g.1
staged_once own kids schema first second (inl f) (inr g) = absurd (f.0 g.0)
staged_once own kids schema first second (inr f) (inl g) = absurd (g.0 f.0)
staged_once own kids schema first second (inr f) (inr g) = own_once own kids schema first second f.1 g.1

released_once : (read : Result RunTree SchemaFound) → RunsReads Released read → read ≡ Err IsReleased
released_once (Ok u) is = absurd is.over.plain.runs.live
released_once (Err IsReleased) is = refl
released_once (Err Format) is = absurd is.0
released_once (Err (OwnPart fault)) is = absurd is.0.live
released_once (Err (ChildCount found)) is = absurd is.0.runs.live
released_once (Err (Child fault)) is = absurd is.0.runs.live
released_once (Err EndsType) is = absurd is.1.plain.runs.live

pub one_runs : OwnLaw → KidsLaw → (schema : SchemaTree) (first second : Result RunTree SchemaFound) → RunsReads schema first → RunsReads schema second
    → first ≡ second
one_runs own kids Released first second f g = released_once first f ∙ sym (released_once second g)
one_runs own kids (Live members children dictionary) first second f g =
    staged_once own kids (Live members children dictionary) first second (staged (Live members children dictionary) first tt f)
    (staged (Live members children dictionary) second tt g)

-- ---- what the code answers

abbrev pub RunsLaw : Type 0
RunsLaw = (schema : SchemaTree) (first second : Result RunTree SchemaFound) → RunsReads schema first → RunsReads schema second → first ≡ second

gives_if : RunsLaw → (schema : SchemaTree) (found : Option SchemaFound) (read : Result RunTree SchemaFound) → FailsIf schema found → RunsReads schema read
    → GivesIf found read
gives_if law schema None read fails is = tt
gives_if law schema (Some found) read fails is = law schema read (Err found) is fails

pub gives_runs : RunsLaw → (schema : SchemaTree) (result : Result RunTyped RunsSchemaFault) → IfOk result (λ typed. RunsOf schema (runs_of typed))
    → IfErr result (IsRunsFault schema) → (read : Result RunTree SchemaFound) → RunsReads schema read → GivesRuns result read
gives_runs law schema (Ok typed) found fault read is = law schema read (Ok (runs_of typed)) is found
gives_runs law schema (Err fault) found fails read is = gives_if law schema (named fault) read fails.1 is

-- ---- the kinds of two children

pub two_zipped : (children : List SchemaTree) (kinds : List KindTree) → AllZip TypedOf children kinds → length children ≡ length kinds
two_zipped [] [] all = refl
two_zipped [] (y ∷ ys) all = absurd all
two_zipped (x ∷ xs) [] all = absurd all
two_zipped (x ∷ xs) (y ∷ ys) all = omega (arith, two_zipped xs ys all.1)

pub are_over : (schema : SchemaTree) (kids : List Typed) (ends values : Typed) → ArePlainRuns schema → length (children_of schema) ≡ 2
    → AllZip TypedOf (children_of schema) (map typed_of kids) → kids ≡ ends ∷ values ∷ []
    → AreOver schema (record { ends = typed_of ends; values = typed_of values })
are_over schema kids ends values plain count all is =
    record { plain = plain; count = count; kids = subst (λ (ks : List Typed). AllZip TypedOf (children_of schema) (map typed_of ks)) is all }

pub are_ok : (kids : List Typed) (ends values : Typed) → All TypedOk (map typed_of kids) → kids ≡ ends ∷ values ∷ [] → IsEnds (typed_of ends)
    → RunTypedOk (record { ends = typed_of ends; values = typed_of values })
are_ok kids ends values all is ends_are =
    let both = subst (λ (ks : List Typed). All TypedOk (map typed_of ks)) is all in
    record { ends_are = ends_are; ends_ok = both 0 Released (omega arith); values_ok = both 1 Released (omega arith) }
