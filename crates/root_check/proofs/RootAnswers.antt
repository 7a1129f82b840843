-- A schema's own parts and its children have one answer each.
use Rattle.std.proofs.Common.{◌≡◌, ℕ, zero, suc, ◌+◌, ◌<◌, List, [], ◌∷◌, ◌++◌, length, get_or, take, map, Option, None, Some, refl, ap, sym, ◌∙◌, subst, arith}
use Rattle.std.specs.Prelude.{Result, Ok, Err, IsSome, Vec, IfOk, IfErr, All}
use Rattle.std.specs.Global.{Global}
use Rattle.std.specs.List.{AllZip}
use Rattle.std.proofs.lemmas.List.{length-take, get_or-take, take_more, map-append}
use Rattle.std.proofs.lemmas.List.Elements.{All-push}
use Rattle.schema_meta.specs.declared.pair.Pair.{Pair}
use Rattle.schema_meta.specs.declared.fault.MetaFault.{MetaFault}
use Rattle.schema_meta.specs.Meta.{Reads}
use Rattle.tree_model.specs.promise.TreeData.{Released}
use Rattle.tree_model.specs.promise.TreeParts.{dictionary_of}
use Rattle.raw_schema.specs.promise.Members.{SchemaTree, members_of}
use Rattle.data_types.specs.declared.typed.Typed.{Typed}
use Rattle.data_types.specs.promise.KindTrees.{KindTree}
use Rattle.data_types.specs.KindTrees.{TypedOk}
use Rattle.data_types.specs.promise.TypedView.{typed_of}
use Rattle.data_types.specs.promise.Ways.{steps_of}
use Rattle.schema_check.specs.declared.schema.SchemaFault.TheVariants as schema
use Rattle.schema_check.specs.promise.Schemas.{MetaFits, TypedOf}
use Rattle.schema_check.specs.promise.SchemaAnswers.{MetaRefused}
use Rattle.schema_check.proofs.SchemaOne.{AnswerLaw}
use Rattle.root_check.specs.declared.own_schema.OwnSchemaFault.{OwnSchemaFault}
use Rattle.root_check.specs.declared.own_schema.OwnSchemaFault.TheVariants.{Meta, Dictionary}
use Rattle.root_check.specs.declared.kids.ChildKindsFault.{ChildKindsFault}
use Rattle.root_check.specs.declared.kids.ChildKindsFault.TheVariants.{Child, NoMemory}
use Rattle.root_check.specs.promise.Schemas.{OwnSchemaReads, KidFault, IsKidFault}
use Rattle.root_check.specs.Schemas.{KidsRead}
use Rattle.root_check.specs.KidAnswers.{IsFaultOfKids, GivesKids}

abbrev pub MetaLaw : Type 0
MetaLaw = (bytes : List ℕ) (first second : Result (List Pair) MetaFault) → Reads bytes first → Reads bytes second → first ≡ second

-- ---- a schema's own parts

no_pairs : MetaLaw → (metadata : Option (List ℕ)) (fault : MetaFault) → MetaFits metadata → MetaRefused metadata fault → ⊥
no_pairs law None fault fits refused = refused
no_pairs law (Some bytes) fault fits refused = let e = law bytes (Ok fits.0) (Err fault) fits.1 refused in cc

one_refusal : MetaLaw → (metadata : Option (List ℕ)) (a b : MetaFault) → MetaRefused metadata a → MetaRefused metadata b → a ≡ b
one_refusal law None a b first second = absurd first
one_refusal law (Some bytes) a b first second = let e = law bytes (Err a) (Err b) first second in cc

no_tree : (dictionary : Option SchemaTree) → dictionary ≡ None → IsSome dictionary → ⊥
no_tree dictionary none some = grind (arith, none, some)

pub own_once : MetaLaw → (schema : SchemaTree) (first second : Result (Unit {0}) OwnSchemaFault) → OwnSchemaReads schema first
    → OwnSchemaReads schema second → first ≡ second
own_once law schema (Ok a) (Ok b) first second = refl
own_once law schema (Ok a) (Err (Meta f)) first second = absurd (no_pairs law (members_of schema).metadata f first.0 second)
own_once law schema (Ok a) (Err Dictionary) first second = absurd (no_tree (dictionary_of schema) first.1 second.1)
own_once law schema (Err (Meta f)) (Ok b) first second = absurd (no_pairs law (members_of schema).metadata f second.0 first)
own_once law schema (Err Dictionary) (Ok b) first second = absurd (no_tree (dictionary_of schema) second.1 first.1)
own_once law schema (Err (Meta f)) (Err (Meta g)) first second =
    λ i. Err (Meta (one_refusal law (members_of schema).metadata f g first second i))
own_once law schema (Err (Meta f)) (Err Dictionary) first second = absurd (no_pairs law (members_of schema).metadata f second.0 first)
own_once law schema (Err Dictionary) (Err (Meta g)) first second = absurd (no_pairs law (members_of schema).metadata g first.0 second)
own_once law schema (Err Dictionary) (Err Dictionary) first second = refl

-- ---- the children

kids_same : AnswerLaw → (children : List SchemaTree) (a b : List KindTree) → AllZip TypedOf children a → AllZip TypedOf children b → a ≡ b
kids_same law [] [] [] first second = refl
kids_same law [] [] (y ∷ b) first second = absurd second
kids_same law [] (x ∷ a) b first second = absurd first
kids_same law (c ∷ cs) [] b first second = absurd first
kids_same law (c ∷ cs) (x ∷ a) [] first second = absurd second
kids_same law (c ∷ cs) (x ∷ a) (y ∷ b) first second =
    let e = law c (Ok x) (Ok y) first.0 second.0 in
    let same : x ≡ y = cc in
    λ i. same i ∷ kids_same law cs a b first.1 second.1 i

typed_at : (children : List SchemaTree) (kids : List KindTree) (k : ℕ) → AllZip TypedOf children kids → k < length children
    → TypedOf (get_or children k Released) (get_or kids k Released)
typed_at [] kids k all h = absurd (omega arith)
typed_at (c ∷ cs) [] k all h = absurd all
typed_at (c ∷ cs) (t ∷ ts) zero all h = all.0
typed_at (c ∷ cs) (t ∷ ts) (suc k) all h = typed_at cs ts k all.1 (omega arith)

-- a child that is in order has no fault
no_fault : AnswerLaw → (children : List SchemaTree) (kids : List KindTree) (fault : KidFault) → AllZip TypedOf children kids
    → IsKidFault children fault → ⊥
no_fault law children kids fault all is =
    let e = law (get_or children fault.child Released) (Ok (get_or kids fault.child Released)) (Err fault.first)
    (typed_at children kids fault.child all is.inside) is.fails in
    cc

-- nor has one before the first that has one
no_earlier : AnswerLaw → (children : List SchemaTree) (a b : KidFault) → IsKidFault children a → IsKidFault children b → a.child < b.child → ⊥
no_earlier law children a b first second lt =
    let within : a.child < length (take b.child children) = omega (arith, length-take b.child children, first.inside, lt) in
    let typed = typed_at (take b.child children) second.kids a.child second.before within in
    let same = get_or-take b.child children a.child Released lt in
    let e = law (get_or children a.child Released) (Ok (get_or second.kids a.child Released)) (Err a.first)
    (subst (λ t. TypedOf t (get_or second.kids a.child Released)) same typed) first.fails in
    cc

same_child : (children : List SchemaTree) (a b : KidFault) → a.child ≡ b.child → IsKidFault children b → IsKidFault children (record { child = a.child; first = b.first })
same_child children a b e is = subst (λ (k : ℕ). IsKidFault children (record { child = k; first = b.first })) (sym e) is

one_fault : AnswerLaw → (children : List SchemaTree) (a b : KidFault) → IsKidFault children a → IsKidFault children b → a ≡ b
one_fault law children a b first second =
    let child : a.child ≡ b.child = by_order (no_earlier law children a b first second) (no_earlier law children b a second first) in
    let e = law (get_or children a.child Released) (Err a.first) (Err b.first) first.fails (same_child children a b child second).fails in
    let inner : a.first ≡ b.first = cc in
    λ i. record { child = child i; first = inner i }
  where
    by_order : {m n : ℕ} → (m < n → ⊥) → (n < m → ⊥) → m ≡ n
    by_order f g = omega (arith, f, g)

pub kids_once : AnswerLaw → (children : List SchemaTree) (first second : Result (List KindTree) KidFault) → KidsRead children first
    → KidsRead children second → first ≡ second
kids_once law children (Ok a) (Ok b) first second = λ i. Ok (kids_same law children a b first second i)
kids_once law children (Ok a) (Err g) first second = absurd (no_fault law children a g first second)
kids_once law children (Err f) (Ok b) first second = absurd (no_fault law children b f second first)
kids_once law children (Err f) (Err g) first second = λ i. Err (one_fault law children f g first second i)

abbrev pub KidsLaw : Type 0
KidsLaw = (children : List SchemaTree) (first second : Result (List KindTree) KidFault) → KidsRead children first → KidsRead children second → first ≡ second

pub gives_kids : KidsLaw → (children : List SchemaTree) (result : Result (Vec Typed Global) ChildKindsFault)
    → IfOk result (λ kids. AllZip TypedOf children (map typed_of kids.items)) → IfErr result (IsFaultOfKids children)
    → (read : Result (List KindTree) KidFault) → KidsRead children read → GivesKids result read
gives_kids law children (Ok kids) found fault read is = law children read (Ok (map typed_of kids.items)) is found
gives_kids law children (Err (Child child (schema.At path rule))) found fault read is =
    law children read (Err (record { child = child; first = record { path = steps_of path; rule = rule } })) is fault
gives_kids law children (Err (Child child schema.NoMemory)) found fault read is = absurd fault
gives_kids law children (Err NoMemory) found fault read is = tt

-- ---- the children, one by one

zip_push : (xs : List SchemaTree) (ys : List KindTree) (x : SchemaTree) (y : KindTree) → AllZip TypedOf xs ys → TypedOf x y
    → AllZip TypedOf (xs ++ x ∷ []) (ys ++ y ∷ [])
zip_push [] [] x y all one = (one, tt)
zip_push [] (b ∷ ys) x y all one = absurd all
zip_push (a ∷ xs) [] x y all one = absurd all
zip_push (a ∷ xs) (b ∷ ys) x y all one = (all.0, zip_push xs ys x y all.1 one)

grown_names : (items more : List Typed) (x : Typed) → more ≡ items ++ x ∷ [] → map typed_of items ++ typed_of x ∷ [] ≡ map typed_of more
grown_names items more x grown = sym (ap (map typed_of) grown ∙ map-append typed_of items (x ∷ []))

pub types_more : (xs : List SchemaTree) (i : ℕ) (items more : List Typed) (x : Typed) → i < length xs
    → AllZip TypedOf (take i xs) (map typed_of items) → TypedOf (get_or xs i Released) (typed_of x) → more ≡ items ++ x ∷ []
    → AllZip TypedOf (take (i + 1) xs) (map typed_of more)
types_more xs i items more x inside all one grown =
    subst (λ ys. AllZip TypedOf ys (map typed_of more)) (sym (take_more xs i Released inside))
    (subst (λ ts. AllZip TypedOf (take i xs ++ get_or xs i Released ∷ []) ts) (grown_names items more x grown)
    (zip_push (take i xs) (map typed_of items) (get_or xs i Released) (typed_of x) all one))

pub valid_more : (items more : List Typed) (x : Typed) → All TypedOk (map typed_of items) → TypedOk (typed_of x) → more ≡ items ++ x ∷ []
    → All TypedOk (map typed_of more)
valid_more items more x all one grown =
    subst (All TypedOk) (grown_names items more x grown) (All-push TypedOk (map typed_of items) (typed_of x) all one)
