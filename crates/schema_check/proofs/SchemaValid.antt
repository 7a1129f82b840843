-- The kinds of a schema that meets each rule are valid.
use Rattle.std.proofs.Common.{◌≡◌, ℕ, ◌+◌, ◌≤◌, List, refl, sym, subst, ◌∙◌, arith}
use Rattle.data_types.specs.declared.kind.DataType.{DataType}
use Rattle.data_types.specs.declared.kind.DataType.TheVariants as kinds
use Rattle.fmt_string.specs.promise.FormatString.{FormatIs}
use Rattle.data_types.specs.Kinds.{KindOk}
use Rattle.fmt_string.specs.promise.Spelling.{spelling_of}
use Rattle.tree_model.specs.promise.TreeData.{Released, Live, Trees, no_trees, more_trees, MaybeTree, absent, present}
use Rattle.tree_model.specs.Tree.{Depth, depth_of_all, depth_of_maybe}
use Rattle.raw_schema.specs.promise.Members.{SchemaMembers, SchemaTree}
use Rattle.data_types.specs.promise.KindTrees.{KindTree, tree_count}
use Rattle.data_types.specs.KindTrees.{IsPairOfColumns, IsOneChild, IsNoChild, KidsOk, DictOk, NodesOk, AllNodesOk, DictNodesOk, TypedOk}
use Rattle.schema_check.specs.promise.Schemas.{ChildrenFit, IndexFits, MapFits, IsPairNode, IsPairSchema, KidsTyped, DictTyped, TypedFrom, TypedOf}
use Rattle.schema_check.proofs.SchemaOne.{FormatLaw, one_kind}

abbrev pub ValidLaw : Type 0
ValidLaw = (text : List ℕ) (kind : DataType) → FormatIs text kind → KindOk kind

abbrev pub SpellingLaw : Type 0
SpellingLaw = (kind : DataType) → KindOk kind → FormatIs (spelling_of kind) kind

-- ---- levels

mutual
  typed_levels : (level : ℕ) (t : SchemaTree) (a : KindTree) → TypedFrom level t a → Depth a + level ≤ 65
  typed_levels level Released a h = absurd h
  typed_levels level (Live s kids dict) Released h = absurd h
  typed_levels level (Live s kids dict) (Live a us ad) h =
      let low : level + 1 ≤ 65 = omega (arith, h.0.on_level) in
      omega (arith, kids_levels (level + 1) kids us low h.1, dict_levels (level + 1) dict ad low h.2)

  kids_levels : (level : ℕ) (kids : Trees SchemaMembers) (us : Trees DataType) → level ≤ 65 → KidsTyped level kids us → depth_of_all us + level ≤ 65
  kids_levels level no_trees no_trees low h = omega (arith, low)
  kids_levels level no_trees (more_trees a us) low h = absurd h
  kids_levels level (more_trees kid kids) no_trees low h = absurd h
  kids_levels level (more_trees kid kids) (more_trees a us) low h = omega (arith, typed_levels level kid a h.0, kids_levels level kids us low h.1)

  dict_levels : (level : ℕ) (dict : MaybeTree SchemaMembers) (a : MaybeTree DataType) → level ≤ 65 → DictTyped level dict a → depth_of_maybe a + level ≤ 65
  dict_levels level absent absent low h = omega (arith, low)
  dict_levels level absent (present a) low h = absurd h
  dict_levels level (present dict) absent low h = absurd h
  dict_levels level (present dict) (present a) low h = typed_levels level dict a h

-- ---- children

same_count : (level : ℕ) (kids : Trees SchemaMembers) (us : Trees DataType) → KidsTyped level kids us → tree_count us ≡ tree_count kids
same_count level no_trees no_trees h = refl
same_count level no_trees (more_trees a us) h = absurd h
same_count level (more_trees kid kids) no_trees h = absurd h
same_count level (more_trees kid kids) (more_trees a us) h = omega (arith, same_count level kids us h.1)

one_child : (us : Trees DataType) → tree_count us ≡ 1 → IsOneChild us (λ kid. Unit {0})
one_child no_trees e = absurd (omega (arith, e))
one_child (more_trees a no_trees) e = tt
one_child (more_trees a (more_trees b vs)) e = absurd (omega (arith, e))

no_child : (us : Trees DataType) → tree_count us ≡ 0 → IsNoChild us
no_child no_trees e = tt
no_child (more_trees a us) e = absurd (omega (arith, e))

pair_of_structs : (us : Trees DataType) (dict : MaybeTree DataType) → tree_count us ≡ 2 → IsPairOfColumns (Live kinds.Struct us dict)
pair_of_structs no_trees dict e = absurd (omega (arith, e))
pair_of_structs (more_trees a no_trees) dict e = absurd (omega (arith, e))
pair_of_structs (more_trees a (more_trees b no_trees)) dict e = tt
pair_of_structs (more_trees a (more_trees b (more_trees c cs))) dict e = absurd (omega (arith, e))

index_valid : (level : ℕ) (kind : DataType) (dict : MaybeTree SchemaMembers) (a : MaybeTree DataType) → DictTyped level dict a
    → IndexFits kind dict → DictOk kind a
index_valid level kind absent absent h fit = tt
index_valid level kind absent (present a) h fit = absurd h
index_valid level kind (present dict) absent h fit = absurd h
index_valid level (kinds.Int bits signed) (present dict) (present a) h fit = tt
index_valid level kind (present dict) (present a) h fit = absurd fit

-- ---- a reading of formats that reads each spelling back
module _ (formats : FormatLaw) (spells : SpellingLaw) where
  pair_of : (level : ℕ) (kid : SchemaTree) (a : KindTree) → TypedFrom level kid a → IsPairNode kid → IsPairOfColumns a
  pair_of level Released a h pair = absurd h
  pair_of level (Live s kids dict) Released h pair = absurd h
  pair_of level (Live s kids dict) (Live kind us ad) h pair =
      let text : FormatIs s.format kinds.Struct = subst (λ (x : List ℕ). FormatIs x kinds.Struct) (sym pair.0) (spells kinds.Struct tt) in
      let is : kinds.Struct ≡ kind = one_kind formats s.format kinds.Struct kind text h.0.format in
      subst (λ k. IsPairOfColumns (Live k us ad)) is (pair_of_structs us ad (same_count (level + 1) kids us h.1 ∙ pair.1))

  map_child : (level : ℕ) (kids : Trees SchemaMembers) (us : Trees DataType) → KidsTyped level kids us → tree_count us ≡ 1
      → IsPairSchema kids → IsOneChild us IsPairOfColumns
  map_child level no_trees us h e pair = absurd pair
  map_child level (more_trees kid kids) no_trees h e pair = absurd h
  map_child level (more_trees kid kids) (more_trees a no_trees) h e pair = pair_of level kid a h.0 pair
  map_child level (more_trees kid kids) (more_trees a (more_trees b vs)) h e pair = absurd (omega (arith, e))

  children_valid : (level : ℕ) (kind : DataType) (kids : Trees SchemaMembers) (us : Trees DataType) → KidsTyped level kids us
      → ChildrenFit kind kids → MapFits kind kids → KidsOk kind us
  children_valid level (kinds.List wide) kids us h fit pair = one_child us (same_count level kids us h ∙ fit)
  children_valid level (kinds.FixedList size) kids us h fit pair = one_child us (same_count level kids us h ∙ fit)
  children_valid level kinds.Map kids us h fit pair = map_child level kids us h (same_count level kids us h ∙ fit) pair
  children_valid level kinds.Struct kids us h fit pair = tt
  children_valid level kind kids us h fit pair = no_child us (same_count level kids us h ∙ fit)

  -- all nodes
  module _ (valid : ValidLaw) where
    mutual
      nodes_valid : (level : ℕ) (t : SchemaTree) (a : KindTree) → TypedFrom level t a → NodesOk a
      nodes_valid level Released a h = absurd h
      nodes_valid level (Live s kids dict) Released h = absurd h
      nodes_valid level (Live s kids dict) (Live kind us ad) h = (
        valid s.format kind h.0.format,
        children_valid (level + 1) kind kids us h.1 h.0.children h.0.map,
        index_valid (level + 1) kind dict ad h.2 h.0.index,
        all_valid (level + 1) kids us h.1,
        dict_valid (level + 1) dict ad h.2,
      )

      all_valid : (level : ℕ) (kids : Trees SchemaMembers) (us : Trees DataType) → KidsTyped level kids us → AllNodesOk us
      all_valid level kids no_trees h = tt
      all_valid level no_trees (more_trees a us) h = absurd h
      all_valid level (more_trees kid kids) (more_trees a us) h =
          (nodes_valid level kid a h.0, all_valid level kids us h.1)

      dict_valid : (level : ℕ) (dict : MaybeTree SchemaMembers) (a : MaybeTree DataType)
          → DictTyped level dict a → DictNodesOk a
      dict_valid level dict absent h = tt
      dict_valid level absent (present a) h = absurd h
      dict_valid level (present dict) (present a) h = nodes_valid level dict a h

    pub kinds_valid : (schema : SchemaTree) (typed : KindTree) → TypedOf schema typed → TypedOk typed
    kinds_valid schema typed h = (omega (arith, typed_levels 1 schema typed h), nodes_valid 1 schema typed h)
