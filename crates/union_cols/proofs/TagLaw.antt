-- What is made of a chunk's columns reads as a union, meets all rules, and has the rows' items.
use Rattle.std.proofs.Common.{◌≡◌, ℕ, suc, ◌+◌, ◌^◌, ◌<◌, ◌≤◌, Bool, true, false, length, get_or, map, None, Some, refl, ap, sym, ◌∙◌, subst, arith}
use Rattle.std.specs.Prelude.{if◌then◌else◌, ◌&&◌, ◌||◌, ◌==◌, nat_lt, All, IsTrue}
use Rattle.std.specs.List.{AllZip}
use Rattle.std.proofs.lemmas.Bool.Decides.{nat_tests}
use Rattle.std.proofs.lemmas.List.Elements.{All-nil, All-cons}
use Rattle.data_types.specs.declared.kind.DataType.{DataType}
use Rattle.data_types.specs.declared.kind.DataType.TheVariants as kinds
use Rattle.tree_model.specs.promise.TreeData.{Released, Live, Trees, no_trees, more_trees, MaybeTree, absent, present, trees, tree_list, option_tree}
use Rattle.tree_model.specs.promise.TreeParts.{IsLive, child_at, children_of}
use Rattle.tree_model.specs.Tree.{depth_of_all}
use Rattle.tree_model.proofs.Lists.{tree_list-trees, trees-tree_list}
use Rattle.raw_schema.specs.promise.Members.{SchemaMembers, SchemaTree}
use Rattle.raw_array.specs.promise.Members.{ArrayTree, members_of}
use Rattle.raw_array.specs.Windows.{FitsWindow}
use Rattle.data_types.specs.ColumnKinds.{table_type}
use Rattle.data_types.specs.promise.KindTrees.{KindTree}
use Rattle.data_types.specs.KindTrees.{AllNodesOk, TypedOk}
use Rattle.schema_check.specs.promise.Schemas.{TypedFrom, KidsTyped, DictTyped, TypedOf}
use Rattle.layout_rules.specs.promise.Layout.{items}
use Rattle.layout_rules.specs.promise.Values.{rows_of, tree_items}
use Rattle.layout_rules.specs.promise.Walk.{ChunkOk, LayoutOk}
use Rattle.layout_rules.proofs.TreeLaws.{chunk_holds, root_holds}
use Rattle.array_laws.proofs.ChunkParts.{struct-facts}
use Rattle.union_cols.specs.promise.Unions.{union_items}
use Rattle.union_cols.specs.Unions.{UnionTypedOk}
use Rattle.union_cols.specs.UnionRules.{UnionOk}
use Rattle.union_cols.specs.promise.UnionSchemas.{UnionOf}
use Rattle.union_cols.specs.TagAnswers.{ChecksAsUnion}
use Rattle.union_cols.specs.promise.Tags.{tag_fault, tag_of, tagged_items, most_columns, most_dense_rows}
use Rattle.union_cols.specs.Tags.{cut_columns, tag_format, tag_members, tagged_array, tagged_kinds, tagged_schema}
use Rattle.union_cols.proofs.Numbering.{length-numbers, numbers_are_ids}
use Rattle.union_cols.proofs.TagItems.{fit, tagged-items, tagged-rules}
use Rattle.union_cols.proofs.TagRules.{kinds_made, made_union}

-- ---- a schema that reads on a level reads on one above it

mutual
  lower : (low level : ℕ) → low ≤ level → (schema : SchemaTree) (typed : KindTree) → TypedFrom level schema typed → TypedFrom low schema typed
  lower low level le Released typed h = h
  lower low level le (Live s kids dict) Released h = h
  lower low level le (Live s kids dict) (Live kind typed_kids typed_dict) h = (
    record {
      on_level = omega (arith, le, h.0.on_level);
      format = h.0.format;
      meta = h.0.meta;
      children = h.0.children;
      index = h.0.index;
      map = h.0.map;
    },
    lower_kids (low + 1) (level + 1) (omega (arith, le)) kids typed_kids h.1,
    lower_dict (low + 1) (level + 1) (omega (arith, le)) dict typed_dict h.2,
  )

  lower_kids : (low level : ℕ) → low ≤ level → (kids : Trees SchemaMembers) (typed : Trees DataType) → KidsTyped level kids typed → KidsTyped low kids typed
  lower_kids low level le no_trees no_trees h = h
  lower_kids low level le no_trees (more_trees typed rest) h = h
  lower_kids low level le (more_trees kid kids) no_trees h = h
  lower_kids low level le (more_trees kid kids) (more_trees typed rest) h =
      (lower low level le kid typed h.0, lower_kids low level le kids rest h.1)

  lower_dict : (low level : ℕ) → low ≤ level → (dict : MaybeTree SchemaMembers) (typed : MaybeTree DataType) → DictTyped level dict typed → DictTyped low dict typed
  lower_dict low level le absent absent h = h
  lower_dict low level le absent (present typed) h = h
  lower_dict low level le (present dict) absent h = h
  lower_dict low level le (present dict) (present typed) h = lower low level le dict typed h

kids-read : (level : ℕ) → 1 ≤ level → (kids : Trees SchemaMembers) (typed : Trees DataType) → KidsTyped level kids typed
    → AllZip TypedOf (tree_list kids) (tree_list typed)
kids-read level le no_trees no_trees h = tt
kids-read level le no_trees (more_trees typed rest) h = absurd h
kids-read level le (more_trees kid kids) no_trees h = absurd h
kids-read level le (more_trees kid kids) (more_trees typed rest) h = (lower 1 level le kid typed h.0, kids-read level le kids rest h.1)

same-number : (level : ℕ) (kids : Trees SchemaMembers) (typed : Trees DataType) → KidsTyped level kids typed → length (tree_list kids) ≡ length (tree_list typed)
same-number level no_trees no_trees h = refl
same-number level no_trees (more_trees typed rest) h = absurd h
same-number level (more_trees kid kids) no_trees h = absurd h
same-number level (more_trees kid kids) (more_trees typed rest) h = ap suc (same-number level kids rest h.1)

-- ---- the columns' kinds are in order

kids-ok : (kids : Trees DataType) → depth_of_all kids ≤ 64 → AllNodesOk kids → All TypedOk (tree_list kids)
kids-ok no_trees fits ok = All-nil TypedOk
kids-ok (more_trees kid kids) fits ok =
    All-cons TypedOk kid (tree_list kids) (omega (arith, fits), ok.0) (kids-ok kids (omega (arith, fits)) ok.1)

pub live-kind : (typed : KindTree) → TypedOk typed → IsLive typed
live-kind Released ok = absurd ok.1
live-kind (Live kind kids dict) ok = tt

-- ---- no fault

chosen : {X : Type 0} (a b : Bool) (x y : X) → (if a then Some x else if b then Some y else None) ≡ None → (a ≡ false) × (b ≡ false)
chosen true b x y e = absurd (cc)
chosen false true x y e = absurd (cc)
chosen false false x y e = (refl, refl)

or-parts : (a b : Bool) → (a || b) ≡ false → (a ≡ false) × (b ≡ false)
or-parts true b e = absurd (cc)
or-parts false b e = (refl, e)

counted : (columns : ℕ) → ((columns == 0) || nat_lt most_columns columns) ≡ false → (0 < columns) × (columns ≤ 128)
counted columns e =
    let parts = or-parts (columns == 0) (nat_lt most_columns columns) e in
    let first = parts.0 in
    let second = parts.1 in
    (grind (arith, nat_tests), grind (arith, nat_tests))

short-enough : (dense : Bool) (rows : ℕ) → (dense && nat_lt most_dense_rows rows) ≡ false → IsTrue dense → rows < 2 ^ 31
short-enough false rows e is_dense = absurd (cc)
short-enough true rows e is_dense = grind (arith, nat_tests)

pub no-fault-of : (dense : Bool) (columns rows : ℕ) → tag_fault dense columns rows ≡ None
    → (0 < columns) × (columns ≤ 128) × (IsTrue dense → rows < 2 ^ 31)
no-fault-of dense columns rows e =
    let parts = chosen ((columns == 0) || nat_lt most_columns columns) (dense && nat_lt most_dense_rows rows) _ _ e in
    let count = counted columns parts.0 in
    (count.0, count.1, short-enough dense rows parts.1)

-- ---- a table

no-dictionary : (dict : MaybeTree DataType) → option_tree dict ≡ None → dict ≡ absent
no-dictionary absent e = refl
no-dictionary (present dict) e = absurd (cc)

-- what holds of a type
pub record Tagged (dense : Bool) (typed : KindTree) (schema : SchemaTree) (array : ArrayTree) : Type 0 where
  pub checks : ChecksAsUnion (tagged_kinds dense typed) (tagged_schema dense schema) (tagged_array dense typed array)
  pub items : union_items (tagged_kinds dense typed) (tagged_array dense typed array) ≡ tagged_items (rows_of typed array)
  pub same : length (children_of schema) ≡ length (children_of array)
  pub fits : (k : ℕ) → k < length (children_of array) → FitsWindow (child_at array k) (members_of array).offset (members_of array).length

abbrev Law : KindTree → Type 0
Law typed =
    (dense : Bool) (schema : SchemaTree) (array : ArrayTree) → TypedOf schema typed → TypedOk typed → ChunkOk typed array
    → tag_fault dense (length (children_of array)) (tree_items array) ≡ None → Tagged dense typed schema array

table-law : (kids : Trees DataType) → Law (Live kinds.Struct kids absent)
table-law kids dense Released array reads ok chunk none = absurd reads
table-law kids dense (Live s schemas dictionary) Released reads ok chunk none = absurd ((root_holds (Live kinds.Struct kids absent) Released tt chunk.0).live)
table-law kids dense (Live s schemas dictionary) (Live m ts d) reads ok chunk none =
    let types = tree_list kids in
    let typed = Live kinds.Struct kids absent in
    let schema = Live s schemas dictionary in
    let array = Live m ts d in
    let p : typed ≡ table_type types = ap (λ ks. Live kinds.Struct ks absent) (sym (trees-tree_list kids)) in
    let lawful : LayoutOk (table_type types) array = subst (λ t. LayoutOk t array) p chunk.0 in
    let facts = struct-facts types m ts d lawful in
    let kinds_ok = kids-ok kids (omega (arith, ok.0)) ok.1.3 in
    let live : (k : ℕ) → k < length types → IsLive (get_or types k Released) = λ k h. live-kind (get_or types k Released) (kinds_ok k Released h) in
    let free = no-fault-of dense (length (tree_list ts)) (items m) none in
    let some : 0 < length types = omega (arith, free.0, facts.count) in
    let few : length types ≤ 128 = omega (arith, free.1, facts.count) in
    let ids = numbers_are_ids (length types) few in
    let count : length (tree_list schemas) ≡ length types = same-number 2 schemas kids reads.1 in
    let number = length-numbers (length types) in
    let array_is : made_union dense (items m) (map tag_of (rows_of (table_type types) array)) (cut_columns array) ≡ tagged_array dense typed array =
    λ t. Live (tag_members dense (sym facts.length_is t) (map tag_of (rows_of (sym p t) array))) (trees (cut_columns array)) absent in
    let again = tree_list-trees (tree_list schemas) in
    let typed_ok : UnionTypedOk (kinds_made dense types) = record { same = number; ids_are = ids; kids_are = kinds_ok } in
    let reads_as : UnionOf (tagged_schema dense schema) (kinds_made dense types) = record {
      plain = record {
        union = record {
          live = tt;
          spelled = record { spelled = ap (tag_format dense) count; ids_are = ids };
        };
        plain = (tt, refl);
      };
      count = ap length again ∙ count ∙ sym number;
      kids = subst (λ cs. AllZip TypedOf cs types) (sym again) (kids-read 2 (omega arith) schemas kids reads.1);
    } in
    record {
      checks = record {
        reads = reads_as;
        kinds = typed_ok;
        rules = subst (UnionOk (kinds_made dense types)) array_is (tagged-rules types m ts d lawful live dense some few free.2);
      };
      items = ap (union_items (kinds_made dense types)) (sym array_is) ∙ tagged-items types m ts d lawful live dense some few free.2
          ∙ ap (λ t. tagged_items (rows_of t array)) (sym p);
      same = count ∙ sym facts.count;
      fits = λ k h. fit types m ts d lawful live k (omega (arith, h, facts.count));
    }

-- The law, of every type.
pub tagged : (typed : KindTree) → Law typed
tagged Released dense schema array reads ok chunk none = absurd ok.1
tagged (Live kind kids dict) dense schema array reads ok chunk none =
    let holds = chunk_holds (Live kind kids dict) array tt chunk in
    let same : Live kinds.Struct kids absent ≡ Live kind kids dict = λ t. Live (sym holds.kind t) kids (sym (no-dictionary dict holds.dict) t) in
    subst Law same (table-law kids) dense schema array reads ok chunk none
