-- A chunk that is like one which can be filtered can be filtered too.
use Rattle.std.proofs.Common.{◌≡◌, ◌≢◌, ◌∙◌, ℕ, List, [], ◌∷◌, ◌≤◌, ◌^◌, length, get_or, All, drop, zero, suc, sym, ap, subst, refl}
use Rattle.data_types.specs.promise.Table.{Column, Row, Kind, Flat, Dict, Columns, Members, no_members, more_members}
use Rattle.data_types.specs.promise.Value.{Value, Null}
use Rattle.tree_model.specs.promise.TreeData.{Released, Live, Trees, no_trees, more_trees, absent, present, tree_list}
use Rattle.tree_model.specs.promise.TreeParts.{child_at, children_of}
use Rattle.tree_model.specs.Tree.{AllAlike, dictionary_at}
use Rattle.raw_array.specs.promise.Members.{ArrayMembers, ArrayTree, Cost}
use Rattle.raw_array.specs.Members.{Like, LikeMembers}
use Rattle.data_types.specs.promise.ColumnKinds.{type_of_columns}
use Rattle.data_types.specs.promise.KindTrees.{KindTree}
use Rattle.layout_rules.specs.promise.Values.{rows_of, values_of}
use Rattle.layout_rules.specs.promise.Walk.{ChunkOk}
use Rattle.stream_face.specs.Lawful.{DictsAreFull, IsTable, MemberDictsAreFull}
use Rattle.stage_filter.specs.Filters.{CanFilter}

-- ---- children and dictionaries

-- each tree of the second list is like its fellow in the first
abbrev AreLike : List ArrayTree → List ArrayTree → Type 0
AreLike [] [] = Unit {0}
AreLike [] (u ∷ us) = ⊥
AreLike (t ∷ ts) [] = ⊥
AreLike (t ∷ ts) (u ∷ us) = Like t u × AreLike ts us

all-like : (ts us : Trees ArrayMembers) → AllAlike LikeMembers ts us → AreLike (tree_list ts) (tree_list us)
all-like no_trees no_trees like = tt
all-like no_trees (more_trees u us) like = absurd like
all-like (more_trees t ts) no_trees like = absurd like
all-like (more_trees t ts) (more_trees u us) like = (like.0, all-like ts us like.1)

children-like : (t u : ArrayTree) → Like t u → AreLike (children_of t) (children_of u)
children-like Released Released like = tt
children-like Released (Live n us e) like = absurd like
children-like (Live m ts d) Released like = absurd like
children-like (Live m ts d) (Live n us e) like = all-like ts us like.1.0

dictionary-like : (t u : ArrayTree) → Like t u → Like (dictionary_at t) (dictionary_at u)
dictionary-like Released Released like = tt
dictionary-like Released (Live n us e) like = absurd like
dictionary-like (Live m ts d) Released like = absurd like
dictionary-like (Live m ts absent) (Live n us absent) like = tt
dictionary-like (Live m ts absent) (Live n us (present u)) like = absurd like.1.1
dictionary-like (Live m ts (present t)) (Live n us absent) like = absurd like.1.1
dictionary-like (Live m ts (present t)) (Live n us (present u)) like = like.1.1

at-like : (ts us : List ArrayTree) (k : ℕ) → AreLike ts us → Like (get_or ts k Released) (get_or us k Released)
at-like [] [] k like = tt
at-like [] (u ∷ us) k like = absurd like
at-like (t ∷ ts) [] k like = absurd like
at-like (t ∷ ts) (u ∷ us) zero like = like.0
at-like (t ∷ ts) (u ∷ us) (suc k) like = at-like ts us k like.1

rest-like : (ts us : List ArrayTree) → AreLike ts us → AreLike (drop 1 ts) (drop 1 us)
rest-like [] [] like = tt
rest-like [] (u ∷ us) like = absurd like
rest-like (t ∷ ts) [] like = absurd like
rest-like (t ∷ ts) (u ∷ us) like = like.1

-- ---- what both show

-- trees that are like each other have the same values, are chunks of the same rows, and cost the same
pub record LikeLaws : Type 0 where
  pub values : (typed : KindTree) (t u : ArrayTree) → Like t u → values_of typed t ≡ values_of typed u
  pub chunk : (typed : KindTree) (t u : ArrayTree) → Like t u → ChunkOk typed t → ChunkOk typed u
  pub rows : (typed : KindTree) (t u : ArrayTree) → Like t u → rows_of typed t ≡ rows_of typed u
  pub cost : (t u : ArrayTree) → Like t u → Cost u ≡ Cost t

module _ (laws : LikeLaws) where
  mutual
    full-like : (kind : Kind) (t u : ArrayTree) → Like t u → DictsAreFull kind t → DictsAreFull kind u
    full-like (Flat type) t u like full = tt
    full-like (Dict type) t u like full =
        subst (λ (vs : List Value). All (λ value. value ≢ Null) vs)
        (laws.values (Live type no_trees absent) (dictionary_at t) (dictionary_at u) (dictionary-like t u like)) full
    full-like (Columns fields) t u like full = members-like fields (children_of t) (children_of u) (children-like t u like) full

    members-like : (fields : Members) (ts us : List ArrayTree) → AreLike ts us → MemberDictsAreFull fields ts → MemberDictsAreFull fields us
    members-like no_members ts us like full = tt
    members-like (more_members name kind rest) ts us like full = (
      full-like kind (get_or ts 0 Released) (get_or us 0 Released) (at-like ts us 0 like) full.0,
      members-like rest (drop 1 ts) (drop 1 us) (rest-like ts us like) full.1,
    )

  pub can-like : (column : ℕ) (columns : List Column) (t u : ArrayTree) → Like t u → CanFilter column columns t → CanFilter column columns u
  can-like column columns t u like can =
      let rows = laws.rows (type_of_columns columns) t u like in
      record {
        within = can.within;
        kinds = can.kinds;
        not_deep = can.not_deep;
        ok = laws.chunk (type_of_columns columns) t u like can.ok;
        full = λ k none inside.
            full-like (get_or columns k none).kind (child_at t k) (child_at u k) (at-like (children_of t) (children_of u) k (children-like t u like))
            (can.full k none inside);
        table = subst (IsTable columns) rows can.table;
        small = can.small;
        few = subst (λ (rs : List Row). length rs ≤ 2 ^ 30) rows can.few;
      }
