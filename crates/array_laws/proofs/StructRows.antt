-- Lists of columns: joined, cut, and read.
use Rattle.std.proofs.Common.{◌≡◌, ◌∙◌, ℕ, zero, suc, ◌+◌, ◌^◌, ◌≤◌, pos, Bool, true, false, List, [], ◌∷◌, ◌++◌, length, map, take, drop, refl, ap, sym, subst}
use Rattle.std.proofs.Common.{arith}
use Rattle.std.specs.Prelude.{if◌then◌else◌}
use Rattle.std.specs.List.{All}
use Rattle.std.proofs.lemmas.List.Elements.{All-nil, All-cons, All-head, All-tail}
use Rattle.data_types.specs.promise.Value.{Value, Null, Fields, values}
use Rattle.data_types.specs.declared.kind.DataType.TheVariants as kinds
use Rattle.tree_model.specs.promise.TreeData.{Released, Live, Trees, MaybeTree, absent, trees, tree_list}
use Rattle.raw_array.specs.promise.Members.{ArrayMembers, ArrayTree, members_of}
use Rattle.data_types.specs.promise.KindTrees.{KindTree}
use Rattle.layout_rules.specs.promise.Layout.{first, items, is_valid}
use Rattle.layout_rules.specs.promise.Values.{field_items, readers, row_items, tree_items, value_at}
use Rattle.layout_rules.specs.promise.Walk.{LayoutOk}
use Rattle.data_types.specs.ColumnKinds.{table_type}
use Rattle.raw_array.specs.Windows.{Window}
use Rattle.array_laws.proofs.ChunkParts.{struct-facts}
use Rattle.array_laws.proofs.PickedColumns.{AreCut, facts-cut}
use Rattle.array_laws.proofs.LawfulNodes.{lawful-live}
use Rattle.array_laws.proofs.WindowTree.{window-item, window-items, window-lawful}
use Rattle.data_types.specs.promise.Parts.{fields_of, value_list}
use Rattle.data_types.specs.Parts.{IsFields}
use Rattle.array_laws.specs.Picking.{AreLive, cut_children}
use Rattle.array_laws.proofs.StructLaw.{AreLawful, readers-are}

-- ---- lawful columns

pub lawful-append : (xs : List KindTree) (cs : List ArrayTree) (ys : List KindTree) (ds : List ArrayTree) → AreLawful xs cs → AreLawful ys ds
    → AreLawful (xs ++ ys) (cs ++ ds)
lawful-append [] [] ys ds a b = b
lawful-append [] (c ∷ cs) ys ds a b = absurd a
lawful-append (x ∷ xs) [] ys ds a b = absurd a
lawful-append (x ∷ xs) (c ∷ cs) ys ds a b = (a.0, a.1, lawful-append xs cs ys ds a.2 b)

pub lawful-take : (n : ℕ) (xs : List KindTree) (cs : List ArrayTree) → AreLawful xs cs → AreLawful (take n xs) (take n cs)
lawful-take zero xs cs a = tt
lawful-take (suc n) [] [] a = tt
lawful-take (suc n) [] (c ∷ cs) a = absurd a
lawful-take (suc n) (x ∷ xs) [] a = absurd a
lawful-take (suc n) (x ∷ xs) (c ∷ cs) a = (a.0, a.1, lawful-take n xs cs a.2)

pub lawful-drop : (n : ℕ) (xs : List KindTree) (cs : List ArrayTree) → AreLawful xs cs → AreLawful (drop n xs) (drop n cs)
lawful-drop zero xs cs a = a
lawful-drop (suc n) [] [] a = tt
lawful-drop (suc n) [] (c ∷ cs) a = absurd a
lawful-drop (suc n) (x ∷ xs) [] a = absurd a
lawful-drop (suc n) (x ∷ xs) (c ∷ cs) a = lawful-drop n xs cs a.2

pub same-length : (xs : List KindTree) (cs : List ArrayTree) → AreLawful xs cs → length xs ≡ length cs
same-length [] [] a = refl
same-length [] (c ∷ cs) a = absurd a
same-length (x ∷ xs) [] a = absurd a
same-length (x ∷ xs) (c ∷ cs) a = ap suc (same-length xs cs a.2)

module _ {X : Type 0} (P : X → Type 0) where
  pub all-append : (xs ys : List X) → All P xs → All P ys → All P (xs ++ ys)
  all-append [] ys a b = b
  all-append (x ∷ xs) ys a b = All-cons P x (xs ++ ys) (All-head P x xs a) (all-append xs ys (All-tail P x xs a) b)

  pub all-take : (n : ℕ) (xs : List X) → All P xs → All P (take n xs)
  all-take zero xs a = All-nil P
  all-take (suc n) [] a = All-nil P
  all-take (suc n) (x ∷ xs) a = All-cons P x (take n xs) (All-head P x xs a) (all-take n xs (All-tail P x xs a))

  pub all-drop : (n : ℕ) (xs : List X) → All P xs → All P (drop n xs)
  all-drop zero xs a = a
  all-drop (suc n) [] a = All-nil P
  all-drop (suc n) (x ∷ xs) a = all-drop n xs (All-tail P x xs a)

-- ---- a row of joined and cut columns

pub row-append : (xs : List KindTree) (cs : List ArrayTree) (ys : List KindTree) (ds : List ArrayTree) (i : ℕ) → AreLawful xs cs
    → field_items (map value_at (xs ++ ys)) (cs ++ ds) i ≡ field_items (map value_at xs) cs i ++ field_items (map value_at ys) ds i
row-append [] [] ys ds i a = refl
row-append [] (c ∷ cs) ys ds i a = absurd a
row-append (x ∷ xs) [] ys ds i a = absurd a
row-append (x ∷ xs) (c ∷ cs) ys ds i a = ap (λ vs. value_at x c i ∷ vs) (row-append xs cs ys ds i a.2)

pub row-take : (n : ℕ) (xs : List KindTree) (cs : List ArrayTree) (i : ℕ) → AreLawful xs cs
    → field_items (map value_at (take n xs)) (take n cs) i ≡ take n (field_items (map value_at xs) cs i)
row-take zero xs cs i a = refl
row-take (suc n) [] [] i a = refl
row-take (suc n) [] (c ∷ cs) i a = absurd a
row-take (suc n) (x ∷ xs) [] i a = absurd a
row-take (suc n) (x ∷ xs) (c ∷ cs) i a = ap (λ vs. value_at x c i ∷ vs) (row-take n xs cs i a.2)

pub row-drop : (n : ℕ) (xs : List KindTree) (cs : List ArrayTree) (i : ℕ) → AreLawful xs cs
    → field_items (map value_at (drop n xs)) (drop n cs) i ≡ drop n (field_items (map value_at xs) cs i)
row-drop zero xs cs i a = refl
row-drop (suc n) [] [] i a = refl
row-drop (suc n) [] (c ∷ cs) i a = absurd a
row-drop (suc n) (x ∷ xs) [] i a = absurd a
row-drop (suc n) (x ∷ xs) (c ∷ cs) i a = row-drop n xs cs i a.2

-- ---- all columns of a struct, cut to its window

rest-cut : (type : KindTree) (types : List KindTree) (c : ArrayTree) (cs : List ArrayTree) (off len : ℕ) → AreCut (type ∷ types) (c ∷ cs) off len
    → AreCut types cs off len
rest-cut type types c cs off len a = record {
  live_type = λ p lt. a.live_type (suc p) (omega (arith, lt));
  child = λ p lt. a.child (suc p) (omega (arith, lt));
  live = λ p lt. a.live (suc p) (omega (arith, lt));
  long = λ p lt. a.long (suc p) (omega (arith, lt));
}

all-cut : (types : List KindTree) (cs : List ArrayTree) (off len : ℕ) → length cs ≡ length types → AreCut types cs off len
    → AreLawful types (map (λ c. Window c (pos off) (pos len)) cs)
all-cut [] [] off len same a = tt
all-cut [] (c ∷ cs) off len same a = absurd (omega (arith, same))
all-cut (type ∷ types) [] off len same a = absurd (omega (arith, same))
all-cut (type ∷ types) (c ∷ cs) off len same a = (
  a.live_type 0 (omega arith),
  window-lawful type c off len (a.long 0 (omega arith)) (a.child 0 (omega arith)),
  all-cut types cs off len
      (omega (arith, same)) (rest-cut type types c cs off len a),
)

all-long : (types : List KindTree) (cs : List ArrayTree) (off len : ℕ) → length cs ≡ length types → AreCut types cs off len
    → All (λ column. len ≤ tree_items column) (map (λ c. Window c (pos off) (pos len)) cs)
all-long [] [] off len same a = All-nil (λ column. len ≤ tree_items column)
all-long [] (c ∷ cs) off len same a = absurd (omega (arith, same))
all-long (type ∷ types) [] off len same a = absurd (omega (arith, same))
all-long (type ∷ types) (c ∷ cs) off len same a =
    let e = window-items c off len (a.live 0 (omega arith)) in
    All-cons (λ column. len ≤ tree_items column) (Window c (pos off) (pos len)) (map (λ c. Window c (pos off) (pos len)) cs) (omega (arith, e))
    (all-long types cs off len (omega (arith, same)) (rest-cut type types c cs off len a))

all-row : (types : List KindTree) (cs : List ArrayTree) (off len : ℕ) → length cs ≡ length types → AreCut types cs off len → (i : ℕ)
    → field_items (map value_at types) (map (λ c. Window c (pos off) (pos len)) cs) i ≡ field_items (map value_at types) cs (off + i)
all-row [] [] off len same a i = refl
all-row [] (c ∷ cs) off len same a i = absurd (omega (arith, same))
all-row (type ∷ types) [] off len same a i = absurd (omega (arith, same))
all-row (type ∷ types) (c ∷ cs) off len same a i =
    let e = window-item type c off len (a.long 0 (omega arith)) (a.child 0 (omega arith)) i in
    λ t. e t ∷ all-row types cs off len (omega (arith, same)) (rest-cut type types c cs off len a) i t

-- the columns of a lawful struct, cut to what it shows
pub record CutFacts (types : List KindTree) (t : ArrayTree) : Type 0 where
  pub length_is : (members_of t).length ≡ pos (tree_items t)
  pub few : tree_items t ≤ 2 ^ 40
  pub lawful : AreLawful types (cut_children t)
  pub long : All (λ column. tree_items t ≤ tree_items column) (cut_children t)
  pub row : (i : ℕ) → field_items (map value_at types) (cut_children t) i ≡ row_items (table_type types) t i

live-cut : (types : List KindTree) (m : ArrayMembers) (ts : Trees ArrayMembers) (d : MaybeTree ArrayMembers) → AreLive types
    → LayoutOk (table_type types) (Live m ts d) → CutFacts types (Live m ts d)
live-cut types m ts d live ok =
    let facts = struct-facts types m ts d ok in
    let a = facts-cut types m (tree_list ts) live facts in
    let same : map (λ c. Window c (pos (first m)) (pos (items m))) (tree_list ts) ≡ cut_children (Live m ts d) =
    λ t. map (λ c. Window c (sym facts.offset_is t) (sym facts.length_is t)) (tree_list ts) in
    record {
      length_is = facts.length_is;
      few = let e = facts.few in omega (arith, e);
      lawful = subst (AreLawful types) same (all-cut types (tree_list ts) (first m) (items m) facts.count a);
      long = subst (All (λ column. items m ≤ tree_items column)) same (all-long types (tree_list ts) (first m) (items m) facts.count a);
      row = λ i.
          ap (λ cs. field_items (map value_at types) cs i) (sym same)
          ∙ all-row types (tree_list ts) (first m) (items m) facts.count a i
          ∙ ap (λ rs. field_items rs (tree_list ts) (first m + i)) (sym (readers-are types));
    }

pub cut-facts : (types : List KindTree) (t : ArrayTree) → AreLive types → LayoutOk (table_type types) t → CutFacts types t
cut-facts types Released live ok = absurd (lawful-live kinds.Struct (trees types) absent Released ok)
cut-facts types (Live m ts d) live ok = live-cut types m ts d live ok

-- ---- the values of a struct's item

pub value_list-values : (vs : List Value) → value_list (values vs) ≡ vs
value_list-values [] = refl
value_list-values (v ∷ vs) = ap (λ ws. v ∷ ws) (value_list-values vs)

item-fields : (valid : Bool) (vs : List Value) → IsFields (if valid then Fields (values vs) else Null)
    → fields_of (if valid then Fields (values vs) else Null) ≡ vs
item-fields true vs is = value_list-values vs
item-fields false vs is = absurd is

pub struct-item : (types : List KindTree) (t : ArrayTree) (i : ℕ) → IsFields (value_at (table_type types) t i)
    → fields_of (value_at (table_type types) t i) ≡ row_items (table_type types) t i
struct-item types Released i is = absurd is
struct-item types (Live m ts d) i is = item-fields (is_valid m i) (field_items (readers (trees types)) (tree_list ts) (first m + i)) is
