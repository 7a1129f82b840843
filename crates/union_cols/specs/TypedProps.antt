-- A tree of kinds is valid in one way at most, so that a structure can keep the fact.
use Rattle.std.specs.Prelude.{◌≡◌, ◌⊎◌, ℕ, ℤ, pos, negsuc, List, All, FitsSigned}
use Rattle.std.specs.Coded.{Unit-prop, le_prop}
use Rattle.std.specs.Int.{w32}
use Rattle.std.proofs.Common.{inl, inr, ap, sym, ◌∙◌, get_or, arith}
use Rattle.std.proofs.Props.{props}
use Rattle.data_types.specs.declared.kind.DataType.{DataType}
use Rattle.data_types.specs.declared.kind.DataType.TheVariants as kinds
use Rattle.data_types.specs.Kinds.{KindOk}
use Rattle.tree_model.specs.promise.TreeData.{Released, Live, Trees, no_trees, more_trees, MaybeTree, absent, present}
use Rattle.data_types.specs.promise.KindTrees.{KindTree}
use Rattle.data_types.specs.KindTrees.{IsPairOfColumns, IsOneChild, IsNoChild, KidsOk, DictOk, NodesOk, AllNodesOk, DictNodesOk, TypedOk}

either_prop : {A B : Type 0} → IsProp A → IsProp B → (A → B → ⊥) → IsProp (A ⊎ B)
either_prop a b apart (inl p) (inl q) = ap inl (a p q)
either_prop a b apart (inl p) (inr q) = absurd (apart p q)
either_prop a b apart (inr p) (inl q) = absurd (apart q p)
either_prop a b apart (inr p) (inr q) = ap inr (b p q)

false_prop : IsProp ⊥
false_prop a b = absurd a

same_prop : (m n : ℕ) → IsProp (m ≡ n)
same_prop m n = Prim.hlevel props

either_two : (n a b : ℕ) → (a ≡ b → ⊥) → IsProp ((n ≡ a) ⊎ (n ≡ b))
either_two n a b apart = either_prop (same_prop n a) (same_prop n b) (λ p q. apart (sym p ∙ q))

either_more : (n a : ℕ) {B : Type 0} → IsProp B → (B → n ≡ a → ⊥) → IsProp ((n ≡ a) ⊎ B)
either_more n a rest apart = either_prop (same_prop n a) rest (λ p q. apart q p)

not_sixteen : (n : ℕ) → (n ≡ 32) ⊎ (n ≡ 64) → n ≡ 16 → ⊥
not_sixteen n (inl p) q = omega (arith, p, q)
not_sixteen n (inr p) q = omega (arith, p, q)

not_eight : (n : ℕ) → (n ≡ 16) ⊎ (n ≡ 32) ⊎ (n ≡ 64) → n ≡ 8 → ⊥
not_eight n (inl p) q = omega (arith, p, q)
not_eight n (inr (inl p)) q = omega (arith, p, q)
not_eight n (inr (inr p)) q = omega (arith, p, q)

float_bits : (n : ℕ) → IsProp ((n ≡ 16) ⊎ (n ≡ 32) ⊎ (n ≡ 64))
float_bits n = either_more n 16 (either_two n 32 64 (λ e. omega (arith, e))) (not_sixteen n)

fits_prop : (scale : ℤ) → IsProp (FitsSigned w32 scale)
fits_prop (pos n) = Prim.hlevel props
fits_prop (negsuc n) = Prim.hlevel props

kind_prop : (kind : DataType) → IsProp (KindOk kind)
kind_prop (kinds.Int bits signed) = either_more bits 8 (float_bits bits) (not_eight bits)
kind_prop (kinds.Float bits) = float_bits bits
kind_prop (kinds.FixedBinary size) = le_prop
kind_prop (kinds.FixedList size) = le_prop
kind_prop (kinds.Decimal precision scale wide) = Prim.hlevel (props, fits_prop scale)
kind_prop _ = Unit-prop

one_child_prop : (kids : Trees DataType) (P : KindTree → Type 0) → ((kid : KindTree) → IsProp (P kid)) → IsProp (IsOneChild kids P)
one_child_prop no_trees P each = false_prop
one_child_prop (more_trees kid no_trees) P each = each kid
one_child_prop (more_trees kid (more_trees other others)) P each = false_prop

no_child_prop : (kids : Trees DataType) → IsProp (IsNoChild kids)
no_child_prop no_trees = Unit-prop
no_child_prop (more_trees kid kids) = false_prop

pair_prop : (typed : KindTree) → IsProp (IsPairOfColumns typed)
pair_prop (Live kinds.Struct (more_trees key (more_trees value no_trees)) dictionary) = Unit-prop
pair_prop _ = false_prop

kids_prop : (kind : DataType) (kids : Trees DataType) → IsProp (KidsOk kind kids)
kids_prop (kinds.List wide) kids = one_child_prop kids (λ kid. Unit {0}) (λ kid. Unit-prop)
kids_prop (kinds.FixedList size) kids = one_child_prop kids (λ kid. Unit {0}) (λ kid. Unit-prop)
kids_prop kinds.Map kids = one_child_prop kids IsPairOfColumns pair_prop
kids_prop kinds.Struct kids = Unit-prop
kids_prop _ kids = no_child_prop kids

dict_prop : (kind : DataType) (dict : MaybeTree DataType) → IsProp (DictOk kind dict)
dict_prop kind absent = Unit-prop
dict_prop (kinds.Int bits signed) (present dict) = Unit-prop
dict_prop _ (present dict) = false_prop

mutual
  nodes_prop : (typed : KindTree) → IsProp (NodesOk typed)
  nodes_prop Released = false_prop
  nodes_prop (Live kind kids dict) = λ p q i. (
    kind_prop kind p.0 q.0 i,
    kids_prop kind kids p.1 q.1 i,
    dict_prop kind dict p.2 q.2 i,
    all_nodes_prop kids p.3 q.3 i,
    dict_nodes_prop dict p.4 q.4 i,
  )

  all_nodes_prop : (kids : Trees DataType) → IsProp (AllNodesOk kids)
  all_nodes_prop no_trees = Unit-prop
  all_nodes_prop (more_trees kid kids) = λ p q i. (nodes_prop kid p.0 q.0 i, all_nodes_prop kids p.1 q.1 i)

  dict_nodes_prop : (dict : MaybeTree DataType) → IsProp (DictNodesOk dict)
  dict_nodes_prop absent = Unit-prop
  dict_nodes_prop (present dict) = nodes_prop dict

typed_prop : (typed : KindTree) → IsProp (TypedOk typed)
typed_prop typed = λ p q i. (le_prop p.0 q.0 i, nodes_prop typed p.1 q.1 i)

pub all_typed_prop : (kids : List KindTree) → IsProp (All TypedOk kids)
all_typed_prop kids = λ p q i k d within. typed_prop (get_or kids k d) (p k d within) (q k d within) i
