-- What columns are that are what they must be.
use Rattle.std.proofs.Common.{◌≡◌, ◌∙◌, ◌<◌, ◌+◌, ℕ, zero, suc, Bool, true, false, List, [], ◌∷◌, length, get_or, Option, None, Some, refl, ap, sym, subst, arith}
use Rattle.std.proofs.lemmas.Bool.{false≢true}
use Rattle.std.proofs.lemmas.Option.{none-some}
use Rattle.std.proofs.lemmas.List.{length-map}
use Rattle.std.specs.Prelude.{if◌then◌else◌, is_some}
use Rattle.data_types.specs.ColumnForms.{HasForm}
use Rattle.data_types.specs.promise.FieldText.{Form, form_of}
use Rattle.data_types.specs.declared.kind.DataType.TheVariants as kinds
use Rattle.tree_model.specs.promise.TreeData.{Released, Live, no_trees, more_trees, absent, present, trees, maybe_tree}
use Rattle.tree_model.specs.promise.TreeParts.{IsLive, children_of, dictionary_of}
use Rattle.tree_model.specs.Tree.{Depth}
use Rattle.tree_model.proofs.Lists.{tree_list-trees}
use Rattle.arr_import.proofs.Reading.{kid-tree}
use Rattle.arr_move.proofs.Filled.{Depth-child_at}
use Rattle.data_types.specs.promise.KindTrees.{KindTree, kind_in}
use Rattle.data_types.specs.KindTrees.{AllNodesOk, NodesOk, TypedOk}
use Rattle.data_types.specs.promise.TypedView.{typed_of}
use Rattle.data_types.specs.TypedView.{dict_in, kids_of, kind_of}
use Rattle.data_types.specs.declared.typed.Typed.{Typed, out-Typed}
use Rattle.list_cols.specs.promise.Faults.{first_wrong, is_flat_list}
use Rattle.column_fill.specs.promise.FlatColumns.{is_flat_column}

-- ---- none is at fault

wrong-head : (b : Bool) (rest : Option ℕ) (k : ℕ) → (if b then rest else Some k) ≡ None → b ≡ true
wrong-head true rest k e = refl
wrong-head false rest k e = absurd (none-some k (sym e))

wrong-rest : (b : Bool) (rest : Option ℕ) (k : ℕ) → (if b then rest else Some k) ≡ None → rest ≡ None
wrong-rest true rest k e = e
wrong-rest false rest k e = absurd (none-some k (sym e))

pub none-wrong : (p : ℕ → KindTree → Bool) (k : ℕ) (kids : List KindTree) → first_wrong p k kids ≡ None → (j : ℕ) → j < length kids
    → p (k + j) (get_or kids j Released) ≡ true
none-wrong p k [] e j lt = absurd (omega (arith, lt))
none-wrong p k (kid ∷ kids) e zero lt =
    let here : k + 0 ≡ k = omega arith in
    ap (λ n. p n kid) here ∙ wrong-head (p k kid) (first_wrong p (suc k) kids) k e
none-wrong p k (kid ∷ kids) e (suc j) lt =
    let here : k + suc j ≡ suc k + j = omega arith in
    ap (λ n. p n (get_or kids j Released)) here
    ∙ none-wrong p (suc k) kids (wrong-rest (p k kid) (first_wrong p (suc k) kids) k e) j (omega (arith, lt))

-- the first n aren't
pub step-wrong : (p : ℕ → KindTree → Bool) (k : ℕ) (kid : KindTree) (kids : List KindTree) (b : Bool) → p k kid ≡ b
    → first_wrong p k (kid ∷ kids) ≡ (if b then first_wrong p (suc k) kids else Some k)
step-wrong p k kid kids b e = ap (λ c. if c then first_wrong p (suc k) kids else Some k) e

-- ---- flat columns, and lists of them

has-form : (form : Option Form) → is_some form ≡ true → HasForm form
has-form None e = absurd (false≢true e)
has-form (Some form) e = tt

pub flat-form : (typed : KindTree) → is_flat_column typed ≡ true → HasForm (form_of (kind_in typed))
flat-form Released e = absurd (false≢true e)
flat-form (Live kind kids absent) e = has-form (form_of kind) e
flat-form (Live kind kids (present dict)) e = absurd (false≢true e)

pub flat-dictionary : (typed : KindTree) → is_flat_column typed ≡ true → dictionary_of typed ≡ None
flat-dictionary Released e = absurd (false≢true e)
flat-dictionary (Live kind kids absent) e = refl
flat-dictionary (Live kind kids (present dict)) e = absurd (false≢true e)

-- a list of a flat kid
pub record IsFlatList (typed : KindTree) : Type 0 where
  pub wide : Bool
  pub kid : KindTree
  pub is : typed ≡ Live (kinds.List wide) (more_trees kid no_trees) absent
  pub flat : is_flat_column kid ≡ true

pub flat-list : (typed : KindTree) → TypedOk typed → is_flat_list typed ≡ true → IsFlatList typed
flat-list Released ok e = absurd (false≢true e)
flat-list (Live (kinds.List wide) no_trees dict) ok e = absurd (false≢true e)
flat-list (Live (kinds.List wide) (more_trees kid (more_trees other others)) dict) ok e = absurd ok.1.1
flat-list (Live (kinds.List wide) (more_trees kid no_trees) (present dict)) ok e = absurd ok.1.2
flat-list (Live (kinds.List wide) (more_trees kid no_trees) absent) ok e = record { wide = wide; kid = kid; is = refl; flat = e }
flat-list (Live _ kids dict) ok e = absurd (false≢true e)

-- ---- a child, as the code keeps it

abbrev pub IsLevel : Typed → Type 0
IsLevel t = typed_of t ≡ Live (kind_of t) (trees (kids_of t)) (maybe_tree (dict_in (out-Typed t).dict))

pub level-live : (t : Typed) → IsLevel t → IsLive (typed_of t)
level-live t level = subst IsLive (sym level) tt

pub kids-are : (t : Typed) → IsLevel t → children_of (typed_of t) ≡ kids_of t
kids-are t level = ap children_of level ∙ tree_list-trees (kids_of t)

pub many-kids : (t : Typed) → length (kids_of t) ≡ length (out-Typed t).kids.items
many-kids t = length-map (out-Typed t).kids.items typed_of

pub kid-is : (t kid : Typed) (k : ℕ) → k < length (kids_of t) → kid ≡ get_or (out-Typed t).kids.items k kid → get_or (kids_of t) k Released ≡ typed_of kid
kid-is t kid k lt is = kid-tree (out-Typed t).kids.items k kid (omega (arith, many-kids t, lt)) is

each-ok : (types : List KindTree) (k : ℕ) → k < length types → AllNodesOk (trees types) → NodesOk (get_or types k Released)
each-ok [] k lt ok = absurd (omega (arith, lt))
each-ok (t ∷ types) zero lt ok = ok.0
each-ok (t ∷ types) (suc k) lt ok = each-ok types k (omega (arith, lt)) ok.1

pub kid-ok : (t kid : Typed) (k : ℕ) → IsLevel t → TypedOk (typed_of t) → k < length (kids_of t) → kid ≡ get_or (out-Typed t).kids.items k kid
    → TypedOk (typed_of kid)
kid-ok t kid k level ok lt is =
    let nodes = subst NodesOk level ok.1 in
    let own = kid-is t kid k lt is in
    let many = ap length (kids-are t level) in
    let here = ap (λ (ks : List KindTree). get_or ks k Released) (kids-are t level) ∙ own in
    let deep = Depth-child_at (typed_of t) k (omega (arith, many, lt)) in
    let same = ap Depth here in
    (omega (arith, deep, same, ok.0), subst NodesOk own (each-ok (kids_of t) k lt nodes.3))
