-- The items of a dictionary and those that have them, one by one.
use Rattle.std.proofs.Common.{◌≡◌, ◌+◌, ◌<◌, ◌≤◌, ◌++◌, ◌∷◌, ℕ, List, [], Option, None, Some, length, get_or, arith, ap, sym, subst, refl, inl, inr, ◌∙◌}
use Rattle.std.specs.declared.vec.Vec.{Vec}
use Rattle.std.specs.declared.alloc.Global.{Global}
use Rattle.std.proofs.lemmas.Bool.{cases_eq}
use Rattle.std.proofs.lemmas.List.{get_or_append_left}
use Rattle.std.proofs.Math.Seq.{get_or-append_seam}
use Rattle.tree_model.specs.promise.TreeData.{Released, Live, absent, present}
use Rattle.tree_model.specs.promise.TreeParts.{dictionary_of}
use Rattle.tree_model.specs.Tree.{Depth}
use Rattle.data_types.specs.promise.KindTrees.{KindTree}
use Rattle.arr_import.specs.Window.{Window, item_at}
use Rattle.data_types.specs.promise.Value.{Value}
use Rattle.arr_import.specs.Cols.{window_of}
use Rattle.arr_import.specs.declared.col.Col.{Col}
use Rattle.value_text.specs.Homes.{AreFound, AreHomes, IsAt, place_at}
use Rattle.value_text.specs.declared.homes.Homes.{Homes}
use Rattle.value_text.specs.declared.homes.Places.{Places}
use Rattle.value_text.specs.declared.homes.Places.TheVariants as places

-- a dictionary has fewer levels
pub fewer : (t u : KindTree) → dictionary_of t ≡ Some u → Depth u < Depth t
fewer Released u d = absurd (cc)
fewer (Live kind kids absent) u d = absurd (cc)
fewer (Live kind kids (present dict)) u d =
    let same : dict ≡ u = cc in
    subst (λ v. Depth u < Depth (Live kind kids (present v))) (sym same) (omega arith)

-- a column without a dictionary is its own
pub own-homes : (col : Col) → AreHomes (record { items = col; places = places.Same }) (window_of col)
own-homes col = record { reached = tt; each = λ k h. (h, refl) }

-- places that reach as far reach less far
pub found-less : (p : Places) (n m : ℕ) → AreFound p n → m ≤ n → AreFound p m
found-less places.Same n m h le = tt
found-less (places.Own own) n m h le = omega (arith, h, le)

-- the place of an entry is in reach
pub entry-found : (homes : Homes) (w : Window) (k : ℕ) → AreHomes homes w → k < w.count → AreFound homes.places (k + 1)
entry-found homes w k h inside = found-less homes.places w.count (k + 1) h.reached (omega (arith, inside))

-- an item is where its entry is
pub entry-is : (homes : Homes) (w : Window) (k : ℕ) (value : Value) → AreHomes homes w → k < w.count → item_at w k ≡ value
    → IsAt (window_of homes.items) (place_at homes.places k) value
entry-is homes w k value h inside is = subst (IsAt (window_of homes.items) (place_at homes.places k)) is (h.each k inside)

-- all places
pub all-placed : (items : Col) (own : Vec (Option ℕ) Global) (w : Window) (n : ℕ) → length own.items ≡ n
    → ((k : ℕ) → k < n → IsAt (window_of items) (get_or own.items k None) (item_at w k)) → n ≡ w.count
    → AreHomes (record { items = items; places = places.Own own }) w
all-placed items own w n many each all = record {
  reached = omega (arith, many, all);
  each = λ k h. each k (omega (arith, h, all));
}

pub ruleset entries = (fewer, own-homes, entry-found, entry-is, all-placed)

-- one place more
pub more-placed : (own : List (Option ℕ)) (items w : Window) (n : ℕ) (place : Option ℕ) → length own ≡ n
    → ((k : ℕ) → k < n → IsAt items (get_or own k None) (item_at w k)) → IsAt items place (item_at w n)
    → (k : ℕ) → k < n + 1 → IsAt items (get_or (own ++ place ∷ []) k None) (item_at w k)
more-placed own items w n place many each here k inside =
    elim (cases_eq k n) [
      | inl last ↦
          subst (λ (p : Option ℕ). IsAt items p (item_at w k)) (sym (ap (λ j. get_or (own ++ place ∷ []) j None) (last ∙ sym many) ∙ get_or-append_seam own place [] None))
          (subst (λ j. IsAt items place (item_at w j)) (sym last) here)
      | inr other ↦
          let before : k < length own = omega (arith, inside, other, many) in
          subst (λ (p : Option ℕ). IsAt items p (item_at w k)) (sym (get_or_append_left own (place ∷ []) None k before)) (each k (omega (arith, inside, other)))
    ]
