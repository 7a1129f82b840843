-- What passes a test.
use Rattle.std.proofs.Common.{◌≡◌, ◌≢◌, ◌∙◌, ℕ, Bool, true, false, List, [], ◌∷◌, refl, sym, ap}
use Rattle.std.proofs.lemmas.Map.Text.{is_eq-slice_cmp}
use Rattle.std.specs.Prelude.{Option, None, not, if◌then◌else◌}
use Rattle.std.specs.Cmp.Lexicographic.{slice_cmp}
use Rattle.std.specs.Ordering.{is_eq, is_ne, nat_cmp}
use Rattle.std.specs.Str.{bytes_eq}
use Rattle.std.specs.declared.cmp.Ordering.TheVariants.{Less, Equal, Greater}
use Rattle.std.specs.List.{filter}
use Rattle.std.specs.Ordering.{is_some_and}
use Rattle.std.specs.declared.cmp.Ordering.{Ordering}
use Rattle.data_types.specs.promise.Value.{Value, Null, Truth, Whole, Bits, Bytes, Items, Fields}
use Rattle.arr_import.specs.Window.{Window, item_at}
use Rattle.stage_model.specs.promise.Stages.{compared, passes}
use Rattle.stage_model.specs.promise.Typing.{compares}
use Rattle.stage_model.specs.declared.stage.Const.{Const}
use Rattle.stage_model.specs.declared.stage.Const.TheVariants as consts
use Rattle.stage_model.specs.declared.stage.Test.{Test}
use Rattle.stage_model.specs.declared.stage.Test.TheVariants as tests
use Rattle.stage_filter.specs.Kept.{equality, kept_numbers, numbers, order_passes}

-- a comparison passes by the order
by-order : (test : Test) (constant : Const) (v : Value) → compares test ≡ true → passes test constant v ≡ is_some_and (order_passes test) (compared v constant)
by-order tests.Eq constant v is = refl
by-order tests.Ne constant v is = refl
by-order tests.Lt constant v is = refl
by-order tests.Le constant v is = refl
by-order tests.Gt constant v is = refl
by-order tests.Ge constant v is = refl
by-order tests.Null constant v is = absurd cc
by-order tests.Valid constant v is = absurd cc

pub none-passes : (test : Test) (constant : Const) (v : Value) → compares test ≡ true → ◌≡◌ {A = Option Ordering} None (compared v constant)
    → false ≡ passes test constant v
none-passes test constant v is e = ap (is_some_and (order_passes test)) e ∙ sym (by-order test constant v is)

-- nothing is compared with no constant
no-order : (v : Value) → compared v consts.None ≡ None
no-order Null = refl
no-order (Truth t) = refl
no-order (Whole n) = refl
no-order (Bits n) = refl
no-order (Bytes b) = refl
no-order (Items vs) = refl
no-order (Fields vs) = refl

none-kept : (p : ℕ → Bool) (ks : List ℕ) → ((k : ℕ) → false ≡ p k) → [] ≡ filter p ks
none-kept p [] fails = refl
none-kept p (k ∷ ks) fails = none-kept p ks fails ∙ ap (λ b. if b then k ∷ filter p ks else filter p ks) (fails k)

pub no-constant : (test : Test) (w : Window) (from count : ℕ) → compares test ≡ true → [] ≡ kept_numbers test consts.None w from count
no-constant test w from count is =
    none-kept (λ i. passes test consts.None (item_at w i)) (numbers from count)
    (λ i. none-passes test consts.None (item_at w i) is (sym (no-order (item_at w i))))

-- ---- the same bytes, or others

other : (order : Ordering) → not (is_eq order) ≡ is_ne order
other Less = refl
other Equal = refl
other Greater = refl

pub same-passes : (equal same : Bool) (bytes constant : List ℕ) → same ≡ bytes_eq bytes constant
    → (if equal then same else not same) ≡ passes (equality equal) (consts.Bytes constant) (Bytes bytes)
same-passes true same bytes constant e = e ∙ sym (is_eq-slice_cmp bytes constant)
same-passes false same bytes constant e = ap not (e ∙ sym (is_eq-slice_cmp bytes constant)) ∙ other (slice_cmp nat_cmp bytes constant)

no-bytes-order : (constant : List ℕ) (v : Value) → ((bytes : List ℕ) → v ≢ Bytes bytes) → ◌≡◌ {A = Option Ordering} None (compared v (consts.Bytes constant))
no-bytes-order constant Null none = refl
no-bytes-order constant (Truth t) none = refl
no-bytes-order constant (Whole n) none = refl
no-bytes-order constant (Bits n) none = refl
no-bytes-order constant (Bytes b) none = absurd (none b refl)
no-bytes-order constant (Items vs) none = refl
no-bytes-order constant (Fields vs) none = refl

equality-compares : (equal : Bool) → compares (equality equal) ≡ true
equality-compares true = refl
equality-compares false = refl

pub no-bytes-pass : (equal : Bool) (constant : List ℕ) (v : Value) → ((bytes : List ℕ) → v ≢ Bytes bytes)
    → false ≡ passes (equality equal) (consts.Bytes constant) v
no-bytes-pass equal constant v none = none-passes (equality equal) (consts.Bytes constant) v (equality-compares equal) (no-bytes-order constant v none)
