-- The runs of values: they rise, are apart, and show the values again; where the run of an item ends.
use Rattle.std.proofs.Common.{◌≡◌, ℕ, zero, suc, ◌+◌, ◌<◌, ◌≤◌, Bool, true, false, not, List, [], ◌∷◌, length, get_or, drop, ◌-◌, Option, None, refl, ap, sym, ◌∙◌, subst, arith}
use Rattle.std.specs.Prelude.{if◌then◌else◌, nat_lt}
use Rattle.std.specs.Bool.{Decides}
use Rattle.std.specs.Ordering.{int_eq}
use Rattle.std.specs.Str.{bytes_eq}
use Rattle.std.proofs.lemmas.Bool.{eqb-true}
use Rattle.std.proofs.lemmas.List.{drop_more, drop_all}
use Rattle.std.proofs.lemmas.Bool.Decides.{Decides-int_eq, nat_tests}
use Rattle.std.proofs.lemmas.Slice.Eq.{bytes_eq-Decides}
use Rattle.data_types.specs.promise.Value.{Value}
use Rattle.data_types.specs.promise.Value.Value.{Null, Truth, Whole, Bits, Bytes}
use Rattle.data_types.specs.declared.kind.DataType.{DataType}
use Rattle.data_types.specs.declared.kind.DataType.TheVariants as kinds
use Rattle.tree_model.specs.promise.TreeData.{Released, Live, Trees, absent}
use Rattle.tree_model.specs.promise.TreeParts.{IsLive}
use Rattle.raw_array.specs.promise.Members.{ArrayTree, members_of}
use Rattle.data_types.specs.promise.KindTrees.{KindTree}
use Rattle.layout_rules.specs.promise.Layout.{buffer, first, is_valid_by}
use Rattle.layout_rules.specs.Layout.{stored_bytes}
use Rattle.layout_rules.specs.promise.Values.{tree_items, value_at, values_of}
use Rattle.arr_import.specs.Window.{Window, whole, item_at}
use Rattle.arr_export.proofs.Each.{value-there, length-each}
use Rattle.run_ends.proofs.Holding.{items-shown}
use Rattle.run_ends.specs.promise.RunCoding.{Run, runs_from}
use Rattle.run_ends.specs.RunCoding.{AreApart, IsRun, is_same}

-- ---- the same value

decided : {P : Type 0} → (b : Bool) → Decides b P → b ≡ true → P
decided b d e = grind (arith, d, e)

truths : (a b : Bool) → (if a then b else not b) ≡ true → a ≡ b
truths true true e = refl
truths false false e = refl
truths true false e = absurd (cc)
truths false true e = absurd (cc)

pub same-is : (a b : Value) → is_same a b ≡ true → a ≡ b
same-is Null Null e = refl
same-is (Truth a) (Truth b) e = ap Truth (truths a b e)
same-is (Whole a) (Whole b) e = ap Whole (decided (int_eq a b) (Decides-int_eq a b) e)
same-is (Bits a) (Bits b) e = ap Bits (eqb-true a b e)
same-is (Bytes a) (Bytes b) e = ap Bytes (decided (bytes_eq a b) (bytes_eq-Decides a b) e)
same-is _ _ e = absurd (cc)

-- ---- they rise

abbrev pub IsRising : ℕ → List Run → Type 0
IsRising at [] = Unit {0}
IsRising at (run ∷ rest) = (at < run.stop) × IsRising run.stop rest

abbrev pub last_stop : ℕ → List Run → ℕ
last_stop at [] = at
last_stop at (run ∷ rest) = last_stop run.stop rest

lower : (a b : ℕ) (runs : List Run) → a ≤ b → IsRising b runs → IsRising a runs
lower a b [] le up = tt
lower a b (run ∷ rest) le up = (omega (arith, le, up.0), up.1)

pub some : (at : ℕ) (v : Value) (vs : List Value) → 0 < length (runs_from at (v ∷ vs))
some at v [] = omega arith
some at v (n ∷ r) = pick (is_same v n) (some (suc at) n r)
  where
    pick : (b : Bool) → 0 < length (runs_from (suc at) (n ∷ r))
        → 0 < length (if b then runs_from (suc at) (n ∷ r) else record { value = v; stop = suc at } ∷ runs_from (suc at) (n ∷ r))
    pick true more = more
    pick false more = omega arith

pub rising : (at : ℕ) (vs : List Value) → IsRising at (runs_from at vs)
rising at [] = tt
rising at (v ∷ []) = (omega arith, tt)
rising at (v ∷ n ∷ r) = pick (is_same v n) (rising (suc at) (n ∷ r))
  where
    pick : (b : Bool) → IsRising (suc at) (runs_from (suc at) (n ∷ r))
        → IsRising at (if b then runs_from (suc at) (n ∷ r) else record { value = v; stop = suc at } ∷ runs_from (suc at) (n ∷ r))
    pick true more = lower at (suc at) (runs_from (suc at) (n ∷ r)) (omega arith) more
    pick false more = (omega arith, more)

last-any : (a b : ℕ) (runs : List Run) → 0 < length runs → last_stop a runs ≡ last_stop b runs
last-any a b [] h = absurd (omega (arith, h))
last-any a b (run ∷ rest) h = refl

pub last-is : (at : ℕ) (vs : List Value) → last_stop at (runs_from at vs) ≡ at + length vs
last-is at [] = omega arith
last-is at (v ∷ []) = omega arith
last-is at (v ∷ n ∷ r) = pick (is_same v n) (last-is (suc at) (n ∷ r) ∙ omega arith)
  where
    pick : (b : Bool) → last_stop (suc at) (runs_from (suc at) (n ∷ r)) ≡ at + length (v ∷ n ∷ r)
        → last_stop at (if b then runs_from (suc at) (n ∷ r) else record { value = v; stop = suc at } ∷ runs_from (suc at) (n ∷ r))
        ≡ at + length (v ∷ n ∷ r)
    pick true after = last-any at (suc at) (runs_from (suc at) (n ∷ r)) (some (suc at) n r) ∙ after
    pick false after = after

-- ---- they show the values

abbrev pub shown : ℕ → List Run → Value
shown place [] = Null
shown place (run ∷ rest) = if nat_lt place run.stop then run.value else shown place rest

test_yes : (a b : ℕ) → a < b → nat_lt a b ≡ true
test_yes a b h = grind (arith, nat_tests)

test_no : (a b : ℕ) → b ≤ a → nat_lt a b ≡ false
test_no a b h = grind (arith, nat_tests)

shown-lower : (a b : ℕ) (runs : List Run) → a ≤ b → IsRising b runs → 0 < length runs → shown a runs ≡ shown b runs
shown-lower a b [] le up h = absurd (omega (arith, h))
shown-lower a b (run ∷ rest) le up h =
    ap (λ (t : Bool). if t then run.value else shown a rest) (test_yes a run.stop (omega (arith, le, up.0)))
    ∙ sym (ap (λ (t : Bool). if t then run.value else shown b rest) (test_yes b run.stop up.0))

abbrev Shows : ℕ → List Value → List Run → Type 0
Shows at vs runs = (i : ℕ) → i < length vs → shown (at + i) runs ≡ get_or vs i Null

one-more : (at : ℕ) (v n : Value) (r : List Value) (runs : List Run) (b : Bool) → is_same v n ≡ b → IsRising (suc at) runs → 0 < length runs
    → Shows (suc at) (n ∷ r) runs → Shows at (v ∷ n ∷ r) (if b then runs else record { value = v; stop = suc at } ∷ runs)
one-more at v n r runs true e up h more zero g =
    shown-lower (at + 0) (suc at + 0) runs (omega arith) (subst (λ (p : ℕ). IsRising p runs) {x = suc at} (omega arith) up) h ∙ more 0 (omega arith)
    ∙ sym (same-is v n e)
one-more at v n r runs true e up h more (suc j) g =
    let same : at + suc j ≡ suc at + j = omega arith in
    ap (λ (p : ℕ). shown p runs) same ∙ more j (omega (arith, g))
one-more at v n r runs false e up h more zero g =
    ap (λ (t : Bool). if t then v else shown (at + 0) runs) (test_yes (at + 0) (suc at) (omega arith))
one-more at v n r runs false e up h more (suc j) g =
    let same : at + suc j ≡ suc at + j = omega arith in
    ap (λ (t : Bool). if t then v else shown (at + suc j) runs) (test_no (at + suc j) (suc at) (omega arith)) ∙ ap (λ (p : ℕ). shown p runs) same
    ∙ more j (omega (arith, g))

pub shows : (at : ℕ) (vs : List Value) → Shows at vs (runs_from at vs)
shows at [] i h = absurd (omega (arith, h))
shows at (v ∷ []) zero h = ap (λ (t : Bool). if t then v else Null) (test_yes (at + 0) (suc at) (omega arith))
shows at (v ∷ []) (suc i) h = absurd (omega (arith, h))
shows at (v ∷ n ∷ r) i h =
    one-more at v n r (runs_from (suc at) (n ∷ r)) (is_same v n) refl (rising (suc at) (n ∷ r)) (some (suc at) n r) (shows (suc at) (n ∷ r)) i h

-- ---- they are apart

abbrev first_value : List Run → Value
first_value [] = Null
first_value (run ∷ rest) = run.value

first-is : (at : ℕ) (v : Value) (vs : List Value) → first_value (runs_from at (v ∷ vs)) ≡ v
first-is at v [] = refl
first-is at v (n ∷ r) = pick (is_same v n) refl (first-is (suc at) n r)
  where
    pick : (b : Bool) → is_same v n ≡ b → first_value (runs_from (suc at) (n ∷ r)) ≡ n
        → first_value (if b then runs_from (suc at) (n ∷ r) else record { value = v; stop = suc at } ∷ runs_from (suc at) (n ∷ r)) ≡ v
    pick true e more = more ∙ sym (same-is v n e)
    pick false e more = refl

apart-more : (run : Run) (runs : List Run) → 0 < length runs → is_same run.value (first_value runs) ≡ false → AreApart runs → AreApart (run ∷ runs)
apart-more run [] h e apart = absurd (omega (arith, h))
apart-more run (next ∷ rest) h e apart = (e, apart)

pub apart : (at : ℕ) (vs : List Value) → AreApart (runs_from at vs)
apart at [] = tt
apart at (v ∷ []) = tt
apart at (v ∷ n ∷ r) = pick (is_same v n) refl (apart (suc at) (n ∷ r))
  where
    pick : (b : Bool) → is_same v n ≡ b → AreApart (runs_from (suc at) (n ∷ r))
        → AreApart (if b then runs_from (suc at) (n ∷ r) else record { value = v; stop = suc at } ∷ runs_from (suc at) (n ∷ r))
    pick true e more = more
    pick false e more =
        apart-more (record { value = v; stop = suc at }) (runs_from (suc at) (n ∷ r)) (some (suc at) n r)
        (ap (is_same v) (first-is (suc at) n r) ∙ e) more

-- ---- the runs of the values from one on

runs-step : (at : ℕ) (v n : Value) (r : List Value) → is_same v n ≡ true → runs_from at (v ∷ n ∷ r) ≡ runs_from (suc at) (n ∷ r)
runs-step at v n r e =
    ap (λ (b : Bool). if b then runs_from (suc at) (n ∷ r) else record { value = v; stop = suc at } ∷ runs_from (suc at) (n ∷ r)) e

runs-stop : (at : ℕ) (v n : Value) (r : List Value) → is_same v n ≡ false
    → runs_from at (v ∷ n ∷ r) ≡ record { value = v; stop = suc at } ∷ runs_from (suc at) (n ∷ r)
runs-stop at v n r e =
    ap (λ (b : Bool). if b then runs_from (suc at) (n ∷ r) else record { value = v; stop = suc at } ∷ runs_from (suc at) (n ∷ r)) e

abbrev value_in : List Value → ℕ → Value
value_in xs k = get_or xs k Null

more-of : (xs : List Value) (k : ℕ) → k < length xs → drop k xs ≡ value_in xs k ∷ drop (k + 1) xs
more-of xs k h = drop_more xs k Null h

-- the runs from item i on are those from item j on, whose value is item i's: those between are the same
pub record Alike (xs : List Value) (i j : ℕ) : Type 0 where
  pub runs : runs_from i (drop i xs) ≡ runs_from j (drop j xs)
  pub value : value_in xs j ≡ value_in xs i

pub alike-first : (xs : List Value) (i : ℕ) → Alike xs i i
alike-first xs i = record { runs = refl; value = refl }

pub alike-more : (xs : List Value) (i j : ℕ) → j + 1 < length xs → is_same (value_in xs j) (value_in xs (j + 1)) ≡ true → Alike xs i j → Alike xs i (j + 1)
alike-more xs i j h e is =
    let two : drop j xs ≡ value_in xs j ∷ value_in xs (j + 1) ∷ drop (j + 1 + 1) xs =
    more-of xs j (omega (arith, h)) ∙ ap (λ (ys : List Value). value_in xs j ∷ ys) (more-of xs (j + 1) h) in
    let next : suc j ≡ j + 1 = omega arith in
    record {
      runs = is.runs ∙ ap (runs_from j) two ∙ runs-step j (value_in xs j) (value_in xs (j + 1)) (drop (j + 1 + 1) xs) e
          ∙ ap (runs_from (suc j)) (sym (more-of xs (j + 1) h)) ∙ ap (λ (n : ℕ). runs_from n (drop (j + 1) xs)) next;
      value = sym (same-is (value_in xs j) (value_in xs (j + 1)) e) ∙ is.value;
    }

pub stops-last : (xs : List Value) (i j : ℕ) → j + 1 ≡ length xs → Alike xs i j → IsRun xs i (j + 1)
stops-last xs i j h is =
    let none : drop (j + 1) xs ≡ [] = drop_all (j + 1) xs (omega (arith, h)) in
    let one : drop j xs ≡ value_in xs j ∷ [] = more-of xs j (omega (arith, h)) ∙ ap (λ (ys : List Value). value_in xs j ∷ ys) none in
    let next : suc j ≡ j + 1 = omega arith in
    is.runs ∙ ap (runs_from j) one
    ∙ (λ t. record { value = is.value t; stop = next t } ∷ [])
    ∙ ap (λ (ys : List Value). record { value = value_in xs i; stop = j + 1 } ∷ runs_from (j + 1) ys) (sym none)

alike-to : (xs : List Value) (i d : ℕ) → ((k : ℕ) → k + 1 < length xs → is_same (value_in xs k) (value_in xs (k + 1)) ≡ true) → i + d < length xs
    → Alike xs i (i + d)
alike-to xs i zero all h = let same : i ≡ i + 0 = omega arith in subst (Alike xs i) same (alike-first xs i)
alike-to xs i (suc d) all h =
    let same : i + d + 1 ≡ i + suc d = omega arith in
    subst (Alike xs i) same (alike-more xs i (i + d) (omega (arith, h)) (all (i + d) (omega (arith, h))) (alike-to xs i d all (omega (arith, h))))

-- where all are the same there is one run
pub stops-all : (xs : List Value) (i : ℕ) → ((k : ℕ) → k + 1 < length xs → is_same (value_in xs k) (value_in xs (k + 1)) ≡ true) → i < length xs
    → IsRun xs i (length xs)
stops-all xs i all h =
    let d = length xs - 1 - i in
    let last : i + d + 1 ≡ length xs = omega (arith, h) in
    subst (IsRun xs i) last (stops-last xs i (i + d) last (alike-to xs i d all (omega (arith, h))))

-- ---- the values of an array

pub value-is : (t : KindTree) (a : ArrayTree) (w : Window) (k : ℕ) → w ≡ whole t a → k < tree_items a → item_at w k ≡ value_in (values_of t a) k
value-is t a w k e h =
    let zero : 0 + k ≡ k = omega arith in
    ap (λ (f : ℕ → Value). f k) (items-shown w t a e) ∙ ap (value_at t a) (sym zero) ∙ sym (value-there (value_at t a) 0 (tree_items a) k Null h)

pub count-is : (t : KindTree) (a : ArrayTree) → length (values_of t a) ≡ tree_items a
count-is t a = length-each (value_at t a) 0 (tree_items a)

-- ---- items without bytes and without validity

empty-at : (kids : Trees DataType) (a : ArrayTree) (k : ℕ) → IsLive a → buffer (members_of a) 0 ≡ None
    → value_at (Live (kinds.FixedBinary 0) kids absent) a k ≡ Bytes []
empty-at kids Released k live none = absurd live
empty-at kids (Live own children dictionary) k live none =
    ap (λ (b : Option (List ℕ)). if is_valid_by b (first own + k) then Bytes (stored_bytes 0 own k) else Null) none

pub all-empty : (t : KindTree) (kids : Trees DataType) (a : ArrayTree) → t ≡ Live (kinds.FixedBinary 0) kids absent → IsLive a → buffer (members_of a) 0 ≡ None
    → (k : ℕ) → k + 1 < length (values_of t a) → is_same (value_in (values_of t a) k) (value_in (values_of t a) (k + 1)) ≡ true
all-empty t kids a e live none k h =
    let items = count-is t a in
    let at : (n : ℕ) → n < tree_items a → value_in (values_of t a) n ≡ Bytes [] =
    λ n inside.
    let zero : 0 + n ≡ n = omega arith in
    value-there (value_at t a) 0 (tree_items a) n Null inside ∙ ap (value_at t a) zero ∙ ap (λ (s : KindTree). value_at s a n) e ∙ empty-at kids a n live none in
    (λ j. is_same (at k (omega (arith, h, items)) j) (at (k + 1) (omega (arith, h, items)) j))
