-- What is read of a column's items, place by place.
use Rattle.std.proofs.Common.{◌≡◌, ◌<◌, ℕ, zero, suc, List, [], ◌∷◌, length, get_or, refl, sym, ap, subst, arith, ◌∙◌}
use Rattle.std.specs.List.{AllZip}
use Rattle.data_types.specs.promise.Value.{Value}
use Rattle.arr_import.specs.Plain.{IsItemThere}
use Rattle.arr_import.specs.declared.plain.Plain.{Plain}
use Rattle.field_codec.specs.FieldForms.{written_in}
use Rattle.csv_write.specs.ChunkTexts.{HasItem}
use Rattle.csv_write.specs.Readings.{IsShown}
use Rattle.csv_write.specs.Ways.{form_by}
use Rattle.csv_write.specs.declared.chunk_text.ChunkColumn.{ChunkColumn}
use Rattle.csv_write.specs.declared.way.Way.{Way}

-- what is beside an item
pub record IsBeside {A B : Type 0} (R : A → B → Type 0) (ys : List B) (j : ℕ) (x : A) : Type 0 where
  pub item : B
  pub holds : R x item
  pub inside : j < length ys
  pub is : item ≡ get_or ys j item

pub zip-beside : {A B : Type 0} → (R : A → B → Type 0) (xs : List A) (ys : List B) (j : ℕ) (x : A) → AllZip R xs ys → j < length xs → x ≡ get_or xs j x
    → IsBeside R ys j x
zip-beside R [] ys j x h lt is = absurd (omega (arith, lt))
zip-beside R (a ∷ xs) [] j x h lt is = absurd h
zip-beside R (a ∷ xs) (b ∷ ys) zero x h lt is = record { item = b; holds = subst (λ z. R z b) (sym is) h.0; inside = omega arith; is = refl }
zip-beside R (a ∷ xs) (b ∷ ys) (suc j) x h lt is =
    let rest = zip-beside R xs ys j x h.1 (omega (arith, lt)) is in
    let below = rest.inside in
    record { item = rest.item; holds = rest.holds; inside = omega (arith, below); is = rest.is }

-- ---- an item that is shown

module _ (way : Way) (plain : Plain) (column : ChunkColumn) (i : ℕ) (shown : IsShown way plain column) (has : HasItem column i) where
  pub item-there : IsItemThere plain i
  item-there = shown.items.there i has.inside

-- what is written in a way
pub by-way : (mark : List ℕ) (way w : Way) → way ≡ w → (item v : Value) → item ≡ v
    → written_in mark (form_by w) v ≡ written_in mark (form_by way) item
by-way mark way w is item v same = ap (λ x. written_in mark (form_by x) v) (sym is) ∙ ap (λ x. written_in mark (form_by way) x) (sym same)
