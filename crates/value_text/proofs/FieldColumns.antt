-- Fields and their columns.
use Rattle.std.proofs.Common.{◌≡◌, ◌∙◌, ◌<◌, List, [], ◌∷◌, ◌++◌, All, length, get_or, map, Option, None, Some, inl, inr, ap, refl, sym, subst, arith, length-append}
use Rattle.std.proofs.lemmas.Bool.{cases_eq}
use Rattle.std.proofs.lemmas.List.{get_or-map, get_or_append_left, length-map}
use Rattle.std.proofs.Math.Seq.{get_or-append_seam}
use Rattle.std.specs.Prelude.{IfSome}
use Rattle.arr_import.specs.Plain.{IsPlain, IsPlainStorage, ShowsItems, storage_in}
use Rattle.arr_import.specs.Window.{Window, item_at}
use Rattle.arr_import.specs.declared.plain.Plain.{Plain}
use Rattle.data_types.specs.promise.KindTrees.{kind_in}
use Rattle.data_types.specs.promise.Storage.{storage_of}
use Rattle.arr_import.specs.declared.col.Col.{Col}
use Rattle.value_text.specs.Fields.{ReadsAs}
use Rattle.value_text.specs.declared.table.Field.{Field}

abbrev columns-in : List Field → List Col
columns-in fields = map (λ f. f.items) fields

map-map : {X : Type 0} (g : Col → X) (fields : List Field) → map g (columns-in fields) ≡ map (λ f. g f.items) fields
map-map g [] = refl
map-map g (f ∷ fields) = ap (λ xs. g f.items ∷ xs) (map-map g fields)

pub mapped : {X : Type 0} (g : Col → X) (fields : List Field) (columns : List Col) → map (λ f. f.items) fields ≡ columns
    → map (λ f. g f.items) fields ≡ map g columns
mapped g fields columns is = sym (map-map g fields) ∙ ap (map g) is

pub all-mapped : (P : Col → Type 0) (fields : List Field) (columns : List Col) → map (λ f. f.items) fields ≡ columns → All P columns → All (λ f. P f.items) fields
all-mapped P fields columns is all = λ k d inside.
    let there : k < length columns = omega (arith, inside, length-map fields (λ f. f.items), ap length is) in
    subst P (ap (λ cs. get_or cs k d.items) (sym is) ∙ get_or-map (λ f. f.items) fields k d d.items inside) (all k d.items there)

pub all-more : (P : Field → Type 0) (fields : List Field) (field : Field) → All P fields → P field → All P (fields ++ field ∷ [])
all-more P fields field all here = λ k d inside.
    elim (cases_eq k (length fields)) [
      | inl last ↦ subst P (sym (ap (λ n. get_or (fields ++ field ∷ []) n d) last ∙ get_or-append_seam fields field [] d)) here
      | inr other ↦
          let before : k < length fields = omega (arith, inside, other, length-append fields (field ∷ [])) in
          subst P (sym (get_or_append_left fields (field ∷ []) d k before)) (all k d before)
    ]

-- what is said of a column that may be read by its places
pub reads-as : (found : Option Plain) (w : Window) → IfSome found (λ plain. ShowsItems plain w.count (item_at w))
    → IfSome found (λ plain. storage_in plain ≡ storage_of (kind_in w.typed)) → IfSome found (λ plain. IsPlain w) → ReadsAs found w
reads-as None w shows stored only = tt
reads-as (Some plain) w shows stored only = (shows, subst IsPlainStorage (sym stored) only.stored)
