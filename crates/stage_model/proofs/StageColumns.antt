-- The columns after a stage that no rule refuses, by its step.
use Rattle.std.proofs.Common.{◌≡◌, ℕ, Bool, true, false, true≢false, List, [], ◌∷◌, refl, sym, ap, subst, ◌∙◌}
use Rattle.std.specs.Prelude.{not, ◌||◌, ◌&&◌, get_or}
use Rattle.std.specs.List.{list_all}
use Rattle.data_types.specs.promise.Parts.{replaced}
use Rattle.data_types.specs.Parts.{unpacked_columns}
use Rattle.data_types.specs.promise.Table.{Column, Kind, Flat, Dict, Columns, Members}
use Rattle.data_types.specs.declared.kind.DataType.{DataType}
use Rattle.stage_model.proofs.Numbers.{none-fails}
use Rattle.stage_model.specs.promise.Typing.{Stage, column, column_named, columns_after, columns_named, compares, dict_kind, is_bytes, is_dict}
use Rattle.stage_model.specs.Typing.{HasColumns, IsStageOver}
use Rattle.stage_model.specs.promise.Typing.{is_ordered, is_struct, names_of, place_of, plain_kind, rules_of, step_of, struct_members, takes}
use Rattle.stage_model.specs.declared.stage.StageText.{StageText}
use Rattle.stage_model.specs.declared.stage.StageText.TheVariants as texts

-- ---- truth values

not-false : (a : Bool) → not a ≡ false → a ≡ true
not-false true e = refl
not-false false e = absurd (true≢false e)

and-first : (a b : Bool) → (a && b) ≡ true → a ≡ true
and-first true b e = refl
and-first false b e = e

if-compared : (a b : Bool) → (not a || b) ≡ true → a ≡ true → b ≡ true
if-compared true b e is = e
if-compared false b e is = absurd (true≢false (sym is))

-- ---- kinds that a stage takes

struct-is : (k : Kind) → is_struct k ≡ true → (fields : Members) × (k ≡ Columns fields)
struct-is (Flat type) e = absurd (true≢false (sym e))
struct-is (Dict type) e = absurd (true≢false (sym e))
struct-is (Columns fields) e = (fields, refl)

bytes-is : (k : Kind) → is_bytes k ≡ true → (type : DataType) × (k ≡ Flat type) × (is_bytes (Flat type) ≡ true)
bytes-is (Flat type) e = (type, refl, e)
bytes-is (Dict type) e = absurd (true≢false (sym e))
bytes-is (Columns fields) e = absurd (true≢false (sym e))

dict-is : (k : Kind) → is_dict k ≡ true → (type : DataType) × (k ≡ Dict type)
dict-is (Flat type) e = absurd (true≢false (sym e))
dict-is (Dict type) e = (type, refl)
dict-is (Columns fields) e = absurd (true≢false (sym e))

-- ---- a stage whose columns are of kinds that it takes

abbrev AreTaken : List Column → StageText → Type 0
AreTaken columns text = not (list_all (λ c. takes text c.kind) (columns_named columns (names_of text))) ≡ false

one-taken : (columns : List Column) (name : List ℕ) (b : Bool) → not (b && true) ≡ false → b ≡ true
one-taken columns name b e = and-first b true (not-false (b && true) e)

step-has : (columns : List Column) (text : StageText) → AreTaken columns text → HasColumns columns (step_of columns text) (columns_after columns text)
step-has columns (texts.Select names) e = refl
step-has columns (texts.Drop names) e = refl
step-has columns (texts.Slice off len) e = refl
step-has columns (texts.Filter name test constant) e =
    (refl, if-compared (compares test) (is_ordered (column_named columns name).kind) (one-taken columns name _ e))
step-has columns (texts.Pack made names) e = (made, refl)
step-has columns (texts.Unpack name) e =
    let is = struct-is (column_named columns name).kind (one-taken columns name _ e) in
    (is.0, is.1, ap (λ (k : Kind). unpacked_columns (place_of columns name) (struct_members k) columns) is.1)
step-has columns (texts.Dict name) e =
    let is = bytes-is (column_named columns name).kind (one-taken columns name _ e) in
    (is.0, is.1, is.2, ap (λ (k : Kind). replaced (place_of columns name) (column (column_named columns name).name (dict_kind k)) columns) is.1)
step-has columns (texts.Plain name) e =
    let is = dict-is (column_named columns name).kind (one-taken columns name _ e) in
    (is.0, is.1, ap (λ (k : Kind). replaced (place_of columns name) (column (column_named columns name).name (plain_kind k)) columns) is.1)
step-has columns (texts.Totals names) e = (not-false _ e, refl)

pub stages-have : (columns : List Column) (stage : Stage) → IsStageOver columns stage → HasColumns columns stage.step stage.columns
stages-have columns stage (text, is) =
    let found = none-fails (rules_of columns text) _ stage is in
    subst (λ (s : Stage). HasColumns columns s.step s.columns) found.1 (step-has columns text found.0.1.1.0)
