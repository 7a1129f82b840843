-- What holds of the columns before a stage, and their measures, behind it.
use Rattle.std.proofs.Common.{arith, rules, ◌≡◌, ◌≤◌, ◌<◌, ◌+◌, ◌*◌, ◌∙◌, ℕ, zero, suc, pos}
use Rattle.std.proofs.Common.{Bool, true, false, true≢false, List, [], ◌∷◌, ◌++◌, length, map, get_or}
use Rattle.std.proofs.Common.{take, drop, refl, sym, ap, subst, inr, take-append-drop}
use Rattle.std.specs.Int.{w32}
use Rattle.std.specs.List.{All, flat_map, list_all}
use Rattle.std.specs.Prelude.{FitsSigned, codes, ◌&&◌}
use Rattle.std.proofs.lemmas.Bool.{ltb-false}
use Rattle.std.proofs.lemmas.List.{drop_more, length-append, map-append}
use Rattle.std.proofs.lemmas.List.Elements.{All-append, All-cons, All-drop, All-get_or, All-head, All-nil, All-tail, All-take}
use Rattle.data_types.specs.ColumnForms.{AreColumnKinds}
use Rattle.data_types.specs.promise.ColumnView.{members}
use Rattle.data_types.specs.promise.Parts.{member_columns, picked, replaced}
use Rattle.data_types.specs.Parts.{packed_columns, unpacked_columns, AreWithin}
use Rattle.data_types.specs.promise.Table.{Column, Kind, Flat, Dict, Columns, Members, no_members, more_members}
use Rattle.data_types.specs.declared.kind.DataType.{DataType}
use Rattle.data_types.specs.declared.kind.DataType.TheVariants as kinds
use Rattle.arr_move.specs.TreeActs.{Distinct}
use Rattle.stage_model.specs.promise.Typing.{Stage, column, columns_after, is_bytes}
use Rattle.stage_model.specs.Typing.{FitsColumns, HasColumns, IsStageOver, column_at}
use Rattle.stage_model.specs.promise.Typing.{is_summed, most_columns, no_column, rules_of}
use Rattle.stage_model.specs.promise.Typing.{scale_of, step_of, totals_columns}
use Rattle.stage_model.specs.declared.stage.Step.{Step}
use Rattle.stage_model.specs.declared.stage.Step.TheVariants as steps
use Rattle.stage_model.proofs.Numbers.{none-fails, stages-fit}
use Rattle.stage_model.proofs.StageColumns.{stages-have}
use Rattle.stream_face.specs.Lawful.{DictsHaveBytes, HasBytes, column_leaves, leaves}
use Rattle.stages.specs.Structs.{column_structs, structs}
use Rattle.stages.proofs.PickedColumns.{all-picked, first-within, leaves-are, rest-within, sum-picked, total}
use Rattle.stages.specs.Distinct.{DistinctPicks}
use Rattle.stages.proofs.DifferentPicks.{stages-distinct}

-- ---- what holds of columns

abbrev AreAll : (Kind → Type 0) → List Column → Type 0
AreAll P columns = All (λ c. P c.kind) columns

-- it holds of a struct's kind where it holds of those of its columns
abbrev Packs : (Kind → Type 0) → Type 0
Packs P = (fields : Members) → AreAll P (member_columns fields) → P (Columns fields)

abbrev Unpacks : (Kind → Type 0) → Type 0
Unpacks P = (fields : Members) → P (Columns fields) → AreAll P (member_columns fields)

members-back : (columns : List Column) → member_columns (members columns) ≡ columns
members-back [] = refl
members-back (c ∷ cs) = ap (λ (more : List Column). c ∷ more) (members-back cs)

pack-kept : (P : Kind → Type 0) → Packs P → (name : List ℕ) (columns : List Column) (rest picks : List ℕ) → AreWithin (length columns) rest
    → AreWithin (length columns) picks → AreAll P columns → AreAll P (packed_columns no_column name rest picks columns)
pack-kept P packs name columns rest picks a b all =
    let inner = subst (AreAll P) (sym (members-back (picked no_column picks columns))) (all-picked (λ c. P c.kind) picks columns b all) in
    All-append (λ c. P c.kind) (picked no_column rest columns) (record { name = name; kind = Columns (members (picked no_column picks columns)) } ∷ [])
    (all-picked (λ c. P c.kind) rest columns a all)
    (All-cons (λ c. P c.kind) (record { name = name; kind = Columns (members (picked no_column picks columns)) }) []
    (packs (members (picked no_column picks columns)) inner) (All-nil (λ c. P c.kind)))

unpack-kept : (P : Kind → Type 0) → Unpacks P → (place : ℕ) (fields : Members) (columns : List Column) → place < length columns
    → (column_at columns place).kind ≡ Columns fields → AreAll P columns → AreAll P (unpacked_columns place fields columns)
unpack-kept P unpacks place fields columns lt is all =
    All-append (λ c. P c.kind) (take place columns ++ member_columns fields) (drop (place + 1) columns)
    (All-append (λ c. P c.kind) (take place columns) (member_columns fields) (All-take (λ c. P c.kind) place columns all)
    (unpacks fields (subst P is (All-get_or (λ c. P c.kind) columns place no_column lt all))))
    (All-drop (λ c. P c.kind) (place + 1) columns all)

-- it holds of the kinds of a column's totals where it holds of the column's own
abbrev Totalled : (Kind → Type 0) → Type 0
Totalled P = (c : Column) → is_summed c.kind ≡ true → P c.kind → AreAll P (totals_columns c)

abbrev AreSummed : List Column → Type 0
AreSummed columns = list_all (λ c. is_summed c.kind) columns ≡ true

first-of : (a b : Bool) → (a && b) ≡ true → a ≡ true
first-of true b e = refl
first-of false b e = absurd (true≢false (sym e))

rest-of : (a b : Bool) → (a && b) ≡ true → b ≡ true
rest-of true b e = e
rest-of false b e = absurd (true≢false (sym e))

totals-kept : (P : Kind → Type 0) → Totalled P → (columns : List Column) → AreSummed columns → AreAll P columns → AreAll P (flat_map totals_columns columns)
totals-kept P totals [] summed all = All-nil (λ c. P c.kind)
totals-kept P totals (c ∷ cs) summed all =
    All-append (λ c. P c.kind) (totals_columns c) (flat_map totals_columns cs)
    (totals c (first-of (is_summed c.kind) (list_all (λ c. is_summed c.kind) cs) summed) (All-head (λ c. P c.kind) c cs all))
    (totals-kept P totals cs (rest-of (is_summed c.kind) (list_all (λ c. is_summed c.kind) cs) summed) (All-tail (λ c. P c.kind) c cs all))

-- it holds of a dictionary's kind where it holds of its values' own, and the reverse
abbrev Codes : (Kind → Type 0) → Type 0
Codes P = (type : DataType) → is_bytes (Flat type) ≡ true → P (Flat type) → P (Dict type)

abbrev Decodes : (Kind → Type 0) → Type 0
Decodes P = (type : DataType) → P (Dict type) → P (Flat type)

replaced-kept : (P : Kind → Type 0) (place : ℕ) (c : Column) (columns : List Column) → P c.kind → AreAll P columns → AreAll P (replaced place c columns)
replaced-kept P place c columns one all =
    All-append (λ c. P c.kind) (take place columns) (c ∷ drop (place + 1) columns) (All-take (λ c. P c.kind) place columns all)
    (All-cons (λ c. P c.kind) c (drop (place + 1) columns) one (All-drop (λ c. P c.kind) (place + 1) columns all))

-- what the kinds of new columns have of those before
record Kept (P : Kind → Type 0) : Type 0 where
  packs : Packs P
  unpacks : Unpacks P
  totals : Totalled P
  codes : Codes P
  decodes : Decodes P

-- it holds of the column of a place, which is of this kind
place-kept : (P : Kind → Type 0) (place : ℕ) (columns : List Column) (kind : Kind) → place < length columns → (column_at columns place).kind ≡ kind
    → AreAll P columns → P kind
place-kept P place columns kind lt is all = subst P is (All-get_or (λ c. P c.kind) columns place no_column lt all)

step-keeps : (P : Kind → Type 0) → Kept P → (columns : List Column) (step : Step) (after : List Column)
    → FitsColumns (length columns) step → HasColumns columns step after → AreAll P columns → AreAll P after
step-keeps P kept columns (steps.Select picks) after fits has all = subst (AreAll P) (sym has) (all-picked (λ c. P c.kind) picks columns fits all)
step-keeps P kept columns (steps.Slice off len) after fits has all = subst (AreAll P) (sym has) all
step-keeps P kept columns (steps.Filter place test constant) after fits has all = subst (AreAll P) (sym has.0) all
step-keeps P kept columns (steps.Pack rest picks) after fits (name, is) all =
    subst (AreAll P) (sym is) (pack-kept P kept.packs name columns rest picks fits.0 fits.1 all)
step-keeps P kept columns (steps.Unpack place) after fits (fields, kind, is) all =
    subst (AreAll P) (sym is) (unpack-kept P kept.unpacks place fields columns fits kind all)
step-keeps P kept columns (steps.Dict place) after fits (type, kind, bytes, is) all =
    let one = kept.codes type bytes (place-kept P place columns (Flat type) fits kind all) in
    subst (AreAll P) (sym is) (replaced-kept P place (column (column_at columns place).name (Dict type)) columns one all)
step-keeps P kept columns (steps.Plain place) after fits (type, kind, is) all =
    let one = kept.decodes type (place-kept P place columns (Dict type) fits kind all) in
    subst (AreAll P) (sym is) (replaced-kept P place (column (column_at columns place).name (Flat type)) columns one all)
step-keeps P kept columns (steps.Totals places) after fits (summed, is) all =
    subst (AreAll P) (sym is) (totals-kept P kept.totals (picked no_column places columns) summed (all-picked (λ c. P c.kind) places columns fits all))

stage-keeps : (P : Kind → Type 0) → Kept P → (columns : List Column) (stage : Stage) → IsStageOver columns stage → AreAll P columns → AreAll P stage.columns
stage-keeps P kept columns stage over =
    step-keeps P kept columns stage.step stage.columns (stages-fit columns stage over) (stages-have columns stage over)

-- ---- kinds

kinds-pack : Packs AreColumnKinds
kinds-pack no_members all = tt
kinds-pack (more_members name kind rest) all =
    let c : Column = record { name = name; kind = kind } in
    (All-head (λ c. AreColumnKinds c.kind) c (member_columns rest) all, kinds-pack rest (All-tail (λ c. AreColumnKinds c.kind) c (member_columns rest) all))

kinds-unpack : Unpacks AreColumnKinds
kinds-unpack no_members all = All-nil (λ c. AreColumnKinds c.kind)
kinds-unpack (more_members name kind rest) all =
    All-cons (λ c. AreColumnKinds c.kind) (record { name = name; kind = kind }) (member_columns rest) all.0 (kinds-unpack rest all.1)

zero-fits : FitsSigned w32 (pos 0)
zero-fits = search (rules, arith)

scale-fits : (kind : Kind) → AreColumnKinds kind → FitsSigned w32 (scale_of kind)
scale-fits (Flat (kinds.Decimal precision scale wide)) is = is.0.2
scale-fits (Flat _) is = zero-fits
scale-fits (Dict type) is = zero-fits
scale-fits (Columns fields) is = zero-fits

kinds-totals : Totalled AreColumnKinds
kinds-totals c summed is =
    let P = λ (c : Column). AreColumnKinds c.kind in
    let count = column (c.name ++ codes "_count") (Flat (kinds.Int 64 true)) in
    let sum = column (c.name ++ codes "_sum") (Flat (kinds.Decimal 38 (scale_of c.kind) false)) in
    let least = column (c.name ++ codes "_min") c.kind in
    let most = column (c.name ++ codes "_max") c.kind in
    All-cons P count (sum ∷ least ∷ most ∷ []) (inr (inr (inr refl)), tt)
    (All-cons P sum (least ∷ most ∷ []) ((omega arith, omega arith, scale-fits c.kind is), tt)
    (All-cons P least (most ∷ []) is (All-cons P most [] is (All-nil P))))

kinds-of : Kept AreColumnKinds
kinds-of = record {
  packs = kinds-pack;
  unpacks = kinds-unpack;
  totals = kinds-totals;
  codes = λ type bytes is. is;
  decodes = λ type is. is;
}

pub kinds-kept : (columns : List Column) (stage : Stage) → IsStageOver columns stage
    → All (λ c. AreColumnKinds c.kind) columns → All (λ c. AreColumnKinds c.kind) stage.columns
kinds-kept = stage-keeps AreColumnKinds kinds-of

-- ---- dictionaries

dicts-pack : Packs DictsHaveBytes
dicts-pack no_members all = tt
dicts-pack (more_members name kind rest) all =
    let c : Column = record { name = name; kind = kind } in
    (All-head (λ c. DictsHaveBytes c.kind) c (member_columns rest) all, dicts-pack rest (All-tail (λ c. DictsHaveBytes c.kind) c (member_columns rest) all))

dicts-unpack : Unpacks DictsHaveBytes
dicts-unpack no_members all = All-nil (λ c. DictsHaveBytes c.kind)
dicts-unpack (more_members name kind rest) all =
    All-cons (λ c. DictsHaveBytes c.kind) (record { name = name; kind = kind }) (member_columns rest) all.0 (dicts-unpack rest all.1)

dicts-totals : Totalled DictsHaveBytes
dicts-totals c summed is =
    let P = λ (c : Column). DictsHaveBytes c.kind in
    let count = column (c.name ++ codes "_count") (Flat (kinds.Int 64 true)) in
    let sum = column (c.name ++ codes "_sum") (Flat (kinds.Decimal 38 (scale_of c.kind) false)) in
    let least = column (c.name ++ codes "_min") c.kind in
    let most = column (c.name ++ codes "_max") c.kind in
    All-cons P count (sum ∷ least ∷ most ∷ []) tt
    (All-cons P sum (least ∷ most ∷ []) tt (All-cons P least (most ∷ []) is (All-cons P most [] is (All-nil P))))

bytes-have : (type : DataType) → is_bytes (Flat type) ≡ true → HasBytes type
bytes-have (kinds.Utf8 wide) is = tt
bytes-have (kinds.Binary wide) is = tt
bytes-have _ is = absurd (true≢false (sym is))

dicts-of : Kept DictsHaveBytes
dicts-of = record {
  packs = dicts-pack;
  unpacks = dicts-unpack;
  totals = dicts-totals;
  codes = λ type bytes is. bytes-have type bytes;
  decodes = λ type is. tt;
}

pub dicts-kept : (columns : List Column) (stage : Stage) → IsStageOver columns stage
    → All (λ c. DictsHaveBytes c.kind) columns → All (λ c. DictsHaveBytes c.kind) stage.columns
dicts-kept = stage-keeps DictsHaveBytes dicts-of

-- ---- measures

abbrev measure : (Kind → ℕ) → List Column → ℕ
measure f columns = total (map (λ c. f c.kind) columns)

-- a struct has so much more than its columns
abbrev Adds : ℕ → (Kind → ℕ) → Type 0
Adds more f = (fields : Members) → f (Columns fields) ≡ more + measure f (member_columns fields)

measure-append : (f : Kind → ℕ) (xs ys : List Column) → measure f (xs ++ ys) ≡ measure f xs + measure f ys
measure-append f [] ys = omega arith
measure-append f (x ∷ xs) ys = let e = measure-append f xs ys in omega (arith, e)

measure-cut : (f : Kind → ℕ) (columns : List Column) (place : ℕ) → place < length columns
    → measure f (take place columns) + (f (column_at columns place).kind + measure f (drop (place + 1) columns)) ≡ measure f columns
measure-cut f columns place lt =
    let joined = measure-append f (take place columns) (drop place columns) in
    let whole = ap (measure f) (take-append-drop place columns) in
    let cut = ap (measure f) (drop_more columns place no_column lt) in
    omega (arith, joined, whole, cut)

both-within : (count : ℕ) (rest picks : List ℕ) → AreWithin count rest → AreWithin count picks → AreWithin count (rest ++ picks)
both-within count [] picks a b k small = b k small
both-within count (p ∷ rest) picks a b zero small = first-within count p rest a
both-within count (p ∷ rest) picks a b (suc k) small = both-within count rest picks (rest-within count p rest a) b k (omega (arith, small))

pack-measure : (more : ℕ) (f : Kind → ℕ) → Adds more f → (name : List ℕ) (columns : List Column) (rest picks : List ℕ)
    → AreWithin (length columns) rest → AreWithin (length columns) picks → Distinct (rest ++ picks)
    → measure f (packed_columns no_column name rest picks columns) ≤ more + measure f columns
pack-measure more f adds name columns rest picks a b distinct =
    let fewer = sum-picked (λ c. f c.kind) columns (rest ++ picks) distinct (both-within (length columns) rest picks a b) in
    let both = ap (measure f) (map-append (λ (p : ℕ). get_or columns p no_column) rest picks) in
    let parts = measure-append f (picked no_column rest columns) (picked no_column picks columns) in
    let back = ap (measure f) (members-back (picked no_column picks columns)) in
    let inner = adds (members (picked no_column picks columns)) in
    let made = measure-append f (picked no_column rest columns) (record { name = name; kind = Columns (members (picked no_column picks columns)) } ∷ []) in
    omega (arith, fewer, both, parts, back, inner, made)

unpack-measure : (more : ℕ) (f : Kind → ℕ) → Adds more f → (place : ℕ) (fields : Members) (columns : List Column) → place < length columns
    → (column_at columns place).kind ≡ Columns fields → measure f (unpacked_columns place fields columns) ≤ more + measure f columns
unpack-measure more f adds place fields columns lt is =
    let cut = measure-cut f columns place lt in
    let front = measure-append f (take place columns) (member_columns fields) in
    let whole = measure-append f (take place columns ++ member_columns fields) (drop (place + 1) columns) in
    let one = ap f is ∙ adds fields in
    omega (arith, cut, front, whole, one)

-- it is as much of a dictionary as of its values
abbrev IsSameCoded : (Kind → ℕ) → Type 0
IsSameCoded f = (type : DataType) → f (Dict type) ≡ f (Flat type)

replaced-measure : (f : Kind → ℕ) (place : ℕ) (c : Column) (columns : List Column) → place < length columns → f c.kind ≡ f (column_at columns place).kind
    → measure f (replaced place c columns) ≡ measure f columns
replaced-measure f place c columns lt same =
    let cut = measure-cut f columns place lt in
    let joined = measure-append f (take place columns) (c ∷ drop (place + 1) columns) in
    omega (arith, cut, joined, same)

-- the columns after the step are columns before it, some of them under a struct or out of it, or with a dictionary or without
abbrev Moves : Step → Type 0
Moves (steps.Totals places) = ⊥
Moves _ = Unit {0}

step-measure : (more : ℕ) (f : Kind → ℕ) → Adds more f → IsSameCoded f → (columns : List Column) (step : Step) (after : List Column) → Moves step
    → FitsColumns (length columns) step → DistinctPicks step → HasColumns columns step after → measure f after ≤ more + measure f columns
step-measure more f adds coded columns (steps.Select picks) after made fits distinct has =
    let fewer = sum-picked (λ c. f c.kind) columns picks distinct fits in
    let same = ap (measure f) has in
    omega (arith, fewer, same)
step-measure more f adds coded columns (steps.Slice off len) after made fits distinct has = let same = ap (measure f) has in omega (arith, same)
step-measure more f adds coded columns (steps.Filter place test constant) after made fits distinct has = let same = ap (measure f) has.0 in omega (arith, same)
step-measure more f adds coded columns (steps.Pack rest picks) after made fits distinct (name, is) =
    let fewer = pack-measure more f adds name columns rest picks fits.0 fits.1 distinct in
    let same = ap (measure f) is in
    omega (arith, fewer, same)
step-measure more f adds coded columns (steps.Unpack place) after made fits distinct (fields, kind, is) =
    let fewer = unpack-measure more f adds place fields columns fits kind in
    let same = ap (measure f) is in
    omega (arith, fewer, same)
step-measure more f adds coded columns (steps.Dict place) after made fits distinct (type, kind, bytes, is) =
    let same = replaced-measure f place (column (column_at columns place).name (Dict type)) columns fits (coded type ∙ sym (ap f kind)) in
    let all = ap (measure f) is in
    omega (arith, same, all)
step-measure more f adds coded columns (steps.Plain place) after made fits distinct (type, kind, is) =
    let same = replaced-measure f place (column (column_at columns place).name (Flat type)) columns fits (sym (coded type) ∙ sym (ap f kind)) in
    let all = ap (measure f) is in
    omega (arith, same, all)
step-measure more f adds coded columns (steps.Totals places) after made fits distinct has = absurd made

-- ---- the columns of totals

length-totals : (columns : List Column) → length (flat_map totals_columns columns) ≡ 4 * length columns
length-totals [] = refl
length-totals (c ∷ cs) = let e = length-totals cs in let both = length-append (totals_columns c) (flat_map totals_columns cs) in omega (arith, e, both)

-- of a measure that is as much of each flat column
totals-measure : (f : Kind → ℕ) (much : ℕ) → ((type : DataType) → f (Flat type) ≡ much) → (columns : List Column) → AreSummed columns
    → measure f (flat_map totals_columns columns) ≡ much * (4 * length columns)
totals-measure f much flat [] summed = omega arith
totals-measure f much flat (c ∷ cs) summed =
    let rest = totals-measure f much flat cs (rest-of (is_summed c.kind) (list_all (λ c. is_summed c.kind) cs) summed) in
    let own = kind-measure f much flat c.kind (first-of (is_summed c.kind) (list_all (λ c. is_summed c.kind) cs) summed) in
    let both = measure-append f (totals_columns c) (flat_map totals_columns cs) in
    let count = flat (kinds.Int 64 true) in
    let sum = flat (kinds.Decimal 38 (scale_of c.kind) false) in
    let four : measure f (totals_columns c) ≡ much + (much + (much + (much + 0))) = rw (count, sum, own) refl in
    both ∙ (let e : measure f (totals_columns c) + measure f (flat_map totals_columns cs) ≡ much * (4 * suc (length cs)) =
    rw (four, rest) (omega arith) in e)
  where
    kind-measure : (f : Kind → ℕ) (much : ℕ) → ((type : DataType) → f (Flat type) ≡ much) → (kind : Kind) → is_summed kind ≡ true → f kind ≡ much
    kind-measure f much flat (Flat type) summed = flat type
    kind-measure f much flat (Dict type) summed = absurd (true≢false (sym summed))
    kind-measure f much flat (Columns fields) summed = absurd (true≢false (sym summed))

-- ---- how many columns there are

pub few-columns : (columns : List Column) (stage : Stage) → IsStageOver columns stage → length stage.columns ≤ most_columns
few-columns columns stage (text, e) =
    let held = none-fails (rules_of columns text) (record { step = step_of columns text; columns = columns_after columns text }) stage e in
    subst (λ (s : Stage). length s.columns ≤ most_columns) held.1
    (ltb-false most_columns (length (columns_after columns text)) held.0.1.1.1.1.1.0)

-- ---- leaves

leaves-add : Adds 0 leaves
leaves-add no_members = refl
leaves-add (more_members name kind rest) = let e = leaves-add rest in omega (arith, e)

moved-leaves : (columns : List Column) (step : Step) (after : List Column) → Moves step → FitsColumns (length columns) step → DistinctPicks step
    → HasColumns columns step after → measure leaves columns ≤ most_columns → measure leaves after ≤ most_columns
moved-leaves columns step after moves fits distinct has old =
    let m = step-measure 0 leaves leaves-add (λ type. refl) columns step after moves fits distinct has in omega (arith, m, old)

-- a measure of no columns but those that there were, or of few new ones
step-leaves : (columns : List Column) (step : Step) (after : List Column) → FitsColumns (length columns) step → DistinctPicks step
    → HasColumns columns step after → length after ≤ most_columns → measure leaves columns ≤ most_columns → measure leaves after ≤ most_columns
step-leaves columns (steps.Totals places) after fits distinct (summed, is) few old =
    let all = picked no_column places columns in
    let m = totals-measure leaves 1 (λ type. refl) all summed in
    let n = length-totals all in
    let same = ap (measure leaves) is in
    let as_many = ap length is in
    omega (arith, m, n, same, as_many, few)
step-leaves columns (steps.Select picks) after fits distinct has few old = moved-leaves columns (steps.Select picks) after tt fits distinct has old
step-leaves columns (steps.Slice off len) after fits distinct has few old = moved-leaves columns (steps.Slice off len) after tt fits distinct has old
step-leaves columns (steps.Filter place test constant) after fits distinct has few old =
    moved-leaves columns (steps.Filter place test constant) after tt fits distinct has old
step-leaves columns (steps.Pack rest picks) after fits distinct has few old = moved-leaves columns (steps.Pack rest picks) after tt fits distinct has old
step-leaves columns (steps.Unpack place) after fits distinct has few old = moved-leaves columns (steps.Unpack place) after tt fits distinct has old
step-leaves columns (steps.Dict place) after fits distinct has few old = moved-leaves columns (steps.Dict place) after tt fits distinct has old
step-leaves columns (steps.Plain place) after fits distinct has few old = moved-leaves columns (steps.Plain place) after tt fits distinct has old

pub leaves-kept : (columns : List Column) (stage : Stage) → IsStageOver columns stage → column_leaves columns ≤ most_columns
    → column_leaves stage.columns ≤ most_columns
leaves-kept columns stage over few =
    let old : measure leaves columns ≤ most_columns = omega (arith, few, leaves-are columns) in
    let new = step-leaves columns stage.step stage.columns (stages-fit columns stage over) (stages-distinct columns stage over)
    (stages-have columns stage over) (few-columns columns stage over) old in
    omega (arith, new, leaves-are stage.columns)

-- ---- structs

structs-are : (columns : List Column) → column_structs columns ≡ measure structs columns
structs-are [] = refl
structs-are (c ∷ cs) = let e = structs-are cs in omega (arith, e)

structs-add : Adds 1 structs
structs-add no_members = refl
structs-add (more_members name kind rest) = let e = structs-add rest in omega (arith, e)

moved-structs : (columns : List Column) (step : Step) (after : List Column) → Moves step → FitsColumns (length columns) step → DistinctPicks step
    → HasColumns columns step after → measure structs after ≤ 1 + measure structs columns
moved-structs = step-measure 1 structs structs-add (λ type. refl)

step-structs : (columns : List Column) (step : Step) (after : List Column) → FitsColumns (length columns) step → DistinctPicks step
    → HasColumns columns step after → measure structs after ≤ 1 + measure structs columns
step-structs columns (steps.Totals places) after fits distinct (summed, is) =
    let m = totals-measure structs 0 (λ type. refl) (picked no_column places columns) summed in
    let same = ap (measure structs) is in
    omega (arith, m, same)
step-structs columns (steps.Select picks) after fits distinct has = moved-structs columns (steps.Select picks) after tt fits distinct has
step-structs columns (steps.Slice off len) after fits distinct has = moved-structs columns (steps.Slice off len) after tt fits distinct has
step-structs columns (steps.Filter place test constant) after fits distinct has =
    moved-structs columns (steps.Filter place test constant) after tt fits distinct has
step-structs columns (steps.Pack rest picks) after fits distinct has = moved-structs columns (steps.Pack rest picks) after tt fits distinct has
step-structs columns (steps.Unpack place) after fits distinct has = moved-structs columns (steps.Unpack place) after tt fits distinct has
step-structs columns (steps.Dict place) after fits distinct has = moved-structs columns (steps.Dict place) after tt fits distinct has
step-structs columns (steps.Plain place) after fits distinct has = moved-structs columns (steps.Plain place) after tt fits distinct has

pub structs-kept : (columns : List Column) (stage : Stage) → IsStageOver columns stage → column_structs stage.columns ≤ 1 + column_structs columns
structs-kept columns stage over =
    let fewer = step-structs columns stage.step stage.columns (stages-fit columns stage over) (stages-distinct columns stage over)
    (stages-have columns stage over) in
    omega (arith, fewer, structs-are columns, structs-are stage.columns)
