-- The types of the columns after a stage are in their ranges.
use Rattle.std.proofs.Common.{◌+◌, ℕ, zero, suc, List, [], ◌∷◌, ◌++◌, map, get_or, take, drop, refl, arith, rules, inr}
use Rattle.std.specs.Int.{w32}
use Rattle.std.specs.Prelude.{All, FitsSigned, pos}
use Rattle.std.specs.List.{AllByRecursion, flat_map}
use Rattle.data_types.specs.ColumnForms.{KindsOk, MembersOk}
use Rattle.data_types.specs.promise.ColumnView.{members}
use Rattle.data_types.specs.ColumnView.{column_of, kind_of}
use Rattle.data_types.specs.promise.Parts.{member_columns, picked}
use Rattle.data_types.specs.promise.Table.{Column, Kind, Flat, Dict, Columns, Members, no_members, more_members}
use Rattle.data_types.specs.declared.kind.ColumnType.{ColumnType}
use Rattle.data_types.specs.declared.kind.DataType.TheVariants as kinds
use Rattle.stage_model.specs.promise.Typing.{column_named, columns_after, columns_named, dict_kind, no_column, place_of, places_of, plain_kind, rest_of, scale_of}
use Rattle.stage_model.specs.promise.Typing.{struct_members, totals_columns}
use Rattle.stage_model.specs.declared.stage.StageText.{StageText}
use Rattle.stage_model.specs.declared.stage.StageText.TheVariants as texts

abbrev pub AreFit : List Column → Type 0
AreFit columns = AllByRecursion (λ c. KindsOk c.kind) columns

pub fit : (columns : List ColumnType) → All (λ c. KindsOk (kind_of c.kind)) columns → AreFit (map column_of columns)
fit [] all = tt
fit (c ∷ cs) all = (all zero c (omega arith), fit cs (λ k d within. all (suc k) d (omega (arith, within))))

pub fit-back : (columns : List ColumnType) → AreFit (map column_of columns) → All (λ c. KindsOk (kind_of c.kind)) columns
fit-back [] all k d within = absurd (omega (arith, within))
fit-back (c ∷ cs) all zero d within = all.0
fit-back (c ∷ cs) all (suc k) d within = fit-back cs all.1 k d (omega (arith, within))

-- ---- parts of columns

append-fit : (a b : List Column) → AreFit a → AreFit b → AreFit (a ++ b)
append-fit [] b p q = q
append-fit (x ∷ a) b p q = (p.0, append-fit a b p.1 q)

take-fit : (n : ℕ) (a : List Column) → AreFit a → AreFit (take n a)
take-fit zero a p = tt
take-fit (suc n) [] p = tt
take-fit (suc n) (x ∷ a) p = (p.0, take-fit n a p.1)

drop-fit : (n : ℕ) (a : List Column) → AreFit a → AreFit (drop n a)
drop-fit zero a p = p
drop-fit (suc n) [] p = tt
drop-fit (suc n) (x ∷ a) p = drop-fit n a p.1

one-fit : (a : List Column) (n : ℕ) → AreFit a → KindsOk (get_or a n no_column).kind
one-fit [] n p = tt
one-fit (x ∷ a) zero p = p.0
one-fit (x ∷ a) (suc n) p = one-fit a n p.1

picked-fit : (a : List Column) (places : List ℕ) → AreFit a → AreFit (picked no_column places a)
picked-fit a [] p = tt
picked-fit a (n ∷ ns) p = (one-fit a n p, picked-fit a ns p)

members-fit : (a : List Column) → AreFit a → MembersOk (members a)
members-fit [] p = tt
members-fit (c ∷ a) p = (p.0, members-fit a p.1)

columns-fit : (m : Members) → MembersOk m → AreFit (member_columns m)
columns-fit no_members p = tt
columns-fit (more_members name kind rest) p = (p.0, columns-fit rest p.1)

-- ---- kinds

struct-fit : (k : Kind) → KindsOk k → MembersOk (struct_members k)
struct-fit (Flat type) ok = tt
struct-fit (Dict type) ok = tt
struct-fit (Columns fields) ok = ok

dict-fit : (k : Kind) → KindsOk k → KindsOk (dict_kind k)
dict-fit (Flat type) ok = ok
dict-fit (Dict type) ok = ok
dict-fit (Columns fields) ok = ok

plain-fit : (k : Kind) → KindsOk k → KindsOk (plain_kind k)
plain-fit (Flat type) ok = ok
plain-fit (Dict type) ok = ok
plain-fit (Columns fields) ok = ok

zero-fits : FitsSigned w32 (pos 0)
zero-fits = search (rules, arith)

scale-fit : (k : Kind) → KindsOk k → FitsSigned w32 (scale_of k)
scale-fit (Flat (kinds.Decimal precision scale wide)) ok = ok.2
scale-fit (Flat _) ok = zero-fits
scale-fit (Dict type) ok = zero-fits
scale-fit (Columns fields) ok = zero-fits

-- ---- columns after a stage

totals-fit : (c : Column) → KindsOk c.kind → AreFit (totals_columns c)
totals-fit c ok = (inr (inr (inr refl)), ((omega arith, omega arith, scale-fit c.kind ok), (ok, (ok, tt))))

all-totals : (cs : List Column) → AreFit cs → AreFit (flat_map totals_columns cs)
all-totals [] p = tt
all-totals (c ∷ cs) p = append-fit (totals_columns c) (flat_map totals_columns cs) (totals-fit c p.0) (all-totals cs p.1)

put-fit : (a : List Column) (n : ℕ) (c : Column) → AreFit a → KindsOk c.kind → AreFit (take n a ++ c ∷ drop (n + 1) a)
put-fit a n c p ok = append-fit (take n a) (c ∷ drop (n + 1) a) (take-fit n a p) (ok, drop-fit (n + 1) a p)

pub after-fit : (columns : List Column) (text : StageText) → AreFit columns → AreFit (columns_after columns text)
after-fit columns (texts.Select names) p = picked-fit columns (places_of columns names) p
after-fit columns (texts.Drop names) p = picked-fit columns (rest_of columns names) p
after-fit columns (texts.Slice off len) p = p
after-fit columns (texts.Filter name test constant) p = p
after-fit columns (texts.Pack made names) p =
    append-fit (picked no_column (rest_of columns names) columns) _ (picked-fit columns (rest_of columns names) p)
    (members-fit (columns_named columns names) (picked-fit columns (places_of columns names) p), tt)
after-fit columns (texts.Unpack name) p =
    let place = place_of columns name in
    let fields = struct_members (column_named columns name).kind in
    append-fit (take place columns ++ member_columns fields) (drop (place + 1) columns)
    (append-fit (take place columns) (member_columns fields) (take-fit place columns p)
    (columns-fit fields (struct-fit (column_named columns name).kind (one-fit columns place p))))
    (drop-fit (place + 1) columns p)
after-fit columns (texts.Dict name) p =
    put-fit columns (place_of columns name) _ p (dict-fit (column_named columns name).kind (one-fit columns (place_of columns name) p))
after-fit columns (texts.Plain name) p =
    put-fit columns (place_of columns name) _ p (plain-fit (column_named columns name).kind (one-fit columns (place_of columns name) p))
after-fit columns (texts.Totals names) p = all-totals (columns_named columns names) (picked-fit columns (places_of columns names) p)
