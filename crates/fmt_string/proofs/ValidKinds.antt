-- The numbers of a type that a text spells are in their ranges.
use Rattle.std.proofs.Common.{◌≡◌, ℕ, zero, suc, ◌<◌, Bool, true, false, nat_eq, List, [], ◌∷◌, length, get_or, refl, sym, ap, subst, ◌∙◌, inl, inr, arith}
use Rattle.std.specs.Prelude.{Contains, ◌⊎◌, ◌||◌}
use Rattle.std.specs.List.{list_all}
use Rattle.std.proofs.lemmas.Bool.{eqb-true}
use Rattle.data_types.specs.declared.kind.DataType.{DataType}
use Rattle.data_types.specs.declared.kind.DataType.TheVariants as kinds
use Rattle.fmt_string.specs.promise.Keywords.{Keyword, keywords, Behind}
use Rattle.fmt_string.specs.promise.Keywords.Behind.{Alone, Zone, BinarySize, ListSize, Numbers, Refused}
use Rattle.fmt_string.specs.promise.FormatString.{RestIs, FormatIs}
use Rattle.data_types.specs.Kinds.{KindOk}
use Rattle.fmt_string.proofs.Table.{and_left, and_right}

-- ---- the types that a keyword alone spells

abbrev is_valid : DataType → Bool
is_valid (kinds.Int bits signed) = nat_eq bits 8 || (nat_eq bits 16 || (nat_eq bits 32 || nat_eq bits 64))
is_valid (kinds.Float bits) = nat_eq bits 16 || (nat_eq bits 32 || nat_eq bits 64)
is_valid (kinds.FixedBinary size) = false
is_valid (kinds.FixedList size) = false
is_valid (kinds.Decimal precision scale wide) = false
is_valid _ = true

abbrev behind_valid : Behind → Bool
behind_valid (Alone kind) = is_valid kind
behind_valid _ = true

abbrev spells_valid : Keyword → Bool
spells_valid k = behind_valid k.behind

valid_table : list_all spells_valid keywords ≡ true
valid_table = refl

either : (a b : Bool) (P Q : Type 0) → (a ≡ true → P) → (b ≡ true → Q) → (a || b) ≡ true → P ⊎ Q
either true b P Q p q h = inl (p refl)
either false b P Q p q h = inr (q h)

valid_is : (kind : DataType) → is_valid kind ≡ true → KindOk kind
valid_is (kinds.Int bits signed) h =
    either (nat_eq bits 8) _ (bits ≡ 8) _ (eqb-true bits 8)
    (either (nat_eq bits 16) _ (bits ≡ 16) _ (eqb-true bits 16) (either (nat_eq bits 32) _ (bits ≡ 32) _ (eqb-true bits 32) (eqb-true bits 64))) h
valid_is (kinds.Float bits) h =
    either (nat_eq bits 16) _ (bits ≡ 16) _ (eqb-true bits 16) (either (nat_eq bits 32) _ (bits ≡ 32) _ (eqb-true bits 32) (eqb-true bits 64)) h
valid_is (kinds.FixedBinary size) h = absurd cc
valid_is (kinds.FixedList size) h = absurd cc
valid_is (kinds.Decimal precision scale wide) h = absurd cc
valid_is _ h = tt

passes : (test : Keyword → Bool) (ks : List Keyword) (i : ℕ) (d : Keyword) → list_all test ks ≡ true → i < length ks → test (get_or ks i d) ≡ true
passes test [] i d all lt = absurd (omega arith)
passes test (k ∷ ks) zero d all lt = and_left (test k) (list_all test ks) all
passes test (k ∷ ks) (suc i) d all lt = passes test ks i d (and_right (test k) (list_all test ks) all) (omega arith)

alone_valid : (word : List ℕ) (kind : DataType) → Contains keywords (record { word = word; behind = Alone kind }) → KindOk kind
alone_valid word kind known =
    let key : Keyword = record { word = word; behind = Alone kind } in
    valid_is kind (ap spells_valid (sym known.2) ∙ passes spells_valid keywords known.0 key valid_table known.1)

-- ---- any type

rest_valid : (word : List ℕ) (behind : Behind) (rest : List ℕ) (kind : DataType) → Contains keywords (record { word = word; behind = behind })
    → RestIs behind rest kind → KindOk kind
rest_valid word (Alone own) rest kind known is = subst KindOk (sym is.1) (alone_valid word own known)
rest_valid word (Zone tick) rest kind known is = subst KindOk (sym is) tt
rest_valid word BinarySize rest kind known is = subst KindOk (sym is.3) is.1
rest_valid word ListSize rest kind known is = subst KindOk (sym is.3) is.1
rest_valid word Numbers rest kind known is = subst KindOk (sym is.is) (is.at_least, is.at_most, is.fits)
rest_valid word Refused rest kind known is = absurd is

pub format_valid : (text : List ℕ) (kind : DataType) → FormatIs text kind → KindOk kind
format_valid text kind is = rest_valid is.key.word is.key.behind is.rest kind is.known is.completed
