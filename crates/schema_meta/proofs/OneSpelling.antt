-- Pairs have one spelling, or one pair that has none, and not both.
use Rattle.std.proofs.Common.{◌≡◌, ◌≢◌, ℕ, zero, suc, ◌<◌, List, [], ◌∷◌, take, Result, Ok, Err, inl, inr, sym, ap, ◌∙◌, arith}
use Rattle.std.specs.Prelude.{IfSome, IfOk, IfErr, slice_get, Vec}
use Rattle.std.specs.Global.{Global}
use Rattle.std.specs.List.{AllByRecursion}
use Rattle.std.proofs.lemmas.Bool.{cases_lt}
use Rattle.schema_meta.specs.declared.pair.Pair.{Pair}
use Rattle.schema_meta.specs.declared.fault.MetaWriteFault.{MetaWriteFault}
use Rattle.schema_meta.specs.declared.fault.MetaWriteFault.TheVariants.{TooLong, NoMemory}
use Rattle.schema_meta.specs.promise.Meta.{PairFits, MetaIs}
use Rattle.schema_meta.specs.Meta.{TooLongIs, MetaWriteFaultIs, Writes, GivesBytes}

fits_before : (ps : List Pair) (i j : ℕ) → i < j → AllByRecursion PairFits (take j ps) → IfSome (slice_get ps i) PairFits
fits_before [] i j lt fit = tt
fits_before (p ∷ ps) i zero lt fit = absurd (omega (arith, lt))
fits_before (p ∷ ps) zero (suc j) lt fit = fit.0
fits_before (p ∷ ps) (suc i) (suc j) lt fit = fits_before ps i j (omega (arith, lt)) fit.1

fits_at : (ps : List Pair) (i : ℕ) → AllByRecursion PairFits ps → IfSome (slice_get ps i) PairFits
fits_at [] i fit = tt
fits_at (p ∷ ps) zero fit = fit.0
fits_at (p ∷ ps) (suc i) fit = fits_at ps i fit.1

not_both : (ps : List Pair) (bytes : List ℕ) (i : ℕ) → MetaIs bytes ps → TooLongIs ps i → ⊥
not_both ps bytes i m long = elim long.why [
  | inl last ↦ omega (arith, last, long.here, m.count)
  | inr unfit ↦ unfit (fits_at ps i m.pairs)
]

not_before : (ps : List Pair) (i j : ℕ) → TooLongIs ps i → TooLongIs ps j → i < j → ⊥
not_before ps i j first second lt = elim first.why [
  | inl last ↦ omega (arith, last, lt, second.counted)
  | inr unfit ↦ unfit (fits_before ps i j lt second.before)
]

one_place : (ps : List Pair) (i j : ℕ) → TooLongIs ps i → TooLongIs ps j → i ≡ j
one_place ps i j first second = elim (cases_lt i j) [
  | inl lt ↦ absurd (not_before ps i j first second lt)
  | inr le ↦ elim (cases_lt j i) [
    | inl lt ↦ absurd (not_before ps j i second first lt)
    | inr ge ↦ omega (arith, le, ge)
  ]
]

pub one_spelling : (ps : List Pair) (result : Result (Vec ℕ Global) MetaWriteFault) → IfOk result (λ v. MetaIs v.items ps)
    → IfErr result (λ f. f ≢ NoMemory → MetaWriteFaultIs ps f)
    → (written : Result (List ℕ) MetaWriteFault) → Writes ps written → GivesBytes result written
one_spelling ps (Ok v) found fault (Ok bytes) is = ap Ok (is.spelled ∙ sym found.spelled)
one_spelling ps (Ok v) found fault (Err (TooLong i)) is = absurd (not_both ps v.items i found is)
one_spelling ps (Ok v) found fault (Err NoMemory) is = absurd is
one_spelling ps (Err NoMemory) found fault written is = tt
one_spelling ps (Err (TooLong i)) found fault (Ok bytes) is = absurd (not_both ps bytes i is (fault (λ e. cc)))
one_spelling ps (Err (TooLong i)) found fault (Err (TooLong j)) is = ap (λ (k : ℕ). Err (TooLong k)) (one_place ps j i is (fault (λ e. cc)))
one_spelling ps (Err (TooLong i)) found fault (Err NoMemory) is = absurd is
