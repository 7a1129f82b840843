-- Bytes spell pairs or have a first fault.
use Rattle.std.proofs.Common.{◌≡◌, ◌⊎◌, inl, inr, ◌∙◌, ℕ, zero, suc, ◌+◌, ◌-◌, ◌^◌, ◌<◌, ◌≤◌, List, [], ◌∷◌}
use Rattle.std.proofs.Common.{◌++◌, length, take, drop, None, Result, Ok, Err, refl, ap, append_assoc, arith}
use Rattle.std.specs.Int.{w32, from_le_bytes}
use Rattle.std.proofs.lemmas.Bool.{cases_lt}
use Rattle.schema_meta.specs.declared.fault.MetaFault.{MetaFault}
use Rattle.schema_meta.specs.declared.fault.MetaFault.TheVariants.{Short, Negative, Trailing}
use Rattle.schema_meta.specs.declared.pair.Pair.{Pair}
use Rattle.schema_meta.specs.promise.Meta.{Begun, BegunFits, IsCount, IsNumber, IsPlace, MetaFaultIs, PairFits, Place}
use Rattle.schema_meta.specs.Meta.{Reads}
use Rattle.schema_meta.specs.promise.Meta.{begun_text, number, pair, size, text}
use Rattle.schema_meta.specs.Meta.{pair_of}
use Rattle.schema_meta.specs.promise.Meta.Place.{AtCount, AtLength, AtText}
use Rattle.schema_meta.proofs.Numbers.{IsBytes, number_at_place}
use Rattle.schema_meta.proofs.Places.{StandsAt, TextRead, grown, negative_here, short_here, text_read, with_key, with_key_fits, with_key_read}
use Rattle.schema_meta.proofs.Loop.{ReadSoFar, at_start, begun, begun_fits, begun_split, one_more, trailing_here, whole}
use Rattle.tree_text.specs.promise.TreeText.{AreBytes}

bytes-are : (bytes : List ℕ) → AreBytes bytes → IsBytes bytes
bytes-are [] all i = omega arith
bytes-are (b ∷ bytes) all zero = all.0
bytes-are (b ∷ bytes) all (suc i) = bytes-are bytes all.1 i

four : (here : Place) → IsNumber here → size here ≡ 4
four AtCount is = refl
four (AtLength b) is = refl
four (AtText b len) is = absurd is

module _ (bytes : List ℕ) (fits : IsBytes bytes) where
  -- the number at a place
  record NumberFound (at n : ℕ) : Type 0 where
    count : IsCount n
    within : at + 4 ≤ length bytes
    split : drop at bytes ≡ number n ++ drop (at + 4) bytes

  abbrev NumberFault : ℕ → MetaFault → Type 0
  NumberFault at f = (here : Place) → IsPlace here → IsNumber here → StandsAt bytes at here → MetaFaultIs bytes f

  some-number : (at : ℕ) → at ≤ length bytes → ((n : ℕ) × NumberFound at n) ⊎ ((f : MetaFault) × NumberFault at f)
  some-number at within = go (cases_lt (length bytes) (at + 4))
    where
      n : ℕ
      n = from_le_bytes w32 (take 4 (drop at bytes))

      sized : at + 4 ≤ length bytes → (n < 2 ^ 31) ⊎ (2 ^ 31 ≤ n) → ((n : ℕ) × NumberFound at n) ⊎ ((f : MetaFault) × NumberFault at f)
      sized long (inl small) = inl (n, record { count = small; within = long; split = number_at_place bytes at n fits long refl })
      sized long (inr big) = inr (Negative at, λ here proper is split. negative_here bytes at here long big proper is split)

      go : (length bytes < at + 4) ⊎ (at + 4 ≤ length bytes) → ((n : ℕ) × NumberFound at n) ⊎ ((f : MetaFault) × NumberFault at f)
      go (inl short) = inr (Short at, λ here proper is split. short_here bytes at here within (omega (arith, short, four here is)) proper split)
      go (inr long) = sized long (cases_lt n (2 ^ 31))

  -- the key or value at a place, and the place behind it
  record TextFound (at next : ℕ) (t : List ℕ) : Type 0 where
    count : IsCount (length t)
    within : next ≤ length bytes
    split : drop at bytes ≡ text t ++ drop next bytes

  abbrev TextFault : ℕ → MetaFault → Type 0
  TextFault at f = (b : Begun) → BegunFits b → bytes ≡ begun_text b ++ drop at bytes → MetaFaultIs bytes f

  abbrev SomeText : ℕ → Type 0
  SomeText at = ((t : List ℕ) × (next : ℕ) × TextFound at next t) ⊎ ((f : MetaFault) × TextFault at f)

  some-text : (at : ℕ) → at ≤ length bytes → SomeText at
  some-text at within = go (some-number at within)
    where
      long : (n : ℕ) → NumberFound at n → (length bytes < at + 4 + n) ⊎ (at + 4 + n ≤ length bytes) → SomeText at
      long n found (inl short) =
          inr (
            Short (at + 4),
            λ b proper split.
                short_here bytes (at + 4) (AtText b n) found.within short (proper, found.count)
                (grown bytes (begun_text b) (number n) at (at + 4) split found.split),
          )
      long n found (inr fit) =
          let t = take ((at + 4 + n) - (at + 4)) (drop (at + 4) bytes) in
          let r : TextRead bytes at n t = text_read bytes at n t fit found.split refl in
          let count = found.count in
          inl (t, at + 4 + n, record { count = omega (arith, r.len, count); within = fit; split = r.split })

      go : ((n : ℕ) × NumberFound at n) ⊎ ((f : MetaFault) × NumberFault at f) → SomeText at
      go (inl found) = long found.0 found.1 (cases_lt (length bytes) (at + 4 + found.0))
      go (inr fault) = inr (fault.0, λ b proper split. fault.1 (AtLength b) proper tt split)

  -- the pair at a place, and the place behind it
  record PairFound (at next : ℕ) (p : Pair) : Type 0 where
    proper : PairFits p
    within : next ≤ length bytes
    split : drop at bytes ≡ pair p ++ drop next bytes

  abbrev PairFault : ℕ → MetaFault → Type 0
  PairFault at f = (b : Begun) → BegunFits b → b.key ≡ None → bytes ≡ begun_text b ++ drop at bytes → MetaFaultIs bytes f

  abbrev SomePair : ℕ → Type 0
  SomePair at = ((p : Pair) × (next : ℕ) × PairFound at next p) ⊎ ((f : MetaFault) × PairFault at f)

  some-pair : (at : ℕ) → at ≤ length bytes → SomePair at
  some-pair at within = first (some-text at within)
    where
      second : (key : List ℕ) (middle : ℕ) → TextFound at middle key → SomeText middle → SomePair at
      second key middle found (inl behind) =
          let value = behind.0 in
          let next = behind.1 in
          let rest = behind.2 in
          inl (
            pair_of key value,
            next,
            record {
              proper = record { key = found.count; value = rest.count };
              within = rest.within;
              split = found.split ∙ ap (λ (x : List ℕ). text key ++ x) rest.split ∙ simp append_assoc;
            },
          )
      second key middle found (inr fault) =
          inr (
            fault.0,
            λ b proper none split.
                fault.1 (with_key b key) (with_key_fits b key proper found.count) (with_key_read bytes b key at middle none split found.split),
          )

      first : SomeText at → SomePair at
      first (inl found) = second found.0 found.1 found.2 (some-text found.1 found.2.within)
      first (inr fault) = inr (fault.0, λ b proper none split. fault.1 b proper split)

  -- the pairs from one on, this many of which are left
  abbrev Some : Type 0
  Some = (read : Result (List Pair) MetaFault) × Reads bytes read

  ended-if : (count at i : ℕ) (done : List Pair) → i ≡ count → ReadSoFar bytes count at i done → (at < length bytes) ⊎ (length bytes ≤ at) → Some
  ended-if count at i done all so_far (inl more) = (Err (Trailing at), trailing_here bytes count at i done so_far all more)
  ended-if count at i done all so_far (inr ended) = (Ok done, whole bytes count at i done so_far all ended)

  pair-if : (count at i : ℕ) (done : List Pair) → i < count → ReadSoFar bytes count at i done → SomePair at
      → ((next : ℕ) (p : Pair) → ReadSoFar bytes count next (i + 1) (done ++ p ∷ []) → Some) → Some
  pair-if count at i done more so_far (inl found) on =
      on found.1 found.0 (one_more bytes count at found.1 i done found.0 so_far found.2.proper found.2.within found.2.split)
  pair-if count at i done more so_far (inr fault) on =
      (Err fault.0, fault.1 (begun count done) (begun_fits bytes count at i done so_far more) refl (begun_split bytes count at i done so_far))

  some-pairs : (left count at i : ℕ) (done : List Pair) → i + left ≡ count → ReadSoFar bytes count at i done → Some
  some-pairs zero count at i done all so_far = ended-if count at i done (omega (arith, all)) so_far (cases_lt at (length bytes))
  some-pairs (suc left) count at i done all so_far =
      pair-if count at i done (omega (arith, all)) so_far (some-pair at so_far.within)
      (λ next p further. some-pairs left count next (i + 1) (done ++ p ∷ []) (omega (arith, all)) further)

  some-pairs-if : ((n : ℕ) × NumberFound 0 n) ⊎ ((f : MetaFault) × NumberFault 0 f) → Some
  some-pairs-if (inl found) =
      some-pairs found.0 found.0 4 0 [] (omega arith) (at_start bytes found.0 [] refl found.1.count found.1.within found.1.split)
  some-pairs-if (inr fault) = (Err fault.0, fault.1 AtCount tt tt refl)

pub some-meta : (bytes : List ℕ) → AreBytes bytes → (read : Result (List Pair) MetaFault) × Reads bytes read
some-meta bytes all = some-pairs-if bytes (bytes-are bytes all) (some-number bytes (bytes-are bytes all) 0 (omega arith))
