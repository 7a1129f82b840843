-- The bytes that a token's text spells, one after another.
use Rattle.std.proofs.Common.{◌≡◌, ℕ, ◌+◌, ◌<◌, true, false, List, [], ◌∷◌, ◌++◌, length, drop, get_or, Option, Some, None, refl}
use Rattle.std.proofs.Common.{sym, ap, arith, append_assoc, add-one, drop-cons}
use Rattle.tree_text.specs.promise.TreeText.{is_plain}
use Rattle.tree_text.specs.promise.Standing.{read_escape, onto, read_bytes}

-- bytes that were read before others
abbrev pub before : List ℕ → Option (List ℕ) → Option (List ℕ)
before done None = None
before done (Some bytes) = Some (done ++ bytes)

pub read_plain : (c : ℕ) (rest : List ℕ) → is_plain c ≡ true → read_bytes (c ∷ rest) ≡ onto (Some c) (read_bytes rest)
read_plain c [] own = rw own refl
read_plain c (d ∷ []) own = rw own refl
read_plain c (d ∷ e ∷ rest) own = rw own refl

pub read_short : (c : ℕ) (rest : List ℕ) → is_plain c ≡ false → length rest < 2 → read_bytes (c ∷ rest) ≡ None
read_short c [] other short = rw other refl
read_short c (d ∷ []) other short = rw other refl
read_short c (d ∷ e ∷ rest) other short = absurd (omega (arith, short))

pub read_escaped : (c d e : ℕ) (rest : List ℕ) → is_plain c ≡ false → read_bytes (c ∷ d ∷ e ∷ rest) ≡ onto (read_escape c d e) (read_bytes rest)
read_escaped c d e rest other = rw other refl

pub before_more : (done : List ℕ) (byte : ℕ) (rest : Option (List ℕ)) → before done (onto (Some byte) rest) ≡ before (done ++ byte ∷ []) rest
before_more done byte None = refl
before_more done byte (Some bytes) = ap (λ (xs : List ℕ). Some xs) (sym (append_assoc done (byte ∷ []) bytes))

pub front : (text : List ℕ) (at : ℕ) → at < length text → drop at text ≡ get_or text at 0 ∷ drop (at + 1) text
front text at inside = rw add-one (drop-cons text at 0 inside)
