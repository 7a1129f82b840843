use Rattle.std.proofs.Common.{◌≡◌, ℕ, Bool, true, false, List, refl, sym, inl, inr}
use Rattle.std.proofs.lemmas.Bool.{cases_Bool, false≢true}
use Rattle.std.proofs.lemmas.Str.{IsUtf8-from_is_utf8, is_utf8-from_IsUtf8}
use Rattle.std.specs.Prelude.{◌↔◌, IsTrue, IsUtf8}
use Rattle.std.specs.Str.{is_utf8}
use Rattle.col_build.proofs.text.is_text_by_blocks.Goals as goal

-- a test of whether bytes are UTF-8 answers as the definition
same : (found : Bool) (bytes : List ℕ) → (IsTrue found ↔ IsUtf8 bytes) → found ≡ is_utf8 bytes
same true bytes means = sym (is_utf8-from_IsUtf8 bytes (means.0 refl))
same false bytes means = elim (cases_Bool (is_utf8 bytes)) [
  | inl text ↦ absurd (false≢true (means.1 (IsUtf8-from_is_utf8 bytes text)))
  | inr other ↦ sym other
]

pub returns : goal.returns
returns c = same c.is_utf8.result c.args.bytes.now c.is_utf8.ensures
