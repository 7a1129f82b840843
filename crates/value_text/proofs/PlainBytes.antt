-- Bytes that all stand for themselves.
use Rattle.std.proofs.Common.{◌≡◌, ◌∙◌, ℕ, Bool, true, false, ◌&&◌, List, [], ◌∷◌, ◌++◌, ap, refl}
use Rattle.std.specs.List.{list_all}
use Rattle.data_types.specs.promise.ValueTexts.{byte_text, is_plain}
use Rattle.data_types.specs.ValueTexts.{bytes_text}

plain-byte : (byte : ℕ) (rest : List ℕ) → is_plain byte ≡ true → byte_text byte ++ rest ≡ byte ∷ rest
plain-byte byte rest plain = rw plain

both : (one other : Bool) → (one && other) ≡ true → (one ≡ true) × (other ≡ true)
both true other e = (refl, e)
both false other e = absurd (cc)

pub plain_bytes : (bytes : List ℕ) → list_all is_plain bytes ≡ true → bytes_text bytes ≡ bytes
plain_bytes [] all = refl
plain_bytes (byte ∷ rest) all =
    let parts = both (is_plain byte) (list_all is_plain rest) all in
    plain-byte byte (bytes_text rest) parts.0 ∙ ap (λ bytes. byte ∷ bytes) (plain_bytes rest parts.1)
