-- Bytes that are lent.
use Rattle.std.specs.Prelude.{ℕ, List, Option, None, Some}
use denote.Ref.{Bor}

abbrev pub lent_bytes : Option (Bor (List ℕ)) → Option (List ℕ)
lent_bytes None = None
lent_bytes (Some bytes) = Some bytes.now
