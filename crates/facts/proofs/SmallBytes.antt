-- Lists of bytes that are written down, tested by computing.
use Rattle.std.proofs.Common.{◌≡◌, ℕ, true, List, [], ◌∷◌}
use Rattle.std.specs.Prelude.{◌&&◌, nat_lt}
use Rattle.std.specs.List.{list_all}
use Rattle.std.proofs.lemmas.Bool.{ltb-true, cases_Bool, false≢true}
use Rattle.std.proofs.Common.{inl, inr, sym, ◌∙◌, ap}
use Rattle.tree_text.specs.promise.TreeText.{AreBytes}

pub are_bytes : (bytes : List ℕ) → list_all (λ byte. nat_lt byte 256) bytes ≡ true → AreBytes bytes
are_bytes [] all = tt
are_bytes (byte ∷ bytes) all = elim (cases_Bool (nat_lt byte 256)) [
  | inl small ↦ (ltb-true byte 256 small, are_bytes bytes (sym (ap (λ b. b && list_all (λ c. nat_lt c 256) bytes) small) ∙ all))
  | inr large ↦ absurd (false≢true (sym (ap (λ b. b && list_all (λ c. nat_lt c 256) bytes) large) ∙ all))
]
