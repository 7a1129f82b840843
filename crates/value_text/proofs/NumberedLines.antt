-- A line of four pieces.
use Rattle.std.proofs.Common.{◌≡◌, ◌∙◌, ℕ, List, [], ◌∷◌, ◌++◌, Result, Ok, Err, OnOk, ap, append_assoc}
use Rattle.unit_pass.specs.declared.no_memory.NoMemory.{NoMemory}

pub numbered-appended : (r : Result (Unit {0}) NoMemory) (old one two three new number value : List ℕ) → one ≡ old ++ number → two ≡ one ++ 32 ∷ []
    → three ≡ two ++ value → OnOk r (new ≡ three ++ 10 ∷ []) → OnOk r (new ≡ old ++ (number ++ (32 ∷ [] ++ (value ++ 10 ∷ []))))
numbered-appended (Ok done) old one two three new number value a b c d =
    d ∙ ap (λ t. t ++ 10 ∷ []) (c ∙ ap (λ t. t ++ value) (b ∙ ap (λ t. t ++ 32 ∷ []) a)) ∙ simp append_assoc
numbered-appended (Err fault) old one two three new number value a b c d = tt
