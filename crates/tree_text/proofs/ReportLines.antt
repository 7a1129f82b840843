-- A report's line, written part by part.
use Rattle.std.proofs.Common.{◌≡◌, ℕ, List, [], ◌∷◌, ◌++◌, ap, refl, ◌∙◌}

counts_joined : (token length nulls : List ℕ) → ((token ++ (32 ∷ length)) ++ (32 ∷ nulls)) ++ (10 ∷ []) ≡ (token ++ (32 ∷ (length ++ (32 ∷ nulls))))
    ++ (10 ∷ [])
counts_joined [] length nulls = refl
counts_joined (c ∷ token) length nulls = ap (λ (t : List ℕ). c ∷ t) (counts_joined token length nulls)

parts_joined : (text way token length nulls : List ℕ) → (((((text ++ way) ++ (32 ∷ [])) ++ token) ++ (32 ∷ length)) ++ (32 ∷ nulls)) ++ (10 ∷ [])
    ≡ text ++ ((way ++ (32 ∷ (token ++ (32 ∷ (length ++ (32 ∷ nulls)))))) ++ (10 ∷ []))
parts_joined [] [] token length nulls = ap (λ (t : List ℕ). 32 ∷ t) (counts_joined token length nulls)
parts_joined [] (c ∷ way) token length nulls = ap (λ (t : List ℕ). c ∷ t) (parts_joined [] way token length nulls)
parts_joined (c ∷ text) way token length nulls = ap (λ (t : List ℕ). c ∷ t) (parts_joined text way token length nulls)

pub line_written : (text way token length nulls with_way with_space with_token with_length with_nulls whole : List ℕ)
    → with_way ≡ text ++ way → with_space ≡ with_way ++ (32 ∷ []) → with_token ≡ with_space ++ token → with_length ≡ with_token ++ (32 ∷ length)
    → with_nulls ≡ with_length ++ (32 ∷ nulls) → whole ≡ with_nulls ++ (10 ∷ [])
    → whole ≡ text ++ ((way ++ (32 ∷ (token ++ (32 ∷ (length ++ (32 ∷ nulls)))))) ++ (10 ∷ []))
line_written text way token length nulls with_way with_space with_token with_length with_nulls whole a b c d e f =
    f ∙ ap (λ (t : List ℕ). t ++ (10 ∷ [])) (e ∙ ap (λ (t : List ℕ). t ++ (32 ∷ nulls)) (d ∙ ap (λ (t : List ℕ). t ++ (32 ∷ length))
    (c ∙ ap (λ (t : List ℕ). t ++ token) (b ∙ ap (λ (t : List ℕ). t ++ (32 ∷ [])) a))))
    ∙ parts_joined text way token length nulls
