-- Worked parts of texts.
use Rattle.std.proofs.Common.{◌≡◌, refl, codes, [], ◌∷◌}
use Rattle.stage_plan.specs.promise.Types.{parts}

two_entries : parts (codes "a:l;b:u") ≡ codes "a:l" ∷ codes "b:u" ∷ []
two_entries = refl

-- no text is one part, which has no `:`
no_text : parts [] ≡ [] ∷ []
no_text = refl

-- a `;` at the end has a part behind it
last_is_empty : parts (codes "a:l;") ≡ codes "a:l" ∷ [] ∷ []
last_is_empty = refl
