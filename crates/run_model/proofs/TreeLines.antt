-- The lines of faults of trees, from their pieces.
use Rattle.std.proofs.Common.{ℕ, ◌≡◌, ◌<◌, ◌+◌, ◌++◌, ◌∷◌, ◌∙◌, List, [], ap, sym, length}
use Rattle.std.proofs.Common.{take, drop, get_or, take-append-drop, append_assoc, append-nil, codes, decimal}
use Rattle.std.specs.List.{flat_map}
use Rattle.std.proofs.lemmas.List.{take_more}
use Rattle.std.proofs.lemmas.Grind.{flat_map-append}
use Rattle.data_types.specs.WayTexts.{step_text}
use Rattle.tree_text.specs.promise.FaultTexts.{text_fault_text}
use Rattle.tree_text.specs.declared.fault.TextFault.TheVariants as texts
use Rattle.run_model.specs.Diagnostics.{line_of}

-- ---- the line of a text
pub text-line : (number : ℕ) (digits : List ℕ) → digits ≡ decimal number
    → codes "arrowpipe: tree line " ++ (digits ++ codes ": not expected\n") ≡ line_of (text_fault_text (texts.Line number))
text-line number digits is =
    ap (λ d. codes "arrowpipe: tree line " ++ (d ++ codes ": not expected\n")) is
    ∙ ap (λ t. codes "arrowpipe: tree line " ++ t) (sym (append_assoc (decimal number) (codes ": not expected") (codes "\n")))

-- ---- the lines of nodes
pub behind-way : (front way rest feed : List ℕ) → (front ++ way) ++ (rest ++ feed) ≡ (front ++ (way ++ rest)) ++ feed
behind-way front way rest feed = simp append_assoc

schema-pieces : (front tree way colon rule feed : List ℕ)
    → ((front ++ tree) ++ way) ++ (colon ++ (rule ++ feed)) ≡ (front ++ (((tree ++ way) ++ colon) ++ rule)) ++ feed
schema-pieces front tree way colon rule feed = simp append_assoc

pub schema-line : (way given rule : List ℕ) → given ≡ rule
    → (codes "arrowpipe: tree " ++ way) ++ (codes ": schema: " ++ (given ++ codes "\n")) ≡ line_of (codes "tree " ++ way ++ codes ": schema: " ++ rule)
schema-line way given rule is =
    ap (λ r. (codes "arrowpipe: tree " ++ way) ++ (codes ": schema: " ++ (r ++ codes "\n"))) is
    ∙ schema-pieces (codes "arrowpipe: ") (codes "tree ") way (codes ": schema: ") rule (codes "\n")

numbers-apart : (b0 b1 b2 b3 b4 b5 b6 b7 b8 : List ℕ) → b0 ++ (b1 ++ (b2 ++ (b3 ++ (b4 ++ (b5 ++ (b6 ++ (b7 ++ b8)))))))
    ≡ b0 ++ b1 ++ b2 ++ b3 ++ b4 ++ b5 ++ b6 ++ b7 ++ b8
numbers-apart b0 b1 b2 b3 b4 b5 b6 b7 b8 = simp append_assoc

-- the rule, its place and its numbers
pub number-pieces : (rule place left right : List ℕ) (a b c d : List ℕ) → a ≡ rule → b ≡ place → c ≡ left → d ≡ right
    → codes ": " ++ (a ++ (codes " at " ++ (b ++ (codes ": " ++ (c ++ (codes ", " ++ (d ++ codes "\n")))))))
    ≡ codes ": " ++ rule ++ codes " at " ++ place ++ codes ": " ++ left ++ codes ", " ++ right ++ codes "\n"
number-pieces rule place left right a b c d ra pb lc rd =
    ap (λ x. codes ": " ++ (x ++ (codes " at " ++ (b ++ (codes ": " ++ (c ++ (codes ", " ++ (d ++ codes "\n")))))))) ra
    ∙ ap (λ x. codes ": " ++ (rule ++ (codes " at " ++ (x ++ (codes ": " ++ (c ++ (codes ", " ++ (d ++ codes "\n")))))))) pb
    ∙ ap (λ x. codes ": " ++ (rule ++ (codes " at " ++ (place ++ (codes ": " ++ (x ++ (codes ", " ++ (d ++ codes "\n")))))))) lc
    ∙ ap (λ x. codes ": " ++ (rule ++ (codes " at " ++ (place ++ (codes ": " ++ (left ++ (codes ", " ++ (x ++ codes "\n")))))))) rd
    ∙ numbers-apart (codes ": ") rule (codes " at ") place (codes ": ") left (codes ", ") right (codes "\n")

layout-pieces : (front tree way b0 b1 b2 b3 b4 b5 b6 b7 b8 : List ℕ)
    → ((front ++ tree) ++ way) ++ (b0 ++ b1 ++ b2 ++ b3 ++ b4 ++ b5 ++ b6 ++ b7 ++ b8)
    ≡ (front ++ (tree ++ (way ++ b0 ++ b1 ++ b2 ++ b3 ++ b4 ++ b5 ++ b6 ++ b7))) ++ b8
layout-pieces front tree way b0 b1 b2 b3 b4 b5 b6 b7 b8 = simp append_assoc

pub layout-line : (way rule place left right : List ℕ)
    → (codes "arrowpipe: tree " ++ way) ++ (codes ": " ++ rule ++ codes " at " ++ place ++ codes ": " ++ left ++ codes ", " ++ right ++ codes "\n")
    ≡ line_of (codes "tree " ++ (way ++ codes ": " ++ rule ++ codes " at " ++ place ++ codes ": " ++ left ++ codes ", " ++ right))
layout-line way rule place left right =
    layout-pieces (codes "arrowpipe: ") (codes "tree ") way (codes ": ") rule (codes " at ") place (codes ": ") left (codes ", ") right (codes "\n")

-- ---- the steps of a way
pub steps-push : (way : List ℕ) (k d : ℕ) → k < length way
    → flat_map step_text (take (k + 1) way) ≡ flat_map step_text (take k way) ++ step_text (get_or way k d)
steps-push way k d inside =
    ap (flat_map step_text) (take_more way k d inside) ∙ flat_map-append step_text (take k way) (get_or way k d ∷ [])
    ∙ ap (λ l. flat_map step_text (take k way) ++ l) (append-nil (step_text (get_or way k d)))

pub steps-around : (way : List ℕ) (k d : ℕ) → k < length way
    → (flat_map step_text (take k way) ++ step_text (get_or way k d)) ++ flat_map step_text (drop (k + 1) way) ≡ flat_map step_text way
steps-around way k d inside =
    ap (λ l. l ++ flat_map step_text (drop (k + 1) way)) (sym (steps-push way k d inside))
    ∙ sym (flat_map-append step_text (take (k + 1) way) (drop (k + 1) way)) ∙ ap (flat_map step_text) (take-append-drop (k + 1) way)
