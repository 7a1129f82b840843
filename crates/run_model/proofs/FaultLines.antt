-- The lines of faults and of the audit, from their pieces.
use Rattle.std.proofs.Common.{ℕ, ◌≡◌, ◌++◌, ◌∙◌, List, ap, sym, append_assoc, codes, decimal}
use Rattle.unit_pass.specs.declared.pass.Audit.{Audit}
use Rattle.run_model.specs.Diagnostics.{audit_line, line_of}

abbrev feed : List ℕ
feed = codes "\n"

three : (a b c d : List ℕ) → a ++ (b ++ (c ++ d)) ≡ a ++ b ++ c ++ d
three a b c d = sym (append_assoc (a ++ b) c d ∙ append_assoc a b (c ++ d))

four : (a b c d e : List ℕ) → a ++ b ++ c ++ d ++ e ≡ a ++ (b ++ (c ++ (d ++ e)))
four a b c d e = append_assoc (a ++ b ++ c) d e ∙ append_assoc (a ++ b) c (d ++ e) ∙ append_assoc a b (c ++ (d ++ e))

five : (a b c d e f : List ℕ) → a ++ (b ++ (c ++ (d ++ (e ++ f)))) ≡ a ++ b ++ c ++ d ++ e ++ f
five a b c d e f = three a b c (d ++ (e ++ f)) ∙ sym (append_assoc (a ++ b ++ c ++ d) e f ∙ append_assoc (a ++ b ++ c) d (e ++ f))

-- the line of a text from its pieces
pub line-pieces : (a b c d e text : List ℕ) → a ++ (b ++ (c ++ (d ++ e))) ≡ text → codes "arrowpipe: " ++ (a ++ (b ++ (c ++ (d ++ (e ++ feed))))) ≡ line_of text
line-pieces a b c d e text is = ap (λ l. codes "arrowpipe: " ++ l) (five a b c d e feed ∙ ap (λ t. t ++ feed) (four a b c d e ∙ is))

pub audit-pieces : (blocks nodes : List ℕ) (audit : Audit) → blocks ≡ decimal audit.blocks → nodes ≡ decimal audit.nodes
    → codes "audit blocks=" ++ (blocks ++ (codes " nodes=" ++ (nodes ++ codes " left=0\n"))) ≡ audit_line audit
audit-pieces blocks nodes audit is-blocks is-nodes =
    ap (λ d. codes "audit blocks=" ++ (d ++ (codes " nodes=" ++ (nodes ++ codes " left=0\n")))) is-blocks
    ∙ ap (λ d. codes "audit blocks=" ++ (decimal audit.blocks ++ (codes " nodes=" ++ (d ++ codes " left=0\n")))) is-nodes
    ∙ ap (λ l. codes "audit blocks=" ++ l) (three (decimal audit.blocks) (codes " nodes=") (decimal audit.nodes) (codes " left=0\n"))
