-- Blocks that leave from the end of a list, the last one first.
use Rattle.std.proofs.Common.{◌≡◌, ◌++◌, ◌∷◌, ◌∙◌, [], ℕ, List, ap, sym}
use Rattle.std.proofs.lemmas.List.{append_assoc, append-nil}
use Rattle.std.specs.Global.{Vec}
use Rattle.csv_read.specs.TextBlocks.{later_bytes}

-- the block at the end of the list comes first in the text
pub later-end : (blocks : List (Vec ℕ)) (block : Vec ℕ) → later_bytes (blocks ++ block ∷ []) ≡ block.items ++ later_bytes blocks
later-end [] block = sym (append-nil block.items)
later-end (last ∷ blocks) block =
    ap (λ front. front ++ last.items) (later-end blocks block) ∙ append_assoc block.items (later_bytes blocks) last.items
