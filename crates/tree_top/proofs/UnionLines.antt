-- The lines of a union, one by one.
use Rattle.std.proofs.Common.{◌≡◌, ◌∙◌, ℕ, ◌+◌, List, [], ◌∷◌, ◌++◌, map, ap, append-nil, arith}
use Rattle.std.proofs.lemmas.Grind.{flat_map-append}
use Rattle.std.proofs.lemmas.List.{map-append}
use Rattle.std.specs.List.{flat_map}
use Rattle.layout_rules.specs.promise.Values.{each}
use Rattle.data_types.specs.NumberedTexts.{numbered_line}
use Rattle.value_text.proofs.Parts.{each-more}
use Rattle.union_cols.specs.promise.Unions.{UnionItem}
use Rattle.tree_top.specs.AnswerParts.{numbered_item}

-- the lines of some items
abbrev pub item_lines : List UnionItem → List ℕ
item_lines items = flat_map numbered_line (map numbered_item items)

pub lines-more : (f : ℕ → UnionItem) (n : ℕ) → item_lines (each f 0 (n + 1)) ≡ item_lines (each f 0 n) ++ numbered_line (numbered_item (f n))
lines-more f n =
    let from : 0 + n ≡ n = omega arith in
    ap item_lines (each-more f 0 n)
    ∙ ap (λ k. item_lines (each f 0 n ++ f k ∷ [])) from
    ∙ ap (flat_map numbered_line) (map-append numbered_item (each f 0 n) (f n ∷ []))
    ∙ flat_map-append numbered_line (map numbered_item (each f 0 n)) (numbered_item (f n) ∷ [])
    ∙ ap (λ text. item_lines (each f 0 n) ++ text) (append-nil (numbered_line (numbered_item (f n))))
