-- The report of a lawful array: `ok`, and then a line for each node in preorder.
use Rattle.std.specs.Prelude.{ℕ, pos, List, [], ◌∷◌, ◌++◌, codes, Option, None, Some}
use Rattle.std.specs.List.{flat_map}
use Rattle.std.specs.Fmt.{signed_decimal}
use Rattle.fmt_string.specs.promise.Spelling.{spelling_of}
use Rattle.raw_array.specs.promise.Members.{ArrayTree}
use Rattle.data_types.specs.promise.WayTexts.{way_text}
use Rattle.data_types.specs.promise.KindTrees.{KindTree}
use Rattle.layout_rules.specs.promise.Layout.{layout_of}
use Rattle.layout_rules.specs.promise.Rules.{Node, null_items}
use Rattle.data_types.specs.promise.Ways.{Steps}
use Rattle.layout_rules.specs.promise.Walk.{Visit, visits}
use Rattle.tree_text.specs.promise.TreeText.{token, spaced}

-- the way to a node, the canonical format of its type, its length and the number of its null items; no node of a lawful
-- array is released
abbrev pub visit_text : Steps → Option Node → List ℕ
visit_text path None = []
visit_text path (Some node) =
    spaced (way_text path ∷ token (Some (spelling_of node.kind)) ∷ signed_decimal node.own.length
    ∷ signed_decimal (pos (null_items (layout_of node.kind) node.own)) ∷ []) ++ (10 ∷ [])

-- the whole report of an array under its types
abbrev pub ReportOf : KindTree → ArrayTree → List ℕ
ReportOf typed array = codes "ok" ++ (10 ∷ []) ++ flat_map (λ (visit : Visit). visit_text visit.path visit.node) (visits typed [] array)
