-- Names for the parts of a report.
use Rattle.std.specs.Prelude.{ℕ, ℤ, List, [], ◌∷◌, ◌++◌, Some, pos}
use Rattle.std.specs.List.{flat_map}
use Rattle.std.specs.Fmt.{signed_decimal}
use Rattle.data_types.specs.promise.WayTexts.{way_text}
use Rattle.data_types.specs.promise.Ways.{Steps}
use Rattle.layout_rules.specs.promise.Walk.{Visit, visits}
use Rattle.tree_text.specs.promise.TreeText.{token, spaced}
use Rattle.tree_text.specs.promise.Report.{visit_text}
use Rattle.fmt_string.specs.promise.Spelling.{spelling_of}
use Rattle.layout_rules.specs.promise.Layout.{layout_of}
use Rattle.layout_rules.specs.promise.Rules.{Node, null_items}

-- the way to a node, its format, its length and the number of its null items
abbrev pub report_line : Steps → List ℕ → ℤ → ℤ → List ℕ
report_line path format length nulls = spaced (way_text path ∷ token (Some format) ∷ signed_decimal length ∷ signed_decimal nulls ∷ []) ++ (10 ∷ [])

-- the lines of all nodes
abbrev pub visits_text : List Visit → List ℕ
visits_text visits = flat_map (λ (visit : Visit). visit_text visit.path visit.node) visits

-- the way to a node, the canonical format of its type, its length and the number of its null items
abbrev pub node_line : Steps → Node → List ℕ
node_line path node =
    spaced (way_text path ∷ token (Some (spelling_of node.kind)) ∷ signed_decimal node.own.length
    ∷ signed_decimal (pos (null_items (layout_of node.kind) node.own)) ∷ []) ++ (10 ∷ [])
