-- The schema tree, read on from a cursor.
use Rattle.std.proofs.Common.{◌≡◌, ℕ, ◌+◌, ◌<◌, ◌≤◌, List, [], ◌∷◌, ◌++◌, length, replicate, Option, None, refl, sym, ap, ◌∙◌}
use Rattle.std.proofs.Common.{arith, subst, length-append, inl, inr, Result, Ok, Err}
use Rattle.std.specs.Prelude.{IfOk, IfErr}
use Rattle.std.specs.Option.{option_map}
use Rattle.std.proofs.lemmas.Bool.{lt-leb, le-leb, cases_lt}
use Rattle.tree_model.specs.promise.TreeData.{Released, trees, maybe_tree}
use Rattle.tree_model.specs.Tree.{depth_of_all, depth_of_maybe}
use Rattle.unit_pass.specs.promise.Tally.{risen}
use Rattle.raw_schema.specs.promise.Members.{SchemaMembers, SchemaTree}
use Rattle.tree_model.specs.promise.TreeCost.{no_holds, Nodes}
use Rattle.raw_schema.specs.Members.{nodes_of_all, nodes_of_maybe}
use Rattle.tree_text.specs.declared.fault.TextFault.{TextFault}
use Rattle.tree_text.specs.declared.cursor.Cursor.{Cursor}
use Rattle.tree_text.specs.promise.TreeText.{SchemaNodeFits, deepest_level, lines_of_all, lines_of}
use Rattle.tree_text.specs.TreeText.{schema_node_lines, released_schema}
use Rattle.tree_text.specs.promise.Standing.{AtSchema, read_schema_line, next, schema_parts}
use Rattle.tree_text.specs.Cursors.{left, IsCursor, Stops, Between, SchemaRead, SchemasRead, LiveSchemaRead, listed}
use Rattle.tree_text.proofs.LineBack.{SchemaLineIs}
use Rattle.tree_text.proofs.Stands.{schema_gone, schema_stands, schema_some}
use Rattle.tree_text.proofs.TreeLaws.{AllFit-append, depth_all_fit, cost_le_lines, cost_all_le_lines}
use Rattle.tree_text.proofs.TreeSteps.{one_more, stops_in_list, node_read, stops_below, cost-listed, depth-listed, nothing_between, missing, refused}

pub none_made : (bytes : List ℕ) (cursor : Cursor) (level : ℕ) → IsCursor bytes cursor → SchemasRead bytes cursor cursor level 0 []
none_made bytes cursor level is = record { between = nothing_between bytes cursor is; fits = tt; counted = refl }

pub one_added : (bytes : List ℕ) (from mid to : Cursor) (level i : ℕ) (made : List SchemaTree) (t : SchemaTree) → SchemasRead bytes from mid level i made
    → SchemaRead bytes mid to level t
    → SchemasRead bytes from to level (i + 1) (made ++ t ∷ [])
one_added bytes from mid to level i made t front back = record {
  between = one_more released_schema schema_node_lines SchemaNodeFits AtSchema schema_gone schema_stands bytes from mid to made t front.between back.between;
  fits = AllFit-append SchemaNodeFits level made (t ∷ []) front.fits (back.fits, tt);
  counted = omega (arith, length-append made (t ∷ []), front.counted);
}

pub stops_inside : (bytes : List ℕ) (from to : Cursor) (level count i : ℕ) (made : List SchemaTree) (f : TextFault) → IsCursor bytes from
    → SchemasRead bytes from to level i made → i < count
    → Stops bytes to (AtSchema level ∷ []) f → Stops bytes from (replicate count (AtSchema level)) f
stops_inside bytes from to level count i made f cursor read more later =
    stops_in_list released_schema schema_node_lines SchemaNodeFits AtSchema schema_gone schema_stands bytes from to level count i made f cursor read.between
    read.fits read.counted more later

-- what is left of the lines
pub left_tree : (bytes : List ℕ) (from to : Cursor) (level : ℕ) (t : SchemaTree) → SchemaRead bytes from to level t
    → length (left bytes to) + Nodes t ≤ length (left bytes from)
left_tree bytes from to level t read =
    let lines = lines_of released_schema schema_node_lines t in
    let same : length (left bytes from) ≡ length lines + length (left bytes to) = ap length read.between.spelled ∙ length-append lines (left bytes to) in
    omega (arith, same, cost_le_lines released_schema schema_node_lines no_holds schema_some t)

pub left_all : (bytes : List ℕ) (from to : Cursor) (level count : ℕ) (ts : List SchemaTree) → SchemasRead bytes from to level count ts
    → length (left bytes to) + nodes_of_all (trees ts) ≤ length (left bytes from)
left_all bytes from to level count ts read =
    let lines = lines_of_all released_schema schema_node_lines (trees ts) in
    let same : length (left bytes from) ≡ length lines + length (left bytes to) = ap length read.between.spelled ∙ length-append lines (left bytes to) in
    omega (arith, same, cost_all_le_lines released_schema schema_node_lines no_holds schema_some (trees ts))

pub own_between : (bytes : List ℕ) (from mid : Cursor) (line : List ℕ) (own : SchemaMembers) (c d : ℕ) → left bytes from ≡ line ∷ left bytes mid
    → IsCursor bytes mid → SchemaLineIs line own c d
    → Between bytes from mid (schema_node_lines own c d)
own_between bytes from mid line own c d here cursor is = record { spelled = here ∙ ap (λ (l : List ℕ). l ∷ left bytes mid) is.spelled; cursor = cursor }

pub live_is : (bytes : List ℕ) (from mid to : Cursor) (level c d : ℕ) (line : List ℕ) (own : SchemaMembers) (t : SchemaTree) → level ≤ deepest_level
    → left bytes from ≡ line ∷ left bytes mid → IsCursor bytes mid
    → SchemaLineIs line own c d → LiveSchemaRead bytes mid to level own c d t → SchemaRead bytes from to level t
live_is bytes from mid to level c d line own t low here cursor is live =
    let first = own_between bytes from mid line own c d here cursor is in
    let counted : length live.children ≡ c = omega (arith, length-append live.children (listed live.dictionary), live.read.counted, live.one) in
    let node = node_read released_schema schema_node_lines SchemaNodeFits AtSchema schema_gone schema_stands bytes from mid to level c d own live.children
    live.dictionary low is.fits first live.read.between live.read.fits counted live.one in
    subst (SchemaRead bytes from to level) (sym live.is) (record { between = node.between; fits = node.fits })

pub live_result : (bytes : List ℕ) (from mid : Cursor) (level c d : ℕ) (line : List ℕ) (own : SchemaMembers) (r : Result (SchemaTree × Cursor) TextFault)
    → level ≤ deepest_level → left bytes from ≡ line ∷ left bytes mid
    → IsCursor bytes mid → SchemaLineIs line own c d → IfOk r (λ x. LiveSchemaRead bytes mid x.1 level own c d x.0)
    → IfOk r (λ x. SchemaRead bytes from x.1 level x.0)
live_result bytes from mid level c d line own (Ok x) low here cursor is live = live_is bytes from mid x.1 level c d line own x.0 low here cursor is live
live_result bytes from mid level c d line own (Err f) low here cursor is live = tt

pub live_stops : (bytes : List ℕ) (from mid : Cursor) (level c d : ℕ) (line : List ℕ) (own : SchemaMembers) (f : TextFault) → IsCursor bytes from
    → level ≤ deepest_level → left bytes from ≡ line ∷ left bytes mid
    → IsCursor bytes mid → SchemaLineIs line own c d → Stops bytes mid (replicate (c + d) (AtSchema (level + 1))) f → Stops bytes from (AtSchema level ∷ []) f
live_stops bytes from mid level c d line own f here low line_is cursor is later =
    stops_below released_schema schema_node_lines SchemaNodeFits AtSchema schema_gone schema_stands bytes from mid level c d own f here low is.fits is.one
    (own_between bytes from mid line own c d line_is cursor is) later

pub live_fault : (bytes : List ℕ) (from mid : Cursor) (level c d : ℕ) (line : List ℕ) (own : SchemaMembers) (r : Result (SchemaTree × Cursor) TextFault)
    → IsCursor bytes from → level ≤ deepest_level
    → left bytes from ≡ line ∷ left bytes mid → IsCursor bytes mid → SchemaLineIs line own c d
    → IfErr r (Stops bytes mid (replicate (c + d) (AtSchema (level + 1)))) → IfErr r (Stops bytes from (AtSchema level ∷ []))
live_fault bytes from mid level c d line own (Ok x) begun low here cursor is later = tt
live_fault bytes from mid level c d line own (Err f) begun low here cursor is later =
    live_stops bytes from mid level c d line own f begun low here cursor is later

pub released_is : (bytes : List ℕ) (from to : Cursor) (level : ℕ) (line : List ℕ) → level ≤ deepest_level → left bytes from ≡ line ∷ left bytes to
    → IsCursor bytes to → line ≡ released_schema → SchemaRead bytes from to level Released
released_is bytes from to level line low here cursor is = record {
  between = record { spelled = here ∙ ap (λ (l : List ℕ). l ∷ left bytes to) is; cursor = cursor };
  fits = low;
}

-- a count that rises by several
pub risen_twice : (n a b : ℕ) → risen (risen n a) b ≡ risen n (a + b)
risen_twice n a b = omega arith

-- a level that is too deep, and a line that tells of no node
pub too_deep : (level : ℕ) (line : List ℕ) → 100 < level → next (AtSchema level) line ≡ None
too_deep level line deep = rw (lt-leb level 100 deep) refl

pub no_node : (level : ℕ) (line : List ℕ) → read_schema_line line ≡ None → next (AtSchema level) line ≡ None
no_node level line none = elim (cases_lt 100 level) [
  | inl deep ↦ too_deep level line deep
  | inr low ↦ rw (le-leb level 100 low) (ap (option_map (schema_parts level)) none)
]

pub nodes-listed : (parts children : List SchemaTree) (d : Option SchemaTree) → parts ≡ children ++ listed d
    → nodes_of_all (trees parts) ≡ nodes_of_all (trees children) + nodes_of_maybe (maybe_tree d)
nodes-listed parts children d all = ap (λ (xs : List SchemaTree). nodes_of_all (trees xs)) all ∙ cost-listed no_holds children d

pub depth_parts : (bytes : List ℕ) (from to : Cursor) (level count : ℕ) (parts children : List SchemaTree) (d : Option SchemaTree) → level ≤ 101
    → parts ≡ children ++ listed d → SchemasRead bytes from to level count parts
    → (depth_of_all (trees children) ≤ 127) × (depth_of_maybe (maybe_tree d) ≤ 127)
depth_parts bytes from to level count parts children d low all read =
    let same = ap (λ (xs : List SchemaTree). depth_of_all (trees xs)) all in
    depth-listed 127 children d (omega (arith, same, depth_all_fit SchemaNodeFits level (trees parts) low read.fits))

pub ruleset line_steps = (missing, refused, too_deep, no_node)

pub ruleset steps = (none_made, left_tree, left_all, risen_twice)
