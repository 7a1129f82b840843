-- The whole text: its first line, the two trees, and nothing behind them.
use Rattle.std.proofs.Common.{◌≡◌, ℕ, ◌≤◌, false, List, [], ◌∷◌, ◌++◌, length, drop, None, Result, Ok, Err, refl, sym, ap, ◌∙◌}
use Rattle.std.proofs.Common.{arith, subst}
use Rattle.std.specs.Prelude.{codes, IfOk, IfErr}
use Rattle.std.specs.Str.{bytes_eq}
use Rattle.std.specs.Str.Lines.{lines}
use Rattle.std.proofs.lemmas.List.{append-nil}
use Rattle.raw_schema.specs.promise.Members.{SchemaTree}
use Rattle.raw_array.specs.promise.Members.{ArrayTree}
use Rattle.tree_text.specs.declared.fault.TextFault.{TextFault}
use Rattle.tree_text.specs.declared.fault.TextFault.TheVariants.{Line, TooManyLines, NoMemory}
use Rattle.tree_text.specs.declared.cursor.Cursor.{Cursor}
use Rattle.tree_text.specs.promise.TreeText.{lines_of, array_node_lines, SchemaNodeFits, ArrayNodeFits}
use Rattle.tree_text.specs.TreeText.{schema_node_lines, released_schema, released_array}
use Rattle.tree_text.specs.promise.Standing.{AtFirst, AtSchema, AtArray, first_fault, next}
use Rattle.tree_text.specs.Standing.{all_places}
use Rattle.tree_text.specs.promise.Answers.{Reads, most_lines}
use Rattle.tree_text.specs.Cursors.{left, IsCursor, StopsAt, Stops, StopsLast, Between, SchemaRead, ArrayRead, TreesRead}
use Rattle.tree_text.proofs.Stands.{stands, schema_gone, schema_stands, array_gone, array_stands}
use Rattle.tree_text.proofs.TreeLaws.{tree_stands}
use Rattle.tree_text.proofs.TreeSteps.{missing, refused, moved}

pub no_first : (line : List ℕ) → bytes_eq line (codes "tree 1") ≡ false → next AtFirst line ≡ None
no_first line other = rw other refl

pub ruleset first_steps = (missing, refused, no_first)

pub origin_is : (bytes : List ℕ) (origin : Cursor) → origin.at ≡ 0 → origin.line ≡ 1 → length (lines bytes) ≤ most_lines → IsCursor bytes origin
origin_is bytes origin at line few =
    let all : left bytes origin ≡ lines bytes = ap (λ (n : ℕ). lines (drop n bytes)) at in
    record { within = omega (arith, at); few = few; counted = omega (arith, line, ap length all) }

-- where the array tree stops, behind the schema tree
pub stops_in_array : (bytes : List ℕ) (cursor middle : Cursor) (schema : SchemaTree) (f : TextFault) → IsCursor bytes cursor
    → SchemaRead bytes cursor middle 1 schema → StopsLast bytes middle (AtArray 1 ∷ []) f
    → StopsLast bytes cursor (AtSchema 1 ∷ AtArray 1 ∷ []) f
stops_in_array bytes cursor middle schema f begun read later =
    let ls = lines_of released_schema schema_node_lines schema in
    let path = ap (λ (x : List (List ℕ)). first_fault (AtSchema 1 ∷ AtArray 1 ∷ []) x cursor.line) read.between.spelled
    ∙ tree_stands released_schema schema_node_lines SchemaNodeFits AtSchema schema_gone schema_stands 1 schema read.fits (AtArray 1 ∷ []) (left bytes middle)
    cursor.line
    ∙ ap (first_fault (AtArray 1 ∷ []) (left bytes middle)) (moved bytes cursor middle ls begun read.between) in
    subst (StopsAt f) (sym path) later

-- a line behind both trees
pub stops_behind : (bytes : List ℕ) (middle end : Cursor) (array : ArrayTree) (line : List ℕ) (rest : List (List ℕ)) → IsCursor bytes middle
    → ArrayRead bytes middle end 1 array → left bytes end ≡ line ∷ rest
    → StopsLast bytes middle (AtArray 1 ∷ []) (Line end.line)
stops_behind bytes middle end array line rest begun read more =
    let ls = lines_of released_array array_node_lines array in
    ap (λ (x : List (List ℕ)). first_fault (AtArray 1 ∷ []) x middle.line) read.between.spelled
    ∙ tree_stands released_array array_node_lines ArrayNodeFits AtArray array_gone array_stands 1 array read.fits [] (left bytes end) middle.line
    ∙ ap (first_fault [] (left bytes end)) (moved bytes middle end ls begun read.between)
    ∙ ap (λ (x : List (List ℕ)). first_fault [] x end.line) more

pub trees_are : (bytes : List ℕ) (cursor middle end : Cursor) (schema : SchemaTree) (array : ArrayTree) → SchemaRead bytes cursor middle 1 schema
    → ArrayRead bytes middle end 1 array → left bytes end ≡ [] → TreesRead bytes cursor schema array
trees_are bytes cursor middle end schema array first second none = record {
  spelled = first.between.spelled ∙ ap (λ (x : List (List ℕ)). lines_of released_schema schema_node_lines schema ++ x)
      (second.between.spelled ∙ ap (λ (x : List (List ℕ)). lines_of released_array array_node_lines array ++ x) none
      ∙ append-nil (lines_of released_array array_node_lines array));
  schema_fits = first.fits;
  array_fits = second.fits;
}

-- ---- with the first line

pub whole_is : (bytes : List ℕ) (origin cursor : Cursor) (schema : SchemaTree) (array : ArrayTree) → origin.at ≡ 0 → length (lines bytes) ≤ most_lines
    → Between bytes origin cursor (codes "tree 1" ∷ []) → TreesRead bytes cursor schema array
    → Reads bytes (Ok (schema, array))
whole_is bytes origin cursor schema array at few first read =
    let all : left bytes origin ≡ lines bytes = ap (λ (n : ℕ). lines (drop n bytes)) at in (
      few,
      record {
        spelled = sym all ∙ first.spelled ∙ ap (λ (x : List (List ℕ)). codes "tree 1" ∷ x) read.spelled;
        schema_fits = read.schema_fits;
        array_fits = read.array_fits;
      },
    )

pub read_result : (bytes : List ℕ) (origin cursor : Cursor) (r : Result (SchemaTree × ArrayTree) TextFault) → origin.at ≡ 0
    → length (lines bytes) ≤ most_lines → Between bytes origin cursor (codes "tree 1" ∷ [])
    → IfOk r (λ trees. TreesRead bytes cursor trees.0 trees.1) → IfOk r (λ trees. Reads bytes (Ok (trees.0, trees.1)))
read_result bytes origin cursor (Ok trees) at few first read = whole_is bytes origin cursor trees.0 trees.1 at few first read
read_result bytes origin cursor (Err f) at few first read = tt

-- a fault of the lines is the text's
pub named : (bytes : List ℕ) (f : TextFault) → length (lines bytes) ≤ most_lines → StopsAt f (first_fault all_places (lines bytes) 1) → (f ≡ NoMemory → ⊥)
    → Reads bytes (Err f)
named bytes (Line number) few stops other = (few, stops)
named bytes TooManyLines few stops other = absurd stops
named bytes NoMemory few stops other = absurd (other refl)

pub first_named : (bytes : List ℕ) (origin : Cursor) (f : TextFault) → origin.at ≡ 0 → origin.line ≡ 1 → length (lines bytes) ≤ most_lines
    → Stops bytes origin (AtFirst ∷ []) f → (f ≡ NoMemory → ⊥) → Reads bytes (Err f)
first_named bytes origin f at line few stops other =
    let all : left bytes origin ≡ lines bytes = ap (λ (n : ℕ). lines (drop n bytes)) at in
    named bytes f few (subst (StopsAt f) (λ i. first_fault all_places (all i) (line i)) (stops (AtSchema 1 ∷ AtArray 1 ∷ []))) other

pub later_named : (bytes : List ℕ) (origin cursor : Cursor) (f : TextFault) → origin.at ≡ 0 → origin.line ≡ 1 → IsCursor bytes origin
    → Between bytes origin cursor (codes "tree 1" ∷ []) → StopsLast bytes cursor (AtSchema 1 ∷ AtArray 1 ∷ []) f
    → (f ≡ NoMemory → ⊥) → Reads bytes (Err f)
later_named bytes origin cursor f at line begun first stops other =
    let all : left bytes origin ≡ lines bytes = ap (λ (n : ℕ). lines (drop n bytes)) at in
    let path : first_fault all_places (lines bytes) 1 ≡ first_fault (AtSchema 1 ∷ AtArray 1 ∷ []) (left bytes cursor) cursor.line =
    (λ i. first_fault all_places ((sym all ∙ first.spelled) i) (sym line i))
    ∙ stands AtFirst [] (AtSchema 1 ∷ AtArray 1 ∷ []) (codes "tree 1") (left bytes cursor) origin.line refl
    ∙ ap (first_fault (AtSchema 1 ∷ AtArray 1 ∷ []) (left bytes cursor)) (moved bytes origin cursor (codes "tree 1" ∷ []) begun first) in
    named bytes f begun.few (subst (StopsAt f) (sym path) stops) other

pub fault_result : (bytes : List ℕ) (origin cursor : Cursor) (r : Result (SchemaTree × ArrayTree) TextFault) → origin.at ≡ 0 → origin.line ≡ 1
    → IsCursor bytes origin → Between bytes origin cursor (codes "tree 1" ∷ [])
    → IfErr r (StopsLast bytes cursor (AtSchema 1 ∷ AtArray 1 ∷ [])) → IfErr r (λ f. (f ≡ NoMemory → ⊥) → Reads bytes (Err f))
fault_result bytes origin cursor (Ok trees) at line begun first stops = tt
fault_result bytes origin cursor (Err f) at line begun first stops = later_named bytes origin cursor f at line begun first stops

pub ruleset text_steps = (origin_is)
