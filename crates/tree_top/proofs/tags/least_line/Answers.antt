use Rattle.std.proofs.Common.{◌≡◌, ◌∙◌, ◌+◌, ◌<◌, ◌≤◌, ℕ, length, get_or, ap, arith, subst, sym}
use Rattle.data_types.specs.promise.KindTrees.{KindTree}
use Rattle.data_types.specs.promise.TypedView.{typed_of}
use Rattle.data_types.specs.TypedView.{kids_of}
use Rattle.data_types.specs.promise.Value.{Null}
use Rattle.data_types.specs.declared.typed.Typed.{out-Typed}
use Rattle.layout_rules.specs.promise.Layout.{first}
use Rattle.layout_rules.specs.promise.Values.{row_items, tree_items, value_at}
use Rattle.layout_rules.specs.promise.Walk.{LayoutOk}
use Rattle.raw_array.specs.promise.Members.{ArrayTree, members_of}
use Rattle.tree_model.specs.promise.TreeData.{Released}
use Rattle.tree_model.specs.promise.TreeParts.{IsLive, child_at}
use Rattle.value_text.specs.Lengths.{Tells, text_length}
use Rattle.list_cols.proofs.Chunks.{chunk-is, reaches, row-item, row-long}
use Rattle.list_cols.proofs.Kids.{kid-is, kid-ok, kids-are, level-live, many-kids}
use Rattle.tree_top.proofs.ForeignRows.{live-kinds}
use Rattle.tree_top.proofs.TagLines.{any-line, known-line}
use Rattle.tree_top.specs.NewLengths.{tag_line}
use Rattle.tree_top.proofs.tags.least_line.Goals as goal
use Rattle.tree_top.proofs.tags.least_line.Goals.{in_default-measured_lengths, in_default-measured_lengths-2}

pub index-requires : goal.index-requires
index-requires c =
    let t = c.args.typed.now in
    omega (arith, c.in-Some.ensures.inside, (out-Typed t).kids.ok, many-kids t, ap length (kids-are t c.kinds_of_typed.ensures))

pub measured_lengths-requires-clause-types : goal.measured_lengths-requires-clause-types
measured_lengths-requires-clause-types c =
    let t = c.args.typed.now in
    let k = c.in-Some.k in
    let inside : k < length (kids_of t) = omega (arith, c.in-Some.ensures.inside, ap length (kids-are t c.kinds_of_typed.ensures)) in
    kid-ok t c.index.result.now k c.kinds_of_typed.ensures c.requires.types inside c.index.ensures

pub measured_lengths-requires-clause-lawful : goal.measured_lengths-requires-clause-lawful
measured_lengths-requires-clause-lawful c =
    let t = c.args.typed.now in
    let kid = c.index.result.now in
    let array = c.args.array.now in
    let k = c.in-Some.k in
    let inside : k < length (kids_of t) = omega (arith, c.in-Some.ensures.inside, ap length (kids-are t c.kinds_of_typed.ensures)) in
    let own : LayoutOk (typed_of kid) (child_at array k) =
    subst (λ (u : KindTree). LayoutOk u (child_at array k)) (kid-is t kid k inside c.index.ensures) (c.lawful_parts.ensures.children k inside) in
    subst (λ (a : ArrayTree). LayoutOk (typed_of kid) a) (sym c.child.ensures) own

pub returns-in-Ok-Same : goal.returns-in-Ok-Same
returns-in-Ok-Same c = λ (i : ℕ) (lt : i < tree_items c.args.array.now).
    let t = c.args.typed.now in
    let array = c.args.array.now in
    let k = c.in-Some.k in
    let kid = c.index.result.now in
    let law = c.lawful_trees.ensures in
    let is = chunk-is law.root law.parts law.items c.chunks_are_tables.ensures.chunk (typed_of t) array (level-live t c.kinds_of_typed.ensures) c.requires.chunk in
    let inside = c.in-Some.ensures.inside in
    let stored : k < length (kids_of t) = omega (arith, inside, ap length (kids-are t c.kinds_of_typed.ensures)) in
    let kinds : child_at (typed_of t) k ≡ typed_of kid =
    ap (λ kids. get_or kids k Released) (kids-are t c.kinds_of_typed.ensures) ∙ kid-is t kid k stored c.index.ensures in
    let place = first (members_of array) + i in
    let value : value_at (typed_of kid) c.child.result.now place ≡ get_or (row_items (typed_of t) array i) k Null =
    (λ j. value_at (sym kinds j) (c.child.ensures j) place) ∙ sym (row-item 0 (typed_of t) array is (omega (arith, inside)) k i inside) in
    let own : IsLive (typed_of kid) = live-kinds (typed_of kid) (kid-ok t kid k c.kinds_of_typed.ensures c.requires.types stored c.index.ensures) in
    let live : IsLive (child_at (typed_of t) k) = subst IsLive (sym kinds) own in
    let within : place < tree_items c.child.result.now =
    omega (arith, lt, reaches 0 (typed_of t) array is (omega (arith, inside)) k live, ap tree_items c.child.ensures) in
    let told = subst (λ lengths. Tells lengths (value_at (typed_of kid) c.child.result.now) (tree_items c.child.result.now)) c.in-Ok-Same.field-0-is c.in-Ok-Same.ensures in
    subst (λ n. 3 + n ≤ length (tag_line (row_items (typed_of t) array i))) (sym c.from.ensures)
    (known-line (row_items (typed_of t) array i) k c.in-Ok-Same.length (omega (arith, inside, row-long 0 (typed_of t) array is (omega (arith, inside)) i))
    (λ j less. c.in-Some.ensures.nulls j less i) (told place within ∙ ap text_length value))

pub returns-in_default : goal.returns-in_default
returns-in_default c = λ i lt. any-line (row_items (typed_of c.args.typed.now) c.args.array.now i)

pub returns : goal.returns
returns c = λ i lt.
    let line = tag_line (row_items (typed_of c.args.typed.now) c.args.array.now i) in
    let least : 4 ≤ length line = any-line (row_items (typed_of c.args.typed.now) c.args.array.now i) in
    elim c.match-measured_lengths.branch [
      | in_default-measured_lengths w ↦ subst (λ n. n ≤ length line) (sym w.result-is) least
      | in_default-measured_lengths-2 w ↦ subst (λ n. n ≤ length line) (sym w.result-is) least
    ]
