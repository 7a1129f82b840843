use Rattle.std.proofs.Common.{◌≡◌, ◌∙◌, ◌*◌, ◌+◌, ◌<◌, ◌≤◌, ℕ, length, ap, arith, mul-le-mul, subst, sym}
use Rattle.arr_import.proofs.Reading.{children-count}
use Rattle.data_types.specs.promise.TypedView.{typed_of}
use Rattle.data_types.specs.declared.typed.Typed.{out-Typed}
use Rattle.layout_rules.specs.promise.Values.{rows_of}
use Rattle.list_cols.specs.promise.Nested.{Explode}
use Rattle.list_cols.proofs.Chunks.{chunk-is, rows-wide}
use Rattle.list_cols.proofs.Kids.{level-live}
use Rattle.tree_model.specs.promise.TreeParts.{children_of}
use Rattle.tree_top.proofs.NewLines.{row_lines, wide-lines}
use Rattle.tree_top.proofs.exploded_length.is_exploded_too_long.Goals as goal

pub overflow_add-row_bytes : goal.overflow_add-row_bytes
overflow_add-row_bytes c =
    let count = children-count c.args.typed.now c.kinds_of_typed.ensures in
    omega (arith, count, c.len.ensures, (out-Typed c.args.typed.now).kids.ok, c.requires.few)

pub overflow_mul-rows : goal.overflow_mul-rows
overflow_mul-rows c =
    let count = children-count c.args.typed.now c.kinds_of_typed.ensures in
    let wide : 2 + 2 * c.len.result ≤ 2050 = omega (arith, count, c.len.ensures, (out-Typed c.args.typed.now).kids.ok, c.requires.few) in
    let few : c.args.rows ≤ 2147483647 = omega (arith, c.requires.named) in
    let many : c.args.rows * (2 + 2 * c.len.result) ≤ 2147483647 * 2050 = mul-le-mul few wide in
    omega (arith, many)

pub returns-then-rows-row_bytes : goal.returns-then-rows-row_bytes
returns-then-rows-row_bytes c = λ _.
    let t = c.args.typed.now in
    let array = c.args.array.now in
    let column = c.args.column in
    let law = c.lawful_trees.ensures in
    let is = chunk-is law.root law.parts law.items c.chunks_are_tables.ensures.chunk (typed_of t) array (level-live t c.kinds_of_typed.ensures) c.requires.chunk in
    let width = length (children_of (typed_of t)) in
    let kids : c.len.result ≡ width = omega (arith, children-count t c.kinds_of_typed.ensures, c.len.ensures, (out-Typed t).kids.ok) in
    let rows = Explode column (rows_of (typed_of t) array) in
    let least = wide-lines rows width (omega (arith, c.requires.inside)) (rows-wide column (typed_of t) array is c.requires.inside) in
    let same : c.args.rows * (2 + 2 * c.len.result) ≡ length rows * (2 + 2 * width) =
    ap (λ n. n * (2 + 2 * c.len.result)) c.requires.rows ∙ ap (λ n. length rows * (2 + 2 * n)) kids in
    omega (arith, c.if-rows-row_bytes.true, same, least)
