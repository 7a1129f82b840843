use Rattle.std.proofs.Common.{◌≡◌, ◌∙◌, ◌+◌, ◌*◌, ◌-◌, ◌<◌, ◌≤◌, All, true, None, length, get_or, ap, arith, mul-le-mul, subst, sym}
use Rattle.std.proofs.lemmas.Bool.Decides.{nat_tests}
use Rattle.arr_export.proofs.Each.{length-each, value-there}
use Rattle.arr_import.proofs.Reading.{children-count}
use Rattle.data_types.specs.promise.Groups.{same}
use Rattle.data_types.specs.promise.Table.{Row}
use Rattle.data_types.specs.promise.TypedView.{typed_of}
use Rattle.data_types.specs.promise.Value.{Value, Null}
use Rattle.data_types.specs.declared.typed.Typed.{out-Typed}
use Rattle.layout_rules.specs.promise.Layout.{first}
use Rattle.layout_rules.specs.promise.Values.{row_items, rows_of, tree_items, value_at}
use Rattle.list_cols.proofs.Chunks.{chunk-is, row-item}
use Rattle.list_cols.proofs.Kids.{level-live, none-wrong}
use Rattle.list_cols.specs.promise.Faults.{fault_of}
use Rattle.list_cols.specs.promise.NestFaults.{is_nest_too_long, nest_fault}
use Rattle.list_cols.specs.Faults.{nests}
use Rattle.list_cols.specs.promise.Nested.{Nest}
use Rattle.raw_array.specs.promise.Members.{members_of}
use Rattle.tree_model.specs.promise.TreeParts.{child_at, children_of}
use Rattle.tree_top.specs.NewLengths.{IsLong}
use Rattle.tree_top.specs.AnswerParts.{lines_unless}
use Rattle.tree_top.proofs.NestLines.{IsSelf, flat-self, nest-lines, not-too-long}
use Rattle.tree_top.proofs.nested.is_nested_too_long.Goals as goal

pub overflow_mul-result : goal.overflow_mul-result
overflow_mul-result c =
    let count = children-count c.args.typed.now c.kinds_of_typed.ensures in
    let wide : 2 * (c.len.result - 1) ≤ 2046 = omega (arith, count, c.len.ensures, (out-Typed c.args.typed.now).kids.ok, c.requires.few) in
    let many = mul-le-mul c.if-rows-gt-MOST_ITEMS.false wide in
    omega (arith, many)

pub returns-clause-long : goal.returns-clause-long
returns-clause-long c = λ long flat column inside.
    let typed = typed_of c.args.typed.now in
    let array = c.args.array.now in
    let rows = rows_of typed array in
    let width = length (children_of typed) in
    let law = c.lawful_trees.ensures in
    let is = chunk-is law.root law.parts law.items c.chunks_are_tables.ensures.chunk typed array (level-live c.args.typed.now c.kinds_of_typed.ensures) c.requires.chunk in
    let many : length rows ≡ tree_items array = length-each (row_items typed array) 0 (tree_items array) in
    let kids : c.len.result ≡ width =
    omega (arith, children-count c.args.typed.now c.kinds_of_typed.ensures, c.len.ensures, (out-Typed c.args.typed.now).kids.ok) in
    let self : All (IsSelf column) rows = λ i d lt.
    let small : i < tree_items array = omega (arith, many, lt) in
    let from : 0 + i ≡ i = omega (arith) in
    let here : get_or rows i d ≡ row_items typed array i =
    value-there (row_items typed array) 0 (tree_items array) i d small ∙ ap (row_items typed array) from in
    let value : value_at (child_at typed column) (child_at array column) (first (members_of array) + i) ≡ get_or (get_or rows i d) column Null =
    sym (ap (λ (row : Row). get_or row column Null) here ∙ row-item column typed array is inside column i inside) in
    subst (λ (v : Value). same v v ≡ true) value
    (flat-self (child_at typed column) (child_at array column) (first (members_of array) + i) (none-wrong nests 0 (children_of typed) flat column inside)) in
    let none : None ≡ nest_fault column typed rows =
    sym ((λ j. fault_of (flat j) (is_nest_too_long width column rows))
    ∙ ap (fault_of None) (not-too-long column width inside rows (omega (arith, c.row_count-rows.ensures, many, c.if-rows-gt-MOST_ITEMS.false)))) in
    let same_bytes : c.row_count-rows.result * (2 * (c.len.result - 1)) ≡ length rows * (2 * (width - 1)) =
    (λ j. c.row_count-rows.ensures j * (2 * (kids j - 1))) ∙ ap (λ n. n * (2 * (width - 1))) (sym many) in
    let above : 2147483645 < c.row_count-rows.result * (2 * (c.len.result - 1)) = grind (arith, nat_tests, long) in
    subst (λ fault. IsLong (lines_unless (Nest width column rows) fault)) none
    (omega (arith, above, same_bytes, nest-lines column width inside rows self))

pub returns-clause-many : goal.returns-clause-many
returns-clause-many c = λ few limit.
    let kids : c.len.result ≡ length (children_of (typed_of c.args.typed.now)) =
    omega (arith, children-count c.args.typed.now c.kinds_of_typed.ensures, c.len.ensures, (out-Typed c.args.typed.now).kids.ok) in
    let same_bytes : c.row_count-rows.result * (2 * (c.len.result - 1)) ≡ tree_items c.args.array.now * (2 * (length (children_of (typed_of c.args.typed.now)) - 1)) =
    (λ j. c.row_count-rows.ensures j * (2 * (kids j - 1))) in
    grind (arith, nat_tests, limit, same_bytes)
