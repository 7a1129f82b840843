use Rattle.std.proofs.Common.{◌≡◌, ◌∙◌, [], ◌∷◌, length, ap, arith}
use Rattle.std.specs.Prelude.{◌==◌, if◌then◌else◌}
use Rattle.std.proofs.lemmas.List.{length-map}
use Rattle.tree_model.specs.promise.TreeParts.{children_of}
use Rattle.raw_array.specs.promise.Members.{holds_of}
use Rattle.data_types.specs.promise.TypedView.{typed_of}
use Rattle.layout_rules.specs.promise.Values.{row_items, rows_of, tree_items}
use Rattle.layout_rules.proofs.TreeLaws.{root_holds}
use Rattle.array_laws.proofs.WindowItems.{length-each}
use Rattle.unit_pass.specs.promise.Tally.{risen}
use Rattle.union_cols.specs.promise.Tags.{tag_blocks, tag_of}
use Rattle.union_cols.specs.Tags.{block_of, start_bytes}
use Rattle.union_cols.specs.TagViews.{starts_in}
use Rattle.union_cols.proofs.TagLaw.{live-kind, no-fault-of}
use Rattle.union_cols.proofs.TagSteps.{tag-holds}
use Rattle.union_cols.proofs.tagged.union_tops.Goals as goal

pub chunk_tags-requires-clause-few : goal.chunk_tags-requires-clause-few
chunk_tags-requires-clause-few c =
    let typed = typed_of c.args.typed.now in
    let array = c.args.array.now in
    let same = (root_holds typed array (live-kind typed c.requires.types) c.requires.chunk.0).kids in
    let few = (no-fault-of c.args.dense (length (children_of array)) (tree_items array) c.requires.free).1 in
    omega (arith, same, few)

pub starts_if-requires : goal.starts_if-requires
starts_if-requires c =
    let typed = typed_of c.args.typed.now in
    let array = c.args.array.now in
    let free = no-fault-of c.args.dense (length (children_of array)) (tree_items array) c.requires.free in
    let ids = ap length c.in_ok-ids.ensures ∙ length-map (rows_of typed array) tag_of ∙ length-each (row_items typed array) 0 (tree_items array) in
    λ is_dense. omega (arith, c.len.ensures, ids, free.2 is_dense)

pub returns-in-Ok-clause-blocks : goal.returns-in-Ok-clause-blocks
returns-in-Ok-clause-blocks c =
    let typed = typed_of c.args.typed.now in
    let array = c.args.array.now in
    let dense = c.args.dense in
    let ids = c.in_ok-ids.ids.items in
    let count = ap length c.in_ok-ids.ensures ∙ length-map (rows_of typed array) tag_of ∙ length-each (row_items typed array) 0 (tree_items array) in
    let long : c.len.result ≡ length ids = omega (arith, c.len.ensures) in
    let starts = c.in_ok-starts.ensures ∙ ap (λ n. if dense then block_of (start_bytes n) ∷ [] else []) long in
    let made : holds_of (block_of ids ∷ starts_in c.in_ok-starts.starts) ≡ tag_blocks dense array =
    ap (λ ss. holds_of (block_of ids ∷ ss)) starts ∙ tag-holds dense ids ∙ ap (λ n. if n == 0 then 0 else if dense then 2 else 1) count in
    c.in-Ok.ensures.blocks ∙ (λ t. risen (c.in_ok-schema_top.ensures.blocks t) (made t))
