use Rattle.std.proofs.Common.{rules, arith, ◌≡◌, ◌∙◌, ◌++◌, map, subst, sym}
use Rattle.data_types.specs.ColumnView.{column_of}
use Rattle.data_types.specs.Parts.{AreWithin}
use Rattle.data_types.specs.promise.ColumnKinds.{type_of_columns}
use Rattle.data_types.specs.KindTrees.{TypedOk}
use Rattle.arr_move.specs.TreeActs.{Distinct}
use Rattle.array_laws.specs.Picking.{Packed}
use Rattle.stage_kernels.specs.Picks.{no_column}
use Rattle.stage_kernels.proofs.PackedChunks.{pack-gives, packed-chunk, small-chunk}
use Rattle.stage_kernels.proofs.PackedStreams.{kept-of, made_name, numbers-of}
use Rattle.stage_kernels.proofs.pack.PackStepChunkStep.push.Goals as goal

pub packed-requires-clause-chunk : goal.packed-requires-clause-chunk
packed-requires-clause-chunk g c =
    let s = c.args.self.now in
    let next = c.requires.next in
    let numbers = numbers-of s.rest.items s.picks.items s.out next.0 next.3 in (
      next.0,
      next.5.is.ok,
      subst (AreWithin _) (sym c.as_slice.ensures.value) numbers.stay,
      subst (AreWithin _) (sym c.as_slice-2.ensures.value) numbers.go,
    )

pub packed-requires-clause-distinct : goal.packed-requires-clause-distinct
packed-requires-clause-distinct g c =
    let s = c.args.self.now in
    let next = c.requires.next in
    let numbers = numbers-of s.rest.items s.picks.items s.out next.0 next.3 in
    subst Distinct (λ i. sym c.as_slice.ensures.value i ++ sym c.as_slice-2.ensures.value i) numbers.distinct

pub packed-requires-clause-not_deep : goal.packed-requires-clause-not_deep
packed-requires-clause-not_deep g c =
    let next = c.requires.next.5 in
    let types : TypedOk (type_of_columns c.requires.next.0) = subst TypedOk next.typed_is next.types in
    let low = c.lawful_arrays_are_not_deep.ensures (type_of_columns c.requires.next.0) c.args.chunk types.1 next.is.ok.0 in
    omega (arith, low, types.0)

pub returns-in-Ok-clause-pushed : goal.returns-in-Ok-clause-pushed
returns-in-Ok-clause-pushed g c = λ before rows more fits _ next.
    let s = c.args.self.now in
    let rest = s.rest.items in
    let picks = s.picks.items in
    let chunk = c.args.chunk in
    let numbers = numbers-of rest picks s.out before fits in
    let are = kept-of rest picks s.out before fits next.columns in
    let law = c.columns_of_a_table.ensures in
    let name = made_name rest s.out in
    let made : c.in-Ok.made ≡ Packed chunk rest picks =
    c.in-Ok.ensures.tree ∙ (λ i. Packed chunk (c.as_slice.ensures.value i) (c.as_slice-2.ensures.value i)) in
    pack-gives before s.out rest picks chunk c.in-Ok.made rows more _ c.args.pass.now c.packed.new.pass next
    (packed-chunk rest picks s.out before chunk fits (law.pack before no_column name chunk rest picks next.is.ok numbers.stay numbers.go)
    (law.pack_rows before no_column name chunk rest picks next.is.ok numbers.stay numbers.go)
    (λ lawful. small-chunk (map column_of s.out) (Packed chunk rest picks) are
    (c.chunks_are_small.ensures (map column_of s.out) (Packed chunk rest picks) are.kinds are.dicts lawful)))
    made c.in-Ok.ensures.blocks c.in-Ok.ensures.nodes (search rules)
