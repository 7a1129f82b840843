use Rattle.std.proofs.Common.{arith, ◌≡◌, ◌∙◌, ◌<◌, ◌+◌, ◌++◌, List, length, sym, ap, subst}
use Rattle.std.proofs.lemmas.List.{append-nil}
use Rattle.data_types.specs.promise.Table.{Row}
use Rattle.array_laws.specs.Pieces.{border, joined_pieces}
use Rattle.total_stage.specs.Sums.{AreSums, rows_between}
use Rattle.total_stage.specs.declared.numbers.Totals.{Totals}
use Rattle.total_stage.proofs.Parts.{few-joined, joined-next, part-is}
use Rattle.total_stage.proofs.sums.join_parts.Goals as goal

pub loop-part-init : goal.loop-part-init
loop-part-init c = λ picks before rows are parts. subst (AreSums c.args.sums.now picks) (sym (append-nil before)) are

pub join_sums-requires : goal.join_sums-requires
join_sums-requires c =
    let few = c.requires.few in
    let picks = few.0 in
    let before = few.1 in
    let rows = few.2 in
    let workers = c.args.workers in
    let w = c.loop-part.part-index in
    let from = border (length rows) workers in
    let inside : w < workers = omega (arith, c.loop-part-test.true, few.4.0) in
    record {
      few = (
        picks,
        before ++ joined_pieces from rows w,
        rows_between (from w) (from (w + 1)) rows,
        c.loop-part.invariant picks before rows few.3 few.4,
        subst (λ (sums : List Totals). AreSums sums picks (rows_between (from w) (from (w + 1)) rows)) (sym c.as_slice.ensures.value)
            (part-is picks rows workers c.args.parts.now w c.part-item.result few.4 c.loop-part-test.true c.part-item.is),
        few-joined rows workers (λ k. c.pieces_are_in_order.ensures.rising (length rows) workers k c.requires.some) before w few.5
            (c.pieces_are_the_whole.ensures.fit (length rows) workers w inside),
      );
    }

pub loop-part-preserved : goal.loop-part-preserved
loop-part-preserved c = λ picks before rows are parts.
    let workers = c.args.workers in
    let w = c.loop-part.part-index in
    let from = border (length rows) workers in
    subst (AreSums c.join_sums.new.sums picks)
    (joined-next rows workers (λ k. c.pieces_are_in_order.ensures.rising (length rows) workers k c.requires.some) before w)
    (c.join_sums.ensures picks (before ++ joined_pieces from rows w) (rows_between (from w) (from (w + 1)) rows)
    (c.loop-part.invariant picks before rows are parts)
    (subst (λ (sums : List Totals). AreSums sums picks (rows_between (from w) (from (w + 1)) rows)) (sym c.as_slice.ensures.value)
    (part-is picks rows workers c.args.parts.now w c.part-item.result parts c.loop-part-test.true c.part-item.is)))

pub returns : goal.returns
returns c = λ picks before rows are parts.
    let workers = c.args.workers in
    let all : c.loop-part.part-index ≡ workers = omega (arith, c.loop-part-test.false, c.loop-part.auto.part-index-end, parts.0) in
    subst (λ (more : List Row). AreSums c.loop-part.sums picks (before ++ more))
    (ap (joined_pieces (border (length rows) workers) rows) all ∙ c.pieces_are_the_whole.ensures.rows rows workers c.requires.some)
    (c.loop-part.invariant picks before rows are parts)
