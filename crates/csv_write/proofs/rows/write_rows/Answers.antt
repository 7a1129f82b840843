use Rattle.std.proofs.Common.{◌≡◌, arith, append-nil}
use Rattle.csv_write.proofs.ChunkTexts.{lines-push}
use Rattle.csv_write.proofs.rows.write_rows.Goals as goal

pub write_row-requires : goal.write_row-requires
write_row-requires c =
    let (columns, reads, has) = c.requires in
    (columns, reads, has c.loop-i.i (omega arith))

pub loop-i-init : goal.loop-i-init
loop-i-init c columns text reads has h = rw append-nil h

pub loop-i-preserved : goal.loop-i-preserved
loop-i-preserved c columns text reads has h =
    let before = c.loop-i.invariant columns text reads (λ i lt. has i (omega (arith, lt))) h in
    rw (lines-push c.args.mark.now columns c.loop-i.i text)
    (c.in_ok-write_row.ensures columns _ reads (has c.loop-i.i (omega arith)) before)

pub returns : goal.returns
returns c columns text reads has h =
    let all : c.loop-i.i ≡ c.args.rows = omega arith in
    rw all at (c.loop-i.invariant columns text reads (λ i lt. has i (omega (arith, lt, all))) h)
