use Rattle.std.proofs.Common.{◌≤◌, ◌∙◌, ◌-◌, length, arith}
use Rattle.std.proofs.lemmas.List.{take_rest}
use Rattle.col_build.proofs.Ends.{ends}
use Rattle.col_build.proofs.ahead.put_ends.Goals as goal

pub returns-clause-put : goal.returns-clause-put
returns-clause-put g c =
    let old = c.args.bytes.now in
    let more = c.args.more.now in
    let rest = length more - g.row.N in
    let inside : c.args.at ≤ length old.items = omega (arith, c.requires.place, old.ok.0) in
    ends old.items more c.put_at.new.bytes.items c.put_at-2.new.bytes.items c.copy_from_slice.new.self c.copy_from_slice-2.new.self
    c.args.at g.row.N rest inside (omega (arith, c.requires.least)) (omega (arith, c.requires.most)) c.copy_from_slice.ensures.after
    (c.copy_from_slice-2.ensures.after ∙ take_rest more rest) c.put_at.ensures.put c.put_at-2.ensures.put
