use Rattle.std.proofs.Common.{◌≡◌, ◌≤◌, ◌∙◌, ◌+◌, ◌++◌, ℕ, List, Result, Ok, Err, OnErr, length, take, sym, ap, arith}
use Rattle.std.proofs.lemmas.List.{length-take-le, take-take, take_at}
use Rattle.col_build.proofs.ahead.put_many.Goals as goal

whatever : {A E P : Type 0} (r : Result A E) → P → OnErr r P
whatever (Ok a) p = tt
whatever (Err e) p = p

pub returns-clause-kept : goal.returns-clause-kept
returns-clause-kept c =
    let at = c.args.at in
    let old = c.args.bytes.now in
    let more = c.args.more.now in
    let added = c.append.new.bytes.items in
    let new = c.fill_ahead.new.bytes.items in
    let size : length (take at old.items) ≡ at = length-take-le at old.items (omega (arith, c.requires.inside, old.ok.0)) in
    let start : at ≤ at + length more = omega arith in
    whatever c.fill_ahead.result
    (sym (take-take at (at + length more) new start) ∙ ap (take at) c.fill_ahead.ensures.kept ∙ take-take at (at + length more) added start
    ∙ ap (take at) (c.in_ok-append.ensures.added ∙ ap (λ (bs : List ℕ). bs ++ more) c.truncate.ensures.items)
    ∙ take_at (take at old.items) more at size)
