use Rattle.std.proofs.Common.{◌+◌, ℕ, List, ap, sym, subst, arith}
use Rattle.data_types.specs.promise.Value.{Value, byte_total}
use Rattle.list_cols.specs.Listed.{HasTotal}
use Rattle.list_cols.proofs.totals.list_bytes.Goals as goal

pub returns-in-Some : goal.returns-in-Some
returns-in-Some c =
    subst (λ (n : ℕ). HasTotal n c.items_bytes.result) (ap (λ (vs : List Value). c.args.before + byte_total vs) (sym c.in-Some.ensures.some)) c.items_bytes.ensures

pub returns-in-None : goal.returns-in-None
returns-in-None c =
    let none = ap byte_total c.in-None.ensures.none in
    (omega (arith, none), omega (arith, none, c.requires.before))
