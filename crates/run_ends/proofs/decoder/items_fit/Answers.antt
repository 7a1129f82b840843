use Rattle.std.proofs.Common.{All, subst, sym}
use Rattle.data_types.specs.promise.TypedView.{typed_of}
use Rattle.raw_array.specs.promise.Members.{ArrayTree}
use Rattle.array_laws.specs.Items.{IsItemOf}
use Rattle.run_ends.specs.RunAnswers.{runs_of}
use Rattle.run_ends.specs.promise.Runs.{run_values}
use Rattle.run_ends.proofs.ItemsWalked.{are-items, few-items}
use Rattle.run_ends.proofs.decoder.items_fit.Goals as goal

pub returns : goal.returns
returns c =
    let u = runs_of c.args.typed.now in
    let array = c.args.array.now in
    let values = run_values u array in
    c.lawful_values_fit.ensures.items c.args.kind.now values c.requires.typed c.requires.flat
    (subst (λ (a : ArrayTree). All (IsItemOf (typed_of c.args.typed.now.values) a) values) (sym c.child.ensures) (are-items u array c.runs_hold.ensures))
    (few-items u array c.runs_hold.ensures) c.requires.within c.requires.bounded
