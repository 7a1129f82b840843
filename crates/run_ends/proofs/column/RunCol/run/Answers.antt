use Rattle.std.proofs.Common.{ℕ, ◌≡◌, ◌+◌, ◌∙◌, ap, sym, subst, arith}
use Rattle.tree_model.specs.promise.TreeParts.{IsLive, child_at}
use Rattle.data_types.proofs.Levels.{typed_out}
use Rattle.run_ends.specs.promise.Runs.{ends_in, run_count, run_of}
use Rattle.run_ends.specs.Runs.{run_at}
use Rattle.run_ends.specs.RunCols.{kinds_in, array_in}
use Rattle.run_ends.proofs.Searching.{item_holds}
use Rattle.run_ends.proofs.column.RunCol.run.Goals as goal

pub returns-clause-inside : goal.returns-clause-inside
returns-clause-inside c =
    let self = c.args.self.now in
    let u = kinds_in self in
    let array = array_in self in
    let is : c.run_at.result ≡ run_of u array c.args.i =
    c.run_at.ensures ∙ ap (λ (s : ℕ). run_at (ends_in u array) (run_count array) (s + c.args.i)) self.starts_at in
    omega (arith, is, (item_holds u array c.args.i c.runs_hold.ensures c.requires).inside)

pub returns-clause-few : goal.returns-clause-few
returns-clause-few c =
    let self = c.args.self.now in
    let u = kinds_in self in
    let array = array_in self in
    let is : c.run_at.result ≡ run_of u array c.args.i =
    c.run_at.ensures ∙ ap (λ (s : ℕ). run_at (ends_in u array) (run_count array) (s + c.args.i)) self.starts_at in
    let live : IsLive u.ends = subst IsLive (sym (typed_out self.typed.now.ends)) tt in
    let root = c.lawful_trees.ensures.root u.ends (child_at array 0) live c.runs_hold.ensures.ends in
    omega (arith, is, (item_holds u array c.args.i c.runs_hold.ensures c.requires).inside, root.many, root.near)
