use Rattle.std.proofs.Common.{rules, ◌≡◌}
use Rattle.std.specs.Prelude.{codes}
use Rattle.tree_model.specs.promise.TreeParts.{IsLive}
use Rattle.raw_schema.specs.promise.Members.{members_of}
use Rattle.schema_check.proofs.SchemaFails.{pair_is, pair_two}
use Rattle.schema_check.proofs.schema.is_pair.Goals as goal

pub returns : goal.returns
returns c =
    let child = c.args.child.now in
    let live : IsLive child = search rules in
    let text : (members_of child).format ≡ codes "+s" = search rules in
    (λ two. pair_is child live text (c.has_two.ensures.0 two), λ pair. c.has_two.ensures.1 (pair_two child pair))
