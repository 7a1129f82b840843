use Rattle.std.proofs.Common.{◌≡◌, ◌∙◌, ◌++◌, ap, sym, append_assoc, arith}
use Rattle.std.specs.Prelude.{decimal}
use Rattle.fmt_string.specs.promise.FormatString.{comma}
use Rattle.union_cols.specs.Tags.{numbers}
use Rattle.union_cols.specs.promise.UnionFormats.{ids_before, keyword}
use Rattle.union_cols.proofs.TagSteps.{before-next, format-last}
use Rattle.union_cols.proofs.tag_tops.numbered_format.Goals as goal

pub loop-id-preserved : goal.loop-id-preserved
loop-id-preserved c =
    let id = c.loop-id.id in
    let word = keyword c.args.dense in
    c.in_ok-push_id_before.ensures ∙ ap (λ t. t ++ (decimal id ++ comma)) c.loop-id.invariant
    ∙ append_assoc word (ids_before (numbers id)) (decimal id ++ comma) ∙ ap (λ t. word ++ t) (sym (before-next id))

pub returns : goal.returns
returns c =
    let last = c.args.last in
    let end : c.loop-id.id ≡ last = omega (arith, c.loop-id-test.false, c.loop-id.auto.id-end) in
    c.in_ok-push_id.ensures ∙ ap (λ t. t ++ decimal last) (c.loop-id.invariant ∙ ap (λ n. keyword c.args.dense ++ ids_before (numbers n)) end)
    ∙ format-last c.args.dense last
