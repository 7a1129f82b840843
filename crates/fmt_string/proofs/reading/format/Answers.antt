use Rattle.std.proofs.Common.{◌<◌, [], length, ap, arith, rules, refl, sym, inl, inr}
use Rattle.std.proofs.lemmas.List.{length-map}
use Rattle.fmt_string.specs.declared.keyword.Keyword.{Keyword as CodeKeyword}
use Rattle.fmt_string.specs.declared.keyword.Behind.TheVariants as code
use Rattle.fmt_string.specs.Meaning.{keyword_of}
use Rattle.std.proofs.lemmas.Result.{IfOk-weaker, MatchResult-weaker}
use Rattle.fmt_string.specs.promise.FormatString.{FormatIs}
use Rattle.fmt_string.proofs.Compose.{found_is, word_within, format_is, fault_is, unknown_is}
use Rattle.fmt_string.proofs.reading.format.Goals as goal

-- what is past the end of the table
nothing : CodeKeyword
nothing = record { word = record { ref_ptr = (0, 0); now = [] }; behind = code.Unsupported }

pub returns-in_default-clause-fault : goal.returns-in_default-clause-fault
returns-in_default-clause-fault c =
    let some : 0 < length c.keywords-table.result.now = omega (arith, ap length c.keywords-table.ensures, length-map c.keywords-table.result.now keyword_of) in
    inr (inl (
      refl,
      search rules,
      unknown_is c.keywords-table.result.now c.args.text.now nothing c.longest_known-place.result c.keywords-table.ensures some
          c.in_default.ensures.none c.longest_known-place.ensures,
    ))

pub split_at-requires : goal.split_at-requires
split_at-requires c =
    word_within c.args.text.now _ (found_is c.keywords-table.result.now c.args.text.now c.in-Some.i _ c.keywords-table.ensures (sym c.in-Some.ensures.first))

pub returns-clause-found : goal.returns-clause-found
returns-clause-found c =
    IfOk-weaker c.behind.result _ (FormatIs c.args.text.now)
    (λ kind h. format_is c.args.text.now c.split_at.result.1.now _ kind
    (found_is c.keywords-table.result.now c.args.text.now c.in-Some.i _ c.keywords-table.ensures (sym c.in-Some.ensures.first)) c.split_at.ensures.back h)
    c.behind.ensures.found

pub returns-clause-fault : goal.returns-clause-fault
returns-clause-fault c =
    MatchResult-weaker c.behind.result c.behind.ensures.fault (λ kind h. tt)
    (λ f h. fault_is c.args.text.now c.split_at.result.1.now _ f
    (found_is c.keywords-table.result.now c.args.text.now c.in-Some.i _ c.keywords-table.ensures (sym c.in-Some.ensures.first)) c.split_at.ensures.back h)
