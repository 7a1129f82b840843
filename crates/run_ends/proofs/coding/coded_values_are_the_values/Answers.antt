use Rattle.run_ends.proofs.ValueRuns.{apart}
use Rattle.run_ends.proofs.CodedSchema.{coded_schema}
use Rattle.run_ends.proofs.CodedTree.{coded_lawful, coded_values}
use Rattle.run_ends.proofs.coding.coded_values_are_the_values.Goals as goal

pub returns : goal.returns
returns c =
    let law = c.encoded_columns_are_lawful.ensures in
    record {
      schema = coded_schema c.spelling_reads_back.ensures.spelled;
      lawful = λ kind values fits small. coded_lawful law.values law.lawful kind values fits small;
      values = λ kind values fits small. coded_values law.values law.lawful kind values fits small;
      apart = apart 0;
    }
