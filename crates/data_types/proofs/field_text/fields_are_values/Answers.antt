use Rattle.data_types.proofs.FieldValues.{read_is_value}
use Rattle.data_types.proofs.field_text.fields_are_values.Goals as goal

pub returns : goal.returns
returns c = read_is_value c.args.kind.now
