use Rattle.data_types.proofs.FieldLaws.{reads_back, mark_is_null, empty_texts}
use Rattle.data_types.proofs.field_text.written_texts_read_back.Goals as goal

pub returns-clause-back : goal.returns-clause-back
returns-clause-back c = reads_back c.args.kind.now

pub returns-clause-the_mark_is_null : goal.returns-clause-the_mark_is_null
returns-clause-the_mark_is_null c = λ mark. mark_is_null mark c.args.kind.now

pub returns-clause-empty_texts : goal.returns-clause-empty_texts
returns-clause-empty_texts c = empty_texts c.args.kind.now
