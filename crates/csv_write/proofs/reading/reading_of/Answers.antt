use Rattle.csv_write.proofs.reading.reading_of.Goals as goal

pub returns-in-Some : goal.returns-in-Some
returns-in-Some c = c.in-Some.ensures c.args.column.now.entries
