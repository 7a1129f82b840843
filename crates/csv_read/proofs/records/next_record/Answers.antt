use Rattle.std.proofs.Common.{◌≡◌, true, false, Bool, Result, Ok}
use Rattle.csv.specs.Records.{fields_of}
use Rattle.unit_pass.specs.declared.no_memory.NoMemory.{NoMemory}
use Rattle.csv_read.proofs.RecordReading.{InTurn, Stepped, ended, stepped}
use Rattle.csv_read.proofs.records.next_record.Given.{Over}
use Rattle.csv_read.proofs.records.next_record.Goals as goal

same-found : (a b : Bool) → ◌≡◌ {A = Result Bool NoMemory} (Ok a) (Ok b) → a ≡ b
same-found a b e = cc

-- the law that is called
in-turn : (g : Over) (c : goal.In-Ok g) → InTurn
in-turn g c =
    let law = c.records_are_read_in_turn.ensures in
    record { next = law.next; end = law.end; between = law.between; shorter = law.shorter; bytes = law.bytes; count = law.count }

-- the read found a record
step : (g : Over) (c : goal.In-Ok g) → ◌≡◌ {A = Result Bool NoMemory} (Ok c.in-Ok.found) (Ok true)
    → Stepped g.R.Read.remaining c.args.reader.now c.read_byte_record.new.self (fields_of c.read_byte_record.new.row)
step g c e =
    let found : c.in-Ok.found ≡ true = same-found c.in-Ok.found true e in
    let told = c.in-Ok.ensures in
    let read = rw found at (told.reads c.requires.trim c.requires.ready) in
    stepped (in-turn g c) g.R.Read.remaining c.args.reader.now c.read_byte_record.new.self (fields_of c.read_byte_record.new.row) c.requires read
    (told.ready c.requires.trim) told.flexible told.goes

pub returns-in-Ok-clause-reads_on : goal.returns-in-Ok-clause-reads_on
returns-in-Ok-clause-reads_on g c e = (step g c e).reading

pub returns-in-Ok-clause-more : goal.returns-in-Ok-clause-more
returns-in-Ok-clause-more g c e = (step g c e).more

pub returns-in-Ok-clause-some : goal.returns-in-Ok-clause-some
returns-in-Ok-clause-some g c e = (step g c e).some

pub returns-in-Ok-clause-takes : goal.returns-in-Ok-clause-takes
returns-in-Ok-clause-takes g c e = (step g c e).takes

pub returns-in-Ok-clause-end : goal.returns-in-Ok-clause-end
returns-in-Ok-clause-end g c e =
    let found : c.in-Ok.found ≡ false = same-found c.in-Ok.found false e in
    let read = rw found at (c.in-Ok.ensures.reads c.requires.trim c.requires.ready) in
    ended (in-turn g c) g.R.Read.remaining c.args.reader.now c.read_byte_record.new.self (fields_of c.read_byte_record.new.row) c.requires read
