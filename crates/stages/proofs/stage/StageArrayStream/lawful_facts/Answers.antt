use Rattle.stream_face.specs.Meaning.{meaning}
use Rattle.stages.proofs.stage.StageArrayStream.lawful_facts.Goals as goal

pub returns-clause-columns : goal.returns-clause-columns
returns-clause-columns g c = λ lawful.
    let s = c.args.self.now in
    let up = meaning g.U.ArrayStream.state s.up in
    c.lawful_facts-2.ensures.columns up.columns s.fits (c.lawful_facts.ensures.columns lawful)

pub returns-clause-tables : goal.returns-clause-tables
returns-clause-tables g c = λ lawful.
    let s = c.args.self.now in
    let up = meaning g.U.ArrayStream.state s.up in
    c.lawful_facts-2.ensures.tables s.rests up.columns up.ending up.ahead s.fits (c.lawful_facts.ensures.columns lawful) (c.lawful_facts.ensures.tables lawful)
