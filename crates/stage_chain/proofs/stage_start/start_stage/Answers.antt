use Rattle.std.proofs.Common.{arith, ◌+◌, ◌∙◌, List, map, ap, subst}
use Rattle.std.specs.Prelude.{None, Some}
use Rattle.std.specs.List.{sum_by}
use Rattle.data_types.specs.ColumnView.{column_of}
use Rattle.data_types.specs.promise.Table.{Row}
use Rattle.stream_face.specs.Meaning.{meaning, raw_link}
use Rattle.stage_model.specs.promise.Traffic.{made_blocks, made_nodes}
use Rattle.data_types.specs.declared.kind.ColumnType.{ColumnType}
use Rattle.stage_chain.specs.Plans.{stage_in}
use Rattle.stage_chain.proofs.TypedKinds.{kinds-ok}
use Rattle.stage_chain.proofs.stage_start.start_stage.Goals as goal

pub new-out-requires-clause-kinds : goal.new-out-requires-clause-kinds
new-out-requires-clause-kinds g c =
    let up = meaning g.U.ArrayStream.state c.args.up in
    let lawful = c.lawful_facts.ensures.columns c.requires.lawful in
    kinds-ok c.args.stage.columns.items
    (c.stages_keep_columns.ensures.kinds up.columns (stage_in c.args.stage) c.requires.stage lawful.kinds)

pub new-out-requires-clause-small : goal.new-out-requires-clause-small
new-out-requires-clause-small g c =
    let up = meaning g.U.ArrayStream.state c.args.up in
    let lawful = c.lawful_facts.ensures.columns c.requires.lawful in
    let few = c.stages_keep_columns.ensures.leaves up.columns (stage_in c.args.stage) c.requires.stage lawful.few in
    let structs = c.stages_keep_columns.ensures.structs up.columns (stage_in c.args.stage) c.requires.stage in
    let nodes = c.schemas_are_small.ensures.nodes (map column_of c.args.stage.columns.items) in
    omega (arith, few, structs, nodes, lawful.few, c.requires.structs)

pub new-out-requires-clause-not_deep : goal.new-out-requires-clause-not_deep
new-out-requires-clause-not_deep g c =
    let up = meaning g.U.ArrayStream.state c.args.up in
    let structs = c.stages_keep_columns.ensures.structs up.columns (stage_in c.args.stage) c.requires.stage in
    let depth = c.schemas_are_small.ensures.depth (map column_of c.args.stage.columns.items) in
    omega (arith, structs, depth, c.requires.structs)

pub returns-clause-means : goal.returns-clause-means
returns-clause-means g c =
    let up = meaning g.U.ArrayStream.state c.args.up in
    let step = c.args.stage.step in
    let kept = c.new-out.ensures in
    let columns = ap (map column_of) (c.of.ensures.columns ∙ kept) in
    let tables = c.of.ensures.ahead up.ending up.ahead in
    let blocks = λ (rows : List Row). c.of.ensures.blocks rows
    ∙ ap (λ (cs : List ColumnType). made_blocks (Some step) (map column_of cs) rows) kept in
    let nodes = λ (rows : List Row). c.of.ensures.nodes rows ∙ ap (λ (cs : List ColumnType). made_nodes (Some step) (map column_of cs)) kept in
    c.start.ensures.means ∙ (λ i. record up {
      columns = columns i;
      ahead = tables i;
      making = Some (record { link = raw_link c.args.up; makes = λ more. c.of.ensures.ahead up.ending more i });
      due = record {
        blocks = up.due.blocks + sum_by (λ rows. blocks rows i) (tables i);
        nodes = up.due.nodes + sum_by (λ rows. nodes rows i) (tables i);
      };
      schema = None;
      chunk = None;
      gave = None;
      said = None;
    })

pub returns-clause-besides : goal.returns-clause-besides
returns-clause-besides g c = λ rows chunk given.
    subst (λ (cs : List ColumnType). g.W.PlanStep.besides c.args.stage.step (map column_of cs) rows chunk) c.new-out.ensures
    (c.of.ensures.gives rows chunk (c.start.ensures.besides rows chunk given))
