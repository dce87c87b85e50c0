-- What each kind's reader gives.
use Rattle.std.proofs.lemmas.Result.{IfOk-weaker}
use Rattle.amber_flow.proofs.parts.read_parts.Goals as goal

pub read_filter-requires-clause-few : goal.read_filter-requires-clause-few
read_filter-requires-clause-few c = c.requires.few

pub read_filter-requires-clause-narrow : goal.read_filter-requires-clause-narrow
read_filter-requires-clause-narrow c = c.requires.narrow

pub read_project-requires-clause-few : goal.read_project-requires-clause-few
read_project-requires-clause-few c = c.requires.few

pub read_project-requires-clause-narrow : goal.read_project-requires-clause-narrow
read_project-requires-clause-narrow c = c.requires.narrow

pub read_join-requires-clause-few : goal.read_join-requires-clause-few
read_join-requires-clause-few c = c.requires.few

pub read_join-requires-clause-narrow : goal.read_join-requires-clause-narrow
read_join-requires-clause-narrow c = c.requires.narrow

pub read_group-requires-clause-few : goal.read_group-requires-clause-few
read_group-requires-clause-few c = c.requires.few

pub read_group-requires-clause-narrow : goal.read_group-requires-clause-narrow
read_group-requires-clause-narrow c = c.requires.narrow

pub read_sink-requires-clause-few : goal.read_sink-requires-clause-few
read_sink-requires-clause-few c = c.requires.few

pub read_sink-requires-clause-narrow : goal.read_sink-requires-clause-narrow
read_sink-requires-clause-narrow c = c.requires.narrow

pub returns-in-Filter-clause-parts : goal.returns-in-Filter-clause-parts
returns-in-Filter-clause-parts c = rw c.in-Filter.is c.read_filter.ensures.parts

pub returns-in-Filter-clause-kind : goal.returns-in-Filter-clause-kind
returns-in-Filter-clause-kind c = c.read_filter.ensures.kind

pub returns-in-Filter-clause-sink : goal.returns-in-Filter-clause-sink
returns-in-Filter-clause-sink c = rw c.in-Filter.is c.read_filter.ensures.sink

pub returns-in-Project-clause-parts : goal.returns-in-Project-clause-parts
returns-in-Project-clause-parts c = rw c.in-Project.is c.read_project.ensures.parts

pub returns-in-Project-clause-kind : goal.returns-in-Project-clause-kind
returns-in-Project-clause-kind c = c.read_project.ensures.kind

pub returns-in-Project-clause-sink : goal.returns-in-Project-clause-sink
returns-in-Project-clause-sink c = rw c.in-Project.is c.read_project.ensures.sink

pub returns-in-Join-clause-parts : goal.returns-in-Join-clause-parts
returns-in-Join-clause-parts c = rw c.in-Join.is c.read_join.ensures.parts

pub returns-in-Join-clause-kind : goal.returns-in-Join-clause-kind
returns-in-Join-clause-kind c = c.read_join.ensures.kind

pub returns-in-Join-clause-sink : goal.returns-in-Join-clause-sink
returns-in-Join-clause-sink c = rw c.in-Join.is c.read_join.ensures.sink

pub returns-in-Group-clause-parts : goal.returns-in-Group-clause-parts
returns-in-Group-clause-parts c = rw c.in-Group.is c.read_group.ensures.parts

pub returns-in-Group-clause-kind : goal.returns-in-Group-clause-kind
returns-in-Group-clause-kind c = c.read_group.ensures.kind

pub returns-in-Group-clause-sink : goal.returns-in-Group-clause-sink
returns-in-Group-clause-sink c = rw c.in-Group.is c.read_group.ensures.sink

pub returns-in-Scan-clause-parts : goal.returns-in-Scan-clause-parts
returns-in-Scan-clause-parts c = rw c.in-Scan.is c.read_scan.ensures.parts

pub returns-in-Scan-clause-kind : goal.returns-in-Scan-clause-kind
returns-in-Scan-clause-kind c = IfOk-weaker c.read_scan.result _ _ (λ parts kind. kind c.args.before.now) c.read_scan.ensures.kind

pub returns-in-Scan-clause-sink : goal.returns-in-Scan-clause-sink
returns-in-Scan-clause-sink c = rw c.in-Scan.is c.read_scan.ensures.sink

pub returns-in-Sink-clause-parts : goal.returns-in-Sink-clause-parts
returns-in-Sink-clause-parts c = rw c.in-Sink.is c.read_sink.ensures.parts

pub returns-in-Sink-clause-kind : goal.returns-in-Sink-clause-kind
returns-in-Sink-clause-kind c = c.read_sink.ensures.kind

pub returns-in-Sink-clause-sink : goal.returns-in-Sink-clause-sink
returns-in-Sink-clause-sink c = rw c.in-Sink.is c.read_sink.ensures.sink
