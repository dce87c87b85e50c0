-- Nothing of the file was read when its records are.
use Rattle.amber_plain.proofs.scan.read_file.Goals as goal

pub returns-clause-moved : goal.returns-clause-moved
returns-clause-moved c = c.read_records.ensures.moved c.args.file.now c.open-reader.ensures

pub returns-clause-left : goal.returns-clause-left
returns-clause-left c = c.read_records.ensures.left c.args.file.now c.open-reader.ensures

pub returns-clause-refused : goal.returns-clause-refused
returns-clause-refused c = c.read_records.ensures.refused c.args.file.now c.open-reader.ensures
