-- The first place, or none.
use Rattle.amber_cut.specs.Lines.{ends_line}
use Rattle.amber_cut.proofs.Places.{parts-None, parts-Some}
use Rattle.amber_cut.proofs.finding.line_end.Goals as goal

pub returns-in-Some-clause-line : goal.returns-in-Some-clause-line
returns-in-Some-clause-line c = (parts-Some ends_line c.args.bytes.now c.in-Some.end c.in-Some.ensures).0

pub returns-in-Some-clause-later : goal.returns-in-Some-clause-later
returns-in-Some-clause-later c = (parts-Some ends_line c.args.bytes.now c.in-Some.end c.in-Some.ensures).1

pub returns-in-None-clause-line : goal.returns-in-None-clause-line
returns-in-None-clause-line c = (parts-None ends_line c.args.bytes.now c.in-None.ensures).0

pub returns-in-None-clause-later : goal.returns-in-None-clause-later
returns-in-None-clause-later c = (parts-None ends_line c.args.bytes.now c.in-None.ensures).1
