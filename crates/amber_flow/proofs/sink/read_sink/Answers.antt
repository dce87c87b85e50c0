-- The sink that was meant, with the columns of its input.
use Rattle.std.proofs.Common.{refl}
use Rattle.amber_flow.specs.Operators.{sink_of}
use Rattle.amber_flow.proofs.ReadFacts.{refused}
use Rattle.amber_flow.proofs.sink.read_sink.Goals as goal

pub returns : goal.returns
unfolding sink_of
returns c = record {
  parts = rw (← c.in_ok-id.ensures, ← c.in_ok-input.ensures.number, c.schema_at.ensures.columns, c.in_ok-schema.ensures.cases);
  kind = rw c.in_ok-schema.ensures.cases c.schema_at.ensures.input;
  sink = refl;
}

pub returns-in_err-id-clause-parts : goal.returns-in_err-id-clause-parts
unfolding sink_of
returns-in_err-id-clause-parts c = rw (← c.in_err-id.ensures) (refused c.from_residual.result c.in_err-id.field-0.0 c.from_residual.ensures.1)

pub returns-in_err-input-clause-parts : goal.returns-in_err-input-clause-parts
unfolding sink_of
returns-in_err-input-clause-parts c =
    rw (← c.in_ok-id.ensures, ← c.in_err-input.ensures.number) (refused c.from_residual-in_err-input.result c.in_err-input.field-0.0 c.from_residual-in_err-input.ensures.1)
