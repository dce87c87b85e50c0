-- The run to the end is a command that fits any workflow.
use Rattle.std.proofs.Common.{refl}
use Rattle.amber_log.specs.Fits.{fits_of}
use Rattle.amber_debug_tests.proofs.debug.end_text.Goals as goal

pub command-requires-clause-fits : goal.command-requires-clause-fits
unfolding fits_of
command-requires-clause-fits g c = λ lifetimes within. refl
