-- What is printed and what is left are all views.
use Rattle.std.proofs.Common.{◌≡◌, ◌++◌, drop}
use Rattle.amber_meaning.specs.Texts.{views_text}
use Rattle.amber_report.proofs.inspect.push_views.Given as goal

abbrev pub invariant-loop-worker : goal.invariant-loop-worker
invariant-loop-worker l = l.text.items ++ views_text l.worker (drop l.worker l.views) ≡ l.fn.text.items ++ views_text 0 l.views
