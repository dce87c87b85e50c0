-- What the examples of tests compute with.
use Rattle.std.specs.Prelude.{⊤}
use Rattle.amber_log.specs.Fits.{fits_of}
use Rattle.amber_judge.specs.LegalTests.{are_offered, begins, is_settled, may_close_end, may_close_run, may_lead, may_make, may_reach, may_work, same_rows}
use Rattle.amber_judge.specs.RuleTests.{may_finish, may_give_back, may_go, may_grant, may_hold, may_pause, may_resume, may_take}
use Rattle.amber_meaning.proofs.ExampleCases.{states_on_literals}

-- whether logs are legal
unfoldable pub tests_on_literals : ⊤
unfolding states_on_literals fits_of are_offered begins same_rows is_settled may_close_end may_close_run may_lead may_make may_reach may_work may_finish may_give_back may_go may_grant may_hold may_pause may_resume may_take
tests_on_literals = tt
