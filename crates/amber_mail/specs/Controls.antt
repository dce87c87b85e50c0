-- What a look may be answered by.
use Rattle.std.specs.Prelude.{ℕ, List, Option, None, Some, Bool, true, false, slice_get, unwrap_or}
use Rattle.amber_mail.specs.declared.mail.Control.{Control}
use Rattle.amber_mail.specs.declared.mail.Control.TheVariants as control

-- whether it was a pause
abbrev pub is_pause : Option Control → Bool
is_pause None = false
is_pause (Some control.Pause) = true
is_pause (Some control.Claim) = false
is_pause (Some control.Return) = false

-- what a plan answers to the look before which so many were made: past its end there is no control
abbrev pub answer_at : List (Option Control) → ℕ → Option Control
answer_at plan made = unwrap_or (slice_get plan made) None
