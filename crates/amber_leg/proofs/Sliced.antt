-- Turns of a worker in slices.
use Rattle.std.proofs.Common.{◌≡◌, ◌+◌, ◌-◌, ◌^◌, ◌<◌, ◌≤◌, ◌++◌, ℕ, List, [], Option, None, Some, option_to_list, count_by, length, inl, inr, refl, arith}
use Rattle.std.proofs.lemmas.Bool.{cases_lt}
use Rattle.std.proofs.lemmas.List.Sums.{count_by-le-length}
use Rattle.amber_mail.specs.Controls.{is_pause}
use Rattle.amber_mail.specs.Rings.{taken_controls, waiting_controls}
use Rattle.amber_mail.specs.declared.mail.Control.{Control}
use Rattle.amber_mail.specs.declared.rings.RingMail.{RingMail}
use Rattle.std.specs.Option.{IfNone}
use Rattle.amber_worker.specs.Driving.{CountsTurns, Driven}
use Rattle.amber_worker.specs.Turning.{MakesTurns}
use Rattle.amber_worker.specs.WorkerState.{WorkerState}
use Rattle.amber_worker.proofs.ManyTurns.{makes-armed, makes-more, makes-same, makes-then}
use Rattle.amber_leg.specs.Slices.{HasCounted, Heeds, HeedsMail}

-- a drive makes no more turns than it was asked for
pub drives-most : (turns : List Driven) (most looks looked pauses paused : ℕ) (old new : WorkerState) → looked ≡ looks + length turns
    → paused ≡ pauses + count_by (λ (one : Driven). is_pause one.told) turns → length turns ≤ most
    → ((n : ℕ) → n + looks + paused ≡ looked + pauses → MakesTurns n old new) → MakesTurns most old new
drives-most turns most looks looked pauses paused old new looked-is paused-is within makes =
    let few : count_by (λ (one : Driven). is_pause one.told) turns ≤ length turns = count_by-le-length (λ (one : Driven). is_pause one.told) turns in
    let n : ℕ = length turns - count_by (λ (one : Driven). is_pause one.told) turns in
    makes-more n most old new (omega (arith, few, within)) (makes n (omega (arith, few, looked-is, paused-is)))

-- what a worker has counted that was driven, for so many turns at most
pub counted-drive : (turns most : ℕ) (old new : WorkerState) → old.turned + most < 2 ^ 64 → turns ≤ most → (0 < most → 0 < turns) → CountsTurns turns old new → MakesTurns most old new
    → HasCounted most old new
counted-drive turns most old new fits within some counts makes =
    let is = counts.turned (omega (arith, fits, within)) in
    let steps = counts.steps in
    record {
      makes = makes;
      some = λ one. let first = some (omega (arith, one)) in omega (arith, is, first);
      more = omega (arith, is);
      within = omega (arith, is, within);
      steps = omega (arith, is, steps);
    }

-- none
pub counted-same : (w : WorkerState) → HasCounted 0 w w
counted-same w = record { makes = makes-same w; some = λ one. absurd (omega (arith, one)); more = omega arith; within = omega arith; steps = omega arith }

-- no more than so many
pub counted-more : (m n : ℕ) (a b : WorkerState) → m ≤ n → (1 ≤ n → 1 ≤ m) → HasCounted m a b → HasCounted n a b
counted-more m n a b within some one = record {
  makes = makes-more m n a b within one.makes;
  some = λ first. one.some (some first);
  more = one.more;
  within = (let most = one.within in omega (arith, within, most));
  steps = one.steps;
}

-- slices, one after the other
pub counted-then : (m n : ℕ) (a b c : WorkerState) → HasCounted m a b → HasCounted n b c → HasCounted (m + n) a c
counted-then m n a b c one two =
    let first = one.more in
    let second = two.more in
    record {
      makes = makes-then m n a b c (makes-armed m a b one.makes) one.makes two.makes;
      some = λ some. elim (cases_lt 0 m) [
        | inl before ↦ (let more = one.some (let before = before in omega arith) in omega (arith, more, second))
        | inr none ↦ (let more = two.some (let none = none in omega (arith, some)) in omega (arith, more, first))
      ];
      more = omega (arith, first, second);
      within = (let most = one.within in let rest = two.within in omega (arith, most, rest));
      steps = (let made = one.steps in let rest = two.steps in omega (arith, made, rest));
    }

pub counted-both : (m n most : ℕ) (a b c : WorkerState) → m + n ≤ most → (1 ≤ most → 1 ≤ m + n) → HasCounted m a b → HasCounted n b c → HasCounted most a c
counted-both m n most a b c within some one two = counted-more (m + n) most a c within some (counted-then m n a b c one two)

-- nothing was told
pub heeds-none : (w : WorkerState) → Heeds None w w
heeds-none w = record { acts = refl; makes = makes-same w; counts = record { turned = λ fits. omega arith; steps = omega arith } }

-- a worker that is told nothing does nothing
pub heeds-same : (told : Option Control) (w : WorkerState) → ((control : Control) → told ≡ Some control → ⊥) → Heeds told w w
heeds-same None w not = heeds-none w
heeds-same (Some control) w not = absurd (not control refl)

-- nor one whose mail says nothing
pub heeds-mail : (told : Option Control) (before after : RingMail) (w : WorkerState) → ((control : Control) → told ≡ Some control → ⊥)
    → taken_controls after ≡ taken_controls before ++ option_to_list told → IfNone told (waiting_controls after ≡ []) → HeedsMail before after w w
heeds-mail None before after w not taken none = record { told = None; taken = taken; none = λ is. none; heeds = heeds-none w }
heeds-mail (Some control) before after w not taken none = absurd (not control refl)

-- what was told is done behind the turns
pub counted-heeds : (most : ℕ) (told : Option Control) (a b c : WorkerState) → a.turned + most < 2 ^ 64 → HasCounted most a b → Heeds told b c → HasCounted most a c
counted-heeds most told a b c fits one heeds =
    let within = one.within in
    let more = one.more in
    let steps = one.steps in
    let is = heeds.counts.turned (omega (arith, within, fits)) in
    let after = heeds.counts.steps in
    record {
      makes = makes-more (most + 0) most a c (omega arith) (makes-then most 0 a b c (makes-armed most a b one.makes) one.makes heeds.makes);
      some = λ some. let first = one.some some in omega (arith, is, first);
      more = omega (arith, is, more);
      within = omega (arith, is, within);
      steps = omega (arith, is, steps, after);
    }
