-- What stays in force where what stands was taken away, one operator after the other.
use Rattle.std.proofs.Common.{◌≡◌, ◌≢◌, sym, ap, ◌∙◌, ℕ, ◌<◌, ◌≤◌, List, length, Some, option_map, arith}
use Rattle.std.proofs.lemmas.List.{length-map}
use Rattle.amber_rows.specs.Lists.{changed_at, nth}
use Rattle.amber_meaning.specs.Stops.{op_numbers}
use Rattle.amber_dataflow.specs.Dataflow.{DataflowState, rows_emitted}
use Rattle.amber_dataflow.proofs.Numbered.{length-ops, nth-numbers}
use Rattle.amber_home.specs.Asked.{Asked, asked_left, no_asked}
use Rattle.amber_home.specs.Leg.{cut_arms, cut_at}
use Rattle.amber_home.proofs.Places.{length-changed_at, nth-here, nth-other, nth-same, nth-some}

-- ---- one operator more

module _ (first : List Asked) (d : DataflowState) (arms after : List Asked) (op : ℕ) (some : 0 < op) (within : op ≤ length first)
    (after-is : after ≡ changed_at (asked_left (rows_emitted d op)) op arms) where
  -- as many are there
  pub ended-long : length after ≡ length arms
  ended-long = ap length after-is ∙ length-changed_at (asked_left (rows_emitted d op)) op arms

  -- the others are as they were
  pub ended-other : (k : ℕ) → k ≢ op → nth after k ≡ nth arms k
  ended-other k ne = ap (λ xs. nth xs k) after-is ∙ nth-other (asked_left (rows_emitted d op)) op arms k ne

  -- this one is as it is to be
  pub ended-here : nth arms op ≡ nth first op → nth after op ≡ Some (cut_at first d op)
  ended-here same =
      ap (λ xs. nth xs op) after-is ∙ nth-here (asked_left (rows_emitted d op)) op arms some
      ∙ ap (option_map (asked_left (rows_emitted d op))) (same ∙ nth-some no_asked first op some within)

-- ---- all of them

-- once each was, what is left is what a cut leaves
pub ended-all : (first : List Asked) (d : DataflowState) (arms : List Asked) (count : ℕ) → length first ≡ length d.flow → length arms ≡ length first → length d.flow ≤ count
    → ((op : ℕ) → 0 < op → op ≤ count → nth arms op ≡ Some (cut_at first d op)) → arms ≡ cut_arms first d
ended-all first d arms count long same all done =
    nth-same arms (cut_arms first d) (same ∙ long ∙ sym (length-map (op_numbers d.flow) (cut_at first d) ∙ length-ops d.flow))
    (λ op some within. done op some (omega arith) ∙ sym (nth-numbers (cut_at first d) d.flow op some (omega arith)))
