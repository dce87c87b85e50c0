-- The ledger as plain data, and the rule that holds of it between any two steps.
-- Word 0 is the target, word 1 the units that are assigned to nobody. Words 2 to 17 are the workers' allotments, which they have yet to claim, and words 24, 32, 40 and so
-- on what they counted: each worker's word stands eight words behind the one before, so that no two of them share a line of a processor's cache.
use Rattle.std.specs.Prelude.{◌≡◌, ℕ, zero, suc, ◌+◌, ◌*◌, ◌^◌, ◌<◌, ◌≤◌, Bool, true, false, if◌then◌else◌, nat_lt, ◌==◌, List, [], length, slice_index, replicate, sum_by, count_by}
use mathlib.Core.Option.{some}
use lib.ListN.{get_elem?}
use Rattle.amber_board.specs.declared.view.Role.{Role}
use Rattle.amber_board.specs.declared.view.Role.TheVariants.{Chief, Worker, Spent}
use Rattle.amber_board.specs.declared.view.Kept.{Kept}
use Rattle.amber_board.specs.declared.view.Terms.{Terms}
use Rattle.amber_board.specs.declared.view.View.{View}

-- the units that are assigned to nobody
abbrev pub free_units : List ℕ → ℕ
free_units words = slice_index words 1

-- the units that worker w may claim
abbrev pub allotment : List ℕ → ℕ → ℕ
allotment words w = slice_index words (2 + w)

-- the word of what worker w counted
abbrev pub count_word : ℕ → ℕ
count_word w = 24 + 8 * w

-- the units that worker w counted
abbrev pub tally : List ℕ → ℕ → ℕ
tally words w = slice_index words (count_word w)

-- f 0 + f 1 + .. + f (n - 1)
unfoldable pub total_below : ℕ → (ℕ → ℕ) → ℕ
total_below zero f = 0
total_below (suc n) f = f zero + total_below n (λ k. f (suc k))

-- the units in the hands of all seats
abbrev pub hands : List View → ℕ
hands views = sum_by (λ v. v.hand) views

-- the worker whose seat it is
abbrev pub worker_number_of : Role → ℕ
worker_number_of Chief = 0
worker_number_of (Worker n) = n
worker_number_of Spent = 0

-- whether the seat is worker w's
abbrev pub is_worker : ℕ → Role → Bool
is_worker w Chief = false
is_worker w (Worker n) = n == w
is_worker w Spent = false

-- how many seats of worker w are out
abbrev pub seats_of : ℕ → List View → ℕ
seats_of w views = count_by (λ v. is_worker w v.role) views

-- what the seats of worker w that are out counted
abbrev pub mine_of : ℕ → List View → ℕ
mine_of w views = sum_by (λ v. if is_worker w v.role then v.mine else 0) views

-- how often the chief took in a seat of worker w
abbrev pub times_kept : ℕ → List Kept → ℕ
times_kept w kept = count_by (λ k. k.worker == w) kept

-- what the seats of worker w that the chief took in had counted
abbrev pub kept_of : ℕ → List Kept → ℕ
kept_of w kept = sum_by (λ k. if k.worker == w then k.count else 0) kept

-- 1 for yes
abbrev pub flag : Bool → ℕ
flag true = 1
flag false = 0

-- a view, and its place among all views
pub record PlacedView : Type 0 where
  pub place : ℕ
  pub view : View

-- the rule, where this is the chief's view
pub record ConservedBy (terms : Terms) (words : List ℕ) (views : List View) (chief : PlacedView) : Type 0 where
  -- no unit is made or lost
  pub units : free_units words + total_below 16 (allotment words) + total_below 16 (tally words) + hands views ≡ terms.target
  -- exactly one view is the chief's
  pub there : get_elem? views chief.place ≡ some chief.view
  pub is_chief : chief.view.role ≡ Chief
  pub only : (k : ℕ) (v : View) → get_elem? views k ≡ some v → v.role ≡ Chief → k ≡ chief.place
  -- each worker below `made` has one seat, which is out or was taken in, and no other worker has one
  pub seats : (w : ℕ) → seats_of w views + times_kept w chief.view.kept ≡ flag (nat_lt w chief.view.made)
  pub made : chief.view.made ≤ terms.workers
  pub unmade : (w : ℕ) → chief.view.made ≤ w → w < 16 → (allotment words w ≡ 0) × (tally words w ≡ 0)
  pub spent : (k : ℕ) (v : View) → get_elem? views k ≡ some v → v.role ≡ Spent → v.hand ≡ 0
  -- a worker's word is what its seat counted, or had counted when it was taken in
  pub mine : (w : ℕ) → w < 16 → tally words w ≡ mine_of w views + kept_of w chief.view.kept
  -- what the chief saw of a worker is at most what that worker counted
  pub seen : (w : ℕ) → w < 16 → slice_index chief.view.seen w ≤ tally words w
  pub all_seen : length chief.view.seen ≡ 16
  -- what the words and the chief say of the target, and how large a board may be
  pub target : (slice_index words 0 ≡ terms.target) × (chief.view.target ≡ terms.target)
  pub size : length words ≡ 152
  pub limits : (terms.target ≤ 2 ^ 40) × (terms.workers ≤ 16)

-- the conservation rule of the ledger
abbrev pub Conserved : Terms → List ℕ → List View → Type 0
Conserved terms words views = (chief : PlacedView) × ConservedBy terms words views chief

-- every unit is counted, and none is anywhere else
pub record IsAllCounted (target : ℕ) (words : List ℕ) (views : List View) : Type 0 where
  pub counted_all : total_below 16 (tally words) ≡ target
  pub none_unassigned : free_units words ≡ 0
  pub none_allotted : total_below 16 (allotment words) ≡ 0
  pub none_in_hand : hands views ≡ 0

-- the chief's view before any seat is made
abbrev pub first_view : Terms → View
first_view terms = record { role = Chief; hand = 0; mine = 0; target = terms.target; made = 0; seen = replicate 16 0; kept = []; done = [] }

-- in every state that meets the rule and has this view of a worker's seat, that worker's word is what the seat counted
abbrev pub IsWord : View → Type 0
IsWord v = (terms : Terms) (words : List ℕ) (views : List View) (k : ℕ) → Conserved terms words views → get_elem? views k ≡ some v → tally words (worker_number_of v.role) ≡ v.mine

-- in every state that meets the rule and has this view of the chief, no worker counted less than the chief saw
abbrev pub IsSeen : View → Type 0
IsSeen v = (terms : Terms) (words : List ℕ) (views : List View) (k : ℕ) → Conserved terms words views → get_elem? views k ≡ some v → (w : ℕ) → w < 16 → slice_index v.seen w ≤ tally words w

-- in every state that meets the rule and has this view of the chief, every unit is counted
abbrev pub IsExact : View → Type 0
IsExact v = (terms : Terms) (words : List ℕ) (views : List View) (k : ℕ) → Conserved terms words views → get_elem? views k ≡ some v → IsAllCounted terms.target words views

-- ---- laws

abbrev pub CountsAreMine : Type 0
CountsAreMine = (v : View) (number : ℕ) → v.role ≡ Worker number → number < 16 → IsWord v

abbrev pub SeenWasCounted : Type 0
SeenWasCounted = (v : View) → v.role ≡ Chief → IsSeen v
