-- What the workers give, one after the other.
use Rattle.std.proofs.Common.{◌≡◌, refl, sym, ap, subst, ◌∙◌, ℕ, suc, ◌+◌, ◌<◌, ◌≤◌, List, [], ◌∷◌, ◌++◌, length, get_or, take, append-nil, add-one, arith}
use Rattle.std.specs.List.{flat_map}
use Rattle.std.proofs.lemmas.Grind.{flat_map-append, take_at_read}
use Rattle.std.proofs.lemmas.List.{get_or_append_left, get_or_push, length_push, take_all}
use Rattle.amber_rows.specs.Lists.{numbers_below}
use Rattle.amber_rows.specs.declared.value.Value.{Value}
use Rattle.amber_meaning.specs.declared.answer.Refusal.{Refusal}
use Rattle.amber_meaning.specs.Legal.{Query}
use Rattle.amber_meaning.specs.Position.{Position}
use Rattle.amber_worker.specs.AtPosition.{Context, IsGivenOf, Shows, placement_of}
use Rattle.amber_worker.specs.WorkerState.{WorkerState}
use Rattle.amber_worker.specs.declared.given.Given.{Given}
use Rattle.amber_worker.proofs.Shares.{by_number-share}
use Rattle.amber_dataflow.specs.Answers.{HaveGiven, ShowAll, refused_at, rows_before}
use Rattle.amber_dataflow.specs.AtWork.{no_worker_state, placement_at}

pub given-none : (refused : List Refusal) (rows : List (List Value)) → refused ≡ [] → rows ≡ [] → HaveGiven [] refused rows
unfolding HaveGiven rows_before numbers_below
given-none refused rows none empty query positions shows = (none, empty)

all-before : (query : Query) (crew : List WorkerState) (w : WorkerState) (positions : ℕ → Position) → ShowAll query (crew ++ w ∷ []) positions → ShowAll query crew positions
all-before query crew w positions shows k below =
    let one = shows k (rw (length_push crew w) (omega arith)) in
    (one.0, one.1, subst (λ v. Shows (record { placement = placement_at query k; orders = one.0; base = one.1 }) v (positions k)) (get_or_append_left crew (w ∷ []) no_worker_state k below) one.2)

pub given-more : (crew : List WorkerState) (w : WorkerState) (given : Given) (refused longer : List Refusal) (rows : List (List Value))
    → HaveGiven crew refused rows → IsGivenOf w given → longer ≡ refused ++ given.refused → HaveGiven (crew ++ w ∷ []) longer given.rows
unfolding HaveGiven IsGivenOf refused_at rows_before numbers_below placement_of
given-more crew w given refused longer rows before gives is query positions shows =
    let n = length crew in
    let last = shows n (rw (length_push crew w) (omega arith)) in
    let context : Context = record { placement = placement_at query n; orders = last.0; base = last.1 } in
    let here = gives context (positions n) (λ m. by_number-share query.flow query.records n m)
    (subst (λ v. Shows context v (positions n)) (get_or_push crew w no_worker_state n refl) last.2) in
    let old = before query positions (all-before query crew w positions shows) in
    let count : length (crew ++ w ∷ []) ≡ suc n = length_push crew w ∙ add-one n in (
      is ∙ ap (λ xs. xs ++ given.refused) old.0
          ∙ ap (λ xs. flat_map (refused_at query positions) (numbers_below n) ++ xs) (here.0 ∙ sym (append-nil (refused_at query positions n)))
          ∙ sym (flat_map-append (refused_at query positions) (numbers_below n) (n ∷ []))
          ∙ ap (λ m. flat_map (refused_at query positions) (numbers_below m)) (sym count),
      here.1 ∙ ap (rows_before query positions) (sym count),
    )

pub given-all : (yielded rest crew : List WorkerState) (refused found : List Refusal) (rows : List (List Value))
    → yielded ++ rest ≡ crew → rest ≡ [] → HaveGiven yielded refused rows → found ≡ refused → HaveGiven crew found rows
given-all yielded rest crew refused found rows all none given found-is =
    let same : yielded ≡ crew = sym (ap (λ xs. yielded ++ xs) none ∙ append-nil yielded) ∙ all in
    subst (λ xs. HaveGiven xs found rows) same (subst (λ xs. HaveGiven yielded xs rows) (sym found-is) given)

-- ---- where they stay

pub given-next : (crew : List WorkerState) (w : WorkerState) (index : ℕ) (given : Given) (refused longer : List Refusal) (rows : List (List Value)) → index < length crew
    → w ≡ get_or crew index w → HaveGiven (take index crew) refused rows → IsGivenOf w given → longer ≡ refused ++ given.refused
    → HaveGiven (take (index + 1) crew) longer given.rows
given-next crew w index given refused longer rows inside is before gives longer-is =
    let more : take (index + 1) crew ≡ take index crew ++ w ∷ [] = (take_at_read crew index w inside).1 ∙ ap (λ v. take index crew ++ v ∷ []) (sym is) in
    subst (λ l. HaveGiven l longer given.rows) (sym more) (given-more (take index crew) w given refused longer rows before gives longer-is)

pub given-whole : (crew : List WorkerState) (index : ℕ) (refused found : List Refusal) (rows : List (List Value)) → length crew ≤ index
    → HaveGiven (take index crew) refused rows → found ≡ refused → HaveGiven crew found rows
given-whole crew index refused found rows all given found-is =
    subst (λ l. HaveGiven l found rows) (take_all index crew all) (subst (λ xs. HaveGiven (take index crew) xs rows) (sym found-is) given)
