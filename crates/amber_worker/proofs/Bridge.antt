-- The rule of a line that takes rows, as a worker sees it and as its position does.
use Rattle.std.proofs.Common.{◌≡◌, ℕ, ◌+◌, ◌-◌, ◌<◌, ◌≤◌, List, [], ◌++◌, length, take, drop, Option, Some, None, Bool, true, sym, ap, ◌∙◌, arith, subst}
use Rattle.std.specs.Option.{IfSome, is_some}
use Rattle.std.proofs.lemmas.Bool.{false≢true}
use Rattle.std.proofs.lemmas.List.{append-nil}
use Rattle.amber_rows.specs.declared.value.Value.{Value}
use Rattle.amber_rows.specs.declared.cond.Cond.{Cond}
use Rattle.amber_meaning.specs.Position.{Position, Restraint, product}
use Rattle.amber_meaning.specs.Rules.{IsFree, MayGo, assigned, pass_by, produced_with, product_with}
use Rattle.amber_worker.specs.AtPosition.{Context, Shows}
use Rattle.amber_worker.specs.RedoneRows.{IsGivenLast, MayGoFrom, yielded}
use Rattle.amber_worker.specs.WorkerState.{WorkerState}
use Rattle.amber_worker.specs.declared.redoing.Armed.{Armed}
use Rattle.amber_worker.specs.declared.redone_rows.RowsLine.{RowsLine}
use Rattle.amber_worker.proofs.RowsYielded.{gives-none, made-length, pending-length, pending-more, rest-length}

-- a count is armed as the line says, with the hand that the line says
pub record IsArmedSo (counted : Bool) (line : RowsLine) (w : WorkerState) : Type 0 where
  pub counted_so : counted ≡ is_some line.armed
  pub hand : IfSome line.armed (λ (armed : Armed). w.restraint.hand ≡ armed.hand)

-- what a line says of a hand
of-hand : (P : ℕ → Type 0) (armed : Option Armed) (counted : Bool) (hand : ℕ) → counted ≡ is_some armed → IfSome armed (λ (a : Armed). hand ≡ a.hand) → IfSome armed (λ (a : Armed). P a.hand) → counted ≡ true → P hand
of-hand P None counted hand so same holds armed = absurd (false≢true (sym so ∙ armed))
of-hand P (Some a) counted hand so same holds armed = subst P (sym same) holds

to-hand : (P : ℕ → Type 0) (armed : Option Armed) (counted : Bool) (hand : ℕ) → counted ≡ is_some armed → IfSome armed (λ (a : Armed). hand ≡ a.hand) → (counted ≡ true → P hand) → IfSome armed (λ (a : Armed). P a.hand)
to-hand P None counted hand so same holds = tt
to-hand P (Some a) counted hand so same holds = subst P same (holds so)

module _ (context : Context) (w : WorkerState) (p : Position) (line : RowsLine) (last : List (List Value))
    (shows : Shows context w p) (armed : IsArmedSo context.orders.counted line w) (given : IsGivenLast line.rows w last) where
  abbrev made : ℕ
  made = length (product context.placement.role p.taken p.constants)

  hand-same : w.restraint.hand ≡ p.restraint.hand
  hand-same = ap (λ (r : Restraint). r.hand) shows.restraint

  -- how many rows were produced before the last that is taken
  before-last : line.rows ≤ length w.rest → 0 < line.rows
      → produced_with context.placement.role context.orders p (line.rows - 1) ≡ made + length (yielded (line.rows - 1) w)
  before-last within some =
      let less : line.rows - 1 < length w.rest = omega (arith, within, some) in
      made-length context w p shows (line.rows - 1) [] (omega (arith, less)) (gives-none (line.rows - 1) w less) ∙ ap (λ l. made + length l) (append-nil (yielded (line.rows - 1) w))

  -- of the rows that are emitted none holds the worker
  same-stop : line.rows ≤ length w.rest
      → pass_by context.orders.when p.restraint.waved (take line.outs (drop (length p.outcomes) (product_with context.placement.role context.orders p line.rows)))
      ≡ pass_by w.when w.restraint.waved (take line.outs (w.pending ++ (yielded line.rows w ++ last)))
  same-stop within =
      ap (λ l. pass_by context.orders.when p.restraint.waved (take line.outs l)) (pending-more context w p shows line.rows last within given)
      ∙ ap (λ (r : Restraint). pass_by context.orders.when r.waved (take line.outs (w.pending ++ (yielded line.rows w ++ last)))) (sym shows.restraint)
      ∙ ap (λ (when : Option Cond). pass_by when w.restraint.waved (take line.outs (w.pending ++ (yielded line.rows w ++ last)))) (sym shows.when)

  -- what the worker sees is enough
  pub may-go : IsFree p → MayGoFrom line last w → MayGo (assigned context.placement.role context.orders) p line.rows line.outs
  may-go free may =
      let within = may.fits.within in
      let produced = may.fits.produced in
      let left = rest-length context w p shows in
      let pending = pending-length context w p shows in
      let inside = shows.within in
      let outcomes : length p.outcomes ≤ made = shows.produced in
      let all = made-length context w p shows line.rows last within given in
      record {
        free = free;
        within = omega (arith, within, left, inside);
        produced = omega (arith, produced, pending, outcomes, all);
        drained = λ some.
            let before = before-last within some in
            let drained = may.fits.drained some in
            omega (arith, drained, pending, outcomes, before);
        in_hand = λ counted.
            let has : line.outs ≤ w.restraint.hand = of-hand (λ n. line.outs ≤ n) line.armed context.orders.counted w.restraint.hand armed.counted_so armed.hand may.fits.in_hand counted in
            omega (arith, has, hand-same);
        before_taking = λ counted some.
            let before = before-last within some in
            let has = of-hand (λ n. 0 < line.rows → length w.pending + length (yielded (line.rows - 1) w) < n) line.armed context.orders.counted w.restraint.hand armed.counted_so armed.hand may.fits.before_taking counted some in
            omega (arith, has, hand-same, pending, outcomes, before);
        no_stop = same-stop within ∙ may.no_stop;
      }

  -- and what the rule asks is what the worker sees
  pub may-go-back : MayGo (assigned context.placement.role context.orders) p line.rows line.outs → MayGoFrom line last w
  may-go-back may =
      let left = rest-length context w p shows in
      let pending = pending-length context w p shows in
      let inside = shows.within in
      let outcomes : length p.outcomes ≤ made = shows.produced in
      let taken = may.within in
      let produced = may.produced in
      let within : line.rows ≤ length w.rest = omega (arith, taken, left, inside) in
      let all = made-length context w p shows line.rows last within given in
      record {
        fits = record {
          within = within;
          produced = omega (arith, produced, pending, outcomes, all);
          drained = λ some.
              let before = before-last within some in
              let drained = may.drained some in
              omega (arith, drained, pending, outcomes, before);
          in_hand = to-hand (λ n. line.outs ≤ n) line.armed context.orders.counted w.restraint.hand armed.counted_so armed.hand
              (λ counted. let has = may.in_hand counted in omega (arith, has, hand-same));
          before_taking = to-hand (λ n. 0 < line.rows → length w.pending + length (yielded (line.rows - 1) w) < n) line.armed context.orders.counted w.restraint.hand armed.counted_so armed.hand
              (λ counted some.
              let before = before-last within some in
              let has = may.before_taking counted some in
              omega (arith, has, hand-same, pending, outcomes, before));
        };
        no_stop = sym (same-stop within) ∙ may.no_stop;
      }
