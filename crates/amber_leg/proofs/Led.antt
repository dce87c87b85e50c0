-- Boards that are led by their chiefs, seen by the boards alone.
use Rattle.std.proofs.Common.{◌≡◌, ℕ, ◌++◌, List, Option, None, Some, Bor, sym, ap, ◌∙◌, subst, drop, length, slice_index_or, take, option_map}
use Rattle.std.proofs.Math.Seq.{take-append_seam}
use Rattle.amber_board.specs.declared.types.Board.{Board}
use Rattle.amber_board.specs.declared.types.ChiefSeat.{ChiefSeat}
use Rattle.amber_boards.specs.Boards.{AreLedBy, CounterState, IsLedBy}
use Rattle.amber_leg.specs.Coordinating.{AreBoardsIn, AreLedOn, IsLedOn}

led-on : (counter : Option CounterState) (chief : Option ChiefSeat) → IsLedBy counter chief → IsLedOn (option_map (λ one. one.board) counter) chief
led-on None None led = tt
led-on None (Some chief) led = led
led-on (Some counter) None led = led
led-on (Some counter) (Some chief) led = led

led-by : (counter : Option CounterState) (chief : Option ChiefSeat) → IsLedOn (option_map (λ one. one.board) counter) chief → IsLedBy counter chief
led-by None None led = tt
led-by None (Some chief) led = led
led-by (Some counter) None led = led
led-by (Some counter) (Some chief) led = led

module _ (boards : List (Option CounterState)) (found : List (Option (Bor Board))) (chiefs : List (Option ChiefSeat)) (are : AreBoardsIn boards found) where
  pub leds-on : AreLedBy boards chiefs → AreLedOn found chiefs
  leds-on led = record {
    all = led.all ∙ sym are.all;
    each = λ place. subst (λ board. IsLedOn board (slice_index_or chiefs place None)) (sym (are.each place))
        (led-on (slice_index_or boards place None) (slice_index_or chiefs place None) (led.each place));
  }

  pub leds-by : AreLedOn found chiefs → AreLedBy boards chiefs
  leds-by led = record {
    all = led.all ∙ are.all;
    each = λ place. led-by (slice_index_or boards place None) (slice_index_or chiefs place None)
        (subst (λ board. IsLedOn board (slice_index_or chiefs place None)) (are.each place) (led.each place));
  }

-- chiefs that were written back over as many lead their boards still
pub back-led : (len : ℕ) (boards : List (Option CounterState)) (found : List (Option (Bor Board))) (old new : List (Option ChiefSeat)) → AreBoardsIn boards found → len ≡ length old → AreLedBy boards old
    → AreLedOn found new → AreLedBy boards (take len (new ++ drop (length new) old))
back-led len boards found old new are long before after =
    let same : len ≡ length new = long ∙ before.all ∙ sym are.all ∙ sym after.all in
    subst (AreLedBy boards) (sym (ap (λ n. take n (new ++ drop (length new) old)) same ∙ take-append_seam new (drop (length new) old))) (leds-by boards found new are after)
