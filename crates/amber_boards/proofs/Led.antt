-- Boards and their chiefs, list by list.
use Rattle.std.proofs.Common.{◌≡◌, refl, sym, subst, ◌∙◌, ℕ, zero, suc, ◌<◌, length, List, [], ◌∷◌, ◌++◌, Option, None, Some, get_or, set, inl, inr, arith, length-set, get_or-set_same, get_or-set_other}
use Rattle.std.proofs.lemmas.Bool.Decides.{eqb_tells}
use Rattle.std.proofs.lemmas.List.{length_push}
use Rattle.amber_board.specs.declared.types.ChiefSeat.{ChiefSeat}
use Rattle.amber_boards.specs.Boards.{AreLedBy, CounterState, IsLedBy}

-- where there is no board there is no chief
pub led-none : (boards : List (Option CounterState)) (chiefs : List (Option ChiefSeat)) → boards ≡ [] → chiefs ≡ [] → AreLedBy boards chiefs
led-none boards chiefs no-boards no-chiefs = rw (no-boards, no-chiefs) (record { all = refl; each = λ place. tt })

-- ---- one more at the end

push-led : (boards : List (Option CounterState)) (chiefs : List (Option ChiefSeat)) (board : Option CounterState) (chief : Option ChiefSeat) → length chiefs ≡ length boards
    → ((place : ℕ) → IsLedBy (get_or boards place None) (get_or chiefs place None)) → IsLedBy board chief → (place : ℕ)
    → IsLedBy (get_or (boards ++ board ∷ []) place None) (get_or (chiefs ++ chief ∷ []) place None)
push-led [] [] board chief same each led zero = led
push-led [] [] board chief same each led (suc place) = tt
push-led [] (c ∷ chiefs) board chief same each led place = absurd (omega arith)
push-led (b ∷ boards) [] board chief same each led place = absurd (omega arith)
push-led (b ∷ boards) (c ∷ chiefs) board chief same each led zero = each zero
push-led (b ∷ boards) (c ∷ chiefs) board chief same each led (suc place) = push-led boards chiefs board chief (omega arith) (λ k. each (suc k)) led place

pub led-more : (boards : List (Option CounterState)) (chiefs : List (Option ChiefSeat)) (board : Option CounterState) (chief : Option ChiefSeat) → AreLedBy boards chiefs → IsLedBy board chief
    → AreLedBy (boards ++ board ∷ []) (chiefs ++ chief ∷ [])
led-more boards chiefs board chief led one = record {
  all = let more = length_push boards board in let also = length_push chiefs chief in let all = led.all in omega arith;
  each = push-led boards chiefs board chief led.all led.each one;
}

-- ---- others at one place

pub led-put : (boards : List (Option CounterState)) (chiefs : List (Option ChiefSeat)) (place : ℕ) (board : Option CounterState) (chief : Option ChiefSeat) → place < length boards → AreLedBy boards chiefs
    → IsLedBy board chief → AreLedBy (set boards place board) (set chiefs place chief)
led-put boards chiefs place board chief inside led one = record {
  all = length-set chiefs place chief ∙ led.all ∙ sym (length-set boards place board);
  each = λ k.
      elim (eqb_tells k place) [
        | inl same ↦
            let also : place < length chiefs = (let all = led.all in omega arith) in
            subst (λ n. IsLedBy (get_or (set boards place board) n None) (get_or (set chiefs place chief) n None)) (sym same.1)
            (rw (get_or-set_same boards place board None inside, get_or-set_same chiefs place chief None also) one)
        | inr other ↦ rw (get_or-set_other boards place k board None other.1, get_or-set_other chiefs place k chief None other.1) (led.each k)
      ];
}

-- the chief of a board that is there is there
pub chief-there : (board : CounterState) (found : Option CounterState) (chief : Option ChiefSeat) → found ≡ Some board → IsLedBy found chief → chief ≡ None → ⊥
chief-there board found chief is led none = subst (IsLedBy (Some board)) none (subst (λ b. IsLedBy b chief) is led)
