-- The board of one operator is taken out, and another is put in its place.
use Rattle.std.proofs.Common.{◌≡◌, ◌≢◌, refl, sym, ap, subst, ◌∙◌, ℕ, zero, suc, ◌-◌, ◌<◌, ◌≤◌, length, List, [], ◌∷◌, Option, None, Some, true, false, is_some, get_or, set, inl, inr, arith, length-set, get_or-set_same, get_or-set_other}
use Rattle.std.specs.Prelude.{option_map}
use Rattle.std.proofs.lemmas.Bool.{cases_lt}
use Rattle.std.proofs.lemmas.Bool.Decides.{eqb_tells}
use Rattle.std.proofs.lemmas.List.{get_or_default, get_or_past}
use Rattle.amber_rows.specs.Topology.{crew_of, op_of}
use Rattle.amber_meaning.proofs.Crews.{op-within}
use Rattle.amber_dataflow.specs.Dataflow.{DataflowState, is_short}
use Rattle.amber_boards.specs.declared.target.Target.{Target}
use Rattle.amber_boards.specs.Boards.{AreCounted, ChangeUnits, ChangesAt, CounterState, IsCountedAt, KeepsTargets, board_at, has_board, targets_of}
use Rattle.amber_boards.proofs.OneMoreArmed.{at-place}
use Rattle.amber_boards.proofs.OthersKept.{other-counted, units-none, units-then}
use Rattle.amber_boards.proofs.Refilled.{short-seat}

-- ---- a list of what may be there

module _ {A : Type 0} where
  -- what is there stands within the list
  pub some-inside : (xs : List (Option A)) (n : ℕ) (x : A) → get_or xs n None ≡ Some x → n < length xs
  some-inside xs n x is =
      elim (cases_lt n (length xs)) [
        | inl less ↦ less
        | inr end ↦ (let none : None ≡ Some x = sym (get_or_past xs n None end) ∙ is in absurd (cc none))
      ]

  -- what was read there
  pub read-there : (xs : List (Option A)) (n : ℕ) (now : Option A) → n < length xs → now ≡ get_or xs n now → get_or xs n None ≡ now
  read-there xs n now less is = get_or_default xs n None now less ∙ sym is

-- the board with an operator's number, as it was taken out
pub board-there : (items boards : List (Option CounterState)) (op : ℕ) (now taken : Option CounterState) → items ≡ boards → 0 < op → op ≤ length boards → now ≡ get_or items (op - 1) now → taken ≡ now
    → board_at boards op ≡ taken
board-there items boards op now taken is some within read same =
    let long = ap length is in
    let less : op - 1 < length items = omega arith in
    at-place boards op some ∙ ap (λ xs. get_or xs (op - 1) None) (sym is) ∙ read-there items (op - 1) now less read ∙ sym same

-- a worker that needs a unit has a board
pub has-one : (boards : List (Option CounterState)) (d : DataflowState) (worker : ℕ) → AreCounted boards d → worker < crew_of d.flow → is_short d worker ≡ true
    → board_at boards (op_of d.flow worker) ≡ None → ⊥
has-one boards d worker counted there short none =
    let at = op-within d.flow worker there in
    let unarmed = subst (λ b. IsCountedAt b (op_of d.flow worker) d) none (counted.each (op_of d.flow worker) at.0 at.1) in
    let clash : false ≡ true = ap is_some (sym (unarmed worker (there, refl))) ∙ short-seat d worker short in
    cc clash

-- which stands within the list
pub op-inside : (boards : List (Option CounterState)) (d : DataflowState) (worker : ℕ) → AreCounted boards d → worker < crew_of d.flow → is_short d worker ≡ true → op_of d.flow worker ≤ length boards
op-inside boards d worker counted there short =
    elim (cases_lt (length boards) (op_of d.flow worker)) [
      | inl far ↦
          let some = (op-within d.flow worker there).0 in
          let beyond : length boards ≤ op_of d.flow worker - 1 = omega arith in
          absurd (has-one boards d worker counted there short (at-place boards (op_of d.flow worker) some ∙ get_or_past boards (op_of d.flow worker - 1) None beyond))
      | inr inside ↦ inside
    ]

-- ---- what is asked for is kept

-- with another board at a place, if what it asks for is there
pub keeps-put : (targets : List (Option Target)) (boards : List (Option CounterState)) (place : ℕ) (x : Option CounterState) → place < length boards → KeepsTargets targets boards
    → ((counter : CounterState) → x ≡ Some counter → get_or targets place None ≡ Some counter.target) → KeepsTargets targets (set boards place x)
keeps-put targets boards place x inside keeps own k counter here =
    elim (eqb_tells k place) [
      | inl same ↦
          subst (λ n. get_or targets n None ≡ Some counter.target) (sym same.1)
          (own counter (sym (get_or-set_same boards place x None inside) ∙ subst (λ n. get_or (set boards place x) n None ≡ Some counter) same.1 here))
      | inr other ↦ keeps k counter (sym (get_or-set_other boards place k x None other.1) ∙ here)
    ]

-- with none there
pub keeps-none : (targets : List (Option Target)) (boards : List (Option CounterState)) (place : ℕ) (x : Option CounterState) → place < length boards → x ≡ None → KeepsTargets targets boards
    → KeepsTargets targets (set boards place x)
keeps-none targets boards place x inside none keeps =
    keeps-put targets boards place x inside keeps (λ counter is. (let clash : None ≡ Some counter = sym none ∙ is in absurd (cc clash)))

-- with one there that asks for the same as before
pub keeps-other : (targets : List (Option Target)) (boards : List (Option CounterState)) (place : ℕ) (x : Option CounterState) (made : CounterState) (target : Target) → place < length boards → x ≡ None
    → KeepsTargets targets boards → get_or targets place None ≡ Some target → made.target ≡ target → KeepsTargets targets (set (set boards place x) place (Some made))
keeps-other targets boards place x made target inside none keeps here is =
    let long = length-set boards place x in
    keeps-put targets (set boards place x) place (Some made) (omega arith) (keeps-none targets boards place x inside none keeps)
    (λ counter same. (let one : made ≡ counter = cc same in here ∙ ap Some (sym is ∙ ap (λ (k : CounterState). k.target) one)))

-- all boards ask for what they asked for
pub targets-put : (boards : List (Option CounterState)) (place : ℕ) (x y : Option CounterState)
    → option_map (λ (k : CounterState). k.target) y ≡ option_map (λ (k : CounterState). k.target) (get_or boards place None) → targets_of (set (set boards place x) place y) ≡ targets_of boards
targets-put [] place x y same = refl
targets-put (board ∷ boards) zero x y same = ap (λ t. t ∷ targets_of boards) same
targets-put (board ∷ boards) (suc place) x y same = ap (λ ts. option_map (λ (k : CounterState). k.target) board ∷ ts) (targets-put boards place x y same)

-- ---- all operators

module _ (items boards : List (Option CounterState)) (op : ℕ) (x y : Option CounterState) (is : items ≡ boards) (some : 0 < op) (within : op ≤ length boards) where
  abbrev put : List (Option CounterState)
  put = set (set items (op - 1) x) (op - 1) y

  -- the board of this operator is the one that was put there
  at-own : board_at put op ≡ y
  at-own =
      let long = length-set items (op - 1) x in
      let same = ap length is in
      let inside : op - 1 < length (set items (op - 1) x) = omega arith in
      at-place put op some ∙ get_or-set_same (set items (op - 1) x) (op - 1) y None inside

  -- the others are where they were
  at-other : (one : ℕ) → 0 < one → one ≢ op → board_at put one ≡ board_at boards one
  at-other one first apart =
      let elsewhere : one - 1 ≢ op - 1 = λ e. apart (omega arith) in
      at-place put one first
      ∙ get_or-set_other (set items (op - 1) x) (op - 1) (one - 1) y None elsewhere
      ∙ get_or-set_other items (op - 1) (one - 1) x None elsewhere
      ∙ ap (λ xs. get_or xs (one - 1) None) is
      ∙ sym (at-place boards one first)

  -- counts are counted there, where this operator's is and the others' were
  pub counted-put : (old new : DataflowState) → AreCounted boards old → ChangesAt op old new → IsCountedAt y op new → AreCounted put new
  counted-put old new counted changes here = record {
    all =
        let one = length-set items (op - 1) x in
        let two = length-set (set items (op - 1) x) (op - 1) y in
        let same = ap length is in
        let flow = ap length changes.flow in
        let all = counted.all in
        omega arith;
    each = λ one first inside.
        elim (eqb_tells one op) [
          | inl same ↦ subst (λ n. IsCountedAt (board_at put n) n new) (sym same.1) (subst (λ b. IsCountedAt b op new) (sym at-own) here)
          | inr other ↦
              let apart = other.1 in
              let flow = ap length changes.flow in
              subst (λ b. IsCountedAt b one new) (sym (at-other one first apart))
              (other-counted old new op one (board_at boards one) changes apart (counted.each one first (omega arith)))
        ];
  }

-- only units of one operator, which has a board, were changed
pub units-one : (boards : List (Option CounterState)) (op : ℕ) (old new : DataflowState) → has_board boards op ≡ true → ChangesAt op old new → ChangeUnits (has_board boards) old new
units-one boards op old new has changes =
    units-then (has_board boards) op old old new (units-none (has_board boards) old) changes (λ without. (let clash : true ≡ false = sym has ∙ without in absurd (cc clash)))
