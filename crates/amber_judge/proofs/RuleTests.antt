-- The tests for the rules are true exactly where the rules hold.
use Rattle.std.proofs.Common.{◌≡◌, ℕ, eqb, List, [], ◌∷◌, Bool, true, false, not, ◌&&◌, ◌||◌, ◌↔◌, refl}
use Rattle.std.proofs.lemmas.Bool.{and_from, and_parts, eq-eqb, eqb-true, false≢true, le-leb, leb-true, lt-ltb, ltb-true, not-true, not_from_false}
use Rattle.amber_log.specs.declared.entry.Entry.{Entry}
use Rattle.amber_log.specs.declared.entry.Entry.TheVariants as entry
use Rattle.amber_meaning.specs.Task.{Role}
use Rattle.amber_meaning.specs.Position.{Position}
use Rattle.amber_meaning.specs.Rules.{IsFree, MayFinish, MayGiveBack, MayGo, MayGrant, MayHold, MayPause, MayResume, MayTake, Orders, May, assigned}
use Rattle.amber_judge.specs.RuleTests.{is_free, may_finish, may_give_back, may_go, may_grant, may_hold, may_move, may_pause, may_resume, may_take}
use Rattle.amber_rows.specs.Lists.{is_empty}

pub nil_from_empty : {A : Type 0} (xs : List A) → is_empty xs ≡ true → xs ≡ []
nil_from_empty [] e = refl
nil_from_empty (x ∷ xs) e = absurd (false≢true e)

pub empty_from_nil : {A : Type 0} (xs : List A) → xs ≡ [] → is_empty xs ≡ true
empty_from_nil [] e = refl
empty_from_nil (x ∷ xs) e = cc

-- a test that counts only where another is true
if_so : (b c : Bool) → (not b || c) ≡ true → b ≡ true → c ≡ true
if_so true c e f = e
if_so false c e f = absurd (false≢true f)

so_if : (b c : Bool) → (b ≡ true → c ≡ true) → (not b || c) ≡ true
so_if true c f = f refl
so_if false c f = refl

-- four tests that all hold, and what is tested after them
four_parts : (a b c d rest : Bool) → (a && (b && (c && (d && rest)))) ≡ true
    → (a ≡ true) × (b ≡ true) × (c ≡ true) × (d ≡ true) × (rest ≡ true)
four_parts a b c d rest e =
    let behind_a = and_parts a _ e in
    let behind_b = and_parts b _ behind_a.1 in
    let behind_c = and_parts c _ behind_b.1 in
    let behind_d = and_parts d rest behind_c.1 in
    (behind_a.0, behind_b.0, behind_c.0, behind_d.0, behind_d.1)

pub IsFree-so : (p : Position) → is_free p ≡ true → IsFree p
IsFree-so p e =
    let a = and_parts _ _ e in
    let b = and_parts _ _ a.1 in
    record { running = not-true _ a.0; loose = not-true _ b.0; unfinished = not-true _ b.1 }

pub free-so : (p : Position) → IsFree p → is_free p ≡ true
free-so p h = and_from _ _ (not_from_false _ h.running) (and_from _ _ (not_from_false _ h.loose) (not_from_false _ h.unfinished))

pub may_take-so : (role : Role) (p : Position) (from number : ℕ) → (may_take role p from number ≡ true) ↔ MayTake role p from number
unfolding may_take
may_take-so role p from number = (to, back)
  where
    to : may_take role p from number ≡ true → MayTake role p from number
    to e =
        let a = four_parts _ _ _ _ _ e in
        let f = and_parts _ _ a.4 in
        record { free = IsFree-so p a.0; sender = a.1; next = eqb-true _ _ a.2; no_rest = nil_from_empty _ a.3; no_pending = nil_from_empty _ f.0; side = f.1 }

    back : MayTake role p from number → may_take role p from number ≡ true
    back h =
        and_from _ _ (free-so p h.free) (and_from _ _ h.sender (and_from _ _ (eq-eqb _ _ h.next)
        (and_from _ _ (empty_from_nil _ h.no_rest) (and_from _ _ (empty_from_nil _ h.no_pending) h.side))))

pub may_go-so : (role : Role) (orders : Orders) (p : Position) (rows outs : ℕ) → (may_go (assigned role orders) p rows outs ≡ true) ↔ MayGo (assigned role orders) p rows outs
unfolding may_go
may_go-so role orders p rows outs = (to, back)
  where
    to : may_go (assigned role orders) p rows outs ≡ true → MayGo (assigned role orders) p rows outs
    to e =
        let a = four_parts _ _ _ _ _ e in
        let f = and_parts _ _ a.4 in
        let g = and_parts _ _ f.1 in
        record {
          free = IsFree-so p a.0;
          within = leb-true _ _ a.1;
          produced = leb-true _ _ a.2;
          drained = λ some. leb-true _ _ (if_so _ _ a.3 (lt-ltb _ _ some));
          in_hand = λ counted. leb-true _ _ (if_so _ _ f.0 counted);
          before_taking = λ counted some. ltb-true _ _ (if_so _ _ (if_so _ _ g.0 counted) (lt-ltb _ _ some));
          no_stop = g.1;
        }

    back : MayGo (assigned role orders) p rows outs → may_go (assigned role orders) p rows outs ≡ true
    back h =
        and_from _ _ (free-so p h.free) (and_from _ _ (le-leb _ _ h.within) (and_from _ _ (le-leb _ _ h.produced)
        (and_from _ _ (so_if _ _ (λ e. le-leb _ _ (h.drained (ltb-true _ _ e))))
        (and_from _ _ (so_if _ _ (λ counted. le-leb _ _ (h.in_hand counted)))
        (and_from _ _ (so_if _ _ (λ counted. so_if _ _ (λ e. lt-ltb _ _ (h.before_taking counted (ltb-true _ _ e))))) h.no_stop)))))

pub may_grant-so : (orders : Orders) (p : Position) → (may_grant orders p ≡ true) ↔ MayGrant orders p
unfolding may_grant
may_grant-so orders p = (
  λ e. let a = and_parts orders.counted (not p.finished) e in record { counted = a.0; unfinished = not-true _ a.1 },
  λ h. and_from orders.counted (not p.finished) h.counted (not_from_false _ h.unfinished),
)

pub may_give_back-so : (orders : Orders) (p : Position) (n : ℕ) → (may_give_back orders p n ≡ true) ↔ MayGiveBack orders p n
unfolding may_give_back
may_give_back-so orders p n = (
  λ e. let a = and_parts orders.counted (eqb n p.restraint.hand) e in record { counted = a.0; whole = eqb-true _ _ a.1 },
  λ h. and_from orders.counted (eqb n p.restraint.hand) h.counted (eq-eqb _ _ h.whole),
)

pub may_pause-so : (p : Position) → (may_pause p ≡ true) ↔ MayPause p
unfolding may_pause
may_pause-so p = (
  λ e. let a = and_parts (not p.restraint.paused) (not p.finished) e in record { running = not-true _ a.0; unfinished = not-true _ a.1 },
  λ h. and_from (not p.restraint.paused) (not p.finished) (not_from_false _ h.running) (not_from_false _ h.unfinished),
)

pub may_resume-so : (p : Position) → (may_resume p ≡ true) ↔ MayResume p
unfolding may_resume
may_resume-so p = (to, back)
  where
    to : may_resume p ≡ true → MayResume p
    to e =
        let a = and_parts _ _ e in
        let b = and_parts _ _ a.1 in
        record { paused = a.0; loose = not-true _ b.0; unfinished = not-true _ b.1 }

    back : MayResume p → may_resume p ≡ true
    back h = and_from _ _ h.paused (and_from _ _ (not_from_false _ h.loose) (not_from_false _ h.unfinished))

pub may_hold-so : (role : Role) (orders : Orders) (p : Position) → (may_hold (assigned role orders) p ≡ true) ↔ MayHold (assigned role orders) p
unfolding may_hold
may_hold-so role orders p = (to, back)
  where
    to : may_hold (assigned role orders) p ≡ true → MayHold (assigned role orders) p
    to e =
        let a = and_parts _ _ e in
        let b = and_parts _ _ a.1 in
        let c = and_parts _ _ b.1 in
        record { free = IsFree-so p a.0; watched = b.0; not_waved = not-true _ c.0; in_hand = λ counted. ltb-true _ _ (if_so _ _ c.1 counted) }

    back : MayHold (assigned role orders) p → may_hold (assigned role orders) p ≡ true
    back h =
        and_from _ _ (free-so p h.free) (and_from _ _ h.watched (and_from _ _ (not_from_false _ h.not_waved)
        (so_if _ _ (λ counted. lt-ltb _ _ (h.in_hand counted)))))

pub may_finish-so : (role : Role) (p : Position) → (may_finish role p ≡ true) ↔ MayFinish role p
unfolding may_finish
may_finish-so role p = (to, back)
  where
    to : may_finish role p ≡ true → MayFinish role p
    to e =
        let a = and_parts _ _ e in
        let b = and_parts _ _ a.1 in
        let c = and_parts _ _ b.1 in
        record { free = IsFree-so p a.0; no_rest = nil_from_empty _ b.0; no_pending = nil_from_empty _ c.0; ended = c.1 }

    back : MayFinish role p → may_finish role p ≡ true
    back h = and_from _ _ (free-so p h.free) (and_from _ _ (empty_from_nil _ h.no_rest) (and_from _ _ (empty_from_nil _ h.no_pending) h.ended))

pub may_move-so : (role : Role) (orders : Orders) (p : Position) (one : Entry) → (may_move (assigned role orders) p one ≡ true) ↔ May (assigned role orders) p one
may_move-so role orders p (entry.Take from number) = may_take-so role p from number
may_move-so role orders p (entry.Go rows outs) = may_go-so role orders p rows outs
may_move-so role orders p (entry.Grant n) = may_grant-so orders p
may_move-so role orders p (entry.Back n) = may_give_back-so orders p n
may_move-so role orders p entry.Pause = may_pause-so p
may_move-so role orders p entry.Resume = may_resume-so p
may_move-so role orders p entry.Hold = may_hold-so role orders p
may_move-so role orders p entry.Finish = may_finish-so role p
