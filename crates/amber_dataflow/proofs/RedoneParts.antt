-- A part of a log that is done again, line by line.
use Rattle.std.proofs.Common.{◌≡◌, ◌≢◌, refl, sym, ap, subst, ◌∙◌, ℕ, suc, ◌+◌, ◌*◌, ◌^◌, ◌<◌, ◌≤◌, ◌&&◌, List, [], ◌∷◌, ◌++◌, length, map, take, drop, get_or, nat_le, Bool, true, false, Option, Some, None, is_some, arith, append_assoc, append-nil, add-one}
use Rattle.std.specs.Prelude.{option_and_then}
use Rattle.std.proofs.lemmas.Bool.{false≢true, le-leb, lt-leb}
use Rattle.std.proofs.lemmas.Grind.{take_at_read}
use Rattle.std.proofs.lemmas.List.{drop_more, length-take-le, map-append, take-append-drop, take_all}
use Rattle.amber_rows.specs.Topology.{crew_of}
use Rattle.amber_lines.specs.Lines.{Progress, Within, bad_line_from, bad_or, judge, judge_all, judge_entry, may_enter, state_behind, when}
use Rattle.amber_lines.proofs.Judged.{judge_all-append}
use Rattle.amber_log.specs.Grammar.{AreEntries, IsEntry, is_go}
use Rattle.amber_log.specs.declared.entry.Entry.{Entry}
use Rattle.amber_log.specs.declared.entry.Entry.TheVariants as entry
use Rattle.amber_log.specs.declared.line.Line.{Line}
use Rattle.amber_log.specs.declared.line.Line.TheVariants as line
use Rattle.amber_meaning.specs.Legal.{Query}
use Rattle.amber_meaning.specs.Position.{Position}
use Rattle.amber_meaning.specs.State.{State, steps_in}
use Rattle.amber_worker.specs.Redoing as redoing
use Rattle.amber_worker.specs.Redoing.{hand_before, hand_left, log_line, units_of}
use Rattle.amber_worker.specs.WorkerState.{WorkerState}
use Rattle.amber_worker.specs.declared.redoing.Armed.{Armed}
use Rattle.amber_worker.proofs.Settling.{steps-shown}
use Rattle.amber_dataflow.specs.AtWork.{IsSameBesides, context_in, state_reached, steps_by, worker_state_at}
use Rattle.amber_dataflow.specs.Redoing.{AreRedoneAt, CannotMakeLine, ComesNext, FailsPart, HasMadeLine, IsRedoneCrew, LineComesNext, LineOf, MakesLine, MakesPart, PartLeadsTo, PartOf, StandBefore, StandBeforePart, Stance, WritesAlone, in_hand, lines_behind, may_be_next, stand_later, state_in}
use Rattle.amber_dataflow.proofs.Behind.{steps-behind}
use Rattle.amber_dataflow.proofs.Reached.{length-listed, steps-listed}
use Rattle.amber_dataflow.proofs.RedoneLines.{same-then}

-- ---- steps

pub redone-steps : (at : Stance) (crew : List WorkerState) → AreRedoneAt at crew → steps_in (state_in at) ≡ steps_by crew
unfolding steps_in
redone-steps at crew stand =
    let all = stand.all in
    steps-listed crew at.positions (crew_of at.query.flow) (omega arith)
    (λ k below. steps-shown (context_in stand.bases at.query at.start k) (in_hand at.positions crew k) (at.positions k) (stand.each k below).shows)
    ∙ ap steps_by (take_all (crew_of at.query.flow) crew (omega arith))

-- ---- entries

entries-inside : (gone : Bool) (xs : List Entry) (one : Entry) (more : List Entry) → AreEntries gone (xs ++ one ∷ more) → IsEntry one
unfolding AreEntries
entries-inside gone [] one more h = h.0
entries-inside gone (x ∷ xs) one more h = entries-inside (is_go x) xs one more h.2

entries-front : (gone : Bool) (xs ys : List Entry) → AreEntries gone (xs ++ ys) → AreEntries gone xs
unfolding AreEntries
entries-front gone [] ys h = tt
entries-front gone (x ∷ xs) ys h = (h.0, h.1, entries-front (is_go x) xs ys h.2)

units-few : (one : Entry) → IsEntry one → units_of one < 2 ^ 64
units-few (entry.Take from number) h = omega arith
units-few (entry.Go rows outs) h = omega arith
units-few (entry.Grant n) h = h.1
units-few (entry.Back n) h = omega arith
units-few entry.Pause h = omega arith
units-few entry.Resume h = omega arith
units-few entry.Hold h = omega arith
units-few entry.Finish h = omega arith

hand-few : (one : Entry) (hand : ℕ) → IsEntry one → hand_left one hand ≤ hand + 18446744073709551616
hand-few (entry.Take from number) hand h = omega arith
hand-few (entry.Go rows outs) hand h = omega arith
hand-few (entry.Grant n) hand h = let few = h.1 in omega arith
hand-few (entry.Back n) hand h = omega arith
hand-few entry.Pause hand h = omega arith
hand-few entry.Resume hand h = omega arith
hand-few entry.Hold hand h = omega arith
hand-few entry.Finish hand h = omega arith

steps-few : (one : Entry) → IsEntry one → redoing.entry_steps one < 2 ^ 66
steps-few (entry.Take from number) h = omega arith
steps-few (entry.Go rows outs) h = let few = h.0 in let more = h.1 in omega arith
steps-few (entry.Grant n) h = omega arith
steps-few (entry.Back n) h = omega arith
steps-few entry.Pause h = omega arith
steps-few entry.Resume h = omega arith
steps-few entry.Hold h = omega arith
steps-few entry.Finish h = omega arith

-- ---- judging

pub judged-more : (query : Query) (first last next : Progress) (lines : List Line) (one : Line) → judge_all query first lines ≡ Some last → judge query last one ≡ Some next
    → judge_all query first (lines ++ one ∷ []) ≡ Some next
unfolding judge_all
judged-more query first last next lines one good more =
    judge_all-append query first lines (one ∷ []) ∙ ap (option_and_then (λ p. judge_all query p (one ∷ []))) good ∙ ap (option_and_then (λ p. judge_all query p [])) more

pub bad-there : (query : Query) (first last : Progress) (number : ℕ) (lines : List Line) (one : Line) (more : List Line) → judge_all query first lines ≡ Some last → judge query last one ≡ None
    → bad_line_from query first number (lines ++ one ∷ more) ≡ Some (number + length lines)
unfolding judge_all bad_line_from
bad-there query first last number [] one more good bad =
    let same : first ≡ last = cc in
    let none : judge query first one ≡ None = ap (λ p. judge query p one) same ∙ bad in
    let here : number ≡ number + 0 = omega arith in
    ap (λ found. bad_or number found (λ next. bad_line_from query next (number + 1) more)) none ∙ ap Some here
bad-there query first last number (x ∷ lines) one more good bad = by (judge query first x) (λ next. bad-there query next last (number + 1) lines one more) good
  where
    by : (found : Option Progress) → ((next : Progress) → judge_all query next lines ≡ Some last → judge query last one ≡ None
        → bad_line_from query next (number + 1) (lines ++ one ∷ more) ≡ Some (number + 1 + length lines))
        → option_and_then (λ next. judge_all query next lines) found ≡ Some last
        → bad_or number found (λ next. bad_line_from query next (number + 1) (lines ++ one ∷ more)) ≡ Some (number + suc (length lines))
    by None rest e = cc
    by (Some next) rest e =
        let sum : number + 1 + length lines ≡ number + suc (length lines) = omega arith in
        rest next e bad ∙ ap Some sum

length-lines : (entries : List Entry) → length (lines_behind entries) ≡ length entries
length-lines [] = refl
length-lines (x ∷ entries) = ap suc (length-lines entries)

-- what a line says of the hand, where a count is in force or not
pub armed-for : (counted : Bool) (hand : ℕ) → (counted ≡ false → hand ≡ 0) → (armed : Option Armed) × (is_some armed ≡ counted) × (hand_before armed ≡ hand)
armed-for true hand none = (Some (record { hand = hand }), refl, refl)
armed-for false hand none = (None, refl, sym (none refl))

-- ---- a part

-- the part as far as this
abbrev pub front_of : PartOf → ℕ → PartOf
front_of part place = record part { entries = take place part.entries }

-- what is known in front of a place
pub record IsFront (part : PartOf) (old crew : List WorkerState) (place hand : ℕ) : Type 0 where
  pub made : MakesPart (front_of part place) old crew hand
  pub none : part.counted ≡ false → hand ≡ 0
  pub few : hand ≤ place * 18446744073709551616

pub before-front : (part : PartOf) (place : ℕ) (at : Stance) (old : List WorkerState) → StandBeforePart at part old → StandBeforePart at (front_of part place) old
before-front part place at old before = record { stand = before.stand; counted = before.counted; empty = before.empty; most = before.most }

pub alone-none : (worker : ℕ) (crew : List WorkerState) → WritesAlone worker [] crew crew
alone-none worker crew = record { long = refl; writes = sym (append-nil (worker_state_at crew worker).journal); seat = refl; undriven = refl; others = λ other apart. refl }

pub alone-then : (worker : ℕ) (first second : List Entry) (a b c : List WorkerState) → WritesAlone worker first a b → WritesAlone worker second b c → WritesAlone worker (first ++ second) a c
alone-then worker first second a b c one two = record {
  long = two.long ∙ one.long;
  writes = two.writes ∙ ap (λ l. l ++ second) one.writes ∙ append_assoc (worker_state_at a worker).journal first second;
  seat = two.seat ∙ one.seat;
  undriven = two.undriven ∙ one.undriven;
  others = λ other apart. same-then (worker_state_at a other) (worker_state_at b other) (worker_state_at c other) (one.others other apart) (two.others other apart);
}

pub front-none : (part : PartOf) (old : List WorkerState) → IsFront part old old 0 0
unfolding judge_all
front-none part old = record {
  made = record {
    makes = λ at before. (at.positions, before.stand, record { good = λ to_end. refl; others = λ other apart. refl }, before.empty);
    alone = alone-none part.worker old;
  };
  none = λ uncounted. refl;
  few = omega arith;
}

module _ (part : PartOf) (old crew : List WorkerState) (place hand : ℕ) (front : IsFront part old crew place hand) (next : ComesNext part old) where
  abbrev pub witness : Stance
  witness = stand_later next.0 (front.made.makes next.0 (before-front part place next.0 old next.1)).0

  pub stand-witness : AreRedoneAt witness crew
  stand-witness = (front.made.makes next.0 (before-front part place next.0 old next.1)).1

  pub front-crew : IsRedoneCrew crew
  front-crew = (witness, stand-witness)

  module _ (d : Entry) (inside : place < length part.entries) where
    abbrev made : Entry
    made = get_or part.entries place d

    split : take (place + 1) part.entries ≡ take place part.entries ++ made ∷ []
    split = (take_at_read part.entries place d inside).1

    lines-split : lines_behind (take (place + 1) part.entries) ≡ lines_behind (take place part.entries) ++ line.Entry made ∷ []
    lines-split = ap (map line.Entry) split ∙ map-append line.Entry (take place part.entries) (made ∷ [])

    whole : part.entries ≡ take place part.entries ++ made ∷ drop (place + 1) part.entries
    whole = sym (take-append-drop place part.entries) ∙ ap (λ l. take place part.entries ++ l) (drop_more part.entries place d inside)

    lines-whole : lines_behind part.entries ≡ lines_behind (take place part.entries) ++ line.Entry made ∷ lines_behind (drop (place + 1) part.entries)
    lines-whole = ap (map line.Entry) whole ∙ map-append line.Entry (take place part.entries) (made ∷ drop (place + 1) part.entries)

    pub is-entry : AreEntries false part.entries → IsEntry made
    is-entry text = entries-inside false (take place part.entries) made (drop (place + 1) part.entries) (subst (AreEntries false) whole text)

    pub steps-fit : AreEntries false part.entries → redoing.entry_steps made < 2 ^ 66
    steps-fit text = steps-few made (is-entry text)

    -- it follows what was written
    pub follows-front : AreEntries false part.entries → (worker_state_at old part.worker).journal ≡ [] → AreEntries false ((worker_state_at crew part.worker).journal ++ made ∷ [])
    follows-front text rest =
        subst (AreEntries false) (sym (ap (λ l. l ++ made ∷ []) (front.made.alone.writes ∙ ap (λ l. l ++ take place part.entries) rest)))
        (entries-front false (take place part.entries ++ made ∷ []) (drop (place + 1) part.entries)
        (subst (AreEntries false) (whole ∙ sym (append_assoc (take place part.entries) (made ∷ []) (drop (place + 1) part.entries))) text))

    module _ (armed : Option Armed) (armed-is : is_some armed ≡ part.counted) (hand-is : hand_before armed ≡ hand) where
      abbrev one : LineOf
      one = record { worker = part.worker; line = log_line made armed }

      pub units-fit : AreEntries false part.entries → place < 2 ^ 64 → hand_before armed + units_of made < 2 ^ 128
      units-fit text short =
          let few = front.few in
          let units = units-few made (is-entry text) in
          omega arith

      pub line-next : LineComesNext one crew
      line-next = (
        witness,
        record {
          stand = stand-witness;
          hand = record { counted = next.1.counted ∙ sym armed-is; hand = (front.made.makes next.0 (before-front part place next.0 old next.1)).3 ∙ sym hand-is };
        },
      )

      -- wherever they stood, they stand before the line
      module _ (at : Stance) (before : StandBeforePart at part old) where
        got : (later : ℕ → Position) × AreRedoneAt (stand_later at later) crew × PartLeadsTo at (front_of part place) later × ((later part.worker).restraint.hand ≡ hand)
        got = front.made.makes at (before-front part place at old before)

        abbrev then : Stance
        then = stand_later at got.0

        before-line : StandBefore then one crew
        before-line = record { stand = got.1; hand = record { counted = before.counted ∙ sym armed-is; hand = got.3 ∙ sym hand-is } }

        inside-then : part.worker < crew_of at.query.flow → part.worker < length (state_in then).positions
        inside-then less = rw (length-listed got.0 (crew_of at.query.flow)) less

        -- the line is judged by its rule and the steps
        judged : (to_end : Bool) → judge at.query (Within to_end (state_in then) part.worker) (line.Entry made)
            ≡ when (may_be_next then one && nat_le (steps_in (state_behind at.query (state_in then) part.worker made)) at.query.most) (Within to_end (state_behind at.query (state_in then) part.worker made) part.worker)
        judged to_end = refl

        steps-then : part.worker < crew_of at.query.flow → may_be_next then one ≡ true
            → steps_in (state_behind at.query (state_in then) part.worker made) ≡ steps_by crew + redoing.entry_steps made
        steps-then less may =
            let behind = steps-behind at.query (state_in then) part.worker made (inside-then less) may in
            let here = redone-steps then crew got.1 in
            omega arith

        fails : ((to_end : Bool) → judge at.query (Within to_end (state_in then) part.worker) (line.Entry made) ≡ None) → (to_end : Bool)
            → bad_line_from at.query (Within to_end (state_in at) part.worker) 0 (lines_behind part.entries) ≡ Some place
        fails bad to_end =
            let short : length (lines_behind (take place part.entries)) ≡ place = length-lines (take place part.entries) ∙ length-take-le place part.entries (omega arith) in
            let long : 0 + length (lines_behind (take place part.entries)) ≡ place = omega (arith, short) in
            ap (bad_line_from at.query (Within to_end (state_in at) part.worker) 0) lines-whole
            ∙ bad-there at.query (Within to_end (state_in at) part.worker) (Within to_end (state_in then) part.worker) 0 (lines_behind (take place part.entries)) (line.Entry made)
            (lines_behind (drop (place + 1) part.entries)) (got.2.good to_end) (bad to_end)
            ∙ ap Some long

      -- ---- the line could not be done

      pub fails-rule : CannotMakeLine one crew → FailsPart part old place
      unfolding FailsPart CannotMakeLine
      fails-rule cannot at to_end before =
          fails at before (λ b. judged at before b
          ∙ ap (λ may. when (may && nat_le (steps_in (state_behind at.query (state_in (then at before)) part.worker made)) at.query.most)
          (Within b (state_behind at.query (state_in (then at before)) part.worker made) part.worker)) (cannot (then at before) (before-line at before))) to_end

      pub fails-steps : part.worker < length old → part.most < steps_by crew + redoing.entry_steps made → FailsPart part old place
      unfolding FailsPart
      fails-steps there many at to_end before = fails at before (λ b. judged at before b ∙ by b (may_be_next (then at before) one) refl) to_end
        where
          less : part.worker < crew_of at.query.flow
          less = rw (← before.stand.all) there

          by : (b may : Bool) → may_be_next (then at before) one ≡ may
              → when (may && nat_le (steps_in (state_behind at.query (state_in (then at before)) part.worker made)) at.query.most)
              (Within b (state_behind at.query (state_in (then at before)) part.worker made) part.worker) ≡ None
          by b false is = refl
          by b true is =
              let steps = steps-then at before less is in
              let same = before.most in
              ap (λ few. when few (Within b (state_behind at.query (state_in (then at before)) part.worker made) part.worker))
              (lt-leb (steps_in (state_behind at.query (state_in (then at before)) part.worker made)) at.query.most (omega arith))

      -- ---- it was done

      module _ (new : List WorkerState) (done : HasMadeLine one crew new) (there : part.worker < length old) (few : steps_by crew + redoing.entry_steps made ≤ part.most)
          (text : AreEntries false part.entries) where
        steps-made : steps_by new ≡ steps_by crew + redoing.entry_steps made
        unfolding MakesLine
        steps-made =
            let before = next.1 in
            let more = done.makes (then next.0 before) (before-line next.0 before) in
            let less : part.worker < crew_of next.0.query.flow = rw (← before.stand.all) there in
            sym (redone-steps (stand_later (then next.0 before) more.0) new more.1) ∙ ap steps_in more.2.leads ∙ steps-then next.0 before less more.2.may

        pub steps-next : steps_by new ≡ steps_by crew + redoing.entry_steps made
        steps-next = steps-made

        good-next : (at : Stance) (before : StandBeforePart at part old) (to_end : Bool)
            → judge at.query (Within to_end (state_in (then at before)) part.worker) (line.Entry made)
            ≡ Some (Within to_end (state_behind at.query (state_in (then at before)) part.worker made) part.worker)
        unfolding MakesLine
        good-next at before to_end =
            let more = done.makes (then at before) (before-line at before) in
            let less : part.worker < crew_of at.query.flow = rw (← before.stand.all) there in
            let steps = steps-then at before less more.2.may in
            let same = before.most in
            let within : nat_le (steps_in (state_behind at.query (state_in (then at before)) part.worker made)) at.query.most ≡ true =
            le-leb (steps_in (state_behind at.query (state_in (then at before)) part.worker made)) at.query.most (omega arith) in
            judged at before to_end
            ∙ (λ i. when (more.2.may i && within i) (Within to_end (state_behind at.query (state_in (then at before)) part.worker made) part.worker))

        pub front-next : IsFront part old new (place + 1) (redoing.hand_after (log_line made armed))
        unfolding MakesLine
        front-next = record {
          made = record {
            makes = λ at before.
                let so-far = got at (back at before) in
                let more = done.makes (then at (back at before)) (before-line at (back at before)) in (
                  more.0,
                  more.1,
                  record {
                    good = λ to_end.
                        ap (judge_all at.query (Within to_end (state_in at) part.worker)) lines-split
                        ∙ judged-more at.query (Within to_end (state_in at) part.worker) (Within to_end (state_in (then at (back at before))) part.worker)
                        (Within to_end (state_behind at.query (state_in (then at (back at before))) part.worker made) part.worker) (lines_behind (take place part.entries)) (line.Entry made)
                        (so-far.2.good to_end) (good-next at (back at before) to_end)
                        ∙ ap (λ s. Some (Within to_end s part.worker)) (sym more.2.leads);
                    others = λ other apart. more.2.others other apart ∙ so-far.2.others other apart;
                  },
                  more.2.hand,
                );
            alone = subst (λ entries. WritesAlone part.worker entries old new) (sym split)
                (alone-then part.worker (take place part.entries) (made ∷ []) old crew new front.made.alone done.alone);
          };
          none = λ uncounted. done.unarmed (unarmed armed (armed-is ∙ uncounted));
          few = hand-grows;
        }
          where
            back : (at : Stance) → StandBeforePart at (front_of part (place + 1)) old → StandBeforePart at part old
            back at before = record { stand = before.stand; counted = before.counted; empty = before.empty; most = before.most }

            unarmed : (a : Option Armed) → is_some a ≡ false → a ≡ None
            unarmed None is = refl
            unarmed (Some x) is = absurd (false≢true (sym is))

            hand-grows : redoing.hand_after (log_line made armed) ≤ (place + 1) * 18446744073709551616
            hand-grows =
                let more = hand-few made (hand_before armed) (is-entry text) in
                let few = front.few in
                omega arith

-- at the end
pub front-whole : (part : PartOf) (old crew : List WorkerState) (place hand : ℕ) → IsFront part old crew place hand → length part.entries ≤ place → MakesPart part old crew hand
front-whole part old crew place hand front end =
    subst (λ entries. MakesPart (record part { entries = entries }) old crew hand) (take_all place part.entries end) front.made
