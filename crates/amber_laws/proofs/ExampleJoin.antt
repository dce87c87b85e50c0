-- A run that meets what the laws ask for, and both sides of the laws computed: a join by two workers of rows from two, several batches
-- a link, a held row, and a count that is armed in mid-run and cuts a row's matches.
use Rattle.std.proofs.Common.{◌≡◌, ℕ, zero, suc, pos, ◌<◌, ◌≤◌, List, [], ◌∷◌, ◌++◌, length, codes, true, false, ◌^◌, refl, arith}
use Rattle.std.proofs.lemmas.Bool.{false≢true}
use Rattle.std.proofs.lemmas.List.Elements.{All-cons, All-nil}
use Rattle.amber_rows.specs.FlowRules.{AreNext, IsFlow, IsNext, ends_in_sink, reader_count}
use Rattle.amber_rows.specs.Columns.{AreIn, are_apart, is_id}
use Rattle.amber_rows.specs.declared.column.ColKind.TheVariants as kind
use Rattle.amber_rows.specs.declared.column.Column.{Column}
use Rattle.amber_rows.specs.declared.cond.Cmp.TheVariants as cmp
use Rattle.amber_rows.specs.declared.flow.What.TheVariants as what
use Rattle.amber_rows.specs.declared.flow.Operator.{Operator}
use Rattle.amber_rows.specs.declared.value.Value.TheVariants as value
use Rattle.amber_log.specs.Grammar.{AreEntries, AreItems, AreParts, IsLog, IsPart}
use Rattle.amber_log.specs.declared.entry.Entry.{Entry}
use Rattle.amber_log.specs.declared.command.Command.TheVariants as command
use Rattle.amber_log.specs.declared.entry.Entry.TheVariants as entry
use Rattle.amber_log.specs.declared.leg.Close.TheVariants as close
use Rattle.amber_log.specs.declared.leg.Leg.{Leg}
use Rattle.amber_log.specs.declared.log.Item.{Item}
use Rattle.amber_log.specs.declared.log.Item.TheVariants as item
use Rattle.amber_meaning.specs.declared.view.Stop.TheVariants as stop
use Rattle.amber_meaning.specs.Legal.{IsLegal, IsUnaltered, Query, query_over, stops_in}
use Rattle.amber_judge.specs.LegalTests.{may_reach}
use Rattle.amber_meaning.specs.Plain.{answer_of}
use Rattle.amber_meaning.specs.Replay.{state_after}
use Rattle.amber_meaning.specs.State.{arms_at, emitted_by, start_of, steps_in}
use Rattle.amber_meaning.specs.Texts.{answer_text}
use Rattle.amber_meaning.specs.Total.{step_total}
use Rattle.amber_meaning.specs.Transcript.{transcript_of}
use Rattle.amber_meaning.specs.Views.{answer_in}
use Rattle.amber_meaning.proofs.ExampleCases.{lines, part, prices}
use Rattle.amber_judge.proofs.LegalFrom.{logs_are_tested}
use Rattle.amber_meaning.proofs.Senders.{flows_send_forward}
use Rattle.amber_laws.specs.CountLaws.{CountsSinceArmed, CountsToTarget, run_state}
use Rattle.amber_laws.proofs.Arming.{counts_count_since_armed}
use Rattle.amber_laws.proofs.CountStops.{counts_stop_at_their_target}
use Rattle.amber_laws.proofs.Example.{files_on_literals}
use Rattle.amber_laws.proofs.Schedules.{schedules_have_one_answer}

-- ---- the workflow

abbrev sales : List Column
sales = record { name = codes "id"; kind = kind.Int } ∷ record { name = codes "item"; kind = kind.Text } ∷ []

abbrev both : List Column
both = sales ++ prices

abbrev scan_prices : Operator
scan_prices = record { id = codes "i"; what = what.Scan (codes "i.csv"); schema = prices; workers = 1 }

abbrev scan_sales : Operator
scan_sales = record { id = codes "o"; what = what.Scan (codes "o.csv"); schema = sales; workers = 2 }

abbrev join : Operator
join = record { id = codes "j"; what = what.Join 1 2 (1 ∷ []) (2 ∷ []); schema = both; workers = 2 }

abbrev sink : Operator
sink = record { id = codes "s"; what = what.Sink 3; schema = both; workers = 1 }

abbrev flow : List Operator
flow = scan_prices ∷ scan_sales ∷ join ∷ sink ∷ []

prices-first : IsNext [] scan_prices
unfolding is_id are_apart
prices-first = record {
  named = refl;
  fresh = refl;
  columns = record { some = omega arith; few = omega arith; apart = refl };
  kind = (omega arith, omega arith, refl);
  some_workers = omega arith;
  few_workers = omega arith;
  one_at_sink = λ e. refl;
}

sales-next : IsNext (scan_prices ∷ []) scan_sales
unfolding is_id are_apart
sales-next = record {
  named = refl;
  fresh = refl;
  columns = record { some = omega arith; few = omega arith; apart = refl };
  kind = (omega arith, omega arith, refl);
  some_workers = omega arith;
  few_workers = omega arith;
  one_at_sink = λ e. absurd (false≢true e);
}

key-there : (columns : List Column) (key : ℕ) → 0 < key → key ≤ length columns → AreIn columns (key ∷ [])
key-there columns key some few = All-cons (λ number. (0 < number) × (number ≤ length columns)) key [] (some, few) (All-nil (λ number. (0 < number) × (number ≤ length columns)))

join-next : IsNext (scan_prices ∷ scan_sales ∷ []) join
unfolding is_id are_apart
join-next = record {
  named = refl;
  fresh = refl;
  columns = record { some = omega arith; few = omega arith; apart = refl };
  kind = ((omega arith, omega arith), (omega arith, omega arith), key-there prices 1 (omega arith) (omega arith), key-there sales 2 (omega arith) (omega arith), omega arith, refl, refl);
  some_workers = omega arith;
  few_workers = omega arith;
  one_at_sink = λ e. absurd (false≢true e);
}

sink-last : IsNext (scan_prices ∷ scan_sales ∷ join ∷ []) sink
unfolding is_id are_apart
sink-last = record {
  named = refl;
  fresh = refl;
  columns = record { some = omega arith; few = omega arith; apart = refl };
  kind = refl;
  some_workers = omega arith;
  few_workers = omega arith;
  one_at_sink = λ e. refl;
}

each-read_once : (op : ℕ) → 0 < op → op < 4 → reader_count flow op ≡ 1
unfolding reader_count
each-read_once zero some less = absurd (omega arith)
each-read_once (suc zero) some less = refl
each-read_once (suc (suc zero)) some less = refl
each-read_once (suc (suc (suc zero))) some less = refl
each-read_once (suc (suc (suc (suc n)))) some less = absurd (omega arith)

is_flow : IsFlow flow
unfolding AreNext ends_in_sink
is_flow = record {
  some = omega arith;
  few = omega arith;
  operators = (prices-first, (sales-next, (join-next, (sink-last, tt))));
  ends = refl;
  read_once = each-read_once;
  few_workers = omega arith;
}

-- ---- the files

abbrev files : List (List ℕ)
files =
    lines (codes "name,price" ∷ codes "nut,3" ∷ codes "bolt,4" ∷ codes "bolt,9" ∷ [])
    ∷ lines (codes "id,item" ∷ codes "1,nut" ∷ codes "2,bolt" ∷ codes "3,nut" ∷ codes "4,nut" ∷ codes "5,nut" ∷ codes "6,bolt" ∷ []) ∷ []

-- ---- the log

abbrev hold_five : Item
hold_five = item.Do (command.When 2 (record { column = 1; op = cmp.Eq; constant = value.Int (pos 5) }))

-- the first of the two workers that scan sales stands before the fifth
abbrev to_hold : Leg
to_hold = record {
  parts =
      part 0 (entry.Go 3 3 ∷ entry.Finish ∷ [])
      ∷ part 1 (entry.Go 3 2 ∷ entry.Hold ∷ [])
      ∷ part 3 (entry.Take 0 0 ∷ entry.Go 1 0 ∷ entry.Take 1 0 ∷ entry.Go 1 1 ∷ []) ∷ [];
  close = close.Cut;
}

-- the join's second worker stands between the two matches of a row
abbrev to_count : Leg
to_count = record {
  parts =
      part 1 (entry.Go 0 1 ∷ entry.Finish ∷ [])
      ∷ part 2 (entry.Go 3 3 ∷ entry.Finish ∷ [])
      ∷ part 3 (entry.Grant 2 ∷ entry.Go 1 1 ∷ entry.Take 1 1 ∷ entry.Go 1 1 ∷ [])
      ∷ part 4 (entry.Take 0 0 ∷ entry.Grant 1 ∷ entry.Go 2 0 ∷ entry.Take 0 1 ∷ entry.Take 1 0 ∷ entry.Take 2 0 ∷ entry.Go 1 1 ∷ []) ∷ [];
  close = close.Cut;
}

abbrev last_leg : Leg
last_leg = record {
  parts =
      part 3 (entry.Take 2 0 ∷ entry.Go 1 1 ∷ entry.Finish ∷ [])
      ∷ part 4 (entry.Go 1 3 ∷ entry.Take 2 1 ∷ entry.Finish ∷ [])
      ∷ part 5
      (entry.Take 3 0 ∷ entry.Go 2 0 ∷ entry.Take 3 1 ∷ entry.Go 2 0 ∷ entry.Take 3 2 ∷ entry.Take 4 0 ∷ entry.Go 2 0 ∷ entry.Take 4 1 ∷ entry.Go 2 0 ∷ entry.Take 4 2 ∷ entry.Finish ∷ []) ∷ [];
  close = close.Cut;
}

abbrev before_count : List Item
before_count = hold_five ∷ item.Run to_hold ∷ []

abbrev armed : List Item
armed = before_count ++ item.Do (command.Count 3 3) ∷ []

abbrev before_end : List Item
before_end = armed ++ item.Run to_count ∷ []

abbrev items : List Item
items = before_end ++ item.End last_leg ∷ []

-- over the files, with batches of two rows
abbrev query : Query
query = query_over flow files 2 1000

is_unaltered : IsUnaltered items
is_unaltered = refl

passes : may_reach query (start_of flow) items ≡ true
unfolding files_on_literals
passes = refl

text-of : (worker : ℕ) (one : Entry) (more : List Entry) → worker < 2 ^ 32 → AreEntries false (one ∷ more) → IsPart (part worker (one ∷ more))
text-of worker one more small are = record { worker = small; some = omega arith; entries = are }

hold_has_text : AreParts 0 to_hold.parts
unfolding AreParts AreEntries
hold_has_text = (
  omega arith,
  text-of _ _ _ (omega arith) (omega arith, refl, (tt, refl, tt)),
  (
    omega arith,
    text-of _ _ _ (omega arith) (omega arith, refl, (tt, refl, tt)),
    (omega arith, text-of _ _ _ (omega arith) (omega arith, refl, (omega arith, refl, (omega arith, refl, (omega arith, refl, tt)))), tt),
  ),
)

count_has_text : AreParts 0 to_count.parts
unfolding AreParts AreEntries
count_has_text = (
  omega arith,
  text-of _ _ _ (omega arith) (omega arith, refl, (tt, refl, tt)),
  (
    omega arith,
    text-of _ _ _ (omega arith) (omega arith, refl, (tt, refl, tt)),
    (
      omega arith,
      text-of _ _ _ (omega arith) (omega arith, refl, (omega arith, refl, (omega arith, refl, (omega arith, refl, tt)))),
      (omega arith, text-of _ _ _ (omega arith) (omega arith, refl, (omega arith, refl, (omega arith, refl, (omega arith, refl, (omega arith, refl, (omega arith, refl, (omega arith, refl, tt))))))), tt),
    ),
  ),
)

end_has_text : AreParts 0 last_leg.parts
unfolding AreParts AreEntries
end_has_text = (
  omega arith,
  text-of _ _ _ (omega arith) (omega arith, refl, (omega arith, refl, (tt, refl, tt))),
  (
    omega arith,
    text-of _ _ _ (omega arith) (omega arith, refl, (omega arith, refl, (tt, refl, tt))),
    (omega arith, text-of _ _ _ (omega arith) (omega arith, refl, (omega arith, refl, (omega arith, refl, (omega arith, refl, (omega arith, refl, (omega arith, refl, (omega arith, refl, (omega arith, refl, (omega arith, refl, (omega arith, refl, (tt, refl, tt))))))))))), tt),
  ),
)

has_text : IsLog (record { batch = 2; items = items })
unfolding AreItems
has_text = record {
  batch = omega arith;
  items = (refl, (omega arith, (omega arith, refl)), (refl, hold_has_text, (refl, (omega arith, omega arith), (refl, count_has_text, (refl, end_has_text, tt)))));
}

is_legal : IsLegal query (record { batch = 2; items = items })
is_legal =
    let reached = (logs_are_tested query (start_of flow) items (flows_send_forward flow is_flow)).0 passes in
    record { text = has_text; batch = refl; after = reached.0; reached = reached.1 }

-- ---- both sides

work : step_total query ≡ 64
unfolding files_on_literals
work = refl

steps : steps_in (state_after query items) ≡ 64
unfolding files_on_literals
steps = refl

abbrev answer : List ℕ
answer =
    lines
    (codes "rows 8" ∷ codes "id,item,name,price" ∷ codes "1,nut,nut,3" ∷ codes "2,bolt,bolt,4" ∷ codes "2,bolt,bolt,9" ∷ codes "3,nut,nut,3" ∷ codes "4,nut,nut,3" ∷ codes "5,nut,nut,3"
    ∷ codes "6,bolt,bolt,4" ∷ codes "6,bolt,bolt,9" ∷ [])

plain : answer_text flow (answer_of flow files) ≡ answer
unfolding files_on_literals
plain = refl

printed : transcript_of query items ≡ lines (codes "ok break when o id = 5" ∷ codes "stop held o 0 5,nut" ∷ codes "ok break count j 3" ∷ codes "stop count j 3" ∷ []) ++ answer
unfolding files_on_literals
printed = refl

-- the second leg stops at the count, where the join has emitted three rows more than before
stopped : stops_in query (run_state query armed to_count) ≡ stop.Count 3 3 ∷ []
unfolding files_on_literals
stopped = refl

emitted_before : emitted_by flow (state_after query before_count) 3 ≡ 1
unfolding files_on_literals
emitted_before = refl

emitted_then : emitted_by flow (run_state query armed to_count) 3 ≡ 4
unfolding files_on_literals
emitted_then = refl

-- ---- what the laws say of this log

answered : answer_in query is_legal.after ≡ answer_of flow files
answered = schedules_have_one_answer flow files 2 1000 2 before_end last_leg is_flow refl is_unaltered is_legal

to_target : (op : ℕ) → CountsToTarget query (run_state query armed to_count) op (arms_at (run_state query armed to_count) op).count
to_target = counts_stop_at_their_target query 2 armed (item.End last_leg ∷ []) to_count is_flow is_legal

since_armed : CountsSinceArmed query armed (run_state query armed to_count)
since_armed = counts_count_since_armed query 2 armed (item.End last_leg ∷ []) to_count is_flow is_legal
