-- A workflow, a file and a log that meet what the laws ask for, and both sides of the laws computed: a record with a fault, a group
-- whose sum leaves 64 bits, two workers at the scan and at the group, and a pause.
use Rattle.std.proofs.Common.{◌≡◌, ℕ, zero, suc, ◌<◌, ◌≤◌, List, [], ◌∷◌, ◌++◌, length, codes, true, refl, arith}
use Rattle.std.specs.Prelude.{⊤}
use Rattle.std.specs.Str.{chars, is_utf8}
use Rattle.std.proofs.lemmas.Bool.{false≢true}
use Rattle.std.proofs.lemmas.List.Elements.{All-cons, All-nil}
use Rattle.amber_rows.specs.FlowRules.{AreNext, IsFlow, IsNext, ends_in_sink, reader_count}
use Rattle.amber_rows.specs.Columns.{AreIn, are_apart, is_id}
use Rattle.amber_rows.specs.Number.{read_int_of}
use Rattle.amber_rows.specs.Record.{cells_of, file_records, row_of, typed_records}
use Rattle.amber_rows.specs.declared.agg.Agg.TheVariants as agg
use Rattle.amber_rows.specs.declared.column.ColKind.TheVariants as kind
use Rattle.amber_rows.specs.declared.column.Column.{Column}
use Rattle.amber_rows.specs.declared.flow.What.TheVariants as what
use Rattle.amber_rows.specs.declared.flow.Operator.{Operator}
use Rattle.amber_log.specs.Grammar.{AreEntries, AreItems, AreParts, IsLog}
use Rattle.amber_log.specs.declared.command.Command.TheVariants as command
use Rattle.amber_log.specs.declared.entry.Entry.TheVariants as entry
use Rattle.amber_log.specs.declared.leg.Close.TheVariants as close
use Rattle.amber_log.specs.declared.leg.Leg.{Leg}
use Rattle.amber_log.specs.declared.log.Item.{Item}
use Rattle.amber_log.specs.declared.log.Item.TheVariants as item
use Rattle.amber_meaning.specs.Legal.{IsLegal, IsUnaltered, Query, query_over}
use Rattle.amber_judge.specs.LegalTests.{may_reach}
use Rattle.amber_meaning.specs.Plain.{answer_from, answer_of, outputs, records_of, refusals}
use Rattle.amber_meaning.specs.Refused.{refused_records}
use Rattle.amber_meaning.specs.Replay.{state_after}
use Rattle.amber_meaning.specs.State.{have_finished, start_of, steps_in}
use Rattle.amber_meaning.specs.Texts.{answer_text}
use Rattle.amber_meaning.specs.Total.{step_total}
use Rattle.amber_meaning.specs.Transcript.{transcript_of}
use Rattle.amber_meaning.specs.Views.{answer_in}
use Rattle.amber_meaning.proofs.ExampleCases.{lines, part, texts_on_literals, totals_on_literals}
use Rattle.amber_judge.proofs.ExampleTests.{tests_on_literals}
use Rattle.amber_judge.proofs.LegalFrom.{logs_are_tested}
use Rattle.amber_meaning.proofs.Senders.{flows_send_forward}
use Rattle.amber_laws.proofs.Counted.{schedules_take_one_total}
use Rattle.amber_laws.proofs.Schedules.{schedules_have_one_answer}
use Rattle.amber_laws.specs.StepLaws.{KeepsTotal}

-- what files hold, and the answer over them
unfoldable pub files_on_literals : ⊤
unfolding texts_on_literals tests_on_literals totals_on_literals answer_of answer_from outputs refusals refused_records records_of typed_records file_records row_of cells_of read_int_of is_utf8 chars lib.Utf8.encode
files_on_literals = tt

-- ---- the workflow

abbrev pairs : List Column
pairs = record { name = codes "k"; kind = kind.Text } ∷ record { name = codes "v"; kind = kind.Int } ∷ []

abbrev sums : List Column
sums = record { name = codes "k"; kind = kind.Text } ∷ record { name = codes "sum:v"; kind = kind.Int } ∷ []

abbrev scan : Operator
scan = record { id = codes "o"; what = what.Scan (codes "o.csv"); schema = pairs; workers = 2 }

abbrev group : Operator
group = record { id = codes "g"; what = what.Group 1 (1 ∷ []) (agg.Sum 2 ∷ []); schema = sums; workers = 2 }

abbrev sink : Operator
sink = record { id = codes "s"; what = what.Sink 2; schema = sums; workers = 1 }

abbrev flow : List Operator
flow = scan ∷ group ∷ sink ∷ []

scan-first : IsNext [] scan
unfolding is_id are_apart
scan-first = record {
  named = refl;
  fresh = refl;
  columns = record { some = omega arith; few = omega arith; apart = refl };
  kind = (omega arith, omega arith, refl);
  some_workers = omega arith;
  few_workers = omega arith;
  one_at_sink = λ e. absurd (false≢true e);
}

keys-there : AreIn pairs (1 ∷ [])
keys-there = All-cons (λ number. (0 < number) × (number ≤ length pairs)) 1 [] (omega arith, omega arith) (All-nil (λ number. (0 < number) × (number ≤ length pairs)))

group-next : IsNext (scan ∷ []) group
unfolding is_id are_apart
group-next = record {
  named = refl;
  fresh = refl;
  columns = record { some = omega arith; few = omega arith; apart = refl };
  kind = ((omega arith, omega arith), keys-there, refl, refl);
  some_workers = omega arith;
  few_workers = omega arith;
  one_at_sink = λ e. absurd (false≢true e);
}

sink-last : IsNext (scan ∷ group ∷ []) sink
unfolding is_id are_apart
sink-last = record {
  named = refl;
  fresh = refl;
  columns = record { some = omega arith; few = omega arith; apart = refl };
  kind = refl;
  some_workers = omega arith;
  few_workers = omega arith;
  one_at_sink = λ e. refl;
}

each-read_once : (op : ℕ) → 0 < op → op < 3 → reader_count flow op ≡ 1
unfolding reader_count
each-read_once zero some less = absurd (omega arith)
each-read_once (suc zero) some less = refl
each-read_once (suc (suc zero)) some less = refl
each-read_once (suc (suc (suc n))) some less = absurd (omega arith)

pub is_flow : IsFlow flow
unfolding AreNext ends_in_sink
is_flow = record {
  some = omega arith;
  few = omega arith;
  operators = (scan-first, (group-next, (sink-last, tt)));
  ends = refl;
  read_once = each-read_once;
  few_workers = omega arith;
}

-- ---- the file

abbrev pub o_csv : List ℕ
o_csv = lines (codes "k,v" ∷ codes "a,9223372036854775807" ∷ codes "b,1" ∷ codes "a,1" ∷ codes "x" ∷ codes "b,2" ∷ [])

-- ---- the log

abbrev to_pause : Item
to_pause = item.Run (record { parts = part 0 (entry.Go 2 2 ∷ entry.Pause ∷ []) ∷ []; close = close.Cut })

abbrev last_leg : Leg
last_leg = record {
  parts =
      part 0 (entry.Go 1 1 ∷ entry.Finish ∷ [])
      ∷ part 1 (entry.Go 2 1 ∷ entry.Finish ∷ [])
      ∷ part 2 (entry.Take 0 0 ∷ entry.Go 2 0 ∷ entry.Take 1 0 ∷ entry.Finish ∷ [])
      ∷ part 3 (entry.Take 1 0 ∷ entry.Go 1 0 ∷ entry.Take 0 0 ∷ entry.Go 1 1 ∷ entry.Finish ∷ [])
      ∷ part 4 (entry.Take 3 0 ∷ entry.Go 1 0 ∷ entry.Take 2 0 ∷ entry.Finish ∷ []) ∷ [];
  close = close.Cut;
}

abbrev items : List Item
items = item.Do (command.Pause 1 2) ∷ to_pause ∷ item.End last_leg ∷ []

-- over the file, with batches of 400 rows
abbrev query : Query
query = query_over flow (o_csv ∷ []) 400 1000

pub is_unaltered : IsUnaltered items
is_unaltered = refl

passes : may_reach query (start_of flow) items ≡ true
unfolding files_on_literals
passes = refl

has_text : IsLog (record { batch = 400; items = items })
unfolding AreItems AreParts AreEntries
has_text = record {
  batch = omega arith;
  items = (
    refl,
    omega arith,
    (
      refl,
      (omega arith, record { worker = omega arith; some = omega arith; entries = (omega arith, refl, (tt, refl, tt)) }, tt),
      (
        refl,
        (
          omega arith,
          record { worker = omega arith; some = omega arith; entries = (omega arith, refl, (tt, refl, tt)) },
          (
            omega arith,
            record { worker = omega arith; some = omega arith; entries = (omega arith, refl, (tt, refl, tt)) },
            (
              omega arith,
              record { worker = omega arith; some = omega arith; entries = (omega arith, refl, (omega arith, refl, (omega arith, refl, (tt, refl, tt)))) },
              (
                omega arith,
                record { worker = omega arith; some = omega arith; entries = (omega arith, refl, (omega arith, refl, (omega arith, refl, (omega arith, refl, (tt, refl, tt))))) },
                (
                  omega arith,
                  record { worker = omega arith; some = omega arith; entries = (omega arith, refl, (omega arith, refl, (omega arith, refl, (tt, refl, tt)))) },
                  tt,
                ),
              ),
            ),
          ),
        ),
        tt,
      ),
    ),
  );
}

pub is_legal : IsLegal query (record { batch = 400; items = items })
is_legal =
    let reached = (logs_are_tested query (start_of flow) items (flows_send_forward flow is_flow)).0 passes in
    record { text = has_text; batch = refl; after = reached.0; reached = reached.1 }

-- ---- both sides

work : step_total query ≡ 26
unfolding files_on_literals
work = refl

steps : steps_in (state_after query items) ≡ 26
unfolding files_on_literals
steps = refl

all_finished : have_finished (state_after query items) ≡ true
unfolding files_on_literals
all_finished = refl

abbrev answer : List ℕ
answer = lines (codes "refused record o 4 width" ∷ codes "refused group g a" ∷ codes "rows 1" ∷ codes "k,sum:v" ∷ codes "b,3" ∷ [])

plain : answer_text flow (answer_of flow (o_csv ∷ [])) ≡ answer
unfolding files_on_literals
plain = refl

printed : transcript_of query items ≡ lines (codes "ok pause o 2" ∷ codes "stop pause o 2 2" ∷ []) ++ answer
unfolding files_on_literals
printed = refl

-- ---- what the laws say of this log

answered : answer_in query is_legal.after ≡ answer_of flow (o_csv ∷ [])
answered =
    schedules_have_one_answer flow (o_csv ∷ []) 400 1000 400 (item.Do (command.Pause 1 2) ∷ to_pause ∷ []) last_leg is_flow refl is_unaltered is_legal

counted : KeepsTotal query is_legal.after
counted = schedules_take_one_total query (record { batch = 400; items = items }) is_flow is_unaltered is_legal
