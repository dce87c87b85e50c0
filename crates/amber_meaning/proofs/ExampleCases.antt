-- Workflows, files and a log that the examples share, and what they compute with.
use Rattle.std.specs.Prelude.{⊤}
use Rattle.std.proofs.Common.{ℕ, pos, List, [], ◌∷◌, ◌++◌, codes, Ok, Result}
use Rattle.std.specs.Fmt.{digits}
use Rattle.csv.proofs.OnLiterals.{csv_on_literals}
use Rattle.csv.specs.Writing.{fields_text, is_blank}
use Rattle.amber_rows.specs.declared.value.Value.{Value}
use Rattle.amber_rows.specs.declared.value.Value.TheVariants as value
use Rattle.amber_rows.specs.declared.agg.Agg.TheVariants as agg
use Rattle.amber_rows.specs.declared.column.ColKind.TheVariants as kind
use Rattle.amber_rows.specs.declared.column.Column.{Column}
use Rattle.amber_rows.specs.declared.cond.Cmp.TheVariants as cmp
use Rattle.amber_rows.specs.declared.flow.What.TheVariants as what
use Rattle.amber_rows.specs.declared.flow.Operator.{Operator}
use Rattle.amber_rows.specs.declared.record.RowFault.{RowFault}
use Rattle.amber_rows.specs.Chunks.{chunks_of}
use Rattle.amber_rows.specs.Lists.{numbers_below}
use Rattle.amber_rows.specs.Cond.{holds_of}
use Rattle.amber_rows.specs.Topology.{crew_of, first_worker_of, follower_of, keyed_receiver_of, op_of, reader_from, receiver_of, senders_of, sends_to, workers_of}
use Rattle.amber_rows.specs.Operators.{agg_value, agg_values, first_keys, greatest_of, group_result, join_result, least_of, matches_of, pick_cells, project_result, refused_keys, total_of}
use Rattle.amber_rows.specs.Order.{insert_row, sort_rows}
use Rattle.amber_rows.specs.Routing.{fnv_of, key_bytes_of, route_of}
use Rattle.amber_rows.specs.RowText.{fields_text_of, rows_text_of}
use Rattle.amber_rows.specs.Suits.{suits_of}
use Rattle.amber_log.specs.declared.command.Command.TheVariants as command
use Rattle.amber_log.specs.declared.entry.Entry.{Entry}
use Rattle.amber_log.specs.declared.entry.Entry.TheVariants as entry
use Rattle.amber_log.specs.declared.leg.Close.{Close}
use Rattle.amber_log.specs.declared.leg.Close.TheVariants as close
use Rattle.amber_log.specs.declared.leg.Part.{Part}
use Rattle.amber_log.specs.declared.log.Item.{Item}
use Rattle.amber_log.specs.declared.log.Item.TheVariants as item
use Rattle.amber_meaning.specs.Legal.{Query, batches_for, entries_of, stream_of}
use Rattle.amber_meaning.specs.Plan.{role_of, task_of}
use Rattle.amber_rows.specs.Shares.{share_of, with_numbers}
use Rattle.amber_meaning.specs.Position.{all_arrivals, have_ended, kept, product, taken_from}
use Rattle.amber_meaning.specs.Replay.{after_item, after_items, led_by, positions_after, state_after, after_leg}
use Rattle.amber_meaning.specs.State.{begin_leg, begin_last_leg, after_command, counted_by, crew_at, emitted_by, start_of, steps_in}
use Rattle.amber_meaning.specs.Stops.{count_stops, held_stops, pause_stops, stops_of, without_stops}
use Rattle.amber_meaning.specs.Task.{built_of}
use Rattle.amber_meaning.specs.Produce.{closing, produce, yields}
use Rattle.amber_meaning.specs.Texts.{answer_text, drop_text, inspected_text, ok_text, stops_text, views_text, word_of, words_before, words_line}
use Rattle.amber_meaning.specs.Total.{dealt_by, dealt_to, total_arrivals, gives, step_total, work_of}
use Rattle.amber_meaning.specs.Transcript.{replies, reply_of, transcript_of}
use Rattle.amber_meaning.specs.Views.{answer_in, by_number, insert_numbered, inspected_of, taken_by, view_of}

-- ---- what unfolds

-- lists of rows
unfoldable pub rows_on_literals : ⊤
unfolding pick_cells matches_of join_result project_result first_keys group_result refused_keys total_of least_of greatest_of agg_value agg_values sort_rows insert_row holds_of suits_of
rows_on_literals = tt

-- who sends what to whom
unfoldable pub crews_on_literals : ⊤
unfolding rows_on_literals numbers_below chunks_of crew_of first_worker_of workers_of op_of reader_from follower_of keyed_receiver_of receiver_of sends_to senders_of route_of key_bytes_of fnv_of digits role_of task_of share_of with_numbers
crews_on_literals = tt

-- what workers have done
unfoldable pub positions_on_literals : ⊤
unfolding crews_on_literals all_arrivals product produce yields closing built_of kept have_ended taken_from
positions_on_literals = tt

-- what logs lead to
unfoldable pub states_on_literals : ⊤
unfolding positions_on_literals entries_of batches_for stream_of steps_in state_after after_items after_item after_leg positions_after led_by start_of after_command begin_leg begin_last_leg without_stops emitted_by counted_by crew_at stops_of held_stops count_stops pause_stops
states_on_literals = tt

-- how many steps a query has
unfoldable pub totals_on_literals : ⊤
unfolding positions_on_literals step_total work_of dealt_to dealt_by total_arrivals gives
totals_on_literals = tt

-- what is printed
unfoldable pub texts_on_literals : ⊤
unfolding states_on_literals transcript_of replies reply_of answer_text drop_text inspected_text ok_text stops_text views_text word_of words_before words_line answer_in by_number insert_numbered inspected_of taken_by view_of rows_text_of fields_text_of fields_text is_blank csv_on_literals
texts_on_literals = tt

-- ---- orders

abbrev pub orders : List Column
orders = record { name = codes "id"; kind = kind.Int } ∷ record { name = codes "item"; kind = kind.Text } ∷ record { name = codes "qty"; kind = kind.Int } ∷ []

abbrev pub order : ℕ → List ℕ → ℕ → List Value
order id item qty = value.Int (pos id) ∷ value.Text item ∷ value.Int (pos qty) ∷ []

abbrev pub five : List (List Value)
five = order 1 (codes "nut") 5 ∷ order 2 (codes "bolt") 12 ∷ order 3 (codes "nut") 7 ∷ order 4 (codes "cog") 12 ∷ order 5 (codes "bolt") 1 ∷ []

-- rows as typed records
abbrev pub typed : List (List Value) → List (Result (List Value) RowFault)
typed [] = []
typed (row ∷ rows) = Ok row ∷ typed rows

abbrev pub scan_orders : Operator
scan_orders = record { id = codes "o"; what = what.Scan (codes "o.csv"); schema = orders; workers = 1 }

-- a scan of the orders, a filter of `qty` from this constant up, a sink
abbrev pub kept_from : ℕ → List Operator
kept_from constant =
    scan_orders
    ∷ record { id = codes "f"; what = what.Filter 1 (record { column = 3; op = cmp.Ge; constant = value.Int (pos constant) }); schema = orders; workers = 1 }
    ∷ record { id = codes "s"; what = what.Sink 2; schema = orders; workers = 1 } ∷ []

-- a scan of the orders, for each item how many there are and the sum of `qty` by four workers, a sink
abbrev pub totals : List Column
totals = record { name = codes "item"; kind = kind.Text } ∷ record { name = codes "count"; kind = kind.Int } ∷ record { name = codes "sum:qty"; kind = kind.Int } ∷ []

abbrev pub by_item : List Operator
by_item =
    scan_orders
    ∷ record { id = codes "g"; what = what.Group 1 (2 ∷ []) (agg.Count ∷ agg.Sum 3 ∷ []); schema = totals; workers = 4 }
    ∷ record { id = codes "s"; what = what.Sink 2; schema = totals; workers = 1 } ∷ []

-- prices and orders of one name side by side
abbrev pub prices : List Column
prices = record { name = codes "name"; kind = kind.Text } ∷ record { name = codes "price"; kind = kind.Int } ∷ []

abbrev pub price : List ℕ → ℕ → List Value
price name amount = value.Text name ∷ value.Int (pos amount) ∷ []

abbrev pub three : List (List Value)
three = price (codes "nut") 3 ∷ price (codes "bolt") 4 ∷ price (codes "bolt") 9 ∷ []

abbrev pub with_prices : List Operator
with_prices =
    record { id = codes "i"; what = what.Scan (codes "i.csv"); schema = prices; workers = 1 }
    ∷ scan_orders
    ∷ record { id = codes "j"; what = what.Join 1 2 (1 ∷ []) (2 ∷ []); schema = orders ++ prices; workers = 1 }
    ∷ record { id = codes "s"; what = what.Sink 3; schema = orders ++ prices; workers = 1 } ∷ []

abbrev pub priced_query : Query
priced_query = record { flow = with_prices; records = typed three ∷ typed five ∷ [] ∷ [] ∷ []; batch_size = 400; most = 1000 }

-- over the five orders, with batches of this many rows
abbrev pub query_of : List Operator → ℕ → Query
query_of flow batch_size = record { flow = flow; records = typed five ∷ [] ∷ [] ∷ []; batch_size = batch_size; most = 1000 }

-- ---- a log

abbrev pub part : ℕ → List Entry → Part
part worker entries = record { worker = worker; entries = entries }

-- a run that a count stops after three rows, and then the rest; the filter's worker takes this batch, claims this many units, and emits
-- this many rows in the first leg and in the second; the sink's emits this many; the last leg is closed like this; this operator is inspected
abbrev pub log_with : ℕ → ℕ → ℕ → ℕ → ℕ → Close → ℕ → List Item
log_with number units first second kept last shown =
    item.Do (command.Count 2 3)
    ∷ item.Run (record {
      parts = part 0 (entry.Go 5 5 ∷ entry.Finish ∷ [])
          ∷ part 1 (entry.Take 0 number ∷ entry.Grant units ∷ entry.Go first first ∷ entry.Pause ∷ []) ∷ [];
      close = close.Cut;
    })
    ∷ item.Do (command.Inspect shown)
    ∷ item.End (record {
      parts = part 1 (entry.Go 2 second ∷ entry.Finish ∷ [])
          ∷ part 2 (entry.Take 1 0 ∷ entry.Go 5 kept ∷ entry.Finish ∷ []) ∷ [];
      close = last;
    }) ∷ []

abbrev pub counted_log : List Item
counted_log = log_with 0 3 3 2 0 close.Cut 2

-- ---- texts

-- lines with their line feeds
abbrev pub lines : List (List ℕ) → List ℕ
lines [] = []
lines (line ∷ more) = line ++ 10 ∷ lines more
