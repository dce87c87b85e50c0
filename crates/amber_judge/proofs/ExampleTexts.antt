-- What logs print. Each of these logs passes the test for legal ones.
use Rattle.std.proofs.Common.{◌≡◌, ℕ, pos, List, [], ◌∷◌, ◌++◌, codes, true, refl}
use Rattle.amber_rows.specs.declared.value.Value.TheVariants as value
use Rattle.amber_rows.specs.declared.cond.Cmp.TheVariants as cmp
use Rattle.amber_log.specs.declared.command.Command.TheVariants as command
use Rattle.amber_log.specs.declared.entry.Entry.TheVariants as entry
use Rattle.amber_log.specs.declared.leg.Close.TheVariants as close
use Rattle.amber_log.specs.declared.log.Item.{Item}
use Rattle.amber_log.specs.declared.log.Item.TheVariants as item
use Rattle.amber_judge.specs.LegalTests.{may_reach}
use Rattle.amber_meaning.specs.State.{start_of}
use Rattle.amber_meaning.specs.Transcript.{transcript_of}
use Rattle.amber_meaning.proofs.ExampleCases.{counted_log, kept_from, lines, part, priced_query, query_of, texts_on_literals, with_prices}
use Rattle.amber_judge.proofs.ExampleTests.{tests_on_literals}

-- ---- a count stops the filter in the middle of a batch

counted : transcript_of (query_of (kept_from 0) 400) counted_log
    ≡ lines (codes "ok break count f 3" ∷ codes "stop count f 3" ∷ codes "inspect f filter" ∷ codes "constant 0"
    ∷ codes "worker 0 taken 3 rest 2 out 3 pending 0 ready"
    ∷ codes "rows 5" ∷ codes "id,item,qty" ∷ codes "1,nut,5" ∷ codes "2,bolt,12" ∷ codes "3,nut,7" ∷ codes "4,cog,12" ∷ codes "5,bolt,1" ∷ [])
unfolding texts_on_literals
counted = refl

-- ---- a condition holds a row, which is dropped

abbrev held_log : List Item
held_log =
    item.Do (command.When 2 (record { column = 2; op = cmp.Eq; constant = value.Text (codes "cog") }))
    ∷ item.Run (record { parts = part 0 (entry.Go 5 5 ∷ entry.Finish ∷ []) ∷ part 1 (entry.Take 0 0 ∷ entry.Go 4 3 ∷ entry.Hold ∷ []) ∷ []; close = close.Cut })
    ∷ item.Do (command.Inspect 2)
    ∷ item.Do (command.Drop 2 0)
    ∷ item.Do (command.Drop 2 0)
    ∷ item.End (record { parts = part 1 (entry.Go 1 1 ∷ entry.Finish ∷ []) ∷ part 2 (entry.Take 1 0 ∷ entry.Go 4 0 ∷ entry.Finish ∷ []) ∷ []; close = close.Cut }) ∷ []

held_is_legal : may_reach (query_of (kept_from 0) 400) (start_of (kept_from 0)) held_log ≡ true
unfolding tests_on_literals
held_is_legal = refl

held : transcript_of (query_of (kept_from 0) 400) held_log
    ≡ lines (codes "ok break when f item = cog" ∷ codes "stop held f 0 4,cog,12" ∷ codes "inspect f filter" ∷ codes "constant 0" ∷ codes "when item = cog"
    ∷ codes "worker 0 taken 4 rest 1 out 3 pending 1 held" ∷ codes "next 4,cog,12" ∷ codes "ok drop f 0 4,cog,12" ∷ codes "none drop f 0"
    ∷ codes "rows 4" ∷ codes "id,item,qty" ∷ codes "1,nut,5" ∷ codes "2,bolt,12" ∷ codes "3,nut,7" ∷ codes "5,bolt,1" ∷ [])
unfolding texts_on_literals
held = refl

-- ---- a row that is held goes on with the next leg

abbrev waved_log : List Item
waved_log =
    item.Do (command.When 2 (record { column = 2; op = cmp.Eq; constant = value.Text (codes "cog") }))
    ∷ item.Run (record { parts = part 0 (entry.Go 5 5 ∷ entry.Finish ∷ []) ∷ part 1 (entry.Take 0 0 ∷ entry.Go 4 3 ∷ entry.Hold ∷ []) ∷ []; close = close.Cut })
    ∷ item.Run (record { parts = part 1 (entry.Go 1 2 ∷ entry.Finish ∷ []) ∷ part 2 (entry.Take 1 0 ∷ entry.Go 5 0 ∷ entry.Finish ∷ []) ∷ []; close = close.Cut })
    ∷ item.End (record { parts = []; close = close.Cut }) ∷ []

waved_is_legal : may_reach (query_of (kept_from 0) 400) (start_of (kept_from 0)) waved_log ≡ true
unfolding tests_on_literals
waved_is_legal = refl

waved : transcript_of (query_of (kept_from 0) 400) waved_log
    ≡ lines (codes "ok break when f item = cog" ∷ codes "stop held f 0 4,cog,12" ∷ codes "stop end"
    ∷ codes "rows 5" ∷ codes "id,item,qty" ∷ codes "1,nut,5" ∷ codes "2,bolt,12" ∷ codes "3,nut,7" ∷ codes "4,cog,12" ∷ codes "5,bolt,1" ∷ [])
unfolding texts_on_literals
waved = refl

-- ---- a constant changes for the rows that are taken from then on

abbrev inspected : List (List ℕ)
inspected = codes "inspect f filter" ∷ codes "constant 1" ∷ codes "worker 0 taken 3 rest 2 out 2 pending 0 ready" ∷ []

abbrev set_log : List Item
set_log =
    item.Do (command.Count 2 1)
    ∷ item.Run (record {
      parts = part 0 (entry.Go 5 5 ∷ entry.Finish ∷ [])
          ∷ part 1 (entry.Take 0 0 ∷ entry.Grant 1 ∷ entry.Go 2 1 ∷ entry.Pause ∷ []) ∷ [];
      close = close.Cut;
    })
    ∷ item.Do (command.Set 2 (value.Int (pos 1)))
    ∷ item.Do (command.Count 2 1)
    ∷ item.Run (record { parts = part 1 (entry.Grant 1 ∷ entry.Go 1 1 ∷ entry.Pause ∷ []) ∷ []; close = close.Cut })
    ∷ item.Do (command.Inspect 2) ∷ item.Do (command.Lose 2 0) ∷ item.Do (command.Inspect 2)
    ∷ item.End (record { parts = part 1 (entry.Go 2 2 ∷ entry.Finish ∷ []) ∷ part 2 (entry.Take 1 0 ∷ entry.Go 4 0 ∷ entry.Finish ∷ []) ∷ []; close = close.Cut }) ∷ []

set_is_legal : may_reach (query_of (kept_from 7) 400) (start_of (kept_from 7)) set_log ≡ true
unfolding tests_on_literals
set_is_legal = refl

set : transcript_of (query_of (kept_from 7) 400) set_log
    ≡ lines (codes "ok break count f 1" ∷ codes "stop count f 1" ∷ codes "ok set f 1" ∷ codes "ok break count f 1" ∷ codes "stop count f 1" ∷ [])
    ++ (lines inspected ++ (lines (codes "ok lose f 0" ∷ []) ++ (lines inspected
    ++ lines (codes "rows 4" ∷ codes "id,item,qty" ∷ codes "2,bolt,12" ∷ codes "3,nut,7" ∷ codes "4,cog,12" ∷ codes "5,bolt,1" ∷ []))))
unfolding texts_on_literals
set = refl

-- ---- a count stops a join between the matches of one row

abbrev joined_log : List Item
joined_log =
    item.Do (command.Count 3 2)
    ∷ item.Run (record {
      parts = part 0 (entry.Go 3 3 ∷ entry.Finish ∷ []) ∷ part 1 (entry.Go 5 5 ∷ entry.Finish ∷ [])
          ∷ part 2 (entry.Take 0 0 ∷ entry.Grant 2 ∷ entry.Go 3 0 ∷ entry.Take 1 0 ∷ entry.Go 2 2 ∷ entry.Pause ∷ []) ∷ [];
      close = close.Cut;
    })
    ∷ item.Do (command.Inspect 3)
    ∷ item.End (record { parts = part 2 (entry.Go 3 4 ∷ entry.Finish ∷ []) ∷ part 3 (entry.Take 2 0 ∷ entry.Go 6 0 ∷ entry.Finish ∷ []) ∷ []; close = close.Cut }) ∷ []

joined_is_legal : may_reach priced_query (start_of with_prices) joined_log ≡ true
unfolding tests_on_literals
joined_is_legal = refl

joined : transcript_of priced_query joined_log
    ≡ lines (codes "ok break count j 2" ∷ codes "stop count j 2" ∷ codes "inspect j join"
    ∷ codes "worker 0 taken 5 rest 3 out 2 pending 1 ready keys 2 built 3" ∷ codes "next 2,bolt,12,bolt,9"
    ∷ codes "rows 6" ∷ codes "id,item,qty,name,price" ∷ codes "1,nut,5,nut,3" ∷ codes "2,bolt,12,bolt,4" ∷ codes "2,bolt,12,bolt,9"
    ∷ codes "3,nut,7,nut,3" ∷ codes "5,bolt,1,bolt,4" ∷ codes "5,bolt,1,bolt,9" ∷ [])
unfolding texts_on_literals
joined = refl
