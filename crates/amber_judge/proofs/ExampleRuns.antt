-- More logs, their legality and what they print: groups by several workers, units given back, pauses, a leg that was too long.
use Rattle.std.proofs.Common.{◌≡◌, ℕ, List, [], ◌∷◌, codes, true, refl}
use Rattle.amber_log.specs.declared.command.Command.TheVariants as command
use Rattle.amber_log.specs.declared.entry.Entry.TheVariants as entry
use Rattle.amber_log.specs.declared.leg.Close.TheVariants as close
use Rattle.amber_log.specs.declared.log.Item.{Item}
use Rattle.amber_log.specs.declared.log.Item.TheVariants as item
use Rattle.amber_meaning.specs.Legal.{Query}
use Rattle.amber_judge.specs.LegalTests.{may_reach}
use Rattle.amber_meaning.specs.State.{start_of}
use Rattle.amber_meaning.specs.Transcript.{transcript_of}
use Rattle.amber_meaning.proofs.ExampleCases.{by_item, kept_from, lines, part, query_of, texts_on_literals}
use Rattle.amber_judge.proofs.ExampleTests.{tests_on_literals}

abbrev five_lines : List (List ℕ)
five_lines = codes "rows 5" ∷ codes "id,item,qty" ∷ codes "1,nut,5" ∷ codes "2,bolt,12" ∷ codes "3,nut,7" ∷ codes "4,cog,12" ∷ codes "5,bolt,1" ∷ []

-- ---- groups by four workers, of which two get no row

abbrev grouped_log : List Item
grouped_log =
    item.Run (record {
      parts =
          part 0 (entry.Go 5 5 ∷ entry.Finish ∷ [])
          ∷ part 1 (entry.Take 0 0 ∷ entry.Finish ∷ [])
          ∷ part 2 (entry.Take 0 0 ∷ entry.Finish ∷ [])
          ∷ part 3 (entry.Take 0 0 ∷ entry.Go 3 2 ∷ entry.Finish ∷ [])
          ∷ part 4 (entry.Take 0 0 ∷ entry.Go 2 1 ∷ entry.Finish ∷ [])
          ∷ part 5 (entry.Take 1 0 ∷ entry.Take 2 0 ∷ entry.Take 3 0 ∷ entry.Go 2 0 ∷ entry.Take 4 0 ∷ entry.Go 1 0 ∷ entry.Finish ∷ []) ∷ [];
      close = close.Cut;
    })
    ∷ item.Do (command.Inspect 2)
    ∷ item.End (record { parts = []; close = close.Cut }) ∷ []

grouped_is_legal : may_reach (query_of by_item 400) (start_of by_item) grouped_log ≡ true
unfolding tests_on_literals
grouped_is_legal = refl

group_result : transcript_of (query_of by_item 400) grouped_log
    ≡ lines (codes "stop end" ∷ codes "inspect g group"
    ∷ codes "worker 0 taken 0 rest 0 out 0 pending 0 finished groups 0"
    ∷ codes "worker 1 taken 0 rest 0 out 0 pending 0 finished groups 0"
    ∷ codes "worker 2 taken 3 rest 0 out 2 pending 0 finished groups 2"
    ∷ codes "worker 3 taken 2 rest 0 out 1 pending 0 finished groups 1"
    ∷ codes "rows 3" ∷ codes "item,count,sum:qty" ∷ codes "bolt,2,13" ∷ codes "cog,1,12" ∷ codes "nut,2,12" ∷ [])
unfolding texts_on_literals
group_result = refl

-- ---- a count that is never reached: the unit that is left goes back after the end

abbrev uncounted_log : List Item
uncounted_log =
    item.Do (command.Count 2 6)
    ∷ item.Run (record {
      parts = part 0 (entry.Go 5 5 ∷ entry.Finish ∷ [])
          ∷ part 1 (entry.Take 0 0 ∷ entry.Grant 2 ∷ entry.Go 2 2 ∷ entry.Grant 4 ∷ entry.Go 3 3 ∷ entry.Finish ∷ entry.Back 1 ∷ [])
          ∷ part 2 (entry.Take 1 0 ∷ entry.Go 5 0 ∷ entry.Finish ∷ []) ∷ [];
      close = close.Cut;
    })
    ∷ item.End (record { parts = []; close = close.Cut }) ∷ []

uncounted_is_legal : may_reach (query_of (kept_from 0) 400) (start_of (kept_from 0)) uncounted_log ≡ true
unfolding tests_on_literals
uncounted_is_legal = refl

uncounted : transcript_of (query_of (kept_from 0) 400) uncounted_log ≡ lines (codes "ok break count f 6" ∷ codes "stop end" ∷ five_lines)
unfolding texts_on_literals
uncounted = refl

-- ---- a pause, with a worker that pauses and goes on inside the leg

abbrev paused_log : List Item
paused_log =
    item.Do (command.Pause 2 2)
    ∷ item.Run (record {
      parts = part 0 (entry.Go 5 5 ∷ entry.Finish ∷ [])
          ∷ part 1 (entry.Take 0 0 ∷ entry.Go 1 0 ∷ entry.Pause ∷ entry.Resume ∷ entry.Go 3 3 ∷ entry.Pause ∷ []) ∷ [];
      close = close.Cut;
    })
    ∷ item.End (record { parts = part 1 (entry.Go 1 2 ∷ entry.Finish ∷ []) ∷ part 2 (entry.Take 1 0 ∷ entry.Go 5 0 ∷ entry.Finish ∷ []) ∷ []; close = close.Cut }) ∷ []

paused_is_legal : may_reach (query_of (kept_from 0) 400) (start_of (kept_from 0)) paused_log ≡ true
unfolding tests_on_literals
paused_is_legal = refl

paused : transcript_of (query_of (kept_from 0) 400) paused_log ≡ lines (codes "ok pause f 2" ∷ codes "stop pause f 2 3" ∷ five_lines)
unfolding texts_on_literals
paused = refl

-- ---- a leg that may not make its last step: it has no reply

abbrev short_of_one : Query
short_of_one = record (query_of (kept_from 0) 400) { most = 29 }

abbrev long_log : List Item
long_log =
    item.End (record {
      parts = part 0 (entry.Go 5 5 ∷ entry.Finish ∷ []) ∷ part 1 (entry.Take 0 0 ∷ entry.Go 5 5 ∷ entry.Finish ∷ [])
          ∷ part 2 (entry.Take 1 0 ∷ entry.Go 5 0 ∷ []) ∷ [];
      close = close.Long;
    }) ∷ []

long_is_legal : may_reach short_of_one (start_of (kept_from 0)) long_log ≡ true
unfolding tests_on_literals
long_is_legal = refl

long : transcript_of short_of_one long_log ≡ []
unfolding texts_on_literals
long = refl

-- ---- batches of two rows: a worker may take what was whole by the end of the leg

abbrev batched_log : List Item
batched_log =
    item.Do (command.Pause 1 3)
    ∷ item.Run (record { parts = part 0 (entry.Go 4 3 ∷ entry.Pause ∷ []) ∷ part 1 (entry.Take 0 0 ∷ entry.Go 2 2 ∷ []) ∷ part 2 (entry.Take 1 0 ∷ entry.Go 2 0 ∷ []) ∷ []; close = close.Cut })
    ∷ item.End (record {
      parts = part 0 (entry.Go 1 2 ∷ entry.Finish ∷ [])
          ∷ part 1 (entry.Take 0 1 ∷ entry.Go 2 2 ∷ entry.Take 0 2 ∷ entry.Go 1 1 ∷ entry.Finish ∷ [])
          ∷ part 2 (entry.Take 1 1 ∷ entry.Go 2 0 ∷ entry.Take 1 2 ∷ entry.Go 1 0 ∷ entry.Finish ∷ []) ∷ [];
      close = close.Cut;
    }) ∷ []

batched_is_legal : may_reach (query_of (kept_from 0) 2) (start_of (kept_from 0)) batched_log ≡ true
unfolding tests_on_literals
batched_is_legal = refl

batched : transcript_of (query_of (kept_from 0) 2) batched_log ≡ lines (codes "ok pause o 3" ∷ codes "stop pause o 3 3" ∷ five_lines)
unfolding texts_on_literals
batched = refl
