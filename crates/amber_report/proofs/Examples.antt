-- Words, stops and inspections as they are printed, on literals.
use Rattle.std.proofs.Common.{◌≡◌, pos, [], ◌∷◌, codes, None, Some, refl}
use Rattle.amber_rows.specs.declared.value.Value.TheVariants as value
use Rattle.amber_rows.specs.declared.cond.Cmp.TheVariants as cmp
use Rattle.amber_log.specs.declared.command.Command.TheVariants as command
use Rattle.amber_meaning.specs.declared.view.Extra.TheVariants as extra
use Rattle.amber_meaning.specs.declared.view.Stand.TheVariants as stand
use Rattle.amber_meaning.specs.declared.view.Stop.TheVariants as stop
use Rattle.amber_meaning.specs.Texts.{ok_text, stops_text, view_words, views_text, word_of, words_line}
use Rattle.amber_meaning.proofs.ExampleCases.{kept_from, lines, texts_on_literals}

-- ---- words

bare : word_of (codes "cog") ≡ codes "cog"
unfolding texts_on_literals
bare = refl

empty : word_of [] ≡ codes "\"\""
unfolding texts_on_literals
empty = refl

blank : word_of (codes "big nut") ≡ codes "\"big nut\""
unfolding texts_on_literals
blank = refl

comment : word_of (codes "#1") ≡ codes "\"#1\""
unfolding texts_on_literals
comment = refl

hash_inside : word_of (codes "a#1") ≡ codes "a#1"
unfolding texts_on_literals
hash_inside = refl

escapes : word_of (34 ∷ 92 ∷ 10 ∷ 13 ∷ []) ≡ 34 ∷ 92 ∷ 34 ∷ 92 ∷ 92 ∷ 92 ∷ 110 ∷ 92 ∷ 114 ∷ 34 ∷ []
unfolding texts_on_literals
escapes = refl

beyond_ascii : word_of (195 ∷ 188 ∷ []) ≡ 34 ∷ 195 ∷ 188 ∷ 34 ∷ []
unfolding texts_on_literals
beyond_ascii = refl

-- ---- replies to commands

quoted_constant : ok_text (kept_from 0) (command.When 2 (record { column = 2; op = cmp.Ne; constant = value.Text (codes "big nut") }))
    ≡ codes "ok break when f item != \"big nut\"\n"
unfolding texts_on_literals
quoted_constant = refl

-- ---- stops

all_stops : stops_text (kept_from 0) (stop.Held 2 0 (value.Int (pos 4) ∷ value.Text (codes "cog") ∷ value.Int (pos 12) ∷ []) ∷ stop.Count 2 3 ∷ stop.Pause 1 2 5 ∷ stop.End ∷ [])
    ≡ lines (codes "stop held f 0 4,cog,12" ∷ codes "stop count f 3" ∷ codes "stop pause o 2 5" ∷ codes "stop end" ∷ [])
unfolding texts_on_literals
all_stops = refl

-- ---- workers of each kind

scan : words_line (view_words 1 (record { taken = 3; rest = 2; out = 2; pending = 0; stand = stand.Ready; next = None; extra = extra.Scan 1 }))
    ≡ codes "worker 1 taken 3 rest 2 out 2 pending 0 ready refused 1\n"
unfolding texts_on_literals
scan = refl

group : words_line (view_words 0 (record { taken = 3; rest = 0; out = 2; pending = 0; stand = stand.Finished; next = None; extra = extra.Group 2 }))
    ≡ codes "worker 0 taken 3 rest 0 out 2 pending 0 finished groups 2\n"
unfolding texts_on_literals
group = refl

join_with_next :
    views_text 0 (record { taken = 5; rest = 3; out = 2; pending = 1; stand = stand.Held; next = Some (value.Int (pos 2) ∷ value.Text (codes "bolt") ∷ []); extra = extra.Join 2 3 } ∷ [])
    ≡ lines (codes "worker 0 taken 5 rest 3 out 2 pending 1 held keys 2 built 3" ∷ codes "next 2,bolt" ∷ [])
unfolding texts_on_literals
join_with_next = refl

sink : words_line (view_words 0 (record { taken = 3; rest = 0; out = 0; pending = 0; stand = stand.Ready; next = None; extra = extra.Sink 3 }))
    ≡ codes "worker 0 taken 3 rest 0 out 0 pending 0 ready kept 3\n"
unfolding texts_on_literals
sink = refl

filter : words_line (view_words 0 (record { taken = 1; rest = 0; out = 0; pending = 0; stand = stand.Ready; next = None; extra = extra.Nothing }))
    ≡ codes "worker 0 taken 1 rest 0 out 0 pending 0 ready\n"
unfolding texts_on_literals
filter = refl
