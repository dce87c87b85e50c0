-- What a call answers, from what it did before its error line.
use Rattle.std.proofs.Common.{◌≡◌, ◌≢◌, ℕ, ◌≤◌, ◌⊎◌, inl, inr, List, [], ◌∷◌, Option, None, Some, IsSome, Result, Ok, Err, refl, sym, ap, ◌∙◌, subst, arith}
use Rattle.std.proofs.KnownBytes.{Keeps-refl}
use Rattle.std.specs.Io.KnownBytes.{Appends, Keeps}
use Rattle.amber_io.specs.Counts.{Rose}
use Rattle.amber_io.specs.Folder.{Named, Told}
use Rattle.amber_io.specs.Sink.{Begins}
use Rattle.amber_io.specs.World.{LoadsOnly, PutsOnly, World}
use Rattle.amber_course.specs.Steps.{Sent, Stopped, Tells}
use Rattle.amber_course.specs.Told.{Reports}
use Rattle.amber_course.specs.declared.failure.Failure.{Failure}
use Rattle.amber_course.specs.declared.failure.Failure.TheVariants as failure
use Rattle.amber_course.specs.declared.status.Status.{Status}
use Rattle.amber_course.specs.declared.status.Status.TheVariants as status
use Rattle.amber_course.proofs.Following.{told-all, told-map}
use Rattle.amber_commands.specs.Answered.{AnswersCommands, IsAsked, IsStatusOf, IsWorded, LeadsToScript, NamesFile, OutputOnly, Prints, StopsCommands}
use Rattle.amber_commands.specs.Course.{asked, script_course, script_for}
use Rattle.amber_commands.specs.Refusal.{TellsRefusal, refusal_line, refusal_status}
use Rattle.amber_commands.specs.declared.refusal.Refusal.{Refusal}
use Rattle.amber_commands.specs.declared.refusal.Refusal.TheVariants as refusal

-- ---- what may differ

pub output_only-loads : (before mid : World) → LoadsOnly before mid → OutputOnly before mid
output_only-loads before mid loads =
    loads ∙ ap (λ (w : World). record before { got = w.got; loads = mid.loads; puts = w.puts }) (sym loads)

pub output_only-puts : (before mid after : World) → OutputOnly before mid → PutsOnly mid after → OutputOnly before after
output_only-puts before mid after only puts =
    puts ∙ ap (λ (w : World). record w { got = after.got; puts = after.puts }) only ∙ ap (λ n. record before { got = after.got; loads = n; puts = after.puts }) (sym (ap (λ (w : World). w.loads) puts))

keeps-got : (before mid : World) → LoadsOnly before mid → Keeps before.got mid.got
keeps-got before mid only = subst (λ g. Keeps before.got g) (sym (ap (λ (w : World). w.got) only)) (Keeps-refl before.got)

-- ---- before the error line

-- no script was made
pub stops-led : (r : Refusal) (workflow log : List ℕ) (before mid : World) → LeadsToScript {A = List ℕ} (Err r) (script_for workflow log) before mid → LoadsOnly before mid
    → IsWorded r (workflow ∷ log ∷ []) × StopsCommands r (workflow ∷ log ∷ []) before mid
unfolding script_course
stops-led (refusal.Call failure.Usage) workflow log before mid h only = absurd h
stops-led (refusal.Call failure.OutFault) workflow log before mid h only = absurd h
stops-led (refusal.Call failure.NoMemory) workflow log before mid h only = (refl, (ap (λ (w : World). w.puts) only, keeps-got before mid only))
stops-led (refusal.Call other) workflow log before mid h only = (refl, (only, h))
stops-led (refusal.Log line why) workflow log before mid h only = (refl, h)

-- a script was made, and put whole
pub prints-sent : (text workflow log : List ℕ) (before mid after : World) → LeadsToScript (Ok text) (script_for workflow log) before mid → Sent {A = Unit {0}} (Ok tt) text mid after
    → PutsOnly mid after → Prints (workflow ∷ log ∷ []) before after
unfolding script_course
prints-sent text workflow log before mid after led sent only =
    let same = led.0 in (
      ap (λ (w : World). w.loads) only ∙ ap (λ (w : World). w.loads) same,
      sent.0 ∙ ap (λ (w : World). w.puts) same,
      told-map before.files (λ files. script_for workflow log files ≡ Ok text)
          (λ files. (t : List ℕ) × (script_course (workflow ∷ log ∷ []) files ≡ Ok t) × Appends before.got after.got t)
          (λ files e. (text, e, subst (λ (w : World). Appends w.got after.got text) same sent.1)) led.1,
    )

-- a script was made, and not put
pub stops-sent : (s : Failure) (text workflow log : List ℕ) (before mid after : World) → LeadsToScript (Ok text) (script_for workflow log) before mid → Sent {A = Unit {0}} (Err s) text mid after
    → PutsOnly mid after → IsWorded (refusal.Call s) (workflow ∷ log ∷ []) × StopsCommands (refusal.Call s) (workflow ∷ log ∷ []) before after
unfolding script_course
stops-sent failure.OutFault text workflow log before mid after led sent only =
    let same = led.0 in (
      refl,
      (
        ap (λ (w : World). w.loads) only ∙ ap (λ (w : World). w.loads) same,
        (
          subst (λ (w : World). w.puts ≤ after.puts) same sent.0,
          subst (λ (w : World). Rose w.puts after.puts) same sent.1,
          told-map before.files (λ files. script_for workflow log files ≡ Ok text)
              (λ files. (t : List ℕ) × (script_course (workflow ∷ log ∷ []) files ≡ Ok t) × Begins before.got after.got t)
              (λ files e. (text, e, subst (λ (w : World). Begins w.got after.got text) same sent.2)) led.1,
        ),
      ),
    )
stops-sent failure.NoMemory text workflow log before mid after led sent only =
    let same = led.0 in (refl, (sent.0 ∙ ap (λ (w : World). w.puts) same, subst (λ (w : World). Keeps w.got after.got) same sent.1))
stops-sent other text workflow log before mid after led sent only = absurd sent

-- ---- the status

-- the status of a call that was refused
refused-as : (result : Status) (r : Refusal) (mid after : World) → Reports result (refusal_line r) (refusal_status r) mid after
    → (result ≡ refusal_status r) ⊎ (result ≡ status.NoMemory)
refused-as result r mid after f = elim f.2 [ inl whole ↦ inl whole.2 | inr rest ↦ elim rest [ inl none ↦ inr none.1 | inr rose ↦ inl rose.1 ] ]

not-ok : (result : Status) (r : Refusal) → (result ≡ refusal_status r) ⊎ (result ≡ status.NoMemory) → result ≢ status.Ok
not-ok result r (inr none) e = cc
not-ok result (refusal.Call failure.Usage) (inl is) e = cc
not-ok result (refusal.Call other) (inl is) e = cc
not-ok result (refusal.Log line why) (inl is) e = cc

-- where the course has a script
status-of-done : (course : Result (List ℕ) Refusal) (text : List ℕ) (before after : World) → course ≡ Ok text → IsStatusOf course status.Ok before after
status-of-done course text before after e = rw e (inl refl)

-- where the course has this refusal
status-of-refused : (course : Result (List ℕ) Refusal) (r : Refusal) (result : Status) (before after : World) → course ≡ Err r
    → (result ≡ refusal_status r) ⊎ (result ≡ status.NoMemory) → IsStatusOf course result before after
status-of-refused course r result before after e (inl is) = rw e (inl is)
status-of-refused course r result before after e (inr none) = rw e (inr (inl none))

-- whatever the course is
status-of-memory : (course : Result (List ℕ) Refusal) (result : Status) (before after : World) → result ≡ status.NoMemory → IsStatusOf course result before after
status-of-memory (Ok text) result before after e = inr (inl e)
status-of-memory (Err r) result before after e = inr (inl e)

status-of-unread : (course : Result (List ℕ) Refusal) (result : Status) (before after : World) → Rose before.loads after.loads
    → (result ≡ status.ReadFault) ⊎ (result ≡ status.NoMemory) → IsStatusOf course result before after
status-of-unread (Ok text) result before after rose (inl e) = inr (inr (inl (e, rose)))
status-of-unread (Err r) result before after rose (inl e) = inr (inr (e, rose))
status-of-unread course result before after rose (inr e) = status-of-memory course result before after e

status-of-unput : (course : Result (List ℕ) Refusal) (text : List ℕ) (result : Status) (before after : World) → course ≡ Ok text → Rose before.puts after.puts
    → (result ≡ status.OutFault) ⊎ (result ≡ status.NoMemory) → IsStatusOf course result before after
status-of-unput course text result before after e rose (inl is) = rw e (inr (inr (inr (is, rose))))
status-of-unput course text result before after e rose (inr none) = status-of-memory course result before after none

rose-later : (a b c : ℕ) → Rose a b → b ≤ c → Rose a c
rose-later a b c rose le = omega (arith, rose, le)

-- words that are none have their course
usage-course : (words : List (List ℕ)) (files : Named) → asked words ≡ None → script_course words files ≡ Err (refusal.Call failure.Usage)
unfolding script_course
usage-course words files none = rw none refl

of-tells : (told : Option Named) (P Q : Named → Type 0) → ((files : Named) → P files → Q files) → Tells told P → Told told Q
of-tells None P Q f h = absurd h
of-tells (Some files) P Q f h = f files h

-- the course, where a file could not be read
unread-course : (name : List ℕ) (words : List (List ℕ)) (result : Status) (before mid after : World)
    → Stopped (failure.ReadFault name) (λ files. script_course words files ≡ Err (refusal.Call (failure.ReadFault name))) before mid → after.loads ≡ mid.loads
    → (result ≡ status.ReadFault) ⊎ (result ≡ status.NoMemory) → Told before.files (λ files. IsStatusOf (script_course words files) result before after)
unread-course name words result before mid after (inl (same, meant)) loads is =
    of-tells before.files (λ files. script_course words files ≡ Err (refusal.Call (failure.ReadFault name))) (λ files. IsStatusOf (script_course words files) result before after)
    (λ files e. status-of-refused (script_course words files) (refusal.Call (failure.ReadFault name)) result before after e is) meant
unread-course name words result before mid after (inr rose) loads is =
    told-all before.files (λ files. IsStatusOf (script_course words files) result before after)
    (λ files. status-of-unread (script_course words files) result before after (rw loads rose) is)

refused-course : (r : Refusal) (words : List (List ℕ)) (result : Status) (before after : World) → Told before.files (λ files. script_course words files ≡ Err r)
    → (result ≡ refusal_status r) ⊎ (result ≡ status.NoMemory) → Told before.files (λ files. IsStatusOf (script_course words files) result before after)
refused-course r words result before after meant is =
    told-map before.files (λ files. script_course words files ≡ Err r) (λ files. IsStatusOf (script_course words files) result before after)
    (λ files e. status-of-refused (script_course words files) r result before after e is) meant

-- the course decides the status of a call that was refused
course-refused : (r : Refusal) (words : List (List ℕ)) (result : Status) (before mid after : World) → StopsCommands r words before mid → PutsOnly mid after → mid.puts ≤ after.puts
    → (result ≡ refusal_status r) ⊎ (result ≡ status.NoMemory) → Told before.files (λ files. IsStatusOf (script_course words files) result before after)
course-refused (refusal.Call failure.Usage) words result before mid after h only le is =
    told-all before.files (λ files. IsStatusOf (script_course words files) result before after)
    (λ files. status-of-refused (script_course words files) (refusal.Call failure.Usage) result before after (usage-course words files h.1) is)
course-refused (refusal.Call failure.OutFault) words result before mid after h only le is =
    told-map before.files (λ files. (text : List ℕ) × (script_course words files ≡ Ok text) × Begins before.got mid.got text)
    (λ files. IsStatusOf (script_course words files) result before after)
    (λ files p. status-of-unput (script_course words files) p.0 result before after p.1 (rose-later before.puts mid.puts after.puts h.1.1 le) is) h.1.2
course-refused (refusal.Call failure.NoMemory) words result before mid after h only le is =
    told-all before.files (λ files. IsStatusOf (script_course words files) result before after)
    (λ files. status-of-memory (script_course words files) result before after (elim is [ inl e ↦ e | inr e ↦ e ]))
course-refused (refusal.Call (failure.ReadFault name)) words result before mid after h only le is =
    unread-course name words result before mid after h.1 (ap (λ (w : World). w.loads) only) is
course-refused (refusal.Call failure.LogFault) words result before mid after h only le is = absurd h.1
course-refused (refusal.Call other) words result before mid after h only le is = refused-course (refusal.Call other) words result before after h.1.1 is
course-refused (refusal.Log line why) words result before mid after h only le is = refused-course (refusal.Log line why) words result before after h.1 is

-- `Usage` over any files
usage-is : (r : Refusal) (words : List (List ℕ)) (result : Status) (before mid : World) → StopsCommands r words before mid
    → (result ≡ refusal_status r) ⊎ (result ≡ status.NoMemory) → result ≡ status.Usage → asked words ≡ None
usage-is (refusal.Call failure.Usage) words result before mid h is e = h.1
usage-is r words result before mid h (inr none) e = absurd cc
usage-is (refusal.Call other) words result before mid h (inl is) e = absurd cc
usage-is (refusal.Log line why) words result before mid h (inl is) e = absurd cc

none-some : {A : Type 0} (x : Option A) → x ≡ None → IsSome x → ⊥
none-some None e h = cc
none-some (Some x) e h = cc

words-bad : (r : Refusal) (words : List (List ℕ)) (result : Status) → IsWorded r words → (result ≡ refusal_status r) ⊎ (result ≡ status.NoMemory)
    → asked words ≡ None → (result ≡ status.Usage) ⊎ (result ≡ status.NoMemory)
words-bad (refusal.Call failure.Usage) words result h is none = is
words-bad (refusal.Call other) words result h is none = absurd (none-some (asked words) none h)
words-bad (refusal.Log line why) words result h is none = absurd (none-some (asked words) none h)

-- ---- the whole of it

-- a call that printed a script
pub answered-done : (words : List (List ℕ)) (before after : World) → IsSome (asked words) × Prints words before after → OutputOnly before after → AnswersCommands words status.Ok before after
answered-done words before after (some, h) only = record {
  ok = λ is. h;
  ended = λ failed. absurd (failed refl);
  course = told-map before.files (λ files. (text : List ℕ) × (script_course words files ≡ Ok text) × Appends before.got after.got text)
      (λ files. IsStatusOf (script_course words files) status.Ok before after)
      (λ files p. status-of-done (script_course words files) p.0 before after p.1) h.2;
  usage = λ is. absurd cc;
  bad_words = λ none. absurd (none-some (asked words) none some);
  only = only;
}

-- a call that was refused
pub answered-refused : (r : Refusal) (words : List (List ℕ)) (result : Status) (before mid after : World) → IsWorded r words × StopsCommands r words before mid
    → NamesFile r (IsAsked words) → OutputOnly before mid → Reports result (refusal_line r) (refusal_status r) mid after → TellsRefusal r result → PutsOnly mid after
    → AnswersCommands words result before after
answered-refused r words result before mid after (worded, left) named only reports told puts =
    let is = refused-as result r mid after reports in
    record {
      ok = λ e. absurd (not-ok result r is e);
      ended = λ failed. record { cause = r; answer = told; named = named; world = mid; left = left; line = reports; only = puts };
      course = course-refused r words result before mid after left puts reports.0 is;
      usage = λ e. usage-is r words result before mid left is e;
      bad_words = λ none. words-bad r words result worded is none;
      only = output_only-puts before mid after only puts;
    }
