-- Steps that follow the course, one after the other, up to the script.
use Rattle.std.proofs.Common.{◌≡◌, Result, Ok, Err, refl, subst}
use Rattle.amber_io.specs.Folder.{Named, Told}
use Rattle.amber_io.specs.World.{World}
use Rattle.amber_course.specs.Steps.{Follows}
use Rattle.amber_course.specs.declared.failure.Failure.{Failure}
use Rattle.amber_course.specs.declared.failure.Failure.TheVariants as failure
use Rattle.amber_course.proofs.Following.{stopped-both, stopped-map, told-all, told-both}
use Rattle.amber_commands.specs.Answered.{Decides, LeadsToScript}
use Rattle.amber_commands.specs.Course.{called, go_on}
use Rattle.amber_commands.specs.declared.refusal.Refusal.{Refusal}
use Rattle.amber_commands.specs.declared.refusal.Refusal.TheVariants as refusal

called-err : {A B : Type 0} (r : Result A Failure) (s : Failure) (next : A → Result B Refusal) → r ≡ Err s → go_on (called r) next ≡ Err (refusal.Call s)
called-err r s next e = rw e refl

called-ok : {A B : Type 0} (r : Result A Failure) (x : A) (next : A → Result B Refusal) (y : Result B Refusal) → r ≡ Ok x → next x ≡ y → go_on (called r) next ≡ y
called-ok r x next y e h = rw e h

-- a step stopped, so the whole did
pub leads-stopped : {A B : Type 0} (s : Failure) (f : Named → Result A Failure) (g : Named → A → Result B Refusal) (before after : World)
    → Follows {A = A} (Err s) f before after → LeadsToScript {A = B} (Err (refusal.Call s)) (λ files. go_on (called (f files)) (g files)) before after
leads-stopped s f g before after h =
    stopped-map s (λ files. f files ≡ Err s) (λ files. go_on (called (f files)) (g files) ≡ Err (refusal.Call s)) before after
    (λ files e. called-err (f files) s (g files) e) h

-- a step went on
leads-then : {A B : Type 0} (r : Result B Refusal) (x : A) (f : Named → Result A Failure) (g : Named → A → Result B Refusal) (before after : World)
    → Told before.files (λ files. f files ≡ Ok x) → LeadsToScript r (λ files. g files x) before after → LeadsToScript r (λ files. go_on (called (f files)) (g files)) before after
leads-then (Ok y) x f g before after p q = (
  q.0,
  told-both before.files (λ files. f files ≡ Ok x) (λ files. g files x ≡ Ok y) (λ files. go_on (called (f files)) (g files) ≡ Ok y)
      (λ files e h. called-ok (f files) x (g files) (Ok y) e h) p q.1,
)
leads-then (Err (refusal.Call s)) x f g before after p q =
    stopped-both s (λ files. f files ≡ Ok x) (λ files. g files x ≡ Err (refusal.Call s)) (λ files. go_on (called (f files)) (g files) ≡ Err (refusal.Call s)) before after
    (λ files e h. called-ok (f files) x (g files) (Err (refusal.Call s)) e h) p q
leads-then (Err (refusal.Log line why)) x f g before after p q = (
  q.0,
  told-both before.files (λ files. f files ≡ Ok x) (λ files. g files x ≡ Err (refusal.Log line why)) (λ files. go_on (called (f files)) (g files) ≡ Err (refusal.Log line why))
      (λ files e h. called-ok (f files) x (g files) (Err (refusal.Log line why)) e h) p q.1,
)

pub leads-on : {A B : Type 0} (r : Result B Refusal) (x : A) (f : Named → Result A Failure) (g : Named → A → Result B Refusal) (before mid after : World)
    → Follows (Ok x) f before mid → LeadsToScript r (λ files. g files x) mid after → LeadsToScript r (λ files. go_on (called (f files)) (g files)) before after
leads-on r x f g before mid after p q = leads-then r x f g before after p.1 (subst (λ w. LeadsToScript r (λ files. g files x) w after) p.0 q)

-- a step that reads nothing
pub leads-decided : {A : Type 0} (r meant : Result A Refusal) (world : World) → Decides r meant → LeadsToScript r (λ files. meant) world world
leads-decided (Ok x) meant world h = (refl, told-all world.files (λ files. meant ≡ Ok x) (λ files. h))
leads-decided (Err (refusal.Call failure.NoMemory)) meant world h = tt
leads-decided (Err (refusal.Call other)) meant world h = absurd h
leads-decided (Err (refusal.Log line why)) meant world h = (refl, told-all world.files (λ files. meant ≡ Err (refusal.Log line why)) (λ files. h))

-- ---- steps that read nothing

then-err : {A B : Type 0} (r : Result A Refusal) (refused : Refusal) (next : A → Result B Refusal) → r ≡ Err refused → go_on r next ≡ Err refused
then-err r refused next e = rw e refl

-- the first of two stopped
pub decides-stopped : {A B : Type 0} (refused : Refusal) (meant : Result A Refusal) (next : A → Result B Refusal) → Decides {A = A} (Err refused) meant
    → Decides {A = B} (Err refused) (go_on meant next)
decides-stopped (refusal.Call failure.NoMemory) meant next h = tt
decides-stopped (refusal.Call other) meant next h = h
decides-stopped (refusal.Log line why) meant next h = then-err meant (refusal.Log line why) next h

-- the first of two went on
pub decides-on : {A B : Type 0} (r : Result B Refusal) (x : A) (meant : Result A Refusal) (next : A → Result B Refusal) → meant ≡ Ok x → Decides r (next x)
    → Decides r (go_on meant next)
decides-on r x meant next e h = rw e h
