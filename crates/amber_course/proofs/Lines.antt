-- A line that is put piece by piece.
use Rattle.std.proofs.Common.{ℕ, List, [], ◌++◌, Option, None, Some, Result, Ok, Err, sym, ap, ◌∙◌, append_assoc}
use Rattle.std.proofs.lemmas.List.{append-nil}
use Rattle.std.specs.Io.KnownBytes.{Appends, Keeps}
use Rattle.amber_io.specs.Sink.{Begins}
use Rattle.amber_io.specs.World.{World}
use Rattle.amber_io.specs.declared.error.IoErr.{IoErr}
use Rattle.amber_io.specs.declared.error.IoErr.TheVariants as io_err
use Rattle.amber_course.specs.Steps.{Lined}

pub appends-on : (old mid new : Option (List ℕ)) (x y : List ℕ) → Appends old mid x → Appends mid new y → Appends old new (x ++ y)
appends-on None mid new x y p q = tt
appends-on (Some o) None new x y p q = absurd p
appends-on (Some o) (Some m) None x y p q = absurd q
appends-on (Some o) (Some m) (Some n) x y p q = rw (q, p) (append_assoc o x y)

-- bytes that stayed
pub keeps-nil : (a b : Option (List ℕ)) → Keeps a b → Appends a b []
keeps-nil None b k = tt
keeps-nil (Some x) None k = absurd k
keeps-nil (Some x) (Some y) k = k ∙ sym (append-nil x)

-- nothing was put
pub appends-same : (a : Option (List ℕ)) → Appends a a []
appends-same None = tt
appends-same (Some x) = sym (append-nil x)

-- a front part after a whole piece
pub begins-on : (old mid new : Option (List ℕ)) (x y : List ℕ) → Appends old mid x → Begins mid new y → Begins old new (x ++ y)
begins-on old mid new x y p b = (x ++ b.0, b.1, append_assoc x b.0 b.1 ∙ ap (λ t. x ++ t) b.2, appends-on old mid new x b.0 p b.3)

-- a front part of the first piece
pub begins-more : (old new : Option (List ℕ)) (x y : List ℕ) → Begins old new x → Begins old new (x ++ y)
begins-more old new x y b = (b.0, b.1 ++ y, sym (append_assoc b.0 b.1 y) ∙ ap (λ t. t ++ y) b.2, b.3)

-- the whole piece
pub begins-all : (old new : Option (List ℕ)) (x : List ℕ) → Appends old new x → Begins old new x
begins-all old new x p = (x, [], append-nil x, p)

-- a put was refused, so the line stops
pub lined-failure : (e : IoErr) (x y : List ℕ) (before after : World) → Lined {A = Unit {0}} (Err e) x before after → Lined {A = Unit {0}} (Err e) (x ++ y) before after
lined-failure io_err.NoMemory x y before after h = (h.0, begins-more before.got after.got x y h.1)
lined-failure io_err.Failed x y before after h = (h.0, h.1, begins-more before.got after.got x y h.2)

-- a piece was put, so the line goes on
pub lined-on : (r : Result (Unit {0}) IoErr) (u : Unit {0}) (x y : List ℕ) (before mid after : World) → Lined {A = Unit {0}} (Ok u) x before mid → Lined {A = Unit {0}} r y mid after
    → Lined {A = Unit {0}} r (x ++ y) before after
lined-on (Ok v) u x y before mid after p q = (q.0 ∙ p.0, appends-on before.got mid.got after.got x y p.1 q.1)
lined-on (Err io_err.NoMemory) u x y before mid after p q = (q.0 ∙ p.0, begins-on before.got mid.got after.got x y p.1 q.1)
lined-on (Err io_err.Failed) u x y before mid after p q = (rw p.0 at q.0, rw p.0 at q.1, begins-on before.got mid.got after.got x y p.1 q.2)
