-- What follows of a call's answer, where one fact follows from another.
use Rattle.std.proofs.Common.{◌≡◌, ◌∙◌, ◌++◌, List, Result, Ok, Err, IfOk, OnErr, OnOk, ap}
use Rattle.std.specs.List.{AppendsClones}
use Rattle.std.proofs.lemmas.List.Elements.{same_from_all_zip}

pub if_ok : {T E : Type 0} (r : Result T E) (P Q : T → Type 0) → IfOk r P → ((x : T) → P x → Q x) → IfOk r Q
if_ok (Ok x) P Q h f = f x h
if_ok (Err e) P Q h f = tt

pub err_so : {T E : Type 0} (r : Result T E) (P : Type 0) → P → OnErr r P
err_so (Ok x) P p = tt
err_so (Err e) P p = p

pub on_err : {T E : Type 0} (r : Result T E) (P Q : Type 0) → OnErr r P → (P → Q) → OnErr r Q
on_err (Ok x) P Q h f = tt
on_err (Err e) P Q h f = f h

pub on_ok : {T E : Type 0} (r : Result T E) (P Q : Type 0) → OnOk r P → (P → Q) → OnOk r Q
on_ok (Ok x) P Q h f = f h
on_ok (Err e) P Q h f = tt

-- clones that are the same are the same list
pub appended : {A : Type 0} (old new more : List A) → AppendsClones (λ x copy. copy ≡ x) old new more → new ≡ old ++ more
appended old new more h = h.1 ∙ ap (λ copies. old ++ copies) (same_from_all_zip _ more h.0 h.2 (λ x y e. e))
