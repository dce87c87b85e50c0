-- Tests one after the other: the first that fails gives the reason.
use Rattle.std.specs.Prelude.{List, Option, Some, None, is_some, Result, Ok, Err, Bool, true, false, if◌then◌else◌, ⊤}
use Rattle.std.specs.List.{filter_map, list_all}

infixl 10 ◌>>=◌
-- goes on with what the first step gives, or stops with its reason
abbrev pub ◌>>=◌ : {A B E : Type 0} → Result A E → (A → Result B E) → Result B E
Ok x >>= f = f x
Err e >>= f = Err e

-- goes on where the test is met, or stops with this reason
abbrev pub require : {E : Type 0} → Bool → E → Result ⊤ E
require true why = Ok tt
require false why = Err why

-- what each element gives, where each of them gives something
abbrev pub each : {A B : Type 0} → (A → Option B) → List A → Option (List B)
each f xs = if list_all (λ x. is_some (f x)) xs then Some (filter_map f xs) else None
