-- Cells and rows of the examples.
use Rattle.std.proofs.Common.{ℕ, ◌-◌, pos, negsuc, List, [], ◌∷◌, length, codes}
use Rattle.amber_rows.specs.Operators.{first_keys}
use Rattle.amber_rows.specs.declared.value.Value.{Value}
use Rattle.amber_rows.specs.declared.value.Value.TheVariants.{Int, Text}

-- a number, and one below 0
abbrev pub int : ℕ → Value
int n = Int (pos n)

abbrev pub minus : ℕ → Value
minus n = Int (negsuc (n - 1))

-- texts
abbrev pub a : Value
a = Text (codes "a")

abbrev pub b : Value
b = Text (codes "b")

abbrev pub c : Value
c = Text (codes "c")

abbrev pub w : Value
w = Text (codes "w")

abbrev pub x : Value
x = Text (codes "x")

abbrev pub y : Value
y = Text (codes "y")

abbrev pub z : Value
z = Text (codes "z")

-- an e with an acute accent, as one code point and as two
abbrev pub accented : Value
accented = Text (195 ∷ 169 ∷ [])

abbrev pub decomposed : Value
decomposed = Text (101 ∷ 204 ∷ 129 ∷ [])

abbrev pub Row : Type 0
Row = List Value

abbrev pub Rows : Type 0
Rows = List Row

abbrev pub one : Value → Row
one p = p ∷ []

abbrev pub two : Value → Value → Row
two p q = p ∷ q ∷ []

abbrev pub three : Value → Value → Value → Row
three p q r = p ∷ q ∷ r ∷ []

-- how many different keys rows have
abbrev pub key_count : List ℕ → Rows → ℕ
key_count keys rows = length (first_keys keys rows)
