-- Files and their records on literals, each named by what it shows. The right side of each is what RFC 4180 says.
use Rattle.std.specs.Prelude.{⊤}
use Rattle.std.proofs.Common.{◌≡◌, ◌++◌, ℕ, List, [], ◌∷◌, codes, map, refl}
use Rattle.csv.specs.Machine.{next_record}
use Rattle.csv.specs.Reading.{records_from, strip_bom}
use Rattle.amber_rows.specs.Record.{file_records}
use Rattle.amber_cut.specs.Lines.{cut, lines}

unfoldable files_on_literals : ⊤
unfolding lines cut strip_bom file_records records_from next_record
files_on_literals = tt

abbrev Text : Type 0
Text = List ℕ

-- a line feed, a carriage return, both, and a byte order mark
abbrev lf : Text
lf = 10 ∷ []

abbrev cr : Text
cr = 13 ∷ []

abbrev crlf : Text
crlf = 13 ∷ 10 ∷ []

abbrev mark : Text
mark = 239 ∷ 187 ∷ 191 ∷ []

abbrev one : Text → List Text
one a = a ∷ []

abbrev two : Text → Text → List Text
two a b = a ∷ b ∷ []

-- the lines of a file, cut
abbrev cut_lines : Text → List (List Text)
cut_lines file = map cut (lines (strip_bom file))

-- ---- the ends of lines

line_feeds : cut_lines (codes "a,b" ++ lf ++ codes "1,2" ++ lf) ≡ two (codes "a") (codes "b") ∷ two (codes "1") (codes "2") ∷ []
unfolding files_on_literals
line_feeds = refl

carriage_returns : cut_lines (codes "a,b" ++ cr ++ codes "1,2" ++ crlf) ≡ two (codes "a") (codes "b") ∷ two (codes "1") (codes "2") ∷ []
unfolding files_on_literals
carriage_returns = refl

no_last_end : cut_lines (codes "a" ++ lf ++ codes "1") ≡ one (codes "a") ∷ one (codes "1") ∷ []
unfolding files_on_literals
no_last_end = refl

empty_lines : cut_lines (lf ++ codes "a" ++ lf ++ crlf ++ codes "1" ++ lf ++ lf) ≡ one (codes "a") ∷ one (codes "1") ∷ []
unfolding files_on_literals
empty_lines = refl

only_empty_lines : cut_lines (lf ++ cr ++ crlf) ≡ []
unfolding files_on_literals
only_empty_lines = refl

-- ---- fields

comma_at_the_end : cut_lines (codes "a," ++ lf) ≡ two (codes "a") [] ∷ []
unfolding files_on_literals
comma_at_the_end = refl

comma_alone : cut_lines (codes ",") ≡ two [] [] ∷ []
unfolding files_on_literals
comma_alone = refl

mark_at_the_front : cut_lines (mark ++ codes "a" ++ lf) ≡ one (codes "a") ∷ []
unfolding files_on_literals
mark_at_the_front = refl

-- ---- a quote

-- in quotes the end of a line and a comma are text
in_quotes : file_records (codes "\"" ++ lf ++ codes ",\"") ≡ one (lf ++ codes ",") ∷ []
unfolding files_on_literals
in_quotes = refl

-- so the lines of such a file are not its records
lines_in_quotes : cut_lines (codes "\"" ++ lf ++ codes ",\"") ≡ one (codes "\"") ∷ two [] (codes "\"") ∷ []
unfolding files_on_literals
lines_in_quotes = refl
