-- The bytes of a line that reports a refusal.
use Rattle.std.specs.Prelude.{ℕ, List, [], ◌++◌, codes}
use Rattle.std.specs.Fmt.{decimal}
use Rattle.amber_course.specs.declared.line.Line.{Line}
use Rattle.amber_course.specs.declared.line.Line.TheVariants as line

-- the pieces of a line, one after the other
abbrev pub line_bytes : Line → List ℕ
line_bytes line.Nothing = []
line_bytes (line.Whole text) = text.now
line_bytes (line.Named words name) = words.now ++ (name.now ++ codes "\n")
line_bytes (line.Reason words number why) = words.now ++ (decimal number ++ (codes " " ++ (why.now ++ codes "\n")))
