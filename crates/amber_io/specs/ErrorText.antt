-- What an error prints.
use Rattle.std.specs.Prelude.{ℕ, List, codes}
use Rattle.amber_io.specs.declared.error.IoErr.{IoErr}
use Rattle.amber_io.specs.declared.error.IoErr.TheVariants.{Failed, NoMemory}

-- the text of an error
abbrev pub error_text : IoErr → List ℕ
error_text Failed = codes "the folder or the sink failed"
error_text NoMemory = codes "out of memory"
