-- The words for the reasons.
use Rattle.std.specs.Prelude.{ℕ, List, codes}
use Rattle.amber_script.specs.declared.error.ScriptWhy.{ScriptWhy}
use Rattle.amber_script.specs.declared.error.ScriptWhy.TheVariants as why

abbrev pub script_reason_word : ScriptWhy → List ℕ
script_reason_word why.Word = codes "Word"
script_reason_word why.Operator = codes "Operator"
script_reason_word why.Kind = codes "Kind"
script_reason_word why.Number = codes "Number"
script_reason_word why.Column = codes "Column"
script_reason_word why.Mismatch = codes "Mismatch"
script_reason_word why.Worker = codes "Worker"
