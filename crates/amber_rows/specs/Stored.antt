-- The bytes of a text, wherever they lie. No public clause cites this module.
use Rattle.std.specs.Prelude.{ℕ, List, box_value, string_bytes}
use Rattle.amber_rows.specs.declared.text.Stored.{Stored}
use Rattle.amber_rows.specs.declared.text.Stored.TheVariants.{Short, Long}

abbrev pub stored_bytes : Stored → List ℕ
stored_bytes (Short text) = text
stored_bytes (Long text) = string_bytes (box_value text)
