-- The bytes are kept as UTF-8.
use Rattle.std.proofs.lemmas.Str.{IsUtf8-had}
use Rattle.amber_rows.proofs.short_text.ShortText.get.Goals as goal

pub from_utf8_unchecked-requires : goal.from_utf8_unchecked-requires
from_utf8_unchecked-requires c = IsUtf8-had _ c.self.invariant.2
