-- The JSON value of a text.
use Rattle.std.proofs.Common.{◌≡◌, ℕ, List, Some, None, Bool, true, false, refl}
use Rattle.std.proofs.lemmas.Str.{IsUtf8-from_is_utf8, is_utf8-from_IsUtf8}
use Rattle.std.specs.Str.{IsUtf8, is_utf8}
use Rattle.serde_json.specs.Data.{Data}
use Rattle.serde_json.specs.Read.{read}
use Rattle.amber_flow.specs.Workflow.{tree_of}

pub tree-some : (bytes : List ℕ) (tree : Data) → IsUtf8 bytes → read bytes ≡ Some tree → tree_of bytes ≡ Some tree
unfolding tree_of
tree-some bytes tree utf8 is = rw (is_utf8-from_IsUtf8 bytes utf8) is

none_at : (b : Bool) (bytes : List ℕ) → is_utf8 bytes ≡ b → (IsUtf8 bytes → read bytes ≡ None) → tree_of bytes ≡ None
unfolding tree_of
none_at true bytes utf8 is = rw utf8 (is (IsUtf8-from_is_utf8 bytes utf8))
none_at false bytes utf8 is = rw utf8

pub tree-none : (bytes : List ℕ) → (IsUtf8 bytes → read bytes ≡ None) → tree_of bytes ≡ None
tree-none bytes is = none_at (is_utf8 bytes) bytes refl is
