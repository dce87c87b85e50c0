-- A log that was read has a text, and no more lines than its file has bytes.
use Rattle.std.proofs.Common.{inl, inr, ◌≡◌, ℕ, ◌+◌, ◌≤◌, List, [], ◌∷◌, length, sym, ap, subst, ◌∙◌, arith, length-append}
use Rattle.std.specs.List.{flat_map}
use Rattle.amber_log.specs.Grammar.{AreItems, IsLog}
use Rattle.amber_log.specs.LogText.{head_text, item_lines, item_text, line_text, log_text}
use Rattle.amber_log.specs.ReadAs.{IsReadAs, whole_items}
use Rattle.amber_log.specs.Words.{spell}
use Rattle.amber_log.specs.declared.line.Line.{Line}
use Rattle.amber_log.specs.declared.log.Item.{Item}
use Rattle.amber_log.specs.declared.log.Log.{Log}
use Rattle.amber_log.proofs.Longest.{whole_items_are_longest}

-- a line has its line feed at least
lines-few : (lines : List Line) → length lines ≤ length (flat_map line_text lines)
lines-few [] = omega arith
lines-few (line ∷ lines) =
    let less = lines-few lines in
    let whole = length-append (line_text line) (flat_map line_text lines) in
    let last : 1 ≤ length (line_text line) = omega (arith, length-append (spell line) (10 ∷ [])) in
    omega (arith, less, whole, last)

items-few : (items : List Item) → length (flat_map item_lines items) ≤ length (flat_map item_text items)
unfolding item_text
items-few [] = omega arith
items-few (item ∷ items) =
    let less = items-few items in
    let first = lines-few (item_lines item) in
    omega (arith, less, first, length-append (item_lines item) (flat_map item_lines items), length-append (item_text item) (flat_map item_text items))

-- the file of a log has a byte for each line of its items
pub read-few : (bytes : List ℕ) (log : Log) → IsReadAs bytes log → length (flat_map item_lines log.items) ≤ length bytes
unfolding log_text
read-few bytes log (inl (is, e)) =
    let longest = whole_items_are_longest bytes in
    let parts : length (whole_items bytes) + length longest.rest ≡ length bytes = sym (length-append (whole_items bytes) longest.rest) ∙ ap (λ (b : List ℕ). length b) longest.begins in
    let text : length (whole_items bytes) ≡ length (head_text log.batch) + length (flat_map item_text log.items) =
    ap (λ (b : List ℕ). length b) e ∙ length-append (head_text log.batch) (flat_map item_text log.items) in
    omega (arith, parts, text, items-few log.items)
read-few bytes log (inr (none, e)) = let few : length (flat_map item_lines log.items) ≡ 0 = ap (λ (l : Log). length (flat_map item_lines l.items)) e in omega (arith, few)

-- a log that was read has a text
pub read-text : (bytes : List ℕ) (log : Log) → IsReadAs bytes log → IsLog log
unfolding AreItems
read-text bytes log (inl (is, e)) = is
read-text bytes log (inr (none, e)) = subst IsLog (sym e) (record { batch = (omega arith, omega arith); items = tt })
