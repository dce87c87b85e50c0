-- A line stands before the ends of lines in front of the next.
use Rattle.std.proofs.Common.{◌≡◌, ◌<◌, ◌≤◌, ◌+◌, ◌∙◌, List, ℕ, [], ap, arith, get_or, length, map, sym}
use Rattle.std.proofs.lemmas.List.{get_or-map, get_or_default, length-map}
use Rattle.amber_cut.specs.Lines.{StandApart, line_at}
use Rattle.amber_cut.proofs.Apart.{apart-next, line-found, next-behind, next-within}
use Rattle.amber_cut.proofs.file_lines.Lines.line.Goals as goal

-- the place of a line as it was read, and that of the next
from-to : (starts : List ℕ) (from : ℕ) (bytes now : List ℕ) (number start next : ℕ) → now ≡ bytes → StandApart bytes from starts (length bytes) → number < length starts → start ≡ get_or starts number start → next ≡ get_or starts (number + 1) (length now) → start ≤ next
from-to starts from bytes now number start next file apart within here there =
    let at : start ≡ get_or starts number 0 = here ∙ get_or_default starts number start 0 within in
    let to : next ≡ get_or starts (number + 1) (length bytes) = there ∙ ap (λ xs. get_or starts (number + 1) (length xs)) file in
    rw (at, to) (next-behind bytes from starts number apart within)

pub slice_bounds-line-count : goal.slice_bounds-line-count
slice_bounds-line-count c =
    let a = c.self.inside in
    let starts = rw c.deref.ensures.value at c.start_after.ensures in
    from-to a.starts.items c.self.invariant.1.0 a.file c.get-bytes.result.now c.args.number c.index.result.now c.start_after.result c.get-bytes.ensures c.self.invariant.1.1 (omega (arith, c.requires, ap length c.self.view_is, length-map a.starts.items (line_at a.file))) c.index.ensures starts

pub slice_bounds-line-start : goal.slice_bounds-line-start
slice_bounds-line-start c =
    let a = c.self.inside in
    let starts = rw c.deref.ensures.value at c.start_after.ensures in
    from-to a.starts.items c.self.invariant.1.0 a.file c.get-bytes.result.now c.args.number c.index.result.now c.start_after.result c.get-bytes.ensures c.self.invariant.1.1 (omega (arith, c.requires, ap length c.self.view_is, length-map a.starts.items (line_at a.file))) c.index.ensures starts

pub returns : goal.returns
returns c =
    let a = c.self.inside in
    let bytes : List ℕ = a.file in
    let starts : List ℕ = a.starts.items in
    let number = c.args.number in
    let inv = c.self.invariant in
    let viewed : map (line_at bytes) starts ≡ c.args.self.now = c.self.view_is in
    let within : number < length starts = omega (arith, c.requires, ap length viewed, length-map starts (line_at bytes)) in
    let start : c.index.result.now ≡ get_or starts number 0 = c.index.ensures ∙ get_or_default starts number c.index.result.now 0 within in
    let ends = rw c.deref.ensures.value at c.start_after.ensures in
    let next : c.start_after.result ≡ get_or starts (number + 1) (length bytes) = ends ∙ ap (λ xs. get_or starts (number + 1) (length xs)) c.get-bytes.ensures in
    let apart = rw (sym start, sym next) at (apart-next bytes inv.1.0 starts (length bytes) number inv.1.1 within) in
    let short = rw (sym next) at (next-within bytes starts (number + 1) inv.0) in
    let found = c.length_before_ends.ensures in
    rw c.get-bytes.ensures (line-found bytes c.index.result.now c.start_after.result c.length_before_ends.result apart short (rw c.get-bytes.ensures at found.ends) (rw c.get-bytes.ensures at found.within) (rw c.get-bytes.ensures at found.last))
    ∙ ap (line_at bytes) start ∙ sym (get_or-map (line_at bytes) starts number 0 [] within) ∙ ap (λ xs. get_or xs number []) viewed
