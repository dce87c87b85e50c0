-- Line by line.
use Rattle.std.proofs.Common.{◌≡◌, ◌≤◌, ◌-◌, ◌∙◌, ◌++◌, arith, drop, length, length-drop, map, refl, sym, take, ap}
use Rattle.std.proofs.lemmas.List.{append-nil, drop_all, take_all}
use Rattle.amber_cut.specs.Lines.{line_at, lines}
use Rattle.amber_cut.proofs.Apart.{apart-all, apart-none, apart-note}
use Rattle.amber_cut.proofs.LineRecords.{lines-none}
use Rattle.amber_cut.proofs.Places.{lines-note, within-note}
use Rattle.amber_cut.proofs.starts.line_starts.Goals as goal

pub lines-init : goal.lines-init
lines-init c = rw c.new-starts.ensures.items (record { start_if_filled = refl; within = λ k d h. absurd (omega (arith, h)); apart = apart-none c.args.bytes.now c.args.from })

pub lines-preserved : goal.lines-preserved
lines-preserved c =
    let bytes = c.args.bytes.now in
    let starts = c.lines.starts.items in
    let inv = c.lines.invariant in
    let whole : take (length bytes - c.lines.at) (drop c.lines.at bytes) ≡ drop c.lines.at bytes = take_all (length bytes - c.lines.at) (drop c.lines.at bytes) (omega (arith, length-drop c.lines.at bytes)) in
    let within : c.line_end-end.result ≤ length (drop c.lines.at bytes) = rw whole at c.line_end-end.ensures.within in
    let before = rw whole at c.line_end-end.ensures.line in
    let past = rw whole at c.line_end-end.ensures.later in
    rw c.in_ok-note.ensures (record {
      start_if_filled = lines-note bytes _ starts c.lines.at c.line_end-end.result c.lines-test.true before within past inv.start_if_filled;
      within = within-note bytes starts c.lines.at c.line_end-end.result c.lines-test.true inv.within;
      apart = apart-note bytes c.args.from starts c.lines.at c.line_end-end.result before within inv.apart;
    })

pub returns : goal.returns
returns c =
    let bytes = c.args.bytes.now in
    let f = line_at bytes in
    let starts = c.lines.starts.items in
    let inv = c.lines.invariant in
    record {
      lines = sym (inv.start_if_filled ∙ ap (λ xs. map f starts ++ lines xs) (drop_all c.lines.at bytes c.lines-test.false) ∙ ap (λ xs. map f starts ++ xs) lines-none ∙ append-nil (map f starts));
      within = inv.within;
      apart = apart-all bytes c.args.from starts c.lines.at c.requires.within inv.within c.lines-test.false inv.apart;
    }
