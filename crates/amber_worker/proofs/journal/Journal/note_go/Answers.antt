-- Rows are noted in the last entry, or in one of their own.
use Rattle.std.proofs.Common.{◌-◌, ◌+◌, length, slice_set, ◌≡◌, ◌++◌, [], ◌∷◌, ◌∙◌, sym, ap, arith}
use Rattle.std.proofs.lemmas.List.{append-nil, nil_from_length}
use Rattle.amber_log.specs.declared.entry.Entry.TheVariants as entry
use Rattle.amber_worker.specs.Steps.{gone_on, with_go}
use Rattle.amber_worker.proofs.GoOn.{with_go-at, with_go-none}
use Rattle.amber_worker.proofs.journal.Journal.note_go.Goals as goal

pub returns-then-count-eq0-clause-items : goal.returns-then-count-eq0-clause-items
returns-then-count-eq0-clause-items c =
    let none : c.self.inside.entries.items ≡ [] = nil_from_length c.self.inside.entries.items (omega arith) in
    rw (← c.self.view_is)
    (c.push_reserved.ensures.items ∙ ap (λ l. l ++ entry.Go c.args.rows c.args.outs ∷ []) none ∙ sym (ap (λ l. with_go l c.args.rows c.args.outs) none ∙ with_go-none c.args.rows c.args.outs))

pub returns-then-add_go-clause-items : goal.returns-then-add_go-clause-items
returns-then-add_go-clause-items c =
    let there : c.len-count.result - 1 + 1 ≡ length c.self.inside.entries.items = omega (arith, c.len-count.ensures, c.if-count-eq0.false) in
    rw (← c.self.view_is)
    (sym (append-nil (slice_set c.self.inside.entries.items (c.len-count.result - 1) c.add_go.new.entry))
    ∙ with_go-at c.self.inside.entries.items [] c.index_mut.result.now c.add_go.new.entry (c.len-count.result - 1) c.args.rows c.args.outs there
    (ap (λ e. gone_on e c.args.rows c.args.outs) (sym c.index_mut.ensures.value) ∙ c.add_go.ensures.added c.if-add_go.true))

pub returns-clause-items : goal.returns-clause-items
returns-clause-items c =
    let there : c.len-count.result - 1 + 1 ≡ length c.self.inside.entries.items = omega (arith, c.len-count.ensures, c.if-count-eq0.false) in
    let tail = entry.Go c.args.rows c.args.outs ∷ [] in
    rw (← c.self.view_is)
    (c.push_reserved-2.ensures.items
    ∙ with_go-at c.self.inside.entries.items tail c.index_mut.result.now c.add_go.new.entry (c.len-count.result - 1) c.args.rows c.args.outs there
    (ap (λ e. gone_on e c.args.rows c.args.outs) (sym c.index_mut.ensures.value) ∙ c.add_go.ensures.other c.if-add_go.false ∙ ap (λ x. x ∷ tail) (sym (c.add_go.ensures.same c.if-add_go.false))))
