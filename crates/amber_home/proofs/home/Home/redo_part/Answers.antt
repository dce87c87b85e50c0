-- A part was done again, or fails at one of its entries.
use Rattle.std.proofs.Common.{◌≡◌, ◌++◌, ◌&&◌, ◌==◌, sym, ap, subst, ◌∙◌, List, Bool, [], length, take, drop, is_some}
use Rattle.amber_rows.specs.Topology.{op_of}
use Rattle.amber_rows.specs.declared.flow.Operator.{Operator}
use Rattle.amber_worker.specs.WorkerState.{WorkerState}
use Rattle.amber_dataflow.specs.AtWork.{turned_by, worker_state_at}
use Rattle.amber_dataflow.specs.Parts.{parts_from}
use Rattle.amber_dataflow.specs.Redoing.{ComesNext, FailsPart, MakesPart, MakesPartOrNot}
use Rattle.amber_dataflow.proofs.Kept.{written-back}
use Rattle.amber_home.specs.HomeState.{HomeState, runs_to_end, spent_at}
use Rattle.amber_home.specs.Kept.{IsHome}
use Rattle.amber_home.specs.Leg.{count_at}
use Rattle.amber_home.specs.declared.phase.Phase.TheVariants as phase
use Rattle.amber_home.proofs.Inside.{kept, seen}
use Rattle.amber_home.proofs.RedoneCalls.{fails-at, home-more, is-text, next-back, redone-part, rests-back, spent-seen, to_end-seen}
use Rattle.amber_home.proofs.home.Home.redo_part.Goals as goal

pub redo_entries-requires-clause-crew : goal.redo_entries-requires-clause-crew
redo_entries-requires-clause-crew c =
    let i = c.self.inside in
    let slice : c.as_mut_slice-crew.result.now ≡ i.back.items = c.as_mut_slice-crew.ensures.value in
    let counted : c.is_some-counted.result ≡ is_some (count_at i.arms (op_of i.dataflow.flow c.args.worker)) =
    c.is_some-counted.ensures ∙ ap is_some (c.count_at.ensures ∙ ap (count_at i.arms) (c.op_of-op.ensures ∙ ap (λ (f : List Operator). op_of f c.args.worker) c.flow.ensures)) in
    subst (λ b. ComesNext (record { worker = c.args.worker; entries = c.args.entries.now; counted = b; most = i.most }) c.as_mut_slice-crew.result.now) (sym counted)
    (subst (λ crew. ComesNext (record { worker = c.args.worker; entries = c.args.entries.now; counted = is_some (count_at i.arms (op_of i.dataflow.flow c.args.worker)); most = i.most }) crew)
    (sym slice) (next-back i c.self.invariant c.args.self.now c.bring_out-empty.result (c.self.view_is ∙ c.bring_out-empty.ensures) c.requires.within c.args.worker c.args.entries.now c.requires.there c.requires.next))

pub redo_entries-requires-clause-rest : goal.redo_entries-requires-clause-rest
redo_entries-requires-clause-rest c =
    let i = c.self.inside in
    subst (λ crew. (worker_state_at crew c.args.worker).journal ≡ []) (sym c.as_mut_slice-crew.ensures.value) (rests-back i c.self.invariant c.args.self.now c.bring_out-empty.result (c.self.view_is ∙ c.bring_out-empty.ensures) c.requires.within c.args.worker c.args.entries.now c.requires.there c.requires.next)

pub redo_entries-requires-clause-text : goal.redo_entries-requires-clause-text
redo_entries-requires-clause-text c = let i = c.self.inside in is-text i c.self.invariant c.args.self.now c.bring_out-empty.result (c.self.view_is ∙ c.bring_out-empty.ensures) c.requires.within c.args.worker c.args.entries.now c.requires.there c.requires.next

pub returns-in-Illegal-clause-ok : goal.returns-in-Illegal-clause-ok
returns-in-Illegal-clause-ok c =
    let i = c.self.inside in
    let slice : c.as_mut_slice-crew.result.now ≡ i.back.items = c.as_mut_slice-crew.ensures.value in
    let counted : c.is_some-counted.result ≡ is_some (count_at i.arms (op_of i.dataflow.flow c.args.worker)) =
    c.is_some-counted.ensures ∙ ap is_some (c.count_at.ensures ∙ ap (count_at i.arms) (c.op_of-op.ensures ∙ ap (λ (f : List Operator). op_of f c.args.worker) c.flow.ensures)) in
    let told = subst (MakesPartOrNot (record { worker = c.args.worker; entries = c.args.entries.now; counted = c.is_some-counted.result; most = i.most }) c.as_mut_slice-crew.result.now c.redo_entries.new.crew)
    c.in-Illegal.is c.in_ok-place.ensures in
    let fails = subst (λ b. FailsPart (record { worker = c.args.worker; entries = c.args.entries.now; counted = b; most = i.most }) i.back.items c.in-Illegal.place) counted
    (subst (λ crew. FailsPart (record { worker = c.args.worker; entries = c.args.entries.now; counted = c.is_some-counted.result; most = i.most }) crew c.in-Illegal.place) slice told) in
    fails-at i c.self.invariant c.args.self.now c.bring_out-empty.result (c.self.view_is ∙ c.bring_out-empty.ensures) c.requires.within c.args.worker c.args.entries.now c.requires.there c.requires.next c.in-Illegal.place (spent_at (seen i)) (spent-seen i c.self.invariant c.args.self.now c.bring_out-empty.result (c.self.view_is ∙ c.bring_out-empty.ensures) c.requires.within) fails

pub invariant_of-self-in-Done : goal.invariant_of-self-in-Done
invariant_of-self-in-Done c =
    let i = c.self.inside in
    let slice : c.as_mut_slice-crew.result.now ≡ i.back.items = c.as_mut_slice-crew.ensures.value in
    let counted : c.is_some-counted.result ≡ is_some (count_at i.arms (op_of i.dataflow.flow c.args.worker)) =
    c.is_some-counted.ensures ∙ ap is_some (c.count_at.ensures ∙ ap (count_at i.arms) (c.op_of-op.ensures ∙ ap (λ (f : List Operator). op_of f c.args.worker) c.flow.ensures)) in
    let new = c.redo_entries.new.crew in
    let told = subst (MakesPartOrNot (record { worker = c.args.worker; entries = c.args.entries.now; counted = c.is_some-counted.result; most = i.most }) c.as_mut_slice-crew.result.now new)
    c.in-Done.is c.in_ok-place.ensures in
    let done = subst (λ b. MakesPart (record { worker = c.args.worker; entries = c.args.entries.now; counted = b; most = i.most }) i.back.items new c.in-Done.hand) counted
    (subst (λ crew. MakesPart (record { worker = c.args.worker; entries = c.args.entries.now; counted = c.is_some-counted.result; most = i.most }) crew new c.in-Done.hand) slice told) in
    let written = written-back i.back.items new i.back.len (c.redo_entries.auto.crew ∙ ap length slice) i.back.ok.0 in
    let to_end = c.runs_to_end-to_end.ensures ∙ to_end-seen i c.self.invariant c.args.self.now c.bring_out-empty.result (c.self.view_is ∙ c.bring_out-empty.ensures) c.requires.within in
    let items = take i.back.len (new ++ drop (length new) i.back.items) in
    let end = runs_to_end c.args.self.now.phase in
    let empty = c.bring_out-empty.result && (c.in-Done.hand == 0) in
    subst (λ b. IsHome (record (seen i) { phase = phase.Redoing b c.are_empty.result; parts = parts_from 0 items; turned = turned_by items }) (record (kept i) { back = items })) (sym to_end)
    (subst (λ b. IsHome (record (seen i) { phase = phase.Redoing end b; parts = parts_from 0 items; turned = turned_by items }) (record (kept i) { back = items })) (sym c.are_empty.ensures)
    (subst (λ (crew : List WorkerState). IsHome (record (seen i) { phase = phase.Redoing end empty; parts = parts_from 0 crew; turned = turned_by crew }) (record (kept i) { back = crew })) (sym written)
    (home-more i c.self.invariant c.args.self.now c.bring_out-empty.result (c.self.view_is ∙ c.bring_out-empty.ensures) c.requires.within c.args.worker c.args.entries.now c.requires.there c.requires.next new c.in-Done.hand done)))

pub returns-in-Done-clause-ok : goal.returns-in-Done-clause-ok
returns-in-Done-clause-ok c =
    let i = c.self.inside in
    let slice : c.as_mut_slice-crew.result.now ≡ i.back.items = c.as_mut_slice-crew.ensures.value in
    let counted : c.is_some-counted.result ≡ is_some (count_at i.arms (op_of i.dataflow.flow c.args.worker)) =
    c.is_some-counted.ensures ∙ ap is_some (c.count_at.ensures ∙ ap (count_at i.arms) (c.op_of-op.ensures ∙ ap (λ (f : List Operator). op_of f c.args.worker) c.flow.ensures)) in
    let new = c.redo_entries.new.crew in
    let told = subst (MakesPartOrNot (record { worker = c.args.worker; entries = c.args.entries.now; counted = c.is_some-counted.result; most = i.most }) c.as_mut_slice-crew.result.now new)
    c.in-Done.is c.in_ok-place.ensures in
    let done = subst (λ b. MakesPart (record { worker = c.args.worker; entries = c.args.entries.now; counted = b; most = i.most }) i.back.items new c.in-Done.hand) counted
    (subst (λ crew. MakesPart (record { worker = c.args.worker; entries = c.args.entries.now; counted = c.is_some-counted.result; most = i.most }) crew new c.in-Done.hand) slice told) in
    let written = written-back i.back.items new i.back.len (c.redo_entries.auto.crew ∙ ap length slice) i.back.ok.0 in
    let to_end = c.runs_to_end-to_end.ensures ∙ to_end-seen i c.self.invariant c.args.self.now c.bring_out-empty.result (c.self.view_is ∙ c.bring_out-empty.ensures) c.requires.within in
    redone-part i c.self.invariant c.args.self.now c.bring_out-empty.result (c.self.view_is ∙ c.bring_out-empty.ensures) c.requires.within c.args.worker c.args.entries.now c.requires.there c.requires.next new c.in-Done.hand done _
    (λ k. record (seen i) { phase = phase.Redoing (to_end k) (c.are_empty.ensures k); parts = parts_from 0 (written k); turned = turned_by (written k) })
