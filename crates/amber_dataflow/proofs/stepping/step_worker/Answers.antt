-- The worker makes a step, or is held, and its links are settled again.
use Rattle.std.proofs.Common.{subst, sym}
use Rattle.std.proofs.lemmas.Result.{on_ok_weaker}
use Rattle.amber_worker.specs.Counting.{IsBoardOf}
use Rattle.std.specs.Option.{option_copied}
use Rattle.amber_dataflow.proofs.Stepped.{at-place, come-then, does-then, joined-then, own-read, seat-then, turns-then}
use Rattle.amber_dataflow.proofs.Steps.{moves}
use Rattle.amber_dataflow.proofs.stepping.step_worker.Goals as goal

pub make_turn-requires-clause-own : goal.make_turn-requires-clause-own
make_turn-requires-clause-own c = own-read c.args.crew.now c.args.number (option_copied c.args.board) c.index-crew-number.result c.requires.there c.requires.own

pub settle_worker-requires-clause-crew : goal.settle_worker-requires-clause-crew
settle_worker-requires-clause-crew c =
    let t = c.in_ok-make_turn.ensures in
    let d = c.index-crew-number.result in
    let makes = at-place c.args.crew.now c.args.number 1 c.make_turn.new.worker d c.requires.there (record { makes = t.makes; unsent = t.unsent; writes = t.writes; uncounted = t.uncounted }) in
    joined-then c.args.crew.now c.args.number c.make_turn.new.worker c.requires.there 1 makes c.requires.crew

pub settle_worker-requires-clause-come : goal.settle_worker-requires-clause-come
settle_worker-requires-clause-come c =
    let t = c.in_ok-make_turn.ensures in
    let d = c.index-crew-number.result in
    let makes = at-place c.args.crew.now c.args.number 1 c.make_turn.new.worker d c.requires.there (record { makes = t.makes; unsent = t.unsent; writes = t.writes; uncounted = t.uncounted }) in
    come-then c.args.crew.now c.args.number c.make_turn.new.worker c.requires.there 1 makes c.requires.crew

pub returns-clause-turns : goal.returns-clause-turns
returns-clause-turns c =
    let t = c.in_ok-make_turn.ensures in
    let d = c.index-crew-number.result in
    let makes = at-place c.args.crew.now c.args.number 1 c.make_turn.new.worker d c.requires.there (record { makes = t.makes; unsent = t.unsent; writes = t.writes; uncounted = t.uncounted }) in
    on_ok_weaker c.settle_worker.result (turns-then c.args.crew.now c.args.number c.make_turn.new.worker c.requires.there 1 makes c.settle_worker.new.crew) c.settle_worker.ensures

pub returns-clause-does : goal.returns-clause-does
returns-clause-does c =
    let t = c.in_ok-make_turn.ensures in
    let d = c.index-crew-number.result in
    let makes = at-place c.args.crew.now c.args.number 1 c.make_turn.new.worker d c.requires.there (record { makes = t.makes; unsent = t.unsent; writes = t.writes; uncounted = t.uncounted }) in
    let step = moves c.args.crew.now c.args.number c.make_turn.new.worker d c.in_ok-make_turn.field-0 c.requires.crew c.requires.there c.requires.first c.requires.free c.requires.fed t.turned.next t.turned.turned in
    on_ok_weaker c.settle_worker.result
    (λ settled. does-then c.args.crew.now c.args.number c.make_turn.new.worker c.requires.there 1 makes c.settle_worker.new.crew settled c.requires.crew step)
    c.settle_worker.ensures

pub returns-clause-own : goal.returns-clause-own
returns-clause-own c =
    let t = c.in_ok-make_turn.ensures in
    let d = c.index-crew-number.result in
    let makes = at-place c.args.crew.now c.args.number 1 c.make_turn.new.worker d c.requires.there (record { makes = t.makes; unsent = t.unsent; writes = t.writes; uncounted = t.uncounted }) in
    on_ok_weaker c.settle_worker.result
    (λ settled. subst (IsBoardOf (option_copied c.args.board))
    (sym (seat-then c.args.crew.now c.args.number c.make_turn.new.worker c.requires.there 1 makes c.settle_worker.new.crew settled)) t.own)
    c.settle_worker.ensures
