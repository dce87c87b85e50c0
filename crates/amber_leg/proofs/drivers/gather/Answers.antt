-- One worker more is back.
use Rattle.std.proofs.Common.{◌≡◌, ◌+◌, ◌<◌, sym, ap, subst, ◌∙◌, length, length-set, set, slice_index, slice_index_or, None, Some, is_some, true, arith}
use Rattle.std.proofs.lemmas.List.Elements.{All-get_or}
use Rattle.amber_dataflow.specs.AtWork.{worker_state_at}
use Rattle.std.proofs.lemmas.List.{get_or_default, length_push}
use Rattle.amber_leg.specs.Driving.{worker_placed}
use Rattle.amber_leg.proofs.Gathered.{back-more, driver_of, later-same, slot-some}
use Rattle.amber_leg.proofs.drivers.gather.Goals as goal

pub workers-preserved : goal.workers-preserved
workers-preserved c =
    let before = c.workers.invariant in
    let number = c.workers.number in
    let turn = slice_index c.args.owners.now number in
    let all = c.requires.all in
    let there : turn < length c.workers.drivers = rw before.drivers (All-get_or (λ k. k < length c.args.drivers.now) c.args.owners.now number 0 (let test = c.workers-test.true in omega arith) c.requires.within) in
    record {
      long = ap length c.push_reserved.ensures.items ∙ length_push c.workers.workers.items c.in-Some.worker ∙ ap (λ n. n + 1) before.long;
      drivers = length-set c.workers.drivers turn _ ∙ before.drivers;
      room = (let room = before.room in omega (arith, c.push_reserved.ensures.capacity));
      rest = λ place e past. later-same c.args.owners.now c.workers.drivers number turn c.index-drivers-owner.result _ there (ap (λ v. set (slice_index_or c.workers.drivers turn c.index-drivers-owner.result).workers.items number v) c.take.ensures.after) place e past ∙ before.rest place e (omega arith);
      back = λ place e inside.
          subst (λ xs. worker_placed (driver_of c.args.owners.now c.args.drivers.now place e) place ≡ Some (worker_state_at xs place)) (sym c.push_reserved.ensures.items)
          (back-more c.args.owners.now c.args.drivers.now number c.workers.workers.items c.in-Some.worker before.long before.back
          (λ d.
          let own = c.index-drivers-owner.result in
          let items = (slice_index_or c.workers.drivers turn own).workers.items in
          let same : worker_placed (driver_of c.args.owners.now c.workers.drivers number d) number ≡ slice_index_or items number None = ap (λ one. worker_placed one number) (get_or_default c.workers.drivers turn d own there) in
          let some : is_some (slice_index_or items number None) ≡ true = ap is_some (sym same ∙ before.rest number d (omega arith)) ∙ c.requires.there number d (let test = c.workers-test.true in omega arith) in
          sym (before.rest number d (omega arith)) ∙ same ∙ sym (slot-some items number c.index_mut.result.now some)
          ∙ sym c.index_mut.ensures.value ∙ sym c.take.ensures.value ∙ c.in-Some.is)
          place e inside);
    }
