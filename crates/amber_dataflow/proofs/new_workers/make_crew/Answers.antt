-- One worker more is made.
use Rattle.std.proofs.Common.{◌≡◌, ◌∙◌, ◌<◌, [], All, ap, map, sym, subst, ◌+◌, length, length-set, is_some, None, rules, arith}
use Rattle.std.proofs.lemmas.List.{get_or_default, length_push}
use Rattle.amber_rows.specs.Topology.{crew_of, receivers_of, senders_of}
use Rattle.amber_worker.specs.Made.{IsFreshIn, IsFreshOut, roomless}
use Rattle.amber_dataflow.specs.Start.{ends_at, share_of_worker}
use Rattle.amber_dataflow.proofs.Begun.{left-put, new-more}
use Rattle.amber_dataflow.proofs.new_workers.make_crew.Goals as goal

pub new-requires-clause-shared : goal.new-requires-clause-shared
new-requires-clause-shared c =
    let below : c.workers.worker < crew_of c.args.flow.now = search rules in
    let own_share : c.take-share.result ≡ share_of_worker c.workers.shares.items c.workers.worker =
    c.take-share.ensures.value ∙ c.index_mut.ensures.value
    ∙ get_or_default c.workers.shares.items c.workers.worker _ None (omega (arith, below, c.workers.invariant.shares_all, c.requires.all)) in
    ap (λ share. is_some share) (own_share ∙ c.workers.invariant.shares c.workers.worker (omega arith)) ∙ c.requires.dealt c.workers.worker below

pub new-requires-clause-typed : goal.new-requires-clause-typed
new-requires-clause-typed c =
    let below : c.workers.worker < crew_of c.args.flow.now = search rules in
    let own_share : c.take-share.result ≡ share_of_worker c.workers.shares.items c.workers.worker =
    c.take-share.ensures.value ∙ c.index_mut.ensures.value
    ∙ get_or_default c.workers.shares.items c.workers.worker _ None (omega (arith, below, c.workers.invariant.shares_all, c.requires.all)) in
    rw (own_share ∙ c.workers.invariant.shares c.workers.worker (omega arith)) (c.requires.typed c.workers.worker below)

pub new-requires-clause-all_outs : goal.new-requires-clause-all_outs
unfolding receivers_of
new-requires-clause-all_outs c =
    let below : c.workers.worker < crew_of c.args.flow.now = search rules in
    let own : c.take-own_outs.result.items ≡ ends_at c.workers.outs.items c.workers.worker =
    c.take-own_outs.ensures.taken ∙ c.index_mut-in-workers.ensures.value
    ∙ get_or_default c.workers.outs.items c.workers.worker _ [] (omega (arith, below, c.workers.invariant.outs_all, c.requires.ends.all_outs)) in
    ap length (own ∙ c.workers.invariant.outs c.workers.worker (omega arith)) ∙ c.requires.ends.outs c.workers.worker below

pub new-requires-clause-all_ins : goal.new-requires-clause-all_ins
unfolding senders_of
new-requires-clause-all_ins c =
    let below : c.workers.worker < crew_of c.args.flow.now = search rules in
    let own : c.take-own_ins.result.items ≡ ends_at c.workers.ins.items c.workers.worker =
    c.take-own_ins.ensures.taken ∙ c.index_mut-in-workers-2.ensures.value
    ∙ get_or_default c.workers.ins.items c.workers.worker _ [] (omega (arith, below, c.workers.invariant.ins_all, c.requires.ends.all_ins)) in
    ap length (own ∙ c.workers.invariant.ins c.workers.worker (omega arith)) ∙ c.requires.ends.ins c.workers.worker below

pub new-requires-clause-fresh_outs : goal.new-requires-clause-fresh_outs
new-requires-clause-fresh_outs c =
    let below : c.workers.worker < crew_of c.args.flow.now = search rules in
    let own : c.take-own_outs.result.items ≡ ends_at c.workers.outs.items c.workers.worker =
    c.take-own_outs.ensures.taken ∙ c.index_mut-in-workers.ensures.value
    ∙ get_or_default c.workers.outs.items c.workers.worker _ [] (omega (arith, below, c.workers.invariant.outs_all, c.requires.ends.all_outs)) in
    subst (All (IsFreshOut c.args.batch_size)) (sym (own ∙ c.workers.invariant.outs c.workers.worker (omega arith))) (c.requires.ends.fresh_outs c.workers.worker below)

pub new-requires-clause-fresh_ins : goal.new-requires-clause-fresh_ins
new-requires-clause-fresh_ins c =
    let below : c.workers.worker < crew_of c.args.flow.now = search rules in
    let own : c.take-own_ins.result.items ≡ ends_at c.workers.ins.items c.workers.worker =
    c.take-own_ins.ensures.taken ∙ c.index_mut-in-workers-2.ensures.value
    ∙ get_or_default c.workers.ins.items c.workers.worker _ [] (omega (arith, below, c.workers.invariant.ins_all, c.requires.ends.all_ins)) in
    subst (All IsFreshIn) (sym (own ∙ c.workers.invariant.ins c.workers.worker (omega arith))) (c.requires.ends.fresh_ins c.workers.worker below)

pub workers-preserved : goal.workers-preserved
workers-preserved c =
    let below : c.workers.worker < crew_of c.args.flow.now = search rules in
    let own_share : c.take-share.result ≡ share_of_worker c.workers.shares.items c.workers.worker =
    c.take-share.ensures.value ∙ c.index_mut.ensures.value
    ∙ get_or_default c.workers.shares.items c.workers.worker _ None (omega (arith, below, c.workers.invariant.shares_all, c.requires.all)) in
    let own_outs : c.take-own_outs.result.items ≡ ends_at c.workers.outs.items c.workers.worker =
    c.take-own_outs.ensures.taken ∙ c.index_mut-in-workers.ensures.value
    ∙ get_or_default c.workers.outs.items c.workers.worker _ [] (omega (arith, below, c.workers.invariant.outs_all, c.requires.ends.all_outs)) in
    let own_ins : c.take-own_ins.result.items ≡ ends_at c.workers.ins.items c.workers.worker =
    c.take-own_ins.ensures.taken ∙ c.index_mut-in-workers-2.ensures.value
    ∙ get_or_default c.workers.ins.items c.workers.worker _ [] (omega (arith, below, c.workers.invariant.ins_all, c.requires.ends.all_ins)) in
    record {
      all = ap length c.in_ok-push.ensures.items ∙ length_push c.workers.crew.items c.in_ok-new.field-0 ∙ ap (λ n. n + 1) c.workers.invariant.all;
      shares_all = length-set c.workers.shares.items c.workers.worker _ ∙ c.workers.invariant.shares_all;
      outs_all = length-set c.workers.outs.items c.workers.worker _ ∙ c.workers.invariant.outs_all;
      ins_all = length-set c.workers.ins.items c.workers.worker _ ∙ c.workers.invariant.ins_all;
      shares = left-put c.args.shares.items c.workers.shares.items c.workers.worker _ None c.workers.invariant.shares;
      outs = left-put c.args.outs.items c.workers.outs.items c.workers.worker _ [] c.workers.invariant.outs;
      ins = left-put c.args.ins.items c.workers.ins.items c.workers.worker _ [] c.workers.invariant.ins;
      made = new-more _ c.workers.crew.items c.push.new.self.items c.in_ok-new.field-0 c.workers.worker c.in_ok-push.ensures.items c.workers.invariant.all c.workers.invariant.made (record {
        stands = rw (own_share ∙ c.workers.invariant.shares c.workers.worker (omega arith)) at c.in_ok-new.ensures.stands;
        outs = c.in_ok-new.ensures.outs ∙ ap (map roomless) (own_outs ∙ c.workers.invariant.outs c.workers.worker (omega arith));
        ins = c.in_ok-new.ensures.ins ∙ own_ins ∙ c.workers.invariant.ins c.workers.worker (omega arith);
        journal = c.in_ok-new.ensures.journal;
        unarmed = c.in_ok-new.ensures.unarmed;
      });
    }
