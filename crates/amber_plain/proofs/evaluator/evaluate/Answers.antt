-- What waits and what was read, by kinds.
use Rattle.std.proofs.Common.{◌≡◌, ◌∙◌, ◌+◌, [], Result, Ok, Err, IfErr, OnOk, ℕ, ap, arith, refl, sym, true}
use Rattle.std.proofs.lemmas.Result.{IfOk-from_err, err_from_is_err_and}
use Rattle.amber_plain.proofs.Passing.{count_through-none}
use Rattle.amber_operators.specs.declared.operator_state.OperatorState.{OperatorState}
use Rattle.amber_operators.specs.declared.operator_state.OperatorState.TheVariants as operator_state
use Rattle.amber_meaning.specs.Plain.{records_of}
use Rattle.amber_plain.specs.declared.limit.LimitErr.{LimitErr}
use Rattle.amber_plain.specs.declared.limit.LimitErr.TheVariants as limit_err
use Rattle.amber_plain.specs.Holding.{Spends}
use Rattle.amber_plain.specs.Unread.{Waiting, unread_at, unread_count, unread_rows}
use Rattle.amber_plain.specs.Steps.{others_of, read_for, told_by}
use Rattle.amber_rows.specs.declared.flow.What.{What}
use Rattle.amber_plain.proofs.Waits.{probe-there, taken-other}
use Rattle.amber_plain.proofs.evaluator.evaluate.Goals as goal

ok-so : {T E : Type 0} (r : Result T E) (P : Type 0) → P → OnOk r P
ok-so (Ok x) P h = h
ok-so (Err e) P h = tt

-- so many rows came, or memory ran out
spends-so : {T : Type 0} (r : Result T LimitErr) (old new count : ℕ) → IfErr r (λ why. why ≡ limit_err.NoMemory) → old ≡ new + count → Spends r old new count
spends-so (Ok x) old new count short e = e
spends-so (Err why) old new count short e = rw short tt

pub returns-in-Scan : goal.returns-in-Scan
returns-in-Scan c = record {
  new = rw (c.in-Scan.is, c.unrefused.ensures, c.new.ensures) refl;
  others = ap (λ (kind : What). others_of kind c.args.waiting.now.items) (sym c.in-Scan.is);
  told = ap (λ (kind : What). told_by (records_of c.args.files.now c.args.flow.now) c.args.tally.now.told.items (read_for kind c.args.waiting.now.items).source) (sym c.in-Scan.is);
  left = rw c.in-Scan.is (omega (arith, count_through-none []));
}

pub returns-in_err-filter-in-Filter : goal.returns-in_err-filter-in-Filter
returns-in_err-filter-in-Filter c =
    let e = c.from_residual.ensures in
    let p = err_from_is_err_and c.from_residual.result e.1 in
    record { new = IfOk-from_err _ _ e.0; others = IfOk-from_err _ _ e.0; told = IfOk-from_err _ _ e.0; left = rw (p.1, p.2) tt }

pub returns-in_err-project-in-Project : goal.returns-in_err-project-in-Project
returns-in_err-project-in-Project c =
    let e = c.from_residual-in_err-project-in-Project.ensures in
    let p = err_from_is_err_and c.from_residual-in_err-project-in-Project.result e.1 in
    record { new = IfOk-from_err _ _ e.0; others = IfOk-from_err _ _ e.0; told = IfOk-from_err _ _ e.0; left = rw (p.1, p.2) tt }

pub returns-in_err-built-in-Join : goal.returns-in_err-built-in-Join
returns-in_err-built-in-Join c =
    let e = c.from_residual-in_err-built-in-Join.ensures in
    let p = err_from_is_err_and c.from_residual-in_err-built-in-Join.result e.1 in
    record { new = IfOk-from_err _ _ e.0; others = IfOk-from_err _ _ e.0; told = IfOk-from_err _ _ e.0; left = rw (p.1, p.2, c.in-Join.is, ← c.take-build.ensures.taken) c.in_err-built-in-Join.ensures.left }

pub returns-in_err-groups-in-Group : goal.returns-in_err-groups-in-Group
returns-in_err-groups-in-Group c =
    let e = c.from_residual-in_err-groups-in-Group.ensures in
    let p = err_from_is_err_and c.from_residual-in_err-groups-in-Group.result e.1 in
    record { new = IfOk-from_err _ _ e.0; others = IfOk-from_err _ _ e.0; told = IfOk-from_err _ _ e.0; left = rw (p.1, p.2, c.in-Group.is, ← c.take-unread.ensures.taken) c.in_err-groups-in-Group.ensures.left }

pub with_stage-requires : goal.with_stage-requires
with_stage-requires c = (rw c.in-Filter.is at c.requires).1

pub with_stage-requires-in-Project : goal.with_stage-requires-in-Project
with_stage-requires-in-Project c = (rw c.in-Project.is at c.requires).1

pub take-build-requires : goal.take-build-requires
take-build-requires c = (rw c.in-Join.is at c.requires).0

pub with_stage-requires-in-Join : goal.with_stage-requires-in-Join
with_stage-requires-in-Join c = rw c.take-build.ensures.others (probe-there c.args.waiting.now.items c.in-Join.build c.in-Join.probe (rw c.in-Join.is at c.requires).1)

pub take-unread-requires : goal.take-unread-requires
take-unread-requires c = (rw c.in-Group.is at c.requires).1

pub take-requires : goal.take-requires
take-requires c = (rw c.in-Sink.is at c.requires).1

pub returns-in-Sink : goal.returns-in-Sink
returns-in-Sink c = record {
  new = rw (c.in-Sink.is, ← c.take.ensures.taken) c.sorted.ensures.new;
  others = rw (c.in-Sink.is, c.take.ensures.others) (ok-so c.sorted.result _ refl);
  told = rw (c.in-Sink.is, ← c.take.ensures.taken) c.sorted.ensures.told;
  left = rw (c.in-Sink.is, ← c.take.ensures.taken) c.sorted.ensures.left;
}

pub returns-in_ok-filter-in-Filter : goal.returns-in_ok-filter-in-Filter
returns-in_ok-filter-in-Filter c = record {
  new = rw c.in-Filter.is (rw c.in_ok-filter-in-Filter.ensures at c.with_stage.ensures.new);
  others = rw c.in-Filter.is c.with_stage.ensures.others;
  told = rw c.in-Filter.is (ok-so c.with_stage.result _ refl);
  left = rw c.in-Filter.is (spends-so c.with_stage.result _ _ _ c.with_stage.ensures.memory (omega (arith, count_through-none [])));
}

pub returns-in_ok-project-in-Project : goal.returns-in_ok-project-in-Project
returns-in_ok-project-in-Project c = record {
  new = rw c.in-Project.is (rw c.in_ok-project-in-Project.ensures at c.with_stage-in-Project.ensures.new);
  others = rw c.in-Project.is c.with_stage-in-Project.ensures.others;
  told = rw c.in-Project.is (ok-so c.with_stage-in-Project.result _ refl);
  left = rw c.in-Project.is (spends-so c.with_stage-in-Project.result _ _ _ c.with_stage-in-Project.ensures.memory (omega (arith, count_through-none [])));
}

pub returns-in_ok-built-in-Join : goal.returns-in_ok-built-in-Join
returns-in_ok-built-in-Join c = record {
  new = let records = records_of c.args.files.now c.args.flow.now in
      let waiting = c.args.waiting.now.items in
      let build = c.in-Join.build in
      let probe = c.in-Join.probe in
      let h = rw c.in-Join.is at c.requires in
      let with : Waiting → OperatorState = λ unread. operator_state.Join (record { build_keys = c.in-Join.build_keys; probe_keys = c.in-Join.probe_keys; rows = unread_rows records unread; sealed = true }) in
      let probed : unread_at c.take-build.new.waiting.items probe ≡ unread_at waiting probe =
      ap (λ others. unread_at others probe) c.take-build.ensures.others ∙ taken-other waiting build probe h.1.0 h.0.0 (λ e. h.2 (sym e)) in
      let built : c.in_ok-built-in-Join.built ≡ with (unread_at waiting build) = c.in_ok-built-in-Join.ensures.built ∙ ap with c.take-build.ensures.taken in
      rw c.in-Join.is (rw (probed, built) at c.with_stage-in-Join.ensures.new);
  others = rw c.in-Join.is (rw c.take-build.ensures.others at c.with_stage-in-Join.ensures.others);
  told = rw c.in-Join.is (ok-so c.with_stage-in-Join.result _
      (c.in_ok-built-in-Join.ensures.told ∙ ap (λ (u : Waiting). told_by (records_of c.args.files.now c.args.flow.now) c.args.tally.now.told.items u.source) c.take-build.ensures.taken));
  left = rw c.in-Join.is (spends-so c.with_stage-in-Join.result _ _ _ c.with_stage-in-Join.ensures.memory
      (c.in_ok-built-in-Join.ensures.left ∙ ap (λ (u : Waiting). c.built.new.tally.left + unread_count (records_of c.args.files.now c.args.flow.now) u) c.take-build.ensures.taken));
}

pub returns-in_ok-groups-in-Group : goal.returns-in_ok-groups-in-Group
returns-in_ok-groups-in-Group c = record {
  new = rw c.in-Group.is (rw (c.in_ok-groups-in-Group.ensures.rows, c.in_ok-groups-in-Group.ensures.refused, c.take-unread.ensures.taken) at c.from_groups.ensures.new);
  others = rw c.in-Group.is (ok-so c.from_groups.result _ c.take-unread.ensures.others);
  told = rw c.in-Group.is (ok-so c.from_groups.result _
      (c.in_ok-groups-in-Group.ensures.told ∙ ap (λ (u : Waiting). told_by (records_of c.args.files.now c.args.flow.now) c.args.tally.now.told.items u.source) c.take-unread.ensures.taken));
  left = rw c.in-Group.is (spends-so c.from_groups.result _ _ _ c.from_groups.ensures.memory
      (c.in_ok-groups-in-Group.ensures.left ∙ ap (λ (u : Waiting). c.grouped.new.tally.left + unread_count (records_of c.args.files.now c.args.flow.now) u) c.take-unread.ensures.taken));
}
