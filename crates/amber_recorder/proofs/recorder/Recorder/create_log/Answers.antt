-- The log is made, and its head is written.
use Rattle.std.proofs.Common.{◌≡◌, ◌∙◌, [], Err, inr, ap, rules}
use Rattle.amber_io.specs.World.{World}
use Rattle.amber_io.proofs.Told.{made_there}
use Rattle.amber_log.specs.LogText.{head_text}
use Rattle.amber_recorder.proofs.Recording.{makes-none, makes-piece, there-written, writes-on}
use Rattle.amber_recorder.proofs.recorder.Recorder.create_log.Goals as goal

pub returns-in_err-create-clause-makes : goal.returns-in_err-create-clause-makes
returns-in_err-create-clause-makes g c =
    let e : c.from_residual.result ≡ Err c.in_err-create.field-0.0 = search rules in
    rw e (makes-none c.in_err-create.field-0.0 c.args.self.now.log_name.now (head_text c.args.batch_size) (g.W.Outside.world c.args.self.now.outside.now)
    (g.W.Outside.world c.create.new.self.outside.now) c.in_err-create.ensures.made)

pub append-requires-clause-there : goal.append-requires-clause-there
append-requires-clause-there g c =
    λ lifetimes within.
    rw (c.in_ok-create.ensures.made, c.create.ensures.same_log) (made_there (g.W.Outside.world c.args.self.now.outside.now).files c.args.self.now.log_name.now [])

pub returns-clause-makes : goal.returns-clause-makes
returns-clause-makes g c =
    makes-piece c.append.result c.args.self.now.log_name.now (head_text c.args.batch_size) (g.W.Outside.world c.args.self.now.outside.now)
    (g.W.Outside.world c.create.new.self.outside.now) (g.W.Outside.world c.append.new.self.outside.now) c.in_ok-create.ensures.made
    (rw (c.create.ensures.same_log, c.as_slice.ensures.value ∙ c.in_ok-head.ensures) at c.append.ensures.wrote)

pub returns-clause-only : goal.returns-clause-only
returns-clause-only g c =
    writes-on (g.W.Outside.world c.args.self.now.outside.now) (g.W.Outside.world c.create.new.self.outside.now) (g.W.Outside.world c.append.new.self.outside.now)
    c.create.ensures.only c.append.ensures.only

pub returns-clause-there : goal.returns-clause-there
returns-clause-there g c =
    there-written c.append.result c.args.self.now.log_name.now c.as_slice.result.now (g.W.Outside.world c.create.new.self.outside.now) (g.W.Outside.world c.append.new.self.outside.now)
    (rw c.in_ok-create.ensures.made (made_there (g.W.Outside.world c.args.self.now.outside.now).files c.args.self.now.log_name.now [])) (rw c.create.ensures.same_log at c.append.ensures.wrote)
