-- One link is settled.
use Rattle.std.proofs.Common.{◌≡◌, Result, Ok, Err, true}
use Rattle.std.specs.Result.{OnOk, is_ok}
use Rattle.std.proofs.lemmas.Bool.{false≢true}
use Rattle.amber_link.proofs.Settled.{built-same, settles-there}
use Rattle.amber_link.proofs.settling_places.settle_at.Goals as goal

where_ok : {T E P : Type 0} (r : Result T E) → OnOk r P → is_ok r ≡ true → P
where_ok (Ok x) h e = h
where_ok (Err x) h e = absurd (false≢true e)

pub returns-clause-settles : goal.returns-clause-settles
returns-clause-settles c =
    settles-there (is_ok c.settle.result) c.args.outs.now c.args.j c.args.ins.now c.args.k c.index-outs-j.result c.index-ins-k.result c.settle.new.out c.settle.new.into
    c.requires.out_there c.requires.in_there c.settle.ensures.linked c.settle.ensures.forwards c.settle.ensures.gives c.settle.ensures.whole
    (λ e. where_ok c.settle.result c.settle.ensures.ok e)

pub returns-clause-built : goal.returns-clause-built
returns-clause-built c = built-same c.args.ins.now c.args.k c.index-ins-k.result c.settle.new.into c.requires.in_there
