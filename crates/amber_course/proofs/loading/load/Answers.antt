-- What a load gives is the whole file, where it is small enough.
use Rattle.amber_io.proofs.Worlds.{all_same}
use Rattle.amber_course.proofs.Following.{load-bounded, load-err}
use Rattle.amber_course.proofs.loading.load.Goals as goal

pub returns-in-Ok-clause-course : goal.returns-in-Ok-clause-course
returns-in-Ok-clause-course g c =
    let before = g.W.Outside.world c.args.outside.now in
    let after = g.W.Outside.world c.load.new.self in
    load-bounded c.bounded.result c.args.most c.args.name.now c.in-Ok.bytes.items before after
    (all_same before after c.load.ensures.only c.in-Ok.ensures.cause) c.in-Ok.ensures.gives c.bounded.ensures

pub returns-in-Err-Failed-clause-course : goal.returns-in-Err-Failed-clause-course
returns-in-Err-Failed-clause-course g c =
    load-err c.unread.result c.args.most c.args.name.now (g.W.Outside.world c.args.outside.now) (g.W.Outside.world c.load.new.self)
    c.unread.ensures (rw c.in-Err-Failed.field-0-is at c.in-Err-Failed.ensures.cause).1 (λ lacks. (c.load.ensures.absent lacks).1)
