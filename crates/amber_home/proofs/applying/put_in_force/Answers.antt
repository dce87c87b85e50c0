-- Nobody has done anything, whatever was put in force before.
use Rattle.std.proofs.Common.{sym, ap, subst, ◌∙◌}
use Rattle.amber_dataflow.specs.Dataflow.{HaveDoneNothing}
use Rattle.amber_home.specs.Applied.{with_constants, without_dropped}
use Rattle.amber_home.proofs.Commanded.{nothing-dropped, nothing-set}
use Rattle.amber_home.proofs.applying.put_in_force.Goals as goal

pub set-requires-clause-rest : goal.set-requires-clause-rest
set-requires-clause-rest c =
    subst HaveDoneNothing (sym c.drop_row-dropped.ensures.dataflow)
    (nothing-dropped c.args.effect.now.op c.args.effect.now.drops c.args.dataflow.now c.requires.rest)

pub watch-requires-clause-rest : goal.watch-requires-clause-rest
watch-requires-clause-rest c =
    let effect = c.args.effect.now in
    let d = c.args.dataflow.now in
    subst HaveDoneNothing (sym (c.set.ensures ∙ ap (with_constants effect.op effect.arming.constant) c.drop_row-dropped.ensures.dataflow))
    (nothing-set effect.op effect.arming.constant (without_dropped effect.op effect.drops d) (nothing-dropped effect.op effect.drops d c.requires.rest))
