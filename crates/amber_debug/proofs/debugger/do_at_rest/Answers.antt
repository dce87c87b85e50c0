-- The command is one that a home does at rest, and the log stays legal.
use Rattle.std.proofs.Common.{rules}
use Rattle.amber_debug.proofs.Homes.{done-over, legal-done}
use Rattle.amber_debug.proofs.Replies.{no-leg-rests}
use Rattle.amber_debug.proofs.debugger.do_at_rest.Goals as goal

pub apply-requires-clause-at_rest : goal.apply-requires-clause-at_rest
apply-requires-clause-at_rest g c = no-leg-rests c.args.command.now c.args.effect.now c.requires.effect

pub returns-clause-ok : goal.returns-clause-ok
returns-clause-ok g c = record {
  home = done-over c.args.home.now c.replace_lost.new.home c.apply.new.self c.args.command.now c.replace_lost.ensures c.in_ok-apply.ensures.ok;
  text = search rules;
  reply = search rules;
}

pub returns-clause-legal : goal.returns-clause-legal
returns-clause-legal g c =
    legal-done c.args.home.now c.apply.new.self c.args.command.now c.requires.legal c.requires.open c.commands_have_text.ensures c.requires.fits
    (done-over c.args.home.now c.replace_lost.new.home c.apply.new.self c.args.command.now c.replace_lost.ensures c.in_ok-apply.ensures.ok)
