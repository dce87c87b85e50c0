-- Batches go on, one after the other.
use Rattle.std.proofs.Common.{◌∙◌, ◌++◌, ◌∷◌, [], ap, refl}
use Rattle.amber_link.specs.declared.ends.Out.{Out}
use Rattle.amber_link.proofs.LinkEnds.{forwards-none, forwards-one, forwards-then, same-out-then}
use Rattle.amber_link.proofs.ends.Out.send.Goals as goal

pub loop-self-init : goal.loop-self-init
loop-self-init c = forwards-none c.args.self.now

pub returns-then-is_full-clause-forwards : goal.returns-then-is_full-clause-forwards
returns-then-is_full-clause-forwards c =
    let looked = c.is_full.ensures.looked in
    let out : Out = record { ring = c.is_full.new.self; kept = c.loop-self.self.kept; back = tt } in
    forwards-then c.args.self.now c.loop-self.self out c.loop-self.invariant (record { ring = looked.0; only = refl; order = ap (λ l. l ++ c.loop-self.self.kept.waiting) looked.1 })

pub loop-self-preserved : goal.loop-self-preserved
loop-self-preserved c =
    let looked = c.is_full.ensures.looked in
    let seen : Out = record { ring = c.is_full.new.self; kept = c.loop-self.self.kept; back = tt } in
    let out : Out = record { ring = c.push_reserved.new.self; kept = c.pop.new.self; back = tt } in
    forwards-one c.args.self.now c.loop-self.self out c.in-Some.batch c.loop-self.invariant (same-out-then c.loop-self.self seen out looked.0 c.push_reserved.ensures.ring) c.in-Some.ensures.only c.in-Some.ensures.batch
    (c.push_reserved.ensures.sent.0 ∙ ap (λ l. l ++ c.in-Some.batch ∷ []) looked.1)

pub returns-clause-forwards : goal.returns-clause-forwards
returns-clause-forwards c = c.loop-self.invariant
