-- Each need is looked at.
use Rattle.std.proofs.Common.{rules}
use Rattle.amber_principal.specs.Shares.{is_able}
use Rattle.amber_principal.specs.declared.dividing.Need.TheVariants as need
use Rattle.amber_principal.proofs.Mapped.{mapped}
use Rattle.amber_principal.proofs.rounds.able.Goals as goal

pub returns : goal.returns
returns c = mapped _ _ is_able _ _ 16 need.Absent c.told-needs (λ x y p q called. search rules) c.map.ensures.items
