-- Each share is looked at.
use Rattle.std.proofs.Common.{◌==◌, not, rules}
use Rattle.amber_principal.proofs.Mapped.{mapped}
use Rattle.amber_principal.proofs.rounds.sharers.Goals as goal

pub returns : goal.returns
returns c = mapped _ _ (λ share. not (share == 0)) _ _ 16 0 c.told-shares (λ x y p q called. search rules) c.map.ensures.items
