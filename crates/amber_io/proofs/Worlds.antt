-- Worlds in which only some things differ, one after the other.
use Rattle.std.proofs.Common.{◌≡◌, ap, ◌∙◌}
use Rattle.amber_io.specs.World.{LoadsOnly, PutsOnly, World}

-- no load has failed either
pub all_same : (before after : World) → LoadsOnly before after → after.loads ≡ before.loads → after ≡ before
all_same before after only e = only ∙ ap (λ n. record before { loads = n }) e

pub loads_only-then : (before mid after : World) → LoadsOnly before mid → LoadsOnly mid after → LoadsOnly before after
loads_only-then before mid after p q = q ∙ ap (λ (w : World). record w { loads = after.loads }) p

pub puts_only-then : (before mid after : World) → PutsOnly before mid → PutsOnly mid after → PutsOnly before after
puts_only-then before mid after p q = q ∙ ap (λ (w : World). record w { got = after.got; puts = after.puts }) p
