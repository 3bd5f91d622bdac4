use Rattle.std.proofs.Common.{◌∙◌, sym}
use Rattle.region_sim.proofs.KnownWideWords.{count}
use Rattle.region_sim.proofs.known_wide.KnownWide.new.Goals as goal

pub returns : goal.returns
returns c = count c.in_ok-known.known.items c.in_ok-places.places.items
    ∙ (sym c.in_ok-places.places.ok.0 ∙ c.in_ok-places.ensures.len)
