use Rattle.store.proofs.ConnLaws.{fits-sound}
use Rattle.market_tick.proofs.fits_quietly.Goals as goal

pub events_held-requires : goal.events_held-requires
events_held-requires c = fits-sound _ c.requires.0 _ c.requires.1
