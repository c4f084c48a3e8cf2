use Rattle.listing.proofs.WriteLaws.{puts_then}
use Rattle.listing.proofs.writing.Lines.put_refused.Goals as goal

pub returns : goal.returns
returns c = puts_then c.put.ensures c.put_number.ensures.written
