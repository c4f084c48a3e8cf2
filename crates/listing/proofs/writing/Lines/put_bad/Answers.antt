use Rattle.listing.proofs.WriteLaws.{puts_then}
use Rattle.listing.proofs.writing.Lines.put_bad.Goals as goal

pub returns-clause-written : goal.returns-clause-written
returns-clause-written c = puts_then c.put.ensures c.put_number.ensures.written
