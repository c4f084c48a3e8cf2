use Rattle.listing.proofs.WriteLaws.{puts_then}
use Rattle.listing.proofs.writing.Lines.put_front.Goals as goal

pub returns-clause-written : goal.returns-clause-written
returns-clause-written c = puts_then c.put.ensures (puts_then c.put_number.ensures.written (puts_then c.put_kind.ensures.written c.put_number-2.ensures.written))
