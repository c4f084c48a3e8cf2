use Rattle.listing.specs.Text.{record_text}
use Rattle.listing.proofs.WriteLaws.{puts_then}
use Rattle.listing.proofs.writing.Lines.put_record.Goals as goal

pub returns-clause-written : goal.returns-clause-written
unfolding record_text
returns-clause-written c = puts_then c.put_front.ensures.written c.put_rest.ensures.written
