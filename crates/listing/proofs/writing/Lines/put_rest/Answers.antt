use Rattle.listing.proofs.WriteLaws.{puts_then}
use Rattle.listing.proofs.writing.Lines.put_rest.Goals as goal

pub returns-clause-written : goal.returns-clause-written
returns-clause-written c =
    puts_then c.put_number.ensures.written (puts_then c.put_number-2.ensures.written (puts_then c.put_number-3.ensures.written c.put_number-4.ensures.written))
