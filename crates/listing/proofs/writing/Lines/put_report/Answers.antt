use Rattle.listing.specs.Text.{report_text}
use Rattle.listing.proofs.WriteLaws.{puts_then}
use Rattle.listing.proofs.writing.Lines.put_report.Goals as goal

pub returns-clause-written : goal.returns-clause-written
unfolding report_text
returns-clause-written c =
    puts_then c.put_report_kind.ensures.written (puts_then c.put_number.ensures.written c.put_records.ensures.written)
