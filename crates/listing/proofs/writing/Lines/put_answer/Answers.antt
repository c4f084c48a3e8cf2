use mathlib.Core.Path.{ap}
use Rattle.listing.specs.Text.{all_records}
use Rattle.listing.proofs.WriteLaws.{puts_then, puts_other}
use Rattle.listing.proofs.writing.Lines.put_answer.Goals as goal

pub returns : goal.returns
returns c = puts_then c.put.ensures (puts_other (ap all_records c.split.ensures.front) c.put_records.ensures.written)
