use mathlib.Core.Path.{◌∙◌}
use Rattle.listing.proofs.WriteLaws.{as-decimal, puts_then, puts_other}
use Rattle.listing.proofs.writing.Lines.put_number.Goals as goal

pub returns-clause-written : goal.returns-clause-written
returns-clause-written c =
    let digits = c.as_bytes.ensures.value ∙ c.format.ensures.text ∙ as-decimal c.args.x c.ranges.x.fits in
    puts_then (puts_other digits c.put.ensures) c.put-2.ensures
