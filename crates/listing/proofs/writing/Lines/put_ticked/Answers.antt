use mathlib.Core.Path.{ap}
use mathlib.Core.List.{List}
use Prim.Native.Nat.{ℕ}
use Rattle.listing.specs.Text.{all_reports}
use Rattle.listing.proofs.WriteLaws.{puts_then, puts_other}
use Rattle.listing.proofs.writing.Lines.put_ticked.Goals as goal

pub returns-in-Ok : goal.returns-in-Ok
returns-in-Ok c =
    rw c.in-Ok.is
    (puts_then c.put.ensures (puts_other (ap (λ (l : List ℕ). all_reports l c.args.out.now) c.split.ensures.front) c.put_reports.ensures))
