use mathlib.Core.Path.{◌≡◌}
use Prim.Native.Nat.{◌+◌, ◌*◌, ◌≤◌}
use lib.ListN.{length, drop}
use Rattle.std.specs.Slice.Iter.{chunks_exact_rest, chunks_exact_size}
use Rattle.listing.specs.Puts.{Puts}
use Rattle.listing.specs.Text.{records_of, reports_text}
use Rattle.listing.proofs.writing.Lines.put_reports.Given as goal

abbrev pub invariant-loop-row : goal.invariant-loop-row
invariant-loop-row l = record {
  written : Puts (reports_text (length l.yielded) l.reports l.out) l.initial.self l.self;
  rest : l.rest ≡ drop (7 * records_of (length l.yielded) l.reports) l.out;
  left : chunks_exact_rest l.row-iterator ≡ drop (3 * length l.yielded) l.reports;
  size : chunks_exact_size l.row-iterator ≡ 3;
  most : l.self.len + 19 * length l.rest ≤ l.initial.self.len + 30 * length l.yielded + 19 * length l.out;
}
