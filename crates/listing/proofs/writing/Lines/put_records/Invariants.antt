use mathlib.Core.Path.{◌≡◌}
use Prim.Native.Nat.{◌+◌, ◌*◌, ◌≤◌}
use lib.ListN.{length, drop}
use Rattle.std.specs.Slice.Iter.{chunks_exact_rest, chunks_exact_size}
use Rattle.listing.specs.Puts.{Puts}
use Rattle.listing.specs.Text.{records_text}
use Rattle.listing.proofs.writing.Lines.put_records.Given as goal

abbrev pub invariant-loop-row : goal.invariant-loop-row
invariant-loop-row l = record {
  written : Puts (records_text (length l.yielded) l.rows) l.initial.self l.self;
  left : chunks_exact_rest l.row-iterator ≡ drop (7 * length l.yielded) l.rows;
  size : chunks_exact_size l.row-iterator ≡ 7;
  most : l.self.len ≤ l.initial.self.len + 133 * length l.yielded;
}
