use mathlib.Core.Path.{◌≡◌, ◌∙◌}
use mathlib.Core.List.{[], ◌∷◌}
use Rattle.std.proofs.Common.{rules, arith}
use lib.ListN.{length, length-append}
use Rattle.std.specs.Slice.Iter.{chunks_exact_rest}
use Rattle.listing.specs.Text.{records_text}
use Rattle.listing.proofs.WriteLaws.{puts_nothing, next_entry, behind_entry, records_more}
use Rattle.listing.proofs.writing.Lines.put_records.Goals as goal

pub loop-row-init : goal.loop-row-init
unfolding records_text
loop-row-init c = record { written = puts_nothing c.args.self.now (omega arith); left = search rules; size = search rules; most = omega arith }

pub loop-row-preserved : goal.loop-row-preserved
loop-row-preserved c =
    let l = c.loop-row.invariant in
    let h = c.in-Some.ensures.steps in
    let j = length c.loop-row.yielded in
    let rows = c.args.rows.now in
    let row = c.in-Some.row.now in
    let after = chunks_exact_rest c.next.new.self in
    let seven : length row ≡ 7 = h.1.1 ∙ l.size in
    rw (length-append c.loop-row.yielded (c.in-Some.row ∷ []))
    record {
      written = records_more j rows row (next_entry 7 j rows row after l.left h.1.0 seven) l.written c.put_record.ensures.written;
      left = behind_entry 7 j rows row after l.left h.1.0 seven;
      size = h.0 ∙ l.size;
      most = omega arith;
    }
