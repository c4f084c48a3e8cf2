use mathlib.Core.Path.{◌≡◌, ◌∙◌, ap, refl}
use mathlib.Core.List.{[], ◌∷◌}
use Prim.Native.Nat.{ℕ, ◌*◌}
use Rattle.std.proofs.Common.{rules, arith}
use lib.ListN.{length, get_or, length-append, take-append-drop}
use Rattle.std.specs.Slice.Iter.{chunks_exact_rest}
use Rattle.listing.specs.Text.{report, report_text, records_of, reports_text}
use Rattle.listing.proofs.WriteLaws.{puts_nothing, puts_other, next_entry, behind_entry, reports_more, rest_more}
use Rattle.listing.proofs.writing.Lines.put_reports.Goals as goal

pub loop-row-init : goal.loop-row-init
unfolding reports_text records_of
loop-row-init c = record { written = puts_nothing c.args.self.now (omega arith); rest = refl; left = search rules; size = search rules; most = omega arith }

pub loop-row-preserved : goal.loop-row-preserved
loop-row-preserved c =
    let l = c.loop-row.invariant in
    let h = c.in-Some.ensures.steps in
    let j = length c.loop-row.yielded in
    let reports = c.args.reports.now in
    let out = c.args.out.now in
    let row = c.in-Some.row.now in
    let after = chunks_exact_rest c.next.new.self in
    let three : length row ≡ 3 = h.1.1 ∙ l.size in
    let this : row ≡ report j reports = next_entry 3 j reports row after l.left h.1.0 three in
    let s = c.split.ensures in
    let front = ap length s.front in
    let back = ap length s.rest in
    let both = ap length (take-append-drop (7 * get_or row 2 0) c.loop-row.rest.now) in
    rw (length-append c.loop-row.yielded (c.in-Some.row ∷ []))
    record {
      written = reports_more j reports out row c.loop-row.rest.now this l.rest l.written (puts_other (ap (report_text row) s.front) c.put_report.ensures.written);
      rest = s.rest ∙ rest_more j reports out row c.loop-row.rest.now this l.rest;
      left = behind_entry 3 j reports row after l.left h.1.0 three;
      size = h.0 ∙ l.size;
      most = omega (arith, length-append {A = ℕ});
    }
