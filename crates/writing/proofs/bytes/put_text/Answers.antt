use mathlib.Core.Path.{◌≡◌, ◌∙◌, ap}
use native.Mathlib.Omega.{arith}
use Prim.Native.Nat.{◌-◌}
use lib.ListN.{length}
use Rattle.writing.proofs.WrittenLaws.{written_mid, run_length}
use Rattle.writing.proofs.bytes.put_text.Goals as goal

pub returns : goal.returns
returns c =
    let a = c.args in
    let x = c.copy_from_slice.ensures.after in
    let e : length c.copy_from_slice.new.self ≡ a.to - a.from = ap length x ∙ run_length a.text.now a.from a.to (omega arith) in
    (written_mid a.pos _ _ a.out.now (omega (arith, e)) x, omega arith)
