use native.Mathlib.Omega.{arith}
use Rattle.std.proofs.lemmas.Result.{err_from_is_err_and}
use mathlib.Core.Path.{refl}
use Prim.Native.Nat.{ℕ}
use lib.ListN.{length-replicate}
use Rattle.canonical.proofs.MessageLaws.{message-of}
use Rattle.message_keys.specs.Keyed.{keyed, refused}
use Rattle.message_keys.proofs.Laws.{count_taken, key-of-written}
use Rattle.message_keys.proofs.key_within.Goals as goal

pub returns-in_err-check : goal.returns-in_err-check
returns-in_err-check g c =
    let p = err_from_is_err_and c.from_residual.result c.from_residual.ensures.1 in
    rw (p.1, p.2) (refused c.in_err-check.ensures)

pub write_within-count-requires : goal.write_within-count-requires
write_within-count-requires g c =
    let r = c.requires in
    let m = message-of c.in_ok-check.ensures refl in
    let l = r.0 m.short in
    (m, l, r.1, r.2, omega (arith, l, r.3, length-replicate {A = ℕ} g.row.ROOM 0))

pub slice_bounds-key_of-end : goal.slice_bounds-key_of-end
slice_bounds-key_of-end g c = count_taken _ _ _ _ c.write_within-count.ensures

pub returns : goal.returns
returns g c = keyed (key-of-written _ _ _ _ _ c.write_within-count.ensures c.key_of.ensures)
