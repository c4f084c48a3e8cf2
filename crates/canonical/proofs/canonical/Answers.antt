use mathlib.Core.Path.{refl}
use native.Mathlib.Omega.{arith}
use Rattle.std.proofs.lemmas.Result.{err_from_is_err_and}
use Rattle.canonical.specs.Calls.{accepted}
use Rattle.canonical.proofs.MessageLaws.{message-of, refused-text}
use Rattle.canonical.proofs.canonical.Goals as goal

pub returns-in_err-check : goal.returns-in_err-check
returns-in_err-check c =
    let p = err_from_is_err_and c.from_residual.result c.from_residual.ensures.1 in
    rw (p.1, p.2) (refused-text c.args.text.now c.args.out.now _ (omega arith) c.in_err-check.ensures)

pub write_accepted-requires : goal.write_accepted-requires
write_accepted-requires c =
    let m = message-of c.in_ok-check.ensures refl in
    (m, omega (arith, m.short))

pub returns : goal.returns
returns c = accepted (omega arith) c.write_accepted.ensures
