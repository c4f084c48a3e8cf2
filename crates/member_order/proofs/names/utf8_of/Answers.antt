use borrow.Author.Tests.{lt-ltb, le-ltb}
use native.Mathlib.Omega.{arith}
use Rattle.json_text.specs.Bytes.{utf8}
use Rattle.member_order.proofs.names.utf8_of.Goals as goal

pub returns-then-n-lt128 : goal.returns-then-n-lt128
unfolding utf8
returns-then-n-lt128 c = rw (lt-ltb c.args.n 0x80 c.if-n-lt128.true) c.one.ensures

pub returns-then-n-lt2048 : goal.returns-then-n-lt2048
unfolding utf8
returns-then-n-lt2048 c =
    let n = c.args.n in
    record { is = rw (le-ltb n 0x80 c.if-n-lt128.false, lt-ltb n 0x800 c.if-n-lt2048.true); some = omega arith; most = omega arith }

pub returns-then-n-lt65536 : goal.returns-then-n-lt65536
unfolding utf8
returns-then-n-lt65536 c =
    let n = c.args.n in
    record {
      is = rw (le-ltb n 0x80 c.if-n-lt128.false, le-ltb n 0x800 c.if-n-lt2048.false, lt-ltb n 0x10000 c.if-n-lt65536.true);
      some = omega arith;
      most = omega arith;
    }

pub returns : goal.returns
unfolding utf8
returns c =
    let n = c.args.n in
    record {
      is = rw (le-ltb n 0x80 c.if-n-lt128.false, le-ltb n 0x800 c.if-n-lt2048.false, le-ltb n 0x10000 c.if-n-lt65536.false);
      some = omega arith;
      most = omega arith;
    }
