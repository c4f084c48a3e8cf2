use borrow.Author.Rules.{rules}
use borrow.Author.Tests.{ne_eqb}
use mathlib.Core.Path.{◌≡◌}
use mathlib.Core.Bool.{false}
use native.Mathlib.Omega.{arith}
use lib.Dec.{eqb}
use lib.ListN.{drop}
use Rattle.json_text.specs.Work.{byte_at}
use Rattle.json_text.proofs.Places.{byte-here}
use Rattle.member_order.proofs.DecodeLaws.{decodes-front}
use Rattle.member_order.proofs.names.decode.Goals as goal

pub decode_escape-requires : goal.decode_escape-requires
decode_escape-requires c =
    let e = byte-here c.args.text.now c.args.at in
    (search rules, omega arith, search rules)

pub returns : goal.returns
returns c =
    let a = c.args in
    let t = a.text.now in
    let e = byte-here t a.at in
    let n : eqb (byte_at (drop a.at t) 0) 0x5C ≡ false = ne_eqb _ 0x5C (λ q. omega arith) in
    decodes-front t a.at _ n (search rules) (search rules)
    c.byte_of-b0.ensures c.byte_of-b1.ensures c.byte_of-b2.ensures c.byte_of-b3.ensures
