use mathlib.Core.Path.{◌≡◌, ap, ◌∙◌}
use mathlib.Core.List.{map}
use Prim.Native.Nat.{ℕ}
use native.Mathlib.Omega.{arith}
use Rattle.rules.specs.Lines.{message_of}
use Rattle.words.specs.Words.{over}
use Rattle.place.specs.Items.{items_in}
use Rattle.place.proofs.Items.{items-none, message-put}
use Rattle.place.proofs.put_messages.Goals as goal

pub loop-i-init : goal.loop-i-init
loop-i-init c = rw (items-none c.args.items.now)

pub loop-i-preserved : goal.loop-i-preserved
loop-i-preserved c = message-put _ _ _ c.loop-i.i (omega arith) c.loop-i.invariant

pub returns : goal.returns
returns c =
    let e : c.loop-i.i ≡ c.args.n = omega arith in
    c.loop-i.invariant ∙ ap (λ (j : ℕ). over (map message_of (items_in j c.args.items.now)) c.args.list.now) e
