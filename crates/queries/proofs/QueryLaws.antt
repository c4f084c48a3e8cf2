-- From a view of a sound store to what it promises on any words.
use mathlib.Core.Path.{◌≡◌, refl, ap}
use mathlib.Core.List.{List}
use Prim.Native.Nat.{ℕ, ◌+◌, ◌≤◌, ◌<◌}
use native.Mathlib.Omega.{arith}
use lib.ListN.{length}
use borrow.Author.Tests.{lt-ltb, le-ltb}
use Rattle.rules.specs.declared.Limits.{Limits}
use Rattle.rules.specs.Refusals.{view, messages}
use Rattle.rules.specs.Answers.{refusal, value}
use Rattle.store.specs.Store.{limits_of, market_of, Sound}
use Rattle.store.proofs.MarketLaws.{market-limits}
use Rattle.output.specs.Output.{over}
use Rattle.promise.specs.Meets.{MeetsView}

pub view-short : (c : ℕ) (w v : List ℕ) → Sound w → length v < (limits_of w).H + 8 → MeetsView c w v (refusal 3) v
unfolding view
view-short c w v s h =
    let k = ap (λ (l : Limits). l.H) (market-limits w) in
    record { unsound = λ u. absurd (u s); sound = λ t. rw (lt-ltb (length v) ((market_of w).limits.H + 8) (omega arith)) (refl, refl) }

pub view-met : (c n : ℕ) (w v u : List ℕ) → Sound w → (limits_of w).H + 8 ≤ length v
    → (n ≡ length (messages c (market_of w))) × (u ≡ over (messages c (market_of w)) v) → MeetsView c w v (value n) u
unfolding view
view-met c n w v u s h p =
    let k = ap (λ (l : Limits). l.H) (market-limits w) in
    record { unsound = λ z. absurd (z s); sound = λ t. rw (le-ltb (length v) ((market_of w).limits.H + 8) (omega arith)) (ap value p.0, p.1) }
