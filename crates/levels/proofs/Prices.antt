-- Which of two prices of a side is the better: an order, in which one of two that differ comes first.
use mathlib.Core.Path.{◌≡◌}
use mathlib.Core.Bool.{Bool, true, false}
use Prim.Native.Nat.{ℕ}
use native.Mathlib.Omega.{arith}
use borrow.Author.Tests.{ltb-true, ltb-false, lt-ltb, le-ltb}
use Rattle.levels.specs.Depth.{better}

pub better-over : (bid : Bool) (p q r : ℕ) → better bid p q ≡ true → better bid q r ≡ true → better bid p r ≡ true
better-over true p q r a b = lt-ltb r p (omega (arith, ltb-true q p a, ltb-true r q b))
better-over false p q r a b = lt-ltb p r (omega (arith, ltb-true p q a, ltb-true q r b))

pub better-self : (bid : Bool) (p : ℕ) → better bid p p ≡ false
better-self true p = le-ltb p p (omega arith)
better-self false p = le-ltb p p (omega arith)

pub better-back : (bid : Bool) (p q : ℕ) → better bid p q ≡ true → better bid q p ≡ false
better-back true p q a = le-ltb p q (omega (arith, ltb-true q p a))
better-back false p q a = le-ltb q p (omega (arith, ltb-true p q a))

-- of two prices that differ one is the better
pub better-other : (bid : Bool) (p q : ℕ) → better bid p q ≡ false → (p ≡ q → ⊥) → better bid q p ≡ true
better-other true p q a h = lt-ltb p q (omega (arith, ltb-false q p a, h))
better-other false p q a h = lt-ltb q p (omega (arith, ltb-false p q a, h))
