-- Tests on bytes, taken apart, and what a call's answer says of one.
use Rattle.std.specs.Prelude.{None, Option, Some}
use mathlib.Core.Path.{◌≡◌, refl, sym, ◌∙◌, ap}
use mathlib.Core.Bool.{Bool, true, false, ◌&&◌}
use Prim.Native.Nat.{ℕ, ◌≤◌, ◌<◌}
use borrow.Author.Tests.{leb-true, le-leb, lt-leb}
use lib.Dec.{leb}
use Rattle.json_text.specs.Bytes.{within, is_digit}
use Rattle.rules.proofs.Tests.{and-true-left, and-true-right, none≢some}

pub same : {A : Type 0} {x y : A} → Some x ≡ Some y → x ≡ y
same e = cc

pub no-some : {A B : Type 0} {x : A} → ◌≡◌ {A = Option A} None (Some x) → B
no-some e = absurd (none≢some e)

pub and-true : (a b : Bool) → (a && b) ≡ true → (a ≡ true) × (b ≡ true)
and-true a b h = (and-true-left a b h, and-true-right a b h)

pub and-false : (a b : Bool) → b ≡ false → (a && b) ≡ false
and-false true b e = e
and-false false b e = refl

pub within_low : (low high b : ℕ) → within low high b ≡ true → low ≤ b
unfolding within
within_low low high b h = leb-true low b (and-true-left (leb low b) (leb b high) h)

pub within-high : (low high b : ℕ) → within low high b ≡ true → b ≤ high
unfolding within
within-high low high b h = leb-true b high (and-true-right (leb low b) (leb b high) h)

-- a digit is no byte below 30 or above 39
pub digit_low : (b : ℕ) → is_digit b ≡ true → 0x30 ≤ b
unfolding is_digit
digit_low b h = within_low 0x30 0x39 b h

pub digit-high : (b : ℕ) → is_digit b ≡ true → b ≤ 0x39
unfolding is_digit
digit-high b h = within-high 0x30 0x39 b h

pub inside : (low high b : ℕ) → low ≤ b → b ≤ high → within low high b ≡ true
unfolding within
inside low high b h k = rw (le-leb low b h, le-leb b high k)

pub outside_low : (low high b : ℕ) → b < low → within low high b ≡ false
unfolding within
outside_low low high b h = rw (lt-leb low b h)

pub outside_high : (low high b : ℕ) → high < b → within low high b ≡ false
unfolding within
outside_high low high b h = go (leb low b)
  where
    go : (x : Bool) → (x && leb b high) ≡ false
    go true = lt-leb b high h
    go false = refl

pub not_digit : (b : ℕ) → 0x39 < b → is_digit b ≡ false
unfolding is_digit
not_digit b h = outside_high 0x30 0x39 b h

-- what a call's answer r says of a test f at the value y that the call's argument x has
pub test_of : {A : Type 0} (f : A → Bool) {x y : A} {r b : Bool} → r ≡ f x → x ≡ y → r ≡ b → f y ≡ b
test_of f p q e = sym (ap f q) ∙ sym p ∙ e

pub test-of-two :
    {A B : Type 0} (f : A → B → Bool) {x y : A} {z w : B} {r b : Bool} → r ≡ f x z → x ≡ y → z ≡ w → r ≡ b → f y w ≡ b
test-of-two f p q s e = cc
