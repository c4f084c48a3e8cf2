-- What the tests on bytes say, and that the ranges of first bytes are apart.
use mathlib.Core.Path.{◌≡◌, ap}
use mathlib.Core.List.{List, [], ◌∷◌}
use mathlib.Core.Bool.{Bool, true, false}
use Prim.Native.Nat.{ℕ, ◌≤◌, ◌<◌}
use native.Mathlib.Omega.{arith}
use lib.Dec.{eqb}
use lib.ListN.{drop}
use borrow.Author.Tests.{eqb-true, ne_eqb, le-ltb}
use Rattle.json_text.specs.Bytes.{within, plain, tail, first_of_three, first_of_four, is_scalar, is_high}
use Rattle.json_text.specs.Work.{byte_at}
use Rattle.rules.proofs.Tests.{and-true-left, and-true-right, by_cond}
use Rattle.json_text.proofs.Tests.{within_low, within-high, outside_high, outside_low}

-- a byte that the list begins with
pub byte-front : (s : List ℕ) (b : ℕ) → b < 256 → byte_at s 0 ≡ b → s ≡ b ∷ drop 1 s
byte-front [] b h e = absurd (omega arith)
byte-front (a ∷ s) b h e = ap (λ (c : ℕ). c ∷ s) e

pub plain-above : (b : ℕ) → 0x80 ≤ b → plain b ≡ false
unfolding plain
plain-above b h = rw (outside_high 0x20 0x7F b h)

-- the first of three bytes, and of four
pub three-first : (a b : ℕ) → first_of_three a b ≡ true → (0xE0 ≤ a) × (a ≤ 0xEF)
unfolding first_of_three
three-first a b =
    by_cond (λ (t : Bool). t ≡ true → (0xE0 ≤ a) × (a ≤ 0xEF)) (eqb a 0xE0)
    (λ e h. let q = eqb-true a 0xE0 e in (omega arith, omega arith))
    (λ n. by_cond (λ (t : Bool). t ≡ true → (0xE0 ≤ a) × (a ≤ 0xEF)) (eqb a 0xED)
    (λ e h. let q = eqb-true a 0xED e in (omega arith, omega arith))
    (λ m h. let l = within_low 0xE1 0xEF a (and-true-left (within 0xE1 0xEF a) (tail b) h) in
    let g = within-high 0xE1 0xEF a (and-true-left (within 0xE1 0xEF a) (tail b) h) in (omega arith, omega arith)))

pub four-first : (a b : ℕ) → first_of_four a b ≡ true → 0xF0 ≤ a
unfolding first_of_four
four-first a b =
    by_cond (λ (t : Bool). t ≡ true → 0xF0 ≤ a) (eqb a 0xF0)
    (λ e h. let q = eqb-true a 0xF0 e in omega arith)
    (λ n. by_cond (λ (t : Bool). t ≡ true → 0xF0 ≤ a) (eqb a 0xF4)
    (λ e h. let q = eqb-true a 0xF4 e in omega arith)
    (λ m h. let l = within_low 0xF1 0xF3 a (and-true-left (within 0xF1 0xF3 a) (tail b) h) in omega arith))

-- the second of three bytes, and of four
pub three-second : (a b : ℕ) → first_of_three a b ≡ true → 0x80 ≤ b
unfolding first_of_three tail
three-second a b =
    by_cond (λ (t : Bool). t ≡ true → 0x80 ≤ b) (eqb a 0xE0)
    (λ e h. omega (arith, within_low 0xA0 0xBF b h))
    (λ n. by_cond (λ (t : Bool). t ≡ true → 0x80 ≤ b) (eqb a 0xED)
    (λ e. within_low 0x80 0x9F b)
    (λ m h. within_low 0x80 0xBF b (and-true-right (within 0xE1 0xEF a) (tail b) h)))

pub four-second : (a b : ℕ) → first_of_four a b ≡ true → 0x80 ≤ b
unfolding first_of_four tail
four-second a b =
    by_cond (λ (t : Bool). t ≡ true → 0x80 ≤ b) (eqb a 0xF0)
    (λ e h. omega (arith, within_low 0x90 0xBF b h))
    (λ n. by_cond (λ (t : Bool). t ≡ true → 0x80 ≤ b) (eqb a 0xF4)
    (λ e. within_low 0x80 0x8F b)
    (λ m h. within_low 0x80 0xBF b (and-true-right (within 0xF1 0xF3 a) (tail b) h)))

pub above-three : (a b : ℕ) → 0xF0 ≤ a → first_of_three a b ≡ false
unfolding first_of_three
above-three a b h =
    rw (ne_eqb a 0xE0 (λ e. omega arith), ne_eqb a 0xED (λ e. omega arith), outside_high 0xE1 0xEF a h)

pub high_scalar : (n : ℕ) → is_high n ≡ true → is_scalar n ≡ false
unfolding is_high is_scalar
high_scalar n e =
    let l = within_low 0xD800 0xDBFF n e in
    let g = within-high 0xD800 0xDBFF n e in
    rw (le-ltb n 0xD800 l, outside_low 0xE000 0xFFFF n (omega arith))
