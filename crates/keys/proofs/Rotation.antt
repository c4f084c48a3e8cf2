-- The two shifted parts of a word have no bit in common, so they join to the turned word.
use Rattle.std.proofs.Common.{◌≡◌, ℕ, ◌+◌, ◌-◌, ◌*◌, ◌/◌, ◌%◌, ◌^◌, ◌<◌, sym, ap, ◌∙◌, subst, add-zero, arith, pow_pos, pow-add, shr_lt}
use native.Mathlib.Nat.{mul-mod_left}
use lib.Arith.{mod-mul}
use lib.Pow.{shl-shr}
use lib.Bits.{bit_or, or_shifted}
use Rattle.keys.specs.Sip.{rotated}

pub or-rotated : (x k : ℕ) → k < 64 → x < 2 ^ 64 → bit_or ((x * 2 ^ k) % 2 ^ 64) (x / 2 ^ (64 - k)) ≡ rotated x k
unfolding rotated
or-rotated x k h f =
    let e : (64 - k) + k ≡ 64 = omega arith in
    let e' : k + (64 - k) ≡ 64 = omega arith in
    let p : 2 ^ (64 - k) * 2 ^ k ≡ 2 ^ 64 = sym (pow-add 2 (64 - k) k) ∙ ap (λ (n : ℕ). 2 ^ n) e in
    let m : (x * 2 ^ k) % 2 ^ 64 ≡ (x % 2 ^ (64 - k)) * 2 ^ k =
    ap (λ (n : ℕ). (x * 2 ^ k) % n) (sym p) ∙ mod-mul (x * 2 ^ k) (pow_pos (64 - k)) (pow_pos k) ∙ simp (shl-shr, mul-mod_left, add-zero) in
    let l : x / 2 ^ (64 - k) < 2 ^ k = shr_lt k (64 - k) (subst (λ (n : ℕ). x < 2 ^ n) (sym e') f) in
    subst (λ (y : ℕ). bit_or y (x / 2 ^ (64 - k)) ≡ y + x / 2 ^ (64 - k)) (sym m) (or_shifted (x % 2 ^ (64 - k)) k (x / 2 ^ (64 - k)) l)
