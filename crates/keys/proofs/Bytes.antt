-- Laws of bytes as a number.
use Rattle.std.proofs.Common.{◌≡◌, ℕ, zero, suc, ◌+◌, ◌-◌, ◌*◌, ◌^◌, ◌<◌, ◌≤◌, List, [], ◌∷◌, ◌++◌, length, get_or, take, drop, replicate, sym, ap, ◌∙◌, lt_of_lt_of_le, mul_assoc, mul_comm, add-one, arith, drop-cons, pow_pos, pow_mono, pow-add}
use lib.Seq.{drop-length}
use Rattle.keys.specs.Sip.{little_endian}

cons-at : (s : List ℕ) (k j : ℕ) → k + 1 ≡ j → k < length s → drop k s ≡ get_or s k 0 ∷ drop j s
cons-at s k j e h = drop-cons s k 0 h ∙ ap (λ (n : ℕ). get_or s k 0 ∷ drop n s) (sym (add-one k) ∙ e)

four-at : (s : List ℕ) (at : ℕ) → at + 4 ≤ length s → drop at s ≡ get_or s at 0 ∷ get_or s (at + 1) 0 ∷ get_or s (at + 2) 0 ∷ get_or s (at + 3) 0 ∷ drop (at + 4) s
four-at s at h =
    rw (
      cons-at s at (at + 1) (omega arith) (omega arith),
      cons-at s (at + 1) (at + 2) (omega arith) (omega arith),
      cons-at s (at + 2) (at + 3) (omega arith) (omega arith),
      cons-at s (at + 3) (at + 4) (omega arith) (omega arith),
    )

pub four_bytes : (s : List ℕ) (at : ℕ) → at + 4 ≤ length s
    → little_endian (take 4 (drop at s)) ≡ get_or s at 0 + get_or s (at + 1) 0 * 0x100 + get_or s (at + 2) 0 * 0x1_0000 + get_or s (at + 3) 0 * 0x100_0000
unfolding little_endian
four_bytes s at h = rw (four-at s at h) (omega arith)

pub eight-bytes : (s : List ℕ) (at : ℕ) → at + 8 ≤ length s
    → little_endian (take 8 (drop at s)) ≡ little_endian (take 4 (drop at s)) + little_endian (take 4 (drop (at + 4) s)) * 0x1_0000_0000
unfolding little_endian
eight-bytes s at h = rw (four-at s at (omega arith)) (omega arith)

pub le-append : (a b : List ℕ) → little_endian (a ++ b) ≡ little_endian a + 2 ^ (8 * length a) * little_endian b
unfolding little_endian
le-append [] b = omega arith
le-append (x ∷ a) b =
    let p : 2 ^ (8 * suc (length a)) ≡ 2 ^ (8 * length a) * 256 = ap (λ (n : ℕ). 2 ^ n) (omega arith) ∙ pow-add 2 (8 * length a) 8 in
    rw (le-append a b, p) (omega (arith, mul_assoc (2 ^ (8 * length a)) 256 (little_endian b), mul_comm 256 (little_endian b), mul_assoc (2 ^ (8 * length a)) (little_endian b) 256))

pub le-zeros : (n b : ℕ) → little_endian (replicate n 0 ++ (b ∷ [])) ≡ 2 ^ (8 * n) * b
unfolding little_endian
le-zeros zero b = omega arith
le-zeros (suc n) b =
    let p : 2 ^ (8 * suc n) ≡ 256 * 2 ^ (8 * n) = ap (λ (m : ℕ). 2 ^ m) (omega arith) ∙ pow-add 2 8 (8 * n) in
    rw (le-zeros n b, p) (omega (arith, mul_assoc 256 (2 ^ (8 * n)) b))

-- the bytes of s from k on, taken from the end, are the number w
pub record Taken (s : List ℕ) (k w : ℕ) : Type 0 where
  pub inside : k ≤ length s
  pub is : w ≡ little_endian (drop k s)
  pub below : w < 2 ^ (8 * (length s - k))

pub taken_none : (s : List ℕ) → Taken s (length s) 0
unfolding little_endian
taken_none s = record { inside = omega arith; is = rw drop-length; below = pow_pos (8 * (length s - length s)) }

pub taken_more : (s : List ℕ) (k w b : ℕ) → Taken s k w → 0 < k → b ≡ get_or s (k - 1) 0 → b < 256 → Taken s (k - 1) (w * 256 + b)
unfolding little_endian
taken_more s k w b t h e l =
    let n : 8 * (length s - (k - 1)) ≡ 8 * (length s - k) + 8 = omega arith in
    let p : 2 ^ (8 * (length s - (k - 1))) ≡ 2 ^ (8 * (length s - k)) * 256 = ap (λ (m : ℕ). 2 ^ m) n ∙ pow-add 2 (8 * (length s - k)) 8 in
    record {
      inside = omega arith;
      is = rw (cons-at s (k - 1) k (omega arith) (omega arith)) (omega arith);
      below = omega arith;
    }

pub taken-below : (s : List ℕ) (k w j : ℕ) → Taken s k w → length s - k ≤ j → w < 2 ^ (8 * j)
taken-below s k w j t h = lt_of_lt_of_le t.below (pow_mono {i = 8 * (length s - k)} {j = 8 * j} (omega arith))
