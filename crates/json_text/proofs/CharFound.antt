-- Where char_len counts bytes, the grammar has a char.
use mathlib.Core.Path.{◌≡◌, refl, sym, ◌∙◌, ap, subst}
use mathlib.Core.Bool.{Bool, true, false, ◌&&◌}
use mathlib.Core.List.{List, [], ◌∷◌}
use Prim.Native.Nat.{ℕ, zero, suc, ◌+◌, ◌≤◌, ◌<◌, suc-le-suc}
use native.Mathlib.Omega.{arith}
use lib.Dec.{ltb, eqb}
use lib.ListN.{length, drop}
use lib.Seq.{drop-cons}
use borrow.Author.Tests.{eqb-true}
use Rattle.json_text.specs.Bytes.{within, plain, tail, first_of_three, first_of_four, escape_of, hex_of, hex_four, is_scalar, is_high, is_low}
use Rattle.json_text.specs.Grammar.{Char, one, two, three, four, escaped, unicode, pair}
use Rattle.json_text.specs.Work.{byte_at, hex_at}
use Rattle.rules.proofs.Tests.{ff≢tt, and-true-left, and-true-right}
use Rattle.json_text.proofs.Tests.{and-false}

-- the list from its i-th byte on, with n of its bytes written out
abbrev bytes : ℕ → ℕ → List ℕ → List ℕ
bytes zero i s = drop i s
bytes (suc n) i s = byte_at s i ∷ bytes n (suc i) s

-- a byte that passes a test stands in the list
inside : (t : ℕ → Bool) (s : List ℕ) (i : ℕ) → t 256 ≡ false → t (byte_at s i) ≡ true → i < length s
inside t [] i n e = absurd (ff≢tt n e)
inside t (b ∷ s) zero n e = omega arith
inside t (b ∷ s) (suc i) n e = suc-le-suc (inside t s i n e)

split_from : (n i : ℕ) (s : List ℕ) → i + n ≤ length s → drop i s ≡ bytes n i s
split_from zero i s h = refl
split_from (suc n) i s h = drop-cons s i 256 (omega arith) ∙ ap (λ (l : List ℕ). byte_at s i ∷ l) (split_from n (suc i) s (omega arith))

split : (n : ℕ) (s : List ℕ) → n ≤ length s → s ≡ bytes n 0 s
split n s h = split_from n 0 s (omega arith)

-- no fourth digit, no number
no-hex : ltb (hex_of 256) 16 ≡ false
unfolding hex_of within
no-hex = refl

hex-short : (a b c : ℕ) → hex_four a b c 256 ≡ 65536
unfolding hex_four
hex-short a b c =
    rw
    (and-false (ltb (hex_of a) 16) (ltb (hex_of b) 16 && (ltb (hex_of c) 16 && ltb (hex_of 256) 16))
    (and-false (ltb (hex_of b) 16) (ltb (hex_of c) 16 && ltb (hex_of 256) 16)
    (and-false (ltb (hex_of c) 16) (ltb (hex_of 256) 16) no-hex)))

abbrev pub Found : List ℕ → ℕ → Type 0
Found s n = (x : List ℕ) × Char s x (drop n s)

found : (s t : List ℕ) (n : ℕ) (x : List ℕ) → s ≡ t → Char t x (drop n s) → Found s n
found s t n x e c = (x, subst (λ (l : List ℕ). Char l x (drop n s)) (sym e) c)

module _ (s : List ℕ) where
  pub found-one : plain (byte_at s 0) ≡ true → Found s 1
  unfolding plain within
  found-one e = found s _ 1 _ (split 1 s (inside plain s 0 refl e)) (one e)

  pub found-two : (within 0xC2 0xDF (byte_at s 0) && tail (byte_at s 1)) ≡ true → Found s 2
  unfolding tail within
  found-two e =
      found s _ 2 _ (split 2 s (inside tail s 1 refl (and-true-right (within 0xC2 0xDF (byte_at s 0)) (tail (byte_at s 1)) e))) (two e)

  pub found-three : (first_of_three (byte_at s 0) (byte_at s 1) && tail (byte_at s 2)) ≡ true → Found s 3
  unfolding tail within
  found-three e =
      found s _ 3 _ (split 3 s (inside tail s 2 refl (and-true-right (first_of_three (byte_at s 0) (byte_at s 1)) (tail (byte_at s 2)) e))) (three e)

  pub found-four : (first_of_four (byte_at s 0) (byte_at s 1) && (tail (byte_at s 2) && tail (byte_at s 3))) ≡ true → Found s 4
  unfolding tail within
  found-four e =
      let h = and-true-right (first_of_four (byte_at s 0) (byte_at s 1)) (tail (byte_at s 2) && tail (byte_at s 3)) e in
      found s _ 4 _ (split 4 s (inside tail s 3 refl (and-true-right (tail (byte_at s 2)) (tail (byte_at s 3)) h))) (four e)

  module _ (slash : eqb (byte_at s 0) 0x5C ≡ true) where
    pub found-escaped : ltb (escape_of (byte_at s 1)) 256 ≡ true → Found s 2
    unfolding escape_of
    found-escaped e =
        let h = split 2 s (inside (λ b. ltb (escape_of b) 256) s 1 refl e) in
        let q = eqb-true (byte_at s 0) 0x5C slash in
        let k : s ≡ 0x5C ∷ byte_at s 1 ∷ drop 2 s = cc in
        found s _ 2 _ k (escaped e)

    module _ (u : eqb (byte_at s 1) 0x75 ≡ true) where
      pub found-unicode : is_scalar (hex_at s 2) ≡ true → Found s 6
      unfolding is_scalar within
      found-unicode e =
          let f : ℕ → Bool = λ b. is_scalar (hex_four (byte_at s 2) (byte_at s 3) (byte_at s 4) b) in
          let n : f 256 ≡ false = rw (hex-short (byte_at s 2) (byte_at s 3) (byte_at s 4)) in
          let h = split 6 s (inside f s 5 n e) in
          let p = eqb-true (byte_at s 0) 0x5C slash in
          let q = eqb-true (byte_at s 1) 0x75 u in
          let k : s ≡ 0x5C ∷ 0x75 ∷ byte_at s 2 ∷ byte_at s 3 ∷ byte_at s 4 ∷ byte_at s 5 ∷ drop 6 s = cc in
          found s _ 6 _ k (unicode e)

      pub found-pair : (is_high (hex_at s 2) && (eqb (byte_at s 6) 0x5C && (eqb (byte_at s 7) 0x75 && is_low (hex_at s 8)))) ≡ true → Found s 12
      unfolding is_low within
      found-pair e =
          let g = is_high (hex_at s 2) in
          let low = is_low (hex_at s 8) in
          let e₁ = and-true-right g (eqb (byte_at s 6) 0x5C && (eqb (byte_at s 7) 0x75 && low)) e in
          let e₂ = and-true-right (eqb (byte_at s 6) 0x5C) (eqb (byte_at s 7) 0x75 && low) e₁ in
          let e₃ = and-true-right (eqb (byte_at s 7) 0x75) low e₂ in
          let f : ℕ → Bool = λ b. is_low (hex_four (byte_at s 8) (byte_at s 9) (byte_at s 10) b) in
          let n : f 256 ≡ false = rw (hex-short (byte_at s 8) (byte_at s 9) (byte_at s 10)) in
          let h = split 12 s (inside f s 11 n e₃) in
          let p = eqb-true (byte_at s 0) 0x5C slash in
          let q = eqb-true (byte_at s 1) 0x75 u in
          let p₂ = eqb-true (byte_at s 6) 0x5C (and-true-left (eqb (byte_at s 6) 0x5C) (eqb (byte_at s 7) 0x75 && low) e₁) in
          let q₂ = eqb-true (byte_at s 7) 0x75 (and-true-left (eqb (byte_at s 7) 0x75) low e₂) in
          let k :
          s ≡ 0x5C ∷ 0x75 ∷ byte_at s 2 ∷ byte_at s 3 ∷ byte_at s 4 ∷ byte_at s 5
          ∷ 0x5C ∷ 0x75 ∷ byte_at s 8 ∷ byte_at s 9 ∷ byte_at s 10 ∷ byte_at s 11 ∷ drop 12 s = cc in
          let both : (g && low) ≡ true =
          rw (and-true-left g (eqb (byte_at s 6) 0x5C && (eqb (byte_at s 7) 0x75 && low)) e) e₃ in
          found s _ 12 _ k (pair both)
