-- The seven kinds of a char, told by its first bytes: what char_len counts and what the char stands for are picked by one and the same tests.
use mathlib.Core.Path.{◌≡◌, refl}
use mathlib.Core.Bool.{true, ◌&&◌, cond}
use mathlib.Core.List.{List, [], ◌∷◌}
use Prim.Native.Nat.{ℕ}
use native.Mathlib.Omega.{arith}
use lib.Dec.{ltb, eqb}
use borrow.Author.Tests.{ne_eqb}
use Rattle.json_text.specs.Bytes.{within, plain, tail, first_of_three, first_of_four, escape_of, hex_four, is_scalar, is_high, is_low, joined, utf8}
use Rattle.json_text.specs.Grammar.{Char, one, two, three, four, escaped, unicode, pair}
use Rattle.json_text.specs.Work.{byte_at, hex_at, char_len, escape_len, pair_len, utf8_len}
use Rattle.rules.proofs.Tests.{and-true-left}
use Rattle.json_text.proofs.Tests.{within_low, outside_high}
use Rattle.json_text.proofs.ByteLaws.{plain-above, three-first, four-first, above-three, high_scalar}

pub data Kind : Type 0 where
  is_none is_one is-two is-three is-four is-escaped is-unicode is-pair : Kind

unfoldable pub pick : {A : Type 0} → (Kind → A) → List ℕ → A
pick f s =
    cond (plain (byte_at s 0)) (f is_one)
    (cond (eqb (byte_at s 0) 0x5C)
    (cond (ltb (escape_of (byte_at s 1)) 256) (f is-escaped)
    (cond (eqb (byte_at s 1) 0x75)
    (cond (is_scalar (hex_at s 2)) (f is-unicode)
    (cond (is_high (hex_at s 2) && (eqb (byte_at s 6) 0x5C && (eqb (byte_at s 7) 0x75 && is_low (hex_at s 8)))) (f is-pair) (f is_none)))
    (f is_none)))
    (cond (within 0xC2 0xDF (byte_at s 0) && tail (byte_at s 1)) (f is-two)
    (cond (first_of_three (byte_at s 0) (byte_at s 1) && tail (byte_at s 2)) (f is-three)
    (cond (first_of_four (byte_at s 0) (byte_at s 1) && (tail (byte_at s 2) && tail (byte_at s 3))) (f is-four)
    (f is_none)))))

abbrev pub kind_of : {s x r : List ℕ} → Char s x r → Kind
kind_of (one h) = is_one
kind_of (two h) = is-two
kind_of (three h) = is-three
kind_of (four h) = is-four
kind_of (escaped h) = is-escaped
kind_of (unicode h) = is-unicode
kind_of (pair h) = is-pair

module _ {A : Type 0} (f : Kind → A) where
  two-kind : (a b : ℕ) (r : List ℕ) → (within 0xC2 0xDF a && tail b) ≡ true → pick f (a ∷ b ∷ r) ≡ f is-two
  unfolding pick
  two-kind a b r h =
      let l = within_low 0xC2 0xDF a (and-true-left (within 0xC2 0xDF a) (tail b) h) in
      rw (plain-above a (omega arith), ne_eqb a 0x5C (λ e. omega arith), h)

  three-kind : (a b c : ℕ) (r : List ℕ) → (first_of_three a b && tail c) ≡ true → pick f (a ∷ b ∷ c ∷ r) ≡ f is-three
  unfolding pick
  three-kind a b c r h =
      let l = three-first a b (and-true-left (first_of_three a b) (tail c) h) in
      rw (plain-above a (omega arith), ne_eqb a 0x5C (λ e. omega arith), outside_high 0xC2 0xDF a (omega arith), h)

  four-kind : (a b c d : ℕ) (r : List ℕ) → (first_of_four a b && (tail c && tail d)) ≡ true → pick f (a ∷ b ∷ c ∷ d ∷ r) ≡ f is-four
  unfolding pick
  four-kind a b c d r h =
      let l = four-first a b (and-true-left (first_of_four a b) (tail c && tail d) h) in
      rw (plain-above a (omega arith), ne_eqb a 0x5C (λ e. omega arith), outside_high 0xC2 0xDF a (omega arith), above-three a b l, h)

  pair-kind :
      (a b c d e g h i : ℕ) (r : List ℕ) →
      (is_high (hex_four a b c d) && is_low (hex_four e g h i)) ≡ true →
      pick f (0x5C ∷ 0x75 ∷ a ∷ b ∷ c ∷ d ∷ 0x5C ∷ 0x75 ∷ e ∷ g ∷ h ∷ i ∷ r) ≡ f is-pair
  unfolding pick plain within escape_of
  pair-kind a b c d e g h i r k =
      let l = and-true-left (is_high (hex_four a b c d)) (is_low (hex_four e g h i)) k in
      rw (high_scalar (hex_four a b c d) l, k)

  pub picked : {s x r : List ℕ} (c : Char s x r) → pick f s ≡ f (kind_of c)
  unfolding pick plain within escape_of
  picked (one h) = rw h
  picked (two {a} {b} {r} h) = two-kind a b r h
  picked (three {a} {b} {c} {r} h) = three-kind a b c r h
  picked (four {a} {b} {c} {d} {r} h) = four-kind a b c d r h
  picked (escaped h) = rw h
  picked (unicode h) = rw h
  picked (pair {a} {b} {c} {d} {e} {f = i} {g} {h} {r} k) = pair-kind a b c d e i g h r k

abbrev pub len_of : Kind → ℕ
len_of is_none = 0
len_of is_one = 1
len_of is-two = 2
len_of is-three = 3
len_of is-four = 4
len_of is-escaped = 2
len_of is-unicode = 6
len_of is-pair = 12

-- what a char of a kind stands for
abbrev pub text_of : List ℕ → Kind → List ℕ
text_of s is_none = []
text_of s is_one = byte_at s 0 ∷ []
text_of s is-two = byte_at s 0 ∷ byte_at s 1 ∷ []
text_of s is-three = byte_at s 0 ∷ byte_at s 1 ∷ byte_at s 2 ∷ []
text_of s is-four = byte_at s 0 ∷ byte_at s 1 ∷ byte_at s 2 ∷ byte_at s 3 ∷ []
text_of s is-escaped = escape_of (byte_at s 1) ∷ []
text_of s is-unicode = utf8 (hex_at s 2)
text_of s is-pair = utf8 (joined (hex_at s 2) (hex_at s 8))

pub len-picked : (s : List ℕ) → char_len s ≡ pick len_of s
unfolding pick char_len escape_len pair_len utf8_len
len-picked s = refl

pub text-kind : {s x r : List ℕ} (c : Char s x r) → text_of s (kind_of c) ≡ x
text-kind (one h) = refl
text-kind (two h) = refl
text-kind (three h) = refl
text-kind (four h) = refl
text-kind (escaped h) = refl
text-kind (unicode h) = refl
text-kind (pair h) = refl
