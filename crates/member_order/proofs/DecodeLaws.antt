-- What a char stands for, by the kind of its first byte, and the bytes of a decoded char.
use mathlib.Core.Path.{◌≡◌, refl, sym, ◌∙◌, ap}
use mathlib.Core.Bool.{Bool, true, false, ◌&&◌, cond}
use mathlib.Core.List.{List, [], ◌∷◌}
use Prim.Native.Nat.{ℕ, zero, suc, ◌+◌, ◌-◌, ◌*◌, ◌≤◌, ◌<◌}
use native.Mathlib.Omega.{arith}
use borrow.Author.Tests.{ltb-true, lt-ltb}
use lib.Dec.{ltb, eqb}
use lib.ListN.{length, take, drop, length-take, length-drop}
use Rattle.json_text.specs.Bytes.{within, plain, tail, first_of_three, first_of_four, escape_of, is_scalar, is_high, is_low, joined, utf8}
use Rattle.json_text.specs.Work.{Below, byte_at, hex_at, pair_len, escape_len, utf8_len, char_len}
use Rattle.json_text.proofs.Bounds.{byte-drop}
use Rattle.json_text.proofs.CharSteps.{char-fits}
use Rattle.json_text.proofs.Lengths.{hex-drop}
use Rattle.std.specs.Prelude.{Option, Some, None, IsSome}
use Rattle.json_text.proofs.Places.{byte-here}
use Rattle.json_text.proofs.Tests.{within_low, within-high}
use Rattle.rules.proofs.Tests.{ff≢tt, by_cond, and-true-left, and-true-right}
use Rattle.member_order.specs.declared.names.Decoded.{Decoded}
use Rattle.member_order.specs.Names.{escape_text, char_text, Decodes}

-- a length that is picked by a test
some-true : (b : Bool) (n : ℕ) → 0 < cond b n 0 → b ≡ true
some-true true n h = refl
some-true false n h = absurd (omega arith)

some-picked : (b : Bool) (n : ℕ) → 0 < cond b n 0 → 0 < n
some-picked true n h = h
some-picked false n h = absurd (omega arith)

plain-front : (s : List ℕ) → plain (byte_at s 0) ≡ true → byte_at s 0 ∷ [] ≡ take 1 s
unfolding plain within
plain-front [] e = absurd (ff≢tt refl e)
plain-front (b ∷ s) e = refl

pub scalar-small : (n : ℕ) → is_scalar n ≡ true → n < 0x110000
unfolding is_scalar
scalar-small n h = go (ltb n 0xD800) refl h
  where
    go : (b : Bool) → ltb n 0xD800 ≡ b → is_scalar n ≡ true → n < 0x110000
    go true e k = omega (arith, ltb-true n 0xD800 e)
    go false e k = omega (arith, within-high 0xE000 0xFFFF n (rw e at k))

-- the two halves of a pair
pub record Halves (high low : ℕ) : Type 0 where
  pub high-low : 0xD800 ≤ high
  pub high-high : high ≤ 0xDBFF
  pub low-low : 0xDC00 ≤ low
  pub low-high : low ≤ 0xDFFF

module _ (s : List ℕ) (e : byte_at s 0 ≡ 0x5C) where
  pub escape-text : char_text s ≡ escape_text s
  unfolding char_text plain within
  escape-text = rw e

  module _ (n : ltb (escape_of (byte_at s 1)) 256 ≡ false) (m : is_scalar (hex_at s 2) ≡ false) (h : 0 < char_len s) where
    pair-told : (is_high (hex_at s 2) && (eqb (byte_at s 6) 0x5C && (eqb (byte_at s 7) 0x75 && is_low (hex_at s 8)))) ≡ true
    unfolding char_len escape_len pair_len plain within
    pair-told = some-true _ 12 (some-picked (eqb (byte_at s 1) 0x75) _ (rw (e, n, m) at h))

    pub pair-halves : Halves (hex_at s 2) (hex_at s 8)
    unfolding is_high is_low
    pair-halves =
        let high : within 0xD800 0xDBFF (hex_at s 2) ≡ true = and-true-left (is_high (hex_at s 2)) _ pair-told in
        let low : within 0xDC00 0xDFFF (hex_at s 8) ≡ true =
        and-true-right (eqb (byte_at s 7) 0x75) _ (and-true-right (eqb (byte_at s 6) 0x5C) _ (and-true-right (is_high (hex_at s 2)) _ pair-told)) in
        record {
          high-low = within_low 0xD800 0xDBFF _ high;
          high-high = within-high 0xD800 0xDBFF _ high;
          low-low = within_low 0xDC00 0xDFFF _ low;
          low-high = within-high 0xDC00 0xDFFF _ low;
        }

-- an escape at a place, by what is read of it: behind the backslash b, and two numbers of four digits each
module _
    (t : List ℕ) (at b : ℕ) (e : byte_at (drop at t) 0 ≡ 0x5C) (h : 0 < char_len (drop at t)) (p : b ≡ byte_at t (at + 1))
  where
    stands : escape_of (byte_at (drop at t) 1) ≡ escape_of b
    stands = ap escape_of (byte-drop at t 1 ∙ sym p)

    pub reads-one : {d : Decoded} (n : ℕ) → escape_of b ≡ n → n < 256 → Decodes (n ∷ []) d → Decodes (escape_text (drop at t)) d
    unfolding escape_text
    reads-one n q l z = let u = stands ∙ q in rw (u, lt-ltb n 256 l) z

    module _ (n : escape_of b ≡ 256) where
      none : ltb (escape_of (byte_at (drop at t) 1)) 256 ≡ false
      none = let u = stands ∙ n in rw u

      pub first-digits : (r : Option ℕ) → Below 65536 (hex_at t (at + 2)) r → IsSome r
      unfolding is_scalar within
      first-digits (Some x) k = refl
      first-digits None k =
          let q : hex_at (drop at t) 2 ≡ 65536 = hex-drop t at 2 ∙ k in
          let m : is_scalar (hex_at (drop at t) 2) ≡ false = rw q in
          absurd (omega (arith, q, (pair-halves (drop at t) e none m h).high-high))

      module _ (x : ℕ) (i : hex_at t (at + 2) ≡ x) where
        first-is : hex_at (drop at t) 2 ≡ x
        first-is = hex-drop t at 2 ∙ i

        pub reads-scalar : {d : Decoded} → is_scalar x ≡ true → Decodes (utf8 x) d → Decodes (escape_text (drop at t)) d
        unfolding escape_text
        reads-scalar m z = rw (none, first-is, m) z

        module _ (m : is_scalar x ≡ false) where
          halved : Halves (hex_at (drop at t) 2) (hex_at (drop at t) 8)
          halved = pair-halves (drop at t) e none (rw first-is m) h

          pub second-digits : (r : Option ℕ) → Below 65536 (hex_at t (at + 8)) r → IsSome r
          second-digits (Some y) k = refl
          second-digits None k = absurd (omega (arith, hex-drop t at 8, k, halved.low-high))

          module _ (y : ℕ) (j : hex_at t (at + 8) ≡ y) where
            pub halves-read : Halves x y
            halves-read = let q = hex-drop t at 8 ∙ j in rw (← first-is, ← q) halved

            pub reads-pair : {d : Decoded} → Decodes (utf8 (0x10000 + (x - 0xD800) * 0x400 + (y - 0xDC00))) d → Decodes (escape_text (drop at t)) d
            unfolding escape_text joined
            reads-pair z = let q = hex-drop t at 8 ∙ j in rw (none, first-is, m, q) z

-- what an escape decodes to is what the char stands for
pub decodes-escape : (t : List ℕ) (at : ℕ) (d : Decoded) → byte_at t at ≡ 0x5C → Decodes (escape_text (drop at t)) d → Decodes (char_text (drop at t)) d
decodes-escape t at d e h = rw (escape-text (drop at t) (byte-here t at ∙ e)) h

pub ruleset decode_rules = (decodes-escape)

-- a char that is no escape: itself, of at most four bytes
module _ (s : List ℕ) (n : eqb (byte_at s 0) 0x5C ≡ false) where
  pub other_text : char_text s ≡ take (char_len s) s
  unfolding char_text char_len
  other_text = go (plain (byte_at s 0)) refl
    where
      go : (b : Bool) → plain (byte_at s 0) ≡ b → char_text s ≡ take (char_len s) s
      go true e = rw e (plain-front s e)
      go false e = rw (e, n)

  pub other-short : char_len s ≤ 4
  unfolding char_len utf8_len
  other-short =
      by_cond Short (plain (byte_at s 0)) (λ e. omega arith)
      (λ e. rw n
      (by_cond Short (within 0xC2 0xDF (byte_at s 0) && tail (byte_at s 1)) (λ e. omega arith)
      (λ e. by_cond Short (first_of_three (byte_at s 0) (byte_at s 1) && tail (byte_at s 2)) (λ e. omega arith)
      (λ e. by_cond Short (first_of_four (byte_at s 0) (byte_at s 1) && (tail (byte_at s 2) && tail (byte_at s 3))) (λ e. omega arith)
      (λ e. omega arith)))))
    where
      Short : ℕ → Type 0
      Short k = k ≤ 4

-- two lists with the same first bytes
pub same-front :
    (n : ℕ) (x y : List ℕ) → n ≤ length x → n ≤ length y → ((i : ℕ) → i < n → byte_at x i ≡ byte_at y i) → take n x ≡ take n y
same-front zero x y h k e = refl
same-front (suc n) [] y h k e = absurd (omega arith)
same-front (suc n) (a ∷ x) [] h k e = absurd (omega arith)
same-front (suc n) (a ∷ x) (b ∷ y) h k e =
    cc (e 0 (omega arith), same-front n x y (omega arith) (omega arith) (λ i l. e (suc i) (omega arith)))

-- the bytes of a decoded char
module _ {x : List ℕ} {d : Decoded} (h : Decodes x d) where
  pub decoded-length : length x ≡ d.len
  decoded-length =
      let m = h.most in
      omega (arith, ap length h.is, length-take d.len (d.b0 ∷ d.b1 ∷ d.b2 ∷ d.b3 ∷ []))

-- a char that is no escape, from the bytes that are read at its place
module _ (t : List ℕ) (at n : ℕ) (e : eqb (byte_at (drop at t) 0) 0x5C ≡ false) (l : n ≡ char_len (drop at t)) (p : 0 < n) where
  read_here : (i : ℕ) {b : ℕ} → (i < n → at + i < length t → b ≡ byte_at t (at + i)) → i < n → b ≡ byte_at (drop at t) i
  read_here i f h = f h (omega (arith, char-fits (drop at t), length-drop at t)) ∙ sym (byte-drop at t i)

  pub decodes-front :
      {a b c d : ℕ} →
      (0 < n → at + 0 < length t → a ≡ byte_at t (at + 0)) →
      (1 < n → at + 1 < length t → b ≡ byte_at t (at + 1)) →
      (2 < n → at + 2 < length t → c ≡ byte_at t (at + 2)) →
      (3 < n → at + 3 < length t → d ≡ byte_at t (at + 3)) →
      Decodes (char_text (drop at t)) (record { b0 = a; b1 = b; b2 = c; b3 = d; len = n })
  decodes-front {a} {b} {c} {d} f g h k =
      record {
        is =
            same-front n (a ∷ b ∷ c ∷ d ∷ []) (drop at t) short (omega (arith, char-fits (drop at t))) each
            ∙ (ap (λ (m : ℕ). take m (drop at t)) l ∙ sym (other_text (drop at t) e));
        some = p;
        most = short;
      }
    where
      short : n ≤ 4
      short = omega (arith, other-short (drop at t) e)

      each : (i : ℕ) → i < n → byte_at (a ∷ b ∷ c ∷ d ∷ []) i ≡ byte_at (drop at t) i
      each zero q = read_here 0 f q
      each (suc zero) q = read_here 1 g q
      each (suc (suc zero)) q = read_here 2 h q
      each (suc (suc (suc zero))) q = read_here 3 k q
      each (suc (suc (suc (suc i)))) q = absurd (omega (arith, short))
