-- Which numbers the rule has, from what their digits write.
use mathlib.Core.Path.{◌≡◌, refl, sym, ◌∙◌, ap}
use mathlib.Core.Bool.{cond, Bool, true, false, ◌&&◌, and-false}
use mathlib.Core.List.{List, ◌∷◌}
use Prim.Native.Nat.{ℕ, ◌+◌, ◌-◌, ◌^◌, ◌≤◌, ◌<◌}
use native.Mathlib.Omega.{arith}
use borrow.Author.Tests.{ltb-false, lt-leb, ne_eqb}
use lib.Dec.{leb, ltb}
use lib.ListN.{length, take, drop, get_or}
use Rattle.std.specs.Prelude.{Option, Some, None, is_some}
use Rattle.json_text.specs.Bytes.{within}
use Rattle.json_text.specs.Refusals.{all_digits, decimal, allowed}
use Rattle.json_text.specs.Work.{byte_at, decimal_of}
use Rattle.json_text.proofs.Bounds.{byte-at}
use Rattle.json_text.proofs.DecimalLaws.{part-on}
use Rattle.std.proofs.lemmas.Bool.Decides.{nat_tests}

-- a run of digits that writes n
pub record Written (x : List ℕ) (n : ℕ) : Type 0 where
  pub digits : all_digits x ≡ true
  pub fits : ltb (decimal 0 x) (2 ^ 64) ≡ true
  pub value : decimal 0 x ≡ n

pub number-written : (x : List ℕ) (n : ℕ) → decimal_of x ≡ Some n → Written x n
unfolding decimal_of
number-written x n h = go (all_digits x) refl (ltb (decimal 0 x) (2 ^ 64)) refl h
  where
    go :
        (a : Bool) → all_digits x ≡ a → (b : Bool) → ltb (decimal 0 x) (2 ^ 64) ≡ b
        → cond (a && b) (Some (decimal 0 x)) None ≡ Some n → Written x n
    go true p true q k = record { digits = p; fits = q; value = cc }
    go true p false q k = let z : ◌≡◌ {A = ℕ} 0 1 = cc in absurd (omega arith)
    go false p b q k = let z : ◌≡◌ {A = ℕ} 0 1 = cc in absurd (omega arith)

pub outside-written : (x : List ℕ) → decimal_of x ≡ None → (all_digits x && ltb (decimal 0 x) (2 ^ 64)) ≡ false
unfolding decimal_of
outside-written x h = go (all_digits x && ltb (decimal 0 x) (2 ^ 64)) h
  where
    go : (a : Bool) → cond a (Some (decimal 0 x)) None ≡ None → a ≡ false
    go true k = let z : ◌≡◌ {A = ℕ} 0 1 = cc in absurd (omega arith)
    go false k = refl

-- behind a minus
minus_number : (x : List ℕ) (n : ℕ) → decimal_of x ≡ Some n → allowed (0x2D ∷ x) ≡ within 1 (2 ^ 63) n
unfolding allowed
minus_number x n h = let w = number-written x n h in rw (w.digits, w.value)

minus-outside : (x : List ℕ) → decimal_of x ≡ None → allowed (0x2D ∷ x) ≡ false
unfolding allowed within
minus-outside x h = go (all_digits x) (ltb (decimal 0 x) (2 ^ 64)) refl (outside-written x h)
  where
    go :
        (a b : Bool) → ltb (decimal 0 x) (2 ^ 64) ≡ b → (a && b) ≡ false
        → (a && (leb 1 (decimal 0 x) && leb (decimal 0 x) (2 ^ 63))) ≡ false
    go false b p k = refl
    go true true p k = let z : ◌≡◌ {A = ℕ} 0 1 = cc in absurd (omega arith)
    go true false p k = rw (lt-leb (decimal 0 x) (2 ^ 63) (omega (arith, ltb-false (decimal 0 x) (2 ^ 64) p)), and-false (leb 1 (decimal 0 x)))

-- without one
other-number : (b : ℕ) (x : List ℕ) (n : ℕ) → (b ≡ 0x2D → ⊥) → decimal_of (b ∷ x) ≡ Some n → allowed (b ∷ x) ≡ true
unfolding allowed
other-number b x n m h = let w = number-written (b ∷ x) n h in rw (ne_eqb b 0x2D m, w.digits, w.fits)

other-outside : (b : ℕ) (x : List ℕ) → (b ≡ 0x2D → ⊥) → decimal_of (b ∷ x) ≡ None → allowed (b ∷ x) ≡ false
unfolding allowed
other-outside b x m h = rw (ne_eqb b 0x2D m, outside-written (b ∷ x) h)

-- between two places of a text
module _ (t : List ℕ) (from to : ℕ) (h : from < to) (k : to ≤ length t) where
  front : get_or t from 0 ≡ byte_at t from
  front = byte-at t from (omega arith)

  minus-part : get_or t from 0 ≡ 0x2D → take (to - from) (drop from t) ≡ 0x2D ∷ take (to - (from + 1)) (drop (from + 1) t)
  minus-part m = part-on t from to h k ∙ ap (λ (b : ℕ). b ∷ take (to - (from + 1)) (drop (from + 1) t)) (sym front ∙ m)

  module _ (m : get_or t from 0 ≡ 0x2D) where
    pub minus-within :
        (n : ℕ) → decimal_of (take (to - (from + 1)) (drop (from + 1) t)) ≡ Some n → allowed (take (to - from) (drop from t)) ≡ within 1 (2 ^ 63) n
    minus-within n d = ap allowed (minus-part m) ∙ minus_number _ n d

    pub minus-refused :
        decimal_of (take (to - (from + 1)) (drop (from + 1) t)) ≡ None → allowed (take (to - from) (drop from t)) ≡ false
    minus-refused d = ap allowed (minus-part m) ∙ minus-outside _ d

  module _ (m : get_or t from 0 ≡ 0x2D → ⊥) where
    no_minus : byte_at t from ≡ 0x2D → ⊥
    no_minus e = m (front ∙ e)

    pub digits_allowed : allowed (take (to - from) (drop from t)) ≡ is_some (decimal_of (take (to - from) (drop from t)))
    digits_allowed = rw (part-on t from to h k) (go (decimal_of (byte_at t from ∷ rest)) refl)
      where
        rest : List ℕ
        rest = take (to - (from + 1)) (drop (from + 1) t)

        go : (d : Option ℕ) → decimal_of (byte_at t from ∷ rest) ≡ d → allowed (byte_at t from ∷ rest) ≡ is_some (decimal_of (byte_at t from ∷ rest))
        go (Some n) e = rw e (other-number _ _ n no_minus e)
        go None e = rw e (other-outside _ _ no_minus e)

-- what a minus and a run of digits say, by what the digits write
pub behind_minus : Option ℕ → Bool
behind_minus (Some n) = leb 1 n && leb n (2 ^ 63)
behind_minus None = false

pub behind_number : (n : ℕ) → behind_minus (Some n) ≡ (leb 1 n && leb n (2 ^ 63))
unfolding behind_minus
behind_number n = refl

pub minus_allowed :
    (t : List ℕ) (from to : ℕ) → from < to → to ≤ length t → get_or t from 0 ≡ 0x2D →
    allowed (take (to - from) (drop from t)) ≡ behind_minus (decimal_of (take (to - (from + 1)) (drop (from + 1) t)))
unfolding behind_minus within
minus_allowed t from to h k m = go (decimal_of (take (to - (from + 1)) (drop (from + 1) t))) refl
  where
    go : (d : Option ℕ) → decimal_of (take (to - (from + 1)) (drop (from + 1) t)) ≡ d → allowed (take (to - from) (drop from t)) ≡ behind_minus d
    go (Some n) e = minus-within t from to h k m n e
    go None e = minus-refused t from to h k m e

pub ruleset minus_rules = (nat_tests, minus_allowed, behind_number)
