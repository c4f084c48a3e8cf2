-- A name's code, digit by digit.
use mathlib.Core.Path.{◌≡◌, refl, sym, ◌∙◌}
use mathlib.Core.List.{List, [], ◌∷◌}
use Prim.Native.Nat.{ℕ, suc, ◌+◌, ◌-◌, ◌*◌, ◌/◌, ◌%◌, ◌^◌, ◌≤◌, ◌<◌}
use native.Mathlib.Nat.{pow-suc, pow-le-pow_right}
use native.Mathlib.Numerals.{add-one}
use native.Mathlib.Omega.{arith}
use lib.Arith.{digits_lt}
use lib.ListN.{drop, get_or}
use Rattle.member_order.specs.Codes.{digit, code_from, Digits, CodeOf, WordOf}
use Rattle.member_order.specs.Names.{name_in}
use Rattle.member_order.proofs.NameSteps.{name-ended, name-more, name-at}

-- ---- the digit of the byte read at a place
module _ (w : List ℕ) (i b : ℕ) (p : b ≡ get_or w i 0xFF) where
  pub digit-ended : b ≡ 0xFF → 0 ≡ digit (name_in w i)
  digit-ended e = rw (name-at w i, name-ended (get_or w i 0xFF) (drop (i + 1) w) (sym p ∙ e))

  pub digit-read : (b ≡ 0xFF → ⊥) → b + 1 ≡ digit (name_in w i)
  digit-read n = rw (name-at w i, name-more (get_or w i 0xFF) (drop (i + 1) w) (λ e. n (p ∙ e)), p)

-- ---- what follows the digit
pub digit-none : (x : List ℕ) → digit x ≡ 0 → x ≡ []
digit-none [] e = refl
digit-none (b ∷ x) e = absurd (omega arith)

pub name-stays : (x : List ℕ) → digit x ≡ 0 → x ≡ drop 1 x
name-stays x e = rw (digit-none x e)

pub name-past : (w : List ℕ) (i : ℕ) → (digit (name_in w i) ≡ 0 → ⊥) → name_in w (i + 1) ≡ drop 1 (name_in w i)
name-past w i h =
    rw (name-at w i, name-more (get_or w i 0xFF) (drop (i + 1) w) (λ e. h (sym (digit-ended w i (get_or w i 0xFF) refl e))))

-- ---- i digits read, with y behind them
pub record Coding (x : List ℕ) (i code : ℕ) (y : List ℕ) : Type 0 where
  pub few : i ≤ 6
  pub is : code_from (6 - i) code y ≡ code_from 6 0 x
  pub digits : Digits (6 - i) y → Digits 6 x
  pub fits : code < 256 ^ i

pub coding-starts : (x : List ℕ) → Coding x 0 0 x
coding-starts x = record { few = omega arith; is = refl; digits = λ d. d; fits = omega arith }

module _ (x : List ℕ) (i code : ℕ) (y : List ℕ) (r : Coding x i code y) (h : i < 6) (d : ℕ) (l : d < 256) where
  coding-fits : code * 256 + d < 256 ^ (i + 1)
  coding-fits = rw (add-one, pow-suc) (digits_lt r.fits l)

  -- with one digit more there are at most six
  pub coding-small : code * 256 + d < 2 ^ 48
  coding-small =
      let m : 256 ^ (i + 1) ≤ 256 ^ 6 = pow-le-pow_right (omega arith) {i = i + 1} {j = 6} (omega arith) in
      omega (arith, coding-fits)

  pub coding-on : (code' : ℕ) (y' : List ℕ) → d ≡ digit y → code' ≡ code * 256 + d → y' ≡ drop 1 y → Coding x (i + 1) code' y'
  unfolding code_from
  coding-on code' y' q c t =
      let e : 6 - i ≡ suc (6 - (i + 1)) = omega arith in
      record {
        few = omega arith;
        is = rw (c, t, q) (rw e at r.is);
        digits = λ s. (rw e at r.digits) (rw q at l, rw t at s);
        fits = rw c coding-fits;
      }

pub coding-done : (x : List ℕ) (i code : ℕ) (y : List ℕ) → Coding x i code y → 6 ≤ i → CodeOf x code
unfolding code_from
coding-done x i code y r h =
    let e : i ≡ 6 = omega (arith, r.few) in
    record { is = rw e at r.is; digits = (rw e at r.digits) tt; fits = rw e at r.fits }

-- a code above a place
pub word_of : (name : ℕ → List ℕ) (p code : ℕ) → p < 65536 → CodeOf (name p) code → WordOf name p (code * 65536 + p)
word_of name p code h r =
    let e : (code * 65536 + p) % 65536 ≡ p = omega arith in
    let q : (code * 65536 + p) / 65536 ≡ code = omega arith in
    (e, rw (e, q) r)
