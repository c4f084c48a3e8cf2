-- A number of the grammar that nothing lengthens is one that number_rest reads.
use Rattle.std.specs.Prelude.{None, Option, Some}
use mathlib.Core.Path.{◌≡◌, refl, sym, ◌∙◌, ap}
use mathlib.Core.Bool.{Bool, true, false, ◌||◌, cond, or-true}
use mathlib.Core.List.{List, [], ◌∷◌, ◌++◌, append_assoc}
use Prim.Native.Nat.{ℕ, ◌-◌, ◌≤◌}
use native.Mathlib.Omega.{arith}
use borrow.Author.Tests.{ne_eqb, eqb-true}
use lib.Dec.{eqb}
use lib.ListN.{length, length-append}
use lib.Seq.{take_at}
use Rattle.json_text.specs.Bytes.{within, is_digit}
use Rattle.json_text.specs.Numbers.{Digits, no_digits, digit, Digits1, digits, Minus, no_minus, minus, Int, zero, from_one}
use Rattle.json_text.specs.Numbers.{Frac, no_frac, frac, Sign, no_sign, negative, positive, Exp, no_exp, exp, Number, number}
use Rattle.json_text.specs.Work.{
  byte_at,
  goes_on,
  skip_digits,
  digits1_rest,
  skip_minus,
  skip_sign,
  int_rest,
  frac_rest,
  exp_rest,
  and_then,
  number_rest,
  up_to,
}
use Rattle.rules.proofs.Tests.{or-false-left, or-false-right}
use Rattle.json_text.proofs.Tests.{within_low, within-high, inside, digit_low, not_digit, same, no-some}

pub record Stops (b : ℕ) : Type 0 where
  pub digit : is_digit b ≡ false
  pub point : eqb b 0x2E ≡ false
  pub small : eqb b 0x65 ≡ false
  pub large : eqb b 0x45 ≡ false

pub stops : (b : ℕ) → goes_on b ≡ false → Stops b
unfolding goes_on
stops b h =
    let more = eqb b 0x65 || eqb b 0x45 in
    let rest : (eqb b 0x2E || more) ≡ false = or-false-right (is_digit b) (eqb b 0x2E || more) h in
    let last : more ≡ false = or-false-right (eqb b 0x2E) more rest in
    record {
      digit = or-false-left (is_digit b) (eqb b 0x2E || more) h;
      point = or-false-left (eqb b 0x2E) more rest;
      small = or-false-left (eqb b 0x65) (eqb b 0x45) last;
      large = or-false-right (eqb b 0x65) (eqb b 0x45) last;
    }

-- what the grammar has is read

digits-skip : {s r : List ℕ} → Digits s r → skip_digits s ≡ skip_digits r
unfolding skip_digits
digits-skip no_digits = refl
digits-skip (digit h d) = rw h (digits-skip d)

skip-none : (r : List ℕ) → is_digit (byte_at r 0) ≡ false → skip_digits r ≡ r
unfolding skip_digits
skip-none [] h = refl
skip-none (b ∷ r) h = rw h

digits1-rest : {s r : List ℕ} → Digits1 s r → is_digit (byte_at r 0) ≡ false → digits1_rest s ≡ Some r
unfolding digits1_rest
digits1-rest {r = r} (digits h d) e = rw h (ap Some (digits-skip d ∙ skip-none r e))

int-rest : {s r : List ℕ} → Int s r → is_digit (byte_at r 0) ≡ false → int_rest s ≡ Some r
unfolding int_rest
int-rest zero e = refl
int-rest {r = r} (from_one {b} h d) e =
    rw (ne_eqb b 0x30 (λ x. omega (arith, within_low 0x31 0x39 b h)), h) (ap Some (digits-skip d ∙ skip-none r e))

int-front : {s r : List ℕ} → Int s r → is_digit (byte_at s 0) ≡ true
unfolding is_digit within
int-front zero = refl
int-front (from_one {b} h d) = digit-of b (within_low 0x31 0x39 b h) (within-high 0x31 0x39 b h)
  where
    digit-of : (b : ℕ) → 0x31 ≤ b → b ≤ 0x39 → is_digit b ≡ true
    digit-of b l u = inside 0x30 0x39 b (omega arith) (omega arith)

minus-skip : {s a r : List ℕ} → Minus s a → Int a r → skip_minus s ≡ a
unfolding skip_minus
minus-skip minus i = refl
minus-skip {a = a} no_minus i = rw (ne_eqb (byte_at a 0) 0x2D (λ x. omega (arith, digit_low (byte_at a 0) (int-front i))))

sign-skip : {s t r : List ℕ} → Sign s t → Digits1 t r → skip_sign s ≡ t
unfolding skip_sign
sign-skip negative d = refl
sign-skip positive d = refl
sign-skip no_sign (digits {b} h d) =
    rw (ne_eqb b 0x2D (λ x. omega (arith, digit_low b h)), ne_eqb b 0x2B (λ x. omega (arith, digit_low b h)))

frac-rest : {s r : List ℕ} → Frac s r → is_digit (byte_at r 0) ≡ false → eqb (byte_at r 0) 0x2E ≡ false → frac_rest s ≡ Some r
unfolding frac_rest
frac-rest no_frac d p = rw p
frac-rest (frac x) d p = digits1-rest x d

exp-rest : {s r : List ℕ} → Exp s r → Stops (byte_at r 0) → exp_rest s ≡ Some r
unfolding exp_rest
exp-rest no_exp e = rw (e.small, e.large)
exp-rest (exp h s d) e = rw (h, sign-skip s d) (digits1-rest d e.digit)

-- in front of an exponent, or of what stops a number: no digit and no point
exp-front : {s r : List ℕ} → Exp s r → Stops (byte_at r 0) → (is_digit (byte_at s 0) ≡ false) × (eqb (byte_at s 0) 0x2E ≡ false)
exp-front no_exp e = (e.digit, e.point)
exp-front (exp {b} h s d) e = go (eqb b 0x65) refl h
  where
    at : (n : ℕ) → b ≡ n → 0x45 ≤ n → (is_digit b ≡ false) × (eqb b 0x2E ≡ false)
    at n x l = (not_digit b (omega arith), ne_eqb b 0x2E (λ y. omega arith))

    go : (x : Bool) → eqb b 0x65 ≡ x → (x || eqb b 0x45) ≡ true → (is_digit b ≡ false) × (eqb b 0x2E ≡ false)
    go true x y = at 0x65 (eqb-true b 0x65 x) (omega arith)
    go false x y = at 0x45 (eqb-true b 0x45 y) (omega arith)

frac-front : {s r : List ℕ} → Frac s r → is_digit (byte_at r 0) ≡ false → is_digit (byte_at s 0) ≡ false
unfolding is_digit within
frac-front no_frac h = h
frac-front (frac d) h = refl

pub number-rest : {s r : List ℕ} → Number s r → goes_on (byte_at r 0) ≡ false → number_rest s ≡ Some r
unfolding number_rest
number-rest {r = r} (number m i f e) h =
    let p = stops (byte_at r 0) h in
    let q = exp-front e p in
    rw (minus-skip m i, int-rest i (frac-front f q.0), frac-rest f q.0 q.1) (exp-rest e p)

pub number-front : {s r : List ℕ} → Number s r → (eqb (byte_at s 0) 0x2D || is_digit (byte_at s 0)) ≡ true
number-front (number minus i f e) = refl
number-front (number {s} no_minus i f e) = rw (int-front i) (or-true (eqb (byte_at s 0) 0x2D))

-- what is read is in the grammar

skip-digits : (s : List ℕ) → Digits s (skip_digits s)
unfolding skip_digits
skip-digits [] = no_digits
skip-digits (b ∷ s) = go (is_digit b) refl (skip-digits s)
  where
    go : (x : Bool) → is_digit b ≡ x → Digits s (skip_digits s) → Digits (b ∷ s) (cond (is_digit b) (skip_digits s) (b ∷ s))
    go true e d = rw e (digit e d)
    go false e d = rw e no_digits

rest-digits1 : (s r : List ℕ) → digits1_rest s ≡ Some r → Digits1 s r
unfolding digits1_rest is_digit within
rest-digits1 [] r h = no-some h
rest-digits1 (b ∷ s) r h = go (is_digit b) refl h
  where
    go : (x : Bool) → is_digit b ≡ x → cond x (Some (skip_digits s)) None ≡ Some r → Digits1 (b ∷ s) r
    go true e k = rw (same k) at (digits {b = b} e (skip-digits s))
    go false e k = no-some k

rest-int : (s r : List ℕ) → int_rest s ≡ Some r → Int s r
unfolding int_rest within
rest-int [] r h = no-some h
rest-int (b ∷ s) r h = go (eqb b 0x30) refl h
  where
    more :
        (x : Bool) → within 0x31 0x39 b ≡ x → cond x (Some (skip_digits s)) None ≡ Some r → Int (b ∷ s) r
    more true e k = rw (same k) at (from_one {b = b} e (skip-digits s))
    more false e k = no-some k

    go :
        (x : Bool) → eqb b 0x30 ≡ x → cond x (Some s) (cond (within 0x31 0x39 b) (Some (skip_digits s)) None) ≡ Some r → Int (b ∷ s) r
    go true e k = rw (eqb-true b 0x30 e, same k) zero
    go false e k = more (within 0x31 0x39 b) refl k

skip-minus : (s : List ℕ) → Minus s (skip_minus s)
unfolding skip_minus
skip-minus [] = no_minus
skip-minus (b ∷ s) = go (eqb b 0x2D) refl
  where
    go : (x : Bool) → eqb b 0x2D ≡ x → Minus (b ∷ s) (cond (eqb b 0x2D) s (b ∷ s))
    go true e = rw (e, eqb-true b 0x2D e) minus
    go false e = rw e no_minus

skip-sign : (s : List ℕ) → Sign s (skip_sign s)
unfolding skip_sign
skip-sign [] = no_sign
skip-sign (b ∷ s) = go (eqb b 0x2D) refl
  where
    plus : (x : Bool) → eqb b 0x2B ≡ x → Sign (b ∷ s) (cond (eqb b 0x2B) s (b ∷ s))
    plus true e = rw (e, eqb-true b 0x2B e) positive
    plus false e = rw e no_sign

    go : (x : Bool) → eqb b 0x2D ≡ x → Sign (b ∷ s) (cond (eqb b 0x2D || eqb b 0x2B) s (b ∷ s))
    go true e = rw (e, eqb-true b 0x2D e) negative
    go false e = rw e (plus (eqb b 0x2B) refl)

rest-frac : (s r : List ℕ) → frac_rest s ≡ Some r → Frac s r
unfolding frac_rest
rest-frac [] r h = rw (← (same h)) no_frac
rest-frac (b ∷ s) r h = go (eqb b 0x2E) refl h
  where
    go : (x : Bool) → eqb b 0x2E ≡ x → cond x (digits1_rest s) (Some (b ∷ s)) ≡ Some r → Frac (b ∷ s) r
    go true e k = rw (eqb-true b 0x2E e) (frac (rest-digits1 s r k))
    go false e k = rw (same k) no_frac

rest-exp : (s r : List ℕ) → exp_rest s ≡ Some r → Exp s r
unfolding exp_rest
rest-exp [] r h = rw (← (same h)) no_exp
rest-exp (b ∷ s) r h = go (eqb b 0x65 || eqb b 0x45) refl h
  where
    go : (x : Bool) → (eqb b 0x65 || eqb b 0x45) ≡ x → cond x (digits1_rest (skip_sign s)) (Some (b ∷ s)) ≡ Some r → Exp (b ∷ s) r
    go true e k = exp e (skip-sign s) (rest-digits1 (skip_sign s) r k)
    go false e k = rw (same k) no_exp

pub rest-number : (s r : List ℕ) → number_rest s ≡ Some r → Number s r
unfolding number_rest
rest-number s r h = go (int_rest (skip_minus s)) refl h
  where
    point : (b : List ℕ) (o : Option (List ℕ)) → frac_rest b ≡ o → int_rest (skip_minus s) ≡ Some b → and_then o exp_rest ≡ Some r → Number s r
    point b None e i k = no-some k
    point b (Some c) e i k = number (skip-minus s) (rest-int (skip_minus s) b i) (rest-frac b c e) (rest-exp c r k)

    go : (o : Option (List ℕ)) → int_rest (skip_minus s) ≡ o → and_then (and_then o frac_rest) exp_rest ≡ Some r → Number s r
    go None e k = no-some k
    go (Some b) e k = point b (frac_rest b) refl e k

-- the number's text

pub up-to-append : (x r : List ℕ) → up_to r (x ++ r) ≡ x
up-to-append x r = take_at x r (length (x ++ r) - length r) (omega (arith, length-append x r))

abbrev Read : List ℕ → List ℕ → Type 0
Read s r = (x : List ℕ) × (s ≡ x ++ r)

nothing : (s : List ℕ) → Read s s
nothing s = ([], refl)

then : {s t r : List ℕ} → Read s t → Read t r → Read s r
then {s} {t} {r} (x, p) (y, q) = (x ++ y, p ∙ ap (λ (l : List ℕ). x ++ l) q ∙ sym (append_assoc x y r))

one : (b : ℕ) (s : List ℕ) → Read (b ∷ s) s
one b s = (b ∷ [], refl)

read-digits : {s r : List ℕ} → Digits s r → Read s r
read-digits {s} no_digits = nothing s
read-digits (digit {b} {s} h d) = then (one b s) (read-digits d)

read-digits1 : {s r : List ℕ} → Digits1 s r → Read s r
read-digits1 (digits {b} {s} h d) = then (one b s) (read-digits d)

read-minus : {s r : List ℕ} → Minus s r → Read s r
read-minus {s} no_minus = nothing s
read-minus {r = r} minus = one 0x2D r

read_int : {s r : List ℕ} → Int s r → Read s r
read_int {r = r} zero = one 0x30 r
read_int (from_one {b} {s} h d) = then (one b s) (read-digits d)

read-frac : {s r : List ℕ} → Frac s r → Read s r
read-frac {s} no_frac = nothing s
read-frac (frac {s} d) = then (one 0x2E s) (read-digits1 d)

read-sign : {s r : List ℕ} → Sign s r → Read s r
read-sign {s} no_sign = nothing s
read-sign {r = r} negative = one 0x2D r
read-sign {r = r} positive = one 0x2B r

read-exp : {s r : List ℕ} → Exp s r → Read s r
read-exp {s} no_exp = nothing s
read-exp (exp {b} {s} h g d) = then (one b s) (then (read-sign g) (read-digits1 d))

pub number_read : {s r : List ℕ} → Number s r → s ≡ up_to r s ++ r
number_read {s} {r} (number m i f e) =
    let p = then (read-minus m) (then (read_int i) (then (read-frac f) (read-exp e))) in
    p.1 ∙ ap (λ (l : List ℕ). l ++ r) (sym (ap (λ (l : List ℕ). up_to r l) p.1 ∙ up-to-append p.0 r))
