-- Names of equal codes lie as what follows their first six bytes.
use mathlib.Core.Path.{◌≡◌, refl, sym, ◌∙◌, ap}
use mathlib.Core.List.{List, [], ◌∷◌}
use Prim.Native.Nat.{ℕ, zero, suc, ◌+◌, ◌*◌, ◌/◌, ◌%◌}
use native.Mathlib.Numerals.{one-add}
use native.Mathlib.Omega.{arith}
use lib.ListN.{drop}
use lib.Seq.{drop-drop}
use Rattle.json_text.specs.Content.{before}
use Rattle.std.specs.declared.cmp.Ordering.TheVariants as Ordering
use Rattle.member_order.specs.Codes.{digit, code_from, Digits, CodeOf, name_of, Coded}
use Rattle.member_order.specs.Names.{name_in, order_of}
use Rattle.member_order.proofs.Before.{before-equal, Bytes, bytes, less, more, equal}
use Rattle.member_order.proofs.CodeOrder.{code-less}
use Rattle.member_order.proofs.CodeSteps.{digit-none, name-past}

order-equal : (b c : ℕ) (x y : List ℕ) → b ≡ c → order_of (b ∷ x) (c ∷ y) ≡ order_of x y
unfolding order_of
order-equal b c x y e = rw (before-equal b c x y e, before-equal c b y x (sym e))

-- equal digits do not count
code_same : (n a : ℕ) (x y : List ℕ) → Digits n x → Digits n y → code_from n a x ≡ code_from n a y → order_of x y ≡ order_of (drop n x) (drop n y)
unfolding code_from
code_same zero a x y p q h = refl
code_same (suc n) a [] [] p q h = refl
code_same (suc n) a [] (c ∷ y) p q h =
    let k = code-less n (a * 256 + 0) (a * 256 + (c + 1)) [] y p.1 (omega arith) in
    absurd (omega arith)
code_same (suc n) a (b ∷ x) [] p q h =
    let k = code-less n (a * 256 + 0) (a * 256 + (b + 1)) [] x q.1 (omega arith) in
    absurd (omega arith)
code_same (suc n) a (b ∷ x) (c ∷ y) p q h = go (bytes b c) (λ m. code_same n m x y p.1 q.1)
  where
    go : Bytes b c → ((m : ℕ) → code_from n m x ≡ code_from n m y → order_of x y ≡ order_of (drop n x) (drop n y))
        → order_of (b ∷ x) (c ∷ y) ≡ order_of (drop n x) (drop n y)
    go (less k) r =
        let l = code-less n (a * 256 + (b + 1)) (a * 256 + (c + 1)) x y p.1 (omega arith) in
        absurd (omega arith)
    go (more k) r =
        let l = code-less n (a * 256 + (c + 1)) (a * 256 + (b + 1)) y x q.1 (omega arith) in
        absurd (omega arith)
    go (equal k) r = order-equal b c x y k ∙ r (a * 256 + (c + 1)) (rw k at h)

drop-next : (n : ℕ) (x : List ℕ) → drop n (drop 1 x) ≡ drop (suc n) x
drop-next n x = drop-drop n 1 x ∙ ap (λ (k : ℕ). drop k x) (one-add n)

-- the last digit
code-last : (n a : ℕ) (x : List ℕ) → Digits (suc n) x → code_from (suc n) a x % 256 ≡ digit (drop n x)
unfolding code_from
code-last zero a x p = omega (arith, p.0)
code-last (suc n) a x p = code-last n (a * 256 + digit x) (drop 1 x) p.1 ∙ ap digit (drop-next n x)

last-digit : {x : List ℕ} {c : ℕ} → CodeOf x c → c % 256 ≡ digit (drop 5 x)
last-digit {x} p = ap (λ (n : ℕ). n % 256) p.is ∙ code-last 5 0 x p.digits

-- nothing follows where it is 0
nothing_left : (n : ℕ) (x : List ℕ) → digit (drop n x) ≡ 0 → drop (n + 1) x ≡ []
nothing_left n x e = sym (drop-drop 1 n x) ∙ rw (digit-none (drop n x) e)

-- else the name goes on behind it
name-on : (n : ℕ) (w : List ℕ) (i : ℕ) → (digit (drop n (name_in w i)) ≡ 0 → ⊥) → name_in w (i + (n + 1)) ≡ drop (n + 1) (name_in w i)
name-on zero w i h = name-past w i h
name-on (suc n) w i h =
    let e : i + (suc n + 1) ≡ i + 1 + (n + 1) = omega arith in
    let k : name_in w (i + 1) ≡ drop 1 (name_in w i) = name-past w i (λ z. h (rw (digit-none (name_in w i) z))) in
    let g : drop n (name_in w (i + 1)) ≡ drop (suc n) (name_in w i) = ap (drop n) k ∙ drop-next n (name_in w i) in
    let f : name_in w (i + 1 + (n + 1)) ≡ drop (n + 1) (name_in w (i + 1)) = name-on n w (i + 1) (λ z. h (sym (ap digit g) ∙ z)) in
    let t : 1 + (n + 1) ≡ suc n + 1 = omega arith in
    ap (λ (m : ℕ). name_in w m) e ∙ f ∙ ap (drop (n + 1)) k ∙ drop-drop (n + 1) 1 (name_in w i) ∙ ap (λ (m : ℕ). drop m (name_in w i)) t

module _ (w : List ℕ) (x y : ℕ) (p : Coded (name_in w) x) (q : Coded (name_in w) y) (e : x / 65536 ≡ y / 65536) where
  -- how what follows lies
  behind : order_of (drop 6 (name_of (name_in w) x)) (drop 6 (name_of (name_in w) y)) ≡ order_of (name_of (name_in w) x) (name_of (name_in w) y)
  behind = sym (code_same 6 0 _ _ p.digits q.digits (sym p.is ∙ e ∙ q.is))

  pub both-ended : x / 65536 % 256 ≡ 0 → Ordering.Equal ≡ order_of (name_of (name_in w) x) (name_of (name_in w) y)
  unfolding order_of before
  both-ended z =
      let f : digit (drop 5 (name_of (name_in w) x)) ≡ 0 = sym (last-digit p) ∙ z in
      let g : digit (drop 5 (name_of (name_in w) y)) ≡ 0 = sym (last-digit q) ∙ ap (λ (n : ℕ). n % 256) (sym e) ∙ z in
      rw (nothing_left 5 (name_of (name_in w) x) f, nothing_left 5 (name_of (name_in w) y) g) at behind

  pub both-go-on : (x / 65536 % 256 ≡ 0 → ⊥)
      → order_of (name_in w (x % 65536 + 6)) (name_in w (y % 65536 + 6)) ≡ order_of (name_of (name_in w) x) (name_of (name_in w) y)
  both-go-on z =
      let f = name-on 5 w (x % 65536) (λ k. z (last-digit p ∙ k)) in
      let g = name-on 5 w (y % 65536) (λ k. z (ap (λ (n : ℕ). n % 256) e ∙ last-digit q ∙ k)) in
      rw (f, g) behind
