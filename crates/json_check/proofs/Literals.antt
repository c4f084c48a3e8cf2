-- What is read as null, true or false is one of them, and has no fault.
use Rattle.std.specs.Prelude.{None, Option, Some}
use mathlib.Core.Path.{◌≡◌, refl, sym, ◌∙◌, ap, subst}
use mathlib.Core.Bool.{Bool, true, false, cond}
use mathlib.Core.List.{List, [], ◌∷◌, ◌++◌}
use Prim.Native.Nat.{ℕ}
use native.Mathlib.Omega.{arith}
use lib.Dec.{eqb}
use lib.ListN.{drop}
use Rattle.json_text.specs.Grammar.{Val, a_null, a_true, a_false}
use Rattle.json_text.specs.Refusals.{fault}
use Rattle.json_text.specs.Values.{Value, null, boolean}
use Rattle.json_text.specs.Work.{byte_at, word_rest, literal_rest}
use Rattle.json_check.proofs.Fronts.{begins}

no-rest : {A : Type 0} (r : List ℕ) → None ≡ Some r → A
no-rest r e = absurd (let z : ◌≡◌ {A = ℕ} 0 1 = cc in omega arith)

by-rest :
    {A : Type 0} (b : Bool) (x y : Option (List ℕ)) (r : List ℕ) →
    (b ≡ true → x ≡ Some r → A) → (b ≡ false → y ≡ Some r → A) → cond b x y ≡ Some r → A
by-rest true x y r f h = f refl
by-rest false x y r f h = h refl

-- none of w is what byte_at has behind the last byte
abbrev Bytes : List ℕ → Type 0
Bytes [] = Unit {0}
Bytes (c ∷ w) = (eqb 256 c ≡ false) × Bytes w

word_read : (w s r : List ℕ) → Bytes w → word_rest w s ≡ Some r → s ≡ w ++ r
unfolding word_rest
word_read [] s r h e = cc
word_read (c ∷ w) s r h e =
    by-rest (eqb (byte_at s 0) c) (word_rest w (drop 1 s)) None r
    (λ q z. begins s c h.0 q ∙ ap {B = List ℕ} (λ x. c ∷ x) (word_read w (drop 1 s) r h.1 z))
    (λ q. no-rest r)
    e

-- a word from its first byte on
word-from :
    (c : ℕ) (w s r : List ℕ) → Bytes (c ∷ w) → eqb (byte_at s 0) c ≡ true → word_rest w (drop 1 s) ≡ Some r → s ≡ c ∷ (w ++ r)
unfolding word_rest
word-from c w s r h q e = word_read (c ∷ w) s r h (rw q e)

-- a value that has no fault at any depth
pub record Literal (s r : List ℕ) : Type 0 where
  pub meant : Value
  pub stands : Val s meant r
  pub faultless : (d : ℕ) → fault d meant ≡ 0

pub rest-literal : (s r : List ℕ) → literal_rest s ≡ Some r → Literal s r
unfolding literal_rest fault
rest-literal s r =
    by_word 0x6E (0x75 ∷ 0x6C ∷ 0x6C ∷ []) null (refl, (refl, (refl, (refl, tt)))) a_null (λ d. refl)
    (by_word 0x74 (0x72 ∷ 0x75 ∷ 0x65 ∷ []) (boolean true) (refl, (refl, (refl, (refl, tt)))) a_true (λ d. refl)
    (by_word 0x66 (0x61 ∷ 0x6C ∷ 0x73 ∷ 0x65 ∷ []) (boolean false) (refl, (refl, (refl, (refl, (refl, tt))))) a_false (λ d. refl)
    (no-rest r)))
  where
    -- the word c ∷ w, which writes v, or what else is read
    by_word :
        (c : ℕ) (w : List ℕ) (v : Value) →
        Bytes (c ∷ w) → Val (c ∷ (w ++ r)) v r → ((d : ℕ) → fault d v ≡ 0) → {y : Option (List ℕ)} → (y ≡ Some r → Literal s r) →
        cond (eqb (byte_at s 0) c) (word_rest w (drop 1 s)) y ≡ Some r → Literal s r
    by_word c w v h p f {y} other =
        by-rest (eqb (byte_at s 0) c) (word_rest w (drop 1 s)) y r
        (λ q e. record { meant = v; stands = subst (λ (t : List ℕ). Val t v r) (sym (word-from c w s r h q e)) p; faultless = f })
        (λ q. other)
