-- Places of a list and what stands there.
use mathlib.Core.Path.{◌≡◌, refl, sym, ◌∙◌, ap}
use mathlib.Core.List.{List, [], ◌∷◌}
use Prim.Native.Nat.{ℕ, zero, suc, ◌+◌, ◌≤◌, ◌<◌}
use native.Mathlib.Nat.{not-suc-le-zero, le_of_suc-le-suc}
use native.Mathlib.Numerals.{add-one}
use native.Mathlib.Omega.{arith}
use lib.ListN.{length, drop, get_or, drop_of_length-le, get_or-eq_default}
use lib.Seq.{drop-cons, get_or-drop}
use Rattle.json_text.specs.Work.{byte_at}

-- inside a list, what is read behind its last does not matter
pub any-default : (s : List ℕ) (i d e : ℕ) → i < length s → get_or s i d ≡ get_or s i e
any-default [] i d e h = absurd (not-suc-le-zero h)
any-default (b ∷ s) zero d e h = refl
any-default (b ∷ s) (suc i) d e h = any-default s i d e (le_of_suc-le-suc h)

pub byte-at : (s : List ℕ) (i : ℕ) → i < length s → get_or s i 0 ≡ byte_at s i
byte-at s i h = any-default s i 0 256 h

pub byte_past : (s : List ℕ) (i : ℕ) → length s ≤ i → byte_at s i ≡ 256
byte_past s i h = get_or-eq_default s 256 h

-- what is not read behind the last stands in the list
pub inside-by : (s : List ℕ) (i d : ℕ) → (get_or s i d ≡ d → ⊥) → i < length s
inside-by [] i d h = absurd (h refl)
inside-by (b ∷ s) zero d h = omega arith
inside-by (b ∷ s) (suc i) d h = omega (arith, inside-by s i d h)

-- a byte below 256 does
pub byte_inside : (s : List ℕ) (i : ℕ) → byte_at s i < 256 → i < length s
byte_inside s i h = inside-by s i 256 (λ e. omega arith)

pub byte-drop : (n : ℕ) (s : List ℕ) (i : ℕ) → byte_at (drop n s) i ≡ byte_at s (n + i)
byte-drop n s i = get_or-drop n s i 256

-- what is left at a place inside: its byte and what is left behind it
pub left_at : (s : List ℕ) (i : ℕ) → i < length s → drop i s ≡ byte_at s i ∷ drop (i + 1) s
left_at s i h = drop-cons s i 256 h ∙ ap (λ (n : ℕ). byte_at s i ∷ drop n s) (sym (add-one i))

pub left-past : (s : List ℕ) (i : ℕ) → length s ≤ i → drop i s ≡ []
left-past s i h = drop_of_length-le s {i = i} h
