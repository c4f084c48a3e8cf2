-- What the tests of the lines say, and that sound lines hold few items.
use mathlib.Core.Path.{◌≡◌, sym, subst}
use mathlib.Core.List.{List}
use mathlib.Core.Bool.{Bool, true, false}
use Prim.Native.Nat.{ℕ, zero, suc, ◌+◌, ◌*◌, ◌≤◌, ◌<◌, zero-le, suc-le-suc}
use native.Mathlib.Nat.{mul-le-mul_right, suc-mul}
use native.Mathlib.Omega.{arith}
use lib.ListN.{length}
use Rattle.rules.specs.Lists.{sum}
use Rattle.rules.specs.Lines as Rules
use Rattle.rules.specs.Lines.{items_of, item_count}
use Rattle.words.specs.Words.{tab, Says}
use Rattle.lines.specs.AreaSound.{LineFits, AreaSound}
use Rattle.store.specs.Store.{limits_of, head_of, line_count, line_words_at, conn_in, market_of, Sized}
use Rattle.store.specs.Moves.{Counts}
use Rattle.store.proofs.MarketLaws.{market-lines}
use Rattle.sound.specs.Parts.{Above, SoundAt, EachSound}

-- a test of P tells Q, where each follows from the other
pub says-as : (P Q : Type 0) → (P → Q) → (Q → P) → (b : Bool) → Says b P → Says b Q
says-as P Q f g true s = f s
says-as P Q f g false s = λ q. s (g q)

-- ---- one line

pub line-says : (w v : List ℕ) (h e i : ℕ) (r : Bool) → h ≡ (limits_of w).H → v ≡ line_words_at w i → Above w i → Says r (AreaSound h e v) → Says r (SoundAt w e i)
line-says w v h e i r p q a s =
    says-as (AreaSound h e v) (SoundAt w e i)
    (λ k. record { above = a; area = rw (p, q) at k })
    (λ k. rw (p, q) k.area)
    r
    s

-- ---- each line, over a log that ends at e

module _ (w : List ℕ) (e : ℕ) (q : e ≡ (head_of w).base + (head_of w).count) where
  pub each-sound : ((i : ℕ) → i < line_count w → SoundAt w e i) → EachSound w
  each-sound h i l = subst (λ (x : ℕ). SoundAt w x i) q (h i l)

  pub sound-each : EachSound w → (i : ℕ) → i < line_count w → SoundAt w e i
  sound-each h i l = subst (λ (x : ℕ). SoundAt w x i) (sym q) (h i l)

-- ---- the items of all lines

few : (h e : ℕ) (l : Rules.Line) → LineFits h e l → length (items_of l) ≤ h + 8
few h e (Rules.Waiting is since) t = t.0
few h e (Rules.Pending is at since) t = t.0
few h e (Rules.InLine n a b) t = omega arith
few h e Rules.Failed t = omega arith

sum-few : {A : Type 0} (g : A → ℕ) (m n : ℕ) (f : ℕ → A) → ((i : ℕ) → i < n → g (f i) ≤ m) → sum g (tab n f) ≤ n * m
sum-few g m zero f h = omega arith
sum-few g m (suc n) f h =
    let a : g (f 0) ≤ m = h 0 (suc-le-suc zero-le) in
    let b : sum g (tab n (λ i. f (suc i))) ≤ n * m = sum-few g m n (λ i. f (suc i)) (λ i l. h (suc i) (suc-le-suc l)) in
    omega (arith, suc-mul n m)

-- 16 lines of 5008
pub items-few : (w : List ℕ) → Sized w → Counts w → EachSound w → item_count (market_of w).lines ≤ 80128
items-few w z c ls =
    let e : ℕ = (head_of w).base + (head_of w).count in
    let m : ℕ = (limits_of w).H + 8 in
    let a : item_count (tab (line_count w) (conn_in w)) ≤ line_count w * m =
    sum-few (λ (s : Rules.Connection). length (items_of s.line)) m (line_count w) (conn_in w) (λ i h. few (limits_of w).H e (conn_in w i).line (ls i h).area.line) in
    let n : line_count w ≤ 16 = omega arith in
    rw (market-lines w) (omega (arith, mul-le-mul_right m n))
