-- The frame of a line's area: what a store means after one line's words came back.
use mathlib.Core.Path.{◌≡◌, sym, ap, ◌∙◌, subst}
use mathlib.Core.Logic.{⊎_elim}
use mathlib.Core.List.{List}
use Prim.Native.Nat.{ℕ, suc, ◌+◌, ◌≤◌, ◌<◌}
use native.Mathlib.Nat.{mul-le-mul_right, suc-mul}
use native.Mathlib.Omega.{arith}
use lib.ListN.{length, get_or, set}
use Rattle.rules.specs.declared.Limits.{Limits}
use Rattle.rules.specs.Lines.{with_lines}
use Rattle.words.specs.Words.{part, back, tab}
use Rattle.words.proofs.Cases.{below_or, apart, row_before}
use Rattle.words.proofs.Parts.{Loan, part_length, part_same, part-before, part-after}
use Rattle.words.proofs.Tab.{tab-set}
use Rattle.lines.specs.Area.{conn_of}
use Rattle.store.specs.Store.{limits_of, line_count, line_width, line_start, line_words_at, conn_in, market_of, Sized, KindsKnown}
use Rattle.store.specs.ConnMoves.{LineAt}
use Rattle.store.proofs.MarketLaws.{market-by}
use Rattle.store.proofs.FrameLaws.{Only, only-back, limits-stay, sized-stay, log-stays, head-stays, tables-stay, used-stays}

-- areas lie inside the store
pub start_fits : (w : List ℕ) → Sized w → (i : ℕ) → i ≤ (limits_of w).L → line_start (limits_of w) i ≤ length w
start_fits w z i h = omega (arith, mul-le-mul_right (line_width (limits_of w)) h)

pub area-fits : (w : List ℕ) → Sized w → (i : ℕ) → i < (limits_of w).L → line_start (limits_of w) i + line_width (limits_of w) ≤ length w
area-fits w z i h = omega (arith, row_before i (limits_of w).L (line_width (limits_of w)) h)

-- each ends where the next starts
pub next_start : (l : Limits) (j : ℕ) → line_start l (suc j) ≡ line_start l j + line_width l
next_start l j = omega (arith, suc-mul j (line_width l))

pub line-fits : (w : List ℕ) (i : ℕ) → LineAt w i → line_start (limits_of w) i + line_width (limits_of w) ≤ length w
line-fits w i f = area-fits w f.lined.sized i (omega arith)

pub line-length : (w : List ℕ) (i : ℕ) → LineAt w i → length (line_words_at w i) ≡ line_width (limits_of w)
line-length w i f = part_length (line_start (limits_of w) i) (line_start (limits_of w) i + line_width (limits_of w)) w (line-fits w i f) ∙ omega arith

-- the j-th line's words by the limits
abbrev pub area_in : Limits → List ℕ → ℕ → List ℕ
area_in l v j = part (line_start l j) (line_start l j + line_width l) v

-- the i-th line's words come back as ys
module _ (w ys : List ℕ) (i : ℕ) (f : LineAt w i) (kept : length ys ≡ line_width (limits_of w)) where
  a : ℕ
  a = line_start (limits_of w) i

  e : ℕ
  e = line_start (limits_of w) i + line_width (limits_of w)

  v : List ℕ
  v = back a e ys w

  loan : Loan a e ys w
  unfolding a e
  loan = record { kept = omega arith; start = omega arith; inside = line-fits w i f }

  only : Only a e w v
  unfolding v
  only = only-back loan

  limits : limits_of v ≡ limits_of w
  unfolding a
  limits = limits-stay only (omega arith)

  count : line_count v ≡ line_count w
  unfolding a
  count = only.others 9 (λ p q. omega arith)

  same_area : area_in (limits_of w) v i ≡ ys
  unfolding a e v
  same_area = part_same a e ys w loan

  other-area : (j : ℕ) → j < line_count w → (j ≡ i → ⊥) → area_in (limits_of w) v j ≡ area_in (limits_of w) w j
  unfolding a e v
  other-area j h d =
      let l : Limits = limits_of w in
      let b : ℕ = line_start (limits_of w) j in
      let c : ℕ = line_start (limits_of w) j + line_width (limits_of w) in
      ⊎_elim
      (λ o. part-before a e ys w loan b c (omega (arith, row_before j i (line_width l) o)))
      (λ o. part-after a e ys w loan b c (omega (arith, row_before i j (line_width l) o)) (line-fits w j (record { lined = f.lined; here = h })))
      (apart j i d)

  lines : tab (line_count v) (conn_in v) ≡ set (tab (line_count w) (conn_in w)) i (conn_of (limits_of w).H ys)
  lines =
      let n : ℕ = line_count w in
      let h : ℕ = (limits_of w).H in
      ap (λ (k : ℕ). tab k (conn_in v)) count
      ∙ ap (λ (l : Limits). tab n (λ j. conn_of l.H (area_in l v j))) limits
      ∙ tab-set n (conn_in w) (λ j. conn_of h (area_in (limits_of w) v j)) i (conn_of h ys) (λ m. ap (conn_of h) same_area) (λ j m d. ap (conn_of h) (other-area j m d))

  pub frame-market : market_of (back (line_start (limits_of w) i) (line_start (limits_of w) i + line_width (limits_of w)) ys w)
      ≡ with_lines (set (market_of w).lines i (conn_of (limits_of w).H ys)) (market_of w)
  unfolding market_of a e v
  frame-market =
      let z : Sized w = f.lined.sized in
      market-by v w limits
      (log-stays only (omega arith) z (λ j p q r s. omega arith))
      (head-stays only (omega arith) z (omega arith) (λ p q. omega arith))
      (tables-stay only (omega arith) z (λ j p q r s. omega arith))
      (used-stays only (omega arith) z (omega arith))
      lines

  pub frame-sized : Sized (back (line_start (limits_of w) i) (line_start (limits_of w) i + line_width (limits_of w)) ys w)
  unfolding a e v
  frame-sized = sized-stay only (omega arith) (omega arith) f.lined.sized

  pub frame-kinds : get_or ys 1 0 ≤ 3 → KindsKnown w → KindsKnown (back (line_start (limits_of w) i) (line_start (limits_of w) i + line_width (limits_of w)) ys w)
  unfolding a e v
  frame-kinds k s j h =
      let m : j < line_count w = rw count at h in
      subst (λ (l : Limits). get_or (area_in l v j) 1 0 ≤ 3) (sym limits)
      (⊎_elim
      (λ o. rw (other-area j m (λ q. omega arith)) (s j m))
      (λ o. ⊎_elim (λ p. rw (other-area j m (λ q. omega arith)) (s j m)) (λ p. let q : j ≡ i = omega arith in rw (q, same_area) k) (below_or i j))
      (below_or j i))
