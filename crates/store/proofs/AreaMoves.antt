-- Areas moved by one width: a line fewer, and a line more.
use mathlib.Core.Path.{◌≡◌, ap, ◌∙◌}
use mathlib.Core.Logic.{⊎_elim}
use mathlib.Core.List.{List}
use Prim.Native.Nat.{ℕ, zero, suc, ◌-◌, ◌≤◌, ◌<◌, zero-le, suc-le-suc}
use native.Mathlib.Nat.{not-suc-le-zero, le_of_suc-le-suc}
use native.Mathlib.Omega.{arith}
use lib.ListN.{get_or}
use Rattle.rules.specs.Lines.{Connection, is_failed, waiting, with_lines}
use Rattle.words.specs.Words.{tab}
use Rattle.words.proofs.Cases.{below_or}
use Rattle.words.proofs.Tab.{tab-ext}
use Rattle.lines.specs.Area.{conn_of}
use Rattle.lines.proofs.AreaLaws.{kind-known}
use Rattle.store.specs.Store.{limits_of, line_count, line_words_at, conn_in, market_of}
use Rattle.store.specs.Moves.{Moved}
use Rattle.store.specs.ConnMoves.{LineAt}
use Rattle.store.specs.Areas.{without, inserted, Room}
use Rattle.store.proofs.LineFrame.{area_in}
use Rattle.store.proofs.Relisted.{Relisted, relisted-before, relisted-moved}

-- ---- lists by place

module _ {A : Type 0} where
  -- rows of an index: one fewer, or one more
  pub tab-without : (n : ℕ) (f g : ℕ → A) (i : ℕ) → i ≤ n → ((j : ℕ) → j < i → g j ≡ f j) → ((j : ℕ) → i ≤ j → j < n → g j ≡ f (suc j))
      → tab n g ≡ without i (tab (suc n) f)
  unfolding without
  tab-without n f g zero h a b = tab-ext n g (λ j. f (suc j)) (λ j l. b j zero-le l)
  tab-without zero f g (suc i) h a b = absurd (not-suc-le-zero h)
  tab-without (suc n) f g (suc i) h a b =
      rw (
        a 0 (suc-le-suc zero-le),
        tab-without n (λ j. f (suc j)) (λ j. g (suc j)) i (le_of_suc-le-suc h) (λ j l. a (suc j) (suc-le-suc l)) (λ j k l. b (suc j) (suc-le-suc k) (suc-le-suc l)),
      )

  pub tab-inserted : (n : ℕ) (f g : ℕ → A) (i : ℕ) (x : A) → i ≤ n → g i ≡ x → ((j : ℕ) → j < i → g j ≡ f j) → ((j : ℕ) → i ≤ j → j < n → g (suc j) ≡ f j)
      → tab (suc n) g ≡ inserted i x (tab n f)
  unfolding inserted
  tab-inserted n f g zero x h q a b = rw (q, tab-ext n (λ j. g (suc j)) f (λ j l. b j zero-le l))
  tab-inserted zero f g (suc i) x h q a b = absurd (not-suc-le-zero h)
  tab-inserted (suc n) f g (suc i) x h q a b =
      rw (
        a 0 (suc-le-suc zero-le),
        tab-inserted n (λ j. f (suc j)) (λ j. g (suc j)) i x (le_of_suc-le-suc h) q (λ j l. a (suc j) (suc-le-suc l)) (λ j k l. b (suc j) (suc-le-suc k) (suc-le-suc l)),
      )

-- ---- areas

-- the k-th area of v says what the j-th of w does, with the same word for the kind
pub record SaysAs (w v : List ℕ) (j k : ℕ) : Type 0 where
  pub conn : conn_of (limits_of w).H (area_in (limits_of w) v k) ≡ conn_in w j
  pub kind : get_or (area_in (limits_of w) v k) 1 0 ≡ get_or (line_words_at w j) 1 0

-- ---- the i-th area goes

pub record Closed (w v : List ℕ) (i : ℕ) : Type 0 where
  pub kept : Relisted w v i
  pub count : suc (line_count v) ≡ line_count w
  pub moved : (j : ℕ) → i ≤ j → suc j < line_count w → SaysAs w v (suc j) j

module _ (w v : List ℕ) (i : ℕ) (f : LineAt w i) (c : Closed w v i) where
  closed-before : (j : ℕ) → j < i → area_in (limits_of w) v j ≡ area_in (limits_of w) w j
  closed-before = relisted-before w v i f.lined.sized c.kept (omega arith)

  pub closed-moved : Moved w v (with_lines (without i (market_of w).lines) (market_of w))
  unfolding market_of
  closed-moved =
      let n : suc (line_count v) ≡ line_count w = c.count in
      relisted-moved w v i f.lined.sized c.kept (without i (market_of w).lines)
      (tab-without (line_count v) (conn_in w) (λ j. conn_of (limits_of w).H (area_in (limits_of w) v j)) i (omega arith)
      (λ j h. ap (conn_of (limits_of w).H) (closed-before j h))
      (λ j h k. (c.moved j h (omega arith)).conn)
      ∙ ap (λ (k : ℕ). without i (tab k (conn_in w))) n)
      (λ s j h.
      ⊎_elim
      (λ o. rw (closed-before j o) (s j (omega arith)))
      (λ o. rw (c.moved j o (omega arith)).kind (s (suc j) (omega arith)))
      (below_or j i))

-- ---- an area with the words zs comes in before the i-th

pub record Opened (w v zs : List ℕ) (i : ℕ) : Type 0 where
  pub kept : Relisted w v i
  pub count : line_count v ≡ suc (line_count w)
  pub new : area_in (limits_of w) v i ≡ zs
  pub moved : (j : ℕ) → i ≤ j → j < line_count w → SaysAs w v j (suc j)

module _ (w v zs : List ℕ) (i : ℕ) (f : Room w i) (c : Opened w v zs i) where
  opened-before : (j : ℕ) → j < i → area_in (limits_of w) v j ≡ area_in (limits_of w) w j
  opened-before = relisted-before w v i f.lined.sized c.kept (omega arith)

  pub opened-moved : (conn limit t : ℕ) → ((h : ℕ) → conn_of h zs ≡ waiting conn limit t) → Moved w v (with_lines (inserted i (waiting conn limit t) (market_of w).lines) (market_of w))
  unfolding market_of
  opened-moved conn limit t z =
      let m : line_count v ≡ suc (line_count w) = c.count in
      relisted-moved w v i f.lined.sized c.kept (inserted i (waiting conn limit t) (market_of w).lines)
      (ap (λ (k : ℕ). tab k (λ j. conn_of (limits_of w).H (area_in (limits_of w) v j))) m
      ∙ tab-inserted (line_count w) (conn_in w) (λ j. conn_of (limits_of w).H (area_in (limits_of w) v j)) i (waiting conn limit t) f.here
      (ap (conn_of (limits_of w).H) c.new ∙ z (limits_of w).H)
      (λ j h. ap (conn_of (limits_of w).H) (opened-before j h))
      (λ j h k. (c.moved j h k).conn))
      (λ s j h.
      ⊎_elim
      (λ o. rw (opened-before j o) (s j (omega (arith, f.here))))
      (λ o.
      ⊎_elim
      (λ p. let k : ℕ = j - 1 in let q : j ≡ suc k = omega arith in rw (q, (c.moved k (omega arith) (omega arith)).kind) (s k (omega arith)))
      (λ p.
      let q : j ≡ i = omega arith in
      rw (q, c.new) (kind-known (limits_of w).H zs (ap (λ (c : Connection). is_failed c.line) (z (limits_of w).H))))
      (below_or i j))
      (below_or j i))
