-- What a store means after its lines' words and their count changed, and all else stayed.
use mathlib.Core.Path.{◌≡◌, sym, ap, ◌∙◌, subst}
use mathlib.Core.List.{List}
use Prim.Native.Nat.{ℕ, ◌+◌, ◌≤◌, ◌<◌}
use native.Mathlib.Omega.{arith}
use lib.ListN.{length, get_or}
use Rattle.rules.specs.declared.Limits.{Limits}
use Rattle.rules.specs.Lines.{Connection, with_lines}
use Rattle.words.specs.Words.{part, tab}
use Rattle.words.proofs.Cases.{row_before}
use Rattle.words.proofs.Parts.{part_ext}
use Rattle.lines.specs.Area.{conn_of}
use Rattle.store.specs.Store.{limits_of, head_in, head_of, line_count, used_of, tables_at, lines_at, line_width, line_start, log_words, table_words, conn_in, market_of, Sized, KindsKnown}
use Rattle.store.specs.Moves.{Moved}
use Rattle.store.proofs.LineFrame.{area-fits, area_in}
use Rattle.store.proofs.MarketLaws.{market-by}
use Rattle.store.proofs.FrameLaws.{used-same, sized_same}

-- v is w but for the count of lines and the words from the i-th line's on
pub record Relisted (w v : List ℕ) (i : ℕ) : Type 0 where
  pub size : length v ≡ length w
  pub same : (j : ℕ) → j < line_start (limits_of w) i → (j ≡ 9 → ⊥) → get_or v j 0 ≡ get_or w j 0

module _ (w v : List ℕ) (i : ℕ) (z : Sized w) (r : Relisted w v i) where
  word : (j : ℕ) → j < 64 → (j ≡ 9 → ⊥) → get_or v j 0 ≡ get_or w j 0
  word j h n = r.same j (omega arith) n

  limits : limits_of v ≡ limits_of w
  limits =
      let a = word 0 (omega arith) (λ q. omega arith) in
      let b = word 1 (omega arith) (λ q. omega arith) in
      let c = word 2 (omega arith) (λ q. omega arith) in
      let d = word 3 (omega arith) (λ q. omega arith) in
      let e = word 4 (omega arith) (λ q. omega arith) in λ t. record { L = a t; H = b t; G = c t; C = d t; D = e t }

  -- the lines before the i-th stay
  pub relisted-before : i ≤ (limits_of w).L → (j : ℕ) → j < i → area_in (limits_of w) v j ≡ area_in (limits_of w) w j
  relisted-before h j l =
      let o = row_before j i (line_width (limits_of w)) l in
      part_ext (line_start (limits_of w) j) (line_start (limits_of w) j + line_width (limits_of w)) v w r.size (area-fits w z j (omega arith))
      (λ k m n. r.same k (omega arith) (λ q. omega arith))

  before : (b d : ℕ) → d ≤ lines_at (limits_of w) → ((j : ℕ) → b ≤ j → j < d → j ≡ 9 → ⊥) → part b d v ≡ part b d w
  before b d h n = part_ext b d v w r.size (omega arith) (λ j l m. r.same j (omega arith) (n j l m))

  relisted-market : (ls : List Connection) → tab (line_count v) (λ j. conn_of (limits_of w).H (area_in (limits_of w) v j)) ≡ ls → market_of v ≡ with_lines ls (market_of w)
  unfolding market_of
  relisted-market ls e =
      let log : log_words v ≡ log_words w =
      ap (λ (l : Limits). part 64 (tables_at l) v) limits ∙ before 64 (tables_at (limits_of w)) (omega arith) (λ j l m q. omega arith) in
      let tables : table_words v ≡ table_words w =
      ap (λ (l : Limits). part (tables_at l) (lines_at l) v) limits ∙ before (tables_at (limits_of w)) (lines_at (limits_of w)) (omega arith) (λ j l m q. omega arith) in
      let four = before 5 9 (omega arith) (λ j l m q. omega arith) in
      let front = word 15 (omega arith) (λ q. omega arith) in
      let head : head_of v ≡ head_of w = λ t. head_in (four t) (front t) in
      let used : used_of v ≡ used_of w = used-same v w (λ j l m. word j (omega arith) (omega arith)) in
      let lines : tab (line_count v) (conn_in v) ≡ ls = ap (λ (l : Limits). tab (line_count v) (λ j. conn_of l.H (area_in l v j))) limits ∙ e in
      market-by v w limits log head tables used lines

  -- the market has the lines that the words mean now
  pub relisted-moved : (ls : List Connection) → tab (line_count v) (λ j. conn_of (limits_of w).H (area_in (limits_of w) v j)) ≡ ls
      → (KindsKnown w → (j : ℕ) → j < line_count v → get_or (area_in (limits_of w) v j) 1 0 ≤ 3) → Moved w v (with_lines ls (market_of w))
  relisted-moved ls e k =
      let keys = word 13 (omega arith) (λ q. omega arith) in
      let pairs = word 14 (omega arith) (λ q. omega arith) in
      let front = word 15 (omega arith) (λ q. omega arith) in
      record {
        market = relisted-market ls e;
        sized =
            sized_same v w (word 12 (omega arith) (λ q. omega arith)) limits r.size
            (omega (arith, front, z.front)) (omega (arith, keys, z.new_keys)) (omega (arith, pairs, z.new_pairs)) z;
        kinds = λ s j h. subst (λ (l : Limits). get_or (area_in l v j) 1 0 ≤ 3) (sym limits) (k s j h);
      }
