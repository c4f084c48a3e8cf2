-- What a change of some words leaves of a store's reading: each of its parts is read from words of its own.
use mathlib.Core.Path.{◌≡◌, refl, sym, ap, ◌∙◌, subst}
use mathlib.Core.List.{List}
use Prim.Native.Nat.{ℕ, ◌+◌, ◌-◌, ◌*◌, ◌≤◌, ◌<◌}
use native.Mathlib.Omega.{arith}
use mathlib.Core.Logic.{⊎_elim}
use lib.ListN.{length, take, drop, get_or, set, length-drop, length-set}
use lib.Seq.{ext_get_or, get_or-drop, get_or-set_same, get_or-set_other}
use Rattle.rules.specs.declared.Limits.{Limits}
use Rattle.rules.specs.Quantities.{words_needed}
use Rattle.rules.specs.Lines.{Market, with_log, with_prints}
use Rattle.rules.specs.Sound as Rules
use Rattle.words.specs.Words.{part, back, tab}
use Rattle.words.proofs.Parts.{Loan, part_ext, part_same, length_back, back_below, back_above}
use Rattle.words.proofs.Tab.{tab-ext}
use Rattle.words.proofs.Cases.{below_or}
use Rattle.event_log.specs.declared.Head.{Head}
use Rattle.event_log.specs.Log.{log_of}
use Rattle.rows.specs.Tables.{most_new}
use Rattle.prints.specs.declared.Used.{Used}
use Rattle.prints.specs.Area.{prints_of}
use Rattle.lines.specs.Area.{conn_of}
use Rattle.lines.proofs.AreaLaws.{stamp-back}
use Rattle.store.specs.Store.{layout_of, limits_of, head_in, head_words, head_of, put_head, line_count, used_of, put_used, tables_at, lines_at, line_width, line_start}
use Rattle.store.specs.Store.{log_words, table_words, line_words_at, conn_in, market_of, Sized, KindsKnown, Sound}
use Rattle.store.specs.Moves.{Moved}
use Rattle.store.proofs.MarketLaws.{market-limits, market-by}

-- ---- the words of a store after part of them came back: the log's words, the tables' words

abbrev pub put_log : List ℕ → List ℕ → List ℕ
put_log ys w = back 64 (tables_at (limits_of w)) ys w

abbrev pub put_tables : List ℕ → List ℕ → List ℕ
put_tables ys w = back (tables_at (limits_of w)) (lines_at (limits_of w)) ys w

-- ---- a change of some words

-- v is w but for words from a on and below e
pub record Only (a e : ℕ) (w v : List ℕ) : Type 0 where
  pub size : length v ≡ length w
  pub others : (i : ℕ) → (a ≤ i → i < e → ⊥) → get_or v i 0 ≡ get_or w i 0

pub only-back : {a e : ℕ} {ys w : List ℕ} → Loan a e ys w → Only a e w (back a e ys w)
only-back {a} {e} {ys} {w} h =
    record {
      size = length_back a e ys w h;
      others = λ i n. ⊎_elim (back_below a e ys w h i) (λ l. back_above a e ys w h i (⊎_elim (λ m. absurd (n l m)) (λ m. m) (below_or i e))) (below_or i a);
    }

-- the words from the a-th on, to the end
drop-ext : (a : ℕ) (v w : List ℕ) → length v ≡ length w → ((i : ℕ) → a ≤ i → get_or v i 0 ≡ get_or w i 0) → drop a v ≡ drop a w
drop-ext a v w e h =
    ext_get_or 0 (drop a v) (drop a w) (simp length-drop (omega arith)) (λ i l. get_or-drop a v i 0 ∙ h (a + i) (omega arith) ∙ sym (get_or-drop a w i 0))

-- the rows in use, by words that are the same
pub used-same : (v w : List ℕ) → ((i : ℕ) → 10 ≤ i → i < 15 → get_or v i 0 ≡ get_or w i 0) → used_of v ≡ used_of w
used-same v w h =
    let keys = h 10 (omega arith) (omega arith) in
    let counts = h 11 (omega arith) (omega arith) in
    let new_keys = h 13 (omega arith) (omega arith) in
    let new_counts = h 14 (omega arith) (omega arith) in
    λ j. record { keys = record { old = keys j; new = new_keys j }; counts = record { old = counts j; new = new_counts j } }

-- a store of the same layout, limits and length, with its front below G and few new rows, is sized too
pub sized_same : (v w : List ℕ) → layout_of v ≡ layout_of w → limits_of v ≡ limits_of w → length v ≡ length w
    → (head_of v).front < (limits_of w).G → (used_of v).keys.new ≤ most_new → (used_of v).counts.new ≤ most_new → Sized w → Sized v
sized_same v w y q n below few few' s =
    let limits : (f : Limits → ℕ) → f (limits_of v) ≡ f (limits_of w) = λ f. ap f q in
    record {
      header = rw n s.header;
      version = y ∙ s.version;
      long = rw (n, limits words_needed) s.long;
      lines = rw (limits (λ l. l.L)) s.lines;
      held = rw (limits (λ l. l.H)) s.held;
      events = rw (limits (λ l. l.G)) s.events;
      keys = rw (limits (λ l. l.C)) s.keys;
      pairs = rw (limits (λ l. l.D)) s.pairs;
      front = rw (limits (λ l. l.G)) below;
      new_keys = few;
      new_pairs = few';
    }

-- ---- what stays where the limits' words do

module _ {a e : ℕ} {w v : List ℕ} (o : Only a e w v) (below : 5 ≤ a) where
  low : (i : ℕ) → i < 5 → get_or v i 0 ≡ get_or w i 0
  low i l = o.others i (λ p q. omega arith)

  pub limits-stay : limits_of v ≡ limits_of w
  limits-stay = λ j. record { L = low 0 (omega arith) j; H = low 1 (omega arith) j; G = low 2 (omega arith) j; C = low 3 (omega arith) j; D = low 4 (omega arith) j }

  pub sized-stay : 16 ≤ a → Sized w → Sized v
  sized-stay l z =
      let word : (i : ℕ) → i < 16 → get_or v i 0 ≡ get_or w i 0 = λ i m. o.others i (λ p q. omega arith) in
      sized_same v w (word 12 (omega arith)) limits-stay o.size
      (omega (arith, word 15 (omega arith), z.front))
      (omega (arith, word 13 (omega arith), z.new_keys))
      (omega (arith, word 14 (omega arith), z.new_pairs))
      z

  -- a part that the change leaves
  pub part_stays : (b f : ℕ) → f ≤ length w → ((i : ℕ) → b ≤ i → i < f → a ≤ i → i < e → ⊥) → part b f v ≡ part b f w
  part_stays b f l apart = part_ext b f v w o.size l (λ i p q. o.others i (apart i p q))

  module _ (z : Sized w) where
    pub head-stays : 9 ≤ a → (a ≤ 15 → 15 < e → ⊥) → head_of v ≡ head_of w
    head-stays l n =
        let words = part_stays 5 9 (omega arith) (λ i p q r s. omega arith) in
        let front = o.others 15 n in
        λ j. head_in (words j) (front j)

    pub used-stays : 15 ≤ a → used_of v ≡ used_of w
    used-stays l = used-same v w (λ i p q. o.others i (λ r s. omega arith))

    pub log-stays : ((i : ℕ) → 64 ≤ i → i < tables_at (limits_of w) → a ≤ i → i < e → ⊥) → log_words v ≡ log_words w
    log-stays apart = ap (λ (l : Limits). part 64 (tables_at l) v) limits-stay ∙ part_stays 64 (tables_at (limits_of w)) (omega arith) apart

    pub tables-stay : ((i : ℕ) → tables_at (limits_of w) ≤ i → i < lines_at (limits_of w) → a ≤ i → i < e → ⊥) → table_words v ≡ table_words w
    tables-stay apart = ap (λ (l : Limits). part (tables_at l) (lines_at l) v) limits-stay ∙ part_stays (tables_at (limits_of w)) (lines_at (limits_of w)) (omega arith) apart

    -- ---- a change neither in the lines' words nor in their count
    module _ (count-stays : line_count v ≡ line_count w) (ends : e ≤ lines_at (limits_of w)) (sized : Sized v) where
      line_stays : (i : ℕ) → line_words_at v i ≡ line_words_at w i
      line_stays i =
          let b = line_start (limits_of w) i in
          ap (λ (l : Limits). part (line_start l i) (line_start l i + line_width l) v) limits-stay
          ∙ ap (take (b + line_width (limits_of w) - b)) (drop-ext b v w o.size (λ j l. o.others j (λ p q. omega arith)))

      lines_stay : tab (line_count v) (conn_in v) ≡ tab (line_count w) (conn_in w)
      lines_stay =
          ap (λ (n : ℕ). tab n (conn_in v)) count-stays ∙ tab-ext (line_count w) (conn_in v) (conn_in w) (λ i l. λ j. conn_of (limits-stay j).H (line_stays i j))

      kinds-stay : KindsKnown w → KindsKnown v
      kinds-stay k i l = subst (λ (x : List ℕ). get_or x 1 0 ≤ 3) (sym (line_stays i)) (k i (omega (arith, count-stays)))

      -- the market then has the log and the prints that the words mean now
      pub moved_to : {xs ts : List ℕ} {h : Head} {u : Used} → log_words v ≡ xs → head_of v ≡ h → table_words v ≡ ts → used_of v ≡ u
          → Moved w v (with_log (log_of (limits_of w).G xs h) (with_prints (prints_of (limits_of w).C ts u) (market_of w)))
      unfolding market_of
      moved_to x h t u =
          record {
            market = market-by v w limits-stay x h t u lines_stay;
            sized = sized;
            kinds = kinds-stay;
          }

-- one move after another
pub moved_on : {w v x : List ℕ} {m n : Market} → Moved w v m → Moved v x n → Moved w x n
moved_on a b = record { market = b.market; sized = b.sized; kinds = λ k. b.kinds (a.kinds k) }

-- the same move, by equal words and an equal market
pub moved-is : {w v x : List ℕ} {m n : Market} → v ≡ x → Moved w x m → m ≡ n → Moved w v n
moved-is {w} p a q = rw p (record { market = a.market ∙ q; sized = a.sized; kinds = a.kinds })

-- what a move leaves: the market's limits, and with a sound market a sound store
pub moved-limits : {w v : List ℕ} {m : Market} → Moved w v m → limits_of v ≡ m.limits
moved-limits {w} {v} a = sym (market-limits v) ∙ ap (λ (n : Market). n.limits) a.market

pub moved-sound : {w v : List ℕ} {m : Market} → Sound w → Moved w v m → Rules.Sound m → Sound v
moved-sound s a r = record { sized = a.sized; kinds = a.kinds s.kinds; market = subst Rules.Sound (sym a.market) r }

-- ---- the head's words come back as those of h

head-back : (h : Head) → head_in (head_words h) h.front ≡ h
head-back h = λ j. record { base = h.base; count = h.count; last = stamp-back h.last j; front = h.front }

module _ (w : List ℕ) (h : Head) (z : Sized w) (below : h.front < (limits_of w).G) where
  head-loan : Loan 5 9 (head_words h) w
  head-loan = record { kept = refl; start = omega arith; inside = omega arith }

  head-other : (i : ℕ) → (5 ≤ i → i < 9 → ⊥) → (i ≡ 15 → ⊥) → get_or (put_head h w) i 0 ≡ get_or w i 0
  head-other i n m = get_or-set_other (back 5 9 (head_words h) w) 15 i h.front 0 m ∙ (only-back head-loan).others i n

  only-head : Only 5 16 w (put_head h w)
  only-head =
      record {
        size = simp length-set (only-back head-loan).size;
        others = λ i n. head-other i (λ p q. n p (omega arith)) (λ q. n (omega arith) (omega arith));
      }

  front-put : (head_of (put_head h w)).front ≡ h.front
  front-put = get_or-set_same (back 5 9 (head_words h) w) 15 h.front 0 (omega (arith, (only-back head-loan).size))

  head-put : head_of (put_head h w) ≡ h
  head-put =
      let v = back 5 9 (head_words h) w in
      let words : part 5 9 (put_head h w) ≡ head_words h =
      part_ext 5 9 (put_head h w) v (simp length-set) (omega (arith, (only-back head-loan).size)) (λ i p q. get_or-set_other v 15 i h.front 0 (omega arith))
      ∙ part_same 5 9 (head_words h) w head-loan in
      (λ j. head_in (words j) (front-put j)) ∙ head-back h

  pub head-moved : Moved w (put_head h w) (with_log (log_of (limits_of w).G (log_words w) h) (market_of w))
  unfolding market_of
  head-moved =
      let o = only-head in
      let word : (i : ℕ) → 9 ≤ i → i < 15 → get_or (put_head h w) i 0 ≡ get_or w i 0 = λ i p q. head-other i (λ r s. omega arith) (omega arith) in
      let used = used-same (put_head h w) w (λ i p q. word i (omega arith) q) in
      moved_to o (omega arith) z (word 9 (omega arith) (omega arith)) (omega arith)
      (sized_same (put_head h w) w (word 12 (omega arith) (omega arith)) (limits-stay o (omega arith)) o.size
      (rw front-put below)
      (omega (arith, word 13 (omega arith) (omega arith), z.new_keys))
      (omega (arith, word 14 (omega arith) (omega arith), z.new_pairs))
      z)
      (log-stays o (omega arith) z (λ i p q r s. omega arith))
      head-put
      (tables-stay o (omega arith) z (λ i p q r s. omega arith))
      used

-- ---- the log's words come back as ys
module _ (w ys : List ℕ) (z : Sized w) (kept : length ys ≡ 3 * (limits_of w).G) where
  log-loan : Loan 64 (tables_at (limits_of w)) ys w
  log-loan = record { kept = omega arith; start = omega arith; inside = omega arith }

  pub log-limits : limits_of (put_log ys w) ≡ limits_of w
  log-limits = limits-stay (only-back log-loan) (omega arith)

  pub log-put : log_words (put_log ys w) ≡ ys
  log-put = ap (λ (l : Limits). part 64 (tables_at l) (put_log ys w)) log-limits ∙ part_same 64 (tables_at (limits_of w)) ys w log-loan

  pub log-moved : Moved w (put_log ys w) (with_log (log_of (limits_of w).G ys (head_of w)) (market_of w))
  unfolding market_of
  log-moved =
      let o = only-back log-loan in
      moved_to o (omega arith) z (o.others 9 (λ p q. omega arith)) (omega arith) (sized-stay o (omega arith) (omega arith) z)
      log-put
      (head-stays o (omega arith) z (omega arith) (λ p q. omega arith))
      (tables-stay o (omega arith) z (λ i p q r s. omega arith))
      (used-stays o (omega arith) z (omega arith))

-- ---- the tables' words come back as ys
module _ (w ys : List ℕ) (z : Sized w) (kept : length ys ≡ 4 * (limits_of w).C + 4 * (limits_of w).D) where
  tables-loan : Loan (tables_at (limits_of w)) (lines_at (limits_of w)) ys w
  tables-loan = record { kept = omega arith; start = omega arith; inside = omega arith }

  pub tables-limits : limits_of (put_tables ys w) ≡ limits_of w
  tables-limits = limits-stay (only-back tables-loan) (omega arith)

  pub tables-put : table_words (put_tables ys w) ≡ ys
  tables-put = ap (λ (l : Limits). part (tables_at l) (lines_at l) (put_tables ys w)) tables-limits ∙ part_same (tables_at (limits_of w)) (lines_at (limits_of w)) ys w tables-loan

  pub tables-moved : Moved w (put_tables ys w) (with_prints (prints_of (limits_of w).C ys (used_of w)) (market_of w))
  unfolding market_of
  tables-moved =
      let o = only-back tables-loan in
      moved_to o (omega arith) z (o.others 9 (λ p q. omega arith)) (omega arith) (sized-stay o (omega arith) (omega arith) z)
      (log-stays o (omega arith) z (λ i p q r s. omega arith))
      (head-stays o (omega arith) z (omega arith) (λ p q. omega arith))
      tables-put
      (used-stays o (omega arith) z (omega arith))

-- ---- the counts of the tables' rows are set to those of u
module _ (w : List ℕ) (u : Used) (z : Sized w) where
  only-used : Only 10 15 w (put_used u w)
  only-used =
      let x = set w 10 u.keys.old in
      let y = set x 11 u.counts.old in
      record {
        size = simp length-set;
        others = λ i h.
            get_or-set_other (set y 13 u.keys.new) 14 i u.counts.new 0 (λ q. h (omega arith) (omega arith))
            ∙ get_or-set_other y 13 i u.keys.new 0 (λ q. h (omega arith) (omega arith))
            ∙ get_or-set_other x 11 i u.counts.old 0 (λ q. h (omega arith) (omega arith))
            ∙ get_or-set_other w 10 i u.keys.old 0 (λ q. h (omega arith) (omega arith));
      }

  pub used-put : used_of (put_used u w) ≡ u
  used-put =
      let x = set w 10 u.keys.old in
      let y = set x 11 u.counts.old in
      let r = set y 13 u.keys.new in
      let keys : get_or (put_used u w) 10 0 ≡ u.keys.old =
      get_or-set_other r 14 10 u.counts.new 0 (omega arith) ∙ get_or-set_other y 13 10 u.keys.new 0 (omega arith)
      ∙ get_or-set_other x 11 10 u.counts.old 0 (omega arith) ∙ get_or-set_same w 10 u.keys.old 0 (omega arith) in
      let counts : get_or (put_used u w) 11 0 ≡ u.counts.old =
      get_or-set_other r 14 11 u.counts.new 0 (omega arith) ∙ get_or-set_other y 13 11 u.keys.new 0 (omega arith)
      ∙ get_or-set_same x 11 u.counts.old 0 (simp length-set (omega arith)) in
      let new_keys : get_or (put_used u w) 13 0 ≡ u.keys.new =
      get_or-set_other r 14 13 u.counts.new 0 (omega arith) ∙ get_or-set_same y 13 u.keys.new 0 (simp length-set (omega arith)) in
      let new_counts : get_or (put_used u w) 14 0 ≡ u.counts.new = get_or-set_same r 14 u.counts.new 0 (simp length-set (omega arith)) in
      λ j. record { keys = record { old = keys j; new = new_keys j }; counts = record { old = counts j; new = new_counts j } }

  pub used-tables : table_words (put_used u w) ≡ table_words w
  used-tables = tables-stay only-used (omega arith) z (λ i p q r s. omega arith)

  pub used-moved : u.keys.new ≤ most_new → u.counts.new ≤ most_new → Moved w (put_used u w) (with_prints (prints_of (limits_of w).C (table_words w) u) (market_of w))
  unfolding market_of
  used-moved few few' =
      let o = only-used in
      let layout : layout_of (put_used u w) ≡ layout_of w =
      let x = set w 10 u.keys.old in
      let y = set x 11 u.counts.old in
      get_or-set_other (set y 13 u.keys.new) 14 12 u.counts.new 0 (omega arith) ∙ get_or-set_other y 13 12 u.keys.new 0 (omega arith)
      ∙ get_or-set_other x 11 12 u.counts.old 0 (omega arith) ∙ get_or-set_other w 10 12 u.keys.old 0 (omega arith) in
      let front : (head_of (put_used u w)).front ≡ (head_of w).front = o.others 15 (λ p q. omega arith) in
      let keys : (used_of (put_used u w)).keys.new ≡ u.keys.new = ap (λ (r : Used). r.keys.new) used-put in
      let pairs : (used_of (put_used u w)).counts.new ≡ u.counts.new = ap (λ (r : Used). r.counts.new) used-put in
      moved_to o (omega arith) z (o.others 9 (λ p q. omega arith)) (omega arith)
      (sized_same (put_used u w) w layout (limits-stay o (omega arith)) o.size (omega (arith, front, z.front)) (omega arith) (omega arith) z)
      (log-stays o (omega arith) z (λ i p q r s. omega arith))
      (head-stays o (omega arith) z (omega arith) (λ p q. omega arith))
      used-tables
      used-put
