-- The log of a whole store: its head's words, and what a move on it leaves of the market.
use Rattle.std.specs.Prelude.{Option, None, Some}
use mathlib.Core.Path.{◌≡◌, refl, sym, ap, ◌∙◌}
use mathlib.Core.List.{List}
use Prim.Native.Nat.{ℕ, ◌+◌, ◌*◌, ◌^◌, ◌≤◌, ◌<◌}
use native.Mathlib.Omega.{arith}
use lib.ListN.{length, get_or}
use Rattle.rules.specs.declared.Limits.{Limits}
use Rattle.rules.specs.Log.{Log, end}
use Rattle.rules.specs.Lines.{Market, with_log}
use Rattle.rules.specs.Sound as Rules
use Rattle.words.specs.Words.{part, back}
use Rattle.words.proofs.Parts.{part_length, get_d_part}
use Rattle.event_log.specs.declared.Head.{Head}
use Rattle.event_log.specs.Log.{log_of, Fit, Ring}
use Rattle.lines.specs.Area.{stamp_in}
use Rattle.lines.proofs.AreaLaws.{stamp-at}
use Rattle.store.specs.Store.{limits_of, head_of, put_head, tables_at, log_words, key_words, market_of, Sized, Sound}
use Rattle.store.specs.Moves.{Moved, Counts}
use Rattle.store.proofs.MarketLaws.{market-limits, market-log, log-ends, entry-count, key-count, pair-count, lines-count}
use Rattle.store.proofs.FrameLaws.{put_log, moved_on, moved-is, head-moved, log-limits, log-put, log-moved}

-- ---- the head's words

module _ (w : List ℕ) where
  pub base_word : (head_of w).base ≡ get_or w 5 0
  base_word = get_d_part 5 9 w 0 (omega arith)

  pub count_word : (head_of w).count ≡ get_or w 6 0
  count_word = get_d_part 5 9 w 1 (omega arith)

  pub end-said : get_or w 5 0 + get_or w 6 0 ≡ end (market_of w).log
  end-said = omega (arith, log-ends w, base_word, count_word)

module _ (w : List ℕ) where
  head-reads : {s : Option ℕ} → s ≡ stamp_in (get_or w 7 0) (get_or w 8 0) → record { base = get_or w 5 0; count = get_or w 6 0; last = s; front = get_or w 15 0 } ≡ head_of w
  head-reads q =
      let at : (i : ℕ) → i < 4 → get_or w (5 + i) 0 ≡ get_or (part 5 9 w) i 0 = λ i l. sym (get_d_part 5 9 w i (omega arith)) in
      λ j.
      record {
        base = at 0 (omega arith) j;
        count = at 1 (omega arith) j;
        last = (q ∙ (λ k. stamp_in (at 2 (omega arith) k) (at 3 (omega arith) k))) j;
        front = get_or w 15 0;
      }

  pub head_never : get_or w 7 0 ≡ 0 → record { base = get_or w 5 0; count = get_or w 6 0; last = None; front = get_or w 15 0 } ≡ head_of w
  head_never e = head-reads (ap (λ (f : ℕ). stamp_in f (get_or w 8 0)) (sym e))

  pub head_at : (get_or w 7 0 ≡ 0 → ⊥) → record { base = get_or w 5 0; count = get_or w 6 0; last = Some (get_or w 8 0); front = get_or w 15 0 } ≡ head_of w
  head_at n = head-reads (stamp-at (get_or w 7 0) (get_or w 8 0) n)

-- ---- the header's counts are the lengths of the market's lists

pub record Within (m : Market) : Type 0 where
  pub entries : length m.log.entries ≤ m.limits.G
  pub numbers : end m.log < 2 ^ 64
  pub lines : length m.lines ≤ m.limits.L
  pub keys : length m.prints.key_rows ≤ m.limits.C
  pub pairs : length m.prints.count_rows ≤ m.limits.D

pub counts-within : {w : List ℕ} → Within (market_of w) → Counts w
counts-within {w} m =
    let limit : (f : Limits → ℕ) → f (market_of w).limits ≡ f (limits_of w) = λ f. ap f (market-limits w) in
    record {
      entries = omega (arith, entry-count w, limit (λ l. l.G), m.entries);
      numbers = omega (arith, log-ends w, m.numbers);
      lines = omega (arith, lines-count w, limit (λ l. l.L), m.lines);
      keys = omega (arith, key-count w, limit (λ l. l.C), m.keys);
      pairs = omega (arith, pair-count w, limit (λ l. l.D), m.pairs);
    }

pub within-sound : {m : Market} → Rules.Sound m → Within m
within-sound s =
    record {
      entries = omega (arith, s.lines.log_fits);
      numbers = omega (arith, s.lines.numbers_fit);
      lines = s.lines.lines_fit;
      keys = s.prints.keys_fit;
      pairs = s.prints.pairs_fit;
    }

-- what soundness says of the counts
pub counts : {w : List ℕ} → Sound w → Counts w
counts s = counts-within (within-sound s.market)

-- the keys' words are a ring
pub ring : {w : List ℕ} → Sound w → Ring (limits_of w).G (head_of w).front (head_of w).count (key_words w)
ring {w} s =
    let z = s.sized in
    record { size = omega (arith, part_length 64 (64 + 2 * (limits_of w).G) w (omega arith)); front = z.front; count = (counts s).entries }

-- ---- moves

-- the log's words lie from 64 on and below e
module _ {w : List ℕ} {e : ℕ} {h : Head} (k : e ≡ tables_at (limits_of w)) (z : Sized w) (q : h ≡ head_of w) where
  -- a front that stays
  pub below : {n : ℕ} → n ≡ h.front → n < (limits_of w).G
  below e = omega (arith, ap (λ (x : Head). x.front) q, z.front)

  fit : (head_of w).count ≤ (limits_of w).G → Fit (limits_of w).G (part 64 e w) h
  fit l = record { size = part_length 64 e w (omega arith) ∙ omega arith; count = omega (arith, ap (λ (x : Head). x.count) q); front = below refl }

  pub push-ready : (head_of w).count < (limits_of w).G → Fit (limits_of w).G (part 64 e w) h × (h.count < (limits_of w).G)
  push-ready l = (fit (omega arith), omega (arith, ap (λ (x : Head). x.count) q))

  pub prune-ready : Counts w → Fit (limits_of w).G (part 64 e w) h × (h.base + h.count < 2 ^ 64)
  prune-ready n = (fit n.entries, omega (arith, ap (λ (x : Head). x.base + x.count) q))

  -- the log as it was
  was : log_of (limits_of w).G (part 64 e w) h ≡ (market_of w).log
  was = (λ j. log_of (limits_of w).G (part 64 (k j) w) (q j)) ∙ sym (market-log w)

  -- they and the head's words are new
  pub log-done : {v : List ℕ} (ys : List ℕ) (new : Head) (f : Log → Log) → Fit (limits_of w).G ys new
      → log_of (limits_of w).G ys new ≡ f (log_of (limits_of w).G (part 64 e w) h) → v ≡ put_head new (back 64 e ys w)
      → Moved w v (with_log (f (market_of w).log) (market_of w))
  log-done {v} ys new f t r b =
      let kept = t.size in
      let one = log-moved w ys z kept in
      let limits = log-limits w ys z kept in
      let two = head-moved (put_log ys w) new one.sized (omega (arith, ap (λ (l : Limits). l.G) limits, t.front)) in
      let log : log_of (limits_of (put_log ys w)).G (log_words (put_log ys w)) new ≡ f (market_of w).log =
      (λ j. log_of (limits j).G (log-put w ys z kept j) new) ∙ r ∙ ap f was in
      moved-is (b ∙ ap (λ (x : ℕ). put_head new (back 64 x ys w)) k) (moved_on one two) (λ j. with_log (log j) (one.market j))

  -- the head's words alone are new
  pub head_done : {v : List ℕ} (new : Head) (f : Log → Log) → new.front < (limits_of w).G
      → log_of (limits_of w).G (part 64 e w) new ≡ f (log_of (limits_of w).G (part 64 e w) h) → v ≡ put_head new w
      → Moved w v (with_log (f (market_of w).log) (market_of w))
  head_done new f l r b =
      let log : log_of (limits_of w).G (log_words w) new ≡ f (market_of w).log =
      (λ j. log_of (limits_of w).G (part 64 (sym k j) w) new) ∙ r ∙ ap f was in
      moved-is b (head-moved w new z l) (λ j. with_log (log j) (market_of w))
