-- A store is sound just where its parts are.
use mathlib.Core.Path.{◌≡◌}
use mathlib.Core.Logic.{⊎_elim}
use mathlib.Core.List.{List}
use mathlib.Core.Bool.{Bool}
use Prim.Native.Nat.{ℕ, zero, suc, ◌+◌, ◌-◌, ◌<◌}
use native.Mathlib.Omega.{arith}
use Rattle.rules.specs.declared.Limits.{Limits}
use Rattle.rules.specs.Lists.{Each, Rising}
use Rattle.rules.specs.Lines as Rules
use Rattle.rules.specs.Sound.{ConnSound, LineSound, Lower, TablesSound}
use Rattle.words.specs.Words.{tab, Says}
use Rattle.words.proofs.Cases.{below_or}
use Rattle.words.proofs.Lists.{each_of, each_in, rising-of, rising-in}
use Rattle.lines.specs.AreaSound.{LineFits}
use Rattle.store.specs.Store.{limits_of, head_of, line_count, conn_in, market_of, Sound}
use Rattle.store.specs.Moves.{Counts}
use Rattle.store.proofs.MarketLaws.{market-limits, market-lines, log-ends, entry-count, lines-count, key-count, pair-count, conn-words}
use Rattle.store.proofs.ConnLaws.{prints-counted, limit-said, fits-sound}
use Rattle.sound.specs.Parts.{Ranged, EachSound, ItemsFit}
use Rattle.sound.proofs.LineLaws.{says-as}

-- of the limits a line's soundness reads only H
fits-of : (l : Limits) (e : ℕ) (x : Rules.Line) → LineSound l e x → LineFits l.H e x
fits-of l e (Rules.Waiting is since) t = t
fits-of l e (Rules.Pending is at since) t = t
fits-of l e (Rules.InLine n a b) t = t
fits-of l e Rules.Failed t = t

of-fits : (l : Limits) (e : ℕ) (x : Rules.Line) → LineFits l.H e x → LineSound l e x
of-fits l e (Rules.Waiting is since) t = t
of-fits l e (Rules.Pending is at since) t = t
of-fits l e (Rules.InLine n a b) t = t
of-fits l e Rules.Failed t = t

-- numbers of which each is above the one before it rise
up : (f : ℕ → ℕ) (n : ℕ) → ((k : ℕ) → k < n → 0 < k → f (k - 1) < f k) → (i j : ℕ) → i < j → j < n → f i < f j
up f n h i zero l m = absurd (omega arith)
up f n h i (suc j) l m =
    let q : suc j - 1 ≡ j = omega arith in
    let s : f j < f (suc j) = rw q at (h (suc j) m (omega arith)) in
    ⊎_elim (λ b. let t = up f n h i j b (omega arith) in omega arith) (λ b. let e : i ≡ j = omega arith in rw e s) (below_or i j)

module _ (w : List ℕ) where
  -- ---- from the lines to the market's, and back
  rises : EachSound w → Rising Lower (market_of w).lines
  rises ls =
      rw (market-lines w)
      (rising-of Lower (line_count w) (conn_in w)
      (up (λ i. (conn_in w i).conn) (line_count w)
      (λ k h p. rw (conn-words w (k - 1) (omega arith), conn-words w k h) at ((ls k h).above p))))

  conns : EachSound w → Each (ConnSound (limits_of w) ((head_of w).base + (head_of w).count)) (market_of w).lines
  conns ls =
      let e : ℕ = (head_of w).base + (head_of w).count in
      rw (market-lines w)
      (each_of (ConnSound (limits_of w) e) (line_count w) (conn_in w) (λ i h. (
        of-fits (limits_of w) e (conn_in w i).line (ls i h).area.line,
        rw (prints-counted w i h, conn-words w i h) at (ls i h).area.prints,
        (rw (limit-said w i h, conn-words w i h) at (ls i h).area.limit, rw (limit-said w i h, conn-words w i h) at (ls i h).area.within),
      )))

  pub lines_of : Sound w → EachSound w
  lines_of s i h =
      let e : ℕ = (head_of w).base + (head_of w).count in
      let c = each_in (ConnSound (limits_of w) e) (line_count w) (conn_in w) (rw (market-limits w, log-ends w, market-lines w) at s.market.lines.conns) i h in
      let r : Rising Lower (tab (line_count w) (conn_in w)) = rw (market-lines w) at s.market.lines.rises in
      record {
        above = λ p. rw (conn-words w (i - 1) (omega arith), conn-words w i h) (rising-in Lower (line_count w) (conn_in w) r (i - 1) i (omega arith) h);
        area =
            record {
              kind = s.kinds i h;
              prints = rw (prints-counted w i h) (fits-sound w s i h).prints;
              limit = rw (limit-said w i h, conn-words w i h) c.2.0;
              within = rw (limit-said w i h, conn-words w i h) c.2.1;
              line = fits-of (limits_of w) e (conn_in w i).line c.0;
            };
      }

  -- ---- the whole
  sound-of : Ranged w → Counts w → TablesSound (market_of w).prints → EachSound w → ItemsFit w → Sound w
  sound-of r c t ls f =
      record {
        sized = r.sized;
        kinds = λ i h. (ls i h).area.kind;
        market = record {
          limits_fit = rw (market-limits w) r.range;
          lines = record {
            lines_fit = rw (lines-count w, market-limits w) c.lines;
            rises = rises ls;
            conns = rw (market-limits w, log-ends w) (conns ls);
            log_fits = rw (market-limits w, entry-count w) f.events;
            numbers_fit = rw (log-ends w) f.numbers;
          };
          prints = record { keys_fit = rw (key-count w, market-limits w) c.keys; pairs_fit = rw (pair-count w, market-limits w) c.pairs; tables = t };
        };
      }

  items-of : Sound w → ItemsFit w
  items-of s = record { events = rw (entry-count w, market-limits w) at s.market.lines.log_fits; numbers = rw (log-ends w) at s.market.lines.numbers_fit }

  pub ranged-of : Sound w → Ranged w
  ranged-of s = record { sized = s.sized; range = rw (market-limits w) at s.market.limits_fit }

  pub whole_says : Ranged w → Counts w → TablesSound (market_of w).prints → EachSound w → (b : Bool) → Says b (ItemsFit w) → Says b (Sound w)
  whole_says r c t ls b s = says-as (ItemsFit w) (Sound w) (sound-of r c t ls) items-of b s
