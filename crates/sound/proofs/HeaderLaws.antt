-- What the tests of the header and of the print tables say.
use mathlib.Core.Path.{◌≡◌, sym, ap, ◌∙◌, subst}
use mathlib.Core.List.{List}
use mathlib.Core.Bool.{Bool, true, false}
use Prim.Native.Nat.{ℕ, ◌+◌, ◌^◌, ◌≤◌, ◌<◌}
use native.Mathlib.Omega.{arith}
use lib.ListN.{length}
use Rattle.rules.specs.declared.Limits.{Limits}
use Rattle.rules.specs.Quantities.{in_range, words_needed}
use Rattle.rules.specs.Prints.{Prints}
use Rattle.rules.specs.Sound.{TablesSound}
use Rattle.rules.proofs.Tests.{ff≢tt}
use Rattle.words.specs.Words.{Says}
use Rattle.words.proofs.Parts.{part_length}
use Rattle.event_log.specs.declared.Head.{Head}
use Rattle.prints.specs.declared.Used.{Used}
use Rattle.rows.specs.Tables.{size}
use Rattle.prints.specs.Area.{prints_of, Fits}
use Rattle.prints.proofs.Tables.{fits}
use Rattle.store.specs.Store.{layout, layout_of, limits_of, head_of, line_count, used_of, tables_at, lines_at, table_words, market_of, Sized}
use Rattle.store.specs.Moves.{Counts}
use Rattle.store.proofs.MarketLaws.{market-prints}
use Rattle.sound.specs.Parts.{FewNew, Ranged}
use Rattle.sound.proofs.RangeLaws.{bounds}

-- ---- layout, limits, length and front

module _ (w : List ℕ) (l : Limits) (q : l ≡ limits_of w) where
  pub outside : in_range l ≡ false → Ranged w → ⊥
  outside e r = ff≢tt e (ap in_range q ∙ r.range)

  pub short : length w < words_needed l → Ranged w → ⊥
  short h r = let n : words_needed l ≡ words_needed (limits_of w) = ap words_needed q in omega (arith, r.sized.long)

  pub beyond : l.G ≤ (head_of w).front → Ranged w → ⊥
  beyond h r = omega (arith, ap (λ (x : Limits). x.G) q, r.sized.front)

  pub crowded : (FewNew w → ⊥) → Ranged w → ⊥
  crowded n r = n (record { keys = r.sized.new_keys; pairs = r.sized.new_pairs })

  pub ranged : 64 ≤ length w → layout_of w ≡ layout → in_range l ≡ true → words_needed l ≤ length w → (head_of w).front < l.G → FewNew w → Ranged w
  ranged h v e long below few =
      let range : in_range (limits_of w) ≡ true = ap in_range (sym q) ∙ e in
      let b = bounds (limits_of w) range in
      let n : words_needed l ≡ words_needed (limits_of w) = ap words_needed q in
      record {
        sized = record {
          header = h;
          version = v;
          long = rw n at long;
          lines = b.lines;
          held = b.held;
          events = b.events;
          keys = b.keys;
          pairs = b.pairs;
          front = omega (arith, ap (λ (x : Limits). x.G) q);
          new_keys = few.keys;
          new_pairs = few.pairs;
        };
        range = range;
      }

-- ---- the header's counts, as they are read

pub record CountsFit (l : Limits) (h : Head) (n : ℕ) (u : Used) : Type 0 where
  pub entries : h.count ≤ l.G
  pub numbers : h.base + h.count < 2 ^ 64
  pub lines : n ≤ l.L
  pub keys : size u.keys ≤ l.C
  pub pairs : size u.counts ≤ l.D

module _ (w : List ℕ) {l : Limits} {h : Head} {n : ℕ} {u : Used} (p : l ≡ limits_of w) (q : h ≡ head_of w) (r : n ≡ line_count w) (t : u ≡ used_of w) where
  pub counts-read : Counts w → CountsFit l h n u
  counts-read c = rw (p, q, r, t) (record { entries = c.entries; numbers = c.numbers; lines = c.lines; keys = c.keys; pairs = c.pairs })

  pub counts-told : CountsFit l h n u → Counts w
  counts-told f =
      let c : CountsFit (limits_of w) (head_of w) (line_count w) (used_of w) = rw (p, q, r, t) at f in
      record { entries = c.entries; numbers = c.numbers; lines = c.lines; keys = c.keys; pairs = c.pairs }

-- ---- the print tables

module _ (w x : List ℕ) (c : ℕ) (u : Used) (k : c ≡ (limits_of w).C) (p : x ≡ table_words w) (q : u ≡ used_of w) where
  pub tables-ready : Sized w → Counts w → Fits c x u
  tables-ready z n =
      let l = part_length (tables_at (limits_of w)) (lines_at (limits_of w)) w (omega (arith, z.long)) in
      fits c (limits_of w).D x u
      (record {
        whole = ap length p ∙ l ∙ omega arith;
        keys = omega (arith, ap (λ (y : Used). size y.keys) q, n.keys);
        counts = omega (arith, ap (λ (y : Used). size y.counts) q, n.pairs);
        new_keys = omega (arith, ap (λ (y : Used). y.keys.new) q, z.new_keys);
        new_counts = omega (arith, ap (λ (y : Used). y.counts.new) q, z.new_pairs);
      })

  pub tables-say : (r : Bool) → Says r (TablesSound (prints_of c x u)) → Says r (TablesSound (market_of w).prints)
  tables-say r s = subst (λ (y : Prints). Says r (TablesSound y)) ((λ j. prints_of (k j) (p j) (q j)) ∙ sym (market-prints w)) s
