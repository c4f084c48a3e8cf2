-- The print tables of a whole store: what the functions over them need, and what a move on them leaves of the market.
use mathlib.Core.Path.{◌≡◌, refl, sym, ap, ◌∙◌, subst}
use mathlib.Core.List.{List}
use mathlib.Core.Bool.{Bool, false}
use Prim.Native.Nat.{ℕ, ◌+◌, ◌*◌, ◌≤◌, ◌<◌}
use native.Mathlib.Omega.{arith}
use lib.ListN.{length}
use Rattle.rules.specs.Quantities.{Key, max_count}
use Rattle.rules.specs.Prints.{Prints, delivered_in}
use Rattle.rules.specs.Calls.{no_row}
use Rattle.rules.specs.Sound.{TablesSound}
use Rattle.rules.specs.declared.Limits.{Limits}
use Rattle.rules.specs.Lines.{with_prints}
use Rattle.words.specs.Words.{part, back}
use Rattle.words.proofs.Parts.{part_length, length_back}
use Rattle.prints.specs.declared.Used.{Used}
use Rattle.std.specs.Prelude.{Result}
use Rattle.rows.specs.Tables.{size}
use Rattle.prints.specs.declared.Found.{Found}
use Rattle.prints.specs.Area.{prints_of, Fit, Fits, Free, KeyStands, FoundIn}
use Rattle.prints.proofs.Tables.{free, fits}
use Rattle.store.specs.Store.{limits_of, used_of, put_used, tables_at, lines_at, table_words, market_of, Sound}
use Rattle.store.specs.Moves.{Moved, Tabled, KeyFound, PrintFound}
use Rattle.store.proofs.FrameLaws.{put_tables, moved_on, moved-is, tables-limits, tables-put, tables-moved, used-put, used-tables, used-moved}
use Rattle.store.proofs.MarketLaws.{market-prints}
use Rattle.store.proofs.EntryLaws.{counts}

pub tabled : {w : List ℕ} → Sound w → Tabled w
tabled s = record { sized = s.sized; counts = counts s; tables = s.market.prints.tables }

-- their words lie from a on and below e
pub tables-part : (w : List ℕ) {a e : ℕ} → a ≡ tables_at (limits_of w) → e ≡ lines_at (limits_of w) → part a e w ≡ table_words w
tables-part w p q = λ j. part (p j) (q j) w

module _ {w x : List ℕ} {u : Used} (t : Tabled w) (p : x ≡ table_words w) (q : u ≡ used_of w) where
  -- the tables' words and the counts of rows mean the market's prints
  pub prints-read : prints_of (limits_of w).C x u ≡ (market_of w).prints
  prints-read = (λ j. prints_of (limits_of w).C (p j) (q j)) ∙ sym (market-prints w)

  pub prints-say : {A : Type 0} (f : Prints → A) {r : A} → r ≡ f (prints_of (limits_of w).C x u) → r ≡ f (market_of w).prints
  prints-say f e = e ∙ ap f prints-read

  pub tables-fit : Fit (limits_of w).C (limits_of w).D x u
  tables-fit =
      let k = part_length (tables_at (limits_of w)) (lines_at (limits_of w)) w (omega (arith, t.sized.long)) in
      record {
        whole = ap length p ∙ k ∙ omega arith;
        keys = omega (arith, ap (λ (y : Used). size y.keys) q, t.counts.keys);
        counts = omega (arith, ap (λ (y : Used). size y.counts) q, t.counts.pairs);
        new_keys = omega (arith, ap (λ (y : Used). y.keys.new) q, t.sized.new_keys);
        new_counts = omega (arith, ap (λ (y : Used). y.counts.new) q, t.sized.new_pairs);
      }

  pub tables-sound : TablesSound (prints_of (limits_of w).C x u)
  tables-sound = subst TablesSound (sym prints-read) t.tables

  -- where rows stand
  pub key_here : (k : Key) (f : Result ℕ ℕ) → KeyFound w k f → KeyStands x u k f
  key_here k f h = rw (p, q) h

  pub found_here : {k : Key} {conn : ℕ} {f : Found} → PrintFound w k conn f → FoundIn (limits_of w).C x u k conn f
  found_here h = rw (p, q) h

  pub found-done : {k : Key} {conn : ℕ} {f : Found} → FoundIn (limits_of w).C x u k conn f → PrintFound w k conn f
  found-done h = rw (p, q) at h

  -- what a function that searches the tables needs
  pub tables-ready : Fits (limits_of w).C x u × TablesSound (prints_of (limits_of w).C x u)
  tables-ready = (fits (limits_of w).C (limits_of w).D x u tables-fit, tables-sound)

  pub no-row-done : (k : Key) (conn : ℕ) {r : Bool} → ((l : Limits) → l.C ≡ (limits_of w).C → l.D ≡ (limits_of w).D → r ≡ no_row k conn l (prints_of (limits_of w).C x u))
      → r ≡ no_row k conn (market_of w).limits (market_of w).prints
  unfolding market_of
  no-row-done k conn e = prints-say (no_row k conn (limits_of w)) (e (limits_of w) refl refl)

  pub deliver-ready : {k : Key} {conn : ℕ} {f : Found} → PrintFound w k conn f → no_row k conn (market_of w).limits (market_of w).prints ≡ false
      → delivered_in k conn (market_of w).prints.count_rows < max_count
      → Fits (limits_of w).C x u × (TablesSound (prints_of (limits_of w).C x u) × (FoundIn (limits_of w).C x u k conn f × (Free (limits_of w).C x u k conn
      × (delivered_in k conn (prints_of (limits_of w).C x u).count_rows < max_count))))
  unfolding market_of
  deliver-ready {k} {conn} h n l =
      let c = (limits_of w).C in
      let r = prints-read in (
        tables-ready.0,
        (
          tables-sound,
          (
            found_here h,
            (
              free c x u k conn (limits_of w).D (limits_of w) refl refl tables-fit (ap (no_row k conn (limits_of w)) r ∙ n),
              subst (λ (p : Prints). delivered_in k conn p.count_rows < max_count) (sym r) l,
            ),
          ),
        ),
      )

-- ---- moves

module _ {w : List ℕ} {a e : ℕ} {old : Used} (p : a ≡ tables_at (limits_of w)) (q : e ≡ lines_at (limits_of w)) (o : old ≡ used_of w)
    (ys : List ℕ) (f : Prints → Prints) (t : Tabled w) (k : length ys ≡ length (part a e w)) where
  kept : length ys ≡ 4 * (limits_of w).C + 4 * (limits_of w).D
  kept = k ∙ (tables-fit t (tables-part w p q) o).whole

  -- the header is still there
  pub header-kept : 64 ≤ length (back a e ys w)
  header-kept =
      let fits : e ≤ length w = omega (arith, t.sized.long) in
      let n = length_back a e ys w (record { kept = k ∙ part_length a e w fits; start = omega arith; inside = fits }) in
      omega (arith, t.sized.header)

  -- the tables' words are new
  pub rows-done : prints_of (limits_of w).C ys old ≡ f (prints_of (limits_of w).C (part a e w) old)
      → Moved w (back a e ys w) (with_prints (f (market_of w).prints) (market_of w))
  rows-done r =
      let read : prints_of (limits_of w).C ys (used_of w) ≡ f (market_of w).prints =
      ap (prints_of (limits_of w).C ys) (sym o) ∙ r ∙ ap f (prints-read t (tables-part w p q) o) in
      moved-is (λ j. back (p j) (q j) ys w) (tables-moved w ys t.sized kept) (λ j. with_prints (read j) (market_of w))

  -- and so is how many rows are in use
  pub tables-done : {v : List ℕ} (new : Used) → Fits (limits_of w).C ys new → prints_of (limits_of w).C ys new ≡ f (prints_of (limits_of w).C (part a e w) old)
      → v ≡ put_used new (back a e ys w)
      → Moved w v (with_prints (f (market_of w).prints) (market_of w))
  tables-done new g r b =
      let one = tables-moved w ys t.sized kept in
      let two = used-moved (put_tables ys w) new one.sized g.keys.short g.counts.short in
      let read : prints_of (limits_of (put_tables ys w)).C (table_words (put_tables ys w)) new ≡ f (market_of w).prints =
      (λ j. prints_of (tables-limits w ys t.sized kept j).C (tables-put w ys t.sized kept j) new) ∙ r ∙ ap f (prints-read t (tables-part w p q) o) in
      moved-is (b ∙ (λ j. put_used new (back (p j) (q j) ys w))) (moved_on one two) (λ j. with_prints (read j) (one.market j))

  -- where the key's row stands then
  pub key-done : {v : List ℕ} (new : Used) (i : Key) (l : Result ℕ ℕ) → KeyStands ys new i l → v ≡ put_used new (back a e ys w) → KeyFound v i l
  key-done new i l h b =
      let one = tables-moved w ys t.sized kept in
      let words : table_words (put_used new (put_tables ys w)) ≡ ys = used-tables (put_tables ys w) new one.sized ∙ tables-put w ys t.sized kept in
      let used : used_of (put_used new (put_tables ys w)) ≡ new = used-put (put_tables ys w) new one.sized in
      let there : KeyFound (put_used new (put_tables ys w)) i l =
      subst (λ (y : Used). KeyStands (table_words (put_used new (put_tables ys w))) y i l) (sym used) (subst (λ (x : List ℕ). KeyStands x new i l) (sym words) h) in
      subst (λ (x : List ℕ). KeyFound x i l) (sym (b ∙ (λ j. put_used new (back (p j) (q j) ys w)))) there
