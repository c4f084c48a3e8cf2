-- The two tables as the rules' lists of rows: what is looked up and applied, and whether a row is free.
use Rattle.std.specs.Prelude.{Result, Ok, Err}
use mathlib.Core.Path.{◌≡◌, refl, sym, ◌∙◌, ap, subst}
use mathlib.Core.List.{List, map}
use mathlib.Core.Bool.{Bool, true, false, not, ◌&&◌, ◌||◌}
use Prim.Native.Nat.{ℕ, ◌+◌, ◌*◌, ◌<◌}
use native.Mathlib.Nat.{zero-add}
use native.Mathlib.Omega.{arith}
use lib.ListN.{length, get_or, set, length-map}
use lib.Dec.{leb}
use Rattle.rules.specs.declared.Limits.{Limits}
use Rattle.rules.specs.Lists.{any, maybe}
use Rattle.rules.specs.Quantities.{Key}
use Rattle.rules.specs.Prints.{KeyRow, CountRow, Prints, of_key, of_pair, applied_in, delivered_in, set_applied, apply_print}
use Rattle.rules.specs.Calls.{no_row}
use Rattle.rules.specs.Sound.{TablesSound, KeyLess, CountLess}
use Rattle.rules.proofs.Tests.{leb-false, or-false-left, or-false-right, ff≢tt}
use Rattle.words.proofs.Mapped.{any-map, first-map, amend-map, map-rising}
use Rattle.rows.specs.declared.Runs.{Runs}
use Rattle.rows.specs.Rows.{Row, row, row_at, row_in, Here, Put}
use Rattle.rows.specs.Tables.{size, table_of, Table, Missing, Stands}
use Rattle.rows.proofs.Moves.{put-third}
use Rattle.rows.proofs.TableLaws.{table-length, table_same, hit-any, hit-first, hit-amend, gap-any, gap-first, gap-amend}
use Rattle.prints.specs.declared.Used.{Used}
use Rattle.prints.specs.declared.Found.{Found}
use Rattle.prints.specs.Area.{key_row, count_row, prints_of, Fit, Fits, Free, KeyStands, PairStands, FoundIn}
use Rattle.prints.specs.Steps.{is_gap}

pub prints-eq : {a b : List KeyRow} {x y : List CountRow} → a ≡ b → x ≡ y
    → ◌≡◌ {A = Prints} (record { key_rows = a; count_rows = x }) (record { key_rows = b; count_rows = y })
prints-eq p q = λ i. record { key_rows = p i; count_rows = q i }

pub fits : (c d : ℕ) (w : List ℕ) (u : Used) → Fit c d w u → Fits c w u
fits c d w u f =
    record {
      keys = record { inside = omega (arith, f.whole, f.keys); short = f.new_keys };
      counts = record { inside = omega (arith, f.whole, f.counts); short = f.new_counts };
      apart = f.keys;
    }

module _ (c : ℕ) (w : List ℕ) (u : Used) where
  pub key-rows : length (prints_of c w u).key_rows ≡ size u.keys
  unfolding prints_of
  key-rows = length-map (table_of false 0 u.keys w) key_row ∙ table-length false 0 u.keys w

  pub count-rows : length (prints_of c w u).count_rows ≡ size u.counts
  unfolding prints_of
  count-rows = length-map (table_of true c u.counts w) count_row ∙ table-length true c u.counts w

  module _ (f : Fits c w u) (s : TablesSound (prints_of c w u)) where
    pub keys-table : Table false 0 u.keys w
    unfolding prints_of
    keys-table = record { lies = f.keys; rises = map-rising key_row KeyLess (table_of false 0 u.keys w) s.keys_rise }

    pub counts-table : Table true c u.counts w
    unfolding prints_of
    counts-table = record { lies = f.counts; rises = map-rising count_row CountLess (table_of true c u.counts w) s.pairs_rise }

-- ---- where a row stands
module _ (u : Runs) (w : List ℕ) (k : Key) {p : Result ℕ ℕ} {i : ℕ} (s : Stands false 0 u k.0 k.1 0 w p) where
  pub key-at : p ≡ Ok i → Here false (row_in 0 w) (size u) k.0 k.1 0 i
  key-at e = subst (Stands false 0 u k.0 k.1 0 w) e s

  pub key-gap : p ≡ Err i → Missing false 0 u k.0 k.1 0 w i
  key-gap e = subst (Stands false 0 u k.0 k.1 0 w) e s

module _ (c : ℕ) (u : Runs) (w : List ℕ) (k : Key) (x : ℕ) {p : Result ℕ ℕ} {i : ℕ} (s : Stands true c u k.0 k.1 x w p) where
  pub pair-at : p ≡ Ok i → Here true (row_in c w) (size u) k.0 k.1 x i
  pair-at e = subst (Stands true c u k.0 k.1 x w) e s

  pub pair-gap : p ≡ Err i → Missing true c u k.0 k.1 x w i
  pair-gap e = subst (Stands true c u k.0 k.1 x w) e s

-- ---- a table of keys: one found, and one not found
module _ (u : Runs) (w : List ℕ) (s : Table false 0 u w) (k : Key) where
  abbrev key_rows : List Row
  key_rows = table_of false 0 u w

  pub key-stands : (p : Result ℕ ℕ) → Stands false 0 u k.0 k.1 0 w p → any (of_key k) (map key_row (table_of false 0 u w)) ≡ not (is_gap p)
  key-stands (Ok i) h = any-map key_row (of_key k) key_rows ∙ hit-any false 0 u w s k.0 k.1 0 i h
  key-stands (Err i) m = any-map key_row (of_key k) key_rows ∙ gap-any false 0 u w s k.0 k.1 0 i m

  module _ (i : ℕ) (h : Here false (row_in 0 w) (size u) k.0 k.1 0 i) where
    applied-at : get_or w (4 * i + 2) 0 ≡ applied_in k (map key_row (table_of false 0 u w))
    unfolding row_at
    applied-at =
        ap (λ (j : ℕ). get_or w (4 * j + 2) 0) (sym (zero-add i))
        ∙ sym
        (first-map key_row 0 (λ r. r.applied) (of_key k) key_rows
        ∙ ap (maybe 0 (λ (r : Row). r.c)) (hit-first false 0 u w s k.0 k.1 0 i h))

    set-applied : (n : ℕ) → map key_row (table_of false 0 u (set w (4 * i + 2) n)) ≡ set_applied k n (map key_row (table_of false 0 u w))
    set-applied n =
        let g : Row → Row = λ r. row r.a r.b n r.d in
        let v = set w (4 * i + 2) n in
        let p : Put w v (0 + i) (g (row_in 0 w i)) =
        subst (λ (j : ℕ). Put w v j (g (row_at w j))) (sym (zero-add i)) (put-third w i n (omega (arith, h.within, s.lies.inside))) in
        ap (map key_row) (hit-amend false 0 u w s k.0 k.1 0 i h g (λ r. refl) v p)
        ∙ amend-map key_row (of_key k) (λ r. record { key = r.key; applied = n; touched = r.touched }) g (λ r. refl) key_rows

  module _ (i : ℕ) (m : Missing false 0 u k.0 k.1 0 w i) where
    applied-none : 0 ≡ applied_in k (map key_row (table_of false 0 u w))
    applied-none =
        sym
        (first-map key_row 0 (λ r. r.applied) (of_key k) key_rows
        ∙ ap (maybe 0 (λ (r : Row). r.c)) (gap-first false 0 u w s k.0 k.1 0 i m))

    set-none : (n : ℕ) → map key_row (table_of false 0 u w) ≡ set_applied k n (map key_row (table_of false 0 u w))
    set-none n =
        let g : Row → Row = λ r. row r.a r.b n r.d in
        sym (ap (map key_row) (gap-amend false 0 u w s k.0 k.1 0 i m g))
        ∙ amend-map key_row (of_key k) (λ r. record { key = r.key; applied = n; touched = r.touched }) g (λ r. refl) key_rows

-- ---- a table of counts
module _ (c : ℕ) (u : Runs) (w : List ℕ) (s : Table true c u w) (k : Key) (x : ℕ) where
  abbrev count_rows : List Row
  count_rows = table_of true c u w

  pub pair-stands : (p : Result ℕ ℕ) → Stands true c u k.0 k.1 x w p → any (of_pair k x) (map count_row (table_of true c u w)) ≡ not (is_gap p)
  pair-stands (Ok i) h = any-map count_row (of_pair k x) count_rows ∙ hit-any true c u w s k.0 k.1 x i h
  pair-stands (Err i) m = any-map count_row (of_pair k x) count_rows ∙ gap-any true c u w s k.0 k.1 x i m

  pub delivered-at : (i : ℕ) → Here true (row_in c w) (size u) k.0 k.1 x i → (row_in c w i).d ≡ delivered_in k x (map count_row (table_of true c u w))
  delivered-at i h =
      sym
      (first-map count_row 0 (λ r. r.delivered) (of_pair k x) count_rows
      ∙ ap (maybe 0 (λ (r : Row). r.d)) (hit-first true c u w s k.0 k.1 x i h))

  pub delivered-none : (i : ℕ) → Missing true c u k.0 k.1 x w i → 0 ≡ delivered_in k x (map count_row (table_of true c u w))
  delivered-none i m =
      sym
      (first-map count_row 0 (λ r. r.delivered) (of_pair k x) count_rows
      ∙ ap (maybe 0 (λ (r : Row). r.d)) (gap-first true c u w s k.0 k.1 x i m))

-- ---- both tables
module _ (c : ℕ) (w : List ℕ) (u : Used) (f : Fits c w u) (s : TablesSound (prints_of c w u)) (k : Key) where
  module _ (i : ℕ) (h : Here false (row_in 0 w) (size u.keys) k.0 k.1 0 i) where
    pub applied-there : get_or w (4 * i + 2) 0 ≡ applied_in k (prints_of c w u).key_rows
    unfolding prints_of
    applied-there = applied-at u.keys w (keys-table c w u f s) k i h

    pub apply-there : (n : ℕ) → prints_of c (set w (4 * i + 2) n) u ≡ apply_print k n (prints_of c w u)
    unfolding prints_of
    apply-there n =
        let p = put-third w i n (omega (arith, h.within, f.keys.inside)) in
        prints-eq
        (set-applied u.keys w (keys-table c w u f s) k i h n)
        (ap (map count_row)
        (table_same true c u.counts w (set w (4 * i + 2) n) (λ j l m. p.others j (λ e. omega (arith, h.within, f.apart)))))

  module _ (i : ℕ) (m : Missing false 0 u.keys k.0 k.1 0 w i) where
    pub applied-lacks : 0 ≡ applied_in k (prints_of c w u).key_rows
    unfolding prints_of
    applied-lacks = applied-none u.keys w (keys-table c w u f s) k i m

    pub apply-lacks : (n : ℕ) → prints_of c w u ≡ apply_print k n (prints_of c w u)
    unfolding prints_of
    apply-lacks n = prints-eq (set-none u.keys w (keys-table c w u f s) k i m n) refl

  pub delivered-there : (x i : ℕ) → Here true (row_in c w) (size u.counts) k.0 k.1 x i
      → get_or w (4 * (c + i) + 3) 0 ≡ delivered_in k x (prints_of c w u).count_rows
  unfolding prints_of row_at
  delivered-there x i h = delivered-at c u.counts w (counts-table c w u f s) k x i h

  pub delivered-lacks : (x i : ℕ) → Missing true c u.counts k.0 k.1 x w i → 0 ≡ delivered_in k x (prints_of c w u).count_rows
  unfolding prints_of
  delivered-lacks x i m = delivered-none c u.counts w (counts-table c w u f s) k x i m

  pub has-key : (p : Result ℕ ℕ) → KeyStands w u k p → any (of_key k) (prints_of c w u).key_rows ≡ not (is_gap p)
  unfolding prints_of
  has-key = key-stands u.keys w (keys-table c w u f s) k

  pub has-pair : (x : ℕ) (p : Result ℕ ℕ) → PairStands c w u k x p → any (of_pair k x) (prints_of c w u).count_rows ≡ not (is_gap p)
  unfolding prints_of
  has-pair x = pair-stands c u.counts w (counts-table c w u f s) k x

-- ---- no row is free
has_room : (b : Bool) (m n : ℕ) → (not b && leb m n) ≡ false → b ≡ false → n < m
has_room true m n e f = absurd (ff≢tt f refl)
has_room false m n e f = leb-false e

module _ (c : ℕ) (w : List ℕ) (u : Used) (k : Key) (x : ℕ) where
  holds_key : Bool
  holds_key = any (of_key k) (prints_of c w u).key_rows

  holds_pair : Bool
  holds_pair = any (of_pair k x) (prints_of c w u).count_rows

  module _ (d : ℕ) (l : Limits) (p : l.C ≡ c) (q : l.D ≡ d) where
    no-row-is : no_row k x l (prints_of c w u) ≡ (not holds_key && leb c (size u.keys) || not holds_pair && leb d (size u.counts))
    unfolding holds_key holds_pair
    no-row-is = rw (p, q, key-rows c w u, count-rows c w u)

    -- where a print is not refused, the rows that it needs are free
    pub free : Fit c d w u → no_row k x l (prints_of c w u) ≡ false → Free c w u k x
    unfolding holds_key holds_pair
    free f e =
        let a = not holds_key && leb c (size u.keys) in
        let b = not holds_pair && leb d (size u.counts) in
        let r : (a || b) ≡ false = sym no-row-is ∙ e in
        record {
          for_key = has_room holds_key c (size u.keys) (or-false-left a b r);
          for_pair = λ m.
              let h : size u.counts < d = has_room holds_pair d (size u.counts) (or-false-right a b r) m in
              omega (arith, f.whole);
        }

    module _ (f : Fit c d w u) (s : TablesSound (prints_of c w u)) (n : Found) (h : FoundIn c w u k x n) where
      no-row-found : no_row k x l (prints_of c w u) ≡ (is_gap n.key && leb c (size u.keys) || is_gap n.pair && leb d (size u.counts))
      unfolding holds_key holds_pair
      no-row-found =
          no-row-is
          ∙ (λ i.
          needed n.key (has-key c w u (fits c d w u f) s k n.key h.key) i && leb c (size u.keys)
          || needed n.pair (has-pair c w u (fits c d w u f) s k x n.pair h.pair) i && leb d (size u.counts))
        where
          needed : {b : Bool} (p : Result ℕ ℕ) → b ≡ not (is_gap p) → not b ≡ is_gap p
          needed (Ok i) e = ap not e
          needed (Err i) e = ap not e

      pub no-row-key : {a : Bool} → a ≡ (is_gap n.key && leb c (size u.keys)) → a ≡ true → true ≡ no_row k x l (prints_of c w u)
      no-row-key e t = sym (no-row-found ∙ ap (λ (b : Bool). b || is_gap n.pair && leb d (size u.counts)) (sym e ∙ t))

      pub no-row-pair : {a b : Bool} → a ≡ (is_gap n.key && leb c (size u.keys)) → a ≡ false
          → b ≡ (is_gap n.pair && leb d (size u.counts)) → b ≡ no_row k x l (prints_of c w u)
      no-row-pair e t g = g ∙ sym (no-row-found ∙ ap (λ (b : Bool). b || is_gap n.pair && leb d (size u.counts)) (sym e ∙ t))
