-- The print tables stay sound: after an apply, a print that is not refused, a removal of counts, an expiry.
use Rattle.std.specs.Prelude.{Option}
use mathlib.Core.Path.{◌≡◌, refl, ◌∙◌, ap}
use mathlib.Core.List.{List, [], ◌∷◌}
use mathlib.Core.Bool.{Bool, true, false, not, ◌&&◌, ◌||◌, cond}
use Prim.Native.Nat.{ℕ, suc, ◌≤◌, ◌<◌}
use native.Mathlib.Omega.{arith}
use lib.Dec.{leb}
use lib.ListN.{length}
use Rattle.rules.specs.declared.Limits.{Limits}
use Rattle.rules.specs.Lists.{Each, any, keep, maybe}
use Rattle.rules.specs.Quantities.{Key, age, max_count, other_keep, same}
use Rattle.rules.specs.Prints.{CountRow, KeyRow, Prints, apply_print, counted, deliver, delivered_in, expire_prints, of_key, of_other, of_pair, remove_counts, set_applied, touch}
use Rattle.rules.specs.Calls.{no_row}
use Rattle.rules.specs.Sound.{CountLess, KeyLess, PrintsSound, TablesSound}
use Rattle.rules.proofs.Tests.{by_cond, leb-false, or-false-left, or-false-right}
use Rattle.rules.proofs.ListLaws.{each-imp, each_keep, each-kept, length-keep, rising-kept}
use Rattle.rules.proofs.Order.{same-itself}
use Rattle.rules.proofs.PrintLaws.{deliver-each, deliver-length, deliver-rises, deliver-small, set_applied-any, set_applied-each, set_applied-length, set_applied-rises, touch-any, touch-each, touch-length, touch-rises}

abbrev SmallKey : KeyRow → Type 0
SmallKey r = r.applied ≤ max_count

abbrev SmallCount : CountRow → Type 0
SmallCount r = r.delivered ≤ max_count

abbrev Keyed : List KeyRow → CountRow → Type 0
Keyed ks r = any (of_key r.key) ks ≡ true

-- a count that is delivered, or 0, fits 32 bits
pub delivered-fits : (p : Prints) (k : Key) (c : ℕ) → TablesSound p → delivered_in k c p.count_rows ≤ max_count
delivered-fits p k c s = go p.count_rows s.delivered32
  where
    go : (rs : List CountRow) → Each SmallCount rs → delivered_in k c rs ≤ max_count
    go [] h = omega arith
    go (x ∷ xs) h = by_cond (λ (o : Option CountRow). maybe 0 (λ y. y.delivered) o ≤ max_count) (of_pair k c x) (λ e. h.0) (λ e. go xs h.1)

-- ---- apply

pub apply_print-tables : (p : Prints) (k : Key) (d : ℕ) → d ≤ max_count → TablesSound p → TablesSound (apply_print k d p)
apply_print-tables p k d le s = record {
  keys_rise = set_applied-rises k d p.key_rows s.keys_rise;
  pairs_rise = s.pairs_rise;
  applied32 = set_applied-each k d p.key_rows SmallKey (λ r h. le) s.applied32;
  delivered32 = s.delivered32;
  keyed = each-imp (Keyed p.key_rows) (Keyed (set_applied k d p.key_rows)) (λ x h. set_applied-any k d p.key_rows x.key ∙ h) p.count_rows s.keyed;
}

pub apply_print-sound : (l : Limits) (p : Prints) (k : Key) (d : ℕ) → d ≤ max_count → PrintsSound l p → PrintsSound l (apply_print k d p)
apply_print-sound l p k d le s = record {
  keys_fit = let q = set_applied-length k d p.key_rows in let z = s.keys_fit in omega arith;
  pairs_fit = s.pairs_fit;
  tables = apply_print-tables p k d le s.tables;
}

-- ---- a print

pub counted-tables : (p : Prints) (k : Key) (c now : ℕ) → delivered_in k c p.count_rows < max_count → TablesSound p → TablesSound (counted k c now p)
counted-tables p k c now le s = record {
  keys_rise = touch-rises k now p.key_rows s.keys_rise;
  pairs_rise = deliver-rises k c p.count_rows s.pairs_rise;
  applied32 = touch-each k now p.key_rows SmallKey (λ r h. h) (omega arith) s.applied32;
  delivered32 = deliver-small k c p.count_rows le s.delivered32;
  keyed = each-imp Kept (Keyed (touch k now p.key_rows)) (λ x h. touch-any k now p.key_rows x.key ∙ h) (deliver k c p.count_rows)
      (deliver-each k c p.count_rows Kept (λ x h. h) (ap (λ (b : Bool). b || any (of_key k) p.key_rows) (same-itself k))
      (each-imp (Keyed p.key_rows) Kept (λ x h. or_right (same k x.key) (any (of_key x.key) p.key_rows) h) p.count_rows s.keyed));
}
  where
    Kept : CountRow → Type 0
    Kept x = (same k x.key || any (of_key x.key) p.key_rows) ≡ true

    or_right : (a b : Bool) → b ≡ true → (a || b) ≡ true
    or_right true b e = refl
    or_right false b e = e

pub counted-sound : (l : Limits) (p : Prints) (k : Key) (c now : ℕ) → no_row k c l p ≡ false → leb max_count (delivered_in k c p.count_rows) ≡ false
    → PrintsSound l p → PrintsSound l (counted k c now p)
counted-sound l p k c now t₇ t₈ s = record {
  keys_fit = fits (any (of_key k) p.key_rows) (length (touch k now p.key_rows)) (length p.key_rows) l.C (touch-length k now p.key_rows) s.keys_fit (or-false-left C₇ D₇ t₇);
  pairs_fit = fits (any (of_pair k c) p.count_rows) (length (deliver k c p.count_rows)) (length p.count_rows) l.D (deliver-length k c p.count_rows) s.pairs_fit (or-false-right C₇ D₇ t₇);
  tables = counted-tables p k c now (leb-false t₈) s.tables;
}
  where
    C₇ : Bool
    C₇ = not (any (of_key k) p.key_rows) && leb l.C (length p.key_rows)

    D₇ : Bool
    D₇ = not (any (of_pair k c) p.count_rows) && leb l.D (length p.count_rows)

    fits : (b : Bool) (u v lim : ℕ) → u ≡ cond b v (suc v) → v ≤ lim → (not b && leb lim v) ≡ false → u ≤ lim
    fits true u v lim q h z = omega arith
    fits false u v lim q h z = let y : v < lim = leb-false z in omega arith

-- ---- removal

pub remove_counts-sound : (l : Limits) (c : ℕ) (p : Prints) → PrintsSound l p → PrintsSound l (remove_counts c p)
remove_counts-sound l c p s =
    let t = s.tables in
    record {
      keys_fit = s.keys_fit;
      pairs_fit = (let z = length-keep (of_other c) p.count_rows in let y = s.pairs_fit in omega arith);
      tables = record {
        keys_rise = t.keys_rise;
        pairs_rise = rising-kept CountLess (of_other c) p.count_rows t.pairs_rise;
        applied32 = t.applied32;
        delivered32 = each_keep SmallCount (of_other c) p.count_rows t.delivered32;
        keyed = each_keep (Keyed p.key_rows) (of_other c) p.count_rows t.keyed;
      };
    }

-- ---- expiry

pub expire_prints-sound : (l : Limits) (now : ℕ) (p : Prints) → PrintsSound l p → PrintsSound l (expire_prints now p)
expire_prints-sound l now p s =
    let t = s.tables in
    record {
      keys_fit = (let z = length-keep young p.key_rows in let y = s.keys_fit in omega arith);
      pairs_fit = (let z = length-keep known p.count_rows in let y = s.pairs_fit in omega arith);
      tables = record {
        keys_rise = rising-kept KeyLess young p.key_rows t.keys_rise;
        pairs_rise = rising-kept CountLess known p.count_rows t.pairs_rise;
        applied32 = each_keep SmallKey young p.key_rows t.applied32;
        delivered32 = each_keep SmallCount known p.count_rows t.delivered32;
        keyed = each-imp (λ x. SmallCount x × (known x ≡ true)) (λ x. known x ≡ true) (λ x h. h.1) (keep known p.count_rows) (each-kept SmallCount known p.count_rows t.delivered32);
      };
    }
  where
    young : KeyRow → Bool
    young x = leb (age now x.touched) other_keep

    known : CountRow → Bool
    known x = any (of_key x.key) (keep young p.key_rows)
