-- Tables in order: the rows of the keys that stay, moved together.
use mathlib.Core.Path.{◌≡◌, refl, sym, ◌∙◌, ap, subst}
use mathlib.Core.List.{List, [], ◌∷◌}
use mathlib.Core.Logic.{⊎_elim}
use mathlib.Core.Bool.{Bool, true, false}
use Prim.Native.Nat.{ℕ, ◌+◌, ◌*◌, ◌≤◌, ◌<◌}
use native.Mathlib.Nat.{zero-add}
use native.Mathlib.Omega.{arith}
use lib.ListN.{length, get_or}
use lib.Dec.{leb}
use Rattle.rules.specs.Lists.{any, keep, Each}
use Rattle.rules.specs.Quantities.{Key, same, age, other_keep}
use Rattle.rules.specs.Prints.{KeyRow, CountRow, Prints, before, of_key, expire_prints}
use Rattle.rules.specs.Sound.{TablesSound, KeyLess, CountLess}
use Rattle.rules.proofs.Tests.{ff≢tt, untrue}
use Rattle.rules.proofs.Order.{same_true, same_pair, pair_before, before-climbs}
use Rattle.words.specs.Words.{tab, Says}
use Rattle.words.proofs.Tab.{tab-ext}
use Rattle.words.proofs.Cases.{below_or, says, says-yes, says-no}
use Rattle.words.proofs.Lists.{any-passes, each_in, rising-in, Kept, kept-yes, kept-no, any-keep-none, any-keep-at}
use Rattle.rows.specs.Rows.{row_at, alike, Put}
use Rattle.rows.proofs.Tests.{no_both}
use Rattle.rows.proofs.Order.{key_order, pair_order, less-differs}
use Rattle.rows.proofs.Sorted.{Sorted, only}
use Rattle.prints.specs.Area.{key_row, count_row, key_at, count_at}
use Rattle.prints.proofs.Tables.{prints-eq}
use Rattle.prints.specs.Steps.{in_order, staying, CountsKept, KeysKept}

abbrev place : KeyRow → Key
place r = r.key

abbrev pair : CountRow → Key × ℕ
pair r = (r.key, r.conn)

module _ (c nk nc : ℕ) (w : List ℕ) (s : TablesSound (in_order c nk nc w)) where
  keys-sorted : Sorted place before same (key_at w) nk
  keys-sorted = record { order = key_order; up = rising-in KeyLess nk (key_at w) s.keys_rise }

  pairs-sorted : Sorted pair pair_before same_pair (count_at c w) nc
  pairs-sorted = record { order = pair_order; up = rising-in CountLess nc (count_at c w) s.pairs_rise }

-- no key before i is that of count row j
abbrev Passed : ℕ → ℕ → List ℕ → ℕ → ℕ → Type 0
Passed c nc w i j = j < nc → (a : ℕ) → a < i → of_key (count_at c w j).key (key_at w a) ≡ false

module _ (c nk nc : ℕ) (w : List ℕ) (i j : ℕ) where
  passed-key : Passed c nc w i j → (j < nc → of_key (count_at c w j).key (key_at w i) ≡ true → ⊥) → Passed c nc w (i + 1) j
  passed-key p n h a l =
      ⊎_elim (λ b. p h a b) (λ b. let q : a ≡ i = omega arith in rw q (untrue (of_key (count_at c w j).key (key_at w i)) (n h))) (below_or a i)

  module _ (s : TablesSound (in_order c nk nc w)) where
    passed-pair : i < nk → of_key (count_at c w j).key (key_at w i) ≡ true → Passed c nc w i (j + 1)
    passed-pair l e h a b =
        let k : before (key_at w a).key (count_at c w j).key ≡ true = subst (λ (x : Key). before (key_at w a).key x ≡ true) (same_true (key_at w i).key (count_at c w j).key e) ((keys-sorted c nk nc w s).up a i b l) in
        less-differs before same key_order (key_at w a).key (count_at c w (j + 1)).key
        (before-climbs (key_at w a).key (pair (count_at c w j)) (pair (count_at c w (j + 1))) k ((pairs-sorted c nk nc w s).up j (j + 1) (omega arith) h))

    -- the key of count row j is not behind
    passed-left : Passed c nc w i j → j < nc → i < nk
    passed-left p h =
        let q = any-passes (of_key (count_at c w j).key) (nk) (key_at w) (each_in (λ r. any (of_key r.key) (tab (nk) (key_at w)) ≡ true) (nc) (count_at c w) s.keyed j h) in
        ⊎_elim
        (λ b. absurd (ff≢tt (p h q.at b) q.passes))
        (λ b. omega (arith, q.within))
        (below_or q.at i)

-- the test of two rows' keys
pub owns-says : (c : ℕ) (w : List ℕ) (m i j : ℕ) (r : Bool) → r ≡ alike false (row_at w i) (get_or w (4 * (c + j)) 0) (get_or w (4 * (c + j) + 1) 0) 0 → j < m
    → Says r ((j < m) × (of_key (count_at c w j).key (key_at w i) ≡ true))
unfolding row_at
owns-says c w m i j r e h =
    let q : r ≡ of_key (count_at c w j).key (key_at w i) = e ∙ ap (λ (k : ℕ). alike false (row_at w k) (get_or w (4 * (c + j)) 0) (get_or w (4 * (c + j) + 1) 0) 0) (sym (zero-add i)) in
    says r ((j < m) × (of_key (count_at c w j).key (key_at w i) ≡ true)) (λ t. (h, sym q ∙ t)) (λ t p. no_both p.1 (sym q ∙ t))

abbrev pub stays : ℕ → KeyRow → Bool
stays t r = leb (age t r.touched) other_keep

touched-at : (w : List ℕ) (i : ℕ) → (key_at w i).touched ≡ get_or w (4 * i + 3) 0
unfolding row_at
touched-at w i = ap (λ (k : ℕ). get_or w (4 * k + 3) 0) (zero-add i)

pub stays_by : (t : ℕ) (w : List ℕ) (i a : ℕ) → a ≡ age t (get_or w (4 * i + 3) 0) → leb a other_keep ≡ stays t (key_at w i)
stays_by t w i a e = rw (e, touched-at w i)

-- ---- the keys: i looked at, j of them stay
pub record KeyTurn (n t : ℕ) (w v : List ℕ) (i j : ℕ) : Type 0 where
  pub size : length v ≡ length w
  pub i-le : i ≤ n
  pub kept : Kept (stays t) (key_at w) (key_at v) i j
  pub rest : (k : ℕ) → i ≤ k → row_at v k ≡ row_at w k

module _ (n t : ℕ) (w v : List ℕ) (i j : ℕ) (s : KeyTurn n t w v i j) (h : i < n) (b : Bool) (e : b ≡ stays t (key_at v i)) where
  key-is : key_at v i ≡ key_at w i
  key-is = ap key_row (s.rest (0 + i) (omega arith))

  fresh-is : stays t (key_at w i) ≡ b
  fresh-is = ap (stays t) (sym key-is) ∙ sym e

  pub key-stays : (v' : List ℕ) → b ≡ true → length v' ≡ length v → Put v v' j (row_at v i) → KeyTurn n t w v' (i + 1) (j + 1)
  key-stays v' y l p =
      let zi : 0 + i ≡ i = zero-add i in
      let zj : 0 + j ≡ j = zero-add j in
      record {
        size = l ∙ s.size;
        i-le = omega arith;
        kept = kept-yes (stays t) (key_at w) (key_at v) i j s.kept (key_at v') (fresh-is ∙ y) (rw (zi, zj) (ap key_row p.here) ∙ key-is)
            (λ k q. ap key_row (p.others (0 + k) (λ m. omega arith)));
        rest = λ k m. p.others k (λ q. omega (arith, s.kept.fewer)) ∙ s.rest k (omega arith);
      }

  pub key-goes : b ≡ false → KeyTurn n t w v (i + 1) j
  key-goes y =
      record {
        size = s.size;
        i-le = omega arith;
        kept = kept-no (stays t) (key_at w) (key_at v) i j s.kept (fresh-is ∙ y);
        rest = λ k m. s.rest k (omega arith);
      }

pub keys-done : (n t : ℕ) (w v : List ℕ) (i j : ℕ) → KeyTurn n t w v i j → n ≤ i → KeysKept n t w v j
keys-done n t w v i j s h =
    let q : i ≡ n = omega (arith, s.i-le) in
    record {
      fewer = omega (arith, s.kept.fewer);
      kept = s.kept.front ∙ ap (λ (k : ℕ). staying t (tab k (key_at w))) q;
      others = λ k l. s.rest k (omega arith);
    }

-- ---- the count rows: i looked at, j of them stay, with the key rows before k passed
abbrev pub key_stays : ℕ → ℕ → List ℕ → CountRow → Bool
key_stays nk t w r = any (of_key r.key) (staying t (tab (nk) (key_at w)))

pub record CountTurn (c nk nc t : ℕ) (w v : List ℕ) (k i j : ℕ) : Type 0 where
  pub size : length v ≡ length w
  pub i-le : i ≤ nc
  pub kept : Kept (key_stays nk t w) (count_at c w) (count_at c v) i j
  pub rest : (a : ℕ) → i ≤ a → row_at v (c + a) ≡ row_at w (c + a)
  pub others : (a : ℕ) → a < c → row_at v a ≡ row_at w a
  pub passed : Passed c nc w k i

module _ (c nk nc t : ℕ) (w v : List ℕ) (k i j : ℕ) (s : CountTurn c nk nc t w v k i j) (z : TablesSound (in_order c nk nc w)) (f : (nk ≤ c) × (4 * (c + nc) ≤ length w)) (h : i < nc) where
  -- a key row is left for count row i
  pub key_left : k < nk
  key_left = passed-left c nk nc w k i z s.passed h

  key-now : key_at v k ≡ key_at w k
  key-now = ap key_row (s.others (0 + k) (omega (arith, key_left, f.0)))

  count-now : count_at c v i ≡ count_at c w i
  count-now = ap count_row (s.rest i (omega arith))

  owns-now : of_key (count_at c v i).key (key_at v k) ≡ of_key (count_at c w i).key (key_at w k)
  owns-now =
      ap (λ (r : KeyRow). of_key (count_at c v i).key r) key-now ∙ ap (λ (r : CountRow). of_key r.key (key_at w k)) count-now

  pub count-passes : (a : Bool) → Says a ((i < nc) × (of_key (count_at c v i).key (key_at v k) ≡ true)) → a ≡ false → CountTurn c nk nc t w v (k + 1) i j
  count-passes a o n =
      record {
        size = s.size;
        i-le = s.i-le;
        kept = s.kept;
        rest = s.rest;
        others = s.others;
        passed = passed-key c nk nc w k i s.passed (λ l e. says-no ((i < nc) × (of_key (count_at c v i).key (key_at v k) ≡ true)) o n (l, owns-now ∙ e));
      }

  module _ (a : Bool) (o : Says a ((i < nc) × (of_key (count_at c v i).key (key_at v k) ≡ true))) (y : a ≡ true) (b : Bool) (e : b ≡ stays t (key_at v k)) where
    mine : of_key (count_at c w i).key (key_at w k) ≡ true
    mine = sym owns-now ∙ (says-yes ((i < nc) × (of_key (count_at c v i).key (key_at v k) ≡ true)) o y).1

    fresh-now : stays t (key_at w k) ≡ b
    fresh-now = ap (stays t) (sym key-now) ∙ sym e

    pub count-stays : (v' : List ℕ) → b ≡ true → length v' ≡ length v → Put v v' (c + j) (row_at v (c + i)) → CountTurn c nk nc t w v' k (i + 1) (j + 1)
    count-stays v' q l p =
        record {
          size = l ∙ s.size;
          i-le = omega arith;
          kept =
              kept-yes (key_stays nk t w) (count_at c w) (count_at c v) i j s.kept (count_at c v')
              (any-keep-at (of_key (count_at c w i).key) (stays t) (nk) (key_at w) k key_left (fresh-now ∙ q) mine)
              (ap count_row p.here ∙ count-now)
              (λ a m. ap count_row (p.others (c + a) (λ n. omega arith)));
          rest = λ a m. p.others (c + a) (λ n. omega (arith, s.kept.fewer)) ∙ s.rest a (omega arith);
          others = λ a m. p.others a (λ n. omega arith) ∙ s.others a m;
          passed = passed-pair c nk nc w k i z key_left mine;
        }

    pub count-goes : b ≡ false → CountTurn c nk nc t w v k (i + 1) j
    count-goes q =
        record {
          size = s.size;
          i-le = omega arith;
          kept = kept-no (key_stays nk t w) (count_at c w) (count_at c v) i j s.kept (any-keep-none (of_key (count_at c w i).key) (stays t) (nk) (key_at w) none);
          rest = λ a m. s.rest a (omega arith);
          others = s.others;
          passed = passed-pair c nk nc w k i z key_left mine;
        }
      where
        none : (a : ℕ) → a < nk → stays t (key_at w a) ≡ true → of_key (count_at c w i).key (key_at w a) ≡ false
        none a m g =
            only place before same (key_at w) (nk) (keys-sorted c nk nc w z) (count_at c w i).key k key_left mine a m
            (λ n. ff≢tt (fresh-now ∙ q) (subst (λ (x : ℕ). stays t (key_at w x) ≡ true) n g))

pub counts-done : (c nk nc t : ℕ) (w v : List ℕ) (k i j : ℕ) → CountTurn c nk nc t w v k i j → nc ≤ i → CountsKept c nk nc t w v j
counts-done c nk nc t w v k i j s h =
    let q : i ≡ nc = omega (arith, s.i-le) in
    record {
      fewer = omega (arith, s.kept.fewer);
      kept = s.kept.front ∙ ap (λ (n : ℕ). keep (key_stays nk t w) (tab n (count_at c w))) q;
      others = s.others;
    }

-- ---- both
module _ (c n m t : ℕ) (w v v' : List ℕ) (r r' : ℕ) (f : n ≤ c) (p : CountsKept c n m t w v r') (q : KeysKept n t v v' r) where
  pub expire-rows : in_order c r r' v' ≡ expire_prints t (in_order c n m w)
  expire-rows =
      prints-eq
      (q.kept ∙ ap (staying t) (tab-ext n (key_at v) (key_at w) (λ k l. ap key_row (p.others (0 + k) (omega arith)))))
      (tab-ext r' (count_at c v') (count_at c v) (λ k l. ap count_row (q.others (c + k) (omega arith))) ∙ p.kept)

-- ---- nothing is too old
keep-each : {A : Type 0} (s : A → Bool) (l : List A) → Each (λ x. s x ≡ true) l → keep s l ≡ l
keep-each s [] e = refl
keep-each s (x ∷ xs) (h, e) = rw h (ap (λ z. x ∷ z) (keep-each s xs e))

pub expire-same : (t : ℕ) (p : Prints) → TablesSound p → Each (λ r. stays t r ≡ true) p.key_rows → p ≡ expire_prints t p
expire-same t p s f =
    let e : keep (stays t) p.key_rows ≡ p.key_rows = keep-each (stays t) p.key_rows f in
    let g : keep (λ r. any (of_key r.key) p.key_rows) p.count_rows ≡ p.count_rows = keep-each (λ r. any (of_key r.key) p.key_rows) p.count_rows s.keyed in
    prints-eq (sym e) (sym (ap (λ z. keep (λ r. any (of_key r.key) z) p.count_rows) e ∙ g))
