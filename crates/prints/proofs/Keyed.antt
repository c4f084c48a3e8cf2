-- Whether count rows have their keys: found along the keys of both runs.
use Rattle.std.specs.Prelude.{Ok, Err, Some, None}
use mathlib.Core.Path.{◌≡◌, sym, subst}
use mathlib.Core.List.{List}
use mathlib.Core.Bool.{true, false}
use Prim.Native.Nat.{ℕ, ◌+◌, ◌-◌, ◌<◌}
use native.Mathlib.Nat.{zero-add}
use native.Mathlib.Omega.{arith}
use Rattle.rules.specs.Prints.{before}
use Rattle.rules.specs.Quantities.{Key, key}
use Rattle.rules.proofs.Tests.{ff≢tt}
use Rattle.rules.proofs.Order.{same_true, before-trans}
use Rattle.rows.specs.declared.Runs.{Runs}
use Rattle.rows.specs.Rows.{Row, row_in, below, alike, Rises, Here, Between}
use Rattle.rows.specs.Tables.{Table}
use Rattle.rows.proofs.Finding.{here-old, here-new}
use Rattle.rows.proofs.Ordered.{Upto}
use Rattle.prints.specs.Steps.{Past, Reached, Owned, CountSound}
use Rattle.prints.proofs.Tables.{key-stands}

abbrev key_of : Row → Key
key_of r = key r.a r.b

-- what is above a key is above the same key
same-below : (r s : Row) → alike false r s.a s.b 0 ≡ true → (x y : ℕ) → below false s x y 0 ≡ true → below false r x y 0 ≡ true
same-below r s e x y = subst (λ (k : Key). before k (key x y) ≡ true) (sym (same_true (key_of r) (key_of s) e))

-- ---- one run of n keys from row a on, and row j of a run of count rows
module _ (a n : ℕ) (w : List ℕ) (b j : ℕ) where
  -- the keys passed are below that of row j where it is above the one before it
  pub past-below : (i : ℕ) → Past a n w i b j → Rises false b w j → 0 < i → below false (row_in a w (i - 1)) (row_in b w j).a (row_in b w j).b 0 ≡ true
  past-below i p r h = p.left h (row_in b w j).a (row_in b w j).b (r (p.behind h))

  -- they stay passed where what is above row j is above the row before it
  stays : (i : ℕ) → Past a n w i b j
      → (0 < j → (x y : ℕ) → below false (row_in b w j) x y 0 ≡ true → below false (row_in b w (j - 1)) x y 0 ≡ true) → Past a n w i b (j + 1)
  stays i p f =
      record {
        within = p.within;
        behind = λ h. omega arith;
        left = λ h x y l. let q : j + 1 - 1 ≡ j = omega arith in p.left h x y (f (p.behind h) x y (rw q at l));
      }

  pub past-on : (i : ℕ) → Past a n w i b j → Rises false b w j → Past a n w i b (j + 1)
  past-on i p r = stays i p (λ h x y l. before-trans (key_of (row_in b w (j - 1))) (key_of (row_in b w j)) (key x y) (r h) l)

  -- the key of row j is passed where it stands at k, and none from k on where it would stand there
  pub past-here : (k : ℕ) → Here false (row_in a w) n (row_in b w j).a (row_in b w j).b 0 k → Past a n w (k + 1) b (j + 1)
  past-here k s =
      record {
        within = omega (arith, s.within);
        behind = λ h. omega arith;
        left = λ h x y l.
            let q : j + 1 - 1 ≡ j = omega arith in
            let p : k + 1 - 1 ≡ k = omega arith in
            rw p (same-below (row_in a w k) (row_in b w j) s.hit x y (rw q at l));
      }

  pub past-gap : (k : ℕ) → Between false (row_in a w) n (row_in b w j).a (row_in b w j).b 0 k → Past a n w k b (j + 1)
  past-gap k s =
      record {
        within = s.within;
        behind = λ h. omega arith;
        left = λ h x y l.
            let q : j + 1 - 1 ≡ j = omega arith in
            before-trans (key_of (row_in a w (k - 1))) (key_of (row_in b w j)) (key x y) (s.left h) (rw q at l);
      }

-- ---- both runs
module _ (u : Runs) (w : List ℕ) (b j : ℕ) (p : Runs) (q : Reached u b w j p) where
  module _ (s : Table false 0 u w) (r : Rises false b w j) where
    abbrev its : Key
    its = key_of (row_in b w j)

    abbrev OldHere : ℕ → Type 0
    OldHere k = Here false (row_in 0 w) u.old (row_in b w j).a (row_in b w j).b 0 k

    abbrev OldGap : ℕ → Type 0
    OldGap k = Between false (row_in 0 w) u.old (row_in b w j).a (row_in b w j).b 0 k

    pub owned-old : (k : ℕ) → OldHere k → Owned u b w j (Some (record { old = k + 1; new = p.new }))
    owned-old k h = (
      key-stands u w s its (Ok k) (here-old false 0 u w its.0 its.1 0 k h),
      record { old = past-here 0 u.old w b j k h; new = past-on u.old u.new w b j p.new q.new r },
    )

    pub owned-new : (k i : ℕ) → OldGap k → Here false (row_in u.old w) u.new (row_in b w j).a (row_in b w j).b 0 i
        → Owned u b w j (Some (record { old = k; new = i + 1 }))
    owned-new k i g h =
        let a : Here false (row_in (0 + u.old) w) u.new its.0 its.1 0 i = rw (zero-add u.old) h in (
          key-stands u w s its (Ok (u.old + i)) (here-new false 0 u w its.0 its.1 0 i a),
          record { old = past-gap 0 u.old w b j k g; new = past-here u.old u.new w b j i h },
        )

    pub owned-not : (k i : ℕ) → OldGap k → Between false (row_in u.old w) u.new (row_in b w j).a (row_in b w j).b 0 i → Owned u b w j None
    owned-not k i g m h =
        let a : Between false (row_in (0 + u.old) w) u.new its.0 its.1 0 i = rw (zero-add u.old) m in
        ff≢tt (key-stands u w s its (Err i) (record { gap = k; old = g; new = a })) h

-- ---- a run of n count rows: j are sound
pub record Tests (b n : ℕ) (u : Runs) (w : List ℕ) (p : Runs) (j : ℕ) : Type 0 where
  pub upto : Upto n (CountSound u b w) j
  pub reached : Reached u b w j p
