-- Where a line lines up, by the words of a store.
use Rattle.std.specs.Prelude.{None}
use mathlib.Core.Path.{◌≡◌, refl}
use mathlib.Core.List.{List}
use mathlib.Core.Bool.{Bool, true, false}
use Prim.Native.Nat.{ℕ, ◌<◌}
use native.Mathlib.Omega.{arith}
use lib.ListN.{length}
use Rattle.rules.specs.declared.Limits.{Limits}
use Rattle.rules.specs.Log.{keys}
use Rattle.rules.specs.Lines as Rules
use Rattle.rules.specs.Lines.{Market, conn_at, items_of, event_keys, is_pending, some_due}
use Rattle.rules.specs.Place.{alignment}
use Rattle.rules.specs.Entering.{aligns}
use Rattle.rules.proofs.Tests.{ff≢tt}
use Rattle.event_log.specs.declared.Head.{Head}
use Rattle.event_log.specs.Log.{keys_of}
use Rattle.place.specs.Items.{items_in, place_of, Counted}
use Rattle.store.specs.Store.{limits_of, head_of, line_count, key_words, market_of, Sound}
use Rattle.store.specs.ConnMoves.{items_at}
use Rattle.store.proofs.MarketLaws.{market-base, market-keys}
use Rattle.store.proofs.EntryLaws.{counts, ring}
use Rattle.store.proofs.ConnLaws.{items-inside, items-said, fits-sound}

pub aligns-pending : (quiet : Bool) (l : Rules.Line) (m : Market) → is_pending l ≡ true → some_due m.lines ≡ false
    → aligns quiet l m ≡ alignment quiet (event_keys (items_of l)) (keys m.log)
aligns-pending quiet (Rules.Waiting is since) m p d = absurd (ff≢tt refl p)
aligns-pending quiet (Rules.Pending is at since) m p d = rw d
aligns-pending quiet (Rules.InLine n a b) m p d = absurd (ff≢tt refl p)
aligns-pending quiet Rules.Failed m p d = absurd (ff≢tt refl p)

pub nowhere-due : (b : ℕ) (quiet : Bool) (l : Rules.Line) (m : Market) → some_due m.lines ≡ true → None ≡ place_of b (aligns quiet l m)
nowhere-due b quiet (Rules.Waiting is since) m d = refl
nowhere-due b quiet (Rules.Pending is at since) m d = rw d
nowhere-due b quiet (Rules.InLine n x y) m d = refl
nowhere-due b quiet Rules.Failed m d = refl

pub nowhere-other : (b : ℕ) (quiet : Bool) (l : Rules.Line) (m : Market) → is_pending l ≡ false → None ≡ place_of b (aligns quiet l m)
nowhere-other b quiet (Rules.Waiting is since) m p = refl
nowhere-other b quiet (Rules.Pending is at since) m p = absurd (ff≢tt p refl)
nowhere-other b quiet (Rules.InLine n x y) m p = refl
nowhere-other b quiet Rules.Failed m p = refl

module _ {w : List ℕ} {i : ℕ} (s : Sound w) (h : i < line_count w) {x : Limits} {ks is : List ℕ} {head : Head} {n : ℕ}
    (g : x ≡ limits_of w) (k : ks ≡ key_words w) (a : is ≡ items_at w i) (e : head ≡ head_of w) (l : n ≡ length (items_of (conn_at i (market_of w)).line)) where
  pub counted : Counted x.G head ks is n
  counted =
      rw (g, k, a, e)
      (record { log = ring s; line = omega (arith, items-inside w i (fits-sound w s i h)); numbers = (counts s).numbers })

  pub aligned-place : (quiet : Bool) → is_pending (conn_at i (market_of w)).line ≡ true → some_due (market_of w).lines ≡ false
      → place_of head.base (alignment quiet (event_keys (items_in n is)) (keys_of x.G head.front head.count ks))
      ≡ place_of (market_of w).log.base (aligns quiet (conn_at i (market_of w)).line (market_of w))
  aligned-place quiet p d =
      rw (
        g,
        k,
        a,
        e,
        aligns-pending quiet (conn_at i (market_of w)).line (market_of w) p d,
        items-said w i h n l,
        market-keys w (counts s).entries s.sized.front,
        market-base w,
      )
