-- The theorems of specs/Theorems.
use mathlib.Core.Path.{◌∙◌, ap}
use mathlib.Core.List.{List}
use Prim.Native.Nat.{ℕ, ◌-◌}
use native.Mathlib.Omega.{arith}
use lib.ListN.{get_or}
use Rattle.rules.specs.Quantities.{Key, no_key}
use Rattle.words.proofs.Tab.{get_d-tab}
use Rattle.event_log.specs.Log.{entry_place, key_in, log_of}
use Rattle.event_log.specs.Theorems.{EachStands}
use Rattle.event_log.proofs.Ring.{place_short, place-turned, place_inside}
use Rattle.event_log.proofs.Reading.{entry_at, log-base, log-entries, log-keys}
use Rattle.event_log.proofs.Search.{number_in}

pub each_stands : EachStands
unfolding log_of
each_stands g w h n fit from below =
    let b = log-base g w h in
    record {
      entry = ap (λ (es : List (Key × ℕ)). get_or es (n - h.base) (no_key, 0)) (log-entries g w h)
          ∙ get_d-tab h.count (entry_at g w h.front) (n - h.base) (no_key, 0) (omega arith);
      key = rw b at (number_in (log_of g w h) h.count (λ i. key_in w (entry_place g h.front i)) (log-keys g w h) n (omega arith) (omega arith));
      inside = place_inside g h.front (n - h.base) fit.front (omega (arith, fit.count));
      short = place_short g h.front (n - h.base);
      long = λ l. let e = place-turned g h.front (n - h.base) l in omega arith;
    }
