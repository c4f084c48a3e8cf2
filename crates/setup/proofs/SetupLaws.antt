-- Laws of setup.
use mathlib.Core.Path.{◌≡◌, refl, sym, ap, ◌∙◌, subst}
use mathlib.Core.List.{List}
use mathlib.Core.Bool.{true, false}
use Prim.Native.Nat.{ℕ, ◌≤◌, ◌<◌}
use native.Mathlib.Omega.{arith}
use lib.Dec.{ltb}
use lib.ListN.{length}
use Rattle.rules.specs.declared.Limits.{Limits}
use Rattle.rules.specs.Lists.{Rising}
use Rattle.rules.specs.Quantities.{in_range, words_needed, max_number}
use Rattle.rules.specs.Lines.{Market, fresh}
use Rattle.rules.specs.Calls.{done}
use Rattle.rules.specs.Refusals.{setup}
use Rattle.rules.specs.Answers.{number, word}
use Rattle.rules.specs.Sound as Rules
use Rattle.rules.proofs.Tests.{lt-ltb, le-ltb}
use Rattle.rows.specs.Tables.{size}
use Rattle.store.specs.Store.{layout, layout_of, limits_of, head_of, line_count, used_of, market_of, Sound}
use Rattle.store.proofs.MarketLaws.{market-limits, lines-count, key-count, pair-count}
use Rattle.sound.proofs.RangeLaws.{bounds}
use Rattle.promise.specs.Meets.{MeetsSetup}

module _ (l : Limits) (start : ℕ) (w : List ℕ) where
  fresh-sound : in_range l ≡ true → start ≤ max_number → Rules.Sound (fresh l start)
  unfolding Rising
  fresh-sound e h =
      record {
        limits_fit = e;
        lines = record { lines_fit = omega arith; rises = tt; conns = tt; log_fits = omega arith; numbers_fit = omega arith };
        prints = record { keys_fit = omega arith; pairs_fit = omega arith; tables = record { keys_rise = tt; pairs_rise = tt; applied32 = tt; delivered32 = tt; keyed = tt } };
      }

  -- words that mean a fresh market
  empty-sound : in_range l ≡ true → start ≤ max_number → (v : List ℕ) → market_of v ≡ fresh l start → layout_of v ≡ layout → (head_of v).front ≡ 0
      → words_needed l ≤ length v → Sound v
  empty-sound e h v m y f n =
      let b = bounds l e in
      let q : limits_of v ≡ l = sym (market-limits v) ∙ ap (λ (x : Market). x.limits) m in
      let none : line_count v ≡ 0 = sym (lines-count v) ∙ ap (λ (x : Market). length x.lines) m in
      let limit : (f : Limits → ℕ) → f (limits_of v) ≡ f l = λ f. ap f q in
      let keys : size (used_of v).keys ≡ 0 = sym (key-count v) ∙ ap (λ (x : Market). length x.prints.key_rows) m in
      let pairs : size (used_of v).counts ≡ 0 = sym (pair-count v) ∙ ap (λ (x : Market). length x.prints.count_rows) m in
      record {
        sized = record {
          header = omega arith;
          version = y;
          long = rw (limit words_needed) n;
          lines = rw (limit (λ x. x.L)) b.lines;
          held = rw (limit (λ x. x.H)) b.held;
          events = rw (limit (λ x. x.G)) b.events;
          keys = rw (limit (λ x. x.C)) b.keys;
          pairs = rw (limit (λ x. x.D)) b.pairs;
          front = omega (arith, f, limit (λ x. x.G), b.event);
          new_keys = omega (arith, keys);
          new_pairs = omega (arith, pairs);
        };
        kinds = λ i k. absurd (omega (arith, none));
        market = subst Rules.Sound (sym m) (fresh-sound e h);
      }

  -- ---- what setup meets

  pub setup-done : in_range l ≡ true → start ≤ max_number → words_needed l ≤ length w → (v : List ℕ) → length v ≡ length w
      → (market_of v ≡ fresh l start) × ((layout_of v ≡ layout) × ((head_of v).front ≡ 0)) → MeetsSetup l start w (word done 0 0) v
  unfolding setup
  setup-done e h n v k m =
      let t : ltb (length w) (words_needed l) ≡ false = le-ltb _ _ n in
      record { answered = rw (e, t); words = rw (e, t) (m.0, empty-sound e h v m.0 m.1.0 m.1.1 (rw k n), k) }

  pub setup-short : in_range l ≡ true → length w < words_needed l → MeetsSetup l start w (number 1) w
  unfolding setup
  setup-short e n = let t : ltb (length w) (words_needed l) ≡ true = lt-ltb _ _ n in record { answered = rw (e, t); words = rw (e, t) refl }

  pub setup-outside : in_range l ≡ false → MeetsSetup l start w (number 2) w
  unfolding setup
  setup-outside e = record { answered = rw e; words = rw e refl }
