-- With fewer held events than a run of matches there is a place on a quiet market only.
use Rattle.std.specs.Prelude.{Option, None, Some}
use mathlib.Core.Path.{◌≡◌, refl, sym, ap, ◌∙◌}
use mathlib.Core.List.{List, [], ◌∷◌}
use mathlib.Core.Bool.{Bool, true, false, cond, ◌||◌}
use Prim.Native.Nat.{ℕ, suc, ◌+◌, ◌*◌, ◌≤◌, ◌<◌}
use native.Mathlib.Omega.{arith}
use lib.ListN.{length, get_or, drop, length-drop}
use borrow.Author.Tests.{lt-leb}
use Rattle.rules.specs.Lists.{keep, nil, maybe, only}
use Rattle.rules.specs.Quantities.{Key, same, align_run}
use Rattle.rules.specs.Place.{Place, fits, places, counts, alignment}
use Rattle.rules.proofs.Tests.{by_cond}
use Rattle.place.proofs.Items.{items-drop, event-in, snapshot-in}
use Rattle.place.proofs.Next.{held_from}
use Rattle.place.proofs.Counting.{counts-none, counts_some}

-- ---- the events among the items from the i-th on
module _ (w : List ℕ) (n i : ℕ) (h : i < n) where
  pub run-event : get_or w (4 * i) 0 ≡ 0 → length (held_from w n i) ≡ suc (length (held_from w n (i + 1)))
  run-event e = rw (items-drop n i w h, event-in w i e)

  pub run-snapshot : (get_or w (4 * i) 0 ≡ 0 → ⊥) → length (held_from w n i) ≡ length (held_from w n (i + 1))
  run-snapshot e = rw (items-drop n i w h, snapshot-in w i e)

-- ---- matches are no more than the events held
fits_le : (xs ys : List Key) (n : ℕ) → fits xs ys ≡ Some n → n ≤ length xs
unfolding fits
fits_le [] ys n e = let z : n ≡ 0 = cc in omega arith
fits_le (x ∷ xs) [] n e = let z : n ≡ 0 = cc in omega arith
fits_le (x ∷ xs) (y ∷ ys) n e = go (same x y) (fits xs ys) (λ k q. fits_le xs ys k q) refl e
  where
    go : (b : Bool) (o : Option ℕ) → ((k : ℕ) → fits xs ys ≡ Some k → k ≤ length xs) → o ≡ fits xs ys → cond b (maybe None (λ k. Some (suc k)) o) None ≡ Some n → n ≤ suc (length xs)
    go true None f q r = absurd (let z : ◌≡◌ {A = ℕ} 0 1 = cc in omega arith)
    go true (Some k) f q r =
        let l : k ≤ length xs = f k (sym q) in
        let z : n ≡ suc k = cc in omega arith
    go false o f q r = absurd (let z : ◌≡◌ {A = ℕ} 0 1 = cc in omega arith)

module _ (hs ks : List Key) (h : length hs < align_run) where
  none-counts : (p : Place) → counts false hs ks p ≡ false
  none-counts p = go (fits (drop p.0 hs) (drop p.1 ks)) refl
    where
      go : (o : Option ℕ) → fits (drop p.0 hs) (drop p.1 ks) ≡ o → counts false hs ks p ≡ false
      go None e = counts-none false hs ks p e
      go (Some n) e =
          let l = fits_le (drop p.0 hs) (drop p.1 ks) n e in
          let d = length-drop p.0 hs in
          counts_some false hs ks p n e ∙ rw (lt-leb align_run n (omega arith)) refl

  keeps-none : (ps : List Place) → keep (counts false hs ks) ps ≡ []
  keeps-none [] = refl
  keeps-none (p ∷ ps) = rw (none-counts p) (keeps-none ps)

  pub few : alignment false hs ks ≡ None
  unfolding alignment
  few = by_cond (λ o. o ≡ None) (nil hs || nil ks) (λ t. refl) (λ t. ap only (keeps-none (places hs ks)))
