-- What reading behind a value leads to.
use Rattle.std.specs.Prelude.{None, Some}
use mathlib.Core.Path.{◌≡◌}
use mathlib.Core.Bool.{Bool, true, false}
use mathlib.Core.List.{List, [], ◌∷◌}
use Prim.Native.Nat.{ℕ, ◌+◌, ◌≤◌, ◌<◌}
use borrow.Author.Tests.{ne_eqb}
use lib.ListN.{length, drop}
use Rattle.json_text.specs.Work.{byte_at, skip_ws, name_rest}
use Rattle.json_text.proofs.Bounds.{left_at, left-past}
use Rattle.json_text.proofs.Places.{front-byte, behind-here}
use Rattle.json_check.specs.Runs.{go, done, bad, value, after, after_item, after_member, of_after}

-- by the byte b at the place i; k are the brackets around the innermost, l those that are then open
module _ (t : List ℕ) (i b : ℕ) (at : b ≡ byte_at t i) (k : List Bool) (g : ℕ) where
  front : byte_at (drop i t) 0 ≡ b
  front = front-byte t i b at

  pub item-end : {l : List Bool} → b ≡ 0x5D → l ≡ k → after_item k (drop i t) g ≡ go (after l (drop (i + 1) t) g)
  unfolding after_item
  item-end h q = rw (front, h, behind-here t i, q)

  pub item-none : (b ≡ 0x5D → ⊥) → (b ≡ 0x2C → ⊥) → after_item k (drop i t) g ≡ bad
  unfolding after_item
  item-none p q = rw (front, ne_eqb b 0x5D p, ne_eqb b 0x2C q)

  pub member-end : {l : List Bool} → b ≡ 0x7D → l ≡ k → after_member k (drop i t) g ≡ go (after l (drop (i + 1) t) g)
  unfolding after_member
  member-end h q = rw (front, h, behind-here t i, q)

  pub member-none : (b ≡ 0x7D → ⊥) → (b ≡ 0x2C → ⊥) → after_member k (drop i t) g ≡ bad
  unfolding after_member
  member-none p q = rw (front, ne_eqb b 0x7D p, ne_eqb b 0x2C q)

  -- behind a comma and its ws, at w
  module _ (h : b ≡ 0x2C) (w : ℕ) (ws : drop w t ≡ skip_ws (drop (i + 1) t)) where
    pub item-next : {l : List Bool} → l ≡ true ∷ k → after_item k (drop i t) g ≡ go (value l (drop w t) g)
    unfolding after_item
    item-next q = rw (front, h, behind-here t i, ← ws, q)

    pub member-no-name : name_rest (drop w t) ≡ None → after_member k (drop i t) g ≡ bad
    unfolding after_member
    member-no-name n = rw (front, h, behind-here t i, ← ws, n)

    pub member-name :
        {l : List Bool} (e : ℕ) → name_rest (drop w t) ≡ Some (drop e t) → l ≡ false ∷ k → after_member k (drop i t) g ≡ go (value l (drop e t) g)
    unfolding after_member
    member-name e n q = rw (front, h, behind-here t i, ← ws, n, q)

-- behind the ws at i, at w, by the brackets k that are open
module _ (t : List ℕ) (i w : ℕ) (ws : drop w t ≡ skip_ws (drop i t)) (k : List Bool) (g : ℕ) where
  pub after-end : k ≡ [] → length t ≤ w → of_after k (skip_ws (drop i t)) g ≡ done g
  unfolding of_after
  after-end e h = rw (← ws, e, left-past t w h)

  pub after_more : k ≡ [] → w < length t → of_after k (skip_ws (drop i t)) g ≡ bad
  unfolding of_after
  after_more e h = rw (← ws, e, left_at t w h)

  pub after-array : (l : List Bool) → k ≡ true ∷ l → of_after k (skip_ws (drop i t)) g ≡ after_item l (drop w t) g
  unfolding of_after
  after-array l e = rw (← ws, e)

  pub after-object : (l : List Bool) → k ≡ false ∷ l → of_after k (skip_ws (drop i t)) g ≡ after_member l (drop w t) g
  unfolding of_after
  after-object l e = rw (← ws, e)
