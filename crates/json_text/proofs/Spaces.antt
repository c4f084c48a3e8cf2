-- ws, as the grammar has it and as it is skipped.
use mathlib.Core.Path.{◌≡◌, refl}
use mathlib.Core.Bool.{Bool, true, false, cond}
use mathlib.Core.List.{List, [], ◌∷◌}
use Prim.Native.Nat.{ℕ, ◌+◌, ◌≤◌, ◌<◌}
use lib.ListN.{length, drop}
use Rattle.json_text.specs.Bytes.{is_ws}
use Rattle.json_text.specs.Grammar.{Ws, no_ws, ws}
use Rattle.json_text.specs.Work.{byte_at, skip_ws}
use Rattle.json_text.proofs.Bounds.{left_at, left-past}

pub ws-skips : {s r : List ℕ} → Ws s r → skip_ws s ≡ skip_ws r
unfolding skip_ws
ws-skips no_ws = refl
ws-skips (ws {b} {s} h w) = rw h (ws-skips w)

pub skips-ws : (s : List ℕ) → Ws s (skip_ws s)
unfolding skip_ws
skips-ws [] = no_ws
skips-ws (b ∷ s) = go (is_ws b) refl (skips-ws s)
  where
    go : (x : Bool) → is_ws b ≡ x → Ws s (skip_ws s) → Ws (b ∷ s) (cond (is_ws b) (skip_ws s) (b ∷ s))
    go true e w = rw e (ws e w)
    go false e w = rw e no_ws

pub skip-front : (s : List ℕ) → is_ws (byte_at s 0) ≡ false → skip_ws s ≡ s
unfolding skip_ws
skip-front [] h = refl
skip-front (b ∷ s) h = rw h

pub skipped-front : (s : List ℕ) → is_ws (byte_at (skip_ws s) 0) ≡ false
unfolding skip_ws is_ws
skipped-front [] = refl
skipped-front (b ∷ s) = go (is_ws b) refl (skipped-front s)
  where
    go : (x : Bool) → is_ws b ≡ x → is_ws (byte_at (skip_ws s) 0) ≡ false → is_ws (byte_at (cond (is_ws b) (skip_ws s) (b ∷ s)) 0) ≡ false
    go true e w = rw e w
    go false e w = rw e e

-- at a place of a text
pub skip-on : (t : List ℕ) (i : ℕ) → i < length t → is_ws (byte_at t i) ≡ true → skip_ws (drop i t) ≡ skip_ws (drop (i + 1) t)
unfolding skip_ws
skip-on t i h w = rw (left_at t i h, w)

pub skip-here : (t : List ℕ) (i : ℕ) → i < length t → is_ws (byte_at t i) ≡ false → skip_ws (drop i t) ≡ drop i t
unfolding skip_ws
skip-here t i h w = rw (left_at t i h, w)

pub skip-end : (t : List ℕ) (i : ℕ) → length t ≤ i → skip_ws (drop i t) ≡ drop i t
unfolding skip_ws
skip-end t i h = rw (left-past t i h)
