-- A place of a text: its byte, what is left behind it, and that the place behind it is in the text.
use mathlib.Core.Path.{◌≡◌, sym, ◌∙◌}
use mathlib.Core.List.{List}
use Prim.Native.Nat.{ℕ, ◌+◌, ◌≤◌, ◌<◌}
use native.Mathlib.Nat.{add-zero}
use native.Mathlib.Omega.{arith}
use lib.ListN.{length, drop}
use lib.Seq.{drop-drop}
use Rattle.json_text.specs.Work.{byte_at}
use Rattle.json_text.proofs.Bounds.{byte-drop, byte_inside}

module _ (t : List ℕ) (i : ℕ) where
  pub byte-here : byte_at (drop i t) 0 ≡ byte_at t i
  byte-here = rw (byte-drop i t 0, add-zero)

  pub behind-here : drop 1 (drop i t) ≡ drop (i + 1) t
  behind-here = drop-drop 1 i t

  -- the same for a byte b that stands there
  module _ (b : ℕ) (e : b ≡ byte_at t i) where
    pub front-byte : byte_at (drop i t) 0 ≡ b
    front-byte = byte-here ∙ sym e

    pub place-behind : b < 256 → i + 1 ≤ length t
    place-behind h = omega (arith, byte_inside t i (omega (arith, e)))
