-- How much work is left: by the room for places, then by the bytes of the text, then by which function is at work.
use mathlib.Core.Path.{◌≡◌}
use Prim.Native.Nat.{ℕ, suc, ◌+◌, ◌-◌, ◌*◌, ◌≤◌, ◌<◌}
use native.Mathlib.Nat.{suc-mul, mul-le-mul_right}
use native.Mathlib.Omega.{arith}

unfoldable pub rank : (room size at k : ℕ) → ℕ
rank room size at k = room * (4 * size + 4) + (4 * (size - at) + k)

-- the function of a kind, of a value
pub rank-kind : (room size at : ℕ) → rank room size at 1 < rank room size at 2
unfolding rank
rank-kind room size at = omega arith

-- an item of an array, with the same room
pub rank-item : (room room' size at i : ℕ) → room' ≡ room → at < i → i ≤ size → rank room' size i 2 < rank room size at 1
unfolding rank
rank-item room room' size at i e h l = rw e (omega arith)

-- the value of a member
pub rank-value : (room size at i : ℕ) → at < i → rank room size i 2 < rank room size at 3
unfolding rank
rank-value room size at i h = omega arith

-- a member of an object, with less room, at any place
pub rank-member : (room room' size at q : ℕ) → room' < room → rank room' size q 3 < rank room size at 1
unfolding rank
rank-member room room' size at q h =
    let m = mul-le-mul_right {m = suc room'} {n = room} (4 * size + 4) h in
    let s = suc-mul room' (4 * size + 4) in
    omega arith
