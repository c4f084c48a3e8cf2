-- Rows copied to the front of a list.
use mathlib.Core.Path.{◌≡◌, ◌∙◌, ap}
use mathlib.Core.List.{List, ◌++◌}
use Prim.Native.Nat.{ℕ, ◌+◌, ◌-◌, ◌*◌, ◌≤◌, ◌<◌}
use native.Mathlib.Omega.{arith}
use lib.ListN.{length, get_or, drop, take, length-append, length-take, length-drop, get_or-append}
use Rattle.words.specs.Words.{part}
use Rattle.words.proofs.Parts.{part_length, get_d_part}
use Rattle.rows.specs.Rows.{row_at}
use Rattle.rows.proofs.Moves.{row_same}

-- words put in place of as many others
pub copied-fits : (ys v : List ℕ) (n : ℕ) → length ys ≡ length (take n v) → n ≤ length v → n ≤ length (ys ++ drop n v)
copied-fits ys v n e h = omega (arith, length-append {A = ℕ}, length-take {A = ℕ}, length-drop {A = ℕ})

-- n rows from row a on, copied
pub copied-rows : (w ys z : List ℕ) (a n : ℕ) → 4 * a + 4 * n ≤ length w → ys ≡ part (4 * a) (4 * a + 4 * n) w
    → (k : ℕ) → k < n → row_at (ys ++ z) k ≡ row_at w (a + k)
copied-rows w ys z a n h e k l =
    row_same (ys ++ z) w k (a + k)
    (λ o m.
    let i : 4 * k + o < 4 * a + 4 * n - 4 * a = omega arith in
    let s : length ys ≡ 4 * a + 4 * n - 4 * a = ap length e ∙ part_length (4 * a) (4 * a + 4 * n) w h in
    let j : 4 * k + o < length ys = omega arith in
    let q : 4 * a + (4 * k + o) ≡ 4 * (a + k) + o = omega arith in
    get_or-append ys z 0 (4 * k + o) j
    ∙ ap (λ (l : List ℕ). get_or l (4 * k + o) 0) e
    ∙ get_d_part (4 * a) (4 * a + 4 * n) w (4 * k + o) i
    ∙ ap (λ (p : ℕ). get_or w p 0) q)
