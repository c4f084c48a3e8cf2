-- What is read of a side: its best level, and that a side over 512 levels is not sound.
use Rattle.std.specs.Prelude.{None, Some}
use mathlib.Core.Path.{◌≡◌, refl, ap, ◌∙◌}
use mathlib.Core.Bool.{Bool, false, ◌&&◌}
use Prim.Native.Nat.{ℕ, zero, suc, ◌<◌, ◌≤◌}
use native.Mathlib.Nat.{not-suc-le-zero}
use lib.Dec.{leb}
use borrow.Author.Tests.{lt-leb}
use Rattle.words.specs.Words.{tab}
use Rattle.words.proofs.Tab.{length-tab}
use Rattle.levels.specs.declared.Level.{Level}
use Rattle.levels.specs.Depth.{most, best_of, in_order, side_sound}

pub best-some : (n : ℕ) (f : ℕ → Level) → 0 < n → best_of (tab n f) ≡ Some (f 0)
best-some zero f h = absurd (not-suc-le-zero h)
best-some (suc n) f h = refl

pub best_none : (n : ℕ) (f : ℕ → Level) → n ≤ 0 → best_of (tab n f) ≡ None
best_none zero f h = refl
best_none (suc n) f h = absurd (not-suc-le-zero h)

pub over-unsound : (bid : Bool) (n : ℕ) (f : ℕ → Level) → most < n → side_sound bid (tab n f) ≡ false
unfolding side_sound
over-unsound bid n f h =
    ap (λ (k : ℕ). leb k most && in_order bid (tab n f)) (length-tab n f) ∙ ap (λ (b : Bool). b && in_order bid (tab n f)) (lt-leb n most h)
