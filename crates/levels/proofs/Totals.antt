-- Sizes added up by a fold over references; the first elements of a list, and the sizes from a place on up to another, as parts of it.
use mathlib.Core.Path.{◌≡◌, refl, ap, sym, ◌∙◌}
use mathlib.Core.List.{List, ◌∷◌, [], map}
use Prim.Native.Nat.{ℕ, zero, suc, ◌+◌, ◌-◌, ◌≤◌}
use native.Mathlib.Nat.{not-suc-le-zero, le_of_suc-le-suc}
use native.Mathlib.Omega.{arith}
use lib.Ieee.{Float, nan, binary64, add}
use lib.ListN.{length, get_or, take, drop, length-drop}
use Rattle.std.specs.List.{fold}
use Rattle.std.proofs.lemmas.List.{get_or-drop}
use Rattle.words.specs.Words.{tab}
use Rattle.words.proofs.Tab.{tab-ext}
use Rattle.levels.specs.Depth.{total}
use Rattle.levels.specs.Work.{sizes_in}

pub folded : {A : Type 0} (v : A → Float) (x : Float) (ys : List A) → fold (λ a y. add binary64 a (v y)) x ys ≡ total x (map v ys)
folded v x [] = refl
folded v x (y ∷ ys) = folded v (add binary64 x (v y)) ys

pub tab-front : {A : Type 0} (d : A) (n : ℕ) (xs : List A) → n ≤ length xs → tab n (λ i. get_or xs i d) ≡ take n xs
tab-front d zero xs h = refl
tab-front d (suc n) [] h = absurd (not-suc-le-zero h)
tab-front d (suc n) (x ∷ xs) h = ap (λ (l : List _). x ∷ l) (tab-front d n xs (le_of_suc-le-suc h))

pub sizes-cut : (sizes : List Float) (from to : ℕ) → from ≤ to → to ≤ length sizes → sizes_in sizes from to ≡ take (to - from) (drop from sizes)
sizes-cut sizes from to h k =
    tab-ext (to - from) (λ i. get_or sizes (from + i) nan) (λ i. get_or (drop from sizes) i nan) (λ i l. sym (get_or-drop from sizes i nan))
    ∙ tab-front nan (to - from) (drop from sizes) (omega (arith, length-drop from sizes))
