-- Worked points of a side and of a depth, each by computation.
use Rattle.std.specs.Prelude.{None, Some}
use mathlib.Core.Path.{◌≡◌, refl}
use mathlib.Core.Bool.{true, false}
use mathlib.Core.List.{List, [], ◌∷◌}
use Prim.Native.Nat.{ℕ}
use lib.IntN.{pos}
use lib.Ieee.{Float, nan, inf, fin, add, le}
use Rattle.rules.specs.Answers.{refusal, value}
use Rattle.levels.specs.declared.Level.{Level}
use Rattle.levels.specs.Depth.{plus_zero, in_order, side_sound, set_level, set_side, trim_side, bid_depth_from, ask_depth_to, best_of, sound, set}
use Rattle.levels.specs.Theorems.{size_at}

abbrev minus_zero : Float
minus_zero = fin true 0 (pos 0)

abbrev one : Float
one = fin false 1 (pos 0)

abbrev two : Float
two = fin false 1 (pos 1)

-- 2 ^ 53, from where on the whole numbers have gaps: one more rounds back to it, and two more do not
abbrev large : Float
large = fin false 1 (pos 53)

abbrev larger : Float
larger = fin false 4503599627370497 (pos 1)

abbrev at : ℕ → Float → Level
at p s = record { price = p; size = s }

abbrev bids : List Level
bids = at 600000 one ∷ at 500000 two ∷ at 400000 one ∷ []

abbrev asks : List Level
asks = at 400000 one ∷ at 500000 two ∷ at 600000 one ∷ []

-- ---- setting a level

pub set_first : set_side true 500000 one [] ≡ value (at 500000 one ∷ [])
unfolding set_side set_level le
set_first = refl

pub read : size_at 500000 (at 500000 one ∷ []) ≡ Some one
read = refl

pub set-better-bid : set_side true 600000 two (at 500000 one ∷ []) ≡ value (at 600000 two ∷ at 500000 one ∷ [])
unfolding set_side set_level le
set-better-bid = refl

pub set-worse-bid : set_side true 400000 two (at 500000 one ∷ []) ≡ value (at 500000 one ∷ at 400000 two ∷ [])
unfolding set_side set_level le
set-worse-bid = refl

pub set-better-ask : set_side false 400000 two (at 500000 one ∷ []) ≡ value (at 400000 two ∷ at 500000 one ∷ [])
unfolding set_side set_level le
set-better-ask = refl

pub set-worse-ask : set_side false 600000 two (at 500000 one ∷ []) ≡ value (at 500000 one ∷ at 600000 two ∷ [])
unfolding set_side set_level le
set-worse-ask = refl

pub best-first : (best_of bids ≡ Some (at 600000 one)) × (best_of asks ≡ Some (at 400000 one)) × (best_of [] ≡ None)
best-first = (refl, refl, refl)

pub replaced : set_side true 500000 one bids ≡ value (at 600000 one ∷ at 500000 one ∷ at 400000 one ∷ [])
unfolding set_side set_level le
replaced = refl

pub removed : set_side true 500000 minus_zero bids ≡ value (at 600000 one ∷ at 400000 one ∷ [])
unfolding set_side set_level le
removed = refl

pub removed-best : set_side false 400000 plus_zero asks ≡ value (at 500000 two ∷ at 600000 one ∷ [])
unfolding set_side set_level le
removed-best = refl

pub nothing-to-remove : set_side true 450000 minus_zero bids ≡ value bids
unfolding set_side set_level le
nothing-to-remove = refl

-- ---- refusals

pub set-nan : set_side true 500000 nan bids ≡ refusal 13
unfolding set_side le
set-nan = refl

pub set-infinite : set_side true 500000 (inf false) bids ≡ refusal 13
unfolding set_side le
set-infinite = refl

pub set-negative : set_side true 500000 (fin true 1 (pos 0)) bids ≡ refusal 13
unfolding set_side le
set-negative = refl

-- 12 comes before 13
pub price-zero : (set_side true 0 one bids ≡ refusal 12) × (set_side true 0 nan bids ≡ refusal 12)
unfolding set_side
price-zero = (refl, refl)

pub price-million : (set_side false 1000000 one asks ≡ refusal 12) × (set_side false 1000000 (inf true) asks ≡ refusal 12)
unfolding set_side
price-million = (refl, refl)

pub price-ends : (set_side true 1 one [] ≡ value (at 1 one ∷ [])) × (set_side true 999999 one [] ≡ value (at 999999 one ∷ []))
unfolding set_side set_level le
price-ends = (refl, refl)

-- ---- trimming

pub trim-bids : trim_side true (Some 500000) bids ≡ at 500000 two ∷ at 400000 one ∷ []
unfolding trim_side
trim-bids = refl

pub trim-asks : trim_side false (Some 500000) asks ≡ at 500000 two ∷ at 600000 one ∷ []
unfolding trim_side
trim-asks = refl

pub trim-all : (trim_side true None bids ≡ []) × (trim_side false None asks ≡ [])
unfolding trim_side
trim-all = (refl, refl)

-- ---- sound or not

pub sound-sides : (side_sound true bids ≡ true) × (side_sound false asks ≡ true)
unfolding side_sound in_order le
sound-sides = (refl, refl)

pub size-zero : (side_sound true (at 500000 plus_zero ∷ []) ≡ false) × (side_sound true (at 500000 minus_zero ∷ []) ≡ false)
unfolding side_sound in_order le
size-zero = (refl, refl)

pub size-nan : side_sound true (at 500000 nan ∷ []) ≡ false
unfolding side_sound in_order le
size-nan = refl

pub equal-prices : (side_sound true (at 500000 one ∷ at 500000 two ∷ []) ≡ false) × (side_sound false (at 500000 one ∷ at 500000 two ∷ []) ≡ false)
unfolding side_sound in_order le
equal-prices = (refl, refl)

-- a depth that is not sound is refused with 1, before 12
pub unsound : set true 0 one (record { bids = asks; asks = [] }) ≡ refusal 1
unfolding set sound side_sound in_order le
unsound = refl

-- ---- sums: from the lowest price up, so the last of the bids is the first that counts

pub sum-bids : bid_depth_from 400000 (at 600000 one ∷ at 500000 one ∷ at 400000 large ∷ []) ≡ large
unfolding bid_depth_from add
sum-bids = refl

pub sum-bids-turned : bid_depth_from 400000 (at 600000 large ∷ at 500000 one ∷ at 400000 one ∷ []) ≡ larger
unfolding bid_depth_from add
sum-bids-turned = refl

pub sum-asks : ask_depth_to 600000 (at 400000 one ∷ at 500000 one ∷ at 600000 large ∷ []) ≡ larger
unfolding ask_depth_to add
sum-asks = refl

pub sum-asks-turned : ask_depth_to 600000 (at 400000 large ∷ at 500000 one ∷ at 600000 one ∷ []) ≡ large
unfolding ask_depth_to add
sum-asks-turned = refl

-- the level at the price counts, and the one past it does not
pub sum-to-a-price : (bid_depth_from 500000 bids ≡ fin false 3 (pos 0)) × (ask_depth_to 500000 asks ≡ fin false 3 (pos 0))
unfolding bid_depth_from ask_depth_to add
sum-to-a-price = (refl, refl)

pub sum-of-none : (bid_depth_from 600001 bids ≡ plus_zero) × (ask_depth_to 399999 asks ≡ plus_zero) × (ask_depth_to 600000 [] ≡ plus_zero)
unfolding bid_depth_from ask_depth_to
sum-of-none = (refl, refl, refl)
