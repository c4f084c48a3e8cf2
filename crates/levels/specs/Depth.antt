-- Request 2 of document 02, price levels of a token: `Depth` of market_data.rs. The quoted words are the request's.
-- A size is a float of `lib.Ieee`. Two sizes that are no NaN are equal here exactly when they are equal bit for bit.
use Rattle.std.specs.Prelude.{None, Option, Some, Bool, true, false, not, ◌&&◌, cond, List, [], ◌∷◌, ◌++◌, map, reverse, ℕ, leb, ltb, eqb, pos, length, Float}
use Rattle.std.specs.Float.{inf, fin, binary64}
use Rattle.std.specs.Float.Ieee.{add, lt, le, eq}
use Rattle.rules.specs.Lists.{keep, any}
use Rattle.rules.specs.Answers.{Queried, refusal, value}
use Rattle.levels.specs.declared.Level.{Level}

-- "for each side up to 512 levels, each a price in millionths and a size in f64"
abbrev pub most : ℕ
most = 512

-- "best price outward": of two bids the higher is the better, of two asks the lower
abbrev pub better : (bid : Bool) → ℕ → ℕ → Bool
better true p q = ltb q p
better false p q = ltb p q

-- "12 a price to set outside 1 to 999,999"
abbrev pub price_allowed : ℕ → Bool
price_allowed p = leb 1 p && leb p 999999

abbrev pub plus_zero : Float
plus_zero = fin false 0 (pos 0)

-- "13 size negative or not finite": every comparison with a NaN is false, and minus zero equals zero
abbrev pub size_allowed : Float → Bool
size_allowed s = le plus_zero s && lt s (inf false)

-- "a size of minus zero counts as zero"
abbrev pub is_zero : Float → Bool
is_zero s = eq s plus_zero

-- "A depth not strictly in price order, over 512 a side, or with a level of size zero or that 12 or 13 forbids"
abbrev pub level_allowed : Level → Bool
level_allowed l = price_allowed l.price && (size_allowed l.size && not (is_zero l.size))

abbrev pub better_than_next : Bool → Level → List Level → Bool
better_than_next bid l [] = true
better_than_next bid l (m ∷ ms) = better bid l.price m.price

unfoldable pub in_order : Bool → List Level → Bool
in_order bid [] = true
in_order bid (l ∷ ls) = (level_allowed l && better_than_next bid l ls) && in_order bid ls

unfoldable pub side_sound : Bool → List Level → Bool
side_sound bid ls = leb (length ls) most && in_order bid ls

-- "Setting a level replaces its size, and size zero removes it or, where it is absent, does nothing"
abbrev pub level_at : ℕ → Float → List Level
level_at p s = cond (is_zero s) [] (record { price = p; size = s } ∷ [])

unfoldable pub set_level : Bool → ℕ → Float → List Level → List Level
set_level bid p s ls = keep (λ l. better bid l.price p) ls ++ (level_at p s ++ keep (λ l. better bid p l.price) ls)

-- "14 a new level on a side of 512"
abbrev pub new_level : ℕ → Float → List Level → Bool
new_level p s ls = not (is_zero s) && not (any (λ l. eqb l.price p) ls)

-- "in that order": the number of a refusal, or the side as the call leaves it
unfoldable pub set_side : Bool → ℕ → Float → List Level → Queried (List Level)
set_side bid p s ls =
    cond (not (price_allowed p)) (refusal 12)
    (cond (not (size_allowed s)) (refusal 13)
    (cond (new_level p s ls && leb most (length ls)) (refusal 14)
    (value (set_level bid p s ls))))

-- "Trim drops every level better than the reported best, or the whole side where none is reported"
unfoldable pub trim_side : Bool → Option ℕ → List Level → List Level
trim_side bid None ls = []
trim_side bid (Some p) ls = keep (λ l. not (better bid l.price p)) ls

-- The sums of market_data.rs: sizes are added in rising order of price, from plus zero, and each addition is rounded once.
abbrev pub total : Float → List Float → Float
total x [] = x
total x (s ∷ ss) = total (add binary64 x s) ss

abbrev pub sizes_of : List Level → List Float
sizes_of ls = map (λ l. l.size) ls

-- `bid_depth_from`: the size of the bids at or above a price; bids fall, so they are added from the last to the first
unfoldable pub bid_depth_from : ℕ → List Level → Float
bid_depth_from floor ls = total plus_zero (reverse (sizes_of (keep (λ l. leb floor l.price) ls)))

-- `ask_depth_to`: the size of the asks at or below a price
unfoldable pub ask_depth_to : ℕ → List Level → Float
ask_depth_to ceiling ls = total plus_zero (sizes_of (keep (λ l. leb l.price ceiling) ls))

-- the best level is the first
abbrev pub best_of : List Level → Option Level
best_of [] = None
best_of (l ∷ ls) = Some l

-- ---- a depth: both sides

pub record Book : Type 0 where
  pub bids : List Level
  pub asks : List Level

abbrev pub side_of : Bool → Book → List Level
side_of true b = b.bids
side_of false b = b.asks

unfoldable pub sound : Book → Bool
sound b = side_sound true b.bids && side_sound false b.asks

-- "is refused first with 1"
abbrev pub if_sound : {A : Type 0} → Book → Queried A → Queried A
if_sound b a = cond (sound b) a (refusal 1)

abbrev pub with_side : Bool → Book → Queried (List Level) → Queried Book
with_side bid b (refusal n) = refusal n
with_side true b (value ls) = value (record { bids = ls; asks = b.asks })
with_side false b (value ls) = value (record { bids = b.bids; asks = ls })

unfoldable pub whole : Book → Queried Book
whole b = if_sound b (value b)

unfoldable pub set : Bool → ℕ → Float → Book → Queried Book
set bid p s b = if_sound b (with_side bid b (set_side bid p s (side_of bid b)))

unfoldable pub trim : (best_bid best_ask : Option ℕ) → Book → Queried Book
trim best_bid best_ask b = if_sound b (value (record { bids = trim_side true best_bid b.bids; asks = trim_side false best_ask b.asks }))

unfoldable pub best : Bool → Book → Queried (Option Level)
best bid b = if_sound b (value (best_of (side_of bid b)))

-- "all levels", in order
unfoldable pub levels : Bool → Book → Queried (List Level)
levels bid b = if_sound b (value (side_of bid b))

unfoldable pub bids_from : ℕ → Book → Queried Float
bids_from floor b = if_sound b (value (bid_depth_from floor b.bids))

unfoldable pub asks_to : ℕ → Book → Queried Float
asks_to ceiling b = if_sound b (value (ask_depth_to ceiling b.asks))
