-- What holds of the definitions, for every side, depth, price and size. Each is proved in proofs/Theorems.antt.
use Rattle.std.specs.Prelude.{None, Option, Some, ◌≡◌, Bool, true, false, not, cond, List, [], ℕ, eqb, Float}
use Rattle.rules.specs.Lists.{first, maybe, Each}
use Rattle.rules.specs.Answers.{value}
use Rattle.levels.specs.declared.Level.{Level}
use Rattle.levels.specs.Depth.{better, is_zero, side_sound, set_side, trim_side, Book, side_of, sound, set, trim}

-- the size that stands at a price
abbrev pub size_at : ℕ → List Level → Option Float
size_at p ls = maybe None (λ l. Some l.size) (first (λ l. eqb l.price p) ls)

-- a level that is set leaves a sound side; by refusal 14 a side of 512 stays at 512
abbrev pub SetSound : Type 0
SetSound = (bid : Bool) (p : ℕ) (s : Float) (ls ls' : List Level) → side_sound bid ls ≡ true → set_side bid p s ls ≡ value ls' → side_sound bid ls' ≡ true

-- what is set is read back, the same float, and after size zero nothing is there: on every side, sound or not
abbrev pub SetReadsBack : Type 0
SetReadsBack = (bid : Bool) (p : ℕ) (s : Float) (ls ls' : List Level) → set_side bid p s ls ≡ value ls' → size_at p ls' ≡ cond (is_zero s) None (Some s)

-- and at every other price the size that was there
abbrev pub SetLeavesOthers : Type 0
SetLeavesOthers =
    (bid : Bool) (p : ℕ) (s : Float) (ls ls' : List Level) (q : ℕ) → (q ≡ p → ⊥) → set_side bid p s ls ≡ value ls' → size_at q ls' ≡ size_at q ls

-- a sound side has no level of size zero
abbrev pub NoZero : Type 0
NoZero = (bid : Bool) (ls : List Level) → side_sound bid ls ≡ true → Each (λ l. is_zero l.size ≡ false) ls

-- a trim leaves a sound side
abbrev pub TrimSound : Type 0
TrimSound = (bid : Bool) (best : Option ℕ) (ls : List Level) → side_sound bid ls ≡ true → side_sound bid (trim_side bid best ls) ≡ true

-- no level better than the reported best is left, and none at all where none is reported
abbrev pub TrimBest : Type 0
TrimBest = (bid : Bool) (p : ℕ) (ls : List Level) → Each (λ l. better bid l.price p ≡ false) (trim_side bid (Some p) ls)

abbrev pub TrimNone : Type 0
TrimNone = (bid : Bool) (ls : List Level) → trim_side bid None ls ≡ []

-- a price that is no better than the best keeps its size
abbrev pub TrimLeavesOthers : Type 0
TrimLeavesOthers = (bid : Bool) (p q : ℕ) (ls : List Level) → better bid q p ≡ false → size_at q (trim_side bid (Some p) ls) ≡ size_at q ls

-- of a depth: a call that is not refused leaves a sound one, and a set the other side as it was
abbrev pub DepthSetSound : Type 0
DepthSetSound = (bid : Bool) (p : ℕ) (s : Float) (b b' : Book) → set bid p s b ≡ value b' → sound b' ≡ true

abbrev pub DepthTrimSound : Type 0
DepthTrimSound = (x y : Option ℕ) (b b' : Book) → trim x y b ≡ value b' → sound b' ≡ true

abbrev pub SetOtherSide : Type 0
SetOtherSide = (bid : Bool) (p : ℕ) (s : Float) (b b' : Book) → set bid p s b ≡ value b' → side_of (not bid) b' ≡ side_of (not bid) b
