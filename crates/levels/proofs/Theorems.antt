-- The theorems of specs/Theorems.antt: what a call keeps, what is read back after it, and what it leaves as it was.
use Rattle.std.specs.Prelude.{None, Option, Some}
use mathlib.Core.Path.{◌≡◌, refl, sym, ◌∙◌, subst}
use mathlib.Core.Logic.{◌⊎◌, inl, inr}
use mathlib.Core.Bool.{Bool, true, false, not, ◌&&◌, cond}
use mathlib.Core.List.{List, [], ◌∷◌, ◌++◌}
use Prim.Native.Nat.{ℕ, ◌+◌, ◌≤◌}
use native.Mathlib.Omega.{arith}
use lib.Dec.{leb, eqb}
use lib.ListN.{length, length-append}
use lib.Ieee.{Float}
use borrow.Author.Tests.{eqb-true, eq-eqb, ne_eqb, not-true, leb-false}
use Rattle.rules.specs.Lists.{keep, any, maybe, Each, Rising}
use Rattle.rules.specs.Answers.{Queried, refusal, value}
use Rattle.rules.proofs.Tests.{either, by_cond, and-true-right}
use Rattle.rules.proofs.ListLaws.{each-imp, each_keep, each_append, length-keep, rising-kept}
use Rattle.levels.specs.declared.Level.{Level}
use Rattle.levels.specs.Depth.{most, better, price_allowed, size_allowed, is_zero, in_order, side_sound, level_at, set_level, new_level, set_side, trim_side}
use Rattle.levels.specs.Depth.{Book, side_of, sound, if_sound, with_side, set, trim}
use Rattle.levels.specs.Theorems.{size_at, SetSound, SetReadsBack, SetLeavesOthers, NoZero, TrimSound, TrimBest, TrimNone, TrimLeavesOthers}
use Rattle.levels.specs.Theorems.{DepthSetSound, DepthTrimSound, SetOtherSide}
use Rattle.levels.proofs.Prices.{better-over}
use Rattle.levels.proofs.Books.{sound-bids, sound-asks}
use Rattle.levels.proofs.Order.{Stand, ahead, level, behind, stand, Better, Allowed, Sound, sound-says, sound-is}
use Rattle.levels.proofs.Order.{passes, rising-append, PartsFit, parts-fit}

-- ---- the size at a price, after each part of a call

or_else_none : (o : Option Float) → maybe None Some o ≡ o
or_else_none None = refl
or_else_none (Some s) = refl

module _ (q : ℕ) where
  at-append : (l r : List Level) → size_at q (l ++ r) ≡ maybe (size_at q r) Some (size_at q l)
  at-append [] r = refl
  at-append (x ∷ l) r = go (either (eqb x.price q)) (at-append l r)
    where
      go : (eqb x.price q ≡ true) ⊎ (eqb x.price q ≡ false) → size_at q (l ++ r) ≡ maybe (size_at q r) Some (size_at q l)
          → size_at q ((x ∷ l) ++ r) ≡ maybe (size_at q r) Some (size_at q (x ∷ l))
      go (inl e) h = rw e
      go (inr e) h = rw e h

  at-kept : (u : ℕ → Bool) (ls : List Level) → size_at q (keep (λ l. u l.price) ls) ≡ cond (u q) (size_at q ls) None
  at-kept u [] = by_cond (λ (o : Option Float). None ≡ o) (u q) (λ e. refl) (λ e. refl)
  at-kept u (l ∷ ls) = go (either (eqb l.price q)) (u l.price) refl (at-kept u ls)
    where
      go : (eqb l.price q ≡ true) ⊎ (eqb l.price q ≡ false) → (b : Bool) → u l.price ≡ b
          → size_at q (keep (λ l. u l.price) ls) ≡ cond (u q) (size_at q ls) None
          → size_at q (keep (λ l. u l.price) (l ∷ ls)) ≡ cond (u q) (size_at q (l ∷ ls)) None
      go (inl e) true f h = let k : u q ≡ true = rw (eqb-true l.price q e) at f in rw (f, e, k)
      go (inl e) false f h = let k : u q ≡ false = rw (eqb-true l.price q e) at f in rw (f, k) (rw k at h)
      go (inr e) true f h = rw (f, e) h
      go (inr e) false f h = rw (f, e) h

  at_set : (bid : Bool) (p : ℕ) (s : Float) (ls : List Level) → size_at q (set_level bid p s ls) ≡ cond (eqb p q) (cond (is_zero s) None (Some s)) (size_at q ls)
  unfolding set_level
  at_set bid p s ls =
      at-append (keep (λ l. better bid l.price p) ls) (level_at p s ++ keep (λ l. better bid p l.price) ls)
      ∙ rw (at-append (level_at p s) (keep (λ l. better bid p l.price) ls), at-kept (λ x. better bid x p) ls, at-kept (λ x. better bid p x) ls)
      (go (stand bid p q) (is_zero s) refl)
    where
      go : Stand bid p q → (z : Bool) → is_zero s ≡ z
          → maybe (maybe (cond (better bid p q) (size_at q ls) None) Some (size_at q (level_at p s))) Some (cond (better bid q p) (size_at q ls) None)
          ≡ cond (eqb p q) (cond (is_zero s) None (Some s)) (size_at q ls)
      go (ahead a b e) true z = rw (a, b, z, e)
      go (ahead a b e) false z = rw (a, b, z, e)
      go (level a b e) true z = rw (a, b, z, e)
      go (level a b e) false z = rw (a, b, z, e)
      go (behind a b e) true z = rw (a, b, z, e) (or_else_none (size_at q ls))
      go (behind a b e) false z = rw (a, b, z, e) (or_else_none (size_at q ls))

-- ---- one side

not-refused : {A : Type 0} {n : ℕ} {x : A} → ◌≡◌ {A = Queried A} (refusal n) (value x) → ⊥
not-refused e = let z : ◌≡◌ {A = ℕ} 0 1 = cc in omega arith

-- what a call that is not refused says
record Took (bid : Bool) (p : ℕ) (s : Float) (ls ls' : List Level) : Type 0 where
  priced : price_allowed p ≡ true
  sized : size_allowed s ≡ true
  room : (new_level p s ls && leb most (length ls)) ≡ false
  now : set_level bid p s ls ≡ ls'

took : (bid : Bool) (p : ℕ) (s : Float) (ls ls' : List Level) → set_side bid p s ls ≡ value ls' → Took bid p s ls ls'
unfolding set_side
took bid p s ls ls' called = go (price_allowed p) (size_allowed s) (new_level p s ls && leb most (length ls)) refl refl refl called
  where
    go : (a b c : Bool) → price_allowed p ≡ a → size_allowed s ≡ b → (new_level p s ls && leb most (length ls)) ≡ c
        → ◌≡◌ {A = Queried (List Level)} (cond (not a) (refusal 12) (cond (not b) (refusal 13) (cond c (refusal 14) (value (set_level bid p s ls))))) (value ls')
        → Took bid p s ls ls'
    go false b c x y z e = absurd (not-refused e)
    go true false c x y z e = absurd (not-refused e)
    go true true true x y z e = absurd (not-refused e)
    go true true false x y z e = record { priced = x; sized = y; room = z; now = cc }

-- the parts of a side that was sound, with the level between them
module _ (bid : Bool) (p : ℕ) (s : Float) (ls ls' : List Level) (was : Sound bid ls) (t : Took bid p s ls ls') where
  abbrev front : List Level
  front = keep (λ l. better bid l.price p) ls

  abbrev back : List Level
  back = keep (λ l. better bid p l.price) ls

  set-few : length (set_level bid p s ls) ≤ most
  unfolding set_level
  set-few =
      rw (length-append front (level_at p s ++ back), length-append (level_at p s) back)
      (go (is_zero s) (any (λ l. eqb l.price p) ls) refl refl (parts-fit bid p ls))
    where
      go : (z a : Bool) → is_zero s ≡ z → any (λ l. eqb l.price p) ls ≡ a → PartsFit bid p ls
          → length front + (length (level_at p s) + length back) ≤ most
      go true a e f h = rw e (omega (arith, was.few))
      go false true e f h = rw e (omega (arith, was.few, rw f at h))
      go false false e f h = rw e (omega (arith, h, leb-false most (length ls) (rw (e, f) at t.room)))

  set-allowed : Each Allowed (set_level bid p s ls)
  unfolding set_level
  set-allowed =
      each_append Allowed front (level_at p s ++ back) (each_keep Allowed _ ls was.allowed)
      (each_append Allowed (level_at p s) back
      (by_cond (Each Allowed) (is_zero s) (λ e. tt) (λ e. (rw (t.priced, t.sized, e), tt)))
      (each_keep Allowed _ ls was.allowed))

  set-rising : Rising (Better bid) (set_level bid p s ls)
  unfolding set_level Rising
  set-rising =
      rising-append (Better bid) front (level_at p s ++ back) (rising-kept (Better bid) _ ls was.rising)
      (rising-append (Better bid) (level_at p s) back
      (by_cond (Rising (Better bid)) (is_zero s) (λ e. tt) (λ e. (tt, tt)))
      (rising-kept (Better bid) _ ls was.rising)
      (by_cond (Each (λ x. Each (Better bid x) back)) (is_zero s) (λ e. tt) (λ e. (worse, tt))))
      (each-imp (λ x. better bid x.price p ≡ true) (λ x. Each (Better bid x) (level_at p s ++ back)) before front (passes (λ l. better bid l.price p) ls))
    where
      worse : Each (λ m. better bid p m.price ≡ true) back
      worse = passes (λ l. better bid p l.price) ls

      before : (x : Level) → better bid x.price p ≡ true → Each (Better bid x) (level_at p s ++ back)
      before x h =
          each_append (Better bid x) (level_at p s) back (by_cond (Each (Better bid x)) (is_zero s) (λ e. tt) (λ e. (h, tt)))
          (each-imp (λ m. better bid p m.price ≡ true) (Better bid x) (λ m k. better-over bid x.price p m.price h k) back worse)

  set-is-sound : Sound bid ls'
  set-is-sound = subst (Sound bid) t.now (record { few = set-few; allowed = set-allowed; rising = set-rising })

pub set-sound : SetSound
set-sound bid p s ls ls' e called = sound-is bid ls' (set-is-sound bid p s ls ls' (sound-says bid ls e) (took bid p s ls ls' called))

pub set-reads-back : SetReadsBack
set-reads-back bid p s ls ls' called =
    rw (← (took bid p s ls ls' called).now) (at_set p bid p s ls ∙ rw (eq-eqb p p refl))

pub set-leaves-others : SetLeavesOthers
set-leaves-others bid p s ls ls' q n called =
    rw (← (took bid p s ls ls' called).now) (at_set q bid p s ls ∙ rw (ne_eqb p q (λ e. n (sym e))))

pub no_zero : NoZero
no_zero bid ls e = each-imp Allowed (λ l. is_zero l.size ≡ false) nonzero ls (sound-says bid ls e).allowed
  where
    nonzero : (l : Level) → Allowed l → is_zero l.size ≡ false
    nonzero l h =
        not-true (is_zero l.size)
        (and-true-right (size_allowed l.size) (not (is_zero l.size))
        (and-true-right (price_allowed l.price) (size_allowed l.size && not (is_zero l.size)) h))

pub trim-sound : TrimSound
unfolding side_sound in_order trim_side
trim-sound bid None ls e = refl
trim-sound bid (Some p) ls e =
    let was = sound-says bid ls e in
    let t : Level → Bool = λ l. not (better bid l.price p) in
    sound-is bid (keep t ls)
    (record {
      few = omega (arith, length-keep t ls, was.few);
      allowed = each_keep Allowed t ls was.allowed;
      rising = rising-kept (Better bid) t ls was.rising;
    })

pub trim-none : TrimNone
unfolding trim_side
trim-none bid ls = refl

pub trim-best : TrimBest
unfolding trim_side
trim-best bid p ls =
    each-imp (λ l. not (better bid l.price p) ≡ true) (λ l. better bid l.price p ≡ false) (λ l e. not-true (better bid l.price p) e)
    (keep (λ l. not (better bid l.price p)) ls) (passes (λ l. not (better bid l.price p)) ls)

pub trim-leaves-others : TrimLeavesOthers
unfolding trim_side
trim-leaves-others bid p q ls e = at-kept q (λ x. not (better bid x p)) ls ∙ rw e

-- ---- both sides

module _ (b : Book) where
  side-sound : (bid : Bool) → sound b ≡ true → side_sound bid (side_of bid b) ≡ true
  side-sound true e = sound-bids b e
  side-sound false e = sound-asks b e

  both-sound : (bid : Bool) → side_sound bid (side_of bid b) ≡ true → side_sound (not bid) (side_of (not bid) b) ≡ true → sound b ≡ true
  unfolding sound
  both-sound true h k = rw (h, k)
  both-sound false h k = rw (k, h)

  if-sound : {A : Type 0} (a : Queried A) {x : A} → if_sound b a ≡ value x → (sound b ≡ true) × (a ≡ value x)
  if-sound a {x} e = go (sound b) refl e
    where
      go : (t : Bool) → sound b ≡ t → cond t a (refusal 1) ≡ value x → (sound b ≡ true) × (a ≡ value x)
      go true f h = (f, h)
      go false f h = absurd (not-refused h)

-- a side that a call made, put back
record Put (bid : Bool) (b b' : Book) (a : Queried (List Level)) : Type 0 where
  made : a ≡ value (side_of bid b')
  other : side_of (not bid) b' ≡ side_of (not bid) b

put : (bid : Bool) (b b' : Book) (a : Queried (List Level)) → with_side bid b a ≡ value b' → Put bid b b' a
put bid b b' (refusal n) e = absurd (not-refused e)
put true b b' (value ls) e = record { made = cc; other = cc }
put false b b' (value ls) e = record { made = cc; other = cc }

did-set : (bid : Bool) (p : ℕ) (s : Float) (b b' : Book) → set bid p s b ≡ value b' → (sound b ≡ true) × Put bid b b' (set_side bid p s (side_of bid b))
unfolding set
did-set bid p s b b' e =
    let (h, k) = if-sound b (with_side bid b (set_side bid p s (side_of bid b))) e in (h, put bid b b' (set_side bid p s (side_of bid b)) k)

pub depth-set-sound : DepthSetSound
depth-set-sound bid p s b b' e =
    let (h, d) = did-set bid p s b b' e in
    both-sound b' bid (set-sound bid p s (side_of bid b) (side_of bid b') (side-sound b bid h) d.made) (rw d.other (side-sound b (not bid) h))

pub depth-trim-sound : DepthTrimSound
unfolding trim
depth-trim-sound x y b b' e =
    let d : Book = record { bids = trim_side true x b.bids; asks = trim_side false y b.asks } in
    let (h, k) = if-sound b (value d) e in
    let q : d ≡ b' = cc in
    subst (λ (c : Book). sound c ≡ true) q
    (both-sound d true (trim-sound true x b.bids (side-sound b true h)) (trim-sound false y b.asks (side-sound b false h)))

pub set-other-side : SetOtherSide
set-other-side bid p s b b' e = (did-set bid p s b b' e).1.other
