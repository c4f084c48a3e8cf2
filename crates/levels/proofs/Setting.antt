-- Setting a level, on a side in order: what goes before a price's place and what goes behind it stay as they are.
use mathlib.Core.Path.{◌≡◌, refl, ap, sym, ◌∙◌}
use mathlib.Core.Logic.{⊎_elim}
use mathlib.Core.Bool.{Bool, true, false, ◌&&◌, and-false}
use mathlib.Core.List.{List, ◌∷◌, ◌++◌}
use Prim.Native.Nat.{ℕ, ◌+◌, ◌≤◌, ◌<◌}
use native.Mathlib.Numerals.{add-one}
use lib.Dec.{leb, ltb, eqb}
use lib.ListN.{length, take, drop, get_or, set, take-append-drop}
use lib.Seq.{set_split, get_or-set_same, get_or-set_other}
use lib.Ieee.{Float, nan}
use borrow.Author.Tests.{ltb-true, eqb-true, le-leb, lt-leb, ne_eqb}
use Rattle.rules.specs.Lists.{keep, any}
use Rattle.rules.specs.Answers.{refusal, value}
use Rattle.rules.proofs.Tests.{ff≢tt, and-true-left, and-true-right}
use Rattle.words.proofs.Tab.{length-tab, tab-set}
use Rattle.words.proofs.Lists.{any_at, any_none}
use Rattle.words.proofs.Cases.{below_or}
use Rattle.levels.specs.declared.Level.{Level}
use Rattle.levels.specs.Depth.{most, better, price_allowed, size_allowed, is_zero, new_level, set_level, side_sound, set_side}
use Rattle.levels.specs.Work.{level_in, levels_of, Falling, Place, Through}
use Rattle.levels.proofs.Prices.{better-self}
use Rattle.levels.proofs.Halving.{through-more, through_here}
use Rattle.levels.proofs.SideLaws.{keep-front, keep-back, sound-count, sound-falling}

-- ---- a price's place
module _ (bid : Bool) (ps : List ℕ) (ss : List Float) (n p at : ℕ) (w : Place bid ps n p at) where
  kept-ahead : keep (λ l. better bid l.price p) (levels_of ps ss n) ≡ take at (levels_of ps ss n)
  kept-ahead = keep-front (λ l. better bid l.price p) at n (level_in ps ss) w.ahead w.behind

  kept-behind : (k : ℕ) → Through bid ps n p k → keep (λ l. better bid p l.price) (levels_of ps ss n) ≡ drop k (levels_of ps ss n)
  kept-behind k t = keep-back (λ l. better bid p l.price) k n (level_in ps ss) t.ahead t.behind

  -- the price does not stand there
  module _ (falling : Falling bid ps n) (absent : (ltb at n && eqb (get_or ps at 0) p) ≡ false) where
    through : Through bid ps n p at
    through = through_here bid ps n p falling at w false (sym absent) refl

    pub none-there : any (λ l. eqb l.price p) (levels_of ps ss n) ≡ false
    none-there =
        any_none (λ l. eqb l.price p) n (level_in ps ss)
        (λ k h. ne_eqb (get_or ps k 0) p
        (λ e. ⊎_elim
        (λ b. ff≢tt (better-self bid p) (rw e at (w.ahead k b)))
        (λ b. ff≢tt (better-self bid p) (rw e at (through.behind k b h)))
        (below_or k at)))

    pub set_new : (s : Float) → is_zero s ≡ false
        → set_level bid p s (levels_of ps ss n) ≡ take at (levels_of ps ss n) ++ (record { price = p; size = s } ∷ drop at (levels_of ps ss n))
    unfolding set_level
    set_new s z = rw (z, kept-ahead, kept-behind at through)

    pub set-nothing : (s : Float) → is_zero s ≡ true → set_level bid p s (levels_of ps ss n) ≡ levels_of ps ss n
    unfolding set_level
    set-nothing s z = rw (z, kept-ahead, kept-behind at through) (take-append-drop at (levels_of ps ss n))

  -- the price stands there
  module _ (falling : Falling bid ps n) (present : (ltb at n && eqb (get_or ps at 0) p) ≡ true) where
    past : Through bid ps n p (at + 1)
    past = through-more bid ps n p falling at w true (sym present) refl

    pub one-there : any (λ l. eqb l.price p) (levels_of ps ss n) ≡ true
    one-there =
        any_at (λ l. eqb l.price p) n (level_in ps ss) at (ltb-true at n (and-true-left (ltb at n) _ present)) (and-true-right (ltb at n) _ present)

    pub set-again : (s : Float) → is_zero s ≡ false
        → set_level bid p s (levels_of ps ss n) ≡ take at (levels_of ps ss n) ++ (record { price = p; size = s } ∷ drop (at + 1) (levels_of ps ss n))
    unfolding set_level
    set-again s z = rw (z, kept-ahead, kept-behind (at + 1) past)

    pub set-gone : (s : Float) → is_zero s ≡ true
        → set_level bid p s (levels_of ps ss n) ≡ take at (levels_of ps ss n) ++ drop (at + 1) (levels_of ps ss n)
    unfolding set_level
    set-gone s z = rw (z, kept-ahead, kept-behind (at + 1) past)

-- ---- what setting a level answers
module _ (bid : Bool) (p : ℕ) (s : Float) (ls : List Level) where
  pub refused-12 : price_allowed p ≡ false → refusal 12 ≡ set_side bid p s ls
  unfolding set_side
  refused-12 e = rw e

  pub refused-13 : price_allowed p ≡ true → size_allowed s ≡ false → refusal 13 ≡ set_side bid p s ls
  unfolding set_side
  refused-13 e f = rw (e, f)

-- the call comes as far as the price's place, and has tested whether it stands there
pub record Reached (bid : Bool) (ps : List ℕ) (ss : List Float) (n p at : ℕ) (s : Float) (there : Bool) : Type 0 where
  pub sound : side_sound bid (levels_of ps ss n) ≡ true
  pub price : price_allowed p ≡ true
  pub size : size_allowed s ≡ true
  pub place : Place bid ps n p at
  pub tested : there ≡ (ltb at n && eqb (get_or ps at 0) p)

-- so far, from what the calls on the way ensure
pub reached : (bid : Bool) (ps : List ℕ) (ss : List Float) (n p at : ℕ) (s : Float) (there : Bool) → side_sound bid (levels_of ps ss n) ≡ true → price_allowed p ≡ true
    → size_allowed s ≡ true
    → Place bid ps n p at
    → there ≡ (ltb at n && eqb (get_or ps at 0) p)
    → Reached bid ps ss n p at s there
reached bid ps ss n p at s there sound price size place tested = record {
  sound = sound;
  price = price;
  size = size;
  place = place;
  tested = tested;
}

module _ {bid : Bool} {ps : List ℕ} {ss : List Float} {n p at : ℕ} {s : Float} {there : Bool} (r : Reached bid ps ss n p at s there) where
  pub counted : n ≤ most
  counted = sound-count bid ps ss n r.sound

  falls : Falling bid ps n
  falls = sound-falling bid ps ss n r.sound

  answered : (new_level p s (levels_of ps ss n) && leb most (length (levels_of ps ss n))) ≡ false → {l : List Level} → l ≡ set_level bid p s (levels_of ps ss n)
      → value l ≡ set_side bid p s (levels_of ps ss n)
  unfolding set_side
  answered f e = rw (r.price, r.size, f) (ap value e)

  module _ (e : there ≡ false) where
    absent : (ltb at n && eqb (get_or ps at 0) p) ≡ false
    absent = sym r.tested ∙ e

    pub refused-14 : is_zero s ≡ false → most ≤ n → refusal 14 ≡ set_side bid p s (levels_of ps ss n)
    unfolding set_side
    refused-14 z h = rw (r.price, r.size, z, none-there bid ps ss n p at r.place falls absent, length-tab n (level_in ps ss), le-leb most n h)

    pub new : is_zero s ≡ false → n < most → {l : List Level} → l ≡ take at (levels_of ps ss n) ++ (record { price = p; size = s } ∷ drop at (levels_of ps ss n))
        → value l ≡ set_side bid p s (levels_of ps ss n)
    new z h q =
        answered (rw (z, none-there bid ps ss n p at r.place falls absent, length-tab n (level_in ps ss), lt-leb most n h))
        (q ∙ sym (set_new bid ps ss n p at r.place falls absent s z))

    pub nothing : is_zero s ≡ true → value (levels_of ps ss n) ≡ set_side bid p s (levels_of ps ss n)
    nothing z = answered (rw z) (sym (set-nothing bid ps ss n p at r.place falls absent s z))

  module _ (e : there ≡ true) where
    present : (ltb at n && eqb (get_or ps at 0) p) ≡ true
    present = sym r.tested ∙ e

    pub among : at < n
    among = ltb-true at n (and-true-left (ltb at n) (eqb (get_or ps at 0) p) present)

    not_new : (new_level p s (levels_of ps ss n) && leb most (length (levels_of ps ss n))) ≡ false
    not_new = rw (one-there bid ps ss n p at r.place falls present, and-false)

    pub gone : is_zero s ≡ true → {l : List Level} → l ≡ take at (levels_of ps ss n) ++ drop (at + 1) (levels_of ps ss n)
        → value l ≡ set_side bid p s (levels_of ps ss n)
    gone z q = answered not_new (q ∙ sym (set-gone bid ps ss n p at r.place falls present s z))

    pub again : is_zero s ≡ false → at < length ss → {v : List Float} → v ≡ set ss at s → value (levels_of ps v n) ≡ set_side bid p s (levels_of ps ss n)
    again z h q = rw q (answered not_new (written ∙ sym (set-again bid ps ss n p at r.place falls present s z)))
      where
        written : levels_of ps (set ss at s) n ≡ take at (levels_of ps ss n) ++ (record { price = p; size = s } ∷ drop (at + 1) (levels_of ps ss n))
        written =
            tab-set n (level_in ps ss) (level_in ps (set ss at s)) at (record { price = p; size = s })
            (λ l. rw (eqb-true (get_or ps at 0) p (and-true-right (ltb at n) (eqb (get_or ps at 0) p) present), get_or-set_same ss at s nan h))
            (λ j l d. rw (get_or-set_other ss at j s nan d))
            ∙ rw add-one (set_split (levels_of ps ss n) at (record { price = p; size = s }) (rw length-tab among))
