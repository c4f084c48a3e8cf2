-- A side read from the other end: what is sound, set, trimmed and added up in it, told of the side as it lies.
use mathlib.Core.Path.{◌≡◌, refl, ap, sym, ◌∙◌}
use mathlib.Core.Bool.{Bool, true, false, not, ◌&&◌, cond, not-not}
use mathlib.Core.List.{List, [], ◌∷◌, ◌++◌, reverse, reverse-append, reverse-reverse, append_assoc}
use Prim.Native.Nat.{ℕ, suc, ◌+◌, ◌-◌, ◌≤◌}
use lib.Dec.{leb, eqb}
use lib.ListN.{length, length-reverse, drop, get_or}
use lib.Ieee.{Float}
use borrow.Author.Tests.{ltb-true, ltb-false, le-leb, lt-leb}
use Rattle.rules.specs.Lists.{keep, Rising}
use Rattle.rules.specs.Answers.{Queried, refusal, value}
use Rattle.rules.proofs.Tests.{by_cond}
use Rattle.words.proofs.Tab.{tab-suc, tab-from, map-tab}
use Rattle.levels.specs.declared.Level.{Level}
use Rattle.levels.specs.declared.refusal.Refusal.{Refusal}
use Rattle.std.specs.Prelude.{None, Some, Result, Ok, Err}
use Rattle.levels.specs.Depth.{most, better, price_allowed, size_allowed, is_zero, level_at, new_level, set_level, set_side, side_sound, trim_side}
use Rattle.levels.specs.Depth.{sizes_of, total, plus_zero, bid_depth_from, ask_depth_to, best_of}
use Rattle.levels.specs.Work.{level_in, levels_of, side_in, sizes_in, Falling, Place, Through, as_laid, as_side}
use Rattle.levels.proofs.Order.{Better, Allowed, Sound, sound-says, sound-is}
use Rattle.levels.proofs.SideLaws.{take-tab, keep-front, keep-back, sound-count, sound-falling}
use Rattle.levels.proofs.ReverseLists.{keep-reverse, any-reverse, each-reverse, rising-reverse, map-reverse}

-- of two prices the worse is the better from the other end
better-turned : (bid : Bool) (p q : ℕ) → better (not bid) q p ≡ better bid p q
better-turned true p q = refl
better-turned false p q = refl

-- ---- sound

rising-turned : (bid : Bool) (ls : List Level) → Rising (Better (not bid)) ls → Rising (Better bid) (reverse ls)
rising-turned true ls h = rising-reverse (Better false) ls h
rising-turned false ls h = rising-reverse (Better true) ls h

turned : (bid : Bool) (ls : List Level) → Sound (not bid) ls → Sound bid (reverse ls)
turned bid ls s =
    record {
      few = rw length-reverse s.few;
      allowed = each-reverse Allowed ls s.allowed;
      rising = rising-turned bid ls s.rising;
    }

-- two tests that imply each other
both : (a b : Bool) → (a ≡ true → b ≡ true) → (b ≡ true → a ≡ true) → a ≡ b
both true b f g = sym (f refl)
both false true f g = g refl
both false false f g = refl

pub sound-reverse : (bid : Bool) (ls : List Level) → side_sound bid (reverse ls) ≡ side_sound (not bid) ls
sound-reverse bid ls =
    both (side_sound bid (reverse ls)) (side_sound (not bid) ls)
    (λ e. sound-is (not bid) ls (rw reverse-reverse at (turned (not bid) (reverse ls) (rw not-not (sound-says bid (reverse ls) e)))))
    (λ e. sound-is bid (reverse ls) (turned bid ls (sound-says (not bid) ls e)))

module _ (bid : Bool) (ps : List ℕ) (ss : List Float) (n : ℕ) (sound : side_sound bid (side_in ps ss n) ≡ true) where
  pub lies : side_sound (not bid) (levels_of ps ss n) ≡ true
  lies = sym (sound-reverse bid (levels_of ps ss n)) ∙ sound

  pub side-count : n ≤ 512
  side-count = sound-count (not bid) ps ss n lies

  pub side-falling : Falling (not bid) ps n
  side-falling = sound-falling (not bid) ps ss n lies

-- ---- setting a level

-- an answer, with its side read from the other end
abbrev pub reversed : Queried (List Level) → Queried (List Level)
reversed (refusal n) = refusal n
reversed (value l) = value (reverse l)

around : (l m r : List Level) → reverse m ≡ m → reverse r ++ (m ++ reverse l) ≡ reverse (l ++ (m ++ r))
around l m r e = rw (reverse-append, reverse-append, e, append_assoc)

module _ (bid : Bool) (p : ℕ) (s : Float) (ls : List Level) where
  level : reverse (level_at p s) ≡ level_at p s
  level = by_cond (λ (l : List Level). reverse l ≡ l) (is_zero s) (λ e. refl) (λ e. refl)

  set-level : set_level bid p s (reverse ls) ≡ reverse (set_level (not bid) p s ls)
  unfolding set_level
  set-level =
      simp (better-turned, keep-reverse)
      (around (keep (λ l. better bid p l.price) ls) (level_at p s) (keep (λ l. better bid l.price p) ls) level)

  pub set-reverse : set_side bid p s (reverse ls) ≡ reversed (set_side (not bid) p s ls)
  unfolding set_side
  set-reverse =
      rw (any-reverse (λ l. eqb l.price p) ls, length-reverse ls, set-level)
      (go (not (price_allowed p)) (not (size_allowed s)) (new_level p s ls && leb most (length ls)) (set_level (not bid) p s ls))
    where
      go : (a b c : Bool) (l : List Level)
          → cond a (refusal 12) (cond b (refusal 13) (cond c (refusal 14) (value (reverse l))))
          ≡ reversed (cond a (refusal 12) (cond b (refusal 13) (cond c (refusal 14) (value l))))
      go true b c l = refl
      go false true c l = refl
      go false false true l = refl
      go false false false l = refl

side-laid : (r : Result ℕ Refusal) (ps : List ℕ) (ss : List Float) → as_side r ps ss ≡ reversed (as_laid r ps ss)
side-laid (Ok n) ps ss = refl
side-laid (Err e) ps ss = refl

-- what is answered of a side is what is answered of its arrays
pub side_set : (r : Result ℕ Refusal) (ps : List ℕ) (ss : List Float) (bid : Bool) (p : ℕ) (s : Float) (ls : List Level)
    → as_laid r ps ss ≡ set_side (not bid) p s ls → as_side r ps ss ≡ set_side bid p s (reverse ls)
side_set r ps ss bid p s ls e = side-laid r ps ss ∙ ap reversed e ∙ sym (set-reverse bid p s ls)

-- ---- trimming, the sums and the best level

module _ (ps : List ℕ) (ss : List Float) where
  pub trim-reverse : (bid : Bool) (count p n : ℕ) → Through (not bid) ps count p n → trim_side bid (Some p) (side_in ps ss count) ≡ side_in ps ss n
  unfolding trim_side
  trim-reverse bid count p n w =
      keep-reverse (λ l. not (better bid l.price p)) (levels_of ps ss count)
      ∙ ap reverse
      (keep-front (λ l. not (better bid l.price p)) n count (level_in ps ss)
      (λ i l. ap not (sym (better-turned bid (get_or ps i 0) p) ∙ w.ahead i l))
      (λ i l m. ap not (sym (better-turned bid (get_or ps i 0) p) ∙ w.behind i l m))
      ∙ take-tab n count (level_in ps ss) w.within)

  sizes-from : (at count : ℕ) → sizes_of (drop at (levels_of ps ss count)) ≡ sizes_in ss at count
  sizes-from at count = rw tab-from (map-tab (λ (l : Level). l.size) (count - at) (λ i. level_in ps ss (at + i)))

  pub bids-reverse : (count floor at : ℕ) → Place false ps count floor at → bid_depth_from floor (side_in ps ss count) ≡ total plus_zero (sizes_in ss at count)
  unfolding bid_depth_from
  bids-reverse count floor at w =
      rw (
        keep-reverse (λ l. leb floor l.price) (levels_of ps ss count),
        keep-back (λ l. leb floor l.price) at count (level_in ps ss)
            (λ i l. lt-leb floor (get_or ps i 0) (ltb-true _ _ (w.ahead i l)))
            (λ i l m. le-leb floor (get_or ps i 0) (ltb-false _ _ (w.behind i l m))),
        map-reverse,
        reverse-reverse,
        sizes-from,
      )

  pub asks-reverse : (count ceiling at : ℕ) → Place true ps count ceiling at
      → ask_depth_to ceiling (side_in ps ss count) ≡ total plus_zero (reverse (sizes_in ss at count))
  unfolding ask_depth_to
  asks-reverse count ceiling at w =
      rw (
        keep-reverse (λ l. leb l.price ceiling) (levels_of ps ss count),
        keep-back (λ l. leb l.price ceiling) at count (level_in ps ss)
            (λ i l. lt-leb (get_or ps i 0) ceiling (ltb-true _ _ (w.ahead i l)))
            (λ i l m. le-leb (get_or ps i 0) ceiling (ltb-false _ _ (w.behind i l m))),
        map-reverse,
        sizes-from,
      )

  pub best-last : (n : ℕ) → best_of (side_in ps ss (suc n)) ≡ Some (level_in ps ss n)
  best-last n = ap best_of (ap reverse (tab-suc n (level_in ps ss)) ∙ reverse-append (levels_of ps ss n) (level_in ps ss n ∷ []))

  pub best-nothing : best_of (side_in ps ss 0) ≡ None
  best-nothing = refl
