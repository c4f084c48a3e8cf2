-- Laws for connections that go on: nothing pending, so a sweep does nothing; the largest of a list; lines with one changed.
use mathlib.Core.Path.{◌≡◌, refl, sym, ◌∙◌, ap}
use mathlib.Core.Logic.{◌≢◌}
use mathlib.Core.List.{List, [], ◌∷◌, ◌++◌, map}
use mathlib.Core.Bool.{Bool, true, false, cond}
use Prim.Native.Nat.{ℕ, zero, suc, ◌+◌, ◌≤◌, ◌<◌, max}
use native.Mathlib.Omega.{arith}
use native.Mathlib.Nat.{not-suc-le-zero, le_of_suc-le-suc}
use lib.Dec.{eqb}
use lib.ListN.{length, get_or, set}
use Rattle.rules.specs.Lists.{Each, Rising, index, largest, maybe, sum}
use Rattle.rules.specs.Quantities.{Key}
use Rattle.rules.specs.Lines.{Connection, Failed, InLine, Line, Pending, Waiting, conn_at, is_in_line, is_pending, nobody}
use Rattle.rules.specs.Entering.{Work, aligns, line_up, pendings, round, rounds, sweep, try_line_up}
use Rattle.rules.specs.Demand.{numbered}
use Rattle.rules.proofs.Tests.{eqb_same, ff≢tt}
use Rattle.rules.proofs.ListLaws.{each_at, each-imp}
use Rattle.rules.proofs.Invariant.{Sorted}

abbrev pub Still : Connection → Type 0
Still s = is_pending s.line ≡ false

still-at : (ls : List Connection) (i : ℕ) → Each Still ls → is_pending (get_or ls i nobody).line ≡ false
still-at [] i h = refl
still-at (x ∷ xs) zero h = h.0
still-at (x ∷ xs) (suc i) h = still-at xs i h.1

try_line_up-still : (i now : ℕ) (w : Work) → Each Still w.market.lines → try_line_up false i now w ≡ w
unfolding try_line_up
try_line_up-still i now w h = go (conn_at i w.market).line (still-at w.market.lines i h)
  where
    go : (l : Line) → is_pending l ≡ false → maybe w (λ p. line_up i now p w) (aligns false l w.market) ≡ w
    go (Waiting is since) e = refl
    go (Pending is at since) e = absurd (let z : ◌≡◌ {A = ℕ} 0 1 = cc in omega arith)
    go (InLine n a b) e = refl
    go Failed e = refl

round-still : (n i now : ℕ) (w : Work) → Each Still w.market.lines → round n i now w ≡ w
unfolding round
round-still zero i now w h = refl
round-still (suc n) i now w h = ap (round n (suc i) now) (try_line_up-still i now w h) ∙ round-still n (suc i) now w h

pub sweep-still : (now : ℕ) (w : Work) → Each Still w.market.lines → sweep now w ≡ w
unfolding rounds
sweep-still now w h = go (round (length w.market.lines) 0 now w) (round-still (length w.market.lines) 0 now w h)
  where
    go : (w' : Work) → w' ≡ w → cond (eqb (pendings w'.market.lines) (pendings w.market.lines)) w' (rounds (length w.market.lines) now w') ≡ w
    go w' e = ap (λ (b : Bool). cond b w' (rounds (length w.market.lines) now w')) (ap (λ (x : Work). eqb (pendings x.market.lines) (pendings w.market.lines)) e ∙ eqb_same (pendings w.market.lines)) ∙ e

-- ---- largest

pub largest-at-least : (n : ℕ) (l : List ℕ) → n ≤ largest n l
largest-at-least n [] = omega arith
largest-at-least n (x ∷ xs) = let h = largest-at-least n xs in omega arith

pub largest-max : (n x : ℕ) (l : List ℕ) → largest (max n x) l ≡ max x (largest n l)
largest-max n x [] = omega arith
largest-max n x (y ∷ ys) = let h = largest-max n x ys in omega arith

pub largest-absorb : (n x : ℕ) (l : List ℕ) (i : ℕ) → i < length l → x ≤ get_or l i 0 → largest (max n x) l ≡ largest n l
largest-absorb n x [] i h e = absurd (not-suc-le-zero h)
largest-absorb n x (y ∷ ys) zero h e = let k = largest-max n x ys in omega arith
largest-absorb n x (y ∷ ys) (suc i) h e = let k = largest-absorb n x ys i (le_of_suc-le-suc h) e in omega arith

pub largest-same : (n : ℕ) (l : List ℕ) → Each (λ x. x ≤ n) l → largest n l ≡ n
largest-same n [] h = refl
largest-same n (x ∷ xs) h = let k = largest-same n xs h.1 in let j = h.0 in omega arith

-- ---- one of sorted lines changed

module _ {B : Type 0} where
  pub map_each : (f g : Connection → B) (l : List Connection) → Each (λ x. f x ≡ g x) l → map f l ≡ map g l
  map_each f g [] h = refl
  map_each f g (x ∷ xs) h = let p = h.0 in let q = map_each f g xs h.1 in cc

  pub map-set : (f g : Connection → B) (l : List Connection) (i : ℕ) (v : Connection) → Sorted l → i < length l
      → f (get_or l i nobody) ≡ g v → ((x : Connection) → x.conn ≢ (get_or l i nobody).conn → f x ≡ g x) → map f l ≡ map g (set l i v)
  unfolding Rising
  map-set f g [] i v o h e k = absurd (not-suc-le-zero h)
  map-set f g (x ∷ xs) zero v o h e k =
      let q = map_each f g xs (each-imp (λ y. x.conn < y.conn) (λ y. f y ≡ g y) (λ y lt. k y (λ z. omega arith)) xs o.0) in cc
  map-set f g (x ∷ xs) (suc i) v o h e k =
      let p = k x (λ z. let lt = each_at (λ y. x.conn < y.conn) xs i nobody (le_of_suc-le-suc h) o.0 in omega arith) in
      let q = map-set f g xs i v o.1 (le_of_suc-le-suc h) e k in cc

pub sum-set-same : (f : Connection → ℕ) (l : List Connection) (i : ℕ) (v : Connection) → f v ≡ f (get_or l i nobody) → sum f (set l i v) ≡ sum f l
sum-set-same f [] i v e = refl
sum-set-same f (x ∷ xs) zero v e = omega arith
sum-set-same f (x ∷ xs) (suc i) v e = let h = sum-set-same f xs i v e in omega arith

-- the largest where one, x, may have gone into n
pub largest-shift : (n x : ℕ) (f g : Connection → ℕ) (l : List Connection) (i : ℕ) → Sorted l → i < length l
    → max x (g (get_or l i nobody)) ≡ f (get_or l i nobody) → ((y : Connection) → y.conn ≢ (get_or l i nobody).conn → f y ≡ g y)
    → largest (max n x) (map g l) ≡ largest n (map f l)
unfolding Rising
largest-shift n x f g [] i o h e k = absurd (not-suc-le-zero h)
largest-shift n x f g (y ∷ ys) zero o h e k =
    let q : map f ys ≡ map g ys = map_each f g ys (each-imp (λ z. y.conn < z.conn) (λ z. f z ≡ g z) (λ z lt. k z (λ w. omega arith)) ys o.0) in
    let r : largest n (map f ys) ≡ largest n (map g ys) = ap (largest n) q in
    let s = largest-max n x (map g ys) in omega arith
largest-shift n x f g (y ∷ ys) (suc i) o h e k =
    let p : f y ≡ g y = k y (λ z. let lt = each_at (λ w. y.conn < w.conn) ys i nobody (le_of_suc-le-suc h) o.0 in omega arith) in
    let q = largest-shift n x f g ys i o.1 (le_of_suc-le-suc h) e k in omega arith

-- who is in line stays so
abbrev pub line_in : ℕ → List Connection → Line
line_in c ls = (get_or ls (index (λ s. eqb s.conn c) ls) nobody).line

pub in-line-set : (c : ℕ) (l : List Connection) (i : ℕ) (v : Connection) → v.conn ≡ (get_or l i nobody).conn → is_in_line v.line ≡ is_in_line (get_or l i nobody).line
    → is_in_line (line_in c (set l i v)) ≡ is_in_line (line_in c l)
in-line-set c [] i v e f = refl
in-line-set c (x ∷ xs) zero v e f = go (eqb v.conn c) (eqb x.conn c) (ap (λ (n : ℕ). eqb n c) e)
  where
    j : ℕ
    j = suc (index (λ s. eqb s.conn c) xs)

    go : (b b' : Bool) → b ≡ b' → is_in_line (get_or (v ∷ xs) (cond b 0 j) nobody).line ≡ is_in_line (get_or (x ∷ xs) (cond b' 0 j) nobody).line
    go true true q = f
    go true false q = absurd (ff≢tt refl (sym q))
    go false true q = absurd (ff≢tt refl q)
    go false false q = refl
in-line-set c (x ∷ xs) (suc i) v e f = go (eqb x.conn c) (in-line-set c xs i v e f)
  where
    go : (b : Bool) → is_in_line (line_in c (set xs i v)) ≡ is_in_line (line_in c xs)
        → is_in_line (get_or (x ∷ set xs i v) (cond b 0 (suc (index (λ s. eqb s.conn c) (set xs i v)))) nobody).line
        ≡ is_in_line (get_or (x ∷ xs) (cond b 0 (suc (index (λ s. eqb s.conn c) xs))) nobody).line
    go true h = refl
    go false h = h

pub numbered-append : (n : ℕ) (l r : List Key) → numbered n (l ++ r) ≡ numbered n l ++ numbered (n + length l) r
unfolding numbered
numbered-append n [] r = ap (λ (k : ℕ). numbered k r) (omega arith)
numbered-append n (x ∷ xs) r =
    let q : numbered (suc n) (xs ++ r) ≡ numbered (suc n) xs ++ numbered (n + suc (length xs)) r =
    numbered-append (suc n) xs r ∙ ap (λ (k : ℕ). numbered (suc n) xs ++ numbered k r) (omega arith) in
    ap {B = List (ℕ × Key)} (λ t. (n, x) ∷ t) q
