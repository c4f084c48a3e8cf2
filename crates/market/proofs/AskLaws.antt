-- What the queries, the view, subscribe and reset answer.
use mathlib.Core.Path.{◌≡◌, refl, sym, ap, ◌∙◌, subst}
use mathlib.Core.List.{List, [], ◌∷◌, map}
use mathlib.Core.Bool.{Bool, true, false, not, ◌&&◌, ◌||◌, cond}
use Prim.Native.Nat.{ℕ, suc, ◌+◌, ◌*◌, ◌≤◌, ◌<◌}
use native.Mathlib.Omega.{arith}
use lib.Dec.{leb, eqb}
use lib.ListN.{length, get_or-eq_default, length-map}
use borrow.Author.Tests.{leb-true, leb-false}
use Rattle.rules.specs.declared.Item.{Item}
use Rattle.rules.specs.declared.Limits.{Limits}
use Rattle.rules.specs.Lists.{any, index}
use Rattle.rules.specs.Quantities.{within}
use Rattle.rules.specs.Log.{clear}
use Rattle.rules.specs.Prints.{remove_counts}
use Rattle.rules.specs.Lines.{Connection, Market, nobody, message_of, is_pending, items_of, line_of, conn_at, with_log, with_prints, with_lines, subscribed}
use Rattle.rules.specs.Calls.{just, done, subscribe, pending_anew, each_line, reset}
use Rattle.rules.specs.Refusals.{messages}
use Rattle.rules.specs.Answers.{number, word}
use Rattle.rules.proofs.SoundCalls.{clear-sound, uncounted-sound, subscribe-safe, reset-sound, just-safe}
use Rattle.place.specs.Items.{items_in}
use Rattle.store.specs.Store.{limits_of, line_count, market_of, Sound}
use Rattle.store.specs.Moves.{Moved}
use Rattle.store.specs.ConnMoves.{items_at, LineAt}
use Rattle.store.proofs.MarketLaws.{market-limits, lines-count}
use Rattle.store.proofs.FrameLaws.{moved_on, moved-sound}
use Rattle.store.proofs.ConnLaws.{items-inside, items-said, lined-sound, fits-sound}
use Rattle.output.specs.Output.{over}
use Rattle.market.specs.Lent.{alone, Answers}
use Rattle.market.proofs.AnswerLaws.{safe-as, refuses, justly}

-- ---- a connection's line

pub line-at-sound : (w : List ℕ) → Sound w → (i : ℕ) → i < line_count w → LineAt w i
line-at-sound w s i h = record { lined = lined-sound w s; here = h }

-- a connection without a line
pub absent : (w : List ℕ) (c i : ℕ) → i ≡ line_of c (market_of w) → line_count w ≤ i → conn_at (line_of c (market_of w)) (market_of w) ≡ nobody
absent w c i e h = ap (λ (j : ℕ). conn_at j (market_of w)) (sym e) ∙ get_or-eq_default (market_of w).lines nobody {n = i} (omega (arith, lines-count w))

index-none : {A : Type 0} (t : A → Bool) (l : List A) → length l ≤ index t l → any t l ≡ false
index-none t [] h = refl
index-none t (x ∷ xs) h = go (t x) h (index-none t xs)
  where
    go : (b : Bool) → suc (length xs) ≤ cond b 0 (suc (index t xs)) → (length xs ≤ index t xs → any t xs ≡ false) → (b || any t xs) ≡ false
    go true h r = absurd (omega arith)
    go false h r = r (omega arith)

index-some : {A : Type 0} (t : A → Bool) (l : List A) → index t l < length l → any t l ≡ true
index-some t [] h = absurd (omega arith)
index-some t (x ∷ xs) h = go (t x) h (index-some t xs)
  where
    go : (b : Bool) → cond b 0 (suc (index t xs)) < suc (length xs) → (index t xs < length xs → any t xs ≡ true) → (b || any t xs) ≡ true
    go true h r = refl
    go false h r = r (omega arith)

missing : {A : Type 0} (t : A → Bool) (l : List A) → leb (length l) (index t l) ≡ not (any t l)
missing t l = go (leb (length l) (index t l)) refl
  where
    go : (b : Bool) → leb (length l) (index t l) ≡ b → b ≡ not (any t l)
    go true e = rw (index-none t l (leb-true (length l) (index t l) e)) refl
    go false e = rw (index-some t l (leb-false (length l) (index t l) e)) refl

-- ---- subscribe

-- a limit out of range is refused
module _ (w : List ℕ) {l : Limits} (q : l ≡ limits_of w) (limit : ℕ) where
  within-said : (leb 1 limit && leb limit l.H) ≡ within 1 (market_of w).limits.H limit
  within-said = ap (λ (x : Limits). within 1 x.H limit) (q ∙ sym (market-limits w))

  pub subscribe-unlimited : (c t : ℕ) → (leb 1 limit && leb limit l.H) ≡ false → Answers (subscribe c limit t (market_of w)) (alone w) (number 18) (alone w)
  unfolding subscribe
  subscribe-unlimited c t f = refuses 18 (alone w) (rw (sym within-said ∙ f) refl)

module _ (w : List ℕ) (c : ℕ) {i n : ℕ} {l : Limits} (e : i ≡ line_of c (market_of w)) (p : n ≡ line_count w) (q : l ≡ limits_of w) where
  -- no line, and no room for one
  full-said : (leb n i && leb l.L n) ≡ (not (any (λ s. eqb s.conn c) (market_of w).lines) && leb (market_of w).limits.L (length (market_of w).lines))
  full-said =
      let t : Connection → Bool = λ s. eqb s.conn c in
      let ls = (market_of w).lines in
      let a : n ≡ length ls = p ∙ sym (lines-count w) in
      let b : l ≡ (market_of w).limits = q ∙ sym (market-limits w) in
      let f : leb n i ≡ not (any t ls) = (λ x. leb (a x) (e x)) ∙ missing t ls in
      λ x. f x && leb (b x).L (a x)

  -- a connection more than there is room for is refused, or it is done
  pub subscribe-full : (limit t : ℕ) → (leb 1 limit && leb limit l.H) ≡ true → (leb n i && leb l.L n) ≡ true
      → Answers (subscribe c limit t (market_of w)) (alone w) (number 4) (alone w)
  unfolding subscribe
  subscribe-full limit t g f = refuses 4 (alone w) (rw (sym (within-said w q limit) ∙ g, sym full-said ∙ f) refl)

  module _ (v : List ℕ) (s : Sound w) (f : (leb n i && leb l.L n) ≡ false)
      (d : Moved w v (with_prints (remove_counts c (market_of w).prints) (market_of w))) where
    -- without its counts the connection finds what the new line needs
    pub subscribe-ready : Sound v
        × ((not (any (λ x. eqb x.conn c) (market_of v).lines) && leb (market_of v).limits.L (length (market_of v).lines)) ≡ false)
    subscribe-ready = (
      moved-sound s d (uncounted-sound c (market_of w) s.market),
      subst (λ (m : Market). (not (any (λ x. eqb x.conn c) m.lines) && leb m.limits.L (length m.lines)) ≡ false) (sym d.market)
          (sym full-said ∙ f),
    )

    pub subscribe-done : (limit : ℕ) → (leb 1 limit && leb limit l.H) ≡ true → (x : List ℕ) (t : ℕ) → length x ≡ length w
        → Moved v x (with_lines (subscribed c limit t (market_of v).lines) (market_of v))
        → Answers (subscribe c limit t (market_of w)) (alone w) (word done 0 0) (alone x)
    unfolding subscribe
    subscribe-done limit g x t z e =
        justly done s z (subst (λ (m : Market). Moved w x (with_lines (subscribed c limit t m.lines) m)) d.market (moved_on d e))
        (rw (sym (within-said w q limit) ∙ g, sym full-said ∙ f) refl)
        (safe-as w (subscribe c limit t (market_of w)) (subscribe-safe c limit t (market_of w) s.market))

-- ---- reset

pub clear_kept : {w v : List ℕ} → Sound w → Moved w v (with_log (clear (market_of w).log) (market_of w)) → Sound v
clear_kept {w} s d = moved-sound s d (clear-sound (market_of w) s.market)

pub reset-done : {w v x : List ℕ} (t : ℕ) → Sound w → length x ≡ length w → Moved w v (with_log (clear (market_of w).log) (market_of w)) → Moved v x (each_line (pending_anew t) (market_of v))
    → Answers (just done (reset t (market_of w))) (alone w) (word done 0 0) (alone x)
reset-done {w} {v} {x} t s l d e =
    justly done s l (subst (λ (m : Market). Moved w x (each_line (pending_anew t) m)) d.market (moved_on d e)) refl
    (safe-as w (just done (reset t (market_of w))) (just-safe (reset t (market_of w)) done (reset-sound t (market_of w) s.market)))

-- ---- the view

pub view-ready : (w : List ℕ) → Sound w → (i n : ℕ) (is : List ℕ) → i < line_count w → n ≡ length (items_of (conn_at i (market_of w)).line) → is ≡ items_at w i
    → {m : ℕ} → (limits_of w).H + 8 ≤ m → (4 * n ≤ length is) × (n ≤ m)
view-ready w s i n is h e q l =
    let f = fits-sound w s i h in
    let k = f.items in
    (rw q (omega (arith, items-inside w i f)), omega arith)

pub view-absent : (w v : List ℕ) (c i : ℕ) → i ≡ line_of c (market_of w) → line_count w ≤ i → (0 ≡ length (messages c (market_of w))) × (v ≡ over (messages c (market_of w)) v)
view-absent w v c i e h = rw (absent w c i e h) (refl, refl)

-- the i-th line is c's, and is pending or not
pub view-none : (w v : List ℕ) (c i : ℕ) → i ≡ line_of c (market_of w) → is_pending (conn_at i (market_of w)).line ≡ false
    → (0 ≡ length (messages c (market_of w))) × (v ≡ over (messages c (market_of w)) v)
view-none w v c i e p = rw (← e, p) (refl, refl)

pub view-done : (w v u : List ℕ) (c i n : ℕ) → i ≡ line_of c (market_of w) → is_pending (conn_at i (market_of w)).line ≡ true → i < line_count w
    → n ≡ length (items_of (conn_at i (market_of w)).line) → (is : List ℕ) → is ≡ items_at w i → u ≡ over (map message_of (items_in n is)) v
    → (n ≡ length (messages c (market_of w))) × (u ≡ over (messages c (market_of w)) v)
view-done w v u c i n e p h l is q d =
    let t : items_in n is ≡ items_of (conn_at i (market_of w)).line = ap (items_in n) q ∙ items-said w i h n l in
    rw (← e, p) (l ∙ sym (length-map (items_of (conn_at i (market_of w)).line) message_of), d ∙ ap (λ (x : List Item). over (map message_of x) v) t)
