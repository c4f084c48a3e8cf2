-- Laws of the i-th line's step by a book event.
use mathlib.Core.Path.{◌≡◌, sym, ap, ◌∙◌, subst}
use mathlib.Core.List.{List}
use mathlib.Core.Bool.{true}
use Prim.Native.Nat.{ℕ, ◌+◌, ◌-◌, ◌^◌, ◌≤◌, ◌<◌}
use native.Mathlib.Omega.{arith}
use borrow.Author.Tests.{le-leb}
use lib.Dec.{leb, ltb}
use lib.ListN.{length, get_or}
use Rattle.rules.specs.declared.Item.TheVariants as Item
use Rattle.rules.specs.declared.Limits.{Limits}
use Rattle.rules.specs.Quantities.{Key, no_key, same, max_number, area_items}
use Rattle.rules.specs.Log.{keys, end}
use Rattle.rules.specs.Lines as Rules
use Rattle.rules.specs.Lines.{conn_at, item_count}
use Rattle.rules.specs.Calls.{apply, held, full_numbers}
use Rattle.rules.specs.Answers.{Said, number, word}
use Rattle.rules.specs.Sound.{LineSound}
use Rattle.rules.proofs.Tests.{leb-true, by_cond}
use Rattle.event_log.specs.declared.Head.{Head}
use Rattle.event_log.specs.Log.{keys_of, Ring}
use Rattle.lines.specs.declared.Line.{Line}
use Rattle.lines.specs.declared.Stepped.{Stepped}
use Rattle.lines.specs.Line.{line_of, Steps, event_step}
use Rattle.lines.specs.Area.{head_line}
use Rattle.lines.proofs.HeldLaws.{Holds, Leads, refuted, event-holds, event-leads}
use Rattle.store.specs.Store.{limits_of, head_of, line_count, key_words, line_words_at, market_of, Sound}
use Rattle.store.specs.ConnMoves.{items_at}
use Rattle.store.proofs.MarketLaws.{market-base, market-keys}
use Rattle.store.proofs.ConnLaws.{limit-sound}
use Rattle.store.proofs.EntryLaws.{counts, ring}
use Rattle.market_snapshots.proofs.SnapshotLaws.{line-value, line-sound}
use Rattle.market_events.specs.Events.{step_at}

-- a refusal is of a line in line that has no number left
abbrev Last : ℕ → Rules.Line → Type 0
Last n (Rules.InLine x a b) = (n ≡ 9) × (max_number ≤ x)
Last n (Rules.Waiting is since) = ⊥
Last n (Rules.Pending is at since) = ⊥
Last n Rules.Failed = ⊥

module _ (limit base : ℕ) (ks : List Key) (k : Key) (msg n : ℕ) where
  event-ends : (l : Rules.Line) → (event_step limit base ks k msg l).1 ≡ number n → Last n l
  event-ends (Rules.Waiting is since) =
      by_cond (λ (x : Rules.Line × Said). x.1 ≡ number n → ⊥) (leb limit (length is)) (λ e q. refuted (cc)) (λ e q. refuted (cc))
  event-ends (Rules.Pending is at since) =
      by_cond (λ (x : Rules.Line × Said). x.1 ≡ number n → ⊥) (leb limit (length is)) (λ e q. refuted (cc)) (λ e q. refuted (cc))
  event-ends (Rules.InLine y a b) =
      let P : Rules.Line × Said → Type 0 = λ x. x.1 ≡ number n → (n ≡ 9) × (max_number ≤ y) in
      by_cond P (ltb y base) (λ e q. refuted (cc))
      (λ e. by_cond P (ltb y (base + length ks))
      (λ e. by_cond P (same (get_or ks (y - base) no_key) k) (λ e q. refuted (cc)) (λ e q. refuted (cc)))
      (λ e. by_cond P (leb max_number y) (λ e q. (cc, leb-true e)) (λ e q. refuted (cc))))
  event-ends Rules.Failed = λ q. refuted (cc)

module _ {w : List ℕ} {i : ℕ} (s : Sound w) (h : i < line_count w) (key : Key) where
  pub step-asks : (x : Limits) (head : Head) (ks : List ℕ) → x ≡ limits_of w → head ≡ head_of w → ks ≡ key_words w
      → Ring x.G head.front head.count ks × (head.base + head.count < 2 ^ 64)
  step-asks x head ks g p q = rw (g, p, q) (ring s, (counts s).numbers)

  pub step-said : (x : Limits) (head : Head) (ks : List ℕ) (n : ℕ) (self : Line) (r : Stepped)
      → x ≡ limits_of w → head ≡ head_of w → ks ≡ key_words w → n ≡ (conn_at i (market_of w)).limit
      → self ≡ head_line (line_words_at w i)
      → ((v : List ℕ) (msg : ℕ) → Steps r (event_step n head.base (keys_of x.G head.front head.count ks) key msg (line_of self v))) → (msg : ℕ)
      → Steps r (step_at i key msg (market_of w))
  step-said x head ks n self r g p q m e f msg =
      let base : head.base ≡ (market_of w).log.base = ap (λ (x : Head). x.base) p ∙ sym (market-base w) in
      let keyed : keys_of x.G head.front head.count ks ≡ keys (market_of w).log =
      (λ j. keys_of (g j).G (p j).front (p j).count (q j)) ∙ sym (market-keys w (counts s).entries s.sized.front) in
      let line : line_of self (items_at w i) ≡ (conn_at i (market_of w)).line = line-value s h self e in
      subst (Steps r) (λ j. event_step (m j) (base j) (keyed j) key msg (line j)) (f (items_at w i) msg)

  pub step-holds : (msg : ℕ) → (step_at i key msg (market_of w)).1 ≡ word held 0 0
      → Holds (area_items (limits_of w)) (Item.Event key msg) (conn_at i (market_of w)).line (step_at i key msg (market_of w)).0
  step-holds msg e =
      let x = event-holds (conn_at i (market_of w)).limit (market_of w).log.base (keys (market_of w).log) key msg (conn_at i (market_of w)).line e in
      record { line = x.line; was = x.was; is = x.is; few = omega (arith, x.few, limit-sound w s i h) }

  pub step-leads : (msg n : ℕ) → (step_at i key msg (market_of w)).1 ≡ word apply n 0 → Leads (conn_at i (market_of w)).line (step_at i key msg (market_of w))
  step-leads msg n e = event-leads (conn_at i (market_of w)).limit (market_of w).log.base (keys (market_of w).log) key msg n (conn_at i (market_of w)).line e

  -- the line is at the log's end
  pub step-ends : (msg n : ℕ) → (step_at i key msg (market_of w)).1 ≡ number n → (n ≡ 9) × (full_numbers (market_of w) ≡ true)
  step-ends msg n e =
      let m = market_of w in
      go (conn_at i m).line (line-sound s h) (event-ends (conn_at i m).limit m.log.base (keys m.log) key msg n (conn_at i m).line e)
    where
      go : (l : Rules.Line) → LineSound (market_of w).limits (end (market_of w).log) l → Last n l → (n ≡ 9) × (full_numbers (market_of w) ≡ true)
      go (Rules.InLine x a b) le last =
          (last.0, le-leb max_number (end (market_of w).log + item_count (market_of w).lines) (let y = last.1 in omega arith))
      go (Rules.Waiting is since) le last = absurd last
      go (Rules.Pending is at since) le last = absurd last
      go Rules.Failed le last = absurd last
