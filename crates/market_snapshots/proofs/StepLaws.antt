-- Laws of the i-th line's step by a snapshot.
use mathlib.Core.Path.{◌≡◌, sym, ap, ◌∙◌, subst}
use mathlib.Core.List.{List}
use Prim.Native.Nat.{ℕ, ◌<◌}
use Rattle.rules.specs.declared.Item.TheVariants as Item
use Rattle.rules.specs.declared.Limits.{Limits}
use Rattle.rules.specs.Quantities.{area_items}
use Rattle.rules.specs.Lines.{conn_at}
use Rattle.rules.specs.Calls.{held}
use Rattle.rules.specs.Answers.{word}
use Rattle.lines.specs.declared.Line.{Line}
use Rattle.lines.specs.declared.Stepped.{Stepped}
use Rattle.lines.specs.Line.{line_of, Steps, snapshot_step}
use Rattle.lines.specs.Area.{head_line}
use Rattle.lines.proofs.HeldLaws.{Holds, snapshot-holds}
use Rattle.store.specs.Store.{limits_of, line_count, line_words_at, market_of, Sound}
use Rattle.store.specs.ConnMoves.{items_at}
use Rattle.store.proofs.MarketLaws.{market-limits}
use Rattle.market_snapshots.specs.Snapshots.{step_at}
use Rattle.market_snapshots.proofs.SnapshotLaws.{line-value}

module _ {w : List ℕ} {i : ℕ} (s : Sound w) (h : i < line_count w) where
  pub step-said : (n token : ℕ) (self : Line) (r : Stepped) → n ≡ (limits_of w).H → self ≡ head_line (line_words_at w i)
      → ((x : List ℕ) (msg : ℕ) → Steps r (snapshot_step n token msg (line_of self x))) → (msg : ℕ) → Steps r (step_at i token msg (market_of w))
  step-said n token self r p q f msg =
      let limit : n ≡ (market_of w).limits.H = p ∙ ap (λ (l : Limits). l.H) (sym (market-limits w)) in
      let line : line_of self (items_at w i) ≡ (conn_at i (market_of w)).line = line-value s h self q in
      subst (Steps r) (λ j. snapshot_step (limit j) token msg (line j)) (f (items_at w i) msg)

  pub step-holds : (token msg : ℕ) → (step_at i token msg (market_of w)).1 ≡ word held 0 0
      → Holds (area_items (limits_of w)) (Item.Snapshot token msg) (conn_at i (market_of w)).line (step_at i token msg (market_of w)).0
  step-holds token msg e =
      subst (λ (l : Limits). Holds (area_items l) (Item.Snapshot token msg) (conn_at i (market_of w)).line (step_at i token msg (market_of w)).0)
      (market-limits w)
      (snapshot-holds (market_of w).limits.H token msg (conn_at i (market_of w)).line e)
