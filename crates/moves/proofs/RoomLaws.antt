-- A sound store has room for what a line of it holds.
use mathlib.Core.Path.{ap}
use mathlib.Core.List.{List}
use Prim.Native.Nat.{ℕ, ◌+◌, ◌^◌, ◌≤◌, ◌<◌}
use native.Mathlib.Omega.{arith}
use lib.ListN.{length}
use Rattle.rules.specs.declared.Limits.{Limits}
use Rattle.rules.specs.Lines.{Connection, conn_at, nobody, items_of, events}
use Rattle.rules.specs.Sound.{holds, holdings}
use Rattle.rules.proofs.SoundMoves.{sum-set, events-le}
use Rattle.store.specs.Store.{limits_of, head_of, line_count, market_of, Sound}
use Rattle.store.proofs.MarketLaws.{market-limits, market-base, entry-count, lines-count}
use Rattle.store.proofs.ConnLaws.{fits-sound}
use Rattle.moves.specs.Does.{Ready, ItemsRoom}

pub record Roomy (w : List ℕ) (i : ℕ) : Type 0 where
  pub entries : (head_of w).count + length (items_of (conn_at i (market_of w)).line) ≤ (limits_of w).G
  pub numbers : (head_of w).base + (head_of w).count + length (items_of (conn_at i (market_of w)).line) < 2 ^ 64
  pub all : length (items_of (conn_at i (market_of w)).line) + length (conn_at i (market_of w)).held ≤ holdings (market_of w).lines
  pub few : length (events (items_of (conn_at i (market_of w)).line)) ≤ length (items_of (conn_at i (market_of w)).line)

pub roomy : {w : List ℕ} {i : ℕ} → Sound w → i < line_count w → Roomy w i
roomy {w} {i} s h =
    let ls = (market_of w).lines in
    let b = lines-count w in
    let x = sum-set (λ (c : Connection). length (items_of c.line)) ls i nobody (omega arith) in
    let y = sum-set holds ls i nobody (omega arith) in
    let c = entry-count w in
    let d = market-base w in
    let g = ap (λ (l : Limits). l.G) (market-limits w) in
    let e = s.market.lines.log_fits in
    let f = s.market.lines.numbers_fit in
    record { entries = omega arith; numbers = omega arith; all = omega arith; few = events-le (items_of (conn_at i (market_of w)).line) }

pub items-room : {w v : List ℕ} {n i : ℕ} → Ready w v n → i < line_count w → ItemsRoom w v n i
items-room {w} {v} {n} {i} r h =
    let a = roomy r.sound h in
    let o = r.room in
    let x = a.all in
    record { fits = fits-sound w r.sound i h; entries = a.entries; numbers = a.numbers; room = omega arith }
