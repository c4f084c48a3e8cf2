-- Laws of a line-up: the line may enter line behind it, and what it does is what the rules say.
use mathlib.Core.Path.{◌≡◌, refl, sym, ap, ◌∙◌, subst}
use mathlib.Core.List.{List}
use mathlib.Core.Bool.{true, false}
use Prim.Native.Nat.{ℕ, ◌+◌, ◌-◌, ◌^◌, ◌≤◌, ◌<◌}
use native.Mathlib.Omega.{arith}
use lib.ListN.{length, drop, length-drop}
use lib.Seq.{drop-drop}
use Rattle.rules.specs.declared.Limits.{Limits}
use Rattle.rules.specs.Log.{end}
use Rattle.rules.specs.Prints.{Prints}
use Rattle.rules.specs.Lines.{Line, Waiting, Pending, InLine, Failed, Connection, Market, conn_at, items_of, events, is_pending, is_failed}
use Rattle.rules.specs.Entering.{Work, push_all, enter, line_up}
use Rattle.rules.specs.Sound.{TablesSound}
use Rattle.rules.proofs.Tests.{ff≢tt}
use Rattle.store.specs.Store.{limits_of, head_of, market_of}
use Rattle.store.specs.Moves.{Counts}
use Rattle.store.proofs.MarketLaws.{market-base, entry-count, log-ends, key-count, pair-count}
use Rattle.store.proofs.EntryLaws.{counts}
use Rattle.store.proofs.ConnLaws.{fits-sound}
use Rattle.store.proofs.TableLaws.{tabled}
use Rattle.moves.specs.Does.{Does, Ready, EnterRoom}
use Rattle.moves.specs.Places.{AtPlace}
use Rattle.moves.proofs.DoesLaws.{does-as, does-then}
use Rattle.moves.proofs.RoomLaws.{roomy}
use Rattle.moves.proofs.Staying.{conn-stays, count-stays, fits-stays}
use Rattle.moves.proofs.PushLaws.{Logged, logged, logged-stays}

pub pending-stays : (l : Line) → is_pending l ≡ true → is_failed l ≡ false
pending-stays (Waiting is since) e = refl
pending-stays (Pending is at since) e = refl
pending-stays (InLine n a b) e = refl
pending-stays Failed e = absurd (ff≢tt refl e)

-- more entries leave the other counts
logged-counts : {w : List ℕ} {n : ℕ} {w₁ : List ℕ} {n₁ k : ℕ} → Logged w n w₁ n₁ k → Counts w → (head_of w).count + k ≤ (limits_of w).G → (head_of w).base + (head_of w).count + k < 2 ^ 64 → Counts w₁
logged-counts {w} {n} {w₁} l c g m =
    let G = ap (λ (x : Limits). x.G) l.limits in
    let L = ap (λ (x : Limits). x.L) l.limits in
    let C = ap (λ (x : Limits). x.C) l.limits in
    let D = ap (λ (x : Limits). x.D) l.limits in
    let a = count-stays (logged-stays l) in
    let b = ap (λ (p : Prints). length p.key_rows) l.prints in
    let d = ap (λ (p : Prints). length p.count_rows) l.prints in
    let e = l.count in
    let f = l.base in
    record {
      entries = omega arith;
      numbers = omega arith;
      lines = omega (arith, c.lines);
      keys = omega (arith, c.keys, key-count w, key-count w₁);
      pairs = omega (arith, c.pairs, pair-count w, pair-count w₁);
    }

module _ {w v : List ℕ} {n i j p : ℕ} (r : Ready w v n) (a : AtPlace w i j p) {w₁ v₁ : List ℕ} {n₁ : ℕ} where
  pub enter-room : (c t m : ℕ) → Does (push_all c t (drop m (events (items_of (conn_at i (market_of w)).line)))) w v n w₁ v₁ n₁ → length v₁ ≡ length v → EnterRoom w₁ v₁ n₁ i
  enter-room c t m d o =
      let es = events (items_of (conn_at i (market_of w)).line) in
      let l = logged c t (drop m es) d in
      let q = roomy r.sound a.here in
      let x = length-drop m es in
      let f = q.few in
      let g = q.entries in
      let u = q.numbers in
      let y = q.all in
      let z = r.room in
      let k = l.records in
      let ps = ap (λ (s : Connection). length s.held) (conn-stays (logged-stays l) i) in
      record {
        prints = record {
          tabled = record {
            sized = l.sized;
            counts = logged-counts l (counts r.sound) (omega arith) (omega arith);
            tables = subst TablesSound (sym l.prints) (tabled r.sound).tables;
          };
          fits = fits-stays (logged-stays l) i (fits-sound w r.sound i a.here);
          room = omega arith;
        };
        unfailed = ap (λ (s : Connection). is_failed s.line) (conn-stays (logged-stays l) i) ∙ pending-stays (conn_at i (market_of w)).line a.pending;
      }

  pub line-up-done : {w₂ v₂ : List ℕ} {n₂ : ℕ} (t e m : ℕ) → e ≡ end (market_of w).log → m ≡ length (events (items_of (conn_at i (market_of w)).line))
      → Does (push_all (conn_at i (market_of w)).conn t (drop (j + (e - p)) (events (items_of (conn_at i (market_of w)).line)))) w v n w₁ v₁ n₁
      → ((entry : ℕ) → Does (enter i entry (p + (m - j)) false false) w₁ v₁ n₁ w₂ v₂ n₂)
      → Does (line_up i t (j, p - (head_of w).base)) w v n w₂ v₂ n₂
  unfolding line_up
  line-up-done t e m q l d g =
      let b = (head_of w).base in
      let x = p - b in
      let s = conn_at i (market_of w) in
      let es = events (items_of s.line) in
      let push : Work → Work = push_all s.conn t (drop (j + (e - p)) es) in
      let z = r.room in
      does-as (λ k. enter i (b + x) (p + (m - j)) false false (push k)) (line_up i t (j, x))
      (λ k h.
      let base : b ≡ k.market.log.base = sym (market-base w) ∙ ap (λ (y : Market). y.log.base) (sym h) in
      let conn : s.conn ≡ (conn_at i k.market).conn = ap (λ (y : Market). (conn_at i y).conn) (sym h) in
      let held : es ≡ events (items_of (conn_at i k.market).line) = ap (λ (y : Market). events (items_of (conn_at i y).line)) (sym h) in
      let count : length k.market.log.entries ≡ (head_of w).count = ap (λ (y : Market). length y.log.entries) h ∙ entry-count w in
      let next : p + (m - j) ≡ k.market.log.base + x + length (drop j (events (items_of (conn_at i k.market).line))) =
      (let u = length-drop j (events (items_of (conn_at i k.market).line)) in let y = ap length held in let c = a.from in omega arith) in
      let behind : j + (e - p) ≡ j + (length k.market.log.entries - x) = (let u = log-ends w in let c = a.from in let f = a.upto in omega arith) in
      let pushed : drop (j + (e - p)) es ≡ drop (length k.market.log.entries - x) (drop j (events (items_of (conn_at i k.market).line))) =
      (λ y. drop (behind y) (held y)) ∙ sym (drop-drop (length k.market.log.entries - x) j (events (items_of (conn_at i k.market).line))) in
      λ y. enter i (base y + x) (next y) false false (push_all (conn y) t (pushed y) k))
      (does-then push (enter i (b + x) (p + (m - j)) false false) (omega arith) d (g (b + x)))
