-- A line enters line, and takes the market over.
use mathlib.Core.Path.{◌≡◌, refl, sym, ap, ◌∙◌, subst}
use mathlib.Core.List.{List, [], ◌∷◌, ◌++◌}
use mathlib.Core.Bool.{Bool, true, false, not, cond}
use Prim.Native.Nat.{ℕ, ◌+◌, ◌-◌, ◌^◌, ◌≤◌, ◌<◌}
use native.Mathlib.Omega.{arith}
use lib.Dec.{ltb}
use lib.ListN.{length}
use Rattle.rules.specs.declared.Item.{Item}
use Rattle.rules.specs.Quantities.{Key, print_out}
use Rattle.rules.specs.Lists.{any}
use Rattle.rules.specs.Log.{end}
use Rattle.rules.specs.Prints.{applied_in, delivered_in, apply_print}
use Rattle.rules.specs.Lines.{Connection, Line, InLine, Market, conn_at, items_of, snapshot_of, with_lines, with_prints, set_conn, set_line}
use Rattle.rules.specs.Sound.{PrintsSound}
use Rattle.rules.specs.Entering.{Work, on_market, put_out, put_items, release, enter, take_over}
use Rattle.rules.proofs.Loops.{release-lines, entered}
use Rattle.lines.specs.declared.Line.{Line as Value}
use Rattle.lines.specs.Line.{line_of}
use Rattle.lines.specs.Area.{head_line}
use Rattle.store.specs.Store.{limits_of, head_of, line_count, line_words_at, market_of}
use Rattle.store.specs.Moves.{Moved}
use Rattle.store.specs.ConnMoves.{items_at, LineAt, LineFits, NotFailed}
use Rattle.store.proofs.MarketLaws.{market-limits, lines-count}
use Rattle.store.proofs.FrameLaws.{moved_on, moved-is}
use Rattle.store.proofs.TableLaws.{tabled}
use Rattle.store.proofs.ConnLaws.{fits-sound, line-again, line-at-kept}
use Rattle.moves.specs.Does.{Does, Ready, EnterRoom}
use Rattle.moves.proofs.DoesLaws.{does-then, does-market, goes_then, goes-as, goes-is}
use Rattle.moves.proofs.StoreReads.{value_line}
use Rattle.moves.proofs.RoomLaws.{roomy}
use Rattle.moves.proofs.Staying.{Stays, line-at-stays, conn-stays, fits-stays, unfailed-stays}
use Rattle.moves.proofs.PutLaws.{PutOut, put-out}
use Rattle.moves.proofs.ReleaseLaws.{released, tabled-stays}

-- ---- into line: the code releases first, and the rules set the line first

-- a call under way with other lines, and others that entered
abbrev relined : List Connection → List (ℕ × ℕ) → Work → Work
relined ls es k = record { market = with_lines ls k.market; out = k.out; entered = es }

-- a release reads and changes neither
release-relined : (c : ℕ) (hs : List (Key × ℕ)) (ls : List Connection) (es : List (ℕ × ℕ)) (k : Work) → release c hs (relined ls es k) ≡ relined ls es (release c hs k)
unfolding release
release-relined c [] ls es k = refl
release-relined c (h ∷ hs) ls es k =
    let p = k.market.prints in
    let d = delivered_in h.0 c p.count_rows in
    let a = applied_in h.0 p.key_rows in
    let k₁ : Work = put_out (print_out c h.0 h.1 (d - a)) (on_market (with_prints (apply_print h.0 d p)) k) in
    ap (release c hs) (both (ltb a d) k₁) ∙ release-relined c hs ls es (cond (ltb a d) k₁ k)
  where
    both : (b : Bool) (k₁ : Work) → cond b (relined ls es k₁) (relined ls es k) ≡ relined ls es (cond b k₁ k)
    both true k₁ = refl
    both false k₁ = refl

module _ {w v w₁ v₁ : List ℕ} {n n₁ : ℕ} (i : ℕ) (r : EnterRoom w v n i)
    (d : Does (release (conn_at i (market_of w)).conn (conn_at i (market_of w)).held) w v n w₁ v₁ n₁) where
  left : Stays w w₁
  left = (released (conn_at i (market_of w)).conn (conn_at i (market_of w)).held r.prints.tabled d).stays

  pub drop-ready : LineAt w₁ i × NotFailed w₁ i
  drop-ready = (line-at-stays left i r.prints.fits.at, unfailed-stays left i r.unfailed)

  module _ {w₂ : List ℕ} (m₂ : Moved w₁ w₂ (set_conn i (conn_at i (market_of w₁)).line [] (market_of w₁))) where
    pub set-ready : LineAt w₂ i
    set-ready = line-at-kept w₁ w₂ i _ m₂ i drop-ready.0

    pub enter-done : {w₃ : List ℕ} (l : Value) → Moved w₂ w₃ (set_line i (line_of l (items_at w₂ i)) (market_of w₂))
        → (entry next : ℕ) (due0 due1 : Bool) → ((u : List ℕ) → line_of l u ≡ InLine next due0 due1) → Does (enter i entry next due0 due1) w v n w₃ v₁ n₁
    unfolding enter
    enter-done {w₃} l m₃ entry next due0 due1 is k e =
        let line : Line = InLine next due0 due1 in
        let c : ℕ = (conn_at i (market_of w)).conn in
        let hs : List (Key × ℕ) = (conn_at i (market_of w)).held in
        let at : i < length (market_of w₁).lines = (let h = drop-ready.0.here in let b = lines-count w₁ in omega arith) in
        let m : Moved w₁ w₃ (set_conn i line [] (market_of w₁)) =
        moved-is refl (moved_on m₂ m₃) ((λ j. set_line i (is (items_at w₂ i) j) (m₂.market j)) ∙ line-again i (conn_at i (market_of w₁)).line line [] (market_of w₁) at) in
        let room = r.prints.room in
        let g = does-then (release c hs) (on_market (set_conn i line [])) (omega arith) d (does-market (set_conn i line []) m) k e in
        let ls : List Connection = entered i next due0 due1 k.market.lines in
        let es : List (ℕ × ℕ) = k.entered ++ (((conn_at i k.market).conn, entry) ∷ []) in
        let q : relined ls es (release c hs k) ≡ enter i entry next due0 due1 k =
        sym (ap (λ (s : Connection). release s.conn s.held (relined ls es k)) (ap (conn_at i) e) ∙ release-relined c hs ls es k) in
        let lined : set_conn i line [] (release c hs k).market ≡ with_lines ls (release c hs k).market =
        ap (λ (x : List Connection). with_lines (entered i next due0 due1 x) (release c hs k).market) (release-lines c hs k) in
        goes-as (lined ∙ ap (λ (x : Work). x.market) q) (ap (λ (x : Work). x.out) q) g

-- ---- take-over

module _ {w v : List ℕ} {n : ℕ} (i : ℕ) (r : Ready w v n) (h : i < line_count w) where
  -- its items were put out
  module _ {w₁ v₁ : List ℕ} {n₁ : ℕ} (t : ℕ) (kept : length v₁ ≡ length v)
      (d : Does (put_items (conn_at i (market_of w)).conn t (items_of (conn_at i (market_of w)).line)) w v n w₁ v₁ n₁) where
    after : PutOut w n w₁ n₁ (length (items_of (conn_at i (market_of w)).line))
    after = put-out (conn_at i (market_of w)).conn t (items_of (conn_at i (market_of w)).line) d

    pub end-ready : (64 ≤ length w₁) × ((head_of w₁).base + (head_of w₁).count < 2 ^ 64)
    end-ready = let a = after.base in let b = after.count in let c = (roomy r.sound h).numbers in (after.stays.sized.header, omega arith)

    pub line-ready : LineFits w₁ i
    line-ready = fits-stays after.stays i (fits-sound w r.sound i h)

    pub enter-ready : NotFailed w i → EnterRoom w₁ v₁ n₁ i
    enter-ready u =
        let s = after.stays in
        let p : PrintsSound (limits_of w) (market_of w₁).prints = subst (PrintsSound (limits_of w)) (sym after.prints) (rw (market-limits w) at r.sound.market.prints) in
        let e : (head_of w₁).count ≤ (limits_of w).G = (let a = after.count in let b = (roomy r.sound h).entries in omega arith) in
        let a = (roomy r.sound h).all in
        let b = after.records in
        let c = r.room in
        let q : length (conn_at i (market_of w₁)).held ≡ length (conn_at i (market_of w)).held = ap (λ (x : Connection). length x.held) (conn-stays s i) in
        record {
          prints = record { tabled = tabled-stays s (tabled r.sound) e end-ready.1 p; fits = line-ready; room = omega arith };
          unfailed = unfailed-stays s i u;
        }

    -- it holds what it held
    pub taken-items : {l : Value} → l ≡ head_line (line_words_at w₁ i) → {is : List ℕ} → is ≡ items_at w₁ i → items_of (line_of l is) ≡ items_of (conn_at i (market_of w)).line
    taken-items q p = ap items_of (value_line w₁ i line-ready q p) ∙ ap (λ (x : Connection). items_of x.line) (conn-stays after.stays i)

    pub take-over-done : {w₂ v₂ : List ℕ} {n₂ : ℕ} (next : ℕ) (is : List Item) → next ≡ end (market_of w₁).log → is ≡ items_of (conn_at i (market_of w)).line
        → ((entry : ℕ) → Does (enter i entry next (not (any (snapshot_of 0) is)) (not (any (snapshot_of 1) is))) w₁ v₁ n₁ w₂ v₂ n₂)
        → Does (take_over i (items_of (conn_at i (market_of w)).line) t) w v n w₂ v₂ n₂
    unfolding take_over
    take-over-done next js q x f k e =
        let is : List Item = items_of (conn_at i (market_of w)).line in
        let c : ℕ = (conn_at i (market_of w)).conn in
        let room = r.room in
        let one = d k e in
        let k₁ : Work = put_items c t is k in
        let m : market_of w₁ ≡ k₁.market = one.moved.market in
        let g = goes_then (omega arith) one (f (end k.market.log) k₁ (sym m)) in
        goes-is
        ((λ j. enter i (end k.market.log) ((q ∙ ap (λ (z : Market). end z.log) m) j) (not (any (snapshot_of 0) (x j))) (not (any (snapshot_of 1) (x j))) k₁)
        ∙ ap (λ (a : ℕ). enter i (end k.market.log) (end (put_items a t is k).market.log) (not (any (snapshot_of 0) is)) (not (any (snapshot_of 1) is)) (put_items a t is k)) (sym (ap (λ (z : Market). (conn_at i z).conn) e)))
        g
