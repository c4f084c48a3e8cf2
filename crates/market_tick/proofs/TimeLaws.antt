-- What time makes of a line in a tick, and its turn by its way.
use mathlib.Core.Path.{◌≡◌, refl, sym, ap, ◌∙◌, subst}
use mathlib.Core.List.{List}
use mathlib.Core.Bool.{Bool, true, false, not, ◌&&◌, cond}
use Prim.Native.Nat.{ℕ, ◌<◌}
use lib.Dec.{leb, ltb}
use Rattle.rules.specs.Lists.{is_some}
use Rattle.rules.specs.Quantities.{age, align_timeout}
use Rattle.rules.specs.Lines.{Failed, InLine, Line, Pending, Waiting, conn_at, is_failed, is_pending, items_of, someone}
use Rattle.rules.specs.Entering.{Work, aligns, sweep, try_line_up}
use Rattle.rules.specs.Tick.{Turn, quiet_line_up, quietly, turn}
use Rattle.rules.proofs.Tests.{ff≢tt}
use Rattle.lines.specs.declared.Line as Value
use Rattle.lines.specs.declared.Aging.{Aging}
use Rattle.lines.specs.declared.Aged.{Aged}
use Rattle.lines.specs.Line.{line_of, Stands, time_step, Ages}
use Rattle.lines.specs.Area.{head_line}
use Rattle.lines.specs.Steps.{aged}
use Rattle.lines.proofs.Laws.{left, time-left}
use Rattle.lines.proofs.StepLaws.{time-steps}
use Rattle.store.specs.Store.{head_of, line_count, line_words_at, market_of}
use Rattle.store.specs.ConnMoves.{items_at, NotFailed}
use Rattle.store.proofs.MarketLaws.{market-base}
use Rattle.store.proofs.ConnLaws.{line-words}
use Rattle.market_tick.specs.declared.Way.{Way}
use Rattle.market_tick.specs.Turns.{Pends, aligned_by, following_way, way_of}

-- ---- time

-- only a line that has not failed does
abbrev stays : Aging → Bool
stays Aging.Stays = true
stays Aging.Fails = false
stays Aging.Rebuilds = false

fails-only : (base now : ℕ) (l : Line) → (time_step base now l).1 ≡ Aging.Fails → is_failed l ≡ false
fails-only base now (Waiting is since) e = refl
fails-only base now (Pending is at since) e = refl
fails-only base now (InLine n a b) e = refl
fails-only base now Failed e = absurd (ff≢tt (ap stays e) refl)

-- the market is rebuilt only from a pending line
abbrev rebuilds : Aging → Bool
rebuilds Aging.Stays = false
rebuilds Aging.Fails = false
rebuilds Aging.Rebuilds = true

neither : (b : Bool) (x y : Line) → rebuilds (cond {A = Line × Aging} b (x, Aging.Fails) (y, Aging.Stays)).1 ≡ false
neither true x y = refl
neither false x y = refl

rebuilds-only : (base now : ℕ) (l : Line) → (time_step base now l).1 ≡ Aging.Rebuilds → is_pending l ≡ true
rebuilds-only base now (Waiting is since) e =
    absurd (ff≢tt (neither (leb align_timeout (age now since)) Failed (Waiting is since)) (ap rebuilds e))
rebuilds-only base now (Pending is at since) e = refl
rebuilds-only base now (InLine n a b) e = absurd (ff≢tt (neither (ltb n base) Failed (InLine n a b)) (ap rebuilds e))
rebuilds-only base now Failed e = absurd (ff≢tt refl (ap rebuilds e))

-- what time makes of the i-th line
module _ (u : List ℕ) (i now : ℕ) where
  abbrev pub step : Line × Aging
  step = time_step (market_of u).log.base now (conn_at i (market_of u)).line

  -- from its value
  pub line-ages : i < line_count u → {base : ℕ} → base ≡ (head_of u).base → {r : Value.Line} → r ≡ head_line (line_words_at u i)
      → {x : Aged} → ((w : List ℕ) → Ages x (time_step base now (line_of r w))) → Ages x step
  line-ages h {base} p {r} q {x} f =
      let a : base ≡ (market_of u).log.base = p ∙ sym (market-base u) in
      let b : line_of r (items_at u i) ≡ (conn_at i (market_of u)).line =
      ap (λ (l : Value.Line). line_of l (items_at u i)) q ∙ sym (line-words u i h) in
      subst (Ages x) (λ j. time_step (a j) now (b j)) (f (items_at u i))

  module _ {x : Aged} (a : Ages x step) {y : Aging} (e : x.aging ≡ y) where
    pub step_is : step.1 ≡ y
    step_is = sym a.aging ∙ e

    pub step_line : step.0 ≡ left y (conn_at i (market_of u)).line
    step_line =
        time-left (market_of u).log.base now (conn_at i (market_of u)).line
        ∙ ap (λ (z : Aging). left z (conn_at i (market_of u)).line) step_is

  pub fails-ready : {x : Aged} → Ages x step → x.aging ≡ Aging.Fails → NotFailed u i × Stands x.line Failed
  fails-ready {x} a e =
      (fails-only (market_of u).log.base now (conn_at i (market_of u)).line (step_is a e), subst (Stands x.line) (step_line a e) a.line)

  pub rebuild-ready : {x : Aged} → Ages x step → x.aging ≡ Aging.Rebuilds → Pends u i
  rebuild-ready a e = rebuilds-only (market_of u).log.base now (conn_at i (market_of u)).line (step_is a e)

pub pair_is : (x : Line × Aging) {l : Line} {y : Aging} → x.0 ≡ l → x.1 ≡ y → x ≡ (l, y)
pair_is (l₀, y₀) p q = λ j. (p j, q j)

-- ---- a turn by the line's way

abbrev pub by_way : Way → ℕ → ℕ → Line → Work → Turn
by_way Way.Aligns i now l k = aligned_by i (λ w. sweep now (try_line_up false i now w)) k
by_way Way.Quietly i now l k = aligned_by i (quiet_line_up i now (items_of l)) k
by_way Way.Nowhere i now l k = aged i now k l

pending-way : (a b c : Bool) (i now : ℕ) (l : Line) (k : Work)
    → cond a (cond b (by_way Way.Aligns i now l k) (cond c (by_way Way.Quietly i now l k) (aged i now k l))) (aged i now k l)
    ≡ by_way (cond a (cond b Way.Aligns (cond c Way.Quietly Way.Nowhere)) Way.Nowhere) i now l k
pending-way true true c i now l k = refl
pending-way true false true i now l k = refl
pending-way true false false i now l k = refl
pending-way false b c i now l k = refl

pub turn_is : (i : ℕ) (due same : Bool) (now : ℕ) (k : Work) (l : Line) → turn i due same now k l ≡ by_way (way_of due same now k.market l) i now l k
unfolding turn
turn_is i due same now k (Waiting is since) = time-steps.turns i due same now k (Waiting is since) refl
turn_is i due same now k (Pending is at since) =
    let a = someone k.market.lines && not due in
    let b = is_some (aligns false (Pending is at since) k.market) in
    let c = quietly is at since same now k.market in
    ap (λ (x : Turn).
    cond a (cond b (aligned_by i (λ w. sweep now (try_line_up false i now w)) k) (cond c (aligned_by i (quiet_line_up i now is) k) x)) x)
    (time-steps.ends i is at since now k)
    ∙ pending-way a b c i now (Pending is at since) k
turn_is i due same now k (InLine n a b) = time-steps.turns i due same now k (InLine n a b) refl
turn_is i due same now k Failed = time-steps.turns i due same now k Failed refl

-- ---- the way by what the code asks

module _ (u : List ℕ) (i now : ℕ) (same : Bool) where
  abbrev line : Line
  line = (conn_at i (market_of u)).line

  module _ (due : Bool) where
    abbrev way : Way
    way = way_of due same now (market_of u) line

    pub way-nowhere : (is_pending line && (someone (market_of u).lines && not due)) ≡ false → Way.Nowhere ≡ way
    way-nowhere e = λ j. cond (sym e j) (following_way same now (market_of u) line) Way.Nowhere

pub other-late : {a : Bool} (b : Bool) → a ≡ false → (a && b) ≡ false
other-late b e = ap (λ (x : Bool). x && b) e

pub none-late : (a : Bool) {b : Bool} (c : Bool) → b ≡ false → (a && (b && c)) ≡ false
none-late true c e = other-late c e
none-late false c e = refl
