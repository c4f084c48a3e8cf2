-- What promote and drop answer.
use Rattle.std.specs.Prelude.{Option, None, Some}
use mathlib.Core.Path.{◌≡◌, refl, sym, ap, ◌∙◌, subst}
use mathlib.Core.List.{List, []}
use mathlib.Core.Bool.{Bool, true, false, not, cond}
use Prim.Native.Nat.{ℕ, suc, ◌+◌, ◌-◌, ◌≤◌, ◌<◌}
use native.Mathlib.Omega.{arith}
use lib.Dec.{eqb}
use lib.ListN.{length, get_or, drop}
use Rattle.rules.specs.Lists.{keep, maybe}
use Rattle.rules.specs.Log.{clear}
use Rattle.rules.specs.Lines as Rules
use Rattle.rules.specs.Lines.{Connection, Market, is_failed, items_of, someone, conn_at, with_log, with_lines}
use Rattle.rules.specs.Entering.{Work, begin, take_over, sweep}
use Rattle.rules.specs.Calls.{did, just, kept, gone, rebuild, claim, better, source, promote, drop_conn}
use Rattle.rules.specs.Refusals.{in_line}
use Rattle.rules.specs.Answers.{Said, word}
use Rattle.rules.proofs.Tests.{none≢some}
use Rattle.rules.proofs.CallsKept.{source-law}
use Rattle.rules.proofs.SoundMoves.{take_over-sound, events-le}
use Rattle.rules.proofs.SoundCalls.{clear-sound, promote-safe, dropped-sound, drop-safe}
use Rattle.lines.specs.declared.Claim.{Claim}
use Rattle.lines.specs.Line.{claim_of}
use Rattle.store.specs.Store.{line_count, market_of}
use Rattle.store.specs.Moves.{Moved}
use Rattle.store.specs.ConnMoves.{NotFailed}
use Rattle.store.proofs.MarketLaws.{market-limits, lines-count}
use Rattle.store.proofs.ConnLaws.{lines_from, lines_end}
use Rattle.market.specs.declared.Source.{Source}
use Rattle.market.specs.Claims.{source_of}
use Rattle.moves.specs.Does.{Does, Ready}
use Rattle.market.specs.Lent.{lent, Answers, Roomy}
use Rattle.moves.proofs.DoesLaws.{goes_then, moved_none, ready-then}
use Rattle.market.proofs.AnswerLaws.{ready-begin, roomy-then, goes-just, safe-as, answered, justly, answers-from}

-- ---- the source, from the last line back

pub source-end : (w : List ℕ) (n : ℕ) → n ≡ line_count w → None ≡ source n (drop n (market_of w).lines)
unfolding source
source-end w n e = rw (lines_end w n (omega arith)) refl

pub source-step : (w : List ℕ) (i : ℕ) → 0 < i → i ≤ line_count w → (c : Option Claim) (b r : Option Source) → claim_of c ≡ claim (conn_at (i - 1) (market_of w)).line
    → source_of b ≡ source i (drop i (market_of w).lines) → source_of r ≡ better (i - 1) (claim_of c) (source_of b)
    → source_of r ≡ source (i - 1) (drop (i - 1) (market_of w).lines)
unfolding source
source-step w i h l c b r p q e =
    let n : (i - 1) + 1 ≡ i = omega arith in
    let m : suc (i - 1) ≡ i = omega arith in
    rw (lines_from w (i - 1) (omega arith), n, m, ← p, ← q) e

-- ---- promote

pub promote-kept : (w v : List ℕ) (t : ℕ) → Roomy w v → someone (market_of w).lines ≡ true → Answers (promote t (market_of w)) (lent w v) (word kept 0 0) (lent w v)
unfolding promote
promote-kept w v t r e =
    justly kept r.sound refl (moved_none r.sound.sized) (rw e refl) (safe-as w (promote t (market_of w)) (promote-safe t (market_of w) r.sound.market))

-- a claim is of a line that has not failed
claimed : (l : Rules.Line) (x : ℕ × ℕ) → claim l ≡ Some x → is_failed l ≡ false
claimed (Rules.Waiting is since) x e = refl
claimed (Rules.Pending is at since) x e = refl
claimed (Rules.InLine n a b) x e = absurd (none≢some e)
claimed Rules.Failed x e = absurd (none≢some e)

-- nobody is in line, and the log is emptied
module _ {w v w₁ : List ℕ} (t : ℕ) (r : Roomy w v) (f : someone (market_of w).lines ≡ false) (d : Moved w w₁ (with_log (clear (market_of w).log) (market_of w))) where
  abbrev cleared : Market
  cleared = with_log (clear (market_of w).log) (market_of w)

  roomy₁ : Roomy w₁ v
  roomy₁ = roomy-then r d (market-limits w) (clear-sound (market_of w) r.sound.market)

  pub promote-gone : length w₁ ≡ length w → source 0 (market_of w).lines ≡ None → Answers (promote t (market_of w)) (lent w v) (word gone 0 0) (lent w₁ v)
  unfolding promote
  promote-gone l e = justly gone r.sound l d (rw (f, e) refl) (safe-as w (promote t (market_of w)) (promote-safe t (market_of w) r.sound.market))

  module _ (i : ℕ) (x : ℕ × ℕ) (e : source 0 (market_of w).lines ≡ Some (i, x)) where
    lines₁ : (market_of w₁).lines ≡ (market_of w).lines
    lines₁ = ap (λ (m : Market). m.lines) d.market

    conn₁ : conn_at i (market_of w₁) ≡ conn_at i (market_of w)
    conn₁ = ap (λ (ls : List Connection). get_or ls i Rules.nobody) lines₁

    found : (i < length (market_of w).lines) × (is_failed (conn_at i (market_of w)).line ≡ false)
    found =
        let q = source-law (market_of w).lines 0 (i, x) e in
        let k : q.0 ≡ i = (let z = q.1 in omega arith) in
        (subst (λ (j : ℕ). j < length (market_of w).lines) k q.2, claimed (conn_at i (market_of w)).line x (subst (λ (j : ℕ). claim (conn_at j (market_of w)).line ≡ Some x) k q.3))

    pub take-over-ready : Ready w₁ v 0 × ((i < line_count w₁) × NotFailed w₁ i)
    take-over-ready =
        let a = found.0 in
        let b = lines-count w₁ in
        let c = ap (λ (ls : List Connection). length ls) lines₁ in
        (ready-begin roomy₁, (omega arith, ap (λ (s : Connection). is_failed s.line) conn₁ ∙ found.1))

    -- the items that it takes over with
    items₁ : items_of (conn_at i (market_of w₁)).line ≡ items_of (conn_at i (market_of w)).line
    items₁ = ap (λ (s : Connection). items_of s.line) conn₁

    pub sweep-ready : {w₂ v₂ : List ℕ} {n₂ : ℕ} → length v₂ ≡ length v → Does (take_over i (items_of (conn_at i (market_of w₁)).line) t) w₁ v 0 w₂ v₂ n₂ → Ready w₂ v₂ n₂
    sweep-ready l g =
        let is = items_of (conn_at i (market_of w₁)).line in
        ready-then (take_over i is t)
        (λ Z k q s. let lt : i < length k.market.lines = (let a = found.0 in let c = ap (λ (m : Market). length m.lines) q in let b = ap (λ (ls : List Connection). length ls) lines₁ in omega arith) in
        let same : length is ≡ length (items_of (conn_at i k.market).line) = ap (λ (m : Market). length (items_of (conn_at i m).line)) (sym q) in
        let le = events-le is in
        let sp = s.spent in
        take_over-sound Z i is t k lt (omega arith) (omega arith) s.limits s.sound)
        l g (ready-begin roomy₁)

    pub promote-done : {w₂ v₂ w₃ v₃ : List ℕ} {n₂ n₃ : ℕ} → length w₃ ≡ length w → Does (take_over i (items_of (conn_at i (market_of w₁)).line) t) w₁ v 0 w₂ v₂ n₂ → Does (sweep t) w₂ v₂ n₂ w₃ v₃ n₃
        → Answers (promote t (market_of w)) (lent w v) (word rebuild n₃ 0) (lent w₃ v₃)
    unfolding promote
    promote-done l g h =
        let m₁ = cleared in
        let a = goes-just {v = v} d in
        let b = g (begin m₁) (sym d.market) in
        let k = take_over i (items_of (conn_at i (market_of w₁)).line) t (begin m₁) in
        let c = h k (sym b.moved.market) in
        let q : promote t (market_of w) ≡ did rebuild [] (sweep t k) = rw (f, e) (ap (λ (is : List _). did rebuild [] (sweep t (take_over i is t (begin m₁)))) (sym items₁)) in
        answered rebuild r.sound l (goes_then (omega arith) a (goes_then (omega arith) b c)) q (safe-as w (promote t (market_of w)) (promote-safe t (market_of w) r.sound.market))

-- ---- drop

pub drop-ready : {w v w₁ : List ℕ} (c : ℕ) → Roomy w v → Moved w w₁ (with_lines (keep (λ x. not (eqb x.conn c)) (market_of w).lines) (market_of w)) → Roomy w₁ v
drop-ready {w} c r d = roomy-then r d (market-limits w) (dropped-sound c (market_of w) r.sound.market)

pub drop-kept : {w v w₁ : List ℕ} (c t : ℕ) → Roomy w v → length w₁ ≡ length w → in_line c (market_of w) ≡ false
    → Moved w w₁ (with_lines (keep (λ x. not (eqb x.conn c)) (market_of w).lines) (market_of w)) → Answers (drop_conn c t (market_of w)) (lent w v) (word kept 0 0) (lent w₁ v)
unfolding drop_conn
drop-kept {w} c t r l e d = justly kept r.sound l d (rw e refl) (safe-as w (drop_conn c t (market_of w)) (drop-safe c t (market_of w) r.sound.market))

-- promote is never refused
promote-did : (t : ℕ) (m : Market) → (a : _) × ((k : Work) × (promote t m ≡ did a [] k))
unfolding promote
promote-did t m = go (someone m.lines) (source 0 m.lines)
  where
    go : (b : Bool) (o : Option (ℕ × (ℕ × ℕ))) → (a : _) × ((k : Work) × (cond b (just kept m) (maybe (just gone (with_log (clear m.log) m)) (λ x. did rebuild [] (sweep t (take_over x.0 (items_of (conn_at x.0 m).line) t (begin (with_log (clear m.log) m))))) o) ≡ did a [] k))
    go true o = (kept, (begin m, refl))
    go false None = (gone, (begin (with_log (clear m.log) m), refl))
    go false (Some x) = (rebuild, (sweep t (take_over x.0 (items_of (conn_at x.0 m).line) t (begin (with_log (clear m.log) m))), refl))

pub drop-done : {w v w₁ w₂ v₂ : List ℕ} (c t : ℕ) (a : Said) → length w₁ ≡ length w → in_line c (market_of w) ≡ true
    → Moved w w₁ (with_lines (keep (λ x. not (eqb x.conn c)) (market_of w).lines) (market_of w)) → Answers (promote t (market_of w₁)) (lent w₁ v) a (lent w₂ v₂)
    → Answers (drop_conn c t (market_of w)) (lent w v) a (lent w₂ v₂)
unfolding drop_conn
drop-done {w} {v} {w₁} {w₂} {v₂} c t a l e d x =
    let m₁ = with_lines (keep (λ (y : Connection). not (eqb y.conn c)) (market_of w).lines) (market_of w) in
    let y : Answers (promote t m₁) (lent w₁ v) a (lent w₂ v₂) = subst (λ (m : Market). Answers (promote t m) (lent w₁ v) a (lent w₂ v₂)) d.market x in
    let q = promote-did t m₁ in
    rw e (answers-from l q.1.1 y)
