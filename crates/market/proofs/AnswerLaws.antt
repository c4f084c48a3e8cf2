-- From what was done on the words to what a call answers and leaves.
use mathlib.Core.Path.{◌≡◌, refl, sym, ap, ◌∙◌, subst}
use mathlib.Core.List.{List, []}
use Prim.Native.Nat.{ℕ, ◌+◌, ◌*◌, ◌≤◌}
use native.Mathlib.Omega.{arith}
use lib.ListN.{length}
use Rattle.rules.specs.declared.Applied.{Applied}
use Rattle.rules.specs.declared.Expired.{Expired}
use Rattle.rules.specs.declared.Limits.{Limits}
use Rattle.rules.specs.Lines.{Market}
use Rattle.rules.specs.Entering.{Work, begin}
use Rattle.rules.specs.Calls.{Answer, Outcome, refused, did, just}
use Rattle.rules.specs.Refusals.{room_needed}
use Rattle.rules.specs.Answers.{Said, number, word}
use Rattle.rules.specs.Sound as Rules
use Rattle.rules.specs.Sound.{holdings}
use Rattle.rules.proofs.SoundMoves.{SoundW}
use Rattle.rules.proofs.SoundCalls.{room_for, Safe, begin-sound}
use Rattle.store.specs.Store.{limits_of, market_of, Sound}
use Rattle.store.specs.Moves.{Moved}
use Rattle.store.proofs.MarketLaws.{market-limits}
use Rattle.store.proofs.FrameLaws.{moved-limits, moved-sound}
use Rattle.output.specs.Output.{records_words, reports_words, over}
use Rattle.moves.specs.Does.{Goes, Ready}
use Rattle.market.specs.Lent.{Lent, lent, Answers, Roomy}

-- ---- ready

-- what a sound call under way leaves is ready for more
pub ready_at : {w v : List ℕ} {w₁ v₁ : List ℕ} {n₁ : ℕ} {k : Work} → Roomy w v → length v₁ ≡ length v → Goes w v 0 w₁ v₁ n₁ (begin (market_of w)) k
    → SoundW (room_for (limits_of w)) k → Ready w₁ v₁ n₁
ready_at r l g s =
    let a = s.spent in
    let b = ap length g.out in
    let c = g.count in
    let e = ap (λ (m : Market). holdings m.lines) g.moved.market in
    let h = r.room in
    record { sound = moved-sound r.sound g.moved s.sound; room = omega arith }

pub ready-begin : {w v : List ℕ} → Roomy w v → Ready w v 0
ready-begin {w} r =
    let s = subst (λ (l : Limits). SoundW (room_for l) (begin (market_of w))) (market-limits w) (begin-sound (market_of w) r.sound.market) in
    let a = s.spent in let h = r.room in record { sound = r.sound; room = omega arith }

-- the output takes a record
pub room-one : {w v : List ℕ} → Roomy w v → 7 * 0 + 7 ≤ length v
room-one r = omega (arith, r.room)

-- a move on the store alone leaves a roomy store, if the market is sound
pub roomy-then : {w v w₁ : List ℕ} {m : Market} → Roomy w v → Moved w w₁ m → m.limits ≡ limits_of w → Rules.Sound m → Roomy w₁ v
roomy-then {w} {v} {w₁} r d e s =
    let q : limits_of w₁ ≡ limits_of w = moved-limits d ∙ e in
    record { sound = moved-sound r.sound d s; room = subst (λ l. 7 * room_needed l ≤ length v) (sym q) r.room }

-- nothing put out
pub goes-just : {w v w₁ : List ℕ} {m : Market} → Moved w w₁ m → Goes w v 0 w₁ v 0 (begin (market_of w)) (begin m)
unfolding records_words
goes-just d = record { more = []; out = refl; moved = d; words = refl; count = refl }

-- ---- answers

-- a refusal leaves all that was lent
pub refuses : {o : Outcome} (n : ℕ) (l : Lent) → o ≡ refused n → Answers o l (number n) l
refuses n l e = rw e (record { said = refl; left = refl })

-- what is safe by the market's limits is by the words'
pub safe-as : (w : List ℕ) (o : Outcome) → Safe (market_of w).limits o → Safe (limits_of w) o
safe-as w o s = subst (λ (l : Limits). Safe l o) (market-limits w) s

-- what was put out from nothing on is the whole of a call's records
pub answered : {w v w₁ v₁ : List ℕ} {n₁ : ℕ} {k : Work} {o : Outcome} (a : Answer) → Sound w → length w₁ ≡ length w → Goes w v 0 w₁ v₁ n₁ (begin (market_of w)) k
    → o ≡ did a [] k → Safe (limits_of w) o → Answers o (lent w v) (word a n₁ 0) (lent w₁ v₁)
unfolding reports_words
answered {w} {v} {w₁} {v₁} {n₁} {k} a s l g e f =
    let z : Safe (limits_of w) (did a [] k) = subst (Safe (limits_of w)) e f in
    let b : length k.out ≡ length g.more = ap length g.out in
    let c = g.count in
    let q : n₁ ≡ length k.out = omega arith in
    rw e
    (record {
      said = ap (λ (n : ℕ). word a n 0) q;
      left = record {
        market = g.moved.market;
        sound = moved-sound s g.moved z.0.sound;
        size = l;
        out = g.words ∙ ap (λ (x : List Applied). over (records_words x) v) (sym g.out);
        reports = refl;
      };
    })

-- an answer that puts nothing out
pub justly : {w v w₁ : List ℕ} {m : Market} {o : Outcome} (a : Answer) → Sound w → length w₁ ≡ length w → Moved w w₁ m → o ≡ just a m → Safe (limits_of w) o
    → Answers o (lent w v) (word a 0 0) (lent w₁ v)
justly a s l d e f = answered a s l (goes-just d) e f

-- a call goes on from words that an earlier move left
pub answers-from : {w v w₁ v₂ w₂ : List ℕ} {o : Outcome} {a : Answer} {rs : List Expired} {k : Work} {r : Said} → length w₁ ≡ length w → o ≡ did a rs k
    → Answers o (lent w₁ v) r (lent w₂ v₂) → Answers o (lent w v) r (lent w₂ v₂)
answers-from {w} {v} {w₁} {v₂} {w₂} {o} {a} {rs} {k} {r} l e x =
    subst (λ y. Answers y (lent w v) r (lent w₂ v₂)) (sym e)
    (let y : Answers (did a rs k) (lent w₁ v) r (lent w₂ v₂) = subst (λ y. Answers y (lent w₁ v) r (lent w₂ v₂)) e x in
    record {
      said = y.said;
      left = record { market = y.left.market; sound = y.left.sound; size = y.left.size ∙ l; out = y.left.out; reports = y.left.reports };
    })
