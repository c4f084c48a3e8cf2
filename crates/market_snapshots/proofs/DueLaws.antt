-- Laws of a snapshot that was due to a line.
use mathlib.Core.Path.{◌≡◌, refl, sym, ap, subst}
use mathlib.Core.List.{List, [], ◌∷◌}
use Prim.Native.Nat.{ℕ}
use native.Mathlib.Omega.{arith}
use lib.ListN.{length}
use Rattle.rules.specs.declared.Item.TheVariants as Item
use Rattle.rules.specs.declared.Limits.{Limits}
use Rattle.rules.specs.Quantities.{snapshot_out}
use Rattle.rules.specs.Log.{stamp}
use Rattle.rules.specs.Lines.{conn_at, with_log, set_line}
use Rattle.rules.specs.Entering.{Work, begin, put_out, put_items, sweep}
use Rattle.rules.specs.Calls.{apply}
use Rattle.rules.specs.Answers.{word}
use Rattle.rules.specs.Sound as Sounds
use Rattle.rules.proofs.SoundMoves.{SoundW, sweep_sound}
use Rattle.rules.proofs.SoundCalls.{room_for, holdings-fit, shrink}
use Rattle.lines.specs.declared.Line.{Line}
use Rattle.lines.specs.Line.{line_of}
use Rattle.lines.specs.Steps.{after_snapshot}
use Rattle.store.specs.Store.{limits_of, market_of}
use Rattle.store.specs.Moves.{Moved}
use Rattle.store.specs.ConnMoves.{items_at}
use Rattle.store.proofs.MarketLaws.{market-limits}
use Rattle.moves.specs.Does.{Goes, Does, Ready}
use Rattle.moves.proofs.DoesLaws.{goes_then}
use Rattle.market.specs.Lent.{lent, Answers, Roomy}
use Rattle.market.proofs.AnswerLaws.{ready_at, goes-just, answered}
use Rattle.market_snapshots.specs.Snapshots.{Fits}
use Rattle.market_snapshots.proofs.SnapshotLaws.{line-here, held_fits}

-- the i-th line became the one that it fits, and the snapshot is put out
module _ {w v : List ℕ} {i : ℕ} {line : Line} (message t : ℕ) (r : Roomy w v) (p : Fits w i line) where
  -- the call under way then
  put : Work
  put =
      put_out (snapshot_out (conn_at i (market_of w)).conn message)
      (begin (set_line i (line_of line (items_at w i)) (with_log (stamp t (market_of w).log) (market_of w))))

  put-sound : SoundW (room_for (limits_of w)) put
  unfolding put
  put-sound =
      let m = market_of w in
      let l = line_of line (items_at w i) in
      let s = r.sound.market in
      let m₀ = with_log (stamp t m.log) m in
      let s₀ : Sounds.Sound m₀ = record { limits_fit = s.limits_fit; lines = s.lines; prints = s.prints } in
      let m₁ = set_line i l m₀ in
      let none = ap length p.empty in
      let s₁ : Sounds.Sound m₁ =
      shrink m₀ i l (conn_at i m).held s₀ (line-here r.sound p.here) p.sound (held_fits r.sound p.here) (omega arith) in
      subst (λ (y : Limits). SoundW (room_for y) (put_out (snapshot_out (conn_at i m).conn message) (begin m₁))) (market-limits w)
      (record { sound = s₁; limits = refl; spent = let a = holdings-fit m₁ s₁ in omega arith })

  module _ {w₁ w₂ v₂ : List ℕ} {n c : ℕ} (d : Moved w w₁ (set_line i (line_of line (items_at w i)) (market_of w)))
      (f : (u : ℕ) → Does (put_items c t (Item.Snapshot u message ∷ [])) w₁ v 0 w₂ v₂ n) (k : c ≡ (conn_at i (market_of w)).conn) where
    due-goes : Goes w v 0 w₂ v₂ n (begin (market_of w)) put
    unfolding put put_items
    due-goes =
        goes_then (omega arith) (goes-just d)
        (subst (λ (y : ℕ). Goes w₁ v 0 w₂ v₂ n (begin (set_line i (line_of line (items_at w i)) (market_of w)))
        (put_out (snapshot_out y message) (begin (set_line i (line_of line (items_at w i)) (with_log (stamp t (market_of w).log) (market_of w)))))) k
        (f 0 (begin (set_line i (line_of line (items_at w i)) (market_of w))) (sym d.market)))

    pub due-ready : length v₂ ≡ length v → Ready w₂ v₂ n
    due-ready l = ready_at r l due-goes put-sound

    pub due-done : {w₃ v₃ : List ℕ} {y : ℕ} → length w₃ ≡ length w → Does (sweep t) w₂ v₂ n w₃ v₃ y
        → Answers (after_snapshot i message t (market_of w) (line_of line (items_at w i), word apply 1 0)) (lent w v) (word apply y 0) (lent w₃ v₃)
    unfolding put
    due-done l g =
        answered apply r.sound l (goes_then (omega arith) due-goes (g put (sym due-goes.moved.market))) refl
        (sweep_sound (room_for (limits_of w)) t put put-sound, omega arith)
