-- What refuses an item more, what the i-th line makes of a snapshot, and what a try at line-up leaves.
use Rattle.std.specs.Prelude.{Result, Ok, Err, ◌≡◌, List, [], false, cond, ℕ, ◌<◌, eqb}
use Rattle.rules.specs.Lists.{nil}
use Rattle.rules.specs.Log.{end}
use Rattle.rules.specs.Lines as Rules
use Rattle.rules.specs.Lines.{Market, conn_at, items_of, set_line}
use Rattle.rules.specs.Entering.{Work, begin, try_line_up, sweep}
use Rattle.rules.specs.Calls.{Outcome, just, held, released, full_log, full_numbers, snapshot}
use Rattle.rules.specs.declared.refusal.Refusal.{Refusal}
use Rattle.rules.specs.Answers.{Said, number_of}
use Rattle.rules.specs.Sound.{LineSound}
use Rattle.lines.specs.declared.Line.{Line}
use Rattle.lines.specs.Line.{line_of, complete, holds_both, snapshot_step}
use Rattle.store.specs.Store.{line_count, market_of}
use Rattle.store.specs.ConnMoves.{items_at}
use Rattle.moves.specs.Does.{Goes}

-- the number that refuses an item more, or 0
abbrev pub fullness : Market → ℕ
fullness m = cond (full_log m) 5 (cond (full_numbers m) 9 0)

abbrev pub fullness_of : Result Unit Refusal → ℕ
fullness_of (Ok u) = 0
fullness_of (Err r) = number_of r

-- what the i-th line makes of a snapshot
abbrev pub step_at : ℕ → ℕ → ℕ → Market → Rules.Line × Said
step_at i token msg m = snapshot_step m.limits.H token msg (conn_at i m).line

-- the snapshot to it
abbrev pub snapshot_at : ℕ → ℕ → ℕ → ℕ → Market → Outcome
snapshot_at i token msg t m = snapshot i token msg t m (conn_at i m).line

-- the i-th line may become this one, which holds nothing
pub record Fits (w : List ℕ) (i : ℕ) (line : Line) : Type 0 where
  pub here : i < line_count w
  pub sound : LineSound (market_of w).limits (end (market_of w).log) (line_of line (items_at w i))
  pub empty : items_of (line_of line (items_at w i)) ≡ []

-- the i-th line's try at line-up
abbrev pub tried : ℕ → ℕ → Market → Work
tried i t m = try_line_up false i t (begin m)

-- it was tried, and the others swept if anything was put out; r records are
pub record Released (i t : ℕ) (w v w' v' : List ℕ) (r : ℕ) : Type 0 where
  pub goes : Goes w v 0 w' v' r (begin (market_of w)) (cond (nil (tried i t (market_of w)).out) (tried i t (market_of w)) (sweep t (tried i t (market_of w))))
  pub nothing : nil (tried i t (market_of w)).out ≡ eqb r 0

-- a line whose snapshot may be complete
abbrev pub completed : ℕ → ℕ → Market → Outcome
completed i t m =
    let l = (conn_at i m).line in
    cond (holds_both (items_of l)) (released held t (tried i t (set_line i (complete t l) m))) (just held m)
