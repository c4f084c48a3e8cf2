-- When an area is one of a sound store.
use Rattle.std.specs.Prelude.{List, ℕ, ◌≤◌, get_or}
use Rattle.rules.specs.declared.Limits.{Limits}
use Rattle.rules.specs.Lines as Rules
use Rattle.rules.specs.Sound.{LineSound}
use Rattle.lines.specs.Area.{print_count, line_limit, conn_of}

-- limits of which only H matters
abbrev pub held_limit : ℕ → Limits
held_limit h = record { L = 0; H = h; G = 0; C = 0; D = 0 }

abbrev pub LineFits : ℕ → ℕ → Rules.Line → Type 0
LineFits h e l = LineSound (held_limit h) e l

-- the kind is known, the line is sound over a log that ends at e, no more than h prints are held, and the line's limit is 1 to h
pub record AreaSound (h e : ℕ) (w : List ℕ) : Type 0 where
  pub kind : get_or w 1 0 ≤ 3
  pub prints : print_count w ≤ h
  pub limit : 1 ≤ line_limit w
  pub within : line_limit w ≤ h
  pub line : LineFits h e (conn_of h w).line
