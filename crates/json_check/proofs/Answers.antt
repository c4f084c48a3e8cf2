-- The answer to bytes, by how reading them ends.
use mathlib.Core.Path.{◌≡◌}
use mathlib.Core.List.{List}
use Prim.Native.Nat.{ℕ, ◌≤◌}
use lib.ListN.{length}
use Rattle.json_text.specs.Refusals.{longest, Judged, no_text, judged}
use Rattle.std.specs.Prelude.{None, Some, Result, Err}
use Rattle.json_check.specs.declared.Refusal.{Refusal}
use Rattle.json_check.specs.declared.Step.{Step}
use Rattle.json_check.specs.Numbers.{number}
use Rattle.json_check.specs.Runs.{Run, start}
use Rattle.json_check.proofs.RunsText.{runs-text}
use Rattle.json_check.proofs.TextRuns.{runs_none}

pub judged-text : (t : List ℕ) (n : ℕ) → length t ≤ longest → Run (start t) (Some n) → Judged t n
judged-text t n l h = let (v, x, f) = runs-text t n h in judged l x f

pub judged-none : (t : List ℕ) → Run (start t) None → Judged t 15
judged-none t h = no_text (runs_none t h)

-- the same of the error that a call gave for none
pub refused-as : (t : List ℕ) (e : Refusal) → ◌≡◌ {A = Result Step Refusal} (Err e) (Err Refusal.NoText) → Run (start t) None → Judged t (number e)
refused-as t e q h = let s : e ≡ Refusal.NoText = cc in rw s (judged-none t h)
