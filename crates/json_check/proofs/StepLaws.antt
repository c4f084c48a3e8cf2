-- A step, made from what it leads to.
use mathlib.Core.Path.{◌≡◌, sym, ◌∙◌}
use mathlib.Core.Bool.{Bool}
use mathlib.Core.List.{List}
use Prim.Native.Nat.{ℕ, ◌≤◌, ◌<◌}
use native.Mathlib.Omega.{arith}
use lib.ListN.{length, drop}
use Rattle.std.specs.Prelude.{Option, Some, None, Result}
use Rattle.json_check.specs.declared.Refusal.{Refusal}
use Rattle.json_check.specs.declared.Step.{Step}
use Rattle.json_check.specs.Numbers.{number_of}
use Rattle.json_check.specs.Runs.{Next, go, done, bad, value, after}
use Rattle.json_check.specs.Steps.{stack, Stepped}

module _ (t : List ℕ) (opened : List Bool) (low : ℕ) {n : Next} where
  module _ (at depth : ℕ) (found : Result (Unit {0}) Refusal) (h : low < at) (i : at ≤ length t) (j : depth ≤ at) where
    pub steps-value :
        n ≡ go (value (stack opened depth) (drop at t) (number_of found)) →
        Stepped t opened low n (Some (Step.Value (record { at = at; depth = depth; found = found })))
    steps-value e = record { is = sym e; onward = (h, record { fits = i; shallow = j }) }

    pub steps-after :
        n ≡ go (after (stack opened depth) (drop at t) (number_of found)) →
        Stepped t opened low n (Some (Step.After (record { at = at; depth = depth; found = found })))
    steps-after e = record { is = sym e; onward = (h, record { fits = i; shallow = j }) }

  pub steps-done : (g : Result (Unit {0}) Refusal) → n ≡ done (number_of g) → Stepped t opened low n (Some (Step.Done g))
  steps-done g e = record { is = sym e; onward = tt }

  pub steps-bad : n ≡ bad → Stepped t opened low n None
  steps-bad e = record { is = sym e; onward = tt }

-- the same step to the same end, behind a lower place
pub steps-as :
    (t : List ℕ) (opened : List Bool) (low low' : ℕ) (n n' : Next) (r : Option Step) →
    low' ≤ low → n' ≡ n → Stepped t opened low n r → Stepped t opened low' n' r
steps-as t opened low low' n n' (Some (Step.Value p)) h e s = record { is = s.is ∙ sym e; onward = (omega (arith, s.onward.0), s.onward.1) }
steps-as t opened low low' n n' (Some (Step.After p)) h e s = record { is = s.is ∙ sym e; onward = (omega (arith, s.onward.0), s.onward.1) }
steps-as t opened low low' n n' (Some (Step.Done g)) h e s = record { is = s.is ∙ sym e; onward = tt }
steps-as t opened low low' n n' None h e s = record { is = s.is ∙ sym e; onward = tt }
