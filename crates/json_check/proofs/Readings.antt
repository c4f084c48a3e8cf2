-- Reading a whole text: what each step has reached, and that a step goes on.
use mathlib.Core.Path.{◌≡◌, sym}
use mathlib.Core.Bool.{Bool}
use mathlib.Core.List.{List}
use Rattle.std.specs.Prelude.{Option, Some, None, Result, Ok}
use Rattle.json_check.specs.declared.Refusal.{Refusal}
use Rattle.json_check.specs.Numbers.{number_of}
use Prim.Native.Nat.{ℕ, suc, ◌-◌, ◌≤◌, ◌<◌}
use native.Mathlib.Omega.{arith}
use lib.ListN.{length, drop}
use Rattle.json_text.specs.Work.{skip_ws}
use Rattle.json_check.specs.declared.Place.{Place}
use Rattle.json_check.specs.declared.Step.{Step}
use Rattle.json_check.specs.Runs.{State, Next, Run, ended, stopped, goes, start, next, of_value, of_after}
use Rattle.json_check.specs.Steps.{stack, value_at, after_at, Inside, Stepped}

-- what is found from q on is found from the start on
abbrev pub Leads : List ℕ → State → Type 0
Leads t q = (o : Option ℕ) → Run q o → Run (start t) o

abbrev pub Reached : List ℕ → List Bool → Step → Type 0
Reached t opened (Step.Value p) = Inside t p × Leads t (value_at t opened p)
Reached t opened (Step.After p) = Inside t p × Leads t (after_at t opened p)
Reached t opened (Step.Done g) = Run (start t) (Some (number_of g))

-- and by a step, or by none where there is no text
abbrev pub Led : List ℕ → List Bool → Option Step → Type 0
Led t opened (Some r) = Reached t opened r
Led t opened None = Run (start t) None

-- how much is left to read
abbrev pub left : List ℕ → Step → ℕ
left t (Step.Value p) = suc (length t - p.at)
left t (Step.After p) = suc (length t - p.at)
left t (Step.Done g) = 0

abbrev pub left_by : List ℕ → Option Step → ℕ
left_by t (Some r) = left t r
left_by t None = 0

pub starts :
    (t : List ℕ) (opened : List Bool) (at : ℕ) → drop at t ≡ skip_ws t → at ≤ length t →
    Reached t opened (Step.Value (record { at = at; depth = 0; found = Ok tt }))
starts t opened at e h = (record { fits = h; shallow = omega arith }, λ o r. rw e at r)

steps_on : (t : List ℕ) (opened : List Bool) (low : ℕ) (q : State) (r : Option Step) → Leads t q → Stepped t opened low (next q) r → Led t opened r
steps_on t opened low q (Some (Step.Value p)) f s = (s.onward.1, λ o u. f o (goes (sym s.is) u))
steps_on t opened low q (Some (Step.After p)) f s = (s.onward.1, λ o u. f o (goes (sym s.is) u))
steps_on t opened low q (Some (Step.Done g)) f s = f (Some (number_of g)) (ended (sym s.is))
steps_on t opened low q None f s = f None (stopped (sym s.is))

steps-less : (t : List ℕ) (opened : List Bool) (low : ℕ) (n : Next) (r : Option Step) → Stepped t opened low n r → left_by t r < suc (length t - low)
steps-less t opened low n (Some (Step.Value p)) s = omega (arith, s.onward.0, s.onward.1.fits)
steps-less t opened low n (Some (Step.After p)) s = omega (arith, s.onward.0, s.onward.1.fits)
steps-less t opened low n (Some (Step.Done g)) s = omega arith
steps-less t opened low n None s = omega arith

-- one step from a place p of a step q: the brackets are o in front of it and opened behind it
module _ (t : List ℕ) (o opened : List Bool) (p : Place) (q : Step) (r : Option Step) where
  module _
      (is : q ≡ Step.Value p)
      (s : Stepped t opened p.at (of_value (stack o p.depth) (drop p.at t) (number_of p.found)) r)
    where
      pub value_on : Reached t o q → Led t opened r
      unfolding next
      value_on h = let z : Reached t o (Step.Value p) = rw is at h in steps_on t opened p.at (value_at t o p) r z.1 s

      pub value-less : left_by t r < left t q
      value-less = rw is (steps-less t opened p.at _ r s)

  module _
      (is : q ≡ Step.After p)
      (s : Stepped t opened p.at (of_after (stack o p.depth) (skip_ws (drop p.at t)) (number_of p.found)) r)
    where
      pub after_on : Reached t o q → Led t opened r
      unfolding next
      after_on h = let z : Reached t o (Step.After p) = rw is at h in steps_on t opened p.at (after_at t o p) r z.1 s

      pub after_less : left_by t r < left t q
      after_less = rw is (steps-less t opened p.at _ r s)

-- what is reached, once it is known which step it is
module _ (t : List ℕ) (opened : List Bool) (q : Step) (h : Reached t opened q) where
  pub reached-value : (p : Place) → q ≡ Step.Value p → Inside t p
  reached-value p e = let z : Reached t opened (Step.Value p) = rw e at h in z.0

  pub reached-after : (p : Place) → q ≡ Step.After p → Inside t p
  reached-after p e = let z : Reached t opened (Step.After p) = rw e at h in z.0

  pub reached-done : (g : Result (Unit {0}) Refusal) → q ≡ Step.Done g → Run (start t) (Some (number_of g))
  reached-done g e = rw e at h
