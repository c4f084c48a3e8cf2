-- Where something ends, made from what is left there.
use mathlib.Core.Path.{◌≡◌, sym, ◌∙◌}
use mathlib.Core.List.{List}
use Prim.Native.Nat.{ℕ, ◌≤◌}
use native.Mathlib.Omega.{arith}
use lib.ListN.{length, drop}
use Rattle.std.specs.Prelude.{Option, Some, None}
use Rattle.json_text.specs.Work.{Ends}

pub ends_at : (t : List ℕ) (low e : ℕ) {o : Option (List ℕ)} → o ≡ Some (drop e t) → low ≤ e → e ≤ length t → Ends t low o (Some e)
ends_at t low e p h k = record { rest = sym p; beyond = (h, k) }

pub ends_nowhere : (t : List ℕ) (low : ℕ) {o : Option (List ℕ)} → o ≡ None → Ends t low o None
ends_nowhere t low p = record { rest = sym p; beyond = tt }

-- the same end of what reads the same, behind a lower place
pub ends_as :
    (t : List ℕ) (low low' : ℕ) (o o' : Option (List ℕ)) (r : Option ℕ) → low' ≤ low → o' ≡ o → Ends t low o r → Ends t low' o' r
ends_as t low low' o o' (Some e) h p z = record { rest = z.rest ∙ sym p; beyond = omega (arith, z.beyond) }
ends_as t low low' o o' None h p z = record { rest = z.rest ∙ sym p; beyond = tt }

-- what an end says, once it is known which it is
module _ (t : List ℕ) (low : ℕ) (o : Option (List ℕ)) (r : Option ℕ) (z : Ends t low o r) where
  pub ends-nowhere-reads : r ≡ None → o ≡ None
  ends-nowhere-reads p = sym (rw p at z).rest

  pub ends-at-reads : (e : ℕ) → r ≡ Some e → o ≡ Some (drop e t)
  ends-at-reads e p = sym (rw p at z).rest

  pub ends-at-beyond : (e : ℕ) → r ≡ Some e → (low ≤ e) × (e ≤ length t)
  ends-at-beyond e p = (rw p at z).beyond
