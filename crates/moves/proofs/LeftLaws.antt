-- A move that is done in steps: after some of them, what is left of it to do.
use mathlib.Core.Path.{◌≡◌, refl, sym, ◌∙◌}
use mathlib.Core.List.{List}
use Prim.Native.Nat.{ℕ, ◌*◌, ◌≤◌}
use lib.ListN.{length}
use Rattle.rules.specs.Entering.{Work}
use Rattle.store.specs.Store.{market_of, Sized}
use Rattle.moves.specs.Does.{Goes, Does}
use Rattle.moves.proofs.DoesLaws.{goes_then, goes-is, does-none}

-- the words w became w₁ on the way of f, and rest is what is left of f
abbrev pub Left : (Work → Work) → (Work → Work) → List ℕ → List ℕ → ℕ → List ℕ → List ℕ → ℕ → Type 0
Left f rest w v n w₁ v₁ n₁ = (k : Work) → k.market ≡ market_of w → (k₁ : Work) × (Goes w v n w₁ v₁ n₁ k k₁ × (rest k₁ ≡ f k))

pub left-start : {w v : List ℕ} {n : ℕ} (f : Work → Work) → Sized w → Left f f w v n w v n
left-start f z k e = (k, (does-none z k e, refl))

pub left-then : {w v : List ℕ} {n : ℕ} {w₁ v₁ : List ℕ} {n₁ : ℕ} {w₂ v₂ : List ℕ} {n₂ : ℕ} (f rest rest₁ g : Work → Work) → 7 * n ≤ length v
    → Left f rest w v n w₁ v₁ n₁ → Does g w₁ v₁ n₁ w₂ v₂ n₂ → ((k : Work) → k.market ≡ market_of w₁ → rest k ≡ rest₁ (g k))
    → Left f rest₁ w v n w₂ v₂ n₂
left-then f rest rest₁ g h l d s k e =
    let (k₁, (a, b)) = l k e in
    let m : k₁.market ≡ market_of _ = sym a.moved.market in
    (g k₁, (goes_then h a (d k₁ m), sym (s k₁ m) ∙ b))

pub left-done : {w v : List ℕ} {n : ℕ} {w₁ v₁ : List ℕ} {n₁ : ℕ} (f rest : Work → Work) → Left f rest w v n w₁ v₁ n₁ → ((k : Work) → rest k ≡ k)
    → Does f w v n w₁ v₁ n₁
left-done f rest l s k e = let (k₁, (a, b)) = l k e in goes-is (sym (s k₁) ∙ b) a
