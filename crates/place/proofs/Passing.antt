-- Entries that are passed over: no key among them has the first word looked for.
use mathlib.Core.Path.{◌≡◌, ap, sym, subst, ◌∙◌}
use mathlib.Core.List.{List}
use mathlib.Core.Logic.{⊎_elim}
use Prim.Native.Nat.{ℕ, ◌+◌, ◌-◌, ◌*◌, ◌≤◌, ◌<◌}
use native.Mathlib.Omega.{arith}
use lib.ListN.{get_or}
use Rattle.words.proofs.Cases.{below_or}
use Rattle.event_log.specs.Log.{entry_place}
use Rattle.event_log.proofs.Ring.{place_short, place-turned}
use Rattle.place.specs.Items.{first_at, Passed}

at : (keys : List ℕ) (k a b : ℕ) → a ≡ b → (get_or keys a 0 ≡ k → ⊥) → get_or keys b 0 ≡ k → ⊥
at keys k a b e d q = d (ap (λ (x : ℕ). get_or keys x 0) e ∙ q)

module _ {first : ℕ → ℕ} {count k from : ℕ} where
  pub passes_none : from ≤ count → Passed first count k from from
  passes_none h = record { past = omega arith; inside = h; none = λ e a b. absurd (omega arith) }

  pub passes-one : {i : ℕ} → Passed first count k from i → i < count → (first i ≡ k → ⊥) → Passed first count k from (i + 1)
  passes-one {i} p h d =
      record {
        past = omega (arith, p.past);
        inside = omega arith;
        none = λ e a b.
            ⊎_elim (λ l. p.none e a l) (λ l. let z : e ≡ i = omega arith in λ q. d (ap first (sym z) ∙ q)) (below_or e i);
      }

module _ (keys : List ℕ) {count k from : ℕ} where
  pub passes-eight : {i : ℕ} → Passed (first_at keys) count k from i → 8 + i ≤ count
      → (get_or keys (2 * i) 0 ≡ k → ⊥) → (get_or keys (2 * i + 2) 0 ≡ k → ⊥) → (get_or keys (2 * i + 4) 0 ≡ k → ⊥) → (get_or keys (2 * i + 6) 0 ≡ k → ⊥)
      → (get_or keys (2 * i + 8) 0 ≡ k → ⊥) → (get_or keys (2 * i + 10) 0 ≡ k → ⊥) → (get_or keys (2 * i + 12) 0 ≡ k → ⊥) → (get_or keys (2 * i + 14) 0 ≡ k → ⊥)
      → Passed (first_at keys) count k from (i + 8)
  passes-eight {i} p h d₀ d₁ d₂ d₃ d₄ d₅ d₆ d₇ =
      let p₁ = passes-one p (omega arith) d₀ in
      let p₂ = passes-one p₁ (omega arith) (at keys k (2 * i + 2) (2 * (i + 1)) (omega arith) d₁) in
      let p₃ = passes-one p₂ (omega arith) (at keys k (2 * i + 4) (2 * ((i + 1) + 1)) (omega arith) d₂) in
      let p₄ = passes-one p₃ (omega arith) (at keys k (2 * i + 6) (2 * (((i + 1) + 1) + 1)) (omega arith) d₃) in
      let p₅ = passes-one p₄ (omega arith) (at keys k (2 * i + 8) (2 * ((((i + 1) + 1) + 1) + 1)) (omega arith) d₄) in
      let p₆ = passes-one p₅ (omega arith) (at keys k (2 * i + 10) (2 * (((((i + 1) + 1) + 1) + 1) + 1)) (omega arith) d₅) in
      let p₇ = passes-one p₆ (omega arith) (at keys k (2 * i + 12) (2 * ((((((i + 1) + 1) + 1) + 1) + 1) + 1)) (omega arith) d₆) in
      let p₈ = passes-one p₇ (omega arith) (at keys k (2 * i + 14) (2 * (((((((i + 1) + 1) + 1) + 1) + 1) + 1) + 1)) (omega arith) d₇) in
      let e : (((((((i + 1) + 1) + 1) + 1) + 1) + 1) + 1) + 1 ≡ i + 8 = omega arith in subst (Passed (first_at keys) count k from) e p₈

-- the two straight pieces of a ring
module _ (keys : List ℕ) {n k a p : ℕ} (g front : ℕ) (passed : Passed (first_at keys) n k a p) (e : ℕ) where
  pub none_ahead : n ≤ g → a ≤ front + e → front + e < p → get_or keys (2 * entry_place g front e) 0 ≡ k → ⊥
  none_ahead h l m =
      let i = passed.inside in
      let z = place_short g front e (omega arith) in at keys k (2 * (front + e)) _ (omega arith) (passed.none (front + e) l m)

  pub none-turned : g ≤ front + e → a ≤ front + e - g → front + e - g < p → get_or keys (2 * entry_place g front e) 0 ≡ k → ⊥
  none-turned h l m =
      let z = place-turned g front e h in at keys k (2 * (front + e - g)) _ (omega arith) (passed.none (front + e - g) l m)
