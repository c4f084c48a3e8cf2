-- Laws of a view's reading: what an answer says of a number.
use Rattle.std.specs.Prelude.{None, Some}
use mathlib.Core.Path.{◌≡◌, refl, ap, ◌∙◌}
use mathlib.Core.Bool.{Bool}
use mathlib.Core.List.{List, [], ◌∷◌, map}
use mathlib.Core.Logic.{◌⊎◌, ⊎_elim, inl, inr}
use Prim.Native.Nat.{ℕ, ◌-◌, ◌≤◌, ◌<◌}
use Rattle.rules.specs.Quantities.{Key, same}
use Rattle.rules.specs.Log.{keys, key_at}
use Rattle.words.proofs.Cases.{below_or}
use Rattle.event_log.specs.Log.{key_in, entry_place, keys_of}
use Rattle.event_log.specs.Answers.{match_answer}
use Rattle.event_log.proofs.Search.{number-before, number_in, number_past}
use Rattle.log_borrowed.specs.View.{view_of}

keys-back : (ks : List Key) → map (λ (e : Key × ℕ). e.0) (map (λ (k : Key). (k, 0)) ks) ≡ ks
keys-back [] = refl
keys-back (k ∷ ks) = ap {B = List Key} (λ l. k ∷ l) (keys-back ks)

-- the view of `count` entries from place `front` on, numbered from base, in words that begin with the g keys of a ring
module _ (w : List ℕ) (base count front g : ℕ) where
  abbrev key_of : ℕ → Key
  key_of i = key_in w (entry_place g front i)

  pub view-keys : keys (view_of w base count front g) ≡ keys_of g front count w
  view-keys = keys-back (keys_of g front count w)

  module _ (n : ℕ) where
    pub view-before : n < base → key_at n (view_of w base count front g) ≡ None
    view-before = number-before (view_of w base count front g) n

    pub view_in : base ≤ n → n - base < count → key_at n (view_of w base count front g) ≡ Some (key_in w (entry_place g front (n - base)))
    view_in = number_in (view_of w base count front g) count key_of view-keys n

    pub view-past : base ≤ n → count ≤ n - base → key_at n (view_of w base count front g) ≡ None
    view-past = number_past (view_of w base count front g) count key_of view-keys n

    -- base and behind it: the number is in the log, or past its end
    cases : base ≤ n → ((n - base < count) × (key_at n (view_of w base count front g) ≡ Some (key_of (n - base))))
        ⊎ ((count ≤ n - base) × (key_at n (view_of w base count front g) ≡ None))
    cases b = ⊎_elim (λ l. inl (l, view_in b l)) (λ l. inr (l, view-past b l)) (below_or (n - base) count)

    -- what an answer says of a number from base on
    module _ (b : base ≤ n) where
      pub key-said : (k : Key) → Some k ≡ key_at n (view_of w base count front g)
          → (n - base < count) × (k ≡ key_in w (entry_place g front (n - base)))
      key-said k e =
          ⊎_elim
          (λ c. (c.0, let z = e ∙ c.1 in cc))
          (λ c. absurd (let z = e ∙ c.1 in cc))
          (cases b)

      pub nowhere-said : None ≡ key_at n (view_of w base count front g) → count ≤ n - base
      nowhere-said e =
          ⊎_elim
          (λ c. absurd (let z = e ∙ c.1 in cc))
          (λ c. c.0)
          (cases b)

      pub match-said : (k : Key) (m : Bool) → Some m ≡ match_answer k (key_at n (view_of w base count front g))
          → (n - base < count) × (same (key_in w (entry_place g front (n - base))) k ≡ m)
      match-said k m e =
          ⊎_elim
          (λ c. (c.0, let q : Some m ≡ match_answer k (Some (key_of (n - base))) = rw c.1 at e in cc))
          (λ c. absurd (let q : Some m ≡ match_answer k None = rw c.1 at e in cc))
          (cases b)

      pub end-said : (k : Key) → None ≡ match_answer k (key_at n (view_of w base count front g)) → count ≤ n - base
      end-said k e =
          ⊎_elim
          (λ c. absurd (let q : None ≡ match_answer k (Some (key_of (n - base))) = rw c.1 at e in cc))
          (λ c. c.0)
          (cases b)
