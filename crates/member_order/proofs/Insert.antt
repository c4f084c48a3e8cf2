-- Places put into places that lie in order.
use mathlib.Core.Path.{◌≡◌, refl, sym, ◌∙◌, ap}
use mathlib.Core.Bool.{true}
use mathlib.Core.List.{List, [], ◌∷◌, ◌++◌}
use Prim.Native.Nat.{ℕ, zero, suc, ◌<◌, suc-le-suc}
use native.Mathlib.Nat.{not-suc-le-zero, le_of_suc-le-suc}
use native.Mathlib.Omega.{arith}
use lib.ListN.{length, get_or}
use Rattle.json_text.specs.Content.{before}
use Rattle.member_order.specs.Order.{insert, insert_all, ordered}
use Rattle.member_order.proofs.Before.{before-not-itself, before-trans, before-not-after, Lies, lies, first, later, same}

-- P holds of each
abbrev pub Each : (ℕ → Type 0) → List ℕ → Type 0
Each P x = (i : ℕ) → i < length x → P (get_or x i 0)

module _ (P : ℕ → Type 0) where
  pub each_nil : Each P []
  each_nil i h = absurd (not-suc-le-zero h)

  pub each-cons : (p : ℕ) (x : List ℕ) → P p → Each P x → Each P (p ∷ x)
  each-cons p x a f zero h = a
  each-cons p x a f (suc i) h = f i (le_of_suc-le-suc h)

  pub each-head : (p : ℕ) (x : List ℕ) → Each P (p ∷ x) → P p
  each-head p x f = f 0 (omega arith)

  pub each_tail : (p : ℕ) (x : List ℕ) → Each P (p ∷ x) → Each P x
  each_tail p x f i h = f (suc i) (suc-le-suc h)

cons : {p : ℕ} {x y : List ℕ} → x ≡ y → p ∷ x ≡ p ∷ y
cons {p} q = λ i. p ∷ q i

module _ (name : ℕ → List ℕ) where
  -- ---- one place, by how it lies to the first
  pub insert-first : (p q : ℕ) (x : List ℕ) → before (name p) (name q) ≡ true → insert name p (q ∷ x) ≡ p ∷ q ∷ x
  unfolding insert
  insert-first p q x h = rw h

  pub insert-later : (p q : ℕ) (x : List ℕ) → before (name q) (name p) ≡ true → insert name p (q ∷ x) ≡ q ∷ insert name p x
  unfolding insert
  insert-later p q x h = rw (before-not-after (name q) (name p) h, h)

  pub insert-same : (p q : ℕ) (x : List ℕ) → name p ≡ name q → insert name p (q ∷ x) ≡ q ∷ x
  unfolding insert
  insert-same p q x h = rw (h, before-not-itself (name q))

  -- ---- two places, one behind the other
  pub insert-swap : (p r : ℕ) (x : List ℕ) → before (name r) (name p) ≡ true
      → insert name p (insert name r x) ≡ insert name r (insert name p x)
  unfolding insert
  insert-swap p r [] h = insert-later p r [] h ∙ sym (insert-first r p [] h)
  insert-swap p r (q ∷ x) h = go (lies (name r) (name q)) (insert-swap p r x h)
    where
      go : Lies (name r) (name q) → insert name p (insert name r x) ≡ insert name r (insert name p x)
          → insert name p (insert name r (q ∷ x)) ≡ insert name r (insert name p (q ∷ x))
      go (first k) ih = go₂ (lies (name p) (name q))
        where
          go₂ : Lies (name p) (name q) → insert name p (insert name r (q ∷ x)) ≡ insert name r (insert name p (q ∷ x))
          go₂ (first l) =
              ap (insert name p) (insert-first r q x k)
              ∙ insert-later p r (q ∷ x) h
              ∙ cons (insert-first p q x l)
              ∙ sym (ap (insert name r) (insert-first p q x l) ∙ insert-first r p (q ∷ x) h)
          go₂ (same l) =
              ap (insert name p) (insert-first r q x k)
              ∙ insert-later p r (q ∷ x) h
              ∙ cons (insert-same p q x l)
              ∙ sym (ap (insert name r) (insert-same p q x l) ∙ insert-first r q x k)
          go₂ (later l) =
              ap (insert name p) (insert-first r q x k)
              ∙ insert-later p r (q ∷ x) h
              ∙ cons (insert-later p q x l)
              ∙ sym (ap (insert name r) (insert-later p q x l) ∙ insert-first r q (insert name p x) k)
      go (same k) ih =
          let l : before (name q) (name p) ≡ true = rw k at h in
          ap (insert name p) (insert-same r q x k)
          ∙ insert-later p q x l
          ∙ sym (ap (insert name r) (insert-later p q x l) ∙ insert-same r q (insert name p x) k)
      go (later k) ih =
          let l : before (name q) (name p) ≡ true = before-trans (name q) (name r) (name p) k h in
          ap (insert name p) (insert-later r q x k)
          ∙ insert-later p q (insert name r x) l
          ∙ cons ih
          ∙ sym (ap (insert name r) (insert-later p q x l) ∙ insert-later r q (insert name p x) k)

  pub insert-again : (p r : ℕ) (x : List ℕ) → name p ≡ name r → insert name p (insert name r x) ≡ insert name r x
  unfolding insert
  insert-again p r [] h = insert-same p r [] h
  insert-again p r (q ∷ x) h = go (lies (name r) (name q)) (insert-again p r x h)
    where
      go : Lies (name r) (name q) → insert name p (insert name r x) ≡ insert name r x
          → insert name p (insert name r (q ∷ x)) ≡ insert name r (q ∷ x)
      go (first k) ih = rw (insert-first r q x k) (insert-same p r (q ∷ x) h)
      go (same k) ih = rw (insert-same r q x k) (insert-same p q x (h ∙ k))
      go (later k) ih =
          let l : before (name q) (name p) ≡ true = rw h k in
          rw (insert-later r q x k) (insert-later p q (insert name r x) l ∙ cons ih)

  -- ---- all of them
  pub insert_all-insert : (p : ℕ) (x y : List ℕ) → insert_all name (insert name p x) y ≡ insert name p (insert_all name x y)
  unfolding insert insert_all
  insert_all-insert p [] y = refl
  insert_all-insert p (r ∷ x) y = go (lies (name p) (name r)) (insert_all-insert p x y)
    where
      go : Lies (name p) (name r) → insert_all name (insert name p x) y ≡ insert name p (insert_all name x y)
          → insert_all name (insert name p (r ∷ x)) y ≡ insert name p (insert name r (insert_all name x y))
      go (first k) ih = rw (insert-first p r x k)
      go (same k) ih = rw (insert-same p r x k) (sym (insert-again p r (insert_all name x y) k))
      go (later k) ih = rw (insert-later p r x k) (ap (insert name r) ih ∙ sym (insert-swap p r (insert_all name x y) k))

  pub insert_all-append : (x y z : List ℕ) → insert_all name (x ++ y) z ≡ insert_all name x (insert_all name y z)
  unfolding insert_all
  insert_all-append [] y z = refl
  insert_all-append (p ∷ x) y z = ap (insert name p) (insert_all-append x y z)

  pub insert_all-ordered : (x y : List ℕ) → insert_all name (ordered name x) y ≡ insert_all name x y
  unfolding insert_all
  insert_all-ordered [] y = refl
  insert_all-ordered (p ∷ x) y = insert_all-insert p (ordered name x) y ∙ ap (insert name p) (insert_all-ordered x y)

  -- two parts, each in order, the first put into the second
  pub ordered-append : (x y : List ℕ) → ordered name (x ++ y) ≡ insert_all name (ordered name x) (ordered name y)
  ordered-append x y = insert_all-append x y [] ∙ sym (insert_all-ordered x (ordered name y))

  -- ---- which
  pub each-insert : (P : ℕ → Type 0) (p : ℕ) (x : List ℕ) → P p → Each P x → Each P (insert name p x)
  unfolding insert
  each-insert P p [] a f = each-cons P p [] a f
  each-insert P p (q ∷ x) a f = go (lies (name p) (name q)) (each-insert P p x a (each_tail P q x f))
    where
      go : Lies (name p) (name q) → Each P (insert name p x) → Each P (insert name p (q ∷ x))
      go (first k) ih = rw (insert-first p q x k) (each-cons P p (q ∷ x) a f)
      go (same k) ih = rw (insert-same p q x k) f
      go (later k) ih = rw (insert-later p q x k) (each-cons P q (insert name p x) (each-head P q x f) ih)

  pub each-insert_all : (P : ℕ → Type 0) (x y : List ℕ) → Each P x → Each P y → Each P (insert_all name x y)
  unfolding insert_all
  each-insert_all P [] y f g = g
  each-insert_all P (p ∷ x) y f g =
      each-insert P p (insert_all name x y) (each-head P p x f) (each-insert_all P x y (each_tail P p x f) g)

  pub each-ordered : (P : ℕ → Type 0) (x : List ℕ) → Each P x → Each P (ordered name x)
  each-ordered P x f = each-insert_all P x [] f (each_nil P)

-- ---- only the names of these places are looked at
module _ (f g : ℕ → List ℕ) where
  insert-same-names :
      (p : ℕ) (x : List ℕ) → f p ≡ g p → Each (λ q. f q ≡ g q) x → insert f p x ≡ insert g p x
  unfolding insert
  insert-same-names p [] a e = refl
  insert-same-names p (q ∷ x) a e =
      rw (a, each-head (λ q. f q ≡ g q) q x e, insert-same-names p x a (each_tail (λ q. f q ≡ g q) q x e))

  pub ordered_same : (qs : List ℕ) → ((i : ℕ) → i < length qs → f (get_or qs i 0) ≡ g (get_or qs i 0)) → ordered f qs ≡ ordered g qs
  unfolding insert_all
  ordered_same [] e = refl
  ordered_same (p ∷ x) e =
      let P : ℕ → Type 0 = λ q. f q ≡ g q in
      let rest : Each P x = each_tail P p x e in
      insert-same-names p (ordered f x) (each-head P p x e) (each-insert_all f P x [] rest (each_nil P))
      ∙ ap (insert g p) (ordered_same x rest)
