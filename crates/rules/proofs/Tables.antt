-- Laws of a table: rows with an identity and a number, looked up by the first row that has the identity.
-- And of what is new: how many rows a list of identities makes, whatever its order.
use Rattle.std.specs.Prelude.{None, Some}
use mathlib.Core.Path.{◌≡◌, refl, sym, ◌∙◌, ap, subst, fun_ext}
use mathlib.Core.Logic.{◌⊎◌, inl, inr}
use mathlib.Core.List.{List, [], ◌∷◌}
use mathlib.Core.Bool.{Bool, true, false, ◌||◌, cond}
use Prim.Native.Nat.{ℕ, suc, ◌+◌, ◌≤◌}
use native.Mathlib.Omega.{arith}
use lib.ListN.{length}
use Rattle.rules.specs.Lists.{Each, Rising, amend, any, first, insert, maybe}
use Rattle.rules.proofs.Tests.{by_cond, either, ff≢tt, or-false-left, or-false-right}
use Rattle.rules.proofs.ListLaws.{each-imp}

pub cond_same : {A : Type 0} (b : Bool) (x : A) → cond b x x ≡ x
cond_same true x = refl
cond_same false x = refl

module _ {A : Type 0} where
  pub length-amend : (t : A → Bool) (f : A → A) (l : List A) → length (amend t f l) ≡ length l
  length-amend t f [] = refl
  length-amend t f (x ∷ xs) = by_cond (λ r. length r ≡ suc (length xs)) (t x) (λ e. refl) (λ e. ap suc (length-amend t f xs))

  pub length-insert : (lt : A → A → Bool) (x : A) (l : List A) → length (insert lt x l) ≡ suc (length l)
  length-insert lt x [] = refl
  length-insert lt x (y ∷ ys) = by_cond (λ r. length r ≡ suc (suc (length ys))) (lt x y) (λ e. refl) (λ e. ap suc (length-insert lt x ys))

  pub any-insert : (lt : A → A → Bool) (t : A → Bool) (x : A) (l : List A) → any t (insert lt x l) ≡ (t x || any t l)
  any-insert lt t x [] = refl
  any-insert lt t x (y ∷ ys) = by_cond (λ r. any t r ≡ (t x || (t y || any t ys))) (lt x y)
      (λ e. refl) (λ e. swap (t y) (t x) (any t ys) (any t (insert lt x ys)) (any-insert lt t x ys))
    where
      swap : (a b c d : Bool) → d ≡ (b || c) → (a || d) ≡ (b || (a || c))
      swap true true c d e = refl
      swap true false c d e = refl
      swap false b c d e = e

  pub each-amend : (P : A → Type 0) (t : A → Bool) (f : A → A) → ((r : A) → P r → P (f r)) → (l : List A) → Each P l → Each P (amend t f l)
  each-amend P t f g [] h = tt
  each-amend P t f g (x ∷ xs) h = by_cond (Each P) (t x) (λ e. (g x h.0, h.1)) (λ e. (h.0, each-amend P t f g xs h.1))

  pub each-insert : (P : A → Type 0) (lt : A → A → Bool) (x : A) (l : List A) → P x → Each P l → Each P (insert lt x l)
  each-insert P lt x [] p h = (p, tt)
  each-insert P lt x (y ∷ ys) p h = by_cond (Each P) (lt x y) (λ e. (p, h)) (λ e. (h.0, each-insert P lt x ys p h.1))

module _ {A I : Type 0} (id : A → I) (eq : I → I → Bool) (sound : (i j : I) → eq i j ≡ true → i ≡ j) (itself : (i : I) → eq i i ≡ true) where
  abbrev is : I → A → Bool
  is i r = eq (id r) i

  eq-sym : (i j : I) → eq i j ≡ eq j i
  eq-sym i j = go (either (eq i j)) (either (eq j i))
    where
      go : (eq i j ≡ true) ⊎ (eq i j ≡ false) → (eq j i ≡ true) ⊎ (eq j i ≡ false) → eq i j ≡ eq j i
      go (inl p) q = p ∙ sym (subst (λ x. eq j x ≡ true) (sym (sound i j p)) (itself j))
      go (inr p) (inl q) = absurd (ff≢tt p (subst (λ x. eq i x ≡ true) (sym (sound j i q)) (itself i)))
      go (inr p) (inr q) = p ∙ sym q

  pub any-amend : (f : A → A) → ((r : A) → id (f r) ≡ id r) → (i j : I) (l : List A) → any (is j) (amend (is i) f l) ≡ any (is j) l
  any-amend f h i j [] = refl
  any-amend f h i j (x ∷ xs) = by_cond (λ r. any (is j) r ≡ any (is j) (x ∷ xs)) (is i x)
      (λ e. ap (λ (z : I). eq z j || any (is j) xs) (h x)) (λ e. ap (λ (b : Bool). is j x || b) (any-amend f h i j xs))

  module _ (val : A → ℕ) where
    abbrev look : I → List A → ℕ
    look i l = maybe 0 val (first (is i) l)

    pub look_none : (i : I) (l : List A) → any (is i) l ≡ false → look i l ≡ 0
    look_none i [] e = refl
    look_none i (x ∷ xs) e = go (is i x) refl (look_none i xs (or-false-right (is i x) (any (is i) xs) e))
      where
        go : (b : Bool) → is i x ≡ b → look i xs ≡ 0 → maybe 0 val (cond b (Some x) (first (is i) xs)) ≡ 0
        go true q h = absurd (ff≢tt (or-false-left (is i x) (any (is i) xs) e) q)
        go false q h = h

    pub look-insert : (lt : A → A → Bool) (j : I) (x : A) (l : List A) → any (is (id x)) l ≡ false
        → look j (insert lt x l) ≡ cond (eq (id x) j) (val x) (look j l)
    look-insert lt j x [] e = go (eq (id x) j)
      where
        go : (b : Bool) → maybe 0 val (cond b (Some x) None) ≡ cond b (val x) 0
        go true = refl
        go false = refl
    look-insert lt j x (y ∷ ys) e = by_cond (λ r. look j r ≡ cond (eq (id x) j) (val x) (look j (y ∷ ys))) (lt x y)
        (λ q. front (eq (id x) j))
        (λ q. behind (eq (id y) j) refl (eq (id x) j) refl (look-insert lt j x ys (or-false-right (eq (id y) (id x)) (any (is (id x)) ys) e)))
      where
        front : (b : Bool) → maybe 0 val (cond b (Some x) (first (is j) (y ∷ ys))) ≡ cond b (val x) (look j (y ∷ ys))
        front true = refl
        front false = refl

        behind : (a : Bool) → eq (id y) j ≡ a → (b : Bool) → eq (id x) j ≡ b → look j (insert lt x ys) ≡ cond b (val x) (look j ys)
            → maybe 0 val (cond a (Some y) (first (is j) (insert lt x ys))) ≡ cond b (val x) (maybe 0 val (cond a (Some y) (first (is j) ys)))
        behind true p true q h = absurd (ff≢tt (or-false-left (eq (id y) (id x)) (any (is (id x)) ys) e)
            (subst (λ z. eq (id y) z ≡ true) (sound (id y) j p ∙ sym (sound (id x) j q)) (itself (id y))))
        behind true p false q h = refl
        behind false p b q h = h

    -- the first row of i changed
    pub look-amend : (f : A → A) → ((r : A) → id (f r) ≡ id r) → (i j : I) (l : List A) → any (is i) l ≡ true
        → (v : ℕ) → ((r : A) → look i l ≡ val r → val (f r) ≡ v) → look j (amend (is i) f l) ≡ cond (eq i j) v (look j l)
    look-amend f h i j [] e v k = absurd (ff≢tt refl e)
    look-amend f h i j (x ∷ xs) e v k = go (eq (id x) i) refl (eq (id x) j) refl (eq i j) refl k (λ q k'. look-amend f h i j xs q v k') e
      where
        go : (a : Bool) → eq (id x) i ≡ a → (b : Bool) → eq (id x) j ≡ b → (c : Bool) → eq i j ≡ c
            → ((r : A) → maybe 0 val (cond a (Some x) (first (is i) xs)) ≡ val r → val (f r) ≡ v)
            → (any (is i) xs ≡ true → ((r : A) → look i xs ≡ val r → val (f r) ≡ v) → look j (amend (is i) f xs) ≡ cond (eq i j) v (look j xs))
            → (a || any (is i) xs) ≡ true
            → look j (cond a (f x ∷ xs) (x ∷ amend (is i) f xs)) ≡ cond c v (maybe 0 val (cond b (Some x) (first (is j) xs)))
        go true p true q true r k' ih e' = rw (h x, q) (k' x refl)
        go true p true q false r k' ih e' = absurd (ff≢tt r (subst (λ z. eq z j ≡ true) (sound (id x) i p) q))
        go true p false q true r k' ih e' = absurd (ff≢tt q (subst (λ z. eq z j ≡ true) (sym (sound (id x) i p)) r))
        go true p false q false r k' ih e' = rw (h x, q) refl
        go false p true q true r k' ih e' = absurd (ff≢tt p (subst (λ z. eq (id x) z ≡ true) (sound (id x) j q ∙ sym (sound i j r)) (itself (id x))))
        go false p true q false r k' ih e' = rw q refl
        go false p false q c r k' ih e' = rw q (ih e' k' ∙ ap (λ (b : Bool). cond b v (look j xs)) r)

  -- a row made or changed
  abbrev pub upsert : (A → A → Bool) → I → (A → A) → A → List A → List A
  upsert lt i f new l = cond (any (is i) l) (amend (is i) f l) (insert lt new l)

  pub upsert-any : (lt : A → A → Bool) (i j : I) (f : A → A) (new : A) (l : List A) → ((r : A) → id (f r) ≡ id r) → id new ≡ i
      → any (is j) (upsert lt i f new l) ≡ (eq i j || any (is j) l)
  upsert-any lt i j f new l h e = by_cond (λ r. any (is j) r ≡ (eq i j || any (is j) l)) (any (is i) l)
      (λ q. any-amend f h i j l ∙ go (eq i j) refl q)
      (λ q. any-insert lt (is j) new l ∙ ap (λ (z : I). eq z j || any (is j) l) e)
    where
      go : (b : Bool) → eq i j ≡ b → any (is i) l ≡ true → any (is j) l ≡ (b || any (is j) l)
      go true p q = subst (λ z. any (is z) l ≡ true) (sound i j p) q
      go false p q = refl

  pub upsert-length : (lt : A → A → Bool) (i : I) (f : A → A) (new : A) (l : List A) → length (upsert lt i f new l) ≡ cond (any (is i) l) (length l) (suc (length l))
  upsert-length lt i f new l = go (any (is i) l)
    where
      go : (b : Bool) → length (cond b (amend (is i) f l) (insert lt new l)) ≡ cond b (length l) (suc (length l))
      go true = length-amend (is i) f l
      go false = length-insert lt new l

  pub upsert-look : (lt : A → A → Bool) (val : A → ℕ) (i j : I) (f : A → A) (new : A) (l : List A) (v : ℕ) → ((r : A) → id (f r) ≡ id r) → id new ≡ i
      → ((r : A) → maybe 0 val (first (is i) l) ≡ val r → val (f r) ≡ v) → (maybe 0 val (first (is i) l) ≡ 0 → val new ≡ v)
      → maybe 0 val (first (is j) (upsert lt i f new l)) ≡ cond (eq i j) v (maybe 0 val (first (is j) l))
  upsert-look lt val i j f new l v h e k z = by_cond (λ r. maybe 0 val (first (is j) r) ≡ cond (eq i j) v (maybe 0 val (first (is j) l))) (any (is i) l)
      (λ q. look-amend val f h i j l q v k)
      (λ q. look-insert val lt j new l (subst (λ y. any (is y) l ≡ false) (sym e) q)
      ∙ ap (λ (y : I). cond (eq y j) (val new) (maybe 0 val (first (is j) l))) e
      ∙ ap (λ (y : ℕ). cond (eq i j) y (maybe 0 val (first (is j) l))) (z (look_none val i l q)))

  -- rows that rise in an order that goes by their identity alone
  module _ (lt : A → A → Bool) (less : I → I → Bool) (by-id : (x y : A) → lt x y ≡ less (id x) (id y)) where
    abbrev Less : A → A → Type 0
    Less x y = lt x y ≡ true

    pub rising-amend : (f : A → A) → ((r : A) → id (f r) ≡ id r) → (i : I) (l : List A) → Rising Less l → Rising Less (amend (is i) f l)
    unfolding Rising
    rising-amend f h i [] o = tt
    rising-amend f h i (x ∷ xs) o = by_cond (Rising Less) (is i x)
        (λ e. (each-imp (Less x) (Less (f x)) (λ y k. alike (f x) x y y (h x) refl k) xs o.0, o.1))
        (λ e. (each-amend (Less x) (is i) f (λ y k. alike x x (f y) y refl (h y) k) xs o.0, rising-amend f h i xs o.1))
      where
        alike : (x x' y y' : A) → id x ≡ id x' → id y ≡ id y' → Less x' y' → Less x y
        alike x x' y y' p q k = by-id x y ∙ ap (λ (z : I). less z (id y)) p ∙ ap (λ (z : I). less (id x') z) q ∙ sym (by-id x' y') ∙ k

    module _ (trans : (i j k : I) → less i j ≡ true → less j k ≡ true → less i k ≡ true)
        (total : (i j : I) → less i j ≡ false → eq i j ≡ false → less j i ≡ true) where
      pub rising-insert : (x : A) (l : List A) → any (is (id x)) l ≡ false → Rising Less l → Rising Less (insert lt x l)
      unfolding Rising
      rising-insert x [] e o = (tt, tt)
      rising-insert x (y ∷ ys) e o = by_cond (Rising Less) (lt x y)
          (λ q. ((q, each-imp (Less y) (Less x) (λ z k. by-id x z ∙ trans (id x) (id y) (id z) (sym (by-id x y) ∙ q) (sym (by-id y z) ∙ k)) ys o.0), o))
          (λ q. (
            each-insert (Less y) lt x ys (by-id y x ∙ total (id x) (id y) (sym (by-id x y) ∙ q) (eq-sym (id x) (id y) ∙ or-false-left (is (id x) y) (any (is (id x)) ys) e)) o.0,
            rising-insert x ys (or-false-right (is (id x) y) (any (is (id x)) ys) e) o.1,
          ))

      pub rising-upsert : (i : I) (f : A → A) (new : A) (l : List A) → ((r : A) → id (f r) ≡ id r) → id new ≡ i → Rising Less l → Rising Less (upsert lt i f new l)
      rising-upsert i f new l h e o = by_cond (Rising Less) (any (is i) l) (λ q. rising-amend f h i l o)
          (λ q. rising-insert new l (subst (λ z. any (is z) l ≡ false) (sym e) q) o)

-- ---- what is new

module _ {I : Type 0} (eq : I → I → Bool) where
  -- how many of a list were not seen, each counted once
  abbrev pub news : (I → Bool) → List I → ℕ
  news seen [] = 0
  news seen (a ∷ l) = cond (seen a) (news seen l) (suc (news (λ b. eq a b || seen b) l))

  module _ (sound : (i j : I) → eq i j ≡ true → i ≡ j) (itself : (i : I) → eq i i ≡ true) where
    news-one : (a : I) (l : List I) (seen : I → Bool) → seen a ≡ false → any (λ b. eq a b) l ≡ true → suc (news (λ b. eq a b || seen b) l) ≤ news seen l
    news-one a [] seen e m = absurd (ff≢tt refl m)
    news-one a (b ∷ l) seen e m = go (eq a b) refl (seen b) refl (λ s h m'. news-one a l s h m') m
      where
        go : (x : Bool) → eq a b ≡ x → (y : Bool) → seen b ≡ y
            → ((s : I → Bool) → s a ≡ false → any (λ c. eq a c) l ≡ true → suc (news (λ c. eq a c || s c) l) ≤ news s l)
            → (x || any (λ c. eq a c) l) ≡ true
            → suc (cond (x || y) (news (λ c. eq a c || seen c) l) (suc (news (λ c. eq b c || (eq a c || seen c)) l))) ≤ cond y (news seen l) (suc (news (λ c. eq b c || seen c) l))
        go true p true q ih m' = absurd (ff≢tt e (subst (λ z. seen z ≡ true) (sym (sound a b p)) q))
        go true p false q ih m' = subst (λ z. suc (news (λ c. eq a c || seen c) l) ≤ suc (news (λ c. eq z c || seen c) l)) (sound a b p) (omega arith)
        go false p true q ih m' = ih seen e m'
        go false p false q ih m' =
            let h = ih (λ c. eq b c || seen c) (off (eq b a) refl) m' in
            let f : ◌≡◌ {A = I → Bool} (λ c. eq a c || (eq b c || seen c)) (λ c. eq b c || (eq a c || seen c)) = fun_ext (λ c. swap (eq a c) (eq b c) (seen c)) in
            let h' : suc (news (λ c. eq b c || (eq a c || seen c)) l) ≤ news (λ c. eq b c || seen c) l = subst (λ (s : I → Bool). suc (news s l) ≤ news (λ c. eq b c || seen c) l) f h in
            omega arith
          where
            swap : (u v w : Bool) → (u || (v || w)) ≡ (v || (u || w))
            swap true true w = refl
            swap true false w = refl
            swap false true w = refl
            swap false false w = refl

            off : (u : Bool) → eq b a ≡ u → (u || seen a) ≡ false
            off true z = absurd (ff≢tt p (subst (λ t. eq t b ≡ true) (sound b a z) (itself b)))
            off false z = e

    -- fewer or the same identities make no more rows
    pub news-mono : (l r : List I) (seen : I → Bool) → Each (λ a. any (λ b. eq a b) r ≡ true) l → news seen l ≤ news seen r
    news-mono [] r seen e = omega arith
    news-mono (a ∷ l) r seen e = go (seen a) refl (λ s. news-mono l r s e.1)
      where
        go : (x : Bool) → seen a ≡ x → ((s : I → Bool) → news s l ≤ news s r) → cond x (news seen l) (suc (news (λ b. eq a b || seen b) l)) ≤ news seen r
        go true p f = f seen
        go false p f = let h = f (λ b. eq a b || seen b) in let k = news-one a r seen p e.0 in omega arith

  pub news-step : (a : I) (l : List I) (seen seen' : I → Bool) (n n' : ℕ) → ((i j : I) → eq i j ≡ true → i ≡ j)
      → ((j : I) → seen' j ≡ (eq a j || seen j)) → n' ≡ cond (seen a) n (suc n) → n' + news seen' l ≡ n + news seen (a ∷ l)
  news-step a l seen seen' n n' sound f e =
      let q : seen' ≡ (λ j. eq a j || seen j) = fun_ext f in
      let q' : news seen' l ≡ news (λ j. eq a j || seen j) l = ap (λ (s : I → Bool). news s l) q in
      go (seen a) refl e q'
    where
      go : (b : Bool) → seen a ≡ b → n' ≡ cond b n (suc n) → news seen' l ≡ news (λ j. eq a j || seen j) l → n' + news seen' l ≡ n + cond b (news seen l) (suc (news (λ j. eq a j || seen j) l))
      go true p r q = let t : news (λ j. eq a j || seen j) l ≡ news seen l = ap (λ (s : I → Bool). news s l) (fun_ext (λ j. dup j (eq a j) refl)) in omega arith
        where
          dup : (j : I) (b : Bool) → eq a j ≡ b → (b || seen j) ≡ seen j
          dup j true z = sym (subst (λ y. seen y ≡ true) (sound a j z) p)
          dup j false z = refl
      go false p r q = omega arith
