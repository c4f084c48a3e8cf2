-- Laws of the two print tables: what is in them, their lengths, counts and order after a print, an apply, an expiry.
use Rattle.std.specs.Prelude.{Some}
use mathlib.Core.Path.{◌≡◌, refl, sym, ◌∙◌, ap}
use mathlib.Core.List.{List, [], ◌∷◌}
use mathlib.Core.Bool.{Bool, true, false, ◌&&◌, ◌||◌, cond}
use Prim.Native.Nat.{ℕ, suc, ◌≤◌, ◌<◌}
use native.Mathlib.Omega.{arith}
use lib.Dec.{eqb}
use lib.ListN.{length}
use Rattle.rules.specs.Lists.{Each, Rising, amend, any, first, maybe}
use Rattle.rules.specs.Quantities.{Key, same}
use Rattle.rules.specs.Prints.{CountRow, KeyRow, applied_in, before, count_before, deliver, delivered_in, key_before, of_key, of_pair, set_applied, touch, touched_in}
use Rattle.rules.specs.Sound.{CountLess, KeyLess}
use Rattle.rules.proofs.Tests.{by_cond}
use Rattle.rules.proofs.Order.{before-total, before-trans, pair_before, pair_before-total, pair_before-trans, same-itself, same_true, same_pair, same_pair-itself, same_pair-true}
use Rattle.rules.proofs.Tables.{any-amend, each-amend, each-insert, length-amend, look-amend, rising-amend, rising-upsert, upsert-any, upsert-length, upsert-look}

key_id : KeyRow → Key
key_id r = r.key

count_id : CountRow → Key × ℕ
count_id r = (r.key, r.conn)

-- ---- touch

touched : ℕ → KeyRow → KeyRow
touched now r = record { key = r.key; applied = r.applied; touched = now }

new_key : Key → ℕ → KeyRow
new_key k now = record { key = k; applied = 0; touched = now }

module _ (k : Key) (now : ℕ) (rs : List KeyRow) where
  pub touch-any : (j : Key) → any (of_key j) (touch k now rs) ≡ (same k j || any (of_key j) rs)
  unfolding key_id touched new_key
  touch-any j = upsert-any key_id same same_true same-itself key_before k j (touched now) (new_key k now) rs (λ r. refl) refl

  pub touch-length : length (touch k now rs) ≡ cond (any (of_key k) rs) (length rs) (suc (length rs))
  unfolding key_id touched new_key
  touch-length = upsert-length key_id same same_true same-itself key_before k (touched now) (new_key k now) rs

  pub touch-applied : (j : Key) → applied_in j (touch k now rs) ≡ applied_in j rs
  unfolding key_id touched new_key
  touch-applied j =
      upsert-look key_id same same_true same-itself key_before (λ r. r.applied) k j (touched now) (new_key k now) rs (applied_in k rs)
      (λ r. refl) refl (λ r q. sym q) (λ q. sym q)
      ∙ go (same k j) refl
    where
      go : (b : Bool) → same k j ≡ b → cond b (applied_in k rs) (applied_in j rs) ≡ applied_in j rs
      go true e = ap (λ (z : Key). applied_in z rs) (same_true k j e)
      go false e = refl

  pub touch-touched : (j : Key) → touched_in j (touch k now rs) ≡ cond (same k j) now (touched_in j rs)
  unfolding key_id touched new_key
  touch-touched j = upsert-look key_id same same_true same-itself key_before (λ r. r.touched) k j (touched now) (new_key k now) rs now
      (λ r. refl) refl (λ r q. refl) (λ q. refl)

  pub touch-rises : Rising KeyLess rs → Rising KeyLess (touch k now rs)
  unfolding key_id touched new_key
  touch-rises o = rising-upsert key_id same same_true same-itself key_before before (λ x y. refl) before-trans before-total k (touched now) (new_key k now) rs (λ r. refl) refl o

  pub touch-each : (P : KeyRow → Type 0) → ((r : KeyRow) → P r → P (record { key = r.key; applied = r.applied; touched = now }))
      → P (record { key = k; applied = 0; touched = now }) → Each P rs → Each P (touch k now rs)
  touch-each P f p h = by_cond (Each P) (any (of_key k) rs) (λ e. each-amend P (of_key k) (λ r. record { key = r.key; applied = r.applied; touched = now }) f rs h) (λ e. each-insert P key_before (record { key = k; applied = 0; touched = now }) rs p h)

-- ---- set_applied

applied_at : ℕ → KeyRow → KeyRow
applied_at d r = record { key = r.key; applied = d; touched = r.touched }

module _ (k : Key) (d : ℕ) (rs : List KeyRow) where
  pub set_applied-applied : (j : Key) → any (of_key k) rs ≡ true → applied_in j (set_applied k d rs) ≡ cond (same k j) d (applied_in j rs)
  unfolding key_id applied_at
  set_applied-applied j e = look-amend key_id same same_true same-itself (λ r. r.applied) (applied_at d) (λ r. refl) k j rs e d (λ r q. refl)

  pub set_applied-touched : (j : Key) → any (of_key k) rs ≡ true → touched_in j (set_applied k d rs) ≡ touched_in j rs
  unfolding key_id applied_at
  set_applied-touched j e =
      look-amend key_id same same_true same-itself (λ r. r.touched) (applied_at d) (λ r. refl) k j rs e (touched_in k rs) (λ r q. sym q)
      ∙ go (same k j) refl
    where
      go : (b : Bool) → same k j ≡ b → cond b (touched_in k rs) (touched_in j rs) ≡ touched_in j rs
      go true q = ap (λ (z : Key). touched_in z rs) (same_true k j q)
      go false q = refl

  pub set_applied-any : (j : Key) → any (of_key j) (set_applied k d rs) ≡ any (of_key j) rs
  unfolding key_id applied_at
  set_applied-any j = any-amend key_id same same_true same-itself (applied_at d) (λ r. refl) k j rs

  pub set_applied-length : length (set_applied k d rs) ≡ length rs
  unfolding applied_at
  set_applied-length = length-amend (of_key k) (applied_at d) rs

  pub set_applied-rises : Rising KeyLess rs → Rising KeyLess (set_applied k d rs)
  unfolding key_id applied_at
  set_applied-rises o = rising-amend key_id same same_true same-itself key_before before (λ x y. refl) (applied_at d) (λ r. refl) k rs o

  pub set_applied-each : (P : KeyRow → Type 0) → ((r : KeyRow) → P r → P (record { key = r.key; applied = d; touched = r.touched })) → Each P rs → Each P (set_applied k d rs)
  set_applied-each P f h = each-amend P (of_key k) (λ r. record { key = r.key; applied = d; touched = r.touched }) f rs h

-- ---- deliver

one_more : CountRow → CountRow
one_more r = record { key = r.key; conn = r.conn; delivered = suc r.delivered }

new_count : Key → ℕ → CountRow
new_count k c = record { key = k; conn = c; delivered = 1 }

module _ (k : Key) (c : ℕ) (rs : List CountRow) where
  pub deliver-any : (q : Key × ℕ) → any (of_pair q.0 q.1) (deliver k c rs) ≡ (same_pair (k, c) q || any (of_pair q.0 q.1) rs)
  unfolding count_id one_more new_count
  deliver-any q = upsert-any count_id same_pair same_pair-true same_pair-itself count_before (k, c) q one_more (new_count k c) rs (λ r. refl) refl

  pub deliver-length : length (deliver k c rs) ≡ cond (any (of_pair k c) rs) (length rs) (suc (length rs))
  unfolding count_id one_more new_count
  deliver-length = upsert-length count_id same_pair same_pair-true same_pair-itself count_before (k, c) one_more (new_count k c) rs

  pub deliver-delivered : (j : Key) (e : ℕ) → delivered_in j e (deliver k c rs) ≡ cond (same k j && eqb c e) (suc (delivered_in k c rs)) (delivered_in j e rs)
  unfolding count_id one_more new_count
  deliver-delivered j e = upsert-look count_id same_pair same_pair-true same_pair-itself count_before (λ r. r.delivered) (k, c) (j, e) one_more (new_count k c) rs
      (suc (delivered_in k c rs)) (λ r. refl) refl (λ r q. ap suc (sym q)) (λ q. ap suc (sym q))

  pub deliver-rises : Rising CountLess rs → Rising CountLess (deliver k c rs)
  unfolding count_id one_more new_count
  deliver-rises o = rising-upsert count_id same_pair same_pair-true same_pair-itself count_before pair_before (λ x y. refl) pair_before-trans pair_before-total (k, c) one_more (new_count k c) rs (λ r. refl) refl o

  pub deliver-each : (P : CountRow → Type 0) → ((r : CountRow) → P r → P (record { key = r.key; conn = r.conn; delivered = suc r.delivered }))
      → P (record { key = k; conn = c; delivered = 1 }) → Each P rs → Each P (deliver k c rs)
  deliver-each P f p h = by_cond (Each P) (any (of_pair k c) rs) (λ e. each-amend P (of_pair k c) (λ r. record { key = r.key; conn = r.conn; delivered = suc r.delivered }) f rs h) (λ e. each-insert P count_before (record { key = k; conn = c; delivered = 1 }) rs p h)

-- one count rises, and it is below n
pub deliver-small : (k : Key) (c : ℕ) (rs : List CountRow) {n : ℕ} → delivered_in k c rs < n → Each (λ r. r.delivered ≤ n) rs → Each (λ r. r.delivered ≤ n) (deliver k c rs)
deliver-small k c rs {n} lt h = by_cond (Each Small) (any (of_pair k c) rs) (λ e. raised rs lt h) (λ e. each-insert Small count_before (record { key = k; conn = c; delivered = 1 }) rs (omega arith) h)
  where
    Small : CountRow → Type 0
    Small r = r.delivered ≤ n

    up : CountRow → CountRow
    up r = record { key = r.key; conn = r.conn; delivered = suc r.delivered }

    raised : (rs : List CountRow) → delivered_in k c rs < n → Each Small rs → Each Small (amend (of_pair k c) up rs)
    raised [] t e = tt
    raised (x ∷ xs) t e = go (of_pair k c x) t (λ u. raised xs u e.1)
      where
        go : (b : Bool) → maybe 0 (λ y. y.delivered) (cond b (Some x) (first (of_pair k c) xs)) < n → (delivered_in k c xs < n → Each Small (amend (of_pair k c) up xs))
            → Each Small (cond b (up x ∷ xs) (x ∷ amend (of_pair k c) up xs))
        go true u ih = (u, e.1)
        go false u ih = (e.0, ih u)
