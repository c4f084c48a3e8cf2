-- A text of the grammar is read to its end, with its first fault; and reading ends in one way.
use Rattle.std.specs.Prelude.{None, Option, Some}
use mathlib.Core.Path.{◌≡◌, refl, ◌∙◌, ap, subst}
use mathlib.Core.Bool.{Bool, true, false}
use mathlib.Core.List.{List, [], ◌∷◌, ◌++◌}
use Prim.Native.Nat.{ℕ, suc}
use native.Mathlib.Omega.{arith}
use lib.ListN.{length}
use Rattle.json_text.specs.Bytes.{within, is_ws, is_digit}
use Rattle.json_text.specs.Numbers.{Number}
use Rattle.json_text.specs.Grammar.{Ws, Chars, Name, Val, MoreItems, end_array, next_item, MoreMembers, end_object, next_member, Text, text}
use Rattle.json_text.specs.Grammar.{a_null, a_true, a_false, a_number, a_string, empty_array, an_array, empty_object, an_object}
use Rattle.json_text.specs.Refusals.{number_fault, depth_fault, first, fault, items_fault, members_fault}
use Rattle.json_check.specs.Runs.{State, value, after, go, Run, ended, stopped, goes, start, next}
use Rattle.json_check.specs.Runs.{in_array, in_object, of_string, of_number, of_literal, of_value, after_item, after_member, of_after}
use Rattle.json_text.specs.Values.{Value, Items, Members}
use Rattle.json_text.specs.Work.{byte_at, skip_ws, up_to, word_rest, literal_rest}
use Rattle.json_text.proofs.Spaces.{ws-skips, skip-front}
use Rattle.json_text.proofs.CharsLaws.{chars_rest_lem}
use Rattle.json_text.proofs.NumberLaws.{number-rest, number-front, up-to-append}
use Rattle.json_text.specs.Work.{goes_on}
use Rattle.json_text.proofs.NameLaws.{name-rest}
use Rattle.json_text.proofs.Fronts.{name-mark, ws-ends, items-ends, members-ends}
use Rattle.json_check.proofs.Fronts.{first-zero, first-assoc, apart, numeric, val-front}

-- ---- the steps
-- behind ws stands what follows it
skips-to : {s t : List ℕ} → Ws s t → is_ws (byte_at t 0) ≡ false → skip_ws s ≡ t
skips-to {t} w h = ws-skips w ∙ skip-front t h

-- in front of a value
skips-val : {s t r : List ℕ} {v : Value} → Ws s t → Val t v r → skip_ws s ≡ t
skips-val w v = skips-to w (val-front v).no-space

skips-name : {s t x r : List ℕ} → Ws s t → Name t x r → skip_ws s ≡ t
unfolding is_ws
skips-name w n = skips-to w (rw (name-mark n))

module _ (k : List Bool) (g : ℕ) where
  number_step :
      {s r : List ℕ} (x : List ℕ) →
      Number s r → s ≡ x ++ r → goes_on (byte_at r 0) ≡ false → next (value k s g) ≡ go (after k r (first g (number_fault x)))
  unfolding next of_value of_number numeric is_digit within
  number_step {s} {r} x n e h =
      let f : numeric (byte_at s 0) ≡ true = number-front n in
      let u : up_to r s ≡ x = ap (up_to r) e ∙ up-to-append x r in
      rw (apart numeric (byte_at s 0) 0x22 f refl, number-front n, number-rest n h, u)

  string-step : {s x r : List ℕ} → Chars s x r → next (value k (0x22 ∷ s) g) ≡ go (after k r g)
  unfolding next of_value of_string
  string-step c = rw (chars_rest_lem c)

  empty-array-step :
      {s r : List ℕ} → Ws s (0x5D ∷ r) → next (value k (0x5B ∷ s) g) ≡ go (after k r (first g (depth_fault (length k))))
  unfolding next of_value in_array is_ws is_digit within
  empty-array-step w = rw (skips-to w refl)

  array-step :
      {s t r : List ℕ} {v : Value} →
      Ws s t → Val t v r → next (value k (0x5B ∷ s) g) ≡ go (value (true ∷ k) t (first g (depth_fault (length k))))
  unfolding next of_value in_array is_digit within
  array-step w v = rw (skips-val w v, (val-front v).no-bracket)

  empty-object-step :
      {s r : List ℕ} → Ws s (0x7D ∷ r) → next (value k (0x7B ∷ s) g) ≡ go (after k r (first g (depth_fault (length k))))
  unfolding next of_value in_object is_ws is_digit within
  empty-object-step w = rw (skips-to w refl)

  object-step :
      {s t x u r : List ℕ} {v : Value} →
      Ws s t → Name t x u → Val u v r → next (value k (0x7B ∷ s) g) ≡ go (value (false ∷ k) u (first g (depth_fault (length k))))
  unfolding next of_value in_object is_digit within
  object-step w n v = rw (skips-name w n, name-mark n, name-rest n (val-front v).no-space)

  end-array-step : {s r : List ℕ} → Ws s (0x5D ∷ r) → next (after (true ∷ k) s g) ≡ go (after k r g)
  unfolding next of_after after_item is_ws
  end-array-step w = rw (skips-to w refl)

  item-step :
      {s t u r : List ℕ} {v : Value} →
      Ws s (0x2C ∷ t) → Ws t u → Val u v r → next (after (true ∷ k) s g) ≡ go (value (true ∷ k) u g)
  unfolding next of_after after_item is_ws
  item-step w x v = rw (skips-to w refl, skips-val x v)

  end-object-step : {s r : List ℕ} → Ws s (0x7D ∷ r) → next (after (false ∷ k) s g) ≡ go (after k r g)
  unfolding next of_after after_member is_ws
  end-object-step w = rw (skips-to w refl)

  member-step :
      {s t u x w r : List ℕ} {v : Value} →
      Ws s (0x2C ∷ t) → Ws t u → Name u x w → Val w v r → next (after (false ∷ k) s g) ≡ go (value (false ∷ k) w g)
  unfolding next of_after after_member is_ws
  member-step w y n v = rw (skips-to w refl, skips-name y n, name-rest n (val-front v).no-space)

-- ---- a value, and what follows one in an array or an object
mutual
  unfolding next of_value of_literal literal_rest word_rest is_digit within fault items_fault members_fault

  runs-val :
      {s r : List ℕ} {v : Value} →
      Val s v r → (k : List Bool) (g : ℕ) (o : Option ℕ) → goes_on (byte_at r 0) ≡ false →
      Run (after k r (first g (fault (length k) v))) o → Run (value k s g) o
  runs-val a_null k g o h x = goes refl (rw first-zero at x)
  runs-val a_true k g o h x = goes refl (rw first-zero at x)
  runs-val a_false k g o h x = goes refl (rw first-zero at x)
  runs-val (a_number {x = y} n e) k g o h x = goes (number_step k g y n e h) x
  runs-val (a_string c) k g o h x = goes (string-step k g c) (rw first-zero at x)
  runs-val (empty_array w) k g o h x = goes (empty-array-step k g w) (simp first-zero at x)
  runs-val (an_array w v m) k g o h x =
      goes (array-step k g w v)
      (runs-val v (true ∷ k) _ o (items-ends m)
      (runs-items m k _ o (simp first-assoc x)))
  runs-val (empty_object w) k g o h x = goes (empty-object-step k g w) (simp first-zero at x)
  runs-val (an_object w n v m) k g o h x =
      goes (object-step k g w n v)
      (runs-val v (false ∷ k) _ o (members-ends m)
      (runs-members m k _ o (simp first-assoc x)))

  runs-items :
      {s r : List ℕ} {vs : Items} →
      MoreItems s vs r → (k : List Bool) (g : ℕ) (o : Option ℕ) →
      Run (after k r (first g (items_fault (suc (length k)) vs))) o → Run (after (true ∷ k) s g) o
  runs-items (end_array w) k g o x = goes (end-array-step k g w) (rw first-zero at x)
  runs-items (next_item w y v m) k g o x =
      goes (item-step k g w y v)
      (runs-val v (true ∷ k) g o (items-ends m)
      (runs-items m k _ o (simp first-assoc x)))

  runs-members :
      {s r : List ℕ} {ms : Members} →
      MoreMembers s ms r → (k : List Bool) (g : ℕ) (o : Option ℕ) →
      Run (after k r (first g (members_fault (suc (length k)) ms))) o → Run (after (false ∷ k) s g) o
  runs-members (end_object w) k g o x = goes (end-object-step k g w) (rw first-zero at x)
  runs-members (next_member w y n v m) k g o x =
      goes (member-step k g w y n v)
      (runs-val v (false ∷ k) g o (members-ends m)
      (runs-members m k _ o (simp first-assoc x)))

-- ---- a text
pub text-runs : {t : List ℕ} {v : Value} → Text t v → Run (start t) (Some (fault 0 v))
unfolding next of_after first goes_on is_digit within skip_ws
text-runs (text w v z) =
    rw (skips-val w v) (runs-val v [] 0 _ (ws-ends z refl) (ended (rw (ws-skips z))))

-- ---- one end
pub run-one : {q : State} {o p : Option ℕ} → Run q o → Run q p → o ≡ p
run-one (ended e) (ended f) = cc
run-one (ended e) (stopped f) = cc
run-one (ended e) (goes f b) = cc
run-one (stopped e) (ended f) = cc
run-one (stopped e) (stopped f) = refl
run-one (stopped e) (goes f b) = cc
run-one (goes e a) (ended f) = cc
run-one (goes e a) (stopped f) = cc
run-one (goes {p = x} {o = o} e a) (goes {p = y} {o = p} f b) =
    let z : y ≡ x = cc in run-one a (subst (λ (s : State). Run s p) z b)

pub runs_none : (t : List ℕ) → Run (start t) None → (v : Value) → Text t v → ⊥
runs_none t r v x =
    let e : None ≡ Some (fault 0 v) = run-one r (text-runs x) in
    let z : ◌≡◌ {A = ℕ} 0 1 = cc in omega arith
