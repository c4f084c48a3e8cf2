-- What is read to its end is a text of the grammar.
use Rattle.std.specs.Prelude.{None, Option, Some}
use mathlib.Core.Path.{◌≡◌, refl, sym, subst}
use mathlib.Core.Bool.{Bool, true, false, ◌||◌, cond}
use mathlib.Core.List.{List, [], ◌∷◌}
use Prim.Native.Nat.{ℕ, suc}
use lib.Dec.{eqb}
use lib.ListN.{length, drop}
use Rattle.json_text.specs.Bytes.{is_digit}
use Rattle.json_text.specs.Grammar.{Ws, Val, MoreItems, end_array, next_item, MoreMembers, end_object, next_member, Text, text}
use Rattle.json_text.specs.Grammar.{a_number, a_string, empty_array, an_array, empty_object, an_object}
use Rattle.json_text.specs.Refusals.{number_fault, depth_fault, first, fault, items_fault, members_fault}
use Rattle.json_check.specs.Runs.{State, value, after, Next, go, done, bad, onward, no_more, Run, ended, goes, start, next}
use Rattle.json_check.specs.Runs.{in_array, in_object, of_string, of_number, of_literal, of_value, after_item, after_member, of_after}
use Rattle.json_text.specs.Values.{Value, number, string, array, object}
use Rattle.json_text.specs.Values.{Items, no_items, item, Members, no_members, member}
use Rattle.json_text.specs.Work.{byte_at, skip_ws, up_to, literal_rest, name_rest, number_rest, chars_rest}
use Rattle.json_text.proofs.Spaces.{skips-ws}
use Rattle.json_text.proofs.CharsLaws.{rest-chars}
use Rattle.json_text.proofs.NumberLaws.{rest-number, number_read}
use Rattle.json_text.proofs.NameLaws.{rest-name}
use Rattle.json_check.proofs.Fronts.{first-zero, first-assoc, begins}
use Rattle.json_check.proofs.Literals.{rest-literal}

-- ---- what a state says of what is left, where n is found in the end
-- behind a value, by what is open
abbrev Rest : List Bool → List ℕ → ℕ → ℕ → Type 0
Rest [] s g n = Ws s [] × (g ≡ n)
Rest (true ∷ k) s g n = (vs : Items) × (r : List ℕ) × MoreItems s vs r × Rest k r (first g (items_fault (suc (length k)) vs)) n
Rest (false ∷ k) s g n = (ms : Members) × (r : List ℕ) × MoreMembers s ms r × Rest k r (first g (members_fault (suc (length k)) ms)) n

-- in front of one
abbrev Ahead : List Bool → List ℕ → ℕ → ℕ → Type 0
Ahead k s g n = (v : Value) × (r : List ℕ) × Val s v r × Rest k r (first g (fault (length k) v)) n

abbrev Means : State → ℕ → Type 0
Means (value k s g) n = Ahead k s g n
Means (after k s g) n = Rest k s g n

abbrev Leads : Next → ℕ → Type 0
Leads (go p) n = Means p n
Leads (done g) n = g ≡ n
Leads bad n = ⊥

-- ---- cases
by-test :
    {A : Type 0} (b : Bool) (x y : Next) (n : ℕ) →
    (b ≡ true → Leads x n → A) → (b ≡ false → Leads y n → A) → Leads (cond b x y) n → A
by-test true x y n f h = f refl
by-test false x y n f h = h refl

by-onward :
    {A : Type 0} (o : Option (List ℕ)) (f : List ℕ → State) (n : ℕ) →
    ((r : List ℕ) → o ≡ Some r → Means (f r) n → A) → Leads (onward o f) n → A
by-onward None f n h m = absurd m
by-onward (Some r) f n h m = h r refl m

-- a value that begins with c
from : {v : Value} {r : List ℕ} (s : List ℕ) (c : ℕ) → eqb 256 c ≡ false → eqb (byte_at s 0) c ≡ true → Val (c ∷ drop 1 s) v r → Val s v r
from {v} {r} s c h q p = subst (λ (t : List ℕ). Val t v r) (sym (begins s c h q)) p

-- ws, and behind it c
ws-to : (s : List ℕ) (c : ℕ) → eqb 256 c ≡ false → eqb (byte_at (skip_ws s) 0) c ≡ true → Ws s (c ∷ drop 1 (skip_ws s))
ws-to s c h q = subst (λ (t : List ℕ). Ws s t) (begins (skip_ws s) c h q) (skips-ws s)

-- ---- behind an opening bracket, and behind a value
module _ (k : List Bool) (s : List ℕ) (g n : ℕ) where
  in-array :
      Leads (in_array k (skip_ws s) g) n →
      (vs : Items) × (r : List ℕ) × Val (0x5B ∷ s) (array vs) r × Rest k r (first g (items_fault (suc (length k)) vs)) n
  unfolding in_array fault items_fault members_fault
  in-array =
      by-test (eqb (byte_at (skip_ws s) 0) 0x5D) (go (after k (drop 1 (skip_ws s)) g)) (go (value (true ∷ k) (skip_ws s) g)) n
      (λ e m. (no_items, drop 1 (skip_ws s), empty_array (ws-to s 0x5D refl e), rw first-zero m))
      (λ e m. (item m.0 m.3.0, m.3.1, an_array (skips-ws s) m.2 m.3.2, rw first-assoc at m.3.3))

  in-object :
      Leads (in_object k (skip_ws s) g) n →
      (ms : Members) × (r : List ℕ) × Val (0x7B ∷ s) (object ms) r × Rest k r (first g (members_fault (suc (length k)) ms)) n
  unfolding in_object fault items_fault members_fault
  in-object =
      by-test (eqb (byte_at (skip_ws s) 0) 0x7D) (go (after k (drop 1 (skip_ws s)) g)) (onward (name_rest (skip_ws s)) f) n
      (λ e m. (no_members, drop 1 (skip_ws s), empty_object (ws-to s 0x7D refl e), rw first-zero m))
      (λ e. by-onward (name_rest (skip_ws s)) f n
      (λ r q m. let (x, c) = rest-name (skip_ws s) r q in
      (member x m.0 m.3.0, m.3.1, an_object (skips-ws s) c m.2 m.3.2, rw first-assoc at m.3.3)))
    where
      f : List ℕ → State
      f r = value (false ∷ k) r g

  after-item : Leads (after_item k (skip_ws s) g) n → Rest (true ∷ k) s g n
  unfolding after_item fault items_fault members_fault
  after-item =
      by-test (eqb (byte_at t 0) 0x5D) (go (after k (drop 1 t) g)) (cond (eqb (byte_at t 0) 0x2C) (go v) bad) n
      (λ e m. (no_items, drop 1 t, end_array (ws-to s 0x5D refl e), rw first-zero m))
      (λ q. by-test (eqb (byte_at t 0) 0x2C) (go v) bad n
      (λ e m. (
        item m.0 m.3.0,
        m.3.1,
        next_item (ws-to s 0x2C refl e) (skips-ws (drop 1 t)) m.2 m.3.2,
        rw first-assoc at m.3.3,
      ))
      (λ e m. absurd m))
    where
      t : List ℕ
      t = skip_ws s

      v : State
      v = value (true ∷ k) (skip_ws (drop 1 t)) g

  after-member : Leads (after_member k (skip_ws s) g) n → Rest (false ∷ k) s g n
  unfolding after_member fault items_fault members_fault
  after-member =
      by-test (eqb (byte_at t 0) 0x7D) (go (after k (drop 1 t) g)) (cond (eqb (byte_at t 0) 0x2C) (onward (name_rest u) f) bad) n
      (λ e m. (no_members, drop 1 t, end_object (ws-to s 0x7D refl e), rw first-zero m))
      (λ q. by-test (eqb (byte_at t 0) 0x2C) (onward (name_rest u) f) bad n
      (λ e. by-onward (name_rest u) f n
      (λ r q m. let (x, c) = rest-name u r q in (
        member x m.0 m.3.0,
        m.3.1,
        next_member (ws-to s 0x2C refl e) (skips-ws (drop 1 t)) c m.2 m.3.2,
        rw first-assoc at m.3.3,
      )))
      (λ e m. absurd m))
    where
      t : List ℕ
      t = skip_ws s

      u : List ℕ
      u = skip_ws (drop 1 t)

      f : List ℕ → State
      f r = value (false ∷ k) r g

  no-more : (t : List ℕ) → Ws s t → Leads (no_more t g) n → Rest [] s g n
  no-more [] w m = (w, m)
  no-more (b ∷ t) w m = absurd m

-- ---- a value
module _ (k : List Bool) (s : List ℕ) (g n : ℕ) where
  of-string : eqb (byte_at s 0) 0x22 ≡ true → Leads (of_string k s g) n → Ahead k s g n
  unfolding of_string fault
  of-string q =
      by-onward (chars_rest (drop 1 s)) (λ r. after k r g) n
      (λ r e m. let (x, c) = rest-chars (drop 1 s) r e in (string x, r, from s 0x22 refl q (a_string c), rw first-zero m))

  of_number_lem : Leads (of_number k s g) n → Ahead k s g n
  unfolding of_number fault
  of_number_lem =
      by-onward (number_rest s) (λ r. after k r (first g (number_fault (up_to r s)))) n
      (λ r e m. let c = rest-number s r e in (number (up_to r s), r, a_number c (number_read c), m))

  of_array : eqb (byte_at s 0) 0x5B ≡ true → Leads (in_array k (skip_ws (drop 1 s)) (first g (depth_fault (length k)))) n → Ahead k s g n
  unfolding fault
  of_array q m =
      let (vs, r, v, h) = in-array k (drop 1 s) (first g (depth_fault (length k))) n m in
      (array vs, r, from s 0x5B refl q v, rw first-assoc at h)

  of-object : eqb (byte_at s 0) 0x7B ≡ true → Leads (in_object k (skip_ws (drop 1 s)) (first g (depth_fault (length k)))) n → Ahead k s g n
  unfolding fault
  of-object q m =
      let (ms, r, v, h) = in-object k (drop 1 s) (first g (depth_fault (length k))) n m in
      (object ms, r, from s 0x7B refl q v, rw first-assoc at h)

  of-literal : Leads (of_literal k s g) n → Ahead k s g n
  unfolding of_literal
  of-literal =
      by-onward (literal_rest s) (λ r. after k r g) n
      (λ r e m. let l = rest-literal s r e in (l.meant, r, l.stands, rw (l.faultless (length k), first-zero) m))

  of-value : Leads (of_value k s g) n → Ahead k s g n
  unfolding of_value
  of-value =
      by-test (eqb b 0x22) (of_string k s g) c n of-string
      (λ h. by-test (eqb b 0x2D || is_digit b) (of_number k s g) d n (λ q. of_number_lem)
      (λ h. by-test (eqb b 0x5B) (in_array k u i) e n of_array
      (λ h. by-test (eqb b 0x7B) (in_object k u i) (of_literal k s g) n of-object (λ q. of-literal))))
    where
      b : ℕ
      b = byte_at s 0

      u : List ℕ
      u = skip_ws (drop 1 s)

      i : ℕ
      i = first g (depth_fault (length k))

      e : Next
      e = cond (eqb b 0x7B) (in_object k u i) (of_literal k s g)

      d : Next
      d = cond (eqb b 0x5B) (in_array k u i) e

      c : Next
      c = cond (eqb b 0x2D || is_digit b) (of_number k s g) d

-- ---- a run
next-means : (q : State) (n : ℕ) → Leads (next q) n → Means q n
unfolding next of_after
next-means (value k s g) n m = of-value k s g n m
next-means (after [] s g) n m = no-more [] s g n (skip_ws s) (skips-ws s) m
next-means (after (true ∷ k) s g) n m = after-item k s g n m
next-means (after (false ∷ k) s g) n m = after-member k s g n m

means : {q : State} {n : ℕ} → Run q (Some n) → Means q n
means {q} (ended {g = g} e) = next-means q g (rw e)
means {q} {n} (goes e a) = next-means q n (rw e (means a))

pub runs-text : (t : List ℕ) (n : ℕ) → Run (start t) (Some n) → (v : Value) × Text t v × (fault 0 v ≡ n)
unfolding first
runs-text t n r = let (v, u, p, h) = means r in (v, text (skips-ws t) p h.0, h.1)
