-- The two loops of `one_place`, over the log's keys by their entries and the items' words.
-- What each has come to, as a record, and a law for each way through a turn.
use Rattle.std.specs.Prelude.{Option, None, Some, is_some}
use mathlib.Core.Path.{◌≡◌, refl, sym, ap, ◌∙◌}
use mathlib.Core.List.{List, [], ◌∷◌, ◌++◌, map}
use mathlib.Core.Logic.{⊎_elim}
use mathlib.Core.Bool.{Bool, true, false, cond}
use Prim.Native.Nat.{ℕ, zero, suc, ◌+◌, ◌*◌, ◌-◌, ◌≤◌, ◌<◌}
use native.Mathlib.Nat.{add-zero, sub_self}
use native.Mathlib.Omega.{arith}
use lib.ListN.{length, get_or, drop, length-drop, drop_of_length-le}
use lib.Seq.{drop-drop}
use lib.Dec.{eqb}
use borrow.Author.Tests.{eq-eqb, ne_eqb}
use Rattle.rules.specs.Lists.{keep, nil}
use Rattle.rules.specs.Quantities.{Key, same}
use Rattle.rules.specs.Place.{fits, places, counts, alignment}
use Rattle.words.specs.Words.{tab}
use Rattle.words.proofs.Tab.{length-tab, drop-tab-cons}
use Rattle.words.proofs.Cases.{below_or}
use Rattle.place.specs.declared.Place.{Place}
use Rattle.place.specs.Items.{place_of, Passed}
use Rattle.place.proofs.Next.{Stop, Next, held_from, item_key, held-event, held-end}
use Rattle.place.proofs.Counting as find
use Rattle.place.proofs.Counting.{more, enough, left, seen}

-- the log's keys, from entry l on
abbrev pub log_from : (ℕ → Key) → ℕ → ℕ → List Key
log_from f n l = drop l (tab n f)

log-step : (f : ℕ → Key) (n l : ℕ) → l < n → log_from f n l ≡ f l ∷ log_from f n (l + 1)
log-step f n l h = drop-tab-cons n l f h

log-end : (f : ℕ → Key) (n l : ℕ) → n ≤ l → log_from f n l ≡ []
log-end f n l h = drop_of_length-le (tab n f) {i = l} (omega (arith, length-tab n f))

-- the candidates that are left: entries from q on, then item x, the j-th held event, and those behind it
pub record Ahead (items : List ℕ) (count held first q x j : ℕ) : Type 0 where
  pub head : Next items held 0 first
  pub head_in : first < held
  pub q-in : q ≤ count
  pub x-in : x ≤ held
  pub j-in : j ≤ x
  pub stop : Stop items held x
  pub rest : drop j (held_from items held 0) ≡ held_from items held x

-- the places that count
abbrev pub counting : Bool → (ℕ → Key) → ℕ → List ℕ → ℕ → List (ℕ × ℕ) → List (ℕ × ℕ)
counting quiet keys count items held ps = keep (counts quiet (held_from items held 0) (tab count keys)) ps

abbrev pub all-places : (ℕ → Key) → ℕ → List ℕ → ℕ → List (ℕ × ℕ)
all-places keys count items held = places (held_from items held 0) (tab count keys)

abbrev pub left-places : List ℕ → ℕ → ℕ → ℕ → ℕ → List (ℕ × ℕ)
left-places items held count q j = left (length (held_from items held 0)) count q j

-- the outer loop: `found` is the place that counted so far
pub record Search (quiet : Bool) (keys : ℕ → Key) (count base : ℕ) (items : List ℕ) (held first : ℕ) (found : Option Place) (q x j : ℕ) : Type 0 where
  pub ahead : Ahead items count held first q x j
  pub one : Option (ℕ × ℕ)
  pub is : found ≡ place_of base one
  pub all : counting quiet keys count items held (all-places keys count items held)
      ≡ seen one ++ counting quiet keys count items held (left-places items held count q j)

-- the inner loop: the candidate is (cj, start), and the walk has come to item i and entry l
pub record Walk (quiet : Bool) (keys : ℕ → Key) (count base : ℕ) (items : List ℕ) (held first : ℕ) (found : Option Place) (q x j cj start i l : ℕ) : Type 0 where
  pub ahead : Ahead items count held first q x j
  pub one : Option (ℕ × ℕ)
  pub is : found ≡ place_of base one
  pub all : counting quiet keys count items held (all-places keys count items held)
      ≡ seen one ++ counting quiet keys count items held ((cj, start) ∷ left-places items held count q j)
  pub i-in : i ≤ held
  pub stop : Stop items held i
  pub from : start ≤ l
  pub l-in : l ≤ count
  pub same : fits (drop cj (held_from items held 0)) (log_from keys count start) ≡ more (l - start) (fits (held_from items held i) (log_from keys count l))
  pub long : length (held_from items held 0) ≡ cj + ((l - start) + length (held_from items held i))

module _ (items : List ℕ) (held j x : ℕ) (e : drop j (held_from items held 0) ≡ held_from items held x) where
  -- the held events behind item x
  after : (y : ℕ) → x < held → Stop items held x → Next items held (x + 1) y → drop (j + 1) (held_from items held 0) ≡ held_from items held y
  after y h s n =
      sym (drop-drop 1 j (held_from items held 0)) ∙ ap (drop 1) (e ∙ held-event items held x h s) ∙ ap (map (λ e. e.0)) n.rest

  long-drop : length (held_from items held 0) - j ≡ length (held_from items held x)
  long-drop = sym (length-drop j (held_from items held 0)) ∙ ap length e

-- entries whose keys have another first word than the first held event's are no candidates
abbrev pub first_word : List ℕ → ℕ → ℕ
first_word items first = get_or items (4 * first + 1) 0

module _ (quiet : Bool) (keys : ℕ → Key) (count : ℕ) (items : List ℕ) (held first : ℕ) (h : first < held) (n : Next items held 0 first) where
  entry-off : (e : ℕ) → e < count → ((keys e).0 ≡ first_word items first → ⊥) → counts quiet (held_from items held 0) (tab count keys) (0, e) ≡ false
  entry-off e l d =
      let hs : held_from items held 0 ≡ item_key items first ∷ held_from items held (first + 1) =
      ap (map (λ e. e.0)) n.rest ∙ held-event items held first h n.stop
      in
      let z : fits (held_from items held 0) (log_from keys count e) ≡ None =
      rw (hs, log-step keys count e l) (find.fits-differ _ _ _ _ (find.differ-0 (item_key items first) (keys e) (λ p. d (sym p))))
      in find.counts-none quiet (held_from items held 0) (tab count keys) (0, e) z

  passed : (j q r : ℕ) → Passed (λ e. (keys e).0) count (first_word items first) q r
      → counting quiet keys count items held (left-places items held count q j) ≡ counting quiet keys count items held (left-places items held count r j)
  passed j q r p = go (r - q) q (omega (arith, p.past)) p.none
    where
      go : (d q : ℕ) → q + d ≡ r → ((e : ℕ) → q ≤ e → e < r → (keys e).0 ≡ first_word items first → ⊥)
          → counting quiet keys count items held (left-places items held count q j) ≡ counting quiet keys count items held (left-places items held count r j)
      go zero q e f = let z : q ≡ r = omega arith in ap (λ (x : ℕ). counting quiet keys count items held (left-places items held count x j)) z
      go (suc d) q e f =
          let l : q < count = omega (arith, p.inside) in
          let s : counting quiet keys count items held (left-places items held count q j)
          ≡ counting quiet keys count items held (left-places items held count (q + 1) j) =
          rw (find.left-first (length (held_from items held 0)) count q j l, entry-off q l (f q (omega arith) (omega arith)))
          in s ∙ go d (q + 1) (omega arith) (λ i a b. f i (omega arith) b)

  ahead_of : {q x j : ℕ} (r : ℕ) → r ≤ count → Ahead items count held first q x j → Ahead items count held first r x j
  ahead_of r i a =
      record { head = a.head; head_in = a.head_in; q-in = i; x-in = a.x-in; j-in = a.j-in; stop = a.stop; rest = a.rest }

  pub pass : {base : ℕ} {found : Option Place} {q x j r : ℕ} → Search quiet keys count base items held first found q x j → Passed (λ e. (keys e).0) count (first_word items first) q r
      → Search quiet keys count base items held first found r x j
  pass {q = q} {j = j} {r = r} s p =
      record { ahead = ahead_of r p.inside s.ahead; one = s.one; is = s.is; all = s.all ∙ ap (λ z. seen s.one ++ z) (passed j q r p) }

  pub pass-walk : {base : ℕ} {found : Option Place} {q x j cj start i l r : ℕ} → Walk quiet keys count base items held first found q x j cj start i l
      → Passed (λ e. (keys e).0) count (first_word items first) q r → Walk quiet keys count base items held first found r x j cj start i l
  pass-walk {q = q} {j = j} {cj = cj} {start = start} {r = r} w p =
      record {
        ahead = ahead_of r p.inside w.ahead;
        one = w.one;
        is = w.is;
        all = w.all ∙ ap (λ z. seen w.one ++ cond (counts quiet (held_from items held 0) (tab count keys) (cj, start)) ((cj, start) ∷ z) z) (passed j q r p);
        i-in = w.i-in;
        stop = w.stop;
        from = w.from;
        l-in = w.l-in;
        same = w.same;
        long = w.long;
      }

pub search-start : (quiet : Bool) (keys : ℕ → Key) (count base : ℕ) (items : List ℕ) (held first x : ℕ)
    → first < held → Next items held 0 first → Next items held (first + 1) x
    → Search quiet keys count base items held first None 0 x 1
search-start quiet keys count base items held first x h f n =
    record {
      ahead = record {
        head = f;
        head_in = h;
        q-in = omega arith;
        x-in = n.inside;
        j-in = omega (arith, n.past);
        stop = n.stop;
        rest = after items held 0 first (ap (map (λ e. e.0)) f.rest) x h f.stop n;
      };
      one = None;
      is = refl;
      all = rw (find.left-all (held_from items held 0) (tab count keys), length-tab count keys);
    }

module _ {quiet : Bool} {keys : ℕ → Key} {count base : ℕ} {items : List ℕ} {held first : ℕ} {found : Option Place} {q x j : ℕ}
    (s : Search quiet keys count base items held first found q x j) where
  -- the candidates are all tried
  pub out : count ≤ q → held ≤ x → counting quiet keys count items held (all-places keys count items held) ≡ seen s.one ++ []
  out h g =
      let e = long-drop items held j x s.ahead.rest in
      let z = ap length (held-end items held x g) in
      rw (find.left-none (length (held_from items held 0)) count q j h (omega arith)) at s.all

  -- a candidate is walked: the first held event at entry q
  pub walk_first : q < count → Walk quiet keys count base items held first found (q + 1) x j 0 q first q
  walk_first h =
      let e : held_from items held 0 ≡ held_from items held first = ap (map (λ e. e.0)) s.ahead.head.rest in
      record {
        ahead = record {
          head = s.ahead.head;
          head_in = s.ahead.head_in;
          q-in = omega arith;
          x-in = s.ahead.x-in;
          j-in = s.ahead.j-in;
          stop = s.ahead.stop;
          rest = s.ahead.rest;
        };
        one = s.one;
        is = s.is;
        all = rw (find.left-first (length (held_from items held 0)) count q j h) at s.all;
        i-in = s.ahead.head.inside;
        stop = s.ahead.head.stop;
        from = omega arith;
        l-in = omega arith;
        same = rw (e, sub_self q) (sym (find.more-none _));
        long = omega (arith, ap length e);
      }

  -- item x, the j-th held event, at entry 0; y is the next
  pub walk-later : (y : ℕ) → count ≤ q → x < held → Next items held (x + 1) y → Walk quiet keys count base items held first found q y (j + 1) j 0 x 0
  walk-later y h g m =
      let d = long-drop items held j x s.ahead.rest in
      let z = ap length (held-event items held x g s.ahead.stop) in
      record {
        ahead = record {
          head = s.ahead.head;
          head_in = s.ahead.head_in;
          q-in = s.ahead.q-in;
          x-in = m.inside;
          j-in = omega (arith, m.past, s.ahead.j-in);
          stop = m.stop;
          rest = after items held j x s.ahead.rest y g s.ahead.stop m;
        };
        one = s.one;
        is = s.is;
        all = rw (find.left-later (length (held_from items held 0)) count q j h (omega arith)) at s.all;
        i-in = omega arith;
        stop = s.ahead.stop;
        from = omega arith;
        l-in = omega arith;
        same = rw s.ahead.rest (sym (find.more-none _));
        long = omega arith;
      }

module _ {quiet : Bool} {keys : ℕ → Key} {count base : ℕ} {items : List ℕ} {held first : ℕ} {found : Option Place} {q x j cj start i l : ℕ}
    (w : Walk quiet keys count base items held first found q x j cj start i l) where
  -- one held event further, to item y
  pub along : (y : ℕ) → i < held → l < count → same (keys l) (item_key items i) ≡ true
      → Next items held (i + 1) y → Walk quiet keys count base items held first found q x j cj start y (l + 1)
  along y h g d m =
      let e = held-event items held i h w.stop in
      let r : held_from items held (i + 1) ≡ held_from items held y = ap (map (λ e. e.0)) m.rest in
      let k : (l - start) + 1 ≡ (l + 1) - start = omega (arith, w.from) in
      let f : more (l - start) (fits (held_from items held i) (log_from keys count l))
      ≡ more ((l - start) + 1) (fits (held_from items held (i + 1)) (log_from keys count (l + 1))) =
      rw (e, log-step keys count l g) (find.fits-same _ _ _ _ (l - start) (find.same-turned (item_key items i) (keys l) ∙ d))
      in
      record {
        ahead = w.ahead;
        one = w.one;
        is = w.is;
        all = w.all;
        i-in = m.inside;
        stop = m.stop;
        from = omega (arith, w.from);
        l-in = omega arith;
        same = w.same ∙ f ∙ rw (k, r);
        long = omega (arith, w.long, w.from, ap length e, ap length r);
      }

  abbrev pub Counts : Bool → Type 0
  Counts b = counts quiet (held_from items held 0) (tab count keys) (cj, start) ≡ b

  -- a candidate that does not count, the first that does, and the second
  pub off : Counts false → Search quiet keys count base items held first found q x j
  off e = record { ahead = w.ahead; one = w.one; is = w.is; all = rw e at w.all }

  pub on : Counts true → is_some found ≡ false → Search quiet keys count base items held first (Some (record { event = cj; number = base + start })) q x j
  on e z = record { ahead = w.ahead; one = Some (cj, start); is = refl; all = rw (e, nothing w.one (sym (ap is_some w.is) ∙ z)) at w.all }
    where
      nothing : (o : Option (ℕ × ℕ)) → is_some (place_of base o) ≡ false → o ≡ None
      nothing None q = refl
      nothing (Some p) q = absurd (cc)

  pub twice : Counts true → is_some found ≡ true → alignment quiet (held_from items held 0) (tab count keys) ≡ None
  twice e z = go w.one (sym (ap is_some w.is) ∙ z) (rw e at w.all)
    where
      go : (o : Option (ℕ × ℕ)) → is_some (place_of base o) ≡ true
          → counting quiet keys count items held (all-places keys count items held)
          ≡ seen o ++ (cj, start) ∷ counting quiet keys count items held (left-places items held count q j)
          → alignment quiet (held_from items held 0) (tab count keys) ≡ None
      go None q all = absurd (cc)
      go (Some r) q all = find.two-seen _ _ _ _ _ _ all

  -- a mismatch
  pub differ : i < held → l < count → same (keys l) (item_key items i) ≡ false → Counts false
  differ h g d =
      let z : fits (held_from items held i) (log_from keys count l) ≡ None =
      rw (held-event items held i h w.stop, log-step keys count l g) (find.fits-differ _ _ _ _ (find.same-turned (item_key items i) (keys l) ∙ d))
      in find.counts-none _ _ _ _ (w.same ∙ ap (more (l - start)) z)

  -- the walk ends after so many matches, at the items' end or at the log's
  abbrev pub Ended : Type 0
  Ended = fits (drop cj (held_from items held 0)) (log_from keys count start) ≡ Some (l - start)

  pub end-items : held ≤ i → Ended
  end-items h = w.same ∙ rw (held-end items held i h, find.fits-nil _, add-zero)

  pub end-log : count ≤ l → Ended
  end-log h = w.same ∙ rw (log-end keys count l h, find.fits-log-end _, add-zero)

  -- the tests on the run say whether it counts
  abbrev pub Settled : Type 0
  Settled = counts quiet (held_from items held 0) (tab count keys) (cj, start) ≡ enough quiet (l - start) (eqb l count) (eqb i held)

  pub settled : Ended → Settled
  settled e =
      let u : start + (l - start) ≡ l = omega (arith, w.from) in
      let all : eqb (cj + (l - start)) (length (held_from items held 0)) ≡ eqb i held =
      ⊎_elim
      (λ h.
      let m = ap length (held-event items held i h w.stop) in
      ne_eqb (cj + (l - start)) (length (held_from items held 0)) (λ z. omega (arith, w.long)) ∙ sym (ne_eqb i held (λ z. omega arith)))
      (λ h.
      let m = ap length (held-end items held i h) in
      eq-eqb (cj + (l - start)) (length (held_from items held 0)) (omega (arith, w.long)) ∙ sym (eq-eqb i held (omega (arith, w.i-in))))
      (below_or i held)
      in find.counts_some quiet (held_from items held 0) (tab count keys) (cj, start) (l - start) e ∙ rw (u, length-tab count keys, all)

-- item x at entry 0, whose key has another first word
pub skip : {quiet : Bool} {keys : ℕ → Key} {count base : ℕ} {items : List ℕ} {held first : ℕ} {found : Option Place} {q x j : ℕ} (y : ℕ)
    → Search quiet keys count base items held first found q x j → 0 < count → count ≤ q → x < held → Next items held (x + 1) y
    → (get_or items (4 * x + 1) 0 ≡ (keys 0).0 → ⊥) → Search quiet keys count base items held first found q y (j + 1)
skip {keys = keys} {items = items} {x = x} y s g h k n d =
    let w = walk-later s y h k n in off w (differ w k g (find.differ-0 (keys 0) (item_key items x) (λ p. d (sym p))))

-- the answers
module _ (quiet : Bool) (keys : ℕ → Key) (count : ℕ) (items : List ℕ) (held : ℕ) where
  pub no-log : count ≡ 0 → alignment quiet (held_from items held 0) (tab count keys) ≡ None
  no-log e = rw e (find.none-logged quiet (held_from items held 0))

  pub no-held : (first : ℕ) → held ≤ first → Next items held 0 first → alignment quiet (held_from items held 0) (tab count keys) ≡ None
  no-held first h n = rw (ap (map (λ e. e.0)) n.rest ∙ held-end items held first h) (find.none-held quiet (tab count keys))

pub search-end : {quiet : Bool} {keys : ℕ → Key} {count base : ℕ} {items : List ℕ} {held first : ℕ} {found : Option Place} {q x j : ℕ}
    → Search quiet keys count base items held first found q x j → 0 < count → count ≤ q → held ≤ x
    → found ≡ place_of base (alignment quiet (held_from items held 0) (tab count keys))
search-end {quiet} {keys} {count} {base} {items} {held} {first} s g h k =
    let hs : held_from items held 0 ≡ item_key items first ∷ held_from items held (first + 1) =
    ap (map (λ e. e.0)) s.ahead.head.rest ∙ held-event items held first s.ahead.head_in s.ahead.head.stop
    in s.is ∙ sym (ap (place_of base) (find.all_seen _ _ _ s.one (ap nil hs) (ap nil (log-step keys count 0 g)) (out s h k)))
