-- What a call does on the way keeps the invariant: pushes, release, entering line, take-over, line-up, sweep.
use Rattle.std.specs.Prelude.{Option, None, Some}
use mathlib.Core.Path.{◌≡◌, refl, sym, ◌∙◌, ap, subst}
use mathlib.Core.Logic.{◌≢◌}
use mathlib.Core.List.{List, [], ◌∷◌, ◌++◌, map, append_assoc}
use mathlib.Core.Bool.{Bool, true, false, ◌&&◌, ◌||◌, cond}
use Prim.Native.Nat.{ℕ, suc, ◌+◌, ◌-◌, ◌≤◌, ◌<◌}
use native.Mathlib.Omega.{arith}
use lib.Dec.{leb, ltb, eqb}
use lib.ListN.{length, drop, set, length-map}
use lib.Seq.{drop-nil}
use Rattle.rules.specs.declared.Applied.{Applied}
use Rattle.rules.specs.declared.Item.{Item}
use Rattle.rules.specs.Lists.{Each, count, keep, maybe, nil, only}
use Rattle.rules.specs.Quantities.{Key, book_out, print_out, same, snapshot_out}
use Rattle.rules.specs.Log.{end, keys, stamp}
use Rattle.rules.specs.Prints.{applied_in, apply_print, delivered_in}
use Rattle.rules.specs.Lines.{InLine, conn_at, event_keys, set_conn, with_held, with_line, with_log, with_prints}
use Rattle.rules.specs.Place.{Place, alignment, counts, fits, places}
use Rattle.rules.specs.Entering.{Work, enter, note_entry, on_market, push_all, push_out, put_items, put_out, release}
use Rattle.rules.specs.Demand.{books, now_entered, replace}
use Rattle.rules.proofs.Tests.{by_cond, eqb-other, eqb_same, ff≢tt, none≢some}
use Rattle.rules.proofs.ListLaws.{append-nil, each_append, each-count, each-kept, each_map, map-append, only-in}
use Rattle.rules.proofs.Order.{same_true}
use Rattle.rules.proofs.Invariant.{Agree, Good, GoodW, books-append, keys_of, push-good, set_conn-good}

pub entered-snoc : (l : List (ℕ × ℕ)) (x : ℕ × ℕ) (E : ℕ → ℕ) → now_entered (l ++ (x ∷ [])) E ≡ replace (now_entered l E) x.0 x.1
unfolding now_entered
entered-snoc [] x E = refl
entered-snoc (y ∷ ys) x E = entered-snoc ys x (replace E y.0 y.1)

pub replace-same : {A : Type 0} (f : ℕ → A) (c : ℕ) (v : A) → replace f c v c ≡ v
replace-same f c v = rw (eqb_same c)

pub replace-other : {A : Type 0} (f : ℕ → A) (c : ℕ) (v : A) (x : ℕ) → x ≢ c → replace f c v x ≡ f x
replace-other f c v x h = rw (eqb-other h)

-- the same lines and entries, and X more put out
pub record Grown (w w' : Work) (X : List Key) : Type 0 where
  pub lines : w'.market.lines ≡ w.market.lines
  pub entered : w'.entered ≡ w.entered
  pub more : keys_of (books w'.out) ≡ keys_of (books w.out) ++ X

pub grown-none : (w : Work) → Grown w w []
grown-none w = record { lines = refl; entered = refl; more = sym (append-nil (keys_of (books w.out))) }

pub grown-then : {u v w : Work} {X Y : List Key} → Grown u v X → Grown v w Y → Grown u w (X ++ Y)
grown-then {X} {Y} g h = record {
  lines = h.lines ∙ g.lines;
  entered = h.entered ∙ g.entered;
  more = h.more ∙ ap (λ (o : List Key). o ++ Y) g.more ∙ simp append_assoc;
}

module _ (s : ℕ) (B : List (ℕ × Key)) (T : ℕ → List Key) (E : ℕ → ℕ) where
  -- a record that is no book event
  pub put_out-good : (r : Applied) (w : Work) → books (r ∷ []) ≡ [] → GoodW s B T E w → GoodW s B T E (put_out r w)
  put_out-good r w e g = subst (λ (X : List (ℕ × Key)). Good s (B ++ X) T (now_entered w.entered E) w.market.log.base (keys w.market.log) w.market.lines)
      (sym (books-append w.out (r ∷ []) ∙ ap (λ (o : List (ℕ × Key)). books w.out ++ o) e ∙ append-nil (books w.out))) g

  pub push_out-good : (c now : ℕ) (k : Key) (msg : ℕ) (w : Work) → GoodW s B T E w → GoodW s B T E (push_out c now k msg w)
  unfolding push_out books
  push_out-good c now k msg w g =
      let l = w.market.log in
      let p = push-good (end l) k (let a : length (keys l) ≡ length l.entries = length-map l.entries (λ e. e.0) in omega arith) g in
      let q : (B ++ books w.out) ++ ((end l, k) ∷ []) ≡ B ++ books (w.out ++ (book_out c (end l) k msg ∷ [])) =
      append_assoc B (books w.out) ((end l, k) ∷ []) ∙ ap (λ (o : List (ℕ × Key)). B ++ o) (sym (books-append w.out (book_out c (end l) k msg ∷ []))) in
      let r : keys l ++ (k ∷ []) ≡ map (λ e. e.0) (l.entries ++ ((k, now) ∷ [])) = sym (map-append (λ e. e.0) l.entries ((k, now) ∷ [])) in
      subst (λ (X : List (ℕ × Key)). Good s X T (now_entered w.entered E) l.base (map (λ e. e.0) (l.entries ++ ((k, now) ∷ []))) w.market.lines) q
      (subst (λ (X : List Key). Good s ((B ++ books w.out) ++ ((end l, k) ∷ [])) T (now_entered w.entered E) l.base X w.market.lines) r p)

  pub push_all-good : (c now : ℕ) (es : List (Key × ℕ)) (w : Work) → GoodW s B T E w → GoodW s B T E (push_all c now es w)
  unfolding push_all
  push_all-good c now [] w g = g
  push_all-good c now (e ∷ es) w g = push_all-good c now es (push_out c now e.0 e.1 w) (push_out-good c now e.0 e.1 w g)

  pub put_items-good : (c now : ℕ) (is : List Item) (w : Work) → GoodW s B T E w → GoodW s B T E (put_items c now is w)
  unfolding put_items books
  put_items-good c now [] w g = g
  put_items-good c now (Item.Snapshot t msg ∷ is) w g = put_items-good c now is (put_out (snapshot_out c msg) (on_market (with_log (stamp now w.market.log)) w))
      (put_out-good (snapshot_out c msg) (on_market (with_log (stamp now w.market.log)) w) refl g)
  put_items-good c now (Item.Event k msg ∷ is) w g = put_items-good c now is (push_out c now k msg w) (push_out-good c now k msg w g)

  pub release-good : (c : ℕ) (hs : List (Key × ℕ)) (w : Work) → GoodW s B T E w → GoodW s B T E (release c hs w)
  unfolding release books
  release-good c [] w g = g
  release-good c (h ∷ hs) w g =
      let p = w.market.prints in
      let d = delivered_in h.0 c p.count_rows in
      let a = applied_in h.0 p.key_rows in
      let w₁ = put_out (print_out c h.0 h.1 (d - a)) (on_market (with_prints (apply_print h.0 d p)) w) in
      release-good c hs (cond (ltb a d) w₁ w)
      (by_cond (GoodW s B T E) (ltb a d)
      (λ e. put_out-good (print_out c h.0 h.1 (d - a)) (on_market (with_prints (apply_print h.0 d p)) w) refl g)
      (λ e. g))

  pub enter-good : (i e n : ℕ) (a b : Bool) (w : Work) → i < length w.market.lines
      → Agree s (keys_of (B ++ books w.out)) (T (conn_at i w.market).conn) e n
      → GoodW s B T E w → GoodW s B T E (enter i e n a b w)
  unfolding enter
  enter-good i e n a b w h ok g =
      let c = (conn_at i w.market).conn in
      let E₀ = now_entered w.entered E in
      release-good c (conn_at i w.market).held (note_entry c e (on_market (set_conn i (InLine n a b) []) w))
      (subst (λ (X : ℕ → ℕ). Good s (B ++ books w.out) T X w.market.log.base (keys w.market.log)
      (set w.market.lines i (with_line (InLine n a b) (with_held [] (conn_at i w.market)))))
      (sym (entered-snoc w.entered (c, e) E))
      (set_conn-good T (replace E₀ c e) i (InLine n a b) [] h (λ x ne. refl) (λ x ne. replace-other E₀ c e x ne)
      (subst (λ z. Agree s (keys_of (B ++ books w.out)) (T c) z n) (sym (replace-same E₀ c e)) ok) g))

pub push_out-grown : (c now : ℕ) (k : Key) (msg : ℕ) (w : Work) → Grown w (push_out c now k msg w) (k ∷ [])
unfolding push_out books
push_out-grown c now k msg w = record {
  lines = refl;
  entered = refl;
  more = ap keys_of (books-append w.out (book_out c (end w.market.log) k msg ∷ []))
      ∙ map-append (λ x. x.1) (books w.out) ((end w.market.log, k) ∷ []);
}

pub push_all-grown : (c now : ℕ) (es : List (Key × ℕ)) (w : Work) → Grown w (push_all c now es w) (map (λ e. e.0) es)
unfolding push_all
push_all-grown c now [] w = grown-none w
push_all-grown c now (e ∷ es) w = grown-then (push_out-grown c now e.0 e.1 w) (push_all-grown c now es (push_out c now e.0 e.1 w))

pub snap-grown : (c now msg : ℕ) (w : Work) → Grown w (put_out (snapshot_out c msg) (on_market (with_log (stamp now w.market.log)) w)) []
unfolding books
snap-grown c now msg w = record {
  lines = refl;
  entered = refl;
  more = ap keys_of (books-append w.out (snapshot_out c msg ∷ [])) ∙ map-append (λ x. x.1) (books w.out) [];
}

pub put_items-grown : (c now : ℕ) (is : List Item) (w : Work) → Grown w (put_items c now is w) (event_keys is)
unfolding put_items
put_items-grown c now [] w = grown-none w
put_items-grown c now (Item.Snapshot t msg ∷ is) w = grown-then (snap-grown c now msg w) (put_items-grown c now is (put_out (snapshot_out c msg) (on_market (with_log (stamp now w.market.log)) w)))
put_items-grown c now (Item.Event k msg ∷ is) w = grown-then (push_out-grown c now k msg w) (put_items-grown c now is (push_out c now k msg w))

-- ---- places

pub fits-law : (xs ys : List Key) (n : ℕ) → fits xs ys ≡ Some n → (b : List Key) × (ys ++ drop (length ys) xs ≡ xs ++ b)
unfolding fits
fits-law [] ys n e = (ys, ap (λ (o : List Key). ys ++ o) (drop-nil (length ys)) ∙ append-nil ys)
fits-law (x ∷ xs) [] n e = ([], sym (append-nil (x ∷ xs)))
fits-law (x ∷ xs) (y ∷ ys) n e = go (same x y) refl (fits xs ys) (λ m h. fits-law xs ys m h) e
  where
    go : (b : Bool) → same x y ≡ b → (o : Option ℕ) → ((m : ℕ) → o ≡ Some m → (b : List Key) × (ys ++ drop (length ys) xs ≡ xs ++ b))
        → cond b (maybe None (λ m. Some (suc m)) o) None ≡ Some n → (b : List Key) × (y ∷ (ys ++ drop (length ys) xs) ≡ x ∷ (xs ++ b))
    go false q o f h = absurd (none≢some h)
    go true q None f h = absurd (none≢some h)
    go true q (Some m) f h = let (b, r) = f m refl in (b, let z : x ≡ y = same_true x y q in cc)

counts-fits : (quiet : Bool) (hs ks : List Key) (p : Place) → counts quiet hs ks p ≡ true → (n : ℕ) × (fits (drop p.0 hs) (drop p.1 ks) ≡ Some n)
unfolding counts
counts-fits quiet hs ks p e = go (fits (drop p.0 hs) (drop p.1 ks)) refl e
  where
    go : (o : Option ℕ) → fits (drop p.0 hs) (drop p.1 ks) ≡ o
        → maybe false (λ n. leb 4 n || quiet && eqb (p.1 + n) (length ks) && eqb (p.0 + n) (length hs)) o ≡ true
        → (n : ℕ) × (fits (drop p.0 hs) (drop p.1 ks) ≡ Some n)
    go None q h = absurd (ff≢tt refl h)
    go (Some n) q h = (n, q)

pub alignment-fits : (quiet : Bool) (hs ks : List Key) (p : Place) → alignment quiet hs ks ≡ Some p
    → (p.1 ≤ length ks) × ((n : ℕ) × (fits (drop p.0 hs) (drop p.1 ks) ≡ Some n))
unfolding alignment
alignment-fits quiet hs ks p e =
    let P : Place → Type 0 = λ q. q.1 ≤ length ks in
    let all : Each P (places hs ks) = each_append P (map (λ i. (0, i)) (count 0 (length ks))) (map (λ j. (j, 0)) (count 1 (length hs - 1)))
    (each_map (λ i. (0 ≤ i) × (i < 0 + length ks)) P (λ i. (0, i)) (λ i h. omega arith) (count 0 (length ks)) (each-count 0 (length ks)))
    (each_map (λ i. (1 ≤ i) × (i < 1 + (length hs - 1))) P (λ j. (j, 0)) (λ i h. omega arith) (count 1 (length hs - 1)) (each-count 1 (length hs - 1))) in
    go all (nil hs || nil ks) e
  where
    go : Each (λ (q : Place). q.1 ≤ length ks) (places hs ks) → (b : Bool) → cond b None (only (keep (counts quiet hs ks) (places hs ks))) ≡ Some p
        → (p.1 ≤ length ks) × ((n : ℕ) × (fits (drop p.0 hs) (drop p.1 ks) ≡ Some n))
    go all true h = absurd (none≢some h)
    go all false h =
        let r = only-in (λ (q : Place). (q.1 ≤ length ks) × (counts quiet hs ks q ≡ true)) (keep (counts quiet hs ks) (places hs ks)) p h
        (each-kept (λ (q : Place). q.1 ≤ length ks) (counts quiet hs ks) (places hs ks) all) in
        (r.0, counts-fits quiet hs ks p r.1)
