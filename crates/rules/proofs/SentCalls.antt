-- Where the records of connections in line come from.
use mathlib.Core.Path.{◌≡◌, refl, sym, ◌∙◌, ap, subst}
use mathlib.Core.Logic.{inl, inr}
use mathlib.Core.List.{List, [], ◌∷◌, map}
use mathlib.Core.Bool.{Bool, true, false, cond}
use Prim.Native.Nat.{ℕ, suc, ◌+◌, ◌<◌}
use native.Mathlib.Omega.{arith}
use lib.Dec.{eqb}
use lib.ListN.{length, get_or}
use Rattle.rules.specs.declared.Applied.{Applied}
use Rattle.rules.specs.declared.Kind.{Kind}
use Rattle.rules.specs.Lists.{In, index}
use Rattle.rules.specs.Quantities.{Key, book_out, print_out}
use Rattle.rules.specs.Lines.{Connection, Failed, InLine, Line, Market, Pending, Waiting, is_in_line, nobody, line_for}
use Rattle.rules.specs.Refusals.{BookEvent, Call, Drop, Print, Promote, Reset, Snapshot, Subscribe, Tick}
use Rattle.rules.specs.Demand.{Goes, Sent, SentAs, advanced, events_of, forward, next_of, own_books, own_prints}
use Rattle.rules.proofs.Tests.{by_cond, eqb_same, eqb-true, ff≢tt}
use Rattle.rules.proofs.Still.{line_in}

-- ---- from the call itself

pub sent-book : (m : Market) (c : ℕ) (k : Key) (msg now room : ℕ) (xs : List Call)
    → Sent m (BookEvent c k msg now room ∷ xs) (book_out c (next_of (line_for c m)) k msg)
unfolding own_books
sent-book m c k msg now room xs = go (eqb c c) (eqb_same c)
  where
    n : ℕ
    n = next_of (line_for c m)

    go : (b : Bool) → b ≡ true → In (book_out c n k msg) (cond b (book_out c n k msg ∷ own_books c (suc n) xs) (own_books c n xs))
    go true e = inl refl
    go false e = absurd (ff≢tt refl e)

pub sent-print : (m : Market) (c : ℕ) (k : Key) (msg now room : ℕ) (xs : List Call) (times : ℕ) → 0 < times
    → Sent m (Print c k msg now room ∷ xs) (print_out c k msg times)
unfolding own_prints
sent-print m c k msg now room xs times lt = (go (eqb c c) (eqb_same c), lt, refl)
  where
    go : (b : Bool) → b ≡ true → In (k, msg) (cond b ((k, msg) ∷ own_prints c xs) (own_prints c xs))
    go true e = inl refl
    go false e = absurd (ff≢tt refl e)

-- ---- from the calls behind it

-- a line is found as it was, with its connection's more events
line-advanced : (f : ℕ → ℕ) (d : ℕ) (ls : List Connection) → line_in d (map (advanced f) ls) ≡ forward (f d) (line_in d ls)
line-advanced f d [] = refl
line-advanced f d (s ∷ ss) = go (eqb s.conn d) (λ e. eqb-true e) (line-advanced f d ss)
  where
    j : List Connection → ℕ
    j ls = suc (index (λ s. eqb s.conn d) ls)

    go : (b : Bool) → (b ≡ true → s.conn ≡ d) → line_in d (map (advanced f) ss) ≡ forward (f d) (line_in d ss)
        → (get_or (advanced f s ∷ map (advanced f) ss) (cond b 0 (j (map (advanced f) ss))) nobody).line
        ≡ forward (f d) (get_or (s ∷ ss) (cond b 0 (j ss)) nobody).line
    go true e h = ap (λ (c : ℕ). forward (f c) s.line) (e refl)
    go false e h = h

next-forward : (k : ℕ) (l : Line) → next_of (forward k l) + cond (is_in_line l) 0 k ≡ next_of l + k
next-forward k (Waiting is since) = refl
next-forward k (Pending is at since) = refl
next-forward k (InLine n a b) = omega arith
next-forward k Failed = refl

-- n' is d's next number after the call x, n before it; what is not in line has no call
Counted : Market → Call → List Call → ℕ → ℕ → ℕ → Type 0
Counted m x xs d n n' = n' + length (events_of d xs) + cond (is_in_line (line_for d m)) 0 (length (events_of d (x ∷ xs)))
    ≡ n + length (events_of d (x ∷ xs)) + cond (is_in_line (line_for d m)) 0 (length (events_of d xs))

book-later : (m : Market) (x : Call) (xs : List Call) (d n n' : ℕ) (r : Applied) → Goes m x → Counted m x xs d n n'
    → In r (own_books d n' xs) → In r (own_books d n (x ∷ xs))
unfolding Counted own_books events_of
book-later m (BookEvent c k msg now room) xs d n n' r goes e h = go (eqb c d) (λ q. subst (λ y. is_in_line (line_for y m) ≡ true) (eqb-true q) goes) e
  where
    L : ℕ
    L = length (events_of d xs)

    go : (b : Bool) → (b ≡ true → is_in_line (line_for d m) ≡ true)
        → n' + L + cond (is_in_line (line_for d m)) 0 (length (cond b (k ∷ events_of d xs) (events_of d xs)))
        ≡ n + length (cond b (k ∷ events_of d xs) (events_of d xs)) + cond (is_in_line (line_for d m)) 0 L
        → In r (cond b (book_out d n k msg ∷ own_books d (suc n) xs) (own_books d n xs))
    go true f q =
        let a : cond (is_in_line (line_for d m)) 0 (suc L) ≡ 0 = ap (λ (t : Bool). cond t 0 (suc L)) (f refl) in
        let b : cond (is_in_line (line_for d m)) 0 L ≡ 0 = ap (λ (t : Bool). cond t 0 L) (f refl) in
        inr (subst (λ j. In r (own_books d j xs)) (omega arith) h)
    go false f q = subst (λ j. In r (own_books d j xs)) (omega arith) h
book-later m (Print c k msg now room) xs d n n' r goes e h = subst (λ j. In r (own_books d j xs)) (omega arith) h
book-later m (Subscribe c limit now) xs d n n' r goes e h = absurd goes
book-later m (Snapshot c i msg now room) xs d n n' r goes e h = absurd goes
book-later m (Drop c now room) xs d n n' r goes e h = absurd goes
book-later m (Promote now room) xs d n n' r goes e h = absurd goes
book-later m (Reset now) xs d n n' r goes e h = absurd goes
book-later m (Tick answers now room reports) xs d n n' r goes e h = absurd goes

print-later : (x : Call) (xs : List Call) (d : ℕ) (p : Key × ℕ) → In p (own_prints d xs) → In p (own_prints d (x ∷ xs))
unfolding own_prints
print-later (Print c k msg now room) xs d p h = by_cond (In p) (eqb c d) (λ e. inr h) (λ e. h)
print-later (BookEvent c k msg now room) xs d p h = h
print-later (Subscribe c limit now) xs d p h = h
print-later (Snapshot c i msg now room) xs d p h = h
print-later (Drop c now room) xs d p h = h
print-later (Promote now room) xs d p h = h
print-later (Reset now) xs d p h = h
print-later (Tick answers now room reports) xs d p h = h

module _ (m m' : Market) (x : Call) (xs : List Call) (goes : Goes m x)
    (goers : (d : ℕ) → is_in_line (line_in d m'.lines) ≡ is_in_line (line_in d m.lines))
    (lines : map (advanced (λ d. length (events_of d xs))) m'.lines ≡ map (advanced (λ d. length (events_of d (x ∷ xs)))) m.lines) where
  counted : (d : ℕ) → Counted m x xs d (next_of (line_for d m)) (next_of (line_for d m'))
  unfolding Counted
  counted d =
      let a = next-forward (length (events_of d xs)) (line_for d m') in
      let b = next-forward (length (events_of d (x ∷ xs))) (line_for d m) in
      let p : next_of (forward (length (events_of d xs)) (line_for d m')) ≡ next_of (forward (length (events_of d (x ∷ xs))) (line_for d m)) =
      ap next_of (sym (line-advanced (λ c. length (events_of c xs)) d m'.lines) ∙ ap (line_in d) lines
      ∙ line-advanced (λ c. length (events_of c (x ∷ xs))) d m.lines) in
      let q : cond (is_in_line (line_for d m')) 0 (length (events_of d xs)) ≡ cond (is_in_line (line_for d m)) 0 (length (events_of d xs)) =
      ap (λ (t : Bool). cond t 0 (length (events_of d xs))) (goers d) in
      omega arith

  pub sent-later : (r : Applied) → Sent m' xs r → Sent m (x ∷ xs) r
  sent-later r h = go r.kind h
    where
      go : (k : Kind) → SentAs k m' xs r → SentAs k m (x ∷ xs) r
      go Kind.Snapshot t = t
      go Kind.Book t = book-later m x xs r.conn (next_of (line_for r.conn m)) (next_of (line_for r.conn m')) r goes (counted r.conn) t
      go Kind.Print t = (print-later x xs r.conn (r.key, r.message) t.0, t.1, t.2)
