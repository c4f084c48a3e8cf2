-- Moves one after the other.
use mathlib.Core.Path.{◌≡◌, refl, sym, ap, ◌∙◌, subst}
use mathlib.Core.List.{List, [], ◌∷◌, ◌++◌, append_assoc}
use Prim.Native.Nat.{ℕ, ◌+◌, ◌*◌, ◌≤◌}
use native.Mathlib.Omega.{arith}
use lib.ListN.{length, length-append, take-append-drop}
use Rattle.rules.specs.declared.Applied.{Applied}
use Rattle.rules.specs.Lines.{Market}
use Rattle.rules.specs.Entering.{Work, begin, on_market, put_out}
use Rattle.rules.specs.Sound.{holdings}
use Rattle.rules.proofs.ListLaws.{append-nil}
use Rattle.rules.proofs.SoundMoves.{Bound, SoundW}
use Rattle.store.specs.Store.{market_of, Sized, Sound}
use Rattle.store.specs.Moves.{Moved}
use Rattle.store.proofs.FrameLaws.{moved_on, moved-sound}
use Rattle.output.specs.Output.{record_words, records_words, over_at}
use Rattle.output.proofs.OverLaws.{records-append, records-length, over-twice}
use Rattle.moves.specs.Does.{Goes, Does, Ready}

-- nothing is written
over_none : (a : ℕ) (v : List ℕ) → v ≡ over_at a (records_words []) v
unfolding records_words
over_none a v = sym (take-append-drop a v)

over-one : (a : ℕ) (r : Applied) (v : List ℕ) → over_at a (record_words r) v ≡ over_at a (records_words (r ∷ [])) v
unfolding records_words
over-one a r v = refl

-- the words stay what they are
pub moved_none : {w : List ℕ} → Sized w → Moved w w (market_of w)
moved_none z = record { market = refl; sized = z; kinds = λ k. k }

pub goes_then : {w v : List ℕ} {n : ℕ} {w₁ v₁ : List ℕ} {n₁ : ℕ} {w₂ v₂ : List ℕ} {n₂ : ℕ} {k k₁ k₂ : Work} → 7 * n ≤ length v
    → Goes w v n w₁ v₁ n₁ k k₁ → Goes w₁ v₁ n₁ w₂ v₂ n₂ k₁ k₂ → Goes w v n w₂ v₂ n₂ k k₂
goes_then {w} {v} {n} {w₁} {v₁} {n₁} {w₂} {v₂} {n₂} {k} {k₁} {k₂} h p q =
    let xs = p.more in
    let ys = q.more in
    let l = records-length xs in
    let e : 7 * n₁ ≡ 7 * n + length (records_words xs) = (let c = p.count in omega arith) in
    record {
      more = xs ++ ys;
      out = q.out ∙ ap (λ (z : List Applied). z ++ ys) p.out ∙ append_assoc k.out xs ys;
      moved = moved_on p.moved q.moved;
      words = q.words ∙ (λ i. over_at (e i) (records_words ys) (p.words i)) ∙ over-twice (7 * n) (records_words xs) (records_words ys) v h ∙ ap (λ (z : List ℕ). over_at (7 * n) z v) (sym (records-append xs ys));
      count = (let a = p.count in let b = q.count in let c = length-append xs ys in omega arith);
    }

pub does-then : {w v : List ℕ} {n : ℕ} {w₁ v₁ : List ℕ} {n₁ : ℕ} {w₂ v₂ : List ℕ} {n₂ : ℕ} (f g : Work → Work) → 7 * n ≤ length v
    → Does f w v n w₁ v₁ n₁ → Does g w₁ v₁ n₁ w₂ v₂ n₂ → Does (λ k. g (f k)) w v n w₂ v₂ n₂
does-then f g h p q k e = let a = p k e in goes_then h a (q (f k) (sym a.moved.market))

-- only the market and the records of a call under way matter
pub goes-as : {w v : List ℕ} {n : ℕ} {w₁ v₁ : List ℕ} {n₁ : ℕ} {k k₁ k₂ : Work} → k₁.market ≡ k₂.market → k₁.out ≡ k₂.out
    → Goes w v n w₁ v₁ n₁ k k₁ → Goes w v n w₁ v₁ n₁ k k₂
goes-as {w} {v} {n} {w₁} p q g =
    record { more = g.more; out = sym q ∙ g.out; moved = subst (Moved w w₁) p g.moved; words = g.words; count = g.count }

pub goes-is : {w v : List ℕ} {n : ℕ} {w₁ v₁ : List ℕ} {n₁ : ℕ} {k k₁ k₂ : Work} → k₁ ≡ k₂ → Goes w v n w₁ v₁ n₁ k k₁ → Goes w v n w₁ v₁ n₁ k k₂
goes-is {w} {v} {n} {w₁} {v₁} {n₁} {k} e g = subst (Goes w v n w₁ v₁ n₁ k) e g

pub does-as : {w v : List ℕ} {n : ℕ} {w₁ v₁ : List ℕ} {n₁ : ℕ} (f g : Work → Work) → ((k : Work) → k.market ≡ market_of w → f k ≡ g k)
    → Does f w v n w₁ v₁ n₁ → Does g w v n w₁ v₁ n₁
does-as f g e p k q = goes-is (e k q) (p k q)

-- nothing done
pub does-none : {w v : List ℕ} {n : ℕ} → Sized w → Does (λ k. k) w v n w v n
does-none {w} {v} {n} z k e =
    record { more = []; out = sym (append-nil k.out); moved = subst (Moved w w) (sym e) (moved_none z); words = over_none (7 * n) v; count = omega arith }

-- a move on the store alone
pub does-market : {w w₁ v : List ℕ} {n : ℕ} (f : Market → Market) → Moved w w₁ (f (market_of w)) → Does (on_market f) w v n w₁ v n
does-market {w} {w₁} {v} {n} f m k e =
    record { more = []; out = sym (append-nil k.out); moved = subst (λ z. Moved w w₁ (f z)) (sym e) m; words = over_none (7 * n) v; count = omega arith }

-- a record put out
pub does-put : {w v v₁ : List ℕ} {n n₁ : ℕ} (r : Applied) → Sized w → (n₁ ≡ n + 1) × (v₁ ≡ over_at (7 * n) (record_words r) v) → Does (put_out r) w v n w v₁ n₁
does-put {w} {v} {v₁} {n} {n₁} r z p k e =
    record { more = r ∷ []; out = refl; moved = subst (Moved w w) (sym e) (moved_none z); words = p.1 ∙ over-one (7 * n) r v; count = p.0 }

-- ---- what is ready stays ready

pub begins : {w : List ℕ} → Sound w → SoundW (holdings (market_of w).lines, (market_of w).limits) (begin (market_of w))
begins s = record { sound = s.market; limits = refl; spent = omega arith }

-- f leaves a sound call under way sound
pub ready-then : {w v : List ℕ} {n : ℕ} {w₁ v₁ : List ℕ} {n₁ : ℕ} (f : Work → Work) → ((Z : Bound) (k : Work) → k.market ≡ market_of w → SoundW Z k → SoundW Z (f k))
    → length v₁ ≡ length v → Does f w v n w₁ v₁ n₁ → Ready w v n → Ready w₁ v₁ n₁
ready-then {w} {v} {n} {w₁} {v₁} {n₁} f keeps l d r =
    let g = d (begin (market_of w)) refl in
    let s = keeps (holdings (market_of w).lines, (market_of w).limits) (begin (market_of w)) refl (begins r.sound) in
    let a = s.spent in
    let b = ap length g.out in
    let c = g.count in
    let e = ap (λ (m : Market). holdings m.lines) g.moved.market in
    let h = r.room in
    record { sound = moved-sound r.sound g.moved s.sound; room = omega arith }
