-- One call more of a list: what stands in the lists then.
use Rattle.std.specs.Prelude.{Option, None, Some}
use mathlib.Core.Path.{◌≡◌, refl, sym, ap, ◌∙◌, subst}
use mathlib.Core.List.{List, [], ◌∷◌, ◌++◌, append_assoc, append-nil}
use mathlib.Core.Bool.{Bool, cond}
use Prim.Native.Nat.{ℕ, ◌+◌, ◌-◌, ◌*◌, ◌/◌, ◌≤◌}
use native.Mathlib.Omega.{arith}
use lib.ListN.{length, take, drop, length-append, length-drop, take-append-drop, drop_of_length-le}
use lib.Seq.{take_all, take-append_seam, drop-append_seam, drop-drop}
use borrow.Author.Tests.{lt-ltb, eq-eqb, ne_eqb}
use Rattle.rules.specs.declared.Applied.{Applied}
use Rattle.rules.specs.declared.Expired.{Expired}
use Rattle.rules.specs.Lines.{Market}
use Rattle.rules.specs.Calls.{Answer, done, apply, duplicate, held, ignored, diverged, failed, kept, gone, rebuild, Outcome, refused, did}
use Rattle.rules.specs.Refusals.{Call}
use Rattle.rules.specs.Answers.{Said, number, word, said_by}
use Rattle.words.specs.Words.{part, back}
use Rattle.words.proofs.Parts.{part_length, length_back}
use Rattle.store.specs.Store.{market_of, Sound}
use Rattle.output.specs.Output.{records_words, reports_words, over, over_at}
use Rattle.output.proofs.OverLaws.{records-append, records-length, reports-append, reports-length}
use Rattle.market.specs.Lent as Market
use Rattle.market.specs.Lent.{Lent}
use Rattle.market_tick.specs.Turns.{lent_all}
use Rattle.steps.specs.Steps.{records, report_room}
use Rattle.codes.specs.declared.Told.{Told}
use Rattle.codes.specs.Told.{code_of, said_words, Tells}
use Rattle.batch.specs.declared.Stop.TheVariants as Stop
use Rattle.batch.specs.declared.Counts.{Counts}
use Rattle.batch.specs.Batch.{call_in, Ran, after, after_call, next, Lists, lists, room_in, answers_words, ended}
use Rattle.batch.specs.Turn.{outcome, outcome_in, Does, Stands, Went, Turns}

-- ---- lists of words that grow at their end

-- the tail of a list was lent and written over in front
tail-over : (a : ℕ) (xs v : List ℕ) → back a (length v) (over xs (part a (length v) v)) v ≡ over_at a xs v
tail-over a xs v =
    let l = length-drop a v in
    let t : part a (length v) v ≡ drop a v = take_all (length v - a) (drop a v) (omega arith) in
    let d : drop (length v - a) (drop a v) ≡ [] = drop_of_length-le (drop a v) {i = length v - a} (omega arith) in
    (λ i. take a v ++ (over xs (t i) ++ d i)) ∙ ap (λ (z : List ℕ). take a v ++ z) (append-nil (over xs (drop a v)))

-- xs stand in front, and ys are written behind them
over-more : (xs ys u v : List ℕ) (a : ℕ) → v ≡ over xs u → length xs ≡ a → over_at a ys v ≡ over (xs ++ ys) u
over-more xs ys u v a e l =
    let d = drop (length xs) u in
    (λ i. over_at (sym l i) ys (e i))
    ∙ (λ i. take-append_seam xs d i ++ over ys (drop-append_seam xs d i))
    ∙ sym (append_assoc xs ys (drop (length ys) d))
    ∙ ap (λ (z : List ℕ). (xs ++ ys) ++ z) (drop-drop (length ys) (length xs) u ∙ ap (λ (n : ℕ). drop n u) (sym (length-append xs ys)))

over-fits : (xs u v : List ℕ) → v ≡ over xs u → length v ≡ length u → length xs ≤ length u
over-fits xs u v e l =
    let a = ap length e in
    let b = length-append xs (drop (length xs) u) in
    let c = length-drop (length xs) u in
    omega arith

said-length : (a : Said) → length (said_words a) ≡ 3
said-length (number n) = refl
said-length (word a n m) = refl

answers-more : (xs : List Said) (a : Said) → answers_words (xs ++ (a ∷ [])) ≡ answers_words xs ++ said_words a
unfolding answers_words
answers-more [] a = append-nil (said_words a)
answers-more (x ∷ xs) a = ap (λ (z : List ℕ). said_words x ++ z) (answers-more xs a) ∙ sym (append_assoc (said_words x) (answers_words xs) (said_words a))

answers-length : (xs : List Said) → length (answers_words xs) ≡ 3 * length xs
unfolding answers_words
answers-length [] = refl
answers-length (x ∷ xs) = let h = answers-length xs in let a = said-length x in let b = length-append (said_words x) (answers_words xs) in omega arith

-- ---- what stands after records, reports and an answer more

record Grows (now : Lists) (c : Counts) (now₁ : Lists) (c₁ : Counts) (m : Market) (xs : List Applied) (rs : List Expired) (a : Said) : Type 0 where
  pub market : market_of now₁.store ≡ m
  pub sound : Sound now₁.store
  pub size : length now₁.store ≡ length now.store
  pub out : now₁.out ≡ over_at (7 * c.records) (records_words xs) now.out
  pub reports : now₁.reports ≡ over_at (3 * c.reports) (reports_words rs) now.reports
  pub answers : now₁.answers ≡ over_at (3 * c.calls) (said_words a) now.answers
  pub out_size : length now₁.out ≡ length now.out
  pub reports_size : length now₁.reports ≡ length now.reports
  pub answers_size : length now₁.answers ≡ length now.answers
  pub calls : c₁.calls ≡ c.calls + 1
  pub record_count : c₁.records ≡ c.records + length xs
  pub report_count : c₁.reports ≡ c.reports + length rs

module _ (k : Ran) (b : Lists) (c : Counts) (now : Lists) (h : Stands k b c now) where
  pub calls_are : c.calls ≡ length k.answers
  calls_are = let e = (h.leaves Stop.AllDone).answered in cc

  records-are : c.records ≡ length k.out
  records-are = let e = (h.leaves Stop.AllDone).answered in cc

  reports-are : c.reports ≡ length k.reports
  reports-are = let e = (h.leaves Stop.AllDone).answered in cc

  grown : (now₁ : Lists) (c₁ : Counts) (m : Market) (xs : List Applied) (rs : List Expired) (a : Said) → Grows now c now₁ c₁ m xs rs a
      → Stands (record { market = m; out = k.out ++ xs; reports = k.reports ++ rs; answers = k.answers ++ (a ∷ []) }) b c₁ now₁
  grown now₁ c₁ m xs rs a g =
      let out : now₁.out ≡ over (records_words (k.out ++ xs)) b.out =
      g.out ∙ over-more (records_words k.out) (records_words xs) b.out now.out (7 * c.records) (h.leaves Stop.AllDone).out (records-length k.out ∙ ap (λ (n : ℕ). 7 * n) (sym records-are))
      ∙ ap (λ (z : List ℕ). over z b.out) (sym (records-append k.out xs)) in
      let reports : now₁.reports ≡ over (reports_words (k.reports ++ rs)) b.reports =
      g.reports ∙ over-more (reports_words k.reports) (reports_words rs) b.reports now.reports (3 * c.reports) (h.leaves Stop.AllDone).reports (reports-length k.reports ∙ ap (λ (n : ℕ). 3 * n) (sym reports-are))
      ∙ ap (λ (z : List ℕ). over z b.reports) (sym (reports-append k.reports rs)) in
      let answers : now₁.answers ≡ over (answers_words (k.answers ++ (a ∷ []))) b.answers =
      g.answers ∙ over-more (answers_words k.answers) (said_words a) b.answers now.answers (3 * c.calls) (h.leaves Stop.AllDone).answers (answers-length k.answers ∙ ap (λ (n : ℕ). 3 * n) (sym calls_are))
      ∙ ap (λ (z : List ℕ). over z b.answers) (sym (answers-more k.answers a)) in
      let ca = length-append k.answers (a ∷ []) in
      let cx = length-append k.out xs in
      let cr = length-append k.reports rs in
      let e₁ = g.calls in
      let e₂ = g.record_count in
      let e₃ = g.report_count in
      let n₁ = calls_are in
      let n₂ = records-are in
      let n₃ = reports-are in
      let q₁ : c₁.calls ≡ length (k.answers ++ (a ∷ [])) = omega arith in
      let q₂ : c₁.records ≡ length (k.out ++ xs) = omega arith in
      let q₃ : c₁.reports ≡ length (k.reports ++ rs) = omega arith in
      let f₂ = over-fits (records_words (k.out ++ xs)) b.out now₁.out out (g.out_size ∙ h.out_size) in
      let f₃ = over-fits (reports_words (k.reports ++ rs)) b.reports now₁.reports reports (g.reports_size ∙ h.reports_size) in
      let l₂ = records-length (k.out ++ xs) in
      let l₃ = reports-length (k.reports ++ rs) in
      record {
        leaves = λ s. record {
          answered = λ i. ended (q₁ i) (q₂ i) (q₃ i) s;
          market = g.market;
          sound = g.sound;
          size = g.size ∙ (h.leaves Stop.AllDone).size;
          out = out;
          reports = reports;
          answers = answers;
        };
        out_size = g.out_size ∙ h.out_size;
        reports_size = g.reports_size ∙ h.reports_size;
        answers_size = g.answers_size ∙ h.answers_size;
        out_fits = omega arith;
        reports_fit = omega arith;
      }

-- ---- the next call is the one that was made on what is left

after-call : (o : Option Call) (k : Ran) → after_call o k ≡ after (outcome o k.market) k
after-call None k = refl
after-call (Some x) k = refl

-- what is left of the lists is lent to a call
abbrev pub rest : List ℕ → List ℕ → List ℕ → Counts → Lent
rest s v q c = lent_all s (part (7 * c.records) (length v) v) (part (3 * c.reports) (length q) q)

next_is : (w : List ℕ) (k : Ran) (b : Lists) (c : Counts) (s v q z : List ℕ) → Stands k b c (lists s v q z) → 3 * c.calls + 3 ≤ length z → next (room_in b) w k ≡ after (outcome_in w (rest s v q c)) k
unfolding next
next_is w k b c s v q z h l =
    let n₁ = calls_are k b c (lists s v q z) h in
    let n₂ = records-are k b c (lists s v q z) h in
    let n₃ = reports-are k b c (lists s v q z) h in
    let p₂ = part_length (7 * c.records) (length v) v (omega arith) in
    let p₃ = part_length (3 * c.reports) (length q) q (omega arith) in
    let z₁ = h.answers_size in
    let z₂ = h.out_size in
    let z₃ = h.reports_size in
    let m : k.market ≡ market_of s = sym (h.leaves Stop.AllDone).market in
    let e₂ : length b.out / 7 - length k.out ≡ records (part (7 * c.records) (length v) v) = omega arith in
    let e₃ : length b.reports / 3 - length k.reports ≡ report_room (part (3 * c.reports) (length q) q) = omega arith in
    let x : Option Call = call_in w k.market (length b.out / 7 - length k.out) (length b.reports / 3 - length k.reports) in
    ap (λ (t : Bool). cond t (after_call x k) None) (lt-ltb (length k.answers) (length b.answers / 3) (omega arith))
    ∙ after-call x k
    ∙ (λ i. after (outcome (call_in w (m i) (e₂ i) (e₃ i)) (m i)) k)

-- ---- the three ends of a turn

code-some : (a : Answer) → 1 ≤ code_of a
code-some done = omega arith
code-some apply = omega arith
code-some duplicate = omega arith
code-some held = omega arith
code-some ignored = omega arith
code-some diverged = omega arith
code-some failed = omega arith
code-some kept = omega arith
code-some gone = omega arith
code-some rebuild = omega arith

-- the counts after so many records and reports more
abbrev more : Counts → (records reports : ℕ) → Counts
more c records reports = record { calls = c.calls + 1; records = c.records + records; reports = c.reports + reports }

module _ (w : List ℕ) (c : Counts) (s v q z s₁ v₁ q₁ : List ℕ) (t : Told) (d : Does w (rest s v q c) t (lent_all s₁ v₁ q₁)) where
  abbrev o₀ : Outcome
  o₀ = outcome_in w (rest s v q c)

  -- the output and the reports as they came back
  abbrev out₁ : List ℕ
  out₁ = back (7 * c.records) (length v) v₁ v

  abbrev reports₁ : List ℕ
  reports₁ = back (3 * c.reports) (length q) q₁ q

  module _ (lv : length v₁ ≡ length (part (7 * c.records) (length v) v)) (lq : length q₁ ≡ length (part (3 * c.reports) (length q) q)) (fv : 7 * c.records ≤ length v) (fq : 3 * c.reports ≤ length q) where
    out-size : length out₁ ≡ length v
    out-size = length_back (7 * c.records) (length v) v₁ v (record { kept = lv ∙ part_length (7 * c.records) (length v) v (omega arith); start = fv; inside = omega arith })

    reports-size : length reports₁ ≡ length q
    reports-size = length_back (3 * c.reports) (length q) q₁ q (record { kept = lq ∙ part_length (3 * c.reports) (length q) q (omega arith); start = fq; inside = omega arith })

    -- n is how many records the call put out: a refusal's count is its number
    abbrev PutOut : ℕ → Type 0
    PutOut n = (t.code ≡ 0 → n ≡ 0) × ((t.code ≡ 0 → ⊥) → n ≡ t.count)

    pub records_fit : (n : ℕ) → PutOut n → 7 * (c.records + n) ≤ length v
    records_fit n h = go o₀ d.left d.tells
      where
        go : (o : Outcome) → Market.Leaves o (rest s v q c) (lent_all s₁ v₁ q₁) → Tells (said_by o) t.code t.count t.reports → 7 * (c.records + n) ≤ length v
        go (refused x) f e = let g = e.words in let p : 0 ≡ t.code = cc in omega (arith, h.0 (sym p))
        go (did a rs k) f e =
            let g = e.words in
            let i : code_of a ≡ t.code = cc in
            let j = code-some a in
            let p : length k.out ≡ t.count = cc in
            let y = over-fits (records_words k.out) (part (7 * c.records) (length v) v) v₁ f.out lv in
            let x = records-length k.out in
            let m = part_length (7 * c.records) (length v) v (omega arith) in
            omega (arith, h.1 (λ z. omega arith))

    pub reports_fit : 3 * (c.reports + t.reports) ≤ length q
    reports_fit = go o₀ d.left d.tells
      where
        go : (o : Outcome) → Market.Leaves o (rest s v q c) (lent_all s₁ v₁ q₁) → Tells (said_by o) t.code t.count t.reports → 3 * (c.reports + t.reports) ≤ length q
        go (refused x) f e = let g = e.words in let p : 0 ≡ t.reports = cc in omega arith
        go (did a rs k) f e =
            let g = e.words in
            let p : length rs ≡ t.reports = cc in
            let y = over-fits (reports_words rs) (part (3 * c.reports) (length q) q) q₁ f.reports lq in
            let x = reports-length rs in
            let m = part_length (3 * c.reports) (length q) q (omega arith) in
            omega arith

    -- a call without room, or no call: nothing changes
    pub turn-stops : t.code ≡ 0 → t.count ≡ 3 → 3 * c.calls + 3 ≤ length z → Turns w (lists s v q z) c (lists s₁ out₁ reports₁ z) None
    turn-stops e f l =
        record {
          went = λ k b h. subst (λ (x : Option Ran). Went x k b c None (lists s₁ out₁ reports₁ z)) (sym (next_is w k b c s v q z h l)) (go k b h o₀ d.left d.tells);
          counted = tt;
        }
      where
        same : lent_all s₁ v₁ q₁ ≡ rest s v q c → lists s v q z ≡ (lists s₁ out₁ reports₁ z)
        same p =
            let a = 7 * c.records in
            let r = 3 * c.reports in
            let es : s₁ ≡ s = ap (λ (x : Lent). x.store) p in
            let ev : out₁ ≡ v = ap (λ (x : Lent). back a (length v) x.out v) p ∙ tail-over a [] v ∙ take-append-drop a v in
            let eq : reports₁ ≡ q = ap (λ (x : Lent). back r (length q) x.reports q) p ∙ tail-over r [] q ∙ take-append-drop r q in
            (λ i. lists (sym es i) (sym ev i) (sym eq i) z)

        go : (k : Ran) (b : Lists) → Stands k b c (lists s v q z) → (o : Outcome) → Market.Leaves o (rest s v q c) (lent_all s₁ v₁ q₁) → Tells (said_by o) t.code t.count t.reports → Went (after o k) k b c None (lists s₁ out₁ reports₁ z)
        go k b h (refused n) left tells =
            let g = tells.words in
            let p : n ≡ t.count = cc in
            rw (eq-eqb n 3 (p ∙ f)) (subst (λ (x : Lists). Stands k b c x) (same left) h)
        go k b h (did a rs y) left tells = let g = tells.words in let p : code_of a ≡ t.code = cc in let x = code-some a in absurd (omega arith)

    -- another refusal is an answer, as a call that was done
    pub turn-goes : (z₁ : List ℕ) → z₁ ≡ over_at (3 * c.calls) (t.code ∷ t.count ∷ t.reports ∷ []) z → length z₁ ≡ length z → 3 * c.calls + 3 ≤ length z
        → (n : ℕ) → PutOut n → (t.code ≡ 0 → t.count ≡ 3 → ⊥) → Turns w (lists s v q z) c (lists s₁ out₁ reports₁ z₁) (Some (more c n t.reports))
    unfolding records_words reports_words
    turn-goes z₁ ez lz l n e f =
        record {
          went = λ k b h.
              subst (λ (x : Option Ran). Went x k b c (Some (more c n t.reports)) (lists s₁ out₁ reports₁ z₁)) (sym (next_is w k b c s v q z h l)) (go k b h o₀ d.left d.tells);
          counted = refl;
        }
      where
        go : (k : Ran) (b : Lists) → Stands k b c (lists s v q z) → (o : Outcome) → Market.Leaves o (rest s v q c) (lent_all s₁ v₁ q₁) → Tells (said_by o) t.code t.count t.reports → Went (after o k) k b c (Some (more c n t.reports)) (lists s₁ out₁ reports₁ z₁)
        go k b h (refused m) left tells =
            let a = 7 * c.records in
            let r = 3 * c.reports in
            let g = tells.words in
            let p : m ≡ t.count = cc in
            let code : t.code ≡ 0 = cc in
            let none : n ≡ 0 = e.0 code in
            let y : t.reports ≡ 0 = cc in
            let es : s₁ ≡ s = ap (λ (x : Lent). x.store) left in
            rw (ne_eqb m 3 (λ x. f code (sym p ∙ x))) (
              refl,
              subst (λ (x : Ran). Stands x b (more c n t.reports) (lists s₁ out₁ reports₁ z₁)) (λ i. record { market = k.market; out = append-nil k.out i; reports = append-nil k.reports i; answers = k.answers ++ (number m ∷ []) })
                  (grown k b c (lists s v q z) h (lists s₁ out₁ reports₁ z₁) (more c n t.reports) k.market [] [] (number m)
                  (record {
                    market = ap market_of es ∙ (h.leaves Stop.AllDone).market;
                    sound = subst Sound (sym es) (h.leaves Stop.AllDone).sound;
                    size = ap length es;
                    out = ap (λ (x : Lent). back a (length v) x.out v) left ∙ tail-over a [] v;
                    reports = ap (λ (x : Lent). back r (length q) x.reports q) left ∙ tail-over r [] q;
                    answers = ez ∙ ap (λ (x : List ℕ). over_at (3 * c.calls) x z) (sym g);
                    out_size = out-size;
                    reports_size = reports-size;
                    answers_size = lz;
                    calls = refl;
                    record_count = omega arith;
                    report_count = omega arith;
                  })),
            )
        go k b h (did x rs y) left tells =
            let a = 7 * c.records in
            let r = 3 * c.reports in
            let g = tells.words in
            let p : code_of x ≡ t.code = cc in
            let m = code-some x in
            let n₁ : n ≡ t.count = e.1 (λ z. omega arith) in
            let n₂ : t.count ≡ length y.out = cc in
            let n₃ : t.reports ≡ length rs = cc in (
              refl,
              grown k b c (lists s v q z) h (lists s₁ out₁ reports₁ z₁) (more c n t.reports) y.market y.out rs (said_by (did x rs y))
                  (record {
                    market = left.market;
                    sound = left.sound;
                    size = left.size;
                    out = ap (λ (x : List ℕ). back a (length v) x v) left.out ∙ tail-over a (records_words y.out) v;
                    reports = ap (λ (x : List ℕ). back r (length q) x q) left.reports ∙ tail-over r (reports_words rs) q;
                    answers = ez ∙ ap (λ (x : List ℕ). over_at (3 * c.calls) x z) (sym g);
                    out_size = out-size;
                    reports_size = reports-size;
                    answers_size = lz;
                    calls = refl;
                    record_count = omega arith;
                    report_count = omega arith;
                  }),
            )
