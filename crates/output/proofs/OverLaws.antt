-- Laws of what is written over a list.
use mathlib.Core.Path.{◌≡◌, refl, sym, ap, ◌∙◌}
use mathlib.Core.List.{List, [], ◌∷◌, ◌++◌, append_assoc}
use Prim.Native.Nat.{ℕ, ◌+◌, ◌-◌, ◌*◌, ◌≤◌}
use native.Mathlib.Omega.{arith}
use lib.ListN.{length, take, drop, length-append}
use lib.Seq.{length-take-le, drop-drop, take-append_seam, drop-append_seam}
use Rattle.rules.specs.declared.Applied.{Applied}
use Rattle.rules.specs.declared.Expired.{Expired}
use Rattle.words.specs.Words.{back}
use Rattle.output.specs.Output.{record_words, records_words, report_words, reports_words, over_at}

-- a part of n words that came back as zs
pub back-over : (a n : ℕ) (ys zs w : List ℕ) → ys ≡ zs → length zs ≡ n → back a (a + n) ys w ≡ over_at a zs w
back-over a n ys zs w q r = let p : (a + n) - a ≡ n = omega arith in rw (q, p, r) refl

pub report-length : (r : Expired) → length (report_words r) ≡ 3
report-length (Expired.Aligned c n) = refl
report-length (Expired.Rebuild c n) = refl
report-length (Expired.Failed c) = refl

-- ---- one behind the other

pub records-append : (xs ys : List Applied) → records_words (xs ++ ys) ≡ records_words xs ++ records_words ys
unfolding records_words
records-append [] ys = refl
records-append (x ∷ xs) ys = ap (λ (l : List ℕ). record_words x ++ l) (records-append xs ys)

pub records-length : (xs : List Applied) → length (records_words xs) ≡ 7 * length xs
unfolding records_words
records-length [] = refl
records-length (x ∷ xs) = let h = records-length xs in omega arith

pub reports-append : (xs ys : List Expired) → reports_words (xs ++ ys) ≡ reports_words xs ++ reports_words ys
unfolding reports_words
reports-append [] ys = refl
reports-append (x ∷ xs) ys = ap (λ (l : List ℕ). report_words x ++ l) (reports-append xs ys) ∙ sym (append_assoc (report_words x) (reports_words xs) (reports_words ys))

pub reports-length : (xs : List Expired) → length (reports_words xs) ≡ 3 * length xs
unfolding reports_words
reports-length [] = refl
reports-length (x ∷ xs) = let h = reports-length xs in let a = report-length x in let b = length-append (report_words x) (reports_words xs) in omega arith

pub over-twice : (a : ℕ) (xs ys v : List ℕ) → a ≤ length v → over_at (a + length xs) ys (over_at a xs v) ≡ over_at a (xs ++ ys) v
over-twice a xs ys v h =
    let t = take a v in
    let d = drop a v in
    let r = drop (length xs) d in
    let e : length (t ++ xs) ≡ a + length xs = length-append t xs ∙ ap (λ x. x + length xs) (length-take-le a v h) in
    let q : t ++ (xs ++ r) ≡ (t ++ xs) ++ r = sym (append_assoc t xs r) in
    let front : take (a + length xs) (t ++ (xs ++ r)) ≡ t ++ xs = ap (take (a + length xs)) q ∙ ap (λ n. take n ((t ++ xs) ++ r)) (sym e) ∙ take-append_seam (t ++ xs) r in
    let rest : drop (a + length xs) (t ++ (xs ++ r)) ≡ r = ap (drop (a + length xs)) q ∙ ap (λ n. drop n ((t ++ xs) ++ r)) (sym e) ∙ drop-append_seam (t ++ xs) r in
    let tail : drop (length ys) r ≡ drop (length (xs ++ ys)) d = drop-drop (length ys) (length xs) d ∙ ap (λ n. drop n d) (sym (length-append xs ys)) in
    (λ i. front i ++ (ys ++ drop (length ys) (rest i)))
    ∙ append_assoc t xs (ys ++ drop (length ys) r)
    ∙ ap (λ (l : List ℕ). t ++ l) (sym (append_assoc xs ys (drop (length ys) r)))
    ∙ ap (λ (l : List ℕ). t ++ ((xs ++ ys) ++ l)) tail
