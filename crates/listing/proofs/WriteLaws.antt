-- Laws of text that is written into a buffer.
use mathlib.Core.Path.{◌≡◌, refl, sym, ap, subst, ◌∙◌}
use mathlib.Core.List.{List, [], ◌∷◌, ◌++◌}
use Prim.Native.Nat.{ℕ, ◌+◌, ◌-◌, ◌*◌, ◌^◌, ◌≤◌, ◌<◌}
use native.Mathlib.Numerals.{add-one}
use native.Mathlib.Omega.{arith}
use borrow.Author.Tests.{lt-ltb, le-ltb}
use borrow.Rule.Slice.PartMut.{put_mid}
use lib.ListN.{length, take, drop, set, length-append, take-append-drop, get_or}
use Rattle.std.proofs.Math.Seq.{take-append_seam, drop-append_seam}
use lib.Seq.{set_split, drop-drop}
use Rattle.std.specs.Fmt.{decimal as std_decimal}
use Rattle.std.proofs.lemmas.Fmt.{AppendsLastDigit, decimal_from_appends, length-decimal-le}
use Rattle.output.specs.Output.{over_at}
use Rattle.output.proofs.OverLaws.{over-twice}
use Rattle.listing.specs.declared.writing.Lines.{Lines}
use Rattle.listing.specs.Puts.{Puts}
use Rattle.listing.specs.Text.{Wrote, digits_up_to, decimal, number, record_text, records_text, report_text, report, records_of, reports_text}

-- ---- one text behind the other

pub behind-it : {n r s : ℕ} {xs ys u v w : List ℕ} → n ≤ length u → Wrote n xs u v r → Wrote r ys v w s → Wrote n (xs ++ ys) u w s
behind-it {n} {r} {s} {xs} {ys} {u} {v} {w} h a b =
    let l = length-append xs ys in
    let p = a.place in
    let q = b.place in
    record {
      place = omega arith;
      text = b.text ∙ (λ i. over_at (p i) ys (a.text i)) ∙ over-twice n xs ys u h;
    }

pub nothing : (n : ℕ) (u : List ℕ) → Wrote n [] u u n
nothing n u = record { place = omega arith; text = sym (take-append-drop n u) }

pub puts_then : {xs ys : List ℕ} {a b c : Lines} → Puts xs a b → Puts ys b c → Puts (xs ++ ys) a c
puts_then {xs} {ys} {a} {b} {c} p q =
    let w = p.wrote.place in
    record {
      same = q.same ∙ p.same;
      size = q.size ∙ p.size;
      fits = q.fits;
      wrote = behind-it (omega arith) p.wrote q.wrote;
    }

pub puts_nothing : (a : Lines) → a.len ≤ length a.text.now → Puts [] a a
puts_nothing a h = record { same = refl; size = refl; fits = h; wrote = nothing a.len a.text.now }

pub puts_other : {xs ys : List ℕ} {a b : Lines} → xs ≡ ys → Puts xs a b → Puts ys a b
puts_other {xs} {ys} {a} {b} e p = subst (λ (l : List ℕ). Puts l a b) e p

-- ---- decimals

from-front : AppendsLastDigit digits_up_to
unfolding digits_up_to
from-front =
    record {
      one = λ k n h. rw (lt-ltb n 10 h);
      more = λ k n h. rw (le-ltb n 10 h);
    }

pub short : (x : ℕ) → x < 2 ^ 64 → length (std_decimal x) ≤ 20
short x h = length-decimal-le 20 x (omega arith) (omega arith) h

pub as-decimal : (x : ℕ) → x < 2 ^ 64 → std_decimal x ≡ decimal x
as-decimal x h = sym (decimal_from_appends digits_up_to from-front 20 x h (short x h))

-- ---- lists of entries of n words each: the j-th, and what is behind it

module _ (n j : ℕ) (list entry after : List ℕ) where
  pub next_entry : {rest : List ℕ} → rest ≡ drop (n * j) list → rest ≡ entry ++ after → length entry ≡ n → entry ≡ take n (drop (n * j) list)
  next_entry d e l = sym (take-append_seam entry after) ∙ (λ i. take (l i) ((sym e ∙ d) i))

  pub behind_entry : {rest : List ℕ} → rest ≡ drop (n * j) list → rest ≡ entry ++ after → length entry ≡ n → after ≡ drop (n * (j + 1)) list
  behind_entry d e l =
      let k : n * j + n ≡ n * (j + 1) = omega arith in
      sym (drop-append_seam entry after) ∙ (λ i. drop (l i) ((sym e ∙ d) i)) ∙ drop-drop n (n * j) list ∙ ap (λ (k : ℕ). drop k list) k

-- ---- records and reports, one behind the other

pub records_more : (i : ℕ) (rows row : List ℕ) {a b c : Lines} → row ≡ take 7 (drop (7 * i) rows) → Puts (records_text i rows) a b → Puts (record_text row) b c
    → Puts (records_text (i + 1) rows) a c
unfolding records_text
records_more i rows row e p q = rw (add-one i) (puts_then p (puts_other (ap record_text e) q))

module _ (j : ℕ) (rs out row rest : List ℕ) where
  pub reports_more : {a b c : Lines} → row ≡ report j rs → rest ≡ drop (7 * records_of j rs) out → Puts (reports_text j rs out) a b
      → Puts (report_text row (take (7 * get_or row 2 0) rest)) b c → Puts (reports_text (j + 1) rs out) a c
  unfolding reports_text
  reports_more {a} {b} {c} e d p q = rw (add-one j) (puts_then p (puts_other (λ i. report_text (e i) (take (7 * get_or (e i) 2 0) (d i))) q))

  pub rest_more : row ≡ report j rs → rest ≡ drop (7 * records_of j rs) out → drop (7 * get_or row 2 0) rest ≡ drop (7 * records_of (j + 1) rs) out
  unfolding records_of
  rest_more e d =
      let c = get_or (report j rs) 2 0 in
      let k : 7 * records_of j rs + 7 * c ≡ 7 * (records_of j rs + c) = omega arith in
      rw (add-one j) ((λ i. drop (7 * get_or (e i) 2 0) (d i)) ∙ drop-drop (7 * c) (7 * records_of j rs) out ∙ ap (λ (k : ℕ). drop k out) k)

-- ---- the same of a buffer alone: bytes copied to a place, one byte stored, a number with a byte behind it

pub copied : (n : ℕ) (xs ys w : List ℕ) → ys ≡ xs → Wrote n xs w (put_mid n ((n + length xs) - n) w ys) (n + length xs)
copied n xs ys w e =
    let k : (n + length xs) - n ≡ length xs = omega arith in
    record { place = refl; text = λ i. put_mid n (k i) w (e i) }

pub stored : (m x : ℕ) (w : List ℕ) → m < length w → Wrote m (x ∷ []) w (set w m x) (m + 1)
stored m x w h =
    record {
      place = refl;
      text = set_split w m x h ∙ ap (λ (l : List ℕ). take m w ++ (x ∷ l)) (ap (λ (k : ℕ). drop k w) (sym (add-one m)) ∙ sym (drop-drop 1 m w));
    }

pub number-done : (n m x end : ℕ) (ds u v : List ℕ) → ds ≡ std_decimal x → x < 2 ^ 64 → n + 21 ≤ length u → length v ≡ length u → Wrote n ds u v m
    → (Wrote n (number x end) u (set v m end) (m + 1)) × (m + 1 ≤ n + 21)
number-done n m x end ds u v is size room kept w =
    let e : ds ≡ decimal x = is ∙ as-decimal x size in
    let l : length ds ≤ 20 = rw is (short x size) in
    let p = w.place in (
      behind-it (omega arith) (subst (λ (l : List ℕ). Wrote n l u v m) e w) (stored m end v (omega arith)),
      omega arith,
    )
