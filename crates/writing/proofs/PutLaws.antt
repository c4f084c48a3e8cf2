-- What the functions put: a short length, one char, a string char by char.
use Rattle.std.specs.Prelude.{None, Option, Some}
use mathlib.Core.Path.{◌≡◌, refl, sym, ◌∙◌, ap}
use mathlib.Core.Bool.{true}
use mathlib.Core.List.{List, [], ◌∷◌, ◌++◌, append-nil, append_assoc}
use Prim.Native.Nat.{ℕ, ◌+◌, ◌-◌, ◌/◌, ◌%◌, ◌≤◌, ◌<◌}
use native.Mathlib.Numerals.{add-one, add-two}
use native.Mathlib.Omega.{arith}
use lib.ListN.{length, drop, get_or, set, length-append, replicate, length-replicate, replicate-append-replicate}
use Rattle.json_text.specs.Bytes.{plain}
use Rattle.json_text.specs.Canonical.{little_endian}
use Rattle.json_text.specs.Work.{byte_at, char_len, chars_rest}
use Rattle.json_text.proofs.Bounds.{byte-at}
use Rattle.json_text.proofs.Lengths.{char-plain}
use Rattle.json_text.proofs.StringSteps.{no-mark, chars-on, chars-stuck, char-inside}
use Rattle.member_order.specs.Names.{char_text, chars_text}
use Rattle.member_order.proofs.TextSteps.{text-on, text-stuck, plain-text}
use Rattle.writing.specs.Writing.{written, PutChar, PutString}
use Rattle.writing.specs.declared.Spot.{Spot}
use Rattle.writing.proofs.WrittenLaws.{written_none, written_one, written-length, written_then, written_next, written-sets}

-- a length of a text has two bytes
pub little-short :
    (n : ℕ) → n ≤ 32768 → little_endian 8 n ≡ (n % 256) ∷ (n / 256) ∷ 0 ∷ 0 ∷ 0 ∷ 0 ∷ 0 ∷ 0 ∷ []
unfolding little_endian
little-short n h =
    let e : n / 256 % 256 ≡ n / 256 = omega arith in
    let z : n / 256 / 256 ≡ 0 = omega arith in
    rw (z, e)

abbrev pub zeros : ℕ → List ℕ
zeros n = replicate n 0

pub zeros-length : (n : ℕ) → length (zeros n) ≡ n
zeros-length n = length-replicate n 0

pub zeros-more : (i : ℕ) → 3 ≤ i → zeros (i + 1 - 3) ≡ zeros (i - 3) ++ (0 ∷ [])
zeros-more i h =
    let e : i + 1 - 3 ≡ i - 3 + 1 = omega arith in
    rw e (sym (replicate-append-replicate (i - 3) 1 0))

-- a tag and two bytes, then zeros
abbrev pub begun : List ℕ → (pos tag n : ℕ) → List ℕ
begun o pos tag n = set (set (set o pos tag) (pos + 1) (n % 256)) (pos + 2) (n / 256)

pub header-done :
    (o : List ℕ) (pos tag n : ℕ) → pos + 9 ≤ length o → n ≤ 32768 →
    written (pos + 3) (zeros 6) (begun o pos tag n) ≡ written pos (tag ∷ little_endian 8 n) o
header-done o pos tag n h k =
    let x = tag ∷ (n % 256) ∷ (n / 256) ∷ [] in
    let b : begun o pos tag n ≡ written pos x o = rw (add-one, add-two) (written-sets pos x o (omega arith)) in
    rw (b, little-short n k) (written_then pos x (zeros 6) o (omega arith))

-- nothing follows where there is no end
pub no-rest : {o : Option (List ℕ)} → o ≡ None → (s : List ℕ) → o ≡ Some s → ⊥
no-rest e s k = let z : ◌≡◌ {A = ℕ} 0 1 = cc in omega arith

pub same_rest : {o : Option (List ℕ)} {r : List ℕ} → o ≡ Some r → (s : List ℕ) → o ≡ Some s → r ≡ s
same_rest e s k = cc

-- a string that is put up to a place
pub record Partly (t : List ℕ) (at : ℕ) (o o' : List ℕ) (pos i end : ℕ) : Type 0 where
  pub front : List ℕ
  pub text : chars_text (drop at t) ≡ front ++ chars_text (drop i t)
  pub rest : chars_rest (drop at t) ≡ chars_rest (drop i t)
  pub bytes : o' ≡ written pos front o
  pub next : end ≡ pos + length front
  pub size : length o' ≡ length o
  pub fits : i ≤ length t

pub partly_none : (t : List ℕ) (at : ℕ) (o : List ℕ) (pos : ℕ) → at ≤ length t → Partly t at o o pos at pos
partly_none t at o pos h =
    record { front = []; text = refl; rest = refl; bytes = sym (written_none pos o); next = omega arith; size = refl; fits = h }

module _ {t : List ℕ} {at : ℕ} {o o' : List ℕ} {pos i end : ℕ} (p : Partly t at o o' pos i end)
    (room : pos + length (chars_text (drop at t)) + 1 ≤ length o) where
  pub partly-room : end + length (chars_text (drop i t)) + 1 ≤ length o'
  partly-room = omega (arith, ap length p.text, length-append p.front (chars_text (drop i t)))

  -- no char follows: FF
  pub partly-ends :
      chars_text (drop i t) ≡ [] → (e : ℕ) → e ≤ length t → ((s : List ℕ) → chars_rest (drop i t) ≡ Some s → drop e t ≡ s) →
      PutString t at o (set o' end 0xFF) pos (record { at = e; pos = end + 1 })
  partly-ends z e fits f =
      let x : chars_text (drop at t) ≡ p.front = p.text ∙ (ap (λ (y : List ℕ). p.front ++ y) z ∙ append-nil p.front) in
      let l = partly-room in
      record {
        bytes =
            ap (λ (w : List ℕ). set w end 0xFF) p.bytes
            ∙ (written_next pos p.front o end 0xFF p.next (omega arith) ∙ ap (λ (y : List ℕ). written pos (y ++ (0xFF ∷ [])) o) (sym x));
        next = omega (arith, p.next, ap length x);
        fits = fits;
        end = λ s k. f s (sym p.rest ∙ k);
      }

  -- a char follows
  module _ (h : i < length t) (m : get_or t i 0 ≡ 0x22 → ⊥) {n : ℕ} (l : n ≡ char_len (drop i t)) (k : 0 < n) where
    more : chars_text (drop i t) ≡ char_text (drop i t) ++ chars_text (drop (i + n) t)
    more = text-on t i (no-mark t i h m) l k

    pub partly-char-room : end + length (char_text (drop i t)) ≤ length o'
    partly-char-room = omega (arith, partly-room, ap length more, length-append (char_text (drop i t)) (chars_text (drop (i + n) t)))

    partly-on :
        {o'' : List ℕ} {end' : ℕ} → o'' ≡ written end (char_text (drop i t)) o' → end' ≡ end + length (char_text (drop i t)) →
        Partly t at o o'' pos (i + n) end'
    partly-on b e =
        let c = char_text (drop i t) in
        record {
          front = p.front ++ c;
          text = p.text ∙ (ap (λ (y : List ℕ). p.front ++ y) more ∙ sym (append_assoc p.front c (chars_text (drop (i + n) t))));
          rest = p.rest ∙ chars-on t i h m l (λ z. omega arith);
          bytes =
              b ∙ (ap (λ (w : List ℕ). written end c w) p.bytes
              ∙ (ap (λ (j : ℕ). written j c (written pos p.front o)) p.next
              ∙ written_then pos p.front c o (omega arith)));
          next = omega (arith, p.next, length-append p.front c);
          size = ap length b ∙ written-length end c o' partly-char-room ∙ p.size;
          fits = char-inside t i h l;
        }

  -- a plain byte follows: it stands for itself
  pub partly-plain :
      i < length t → (get_or t i 0 ≡ 0x22 → ⊥) → plain (byte_at t i) ≡ true → Partly t at o (set o' end (get_or t i 0)) pos (i + 1) (end + 1)
  partly-plain h m b =
      let e : char_text (drop i t) ≡ get_or t i 0 ∷ [] = plain-text t i b ∙ ap (λ (x : ℕ). x ∷ []) (sym (byte-at t i h)) in
      let w : set o' end (get_or t i 0) ≡ written end (char_text (drop i t)) o' = rw e (written_one end (get_or t i 0) o' (omega (arith, partly-room))) in
      partly-on h m (char-plain t i b) (omega arith) w (omega (arith, ap length e))

  -- what a function put for a char that is no plain byte
  module _ (h : i < length t) (m : get_or t i 0 ≡ 0x22 → ⊥) {o'' : List ℕ} {r : Spot} (q : PutChar t i o' o'' end r) where
    pub partly-special : (r.at ≡ i → ⊥) → Partly t at o o'' pos r.at r.pos
    partly-special k =
        let g : 0 < char_len (drop i t) = omega (arith, q.at_is) in
        rw q.at_is (partly-on h m refl g (q.some g).0 (q.some g).1)

    -- no char stood there: FF
    pub partly-stuck : r.at ≡ i → PutString t at o (set o'' end 0xFF) pos (record { at = i; pos = end + 1 })
    partly-stuck k =
        let z : char_len (drop i t) ≡ 0 = omega (arith, q.at_is) in
        rw (q.none z).0
        (partly-ends (text-stuck t i h m refl z) i p.fits (λ s e. absurd (no-rest (chars-stuck t i h m refl z) s e)))
