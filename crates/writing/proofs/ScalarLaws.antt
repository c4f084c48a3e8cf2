-- Strings, numbers and literals that stand in a text: what they are by their first byte, where they end, and what is written of them.
use mathlib.Core.Path.{◌≡◌, refl, sym, ◌∙◌, ap}
use mathlib.Core.Bool.{true, false, ◌||◌, or-true, or-false}
use mathlib.Core.List.{List, [], ◌∷◌, ◌++◌}
use Prim.Native.Nat.{ℕ, ◌+◌, ◌-◌, ◌≤◌, ◌<◌}
use native.Mathlib.Omega.{arith}
use borrow.Author.Tests.{eq-eqb, ne_eqb, eqb-true}
use lib.Dec.{eqb}
use lib.ListN.{length, take, drop, set, length-append, length-take, length-drop}
use Rattle.json_text.specs.Bytes.{is_digit}
use Rattle.json_text.specs.Canonical.{canonical}
use Rattle.json_text.specs.Content.{content}
use Rattle.json_text.specs.Grammar.{Chars}
use Rattle.json_text.specs.Numbers.{Number}
use Rattle.json_text.specs.Values.{Value, null, boolean, number, string, array, object}
use Rattle.json_text.specs.Work.{byte_at, chars_rest, number_rest, up_to, Ends}
use Rattle.std.specs.Prelude.{Option, Some, IsSome}
use Rattle.json_text.proofs.CharsLaws.{chars_rest_lem}
use Rattle.json_text.proofs.Fronts.{starts_number, starts, val-starts}
use Rattle.json_text.proofs.Inversion.{val-null, val-true, val-false, val-string, val-number}
use Rattle.json_text.proofs.NumberLaws.{number-rest}
use Rattle.json_text.proofs.Places.{byte-here, behind-here}
use Rattle.member_order.specs.Names.{chars_text}
use Rattle.member_order.proofs.TextLaws.{chars-text}
use Rattle.writing.specs.declared.Spot.{Spot}
use Rattle.writing.specs.Writing.{written, PutString, WritesScalar, WroteScalar}
use Rattle.writing.proofs.Spanning.{one_place, found_some, place_found}
use Rattle.writing.proofs.WrittenLaws.{written_one, written_then, written_next}

-- the bytes of a text from one place up to another
up-to-place :
    (t : List ℕ) (at end : ℕ) → at ≤ end → end ≤ length t → up_to (drop end t) (drop at t) ≡ take (end - at) (drop at t)
up-to-place t at end h k =
    let e : length (drop at t) - length (drop end t) ≡ end - at = simp length-drop (omega arith) in
    rw e

-- the canonical bytes of a number and of a string: a tag, its text and FF
tagged-length : (tag : ℕ) (x : List ℕ) → length (tag ∷ (x ++ 0xFF ∷ [])) ≡ length x + 2
tagged-length tag x = omega (arith, length-append x (0xFF ∷ []))

canonical-number : {v : Value} {x : List ℕ} → v ≡ number x → canonical (content v) ≡ 2 ∷ (x ++ 0xFF ∷ [])
unfolding canonical content
canonical-number e = rw e

canonical-string : {v : Value} {x : List ℕ} → v ≡ string x → canonical (content v) ≡ 3 ∷ (x ++ 0xFF ∷ [])
unfolding canonical content
canonical-string e = rw e

canonical-null : {v : Value} → v ≡ null → canonical (content v) ≡ 0 ∷ []
unfolding canonical content
canonical-null e = rw e

canonical-true : {v : Value} → v ≡ boolean true → canonical (content v) ≡ 1 ∷ 1 ∷ []
unfolding canonical content
canonical-true e = rw e

canonical-false : {v : Value} → v ≡ boolean false → canonical (content v) ≡ 1 ∷ 0 ∷ []
unfolding canonical content
canonical-false e = rw e

canonical-some : (v : Value) → 0 < length (canonical v)
unfolding canonical
canonical-some null = omega arith
canonical-some (boolean b) = omega arith
canonical-some (number x) = omega arith
canonical-some (string x) = omega arith
canonical-some (array vs) = omega arith
canonical-some (object ms) = omega arith

-- a number's first byte: - or a digit
pub minus-begins : (b : ℕ) → b ≡ 0x2D → (eqb b 0x2D || is_digit b) ≡ true
minus-begins b e = rw (eq-eqb b 0x2D e)

pub digit-begins : (b a : ℕ) → b ≡ a → is_digit b ≡ true → (eqb a 0x2D || is_digit a) ≡ true
digit-begins b a e h = rw (← e, h) (or-true (eqb b 0x2D))

pub neither-begins : (b : ℕ) → (b ≡ 0x2D → ⊥) → is_digit b ≡ false → (eqb b 0x2D || is_digit b) ≡ false
neither-begins b n h = rw (ne_eqb b 0x2D n, h)

-- two bytes into a list, one behind the other
two-written :
    (o : List ℕ) (pos a b : ℕ) → pos + 1 < length o → set (set o pos a) (pos + 1) b ≡ written pos (a ∷ b ∷ []) o
two-written o pos a b h =
    rw (written_one pos a o (omega arith)) (written_next pos (a ∷ []) o (pos + 1) b refl h)

-- a tag, and behind it what is written there
tag-written :
    (o : List ℕ) (pos tag : ℕ) (x : List ℕ) → pos < length o → written (pos + 1) x (set o pos tag) ≡ written pos (tag ∷ x) o
tag-written o pos tag x h = rw (written_one pos tag o h) (written_then pos (tag ∷ []) x o (omega arith))

module _ (t out : List ℕ) (at pos : ℕ) (w : WritesScalar t out at pos) where
  abbrev value : Value
  value = w.spans.value

  abbrev end : ℕ
  end = w.end

  here : (b : ℕ) → byte_at t at ≡ b → byte_at (drop at t) 0 ≡ b
  here b e = byte-here t at ∙ e

  -- what is left in the output, where the bytes are known
  scalar-room : (x : List ℕ) → canonical (content value) ≡ x → pos + length x ≤ length out
  scalar-room x e = rw e at w.room

  pub some-room : pos < length out
  some-room = omega (arith, w.room, canonical-some (content value))

  scalar-wrote :
      (x out' : List ℕ) (r : Spot) →
      canonical (content value) ≡ x → r.at ≡ end → out' ≡ written pos x out → r.pos ≡ pos + length x → WroteScalar t out out' at pos r
  scalar-wrote x out' r e p b n =
      let s = w.spans in
      record {
        spans = record { value = s.value; is = rw p s.is; stop = rw p s.stop; on = rw p s.on; fits = rw p s.fits };
        bytes = rw e b;
        next = rw e n;
      }

  module _ (b : byte_at t at ≡ 0x22) where
    abbrev text : List ℕ
    text = chars_text (drop (at + 1) t)

    string-chars : (x : List ℕ) × (value ≡ string x) × Chars (drop (at + 1) t) x (drop end t)
    string-chars =
        let q = val-string w.spans.is (here 0x22 b) in
        (q.0, q.1, rw behind-here at q.2)

    string_bytes : canonical (content value) ≡ 3 ∷ (text ++ 0xFF ∷ [])
    string_bytes = let q = string-chars in canonical-string (q.1 ∙ ap string (sym (chars-text q.2)))

    string-ends : chars_rest (drop (at + 1) t) ≡ Some (drop end t)
    string-ends = chars_rest_lem string-chars.2

    pub string-room : pos + 1 + length text + 1 ≤ length out
    string-room = omega (arith, scalar-room _ string_bytes, tagged-length 3 text)

    pub string-wrote : (out' : List ℕ) (r : Spot) → PutString t (at + 1) (set out pos 3) out' (pos + 1) r → WroteScalar t out out' at pos r
    string-wrote out' r p =
        let m = string-room in
        let l = tagged-length 3 text in
        scalar-wrote (3 ∷ (text ++ 0xFF ∷ [])) out' r string_bytes
        (one_place t r.at end (p.end _ string-ends) p.fits w.spans.fits)
        (p.bytes ∙ tag-written out pos 3 (text ++ 0xFF ∷ []) (omega arith))
        (omega (arith, p.next))

  module _ (b : (eqb (byte_at t at) 0x2D || is_digit (byte_at t at)) ≡ true) where
    number_is : (value ≡ number (up_to (drop end t) (drop at t))) × Number (drop at t) (drop end t)
    unfolding starts_number
    number_is = val-number w.spans.is (rw byte-here b)

    number-ends : number_rest (drop at t) ≡ Some (drop end t)
    number-ends = number-rest number_is.1 w.spans.stop

    number-bytes : canonical (content value) ≡ 2 ∷ (take (end - at) (drop at t) ++ 0xFF ∷ [])
    number-bytes =
        let s = w.spans in
        canonical-number (number_is.0 ∙ ap number (up-to-place t at end (omega arith) s.fits))

    number-length : length (take (end - at) (drop at t)) ≡ end - at
    number-length = let s = w.spans in simp (length-take, length-drop) (omega arith)

    module _ (r : Option ℕ) (z : Ends t (at + 1) (number_rest (drop at t)) r) where
      pub number-some : IsSome r
      number-some = found_some t (at + 1) end _ r z number-ends

      pub number-end-is : (e : ℕ) → r ≡ Some e → e ≡ end
      number-end-is e p = place_found t (at + 1) end e _ r z number-ends w.spans.fits p

    pub number-room : pos + 1 + (end - at) + 1 ≤ length out
    number-room = omega (arith, scalar-room _ number-bytes, tagged-length 2 (take (end - at) (drop at t)), number-length)

    pub number-wrote :
        (e last : ℕ) (out' : List ℕ) →
        e ≡ end → out' ≡ written (pos + 1) (take (e - at) (drop at t)) (set out pos 2) → last ≡ pos + 1 + (e - at) →
        WroteScalar t out (set out' last 0xFF) at pos (record { at = e; pos = last + 1 })
    number-wrote e last out' p o n =
        let m = number-room in
        let l = number-length in
        let x = take (end - at) (drop at t) in
        let f : set out' last 0xFF ≡ written pos ((2 ∷ x) ++ 0xFF ∷ []) out =
        rw (o, p, tag-written out pos 2 x (omega arith)) (written_next pos (2 ∷ x) out last 0xFF (omega arith) (omega arith)) in
        scalar-wrote (2 ∷ (x ++ 0xFF ∷ [])) _ _ number-bytes p f (omega (arith, tagged-length 2 x))

  module _ (b : byte_at t at ≡ 0x6E) where
    null-bytes : canonical (content value) ≡ 0 ∷ []
    null-bytes = canonical-null (val-null w.spans.is (here 0x6E b)).0

    null-end : at + 4 ≡ end
    null-end =
        let s = w.spans in
        omega (arith, simp length-drop at (ap length (val-null s.is (here 0x6E b)).1))

    null-room : pos + 1 ≤ length out
    null-room = scalar-room _ null-bytes

    pub null-wrote : WroteScalar t out (set out pos 0) at pos (record { at = at + 4; pos = pos + 1 })
    null-wrote = scalar-wrote (0 ∷ []) _ _ null-bytes null-end (written_one pos 0 out (omega (arith, null-room))) refl

  module _ (b : byte_at t at ≡ 0x74) where
    true-bytes : canonical (content value) ≡ 1 ∷ 1 ∷ []
    true-bytes = canonical-true (val-true w.spans.is (here 0x74 b)).0

    true-end : at + 4 ≡ end
    true-end =
        let s = w.spans in
        omega (arith, simp length-drop at (ap length (val-true s.is (here 0x74 b)).1))

    pub true-room : pos + 2 ≤ length out
    true-room = scalar-room _ true-bytes

    pub true-wrote : WroteScalar t out (set (set out pos 1) (pos + 1) 1) at pos (record { at = at + 4; pos = pos + 2 })
    true-wrote = scalar-wrote (1 ∷ 1 ∷ []) _ _ true-bytes true-end (two-written out pos 1 1 (omega (arith, true-room))) refl

  module _ (b : byte_at t at ≡ 0x66) where
    false-bytes : canonical (content value) ≡ 1 ∷ 0 ∷ []
    false-bytes = canonical-false (val-false w.spans.is (here 0x66 b)).0

    false-end : at + 5 ≡ end
    false-end =
        let s = w.spans in
        omega (arith, simp length-drop at (ap length (val-false s.is (here 0x66 b)).1))

    pub false-room : pos + 2 ≤ length out
    false-room = scalar-room _ false-bytes

    pub false-wrote : WroteScalar t out (set (set out pos 1) (pos + 1) 0) at pos (record { at = at + 5; pos = pos + 2 })
    false-wrote = scalar-wrote (1 ∷ 0 ∷ []) _ _ false-bytes false-end (two-written out pos 1 0 (omega (arith, false-room))) refl

  -- what begins with no other byte is false
  pub is_false :
      (b : ℕ) → b ≡ byte_at t at → (b ≡ 0x22 → ⊥) → (b ≡ 0x5B → ⊥) → (b ≡ 0x7B → ⊥) → (eqb b 0x2D || is_digit b) ≡ false →
      (b ≡ 0x6E → ⊥) → (b ≡ 0x74 → ⊥) → byte_at t at ≡ 0x66
  unfolding starts starts_number
  is_false b p s a o n m h =
      let e : starts b ≡ true = rw (p, ← byte-here t at) (val-starts w.spans.is) in
      sym p ∙ eqb-true b 0x66
      (simp (ne_eqb b 0x6E m, ne_eqb b 0x74 h, ne_eqb b 0x22 s, ne_eqb b 0x5B a, ne_eqb b 0x7B o, n, or-false) at e)
