-- A member in parts: its name, the colon, the place of its value.
use Rattle.std.specs.Prelude.{Some}
use mathlib.Core.Path.{◌≡◌, refl, sym, ◌∙◌, ap}
use mathlib.Core.List.{List, ◌∷◌}
use Prim.Native.Nat.{ℕ, ◌+◌, ◌≤◌, ◌<◌}
use native.Mathlib.Omega.{arith}
use lib.ListN.{length, drop, length-drop}
use Rattle.json_text.specs.Bytes.{is_ws}
use Rattle.json_text.specs.Grammar.{Ws, Chars, Name, name}
use Rattle.json_text.specs.Work.{byte_at, skip_ws, chars_rest}
use Rattle.json_text.proofs.CharsLaws.{chars_rest_lem}
use Rattle.json_text.proofs.Fronts.{val-ws, name-mark}
use Rattle.json_text.proofs.Places.{byte-here, behind-here}
use Rattle.json_text.proofs.Spaces.{ws-skips, skip-front}
use Rattle.member_order.specs.Names.{chars_text, name_at}
use Rattle.member_order.proofs.TextLaws.{chars-text}
use Rattle.content.proofs.Fits.{name-length}
use Rattle.writing.specs.Places.{MemberSpans}
use Rattle.writing.proofs.Spanning.{one_place, byte-stands, Skips}

-- a name: its text, the ws in front of its colon, that behind it
record NameParts (s x r : List ℕ) : Type 0 where
  behind : List ℕ
  colon : List ℕ
  chars : Chars (drop 1 s) x behind
  gap : Ws behind (0x3A ∷ colon)
  more : Ws colon r

name-parts : {s x r : List ℕ} → Name s x r → NameParts s x r
name-parts (name {t} {u} c w v) = record { behind = t; colon = u; chars = c; gap = w; more = v }

module _ {t : List ℕ} {at e : ℕ} (m : MemberSpans t at e) where
  parts : NameParts (drop at t) m.name (drop m.at t)
  parts = name-parts m.named

  mark-stands : byte_at t at ≡ 0x22
  mark-stands = sym (byte-here t at) ∙ name-mark m.named

  pub member-inside : at + 1 ≤ length t
  member-inside = (byte-stands t at 0x22 mark-stands (omega arith)).1

  pub name-text : name_at t at ≡ m.name
  name-text = ap chars_text (sym (behind-here t at)) ∙ chars-text parts.chars

  -- there is room for the name, its marks and its colon in front of the value
  pub name-fits : at + length (name_at t at) + 3 ≤ m.at
  name-fits =
      let n = name-length m.named in
      omega (arith, ap length name-text, length-drop at t, length-drop m.at t, m.spans.on, m.spans.fits)

  -- a member takes four bytes or more
  pub member-takes : at + 4 ≤ e
  member-takes = omega (arith, name-fits, m.spans.on)

  -- behind the name
  module _ (r : ℕ) (p : (s : List ℕ) → chars_rest (drop (at + 1) t) ≡ Some s → drop r t ≡ s) where
    behind-name : drop r t ≡ parts.behind
    behind-name = p parts.behind (rw behind-here at (chars_rest_lem parts.chars))

    module _ (j : ℕ) (k : Skips t r j) where
      colon-left : drop j t ≡ 0x3A ∷ parts.colon
      unfolding is_ws
      colon-left = k.0 ∙ ap skip_ws behind-name ∙ ws-skips parts.gap ∙ skip-front (0x3A ∷ parts.colon) refl

      colon-stands : (drop j t ≡ 0x3A ∷ drop (j + 1) t) × (j + 1 ≤ length t)
      colon-stands = byte-stands t j 0x3A (sym (byte-here t j) ∙ ap (λ (l : List ℕ). byte_at l 0) colon-left) (omega arith)

      pub colon-inside : j + 1 ≤ length t
      colon-inside = colon-stands.1

      module _ (i : ℕ) (l : Skips t (j + 1) i) where
        pub value-left : drop i t ≡ drop m.at t
        value-left =
            let a = colon-left in
            let b = colon-stands.0 in
            let c : drop (j + 1) t ≡ parts.colon = cc in
            l.0 ∙ ap skip_ws c ∙ ws-skips parts.more ∙ skip-front (drop m.at t) (val-ws m.spans.is)

        pub value-place : i ≡ m.at
        value-place = one_place t i m.at value-left l.2 (omega (arith, m.spans.on, m.spans.fits))

        pub value-behind : at < i
        value-behind = omega (arith, value-place, m.behind)
