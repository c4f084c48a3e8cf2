-- A message's value stands in its text behind leading ws; there its canonical bytes are written at the front of the output.
use mathlib.Core.Path.{◌≡◌, refl, sym, ◌∙◌, ap, subst}
use mathlib.Core.Bool.{false}
use mathlib.Core.List.{List, ◌++◌}
use Prim.Native.Nat.{ℕ, zero, suc, ◌*◌, ◌≤◌, ◌<◌}
use native.Mathlib.Omega.{arith}
use lib.ListN.{length, drop, get_or, length-drop}
use Rattle.json_text.specs.Bytes.{is_digit, within}
use Rattle.json_text.specs.Canonical.{canonical}
use Rattle.json_text.specs.Content.{content}
use Rattle.json_text.specs.Grammar.{Val, Text, text}
use Rattle.json_text.specs.Refusals.{Judged, too_long, no_text, judged}
use Rattle.json_text.specs.Values.{Value}
use Rattle.json_text.specs.Work.{byte_at, goes_on}
use Rattle.json_text.proofs.Fronts.{val-ws, ws-ends}
use Rattle.json_text.proofs.OneValue.{val-only}
use Rattle.json_text.proofs.Spaces.{ws-skips, skip-front}
use Rattle.content.proofs.Fits.{val-fits}
use Rattle.writing.specs.declared.Spot.{Spot}
use Rattle.std.specs.Prelude.{Err}
use Rattle.json_check.specs.declared.Refusal.{Refusal}
use Rattle.json_check.specs.Numbers.{number}
use Rattle.canonical.specs.declared.NotWritten.{NotWritten}
use Rattle.canonical.specs.Calls.{Message, WroteMessage, Answered, least, no_room, refused}
use Rattle.canonical.specs.Calls.{judged as judged-low}
use Rattle.writing.specs.Places.{Spans}
use Rattle.writing.specs.Writing.{Writable, Wrote}
use Rattle.writing.proofs.Parts.{past-val, place-past}
use Rattle.writing.proofs.PutLaws.{zeros, zeros-length}
use Rattle.writing.proofs.Spanning.{Skips}
use Rattle.writing.proofs.WrittenLaws.{written-front}

-- a text's value stands where skipping ws comes to
text-spans : {t : List ℕ} {v : Value} (at : ℕ) → Text t v → Skips t 0 at → (e : ℕ) × (s : Spans t at e) × (s.value ≡ v)
unfolding goes_on is_digit within
text-spans {t} at (text {t = f} {u} {v} w d z) k =
    let q : f ≡ drop at t = sym (ws-skips w ∙ skip-front f (val-ws d)) ∙ sym k.0 in
    let x : Val (drop at t) v u = subst (λ (l : List ℕ). Val l v u) q d in
    let p = place-past t at k.2 (past-val x) in
    let stop : goes_on (byte_at u 0) ≡ false = ws-ends z refl in
    let s : Spans t at p.0 =
    record {
      value = v;
      is = subst (λ (l : List ℕ). Val (drop at t) v l) p.1 x;
      stop = subst (λ (l : List ℕ). goes_on (byte_at l 0) ≡ false) p.1 stop;
      on = p.2;
      fits = p.3;
    } in
    (p.0, s, refl)

module _ (t : List ℕ) (at : ℕ) (m : Message t) (k : Skips t 0 at) where
  -- room for the text is room for its value; nothing is known yet
  pub message-writable :
      (ends places merged names out : List ℕ) → length t ≤ length ends → length t ≤ 4 * length places → length t ≤ 4 * length merged →
      length t ≤ length names → 5 * length t ≤ length out → ((p : ℕ) → get_or ends p 0 ≡ 0) → Writable t ends places merged names out at 0 0
  message-writable ends places merged names out a b c e d z =
      let f = text-spans at m.text k in
      let s = f.1 in
      record {
        short = m.short;
        known = λ p h. absurd (omega (arith, z p));
        room_ends = a;
        room_merged = c;
        room_names = e;
        end = f.0;
        spans = s;
        room_places = omega (arith, s.fits);
        room_out = omega (arith, val-fits s.is, length-drop at t);
      }

  -- what is written there is the message's
  pub message-wrote :
      (ends places places' out out' : List ℕ) (r : Spot) → Wrote t ends places places' out out' at 0 0 r → WroteMessage t out out' r.pos
  message-wrote ends places places' out out' r w =
      let f = text-spans at m.text k in
      let s = f.1 in
      let q = val-only w.spans.is w.spans.stop s.is s.stop in
      let e : w.spans.value ≡ m.value = q.0 ∙ f.2 in
      let x = canonical (content w.spans.value) in
      let y = canonical (content m.value) in
      let g : x ≡ y = ap (λ (v : Value). canonical (content v)) e in
      let n : r.pos ≡ length y = w.next ∙ rw g (omega arith) in
      record {
        message = m;
        count_is = n;
        bytes = w.bytes ∙ rw g (written-front y out ∙ ap (λ (i : ℕ). y ++ drop i out) (sym n));
      }

-- a text that is judged by 0 is a message
pub message-of : {t : List ℕ} {n : ℕ} → Judged t n → n ≡ 0 → Message t
message-of (too_long h) e = absurd (omega arith)
message-of (no_text h) e = absurd (omega arith)
message-of (judged {v} h x f) e = record { short = h; value = v; text = x; faultless = f ∙ e }

-- a text that a check refuses
pub refused-text : (t out : List ℕ) (r : Refusal) → least ≤ length out → Judged t (number r) → Answered t out out (Err (NotWritten.Text r))
refused-text t out Refusal.NoText h j = refused {e = NotWritten.Text Refusal.NoText} (judged-low h j (omega arith))
refused-text t out Refusal.Number h j = refused {e = NotWritten.Text Refusal.Number} (judged-low h j (omega arith))
refused-text t out Refusal.Depth h j = refused {e = NotWritten.Text Refusal.Depth} (judged-low h j (omega arith))

-- an output that is too short is refused
pub short_output : (t out : List ℕ) → length out < least → Answered t out out (Err NotWritten.ShortOutput)
short_output t out h = refused {e = NotWritten.ShortOutput} (no_room h)

zeros-at : (n p : ℕ) → get_or (zeros n) p 0 ≡ 0
zeros-at zero p = refl
zeros-at (suc n) zero = refl
zeros-at (suc n) (suc p) = zeros-at n p

-- what writing a message asks for
abbrev pub Asks : (t ends places merged names out : List ℕ) → Type 0
Asks t ends places merged names out =
    Message t × (length t ≤ length ends) × (length t ≤ 4 * length places) × (length t ≤ 4 * length merged)
    × (length t ≤ length names) × (5 * length t ≤ length out) × ((p : ℕ) → get_or ends p 0 ≡ 0)

-- n zeros for the ends and the names and m for the two lists of places suffice for a message of at most n and at most 4 * m bytes
pub zeros-suffice :
    (n m : ℕ) (t out : List ℕ) → Message t → length t ≤ n → length t ≤ 4 * m → 5 * length t ≤ length out →
    Asks t (zeros n) (zeros m) (zeros m) (zeros n) out
zeros-suffice n m t out x h q k =
    let a : length t ≤ length (zeros n) = omega (arith, zeros-length n) in
    let b : length t ≤ 4 * length (zeros m) = omega (arith, zeros-length m) in
    (x, a, b, b, a, k, zeros-at n)
