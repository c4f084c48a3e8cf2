-- Where a string, a number or a literal ends, by the byte b that it begins with.
use mathlib.Core.Path.{◌≡◌, refl, sym, ◌∙◌, ap}
use mathlib.Core.Bool.{true, false}
use mathlib.Core.List.{List}
use Prim.Native.Nat.{ℕ, ◌+◌}
use borrow.Author.Tests.{eq-eqb, ne_eqb}
use lib.ListN.{drop}
use Rattle.rules.proofs.Tests.{ff≢tt, or-true}
use Rattle.std.specs.Prelude.{Option, Some, IsSome}
use Rattle.json_text.specs.Bytes.{is_digit}
use Rattle.json_text.specs.Grammar.{Val, a_null, a_true, a_false, a_number, a_string, empty_array, an_array, empty_object, an_object}
use Rattle.json_text.specs.Values.{Value}
use Rattle.json_text.specs.Work.{byte_at, chars_rest, number_rest, word_rest, literal_rest}
use Rattle.json_text.specs.Work.{Ends as Found}
use Rattle.json_text.proofs.CharsLaws.{chars_rest_lem}
use Rattle.json_text.proofs.Fronts.{starts_number, number-begins}
use Rattle.json_text.proofs.Inversion.{val-string, val-number}
use Rattle.json_text.proofs.NumberLaws.{number-rest}
use Rattle.json_text.proofs.Places.{front-byte, behind-here}
use Rattle.writing.specs.Places.{Spans}
use Rattle.writing.proofs.Spanning.{spans-to, place_found, found_some}

-- what begins as none of the others is a literal
literal-rest :
    {s r : List ℕ} {v : Value} →
    Val s v r → (byte_at s 0 ≡ 0x22 → ⊥) → (byte_at s 0 ≡ 0x5B → ⊥) → (byte_at s 0 ≡ 0x7B → ⊥) → starts_number (byte_at s 0) ≡ false →
    literal_rest s ≡ Some r
unfolding literal_rest word_rest
literal-rest a_null h k l n = refl
literal-rest a_true h k l n = refl
literal-rest a_false h k l n = refl
literal-rest (a_number d e) h k l n = absurd (ff≢tt n (number-begins d))
literal-rest (a_string c) h k l n = absurd (h refl)
literal-rest (empty_array w) h k l n = absurd (k refl)
literal-rest (an_array w v m) h k l n = absurd (k refl)
literal-rest (empty_object w) h k l n = absurd (l refl)
literal-rest (an_object w d v m) h k l n = absurd (l refl)

module _ (t : List ℕ) (at e : ℕ) (s : Spans t at e) where
  -- the end that was found where the value ends
  pub scalar-some : (low : ℕ) (o : Option (List ℕ)) (r : Option ℕ) → Found t low o r → o ≡ Some (drop e t) → IsSome r
  scalar-some low o r f h = found_some t low e o r f h

  pub scalar-spans :
      (low : ℕ) (o : Option (List ℕ)) (r : Option ℕ) (n : ℕ) → Found t low o r → o ≡ Some (drop e t) → r ≡ Some n → Spans t at n
  scalar-spans low o r n f h q = spans-to t at e n s (sym (place_found t low e n o r f h s.fits q))

  module _ (b : ℕ) (q : b ≡ byte_at t at) where
    front : byte_at (drop at t) 0 ≡ b
    front = front-byte t at b q

    pub string-ends : b ≡ 0x22 → chars_rest (drop (at + 1) t) ≡ Some (drop e t)
    string-ends h = rw (← behind-here t at) (chars_rest_lem (val-string s.is (front ∙ h)).2)

    number-ends : starts_number b ≡ true → number_rest (drop at t) ≡ Some (drop e t)
    number-ends h = number-rest (val-number s.is (ap starts_number front ∙ h)).1 s.stop

    pub minus-ends : b ≡ 0x2D → number_rest (drop at t) ≡ Some (drop e t)
    unfolding starts_number
    minus-ends h = number-ends (rw (eq-eqb b 0x2D h))

    pub digit-ends : is_digit b ≡ true → number_rest (drop at t) ≡ Some (drop e t)
    unfolding starts_number
    digit-ends h = number-ends (rw (h, or-true))

    pub literal-ends :
        (b ≡ 0x22 → ⊥) → (b ≡ 0x2D → ⊥) → is_digit b ≡ false → (byte_at t at ≡ 0x5B → ⊥) → (byte_at t at ≡ 0x7B → ⊥) →
        literal_rest (drop at t) ≡ Some (drop e t)
    unfolding starts_number
    literal-ends h m d k l =
        literal-rest s.is (λ x. h (sym front ∙ x)) (λ x. k (sym (front ∙ q) ∙ x)) (λ x. l (sym (front ∙ q) ∙ x)) (rw (front, ne_eqb b 0x2D m, d))
