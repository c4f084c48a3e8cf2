-- Laws of a record's bytes.
use mathlib.Core.Path.{◌≡◌}
use mathlib.Core.List.{List}
use Prim.Native.Nat.{ℕ}
use borrow.Author.Tests.{ne_eqb}
use Rattle.std.proofs.Common.{Err}
use Rattle.listing.specs.declared.Fault.{Fault}
use Rattle.listing.specs.Record.{by_call}

-- no other byte is a call
pub no_call : (n : ℕ) (b : List ℕ) → (n ≡ 1 → ⊥) → (n ≡ 2 → ⊥) → (n ≡ 3 → ⊥) → (n ≡ 4 → ⊥) → (n ≡ 5 → ⊥) → (n ≡ 6 → ⊥) → (n ≡ 7 → ⊥) → (n ≡ 8 → ⊥) → by_call n b ≡ Err Fault.Call
unfolding by_call
no_call n b h1 h2 h3 h4 h5 h6 h7 h8 =
    rw (ne_eqb n 1 h1, ne_eqb n 2 h2, ne_eqb n 3 h3, ne_eqb n 4 h4, ne_eqb n 5 h5, ne_eqb n 6 h6, ne_eqb n 7 h7, ne_eqb n 8 h8)
