-- Strict total orders, and the two of the print tables: of keys, and of keys with a connection.
use mathlib.Core.Path.{◌≡◌, subst}
use mathlib.Core.Bool.{Bool, true, false}
use Rattle.rules.specs.Quantities.{same}
use Rattle.rules.specs.Prints.{before}
use Rattle.rules.proofs.Tests.{ff≢tt, untrue}
use Rattle.rules.proofs.Order.{same_true, same_pair, same_pair-true, before-trans, before-itself, before-total, pair_before, pair_before-trans, pair_before-itself, pair_before-total}

-- B is the order, S its equality
pub record Order {I : Type 0} (B S : I → I → Bool) : Type 0 where
  pub trans : (a b c : I) → B a b ≡ true → B b c ≡ true → B a c ≡ true
  pub itself : (a : I) → B a a ≡ false
  pub total : (a b : I) → B a b ≡ false → S a b ≡ false → B b a ≡ true
  pub equal : (a b : I) → S a b ≡ true → a ≡ b

module _ {I : Type 0} (B S : I → I → Bool) (o : Order B S) (a p : I) where
  pub less-differs : B a p ≡ true → S a p ≡ false
  less-differs h = untrue (S a p) (λ e. ff≢tt (o.itself p) (subst (λ (x : I). B x p ≡ true) (o.equal a p e) h))

  pub more-differs : B p a ≡ true → S a p ≡ false
  more-differs h = untrue (S a p) (λ e. ff≢tt (o.itself p) (subst (λ (x : I). B p x ≡ true) (o.equal a p e) h))

  pub less-not-more : B a p ≡ true → B p a ≡ false
  less-not-more h = untrue (B p a) (λ e. ff≢tt (o.itself a) (o.trans a p a h e))

pub key_order : Order before same
key_order = record { trans = before-trans; itself = before-itself; total = before-total; equal = same_true }

pub pair_order : Order pair_before same_pair
pair_order = record { trans = pair_before-trans; itself = pair_before-itself; total = pair_before-total; equal = same_pair-true }
