-- What the four numbers of a batch say: code 0 is a refusal, and the count of calls its number; any other says why the list ended.
use Rattle.std.specs.Prelude.{◌≡◌, List, [], ◌∷◌, cond, ℕ, eqb}
use Rattle.batch.specs.declared.Stop.{Stop}
use Rattle.batch.specs.declared.Stop.TheVariants as Stop
use Rattle.batch.specs.Batch.{BatchSaid, refusal, ended}

-- 1 is done; 11 to 13 are codes of no single call
abbrev pub code_of_stop : Stop → ℕ
code_of_stop Stop.AllDone = 1
code_of_stop Stop.NoRoom = 11
code_of_stop Stop.NoCall = 12
code_of_stop Stop.NoAnswers = 13

abbrev pub coded_stop : ℕ → Stop
coded_stop c = cond (eqb c 1) Stop.AllDone (cond (eqb c 11) Stop.NoRoom (cond (eqb c 12) Stop.NoCall Stop.NoAnswers))

abbrev pub batched_words : BatchSaid → List ℕ
batched_words (refusal n) = 0 ∷ n ∷ 0 ∷ 0 ∷ []
batched_words (ended calls records reports s) = code_of_stop s ∷ calls ∷ records ∷ reports ∷ []

abbrev pub told_batched : (code calls records reports : ℕ) → BatchSaid
told_batched code calls records reports = cond (eqb code 0) (refusal calls) (ended calls records reports (coded_stop code))

-- four numbers tell a batch's answer: they are its words, and it can be told from them
pub record TellsBatched (a : BatchSaid) (code calls records reports : ℕ) : Type 0 where
  pub words : batched_words a ≡ code ∷ calls ∷ records ∷ reports ∷ []
  pub back : a ≡ told_batched code calls records reports
