-- What an answer's three numbers say: a code, a count of records (a refusal's number for code 0), a count of reports.
use Rattle.std.specs.Prelude.{◌≡◌, List, [], ◌∷◌, Bool, true, false, cond, ℕ, eqb}
use Rattle.rules.specs.Calls.{Answer, done, apply, duplicate, held, ignored, diverged, failed, kept, gone, rebuild}
use Rattle.rules.specs.Answers.{Said, number, word, Queried, refusal, value}

-- codes 1 to 10
abbrev pub coded : ℕ → Answer
coded c =
    cond (eqb c 1) done (cond (eqb c 2) apply (cond (eqb c 3) duplicate (cond (eqb c 4) held (cond (eqb c 5) ignored
    (cond (eqb c 6) diverged (cond (eqb c 7) failed (cond (eqb c 8) kept (cond (eqb c 9) gone rebuild))))))))

abbrev pub told : ℕ → ℕ → ℕ → Said
told c n m = cond (eqb c 0) (number n) (word (coded c) n m)

-- the three numbers of an answer
abbrev pub code_of : Answer → ℕ
code_of done = 1
code_of apply = 2
code_of duplicate = 3
code_of held = 4
code_of ignored = 5
code_of diverged = 6
code_of failed = 7
code_of kept = 8
code_of gone = 9
code_of rebuild = 10

abbrev pub said_words : Said → List ℕ
said_words (number n) = 0 ∷ n ∷ 0 ∷ []
said_words (word a n m) = code_of a ∷ n ∷ m ∷ []

-- three numbers tell an answer: they are its words, and the answer can be told from them
pub record Tells (a : Said) (c n m : ℕ) : Type 0 where
  pub words : said_words a ≡ c ∷ n ∷ m ∷ []
  pub back : a ≡ told c n m

-- a query's two numbers: code 1 is yes, 2 no
abbrev pub asked_words : Queried Bool → List ℕ
asked_words (refusal n) = 0 ∷ n ∷ []
asked_words (value true) = 1 ∷ 0 ∷ []
asked_words (value false) = 2 ∷ 0 ∷ []

abbrev pub told_asked : ℕ → ℕ → Queried Bool
told_asked c n = cond (eqb c 0) (refusal n) (value (eqb c 1))

pub record TellsAsked (a : Queried Bool) (c n : ℕ) : Type 0 where
  pub words : asked_words a ≡ c ∷ n ∷ []
  pub back : a ≡ told_asked c n

-- a view's two numbers: code 1 comes with the count of its messages
abbrev pub viewed_words : Queried ℕ → List ℕ
viewed_words (refusal n) = 0 ∷ n ∷ []
viewed_words (value n) = 1 ∷ n ∷ []

abbrev pub told_viewed : ℕ → ℕ → Queried ℕ
told_viewed c n = cond (eqb c 0) (refusal n) (value n)

pub record TellsViewed (a : Queried ℕ) (c n : ℕ) : Type 0 where
  pub words : viewed_words a ≡ c ∷ n ∷ []
  pub back : a ≡ told_viewed c n

-- what a host is promised of an answer's numbers: P holds of an answer that they tell (T)
pub record Telling {A : Type 0} (T P : A → Type 0) : Type 0 where
  pub answer : A
  pub tells : T answer
  pub holds : P answer
