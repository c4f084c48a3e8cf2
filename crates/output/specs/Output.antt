-- Put-out records and tick reports as words of a lent list.
use Rattle.std.specs.Prelude.{List, [], ◌∷◌, ◌++◌, ℕ, zero, suc, get_or, take, drop}
use Rattle.rules.specs.declared.Kind.{Kind}
use Rattle.rules.specs.declared.Applied.{Applied}
use Rattle.rules.specs.declared.Expired.{Expired}
use Rattle.rules.specs.Quantities.{key}
pub use Rattle.words.specs.Words.{over}

-- a put-out record is seven words: connection, kind (0 snapshot, 1 book, 2 print), number, key, key, message, times
abbrev pub kind_word : Kind → ℕ
kind_word Kind.Snapshot = 0
kind_word Kind.Book = 1
kind_word Kind.Print = 2

abbrev pub record_words : Applied → List ℕ
record_words r = r.conn ∷ kind_word r.kind ∷ r.number ∷ r.key.0 ∷ r.key.1 ∷ r.message ∷ r.times ∷ []

unfoldable pub records_words : List Applied → List ℕ
records_words [] = []
records_words (r ∷ rs) = record_words r ++ records_words rs

-- a tick report is three: kind (0 aligned, 1 rebuild, 2 failed), connection, count of its records
abbrev pub report_words : Expired → List ℕ
report_words (Expired.Aligned c n) = 0 ∷ c ∷ n ∷ []
report_words (Expired.Rebuild c n) = 1 ∷ c ∷ n ∷ []
report_words (Expired.Failed c) = 2 ∷ c ∷ 0 ∷ []

unfoldable pub reports_words : List Expired → List ℕ
reports_words [] = []
reports_words (r ∷ rs) = report_words r ++ reports_words rs

-- the records that a list of words has in front
abbrev pub kind_of : ℕ → Kind
kind_of zero = Kind.Snapshot
kind_of (suc zero) = Kind.Book
kind_of (suc (suc n)) = Kind.Print

abbrev pub record_of : List ℕ → Applied
record_of v =
    record {
      conn = get_or v 0 0;
      kind = kind_of (get_or v 1 0);
      number = get_or v 2 0;
      key = key (get_or v 3 0) (get_or v 4 0);
      message = get_or v 5 0;
      times = get_or v 6 0;
    }

unfoldable pub records_in : ℕ → List ℕ → List Applied
records_in zero v = []
records_in (suc n) v = record_of v ∷ records_in n (drop 7 v)

-- written over a list from place a on
abbrev pub over_at : ℕ → List ℕ → List ℕ → List ℕ
over_at a xs v = take a v ++ over xs (drop a v)
