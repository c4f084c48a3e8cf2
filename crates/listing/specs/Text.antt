-- What a call answers, as text in ASCII.
use Rattle.std.specs.Prelude.{◌≡◌, Result, Ok, Err, List, [], ◌∷◌, ◌++◌, cond, ℕ, zero, suc, ◌+◌, ◌*◌, ◌/◌, ◌%◌, ltb, length, take, drop, get_or}
use Rattle.rules.specs.declared.Step.{Step}
use Rattle.rules.specs.declared.Lost.{Lost}
use Rattle.rules.specs.declared.Ticked.{Ticked}
use Rattle.rules.specs.declared.refusal.Refusal.{Refusal}
use Rattle.rules.specs.Answers.{number_of}
use Rattle.output.specs.Output.{over_at}

-- xs was written into a buffer from place n on, and r is the place behind it
pub record Wrote (n : ℕ) (xs before after : List ℕ) (r : ℕ) : Type 0 where
  pub place : r ≡ n + length xs
  pub text : after ≡ over_at n xs before

-- space, line feed
abbrev pub space : ℕ
space = 32

abbrev pub line : ℕ
line = 10

-- n in decimal, with so many digits at the most
unfoldable pub digits_up_to : ℕ → ℕ → List ℕ
digits_up_to zero n = []
digits_up_to (suc k) n = cond (ltb n 10) ((48 + n) ∷ []) (digits_up_to k (n / 10) ++ ((48 + n % 10) ∷ []))

-- n in decimal; a word has 20 digits at the most
abbrev pub decimal : ℕ → List ℕ
decimal n = digits_up_to 20 n

-- a number with a byte behind it
abbrev pub number : ℕ → ℕ → List ℕ
number n end = decimal n ++ (end ∷ [])

-- a record's kind: s, b, p
abbrev pub kind_text : ℕ → List ℕ
kind_text zero = 115 ∷ space ∷ []
kind_text (suc zero) = 98 ∷ space ∷ []
kind_text (suc (suc n)) = 112 ∷ space ∷ []

-- put CONN KIND NUMBER KEY KEY MESSAGE TIMES
abbrev pub front_text : ℕ → ℕ → ℕ → List ℕ
front_text conn kind n = (112 ∷ 117 ∷ 116 ∷ space ∷ []) ++ (number conn space ++ (kind_text kind ++ number n space))

abbrev pub rest_text : ℕ → ℕ → ℕ → ℕ → List ℕ
rest_text k0 k1 message times = number k0 space ++ (number k1 space ++ (number message space ++ number times line))

unfoldable pub record_text : List ℕ → List ℕ
record_text v = front_text (get_or v 0 0) (get_or v 1 0) (get_or v 2 0) ++ rest_text (get_or v 3 0) (get_or v 4 0) (get_or v 5 0) (get_or v 6 0)

-- the first n records of a list of words
unfoldable pub records_text : ℕ → List ℕ → List ℕ
records_text zero v = []
records_text (suc n) v = records_text n v ++ record_text (take 7 (drop (7 * n) v))

-- all records of a list of words
abbrev pub all_records : List ℕ → List ℕ
all_records v = records_text (length v / 7) v

-- refused N
abbrev pub refused_text : ℕ → List ℕ
refused_text n = (114 ∷ 101 ∷ 102 ∷ 117 ∷ 115 ∷ 101 ∷ 100 ∷ space ∷ []) ++ number n line

-- bad record N
abbrev pub bad_text : ℕ → List ℕ
bad_text n = (98 ∷ 97 ∷ 100 ∷ space ∷ 114 ∷ 101 ∷ 99 ∷ 111 ∷ 114 ∷ 100 ∷ space ∷ []) ++ number n line

-- done
abbrev pub done_text : List ℕ
done_text = 100 ∷ 111 ∷ 110 ∷ 101 ∷ line ∷ []

-- a snapshot's, a book event's or a print's answer, and its records
abbrev pub step_text : Result Step Refusal → List ℕ → List ℕ
step_text (Ok (Step.Apply n)) v = (97 ∷ 112 ∷ 112 ∷ 108 ∷ 121 ∷ line ∷ []) ++ all_records (take (7 * n) v)
step_text (Ok Step.Duplicate) v = 100 ∷ 117 ∷ 112 ∷ 108 ∷ 105 ∷ 99 ∷ 97 ∷ 116 ∷ 101 ∷ line ∷ []
step_text (Ok Step.Held) v = 104 ∷ 101 ∷ 108 ∷ 100 ∷ line ∷ []
step_text (Ok Step.Ignored) v = 105 ∷ 103 ∷ 110 ∷ 111 ∷ 114 ∷ 101 ∷ 100 ∷ line ∷ []
step_text (Ok Step.Diverged) v = 100 ∷ 105 ∷ 118 ∷ 101 ∷ 114 ∷ 103 ∷ 101 ∷ 100 ∷ line ∷ []
step_text (Ok Step.Failed) v = 102 ∷ 97 ∷ 105 ∷ 108 ∷ 101 ∷ 100 ∷ line ∷ []
step_text (Err r) v = refused_text (number_of r)

-- a drop's or a promote's
abbrev pub lost_text : Result Lost Refusal → List ℕ → List ℕ
lost_text (Ok Lost.Kept) v = 107 ∷ 101 ∷ 112 ∷ 116 ∷ line ∷ []
lost_text (Ok Lost.Gone) v = 103 ∷ 111 ∷ 110 ∷ 101 ∷ line ∷ []
lost_text (Ok (Lost.Rebuild n)) v = (114 ∷ 101 ∷ 98 ∷ 117 ∷ 105 ∷ 108 ∷ 100 ∷ line ∷ []) ++ all_records (take (7 * n) v)
lost_text (Err r) v = refused_text (number_of r)

-- a subscribe's or a reset's
abbrev pub changed_text : Result Unit Refusal → List ℕ
changed_text (Ok u) = done_text
changed_text (Err r) = refused_text (number_of r)

-- a report's kind: aligned, rebuild, failed
abbrev pub report_kind : ℕ → List ℕ
report_kind zero = 97 ∷ 108 ∷ 105 ∷ 103 ∷ 110 ∷ 101 ∷ 100 ∷ space ∷ []
report_kind (suc zero) = 114 ∷ 101 ∷ 98 ∷ 117 ∷ 105 ∷ 108 ∷ 100 ∷ space ∷ []
report_kind (suc (suc n)) = 102 ∷ 97 ∷ 105 ∷ 108 ∷ 101 ∷ 100 ∷ space ∷ []

-- a report of three words, then its records
unfoldable pub report_text : List ℕ → List ℕ → List ℕ
report_text row records = report_kind (get_or row 0 0) ++ (number (get_or row 1 0) line ++ all_records records)

-- the n-th report's words
abbrev pub report : ℕ → List ℕ → List ℕ
report n rs = take 3 (drop (3 * n) rs)

-- how many records the first n reports have
unfoldable pub records_of : ℕ → List ℕ → ℕ
records_of zero rs = 0
records_of (suc n) rs = records_of n rs + get_or (report n rs) 2 0

-- the first n reports, each with its records, which stand in a list one behind the other
unfoldable pub reports_text : ℕ → List ℕ → List ℕ → List ℕ
reports_text zero rs v = []
reports_text (suc n) rs v =
    reports_text n rs v ++ report_text (report n rs) (take (7 * get_or (report n rs) 2 0) (drop (7 * records_of n rs) v))

-- all reports of a list of words
abbrev pub all_reports : List ℕ → List ℕ → List ℕ
all_reports rs v = reports_text (length rs / 3) rs v

-- a tick's answer, and its reports
abbrev pub ticked_text : Result Ticked Refusal → List ℕ → List ℕ → List ℕ
ticked_text (Ok t) rs v = done_text ++ all_reports (take (3 * t.reports) rs) v
ticked_text (Err r) rs v = refused_text (number_of r)
