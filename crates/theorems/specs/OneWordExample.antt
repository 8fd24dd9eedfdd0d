-- How far one word moves a total in three lists of the orders 1, 2 and 3: each reaches the most that the rule allows, 3n − 2 times the largest back-off, which for
-- the orders 2 and 3 is less than the paper's n × (2n − 1) times. Assumes nothing.
use Rattle.std.specs.Prelude.{◌≡◌, true, List, [], ◌∷◌, ◌++◌, ℕ, ◌*◌, ℤ, pos, neg_ℤ}
use Rattle.integer.specs.Integer.{sum}
use Rattle.backoff.specs.Limits.{largest_backoff}
use Rattle.backoff.specs.Rule.{rule_points}
use Rattle.backoff.specs.Run.{front}
use Rattle.backoff.specs.Refusal.{Accepted}
use Rattle.one_word.specs.OneWord.{distance}
use Rattle.list.specs.Check.{verdict}
use Rattle.list.specs.ListModel.{model_of}

abbrev most : ℤ
most = pos largest_backoff

abbrev least : ℤ
least = neg_ℤ (pos largest_backoff)

-- a row of at most three words
abbrev row : ℕ → ℕ → ℕ → ℕ → ℤ → ℤ → List ℤ
row m u v w p b = pos m ∷ pos u ∷ pos v ∷ pos w ∷ pos 0 ∷ pos 0 ∷ p ∷ b ∷ []

abbrev single : ℕ → ℤ → ℤ → List ℤ
single w p b = row 1 w 0 0 p b

-- order 1: the two words' own p
abbrev pub order1 : List ℤ
order1 = single 1 (pos 0) (pos 0) ++ single 2 (pos 0) (pos 0) ++ single 3 (pos 0) (pos 0) ++ single 4 least (pos 0) ++ single 5 (pos 0) (pos 0)

-- order 2: 4 is backed off to and 5 listed, and the next word pays their back-offs
abbrev pub order2 : List ℤ
order2 =
    single 1 (pos 0) (pos 0) ++ single 2 (pos 0) least ++ single 3 (pos 0) (pos 0) ++ single 4 least least ++ single 5 (pos 0) most ++ single 6 (pos 0) (pos 0) ++
    row 2 2 5 0 (pos 0) (pos 0)

-- order 3: 6 is backed off to and 5 listed in full, and the next two words pay
abbrev pub order3 : List ℤ
order3 =
    single 1 (pos 0) (pos 0) ++ single 2 (pos 0) (pos 0) ++ single 3 (pos 0) (pos 0) ++ single 4 (pos 0) least ++
    single 5 (pos 0) (pos 0) ++ single 6 least least ++ single 7 least (pos 0) ++ single 8 (pos 0) (pos 0) ++
    row 2 2 4 0 (pos 0) least ++ row 2 4 5 0 (pos 0) most ++ row 2 5 7 0 (pos 0) most ++
    row 3 2 4 5 (pos 0) (pos 0)

-- the total of words after `<s>`, by the rule on the list
abbrev total_of : List ℤ → List ℕ → ℤ
total_of table ws = sum (rule_points (model_of table) (front true) ws)

pub record OneWordExample : Type 0 where
  pub accepted1 : verdict order1 ≡ Accepted
  pub moved1 : distance (total_of order1 (5 ∷ [])) (total_of order1 (4 ∷ [])) ≡ 1 * largest_backoff
  pub accepted2 : verdict order2 ≡ Accepted
  pub moved2 : distance (total_of order2 (5 ∷ 6 ∷ [])) (total_of order2 (4 ∷ 6 ∷ [])) ≡ 4 * largest_backoff
  pub accepted3 : verdict order3 ≡ Accepted
  pub moved3 : distance (total_of order3 (4 ∷ 5 ∷ 7 ∷ 8 ∷ [])) (total_of order3 (4 ∷ 6 ∷ 7 ∷ 8 ∷ [])) ≡ 7 * largest_backoff
