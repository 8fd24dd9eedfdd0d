-- The sample of document 01 as an ARPA text, and texts and buffers that are refused. A tab is shown as →. Assumes nothing.
use Rattle.std.specs.Prelude.{◌≡◌, false, List, [], ◌∷◌, ◌++◌, ℕ, set, take}
use Rattle.backoff.specs.NineNumbers.{padded}
use Rattle.backoff.specs.Refusal.{short_slice, line_form, unlisted_text, section_count}
use Rattle.list.specs.Sample.{sample}
use Rattle.arpa_words.specs.Words.{unknown_text, start_text, end_text, store_with}
use Rattle.arpa_reading.specs.Outcome.{Outcome, refused_outcome}
use Rattle.arpa_reading.specs.Rows.{Read}
use Rattle.arpa.specs.Outcome.{read_arpa}
use Rattle.arpa_printed.specs.Printed.{with_ends}

-- the and cat
abbrev pub the : List ℕ
the = 116 ∷ 104 ∷ 101 ∷ []

abbrev pub cat : List ℕ
cat = 99 ∷ 97 ∷ 116 ∷ []

-- rows in any order, the spaces around `=` in three ways, and a half that is rounded away from 0
abbrev pub sample_lines : List (List ℕ)
sample_lines =
    -- \data\
    (92 ∷ 100 ∷ 97 ∷ 116 ∷ 97 ∷ 92 ∷ []) ∷
    -- ngram 1=5
    (110 ∷ 103 ∷ 114 ∷ 97 ∷ 109 ∷ 32 ∷ 49 ∷ 61 ∷ 53 ∷ []) ∷
    -- ngram 2 = 3
    (110 ∷ 103 ∷ 114 ∷ 97 ∷ 109 ∷ 32 ∷ 50 ∷ 32 ∷ 61 ∷ 32 ∷ 51 ∷ []) ∷
    -- ngram 3= 1
    (110 ∷ 103 ∷ 114 ∷ 97 ∷ 109 ∷ 32 ∷ 51 ∷ 61 ∷ 32 ∷ 49 ∷ []) ∷
    -- an empty line
    [] ∷
    -- \1-grams:
    (92 ∷ 49 ∷ 45 ∷ 103 ∷ 114 ∷ 97 ∷ 109 ∷ 115 ∷ 58 ∷ []) ∷
    -- -0.01→</s>
    (45 ∷ 48 ∷ 46 ∷ 48 ∷ 49 ∷ 9 ∷ 60 ∷ 47 ∷ 115 ∷ 62 ∷ []) ∷
    -- -0.020→<unk>
    (45 ∷ 48 ∷ 46 ∷ 48 ∷ 50 ∷ 48 ∷ 9 ∷ 60 ∷ 117 ∷ 110 ∷ 107 ∷ 62 ∷ []) ∷
    -- -0.006→the→-0.002
    (45 ∷ 48 ∷ 46 ∷ 48 ∷ 48 ∷ 54 ∷ 9 ∷ 116 ∷ 104 ∷ 101 ∷ 9 ∷ 45 ∷ 48 ∷ 46 ∷ 48 ∷ 48 ∷ 50 ∷ []) ∷
    -- -0.99→<s>→-0.003
    (45 ∷ 48 ∷ 46 ∷ 57 ∷ 57 ∷ 9 ∷ 60 ∷ 115 ∷ 62 ∷ 9 ∷ 45 ∷ 48 ∷ 46 ∷ 48 ∷ 48 ∷ 51 ∷ []) ∷
    -- -0.009→cat→-0.001
    (45 ∷ 48 ∷ 46 ∷ 48 ∷ 48 ∷ 57 ∷ 9 ∷ 99 ∷ 97 ∷ 116 ∷ 9 ∷ 45 ∷ 48 ∷ 46 ∷ 48 ∷ 48 ∷ 49 ∷ []) ∷
    -- an empty line
    [] ∷
    -- \2-grams:
    (92 ∷ 50 ∷ 45 ∷ 103 ∷ 114 ∷ 97 ∷ 109 ∷ 115 ∷ 58 ∷ []) ∷
    -- -0.0030004→the cat
    (45 ∷ 48 ∷ 46 ∷ 48 ∷ 48 ∷ 51 ∷ 48 ∷ 48 ∷ 48 ∷ 52 ∷ 9 ∷ 116 ∷ 104 ∷ 101 ∷ 32 ∷ 99 ∷ 97 ∷ 116 ∷ []) ∷
    -- -0.004→<s> the→-0.0005
    (45 ∷ 48 ∷ 46 ∷ 48 ∷ 48 ∷ 52 ∷ 9 ∷ 60 ∷ 115 ∷ 62 ∷ 32 ∷ 116 ∷ 104 ∷ 101 ∷ 9 ∷ 45 ∷ 48 ∷ 46 ∷ 48 ∷ 48 ∷ 48 ∷ 53 ∷ []) ∷
    -- -0.0014995→cat </s>
    (45 ∷ 48 ∷ 46 ∷ 48 ∷ 48 ∷ 49 ∷ 52 ∷ 57 ∷ 57 ∷ 53 ∷ 9 ∷ 99 ∷ 97 ∷ 116 ∷ 32 ∷ 60 ∷ 47 ∷ 115 ∷ 62 ∷ []) ∷
    -- an empty line
    [] ∷
    -- \3-grams:
    (92 ∷ 51 ∷ 45 ∷ 103 ∷ 114 ∷ 97 ∷ 109 ∷ 115 ∷ 58 ∷ []) ∷
    -- -0.001→<s> the cat
    (45 ∷ 48 ∷ 46 ∷ 48 ∷ 48 ∷ 49 ∷ 9 ∷ 60 ∷ 115 ∷ 62 ∷ 32 ∷ 116 ∷ 104 ∷ 101 ∷ 32 ∷ 99 ∷ 97 ∷ 116 ∷ []) ∷
    -- an empty line
    [] ∷
    -- \end\
    (92 ∷ 101 ∷ 110 ∷ 100 ∷ 92 ∷ []) ∷
    []

-- -99.12345678→<s>→-0.3
abbrev eight_decimals : List ℕ
eight_decimals = 45 ∷ 57 ∷ 57 ∷ 46 ∷ 49 ∷ 50 ∷ 51 ∷ 52 ∷ 53 ∷ 54 ∷ 55 ∷ 56 ∷ 9 ∷ 60 ∷ 115 ∷ 62 ∷ 9 ∷ 45 ∷ 48 ∷ 46 ∷ 51 ∷ []

-- -0.3→the dog
abbrev unlisted : List ℕ
unlisted = 45 ∷ 48 ∷ 46 ∷ 51 ∷ 9 ∷ 116 ∷ 104 ∷ 101 ∷ 32 ∷ 100 ∷ 111 ∷ 103 ∷ []

-- ngram 2 = 2
abbrev two_twos : List ℕ
two_twos = 110 ∷ 103 ∷ 114 ∷ 97 ∷ 109 ∷ 32 ∷ 50 ∷ 32 ∷ 61 ∷ 32 ∷ 50 ∷ []

-- the outcome over a text of these lines, a table of `room` numbers and a store of `size` bytes
abbrev reading : ℕ → ℕ → List (List ℕ) → Outcome
reading room size lines = read_arpa false room size (with_ends lines)

pub record SampleRead : Type 0 where
  pub reads : reading 80 448 sample_lines ≡ record { answer = Read 9; table = padded 80 sample; store = store_with 448 (unknown_text ∷ start_text ∷ end_text ∷ the ∷ cat ∷ []) }
  -- a log of eight decimals in line 10
  pub not-in_form : reading 80 448 (set sample_lines 9 eight_decimals) ≡ refused_outcome 80 448 line_form 10
  -- a word without a one-word line in line 14
  pub unlisted-text : reading 80 448 (set sample_lines 13 unlisted) ≡ refused_outcome 80 448 unlisted_text 14
  -- two rows of two words announced, and three there: seen at the next heading
  pub miscounted : reading 80 448 (set sample_lines 2 two_twos) ≡ refused_outcome 80 448 section_count 18
  -- the ninth row does not fit a table of 71 numbers, nor the fifth word's record a store of 383 bytes
  pub table-short : reading 71 448 sample_lines ≡ refused_outcome 71 448 short_slice 19
  pub store-short : reading 80 383 sample_lines ≡ refused_outcome 80 383 short_slice 11
  -- the end line is missing, or has no LF; nothing at all
  pub end_missing : reading 80 448 (take 20 sample_lines) ≡ refused_outcome 80 448 line_form 21
  pub end_open : read_arpa false 80 448 (with_ends (take 20 sample_lines) ++ (92 ∷ 101 ∷ 110 ∷ 100 ∷ 92 ∷ [])) ≡ refused_outcome 80 448 line_form 21
  pub nothing : reading 80 448 [] ≡ refused_outcome 80 448 line_form 1
