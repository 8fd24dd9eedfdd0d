-- The sections of an ARPA text, as T-02 of document 02 has them: "a data section with counts, one section a length, an end line". What was read so far,
-- and the lines that announce, begin and end them. Assumes nothing.
use Rattle.std.specs.declared.option.Option.{Option}
use Rattle.std.specs.declared.option.Option.TheVariants.{Some, None}
use Rattle.std.specs.Prelude.{Bool, cond, ◌&&◌, List, [], ◌∷◌, ◌++◌, map, ℕ, suc, ◌-◌, eqb, ltb, leb, ℤ, pos, length, get_or}
use Rattle.backoff.specs.Limits.{order_limit}
use Rattle.backoff.specs.Refusal.{line_form, section_count}
use Rattle.backoff.specs.Words.{same_words}
use Rattle.backoff.specs.NineNumbers.{padded}
use Rattle.arpa_headings.specs.Headings.{section_line, end_line, read_count}
use Rattle.arpa_words.specs.Words.{no_texts}
use Rattle.arpa_sections.specs.declared.Stage.{Stage}
use Rattle.arpa_sections.specs.declared.Stage.TheVariants.{Start, Counts, Section, Ended}

-- a row of the list, "eight to a row: m, five words oldest first (unused ones 0), log-probability p, back-off b"
unfoldable pub row_of : List ℕ → ℤ → ℤ → List ℤ
row_of words p b = pos (length words) ∷ (padded order_limit (map pos words) ++ (p ∷ b ∷ []))

-- what was read so far: the counts announced, the lines of this section, the rows as they came, and the texts of the words met
pub record Reading : Type 0 where
  pub stage : Stage
  pub announced : List ℕ
  pub lines : ℕ
  pub rows : List (List ℤ)
  pub texts : List (List ℕ)

abbrev pub unread : Reading
unread = record { stage = Start; announced = []; lines = 0; rows = []; texts = no_texts }

-- what a line comes to: the reading goes on, or a refusal's number
pub data Step : Type 0 where
  goes : Reading → Step
  refused_by : ℕ → Step

-- ---- the data section

unfoldable pub announce : Reading → ℕ → Reading
announce r count = record { stage = Counts; announced = r.announced ++ (count ∷ []); lines = 0; rows = r.rows; texts = r.texts }

-- another stage begins
unfoldable pub enter : Stage → Reading → Reading
enter stage r = record { stage = stage; announced = r.announced; lines = 0; rows = r.rows; texts = r.texts }

-- "one to five lengths are announced, .. and their sections follow so"
unfoldable pub first_section : Reading → List ℕ → Step
first_section r line = cond (leb 1 (length r.announced) && same_words line (section_line 1)) (goes (enter (Section 1) r)) (refused_by line_form)

abbrev pub count_step : Reading → List ℕ → Option ℕ → Step
count_step r line (Some count) = goes (announce r count)
count_step r line None = first_section r line

-- "one to five lengths are announced, from 1 upwards"
unfoldable pub data_step : Reading → List ℕ → Step
data_step r line = cond (ltb (length r.announced) order_limit) (count_step r line (read_count (suc (length r.announced)) line)) (first_section r line)

-- ---- the end of a section

-- the heading of the next section, or the end line behind the last
unfoldable pub closes : ℕ → ℕ → List ℕ → Bool
closes m order line = cond (ltb m order) (same_words line (section_line (suc m))) (same_words line end_line)

-- "19 for a section whose line count is not the one announced, .. (for 19 the next heading or the end line)"
unfoldable pub close_section : ℕ → Reading → Step
close_section m r =
    cond (eqb r.lines (get_or r.announced (m - 1) 0))
    (goes (enter (cond (ltb m (length r.announced)) (Section (suc m)) Ended) r))
    (refused_by section_count)
