-- The sample read, and the texts that are refused, by computation; and the sample can be printed. Assumes nothing.
use mathlib.Core.Path.{◌≡◌, refl, sym, ap, subst, ◌∙◌}
use mathlib.Core.Bool.{true}
use mathlib.Core.List.{List, [], ◌∷◌}
use Prim.Native.Nat.{ℕ, zero, suc, ◌+◌, ◌-◌, ◌<◌, ◌≤◌}
use native.Mathlib.Omega.{arith}
use lib.Dec.{lit≤}
use lib.ListN.{get_or}
use Rattle.integer.specs.Integer.{between, up_to}
use Rattle.backoff.specs.Words.{same_words}
use Rattle.backoff.specs.Model.{in_probability, in_backoff}
use Rattle.backoff.specs.NineNumbers.{padded}
use Rattle.rows.specs.Table.{rows_of, field, length_of, order_of, words_of, words, without_first, without_last, place_fits, places_fit}
use Rattle.rows.specs.Order.{last_less, precedes}
use Rattle.row_search.specs.Search.{find_below, find_in}
use Rattle.row_fields.specs.Fields.{backoff_fits, field_fault}
use Rattle.rows_before.specs.Faults.{is_after, without_firsts, shorter_listed, order_fault, row_fault}
use Rattle.list.specs.Sample.{sample}
use Rattle.list.specs.Check.{table_fits, reserved_listed, scan, verdict_for}
use Rattle.row_codes.specs.Rows.{row_at}
use Rattle.row_order.specs.RowOrder.{insert_by, sort_by, rows_at, joined, numbers_of, row_before, list_order}
use Rattle.word_index.specs.Texts.{search_from}
use Rattle.decimal.specs.Digits.{all_digits, value_from, digits_up_to}
use Rattle.text_parts.specs.Parts.{parts}
use Rattle.arpa_headings.specs.Headings.{is_count_head, without_space, count_in, read_count}
use Rattle.arpa_logs.specs.Logs.{fraction, unsigned, read_log, nearest, round_log, read_points}
use Rattle.arpa_text.specs.Lines.{all_above, is_text, are_texts, listed_in, read_row}
use Rattle.arpa_words.specs.Words.{unknown_text, start_text, end_text, reserved_number, number_met, number_given, with_text, zeroed, record_of, records_of, store_with, some_missing}
use Rattle.arpa_sections.specs.Sections.{announce, enter, first_section, data_step, closes, close_section, row_of}
use Rattle.arpa_lines.specs.Reading.{add_row, row_fits, record_fits, word_step, longer_step, row_step, section_step, line_step, read_lines}
use Rattle.arpa_reading.specs.Outcome.{ordered, refused_outcome}
use Rattle.arpa.specs.Outcome.{read_arpa}
use Rattle.arpa_printed.specs.Printed.{with_ends, Printable}
use Rattle.arpa_printed.specs.Sample.{the, cat, SampleRead}

pub sample-read : SampleRead
unfolding between up_to same_words in_probability in_backoff padded rows_of field length_of order_of words_of words without_first without_last last_less precedes find_below find_in table_fits place_fits places_fit backoff_fits field_fault is_after without_firsts shorter_listed order_fault row_fault reserved_listed scan verdict_for insert_by sort_by row_at rows_at joined numbers_of row_before list_order search_from all_digits value_from parts digits_up_to fraction unsigned read_log nearest round_log read_points is_count_head without_space count_in read_count all_above is_text are_texts listed_in read_row reserved_number number_met number_given with_text zeroed record_of records_of store_with announce enter first_section data_step closes close_section row_of add_row row_fits record_fits word_step some_missing longer_step row_step section_step line_step read_lines refused_outcome ordered read_arpa with_ends
sample-read = record { reads = refl; not-in_form = refl; unlisted-text = refl; miscounted = refl; table-short = refl; store-short = refl; end_missing = refl; end_open = refl; nothing = refl }

-- ---- `printed-reads-back` applies to it

abbrev sample_texts : List (List ℕ)
sample_texts = unknown_text ∷ start_text ∷ end_text ∷ the ∷ cat ∷ []

below-five : (P : ℕ → Type 0) → P 0 → P 1 → P 2 → P 3 → P 4 → (i : ℕ) → i < 5 → P i
below-five P a b c d e zero l = a
below-five P a b c d e (suc zero) l = b
below-five P a b c d e (suc (suc zero)) l = c
below-five P a b c d e (suc (suc (suc zero))) l = d
below-five P a b c d e (suc (suc (suc (suc zero)))) l = e
below-five P a b c d e (suc (suc (suc (suc (suc i))))) l = absurd (omega arith)

sample-numbers : (i : ℕ) → i < 5 → number_met sample_texts (get_or sample_texts i []) ≡ suc i
unfolding number_met search_from same_words
sample-numbers = below-five (λ (i : ℕ). number_met sample_texts (get_or sample_texts i []) ≡ suc i) refl refl refl refl refl

pub sample_printable : Printable sample_texts sample 80 448
unfolding between up_to same_words in_probability in_backoff rows_of field length_of order_of words_of words without_first without_last last_less precedes find_below find_in table_fits place_fits places_fit backoff_fits field_fault is_after without_firsts shorter_listed order_fault row_fault reserved_listed scan verdict_for all_above is_text
sample_printable = record {
  accepted = refl;
  fewer = lit≤ tt;
  ones = below-five (λ (i : ℕ). words sample i ≡ suc i ∷ []) refl refl refl refl refl;
  longer =
      λ i a b.
      let e : 5 + (i - 5) ≡ i = omega arith in
      subst (λ (j : ℕ). 2 ≤ length_of sample j) e
      (below-five (λ (j : ℕ). j < 4 → 2 ≤ length_of sample (5 + j)) (λ l. lit≤ tt) (λ l. lit≤ tt) (λ l. lit≤ tt) (λ l. lit≤ tt) (λ l. absurd (omega arith)) (i - 5) (omega arith) (omega arith));
  in_form_lem = below-five (λ (i : ℕ). is_text (get_or sample_texts i []) ≡ true) refl refl refl refl refl;
  distinct = λ i j l m e. let f = sym (sample-numbers i (omega arith)) ∙ ap (number_met sample_texts) e ∙ sample-numbers j m in absurd (omega arith);
  unknown = refl;
  start = refl;
  end = refl;
  table-room = lit≤ tt;
  store-room = lit≤ tt;
}
