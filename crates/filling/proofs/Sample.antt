-- The definitions on a small pruned list, computed. Assumes nothing.
use mathlib.Core.Path.{◌≡◌, refl}
use Rattle.integer.specs.Integer.{between, up_to}
use Rattle.backoff.specs.Words.{same_words}
use Rattle.backoff.specs.Model.{in_probability, in_backoff, listed, probability, backoff, reach}
use Rattle.backoff.specs.Rule.{add_points, replaced, score_after, history_length, rule}
use Rattle.backoff.specs.Refusal.{Accepted, Refused}
use Rattle.rows.specs.Table.{rows_of, field, length_of, order_of, words_of, words, without_first, without_last, last_word, place_fits, places_fit}
use Rattle.rows.specs.Order.{last_less, precedes}
use Rattle.row_search.specs.Search.{find_below, find_in}
use Rattle.row_fields.specs.Fields.{backoff_fits, field_fault}
use Rattle.rows_before.specs.Faults.{is_after, without_firsts, shorter_listed, order_fault, row_fault}
use Rattle.list.specs.Check.{table_fits, reserved_listed, scan, verdict_for, verdict}
use Rattle.list.specs.ListModel.{any_below, extended_in, continued_in, model_of}
use Rattle.filled_list.specs.Added.{own_points}
use Rattle.filled_list.specs.Filled.{rows_from, without_first_words, all_without_first_words, insert, insert_all, filled_rows, added_probability, filled_row, table_of, filled_table}
use Rattle.row_ends.specs.Needed.{addable, all_addable, needed_fault}
use Rattle.filling.specs.Fill.{size_verdict, needed_scan, fill_verdict}
use Rattle.filling.specs.Sample.{pruned, pruned_filled, pruned_high}

computed : Unit {0}
unfolding between up_to same_words in_probability in_backoff listed probability backoff reach add_points replaced score_after history_length rule rows_of field length_of order_of words_of words without_first without_last last_word last_less precedes find_below find_in table_fits place_fits places_fit backoff_fits field_fault is_after without_firsts shorter_listed order_fault row_fault reserved_listed scan verdict_for any_below extended_in continued_in model_of own_points rows_from without_first_words all_without_first_words insert insert_all filled_rows added_probability filled_row table_of filled_table addable all_addable needed_fault size_verdict needed_scan fill_verdict
computed = tt

-- as it is, row 7 lacks the row 4 5
pruned-refused : verdict pruned ≡ Refused 8 7
unfolding computed
pruned-refused = refl

pruned_fills : fill_verdict pruned 64 ≡ Accepted
unfolding computed
pruned_fills = refl

pruned-too_short : fill_verdict pruned 63 ≡ Refused 15 0
unfolding computed
pruned-too_short = refl

pruned-filled : filled_table pruned ≡ pruned_filled
unfolding computed
pruned-filled = refl

-- the first row that needs a p out of range, by its number in the lent list
pruned-high : fill_verdict pruned_high 64 ≡ Refused 5 7
unfolding computed
pruned-high = refl
