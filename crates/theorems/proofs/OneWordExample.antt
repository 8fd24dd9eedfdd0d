-- How far one word moves a total in three lists, by computation. Assumes nothing.
use mathlib.Core.Path.{refl}
use Rattle.integer.specs.Integer.{between, up_to}
use Rattle.backoff.specs.Words.{same_words, is_word}
use Rattle.backoff.specs.Model.{in_probability, in_backoff, listed, probability, backoff, extended, reach}
use Rattle.backoff.specs.Rule.{add_points, replaced, score_after, history_length, rule, grow, rule_points}
use Rattle.backoff.specs.Run.{front}
use Rattle.rows.specs.Table.{rows_of, field, length_of, order_of, words_of, words, without_first, without_last, place_fits, places_fit}
use Rattle.rows.specs.Order.{last_less, precedes}
use Rattle.row_search.specs.Search.{find_below, find_in}
use Rattle.row_fields.specs.Fields.{backoff_fits, field_fault}
use Rattle.rows_before.specs.Faults.{is_after, without_firsts, shorter_listed, order_fault, row_fault}
use Rattle.list.specs.Check.{table_fits, reserved_listed, scan, verdict_for}
use Rattle.list.specs.ListModel.{any_below, extended_in, continued_in, model_of}
use Rattle.theorems.specs.OneWordExample.{OneWordExample}

pub one-word_example : OneWordExample
unfolding between up_to same_words is_word in_probability in_backoff listed probability backoff extended reach add_points replaced score_after history_length rule grow rule_points front rows_of field length_of order_of words_of words without_first without_last last_less precedes find_below find_in table_fits place_fits places_fit backoff_fits field_fault is_after without_firsts shorter_listed order_fault row_fault reserved_listed scan verdict_for any_below extended_in continued_in model_of
one-word_example = record {
  accepted1 = refl;
  moved1 = refl;
  accepted2 = refl;
  moved2 = refl;
  accepted3 = refl;
  moved3 = refl;
}
