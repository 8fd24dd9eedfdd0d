-- K1 to K9, by computation. Assumes nothing.
use mathlib.Core.Path.{refl}
use Rattle.integer.specs.Integer.{between, up_to}
use Rattle.backoff.specs.Words.{same_words, is_word}
use Rattle.backoff.specs.Model.{in_probability, in_backoff, listed, probability, backoff, extended, continued, live, reach}
use Rattle.backoff.specs.Rule.{add_points, length_byte, replaced, score_after, history_length, rule, rule_byte, grow, rule_points, rule_bytes}
use Rattle.backoff.specs.State.{largest, climb, backoffs_of, newest, live_length, walk, matched_from, points_from, extended_from, next_from}
use Rattle.backoff.specs.Run.{refusal, accepted, written, refused_run, accepted_run, front, plain}
use Rattle.backoff.specs.NineNumbers.{all, padded, nine, count_of, state_in, state_ok}
use Rattle.backoff.specs.Store.{model_in, walked_word, ends_broken, step_from, word_step, step, run_over, run_outcome, start_outcome}
use Rattle.rows.specs.Table.{rows_of, field, length_of, order_of, words_of, words, without_first, without_last, place_fits, places_fit}
use Rattle.rows.specs.Order.{last_less, precedes}
use Rattle.row_search.specs.Search.{find_below, find_in}
use Rattle.row_fields.specs.Fields.{backoff_fits, field_fault}
use Rattle.rows_before.specs.Faults.{is_after, without_firsts, shorter_listed, order_fault, row_fault}
use Rattle.list.specs.Check.{table_fits, reserved_listed, scan, verdict_for}
use Rattle.list.specs.ListModel.{any_below, extended_in, continued_in, model_of}
use Rattle.markers.specs.Markers.{marker_of}
use Rattle.child_slots.specs.Children.{child_at}
use Rattle.double_array.specs.DoubleArray.{kept_marker, own_marker, marker_at, look_from, sizes_ok, order_ok, head_ok, order_in, store_in, opened}
use Rattle.lookup.specs.Lookup.{lookup_outcome}
use Rattle.placing.specs.Trie.{children}
use Rattle.placing.specs.Placing.{is_free, update, is_open, all_open, fits, search, first_fit, own, top_with, give, settle, place_at, with_marker, without_marker, place, place_all, unplaced, placing, slots}
use Rattle.row_nodes.specs.ListTrie.{node_of, root_of, nodes_from, nodes_of}
use Rattle.list_trie.specs.ListTrie.{placed_list, slots_from, row_slots}
use Rattle.placed_list.specs.Build.{untouched, emptied, filled}
use Rattle.build.specs.Build.{build_outcome}
use Rattle.plain.specs.Plain.{plain_outcome}
use Rattle.theorems.specs.RunsInARow.{array_of}
use Rattle.theorems.specs.MarkedCases.{MarkedCases}

pub marked_cases : MarkedCases
unfolding between up_to same_words is_word in_probability in_backoff listed probability backoff extended continued live reach add_points length_byte replaced score_after history_length rule rule_byte grow rule_points rule_bytes largest climb backoffs_of newest live_length walk matched_from points_from extended_from next_from refusal accepted written refused_run accepted_run front plain all padded nine count_of state_in state_ok model_in walked_word ends_broken step_from word_step step run_over run_outcome start_outcome rows_of field length_of order_of words_of words without_first without_last last_less precedes find_below find_in table_fits place_fits places_fit backoff_fits field_fault is_after without_firsts shorter_listed order_fault row_fault reserved_listed scan verdict_for any_below extended_in continued_in model_of marker_of kept_marker own_marker marker_at child_at look_from sizes_ok order_ok head_ok order_in store_in opened lookup_outcome children is_free update is_open all_open fits search first_fit own top_with give settle place_at with_marker without_marker place place_all unplaced placing slots node_of root_of nodes_from nodes_of placed_list slots_from row_slots untouched emptied filled build_outcome plain_outcome array_of
marked_cases = record {
  k1 = record { run = refl; plain = refl };
  k2 = record { run = refl; plain = refl };
  k3 = record { run = refl; plain = refl };
  k4 = record { run = refl; plain = refl };
  k5 = record { run = refl; plain = refl };
  k6_listed = refl;
  k6_unlisted = refl;
  k7_enough = refl;
  k7_too_few = refl;
  k7_head = refl;
  k8_node = refl;
  k8_marker = refl;
  k8_check = refl;
  k8_base = refl;
  own-base = refl;
  own-check = refl;
  no_marker = refl;
  own-found = refl;
  k9_zero = refl;
  k9_one = refl;
}
