-- The sample list built, number for number, by computation; what document 01 marks of it is in MarkedCases of theorems. Assumes nothing.
use mathlib.Core.Path.{◌≡◌, refl}
use mathlib.Core.List.{List, [], ◌∷◌}
use Prim.Native.Nat.{ℕ}
use lib.IntN.{ℤ, pos, neg_ℤ}
use lib.ListN.{replicate}
use Rattle.integer.specs.Integer.{between, up_to}
use Rattle.backoff.specs.Words.{same_words}
use Rattle.backoff.specs.Model.{in_probability, in_backoff}
use Rattle.backoff.specs.Refusal.{no_room}
use Rattle.backoff.specs.Run.{written}
use Rattle.backoff.specs.Refusal.{Accepted, Refused}
use Rattle.rows.specs.Table.{rows_of, field, length_of, order_of, words_of, words, without_first, without_last, place_fits, places_fit}
use Rattle.rows.specs.Order.{last_less, precedes}
use Rattle.row_search.specs.Search.{find_below, find_in}
use Rattle.row_fields.specs.Fields.{backoff_fits, field_fault}
use Rattle.rows_before.specs.Faults.{is_after, without_firsts, shorter_listed, order_fault, row_fault}
use Rattle.list.specs.Check.{table_fits, reserved_listed, scan, verdict_for}
use Rattle.list.specs.ListModel.{any_below, extended_in, continued_in}
use Rattle.list.specs.Sample.{sample}
use Rattle.child_slots.specs.Children.{free_check}
use Rattle.double_array.specs.DoubleArray.{sizes_ok}
use Rattle.placing.specs.Trie.{children}
use Rattle.placing.specs.Placing.{is_free, update, is_open, all_open, fits, search, first_fit, own, top_with, give, settle, place_at, with_marker, without_marker, place, place_all, unplaced, placing, slots}
use Rattle.row_nodes.specs.ListTrie.{node_of, root_of, nodes_from, nodes_of}
use Rattle.list_trie.specs.ListTrie.{placed_list, slots_from, row_slots}
use Rattle.placed_list.specs.Build.{Built, untouched, emptied, filled}
use Rattle.build.specs.Build.{build_outcome}

-- the sample built into N slots, and a work slice one longer than the rows; what the slices held is 7 throughout
abbrev sample_built : ℕ → Built
sample_built N = build_outcome sample (replicate N (pos 7)) (replicate N (pos 7)) (replicate 10 7)

abbrev built_base : List ℤ
built_base = pos 1 ∷ pos 9 ∷ pos 7 ∷ pos 8 ∷ pos 9 ∷ pos 10 ∷ pos 11 ∷ pos 0 ∷ neg_ℤ (pos 11999) ∷ pos 2 ∷ neg_ℤ (pos 7997) ∷ neg_ℤ (pos 3997) ∷ pos 16 ∷ pos 0 ∷ pos 13 ∷ pos 17 ∷ neg_ℤ (pos 1999) ∷ pos 2 ∷ pos 0 ∷ neg_ℤ (pos 1001) ∷ []

abbrev built_check : List ℤ
built_check = pos 27 ∷ neg_ℤ (pos 1) ∷ pos 0 ∷ pos 0 ∷ pos 0 ∷ pos 0 ∷ pos 0 ∷ neg_ℤ (pos 20001) ∷ neg_ℤ (pos 990001) ∷ neg_ℤ (pos 10001) ∷ neg_ℤ (pos 6001) ∷ neg_ℤ (pos 9001) ∷ pos 5 ∷ neg_ℤ (pos 1501) ∷ pos 4 ∷ pos 6 ∷ neg_ℤ (pos 4001) ∷ neg_ℤ (pos 3001) ∷ free_check ∷ pos 15 ∷ []

pub record SampleCases : Type 0 where
  pub enough : sample_built 20 ≡ record { answer = Accepted; base = built_base; check = built_check; work = 2 ∷ 3 ∷ 4 ∷ 5 ∷ 6 ∷ 14 ∷ 12 ∷ 15 ∷ 19 ∷ 7 ∷ [] }
  pub too_few : sample_built 19 ≡ record { answer = Refused no_room 0; base = replicate 19 (pos 0); check = replicate 19 free_check; work = 0 ∷ 0 ∷ 0 ∷ 0 ∷ 0 ∷ 0 ∷ 0 ∷ 0 ∷ 0 ∷ 7 ∷ [] }

pub sample_cases : SampleCases
unfolding between up_to same_words in_probability in_backoff written rows_of field length_of order_of words_of words without_first without_last last_less precedes find_below find_in table_fits place_fits places_fit backoff_fits field_fault is_after without_firsts shorter_listed order_fault row_fault reserved_listed scan verdict_for any_below extended_in continued_in sizes_ok children is_free update is_open all_open fits search first_fit own top_with give settle place_at with_marker without_marker place place_all unplaced placing slots node_of root_of nodes_from nodes_of placed_list slots_from row_slots untouched emptied filled build_outcome
sample_cases = record { enough = refl; too_few = refl }
