-- Document 01's marked cases K1 to K9 on the sample list, over the outcomes that the contracts cite. Assumes nothing.
use Rattle.std.specs.declared.option.Option.{Option}
use Rattle.std.specs.Prelude.{◌≡◌, true, false, List, [], ◌∷◌, ℕ, ℤ, pos, neg_ℤ, length, get_or, replicate}
use Rattle.backoff.specs.Refusal.{row_probability, no_room}
use Rattle.backoff.specs.Run.{Run}
use Rattle.backoff.specs.NineNumbers.{nine_zeros}
use Rattle.backoff.specs.Store.{Store, start_outcome, run_outcome}
use Rattle.backoff.specs.Refusal.{Accepted, Refused}
use Rattle.list.specs.Check.{verdict}
use Rattle.list.specs.Sample.{sample, sample_with}
use Rattle.child_slots.specs.Children.{free_check}
use Rattle.lookup.specs.Lookup.{lookup_outcome}
use Rattle.lookup.specs.Lookup.{Found, NotFound}
use Rattle.placed_list.specs.Build.{Built}
use Rattle.build.specs.Build.{build_outcome}
use Rattle.plain.specs.Plain.{plain_outcome}
use Rattle.theorems.specs.RunsInARow.{array_of}

abbrev minus : ℕ → ℤ
minus n = neg_ℤ (pos n)

-- the sample built into N slots; the lent slices held 7 throughout, and work has one item more than there are rows
abbrev pub sample_built : ℕ → Built
sample_built N = build_outcome sample (replicate N (pos 7)) (replicate N (pos 7)) (replicate 10 7)

abbrev pub sample_array : Option Store
sample_array = array_of (sample_built 20)

-- a run of these words, with slices of just their number, which held 7
abbrev pub asked : List ℕ → Run
asked ws = record { words = ws; points = replicate (length ws) (pos 7); lengths = replicate (length ws) 7 }

-- the state (2), which start gives
abbrev pub start_state : List ℤ
start_state = pos 1 ∷ pos 2 ∷ pos 0 ∷ pos 0 ∷ pos 0 ∷ minus 3000 ∷ pos 0 ∷ pos 0 ∷ pos 0 ∷ []

-- the words scored from start's state, and by plain scoring after `<s>`, give this total, these points and these length bytes, and leave this state
pub record Scores (ws : List ℕ) (total : ℤ) (points : List ℤ) (lengths : List ℕ) (end : List ℤ) : Type 0 where
  pub run : run_outcome sample_array (start_outcome sample_array nine_zeros).state (asked ws) ≡ record { number = 0; place = 0; total = total; end = end; points = points; lengths = lengths }
  pub plain : plain_outcome sample true (asked ws) ≡ record { number = 0; place = 0; total = total; end = tt; points = points; lengths = lengths }

pub record MarkedCases : Type 0 where
  -- "K1 from start, 4 5 3: −4000, −1000, −1500."
  pub k1 : Scores (4 ∷ 5 ∷ 3 ∷ []) (minus 6500) (minus 4000 ∷ minus 1000 ∷ minus 1500 ∷ []) (2 ∷ 3 ∷ 2 ∷ []) start_state
  -- "K2 5 4 3: −12000, −7000, −12000."
  pub k2 : Scores (5 ∷ 4 ∷ 3 ∷ []) (minus 31000) (minus 12000 ∷ minus 7000 ∷ minus 12000 ∷ []) (17 ∷ 17 ∷ 17 ∷ []) start_state
  -- "K3 9 3: −23000, −10000."
  pub k3 : Scores (9 ∷ 3 ∷ []) (minus 33000) (minus 23000 ∷ minus 10000 ∷ []) (9 ∷ 17 ∷ []) start_state
  -- "K4 3 alone: −13000."
  pub k4 : Scores (3 ∷ []) (minus 13000) (minus 13000 ∷ []) (17 ∷ []) start_state
  -- "K5 state after `<s>` 4 5 is (5)", and after a further 3 "K5's last state becomes (2)": for the latter, see K1
  pub k5 : Scores (4 ∷ 5 ∷ []) (minus 5000) (minus 4000 ∷ minus 1000 ∷ []) (2 ∷ 3 ∷ []) (pos 1 ∷ pos 5 ∷ pos 0 ∷ pos 0 ∷ pos 0 ∷ minus 1000 ∷ pos 0 ∷ pos 0 ∷ pos 0 ∷ [])
  -- "K6 lookup 2 4: −4000, −500; 5 4: not found."
  pub k6_listed : lookup_outcome (sample_built 20).base (sample_built 20).check (2 ∷ 4 ∷ []) ≡ Found (minus 4000) (minus 500) false
  pub k6_unlisted : lookup_outcome (sample_built 20).base (sample_built 20).check (5 ∷ 4 ∷ []) ≡ NotFound
  -- "K7 N = 20 builds, N = 19 gives 10." No node of the sample has its children behind its BASE, and its only row of three words has its node in the last slot; the
  -- head is n + 24.
  pub k7_enough : (sample_built 20).answer ≡ Accepted
  pub k7_too_few : (sample_built 19).answer ≡ Refused no_room 0
  pub k7_head : get_or (sample_built 20).check 0 (pos 0) ≡ pos 27
  -- "K8 row 2 4 has its node in slot 12 and marker in 16: CHECK −4001", and "K8 shows −1999" as BASE. The row is the seventh.
  pub k8_node : get_or (sample_built 20).work 6 0 ≡ 12
  pub k8_marker : get_or (sample_built 20).base 12 (pos 0) ≡ pos 16
  pub k8_check : get_or (sample_built 20).check 16 (pos 0) ≡ minus 4001
  pub k8_base : get_or (sample_built 20).base 16 (pos 0) ≡ minus 1999
  -- "the node's own BASE holds p − 1, its CHECK still the parent": row 2 4 5 in slot 19, its parent in slot 15; no marker takes slot 18
  pub own-base : get_or (sample_built 20).base 19 (pos 0) ≡ minus 1001
  pub own-check : get_or (sample_built 20).check 19 (pos 0) ≡ pos 15
  pub no_marker : get_or (sample_built 20).check 18 (pos 0) ≡ free_check
  pub own-found : lookup_outcome (sample_built 20).base (sample_built 20).check (2 ∷ 4 ∷ 5 ∷ []) ≡ Found (minus 1000) (pos 0) false
  -- "K9 p = 0 is accepted in row 1, p = 1 gives 5, row 1."
  pub k9_zero : verdict (sample_with (pos 0)) ≡ Accepted
  pub k9_one : verdict (sample_with (pos 1)) ≡ Refused row_probability 1
