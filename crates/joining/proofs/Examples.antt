-- Fragments of document 01's sample list, by computation. Assumes nothing.
use Rattle.std.specs.declared.option.Option.{Option}
use Rattle.std.specs.declared.option.Option.TheVariants.{Some, None}
use mathlib.Core.Path.{◌≡◌, refl}
use mathlib.Core.Bool.{Bool, true, false, cond}
use mathlib.Core.List.{List, [], ◌∷◌}
use Prim.Native.Nat.{ℕ, ◌+◌, ◌*◌}
use lib.IntN.{ℤ, pos, neg_ℤ}
use Rattle.integer.specs.Integer.{between}
use Rattle.backoff.specs.Limits.{largest_backoff}
use Rattle.backoff.specs.Refusal.{bad_fragment}
use Rattle.backoff.specs.Words.{same_words}
use Rattle.backoff.specs.Model.{Entry, Model, in_backoff, listed, probability, backoff, extended, continued, live, reach}
use Rattle.backoff.specs.Rule.{length_byte, replaced}
use Rattle.backoff.specs.State.{State, largest, climb, backoffs_of, newest, live_length, walk, matched_from, points_from, extended_from, next_from, step_points, step_next, start}
use Rattle.backoff.specs.Run.{run_points, run_end}
use Rattle.backoff.specs.NineNumbers.{all, padded, nine, count_of, state_in, state_ok}
use Rattle.backoff.specs.Store.{store_of, model_in, walked_word, ends_broken, step_from, word_step, step, run_over}
use Rattle.carried_state.specs.Numbers.{numbers_of, state_from}
use Rattle.fragments.specs.declared.Fragment.{Fragment as Numbers}
use Rattle.fragments.specs.declared.Joined.{Joined}
use Rattle.fragments.specs.Fragment.{no_words, fragment_ok, fragment_from, fragment_of}
use Rattle.fragments.specs.Outcome.{refused_by, four_places, kept_in, crossed}
use Rattle.joining.specs.Join.{joined_total, joined_end, join}
use Rattle.joining.specs.Outcome.{join_outcome}

abbrev minus : ℕ → ℤ
minus n = neg_ℤ (pos n)

-- the rows, newest word first
record Row : Type 0 where
  words : List ℕ
  entry : Entry

abbrev row : List ℕ → ℤ → ℤ → Bool → Bool → Row
row ws p b e f = record { words = ws; entry = record { p = p; b = b; e = e; f = f } }

abbrev rows : List Row
rows =
    row (1 ∷ []) (minus 20000) (pos 0) false false
    ∷ row (2 ∷ []) (minus 990000) (minus 3000) false true
    ∷ row (3 ∷ []) (minus 10000) (pos 0) true false
    ∷ row (4 ∷ []) (minus 6000) (minus 2000) true true
    ∷ row (5 ∷ []) (minus 9000) (minus 1000) true true
    ∷ row (3 ∷ 5 ∷ []) (minus 1500) (pos 0) false false
    ∷ row (4 ∷ 2 ∷ []) (minus 4000) (minus 500) false true
    ∷ row (5 ∷ 4 ∷ []) (minus 3000) (pos 0) true false
    ∷ row (5 ∷ 4 ∷ 2 ∷ []) (minus 1000) (pos 0) false false
    ∷ []

abbrev find_in : List Row → List ℕ → Option Entry
find_in [] l = None
find_in (r ∷ rs) l = cond (same_words r.words l) (Some r.entry) (find_in rs l)

abbrev sample : Model
sample = record { order = 3; find = find_in rows }

-- the state (2), which every 3 leaves
abbrev after_start : State
after_start = record { words = 2 ∷ []; backoffs = minus 3000 ∷ [] }

computed : Unit {0}
unfolding between same_words in_backoff listed probability backoff extended continued live reach length_byte replaced largest climb backoffs_of newest live_length walk matched_from points_from extended_from next_from step_points step_next start run_points run_end all padded nine count_of state_in state_ok store_of model_in walked_word ends_broken step_from word_step step run_over numbers_of state_from no_words fragment_ok fragment_from fragment_of joined_total joined_end join four_places kept_in join_outcome
computed = tt

-- an unlisted word is scored as 1 and kept as given
unknown-kept : fragment_of sample (9 ∷ []) ≡ record { total = minus 20000; first = 9 ∷ []; count = 1; end = record { words = []; backoffs = [] } }
unfolding computed
unknown-kept = refl

-- 4 joined with 5 3: −6000, −3000, −1500
both : join sample (fragment_of sample (4 ∷ [])) (fragment_of sample (5 ∷ 3 ∷ [])) ≡ record { total = minus 10500; first = 4 ∷ 5 ∷ []; count = 3; end = after_start }
unfolding computed
both = refl

-- a second sentence behind the 3: its 4 is scored after `<s>`, −4000
two-sentences : join sample (fragment_from sample after_start (4 ∷ 5 ∷ [])) (fragment_of sample (3 ∷ 4 ∷ [])) ≡ record { total = minus 10500; first = 4 ∷ 5 ∷ []; count = 4; end = record { words = 4 ∷ 2 ∷ []; backoffs = minus 2000 ∷ minus 500 ∷ [] } }
unfolding computed
two-sentences = refl

-- Fragments of the caller's own may pass 21 and join to one that does not: the total is returned, and the next join refuses it.
abbrev own : ℕ → Numbers
own w = record { total = pos (3 * largest_backoff); count = 1; kept = 1; first = w ∷ 0 ∷ 0 ∷ 0 ∷ []; state = state_from (nine (record { words = w ∷ []; backoffs = pos largest_backoff ∷ [] })) }

abbrev joined_own : Joined
joined_own = join_outcome (Some (store_of sample)) (own 4) (own 5)

own-joined : joined_own.fragment.total ≡ pos (2 * (3 * largest_backoff) + 6000)
unfolding computed
own-joined = refl

own_then_refused : join_outcome (Some (store_of sample)) joined_own.fragment (own 5) ≡ crossed (refused_by bad_fragment 1)
unfolding computed
own_then_refused = refl
