-- What a walk through a state's words has read, and how far it has come. Assumes nothing.
use Rattle.std.specs.declared.option.Option.{Option}
use Rattle.std.specs.declared.option.Option.TheVariants.{Some, None}
use Rattle.std.specs.Prelude.{◌≡◌, Bool, true, false, not, cond, ◌||◌, List, [], ◌∷◌, ℕ, suc, ◌+◌, ◌*◌, ◌≤◌, ◌<◌, min, length, take, set, ℤ, pos, nat_abs, ◌+ℤ◌}
use Rattle.integer.specs.Integer.{eq_z}
use Rattle.backoff.specs.Limits.{largest_backoff}
use Rattle.backoff.specs.Model.{reach}
use Rattle.backoff.specs.State.{State as Carried, backoffs_of, live_length, walk, points_from, extended_from}
use Rattle.backoff.specs.Store.{Store, is_broken, model_in, ends_broken}
use Rattle.markers.specs.Markers.{Marker, Sound, Broken}
use Rattle.double_array.specs.DoubleArray.{marker_at, store_in}
use Rattle.carried_state.specs.Packed.{Owes}
use Rattle.word_walk.specs.declared.Kept.{Kept}
use Rattle.word_walk.specs.declared.Reached.{Reached}
use Rattle.word_walk.specs.declared.Reached.TheVariants.{End, Last}
use Rattle.word_walk.specs.declared.Walked.{Walked}

-- the longest live row: `kept` so far, and now a row with b and f has been read
abbrev pub longest_live : Kept → Kept → ℤ → Bool → Kept
longest_live kept row b f = cond (not (eq_z b (pos 0)) || f) row kept

-- a walk's end at a node with this marker, where so many words are passed, so much of the state's back-offs is owed, and `sum` is that of the back-offs before it
abbrev pub ended_at : Marker → ℕ → ℤ → ℤ → Kept → Option Walked
ended_at (Sound p b e f) passed owed sum kept =
    Some (record { points = p +ℤ owed; passed = passed; kept = longest_live kept (record { count = passed + 1; owed = sum +ℤ b }) b f; extended = e })
ended_at Broken passed owed sum kept = None

-- and what it leaves in the lent array
abbrev pub stored_at : Marker → ℕ → List ℤ → List ℤ
stored_at (Sound p b e f) passed backoffs = set backoffs passed b
stored_at Broken passed backoffs = backoffs

-- the walk from v through the words ws met a node without a sound marker
abbrev pub meets_broken : Store → List ℕ → ℕ → Bool
meets_broken S ws v = is_broken (S.look (v ∷ [])) || ends_broken S ws v

-- what a walk with no such node from the state s has read, and left in the lent array
pub record Read (S : Store) (s : Carried) (v : ℕ) (points : ℤ) (passed : ℕ) (kept : Kept) (extended : Bool) (backoffs : List ℤ) : Type 0 where
  pub sound : meets_broken S s.words v ≡ false
  pub passed_is : passed ≡ walk (model_in S) v s.words
  pub points_are : points ≡ points_from (model_in S) s v
  pub extended-is : extended ≡ extended_from (model_in S) s v
  pub kept-is : kept.count ≡ live_length (model_in S) (min (reach (model_in S)) (suc passed)) (v ∷ s.words)
  pub owed : Owes kept.count kept.owed backoffs
  pub five : length backoffs ≡ 5
  pub read : take (suc passed) backoffs ≡ backoffs_of (model_in S) (suc passed) (v ∷ s.words)

abbrev pub WalkedOver : Store → Carried → ℕ → Option Walked → List ℤ → Type 0
WalkedOver S s v (Some w) backoffs = Read S s v w.points w.passed w.kept w.extended backoffs
WalkedOver S s v None backoffs = meets_broken S s.words v ≡ true

-- the node that is still to be read is in the array, and the sums are small
abbrev pub Readable : List ℤ → Option Reached → Type 0
Readable base (Some (End walked)) = Unit {0}
Readable base (Some (Last slot owed sum kept)) = (slot < length base) × (nat_abs owed ≤ 4 * largest_backoff) × (nat_abs sum ≤ 4 * largest_backoff)
Readable base None = Unit {0}

-- how far a walk from the state s, which has `count` words, has come; where a node is still to be read, the walk is whole once it is
abbrev pub ReachedOver : List ℤ → List ℤ → Carried → ℕ → ℕ → Option Reached → List ℤ → Type 0
ReachedOver base check s v count (Some (End w)) backoffs = Read (store_in base check) s v w.points w.passed w.kept w.extended backoffs
ReachedOver base check s v count (Some (Last slot owed sum kept)) backoffs =
    WalkedOver (store_in base check) s v (ended_at (marker_at base check (count + 1) slot) count owed sum kept) (stored_at (marker_at base check (count + 1) slot) count backoffs)
ReachedOver base check s v count None backoffs = meets_broken (store_in base check) s.words v ≡ true
