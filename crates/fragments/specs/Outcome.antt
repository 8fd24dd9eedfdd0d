-- How a fragment crosses, and what scoring or joining returns. Assumes nothing.
use Rattle.std.specs.declared.result.Result.{Result}
use Rattle.std.specs.declared.result.Result.TheVariants.{Ok, Err}
use Rattle.std.specs.Prelude.{◌≡◌, List, [], ◌∷◌, ◌++◌, ℕ, ◌-◌, length, take, get_or, replicate, ℤ}
use Rattle.backoff.specs.declared.Refusal.{Refusal}
use Rattle.backoff.specs.Refusal.{number_in, place_in}
use Rattle.backoff.specs.NineNumbers.{nine_zeros}
use Rattle.carried_state.specs.Numbers.{numbers_of, state_from}
use Rattle.fragments.specs.declared.Fragment.{Fragment as Numbers}
use Rattle.fragments.specs.declared.Joined.{Joined}
use Rattle.fragments.specs.Fragment.{Fragment, no_words}

-- The refusal's number and place, 0 and 0 where nothing is refused, and the fragment, its state as nine numbers.
pub record Reply : Type 0 where
  pub number : ℕ
  pub place : ℕ
  pub fragment : Fragment (List ℤ)

abbrev pub returned : Fragment (List ℤ) → Reply
returned f = record { number = 0; place = 0; fragment = f }

-- "A refused fragment or join is the empty fragment."
abbrev pub refused_by : ℕ → ℕ → Reply
refused_by number place = record { number = number; place = place; fragment = no_words nine_zeros }

-- ---- how a fragment crosses: its first words lie in four places

-- "unused ones 0"
unfoldable pub four_places : List ℕ → List ℕ
four_places ws = get_or ws 0 0 ∷ get_or ws 1 0 ∷ get_or ws 2 0 ∷ get_or ws 3 0 ∷ []

-- The first k words of those in the places, which are not read past k. There are k of them for any k: where more are said to be kept than there are places, they
-- count, and 21 refuses them.
unfoldable pub kept_in : ℕ → List ℕ → List ℕ
kept_in k places = take k (places ++ replicate k 0)

abbrev pub fragment_in : Numbers → Fragment (List ℤ)
fragment_in f = record { total = f.total; first = kept_in f.kept f.first; count = f.count; end = numbers_of f.state }

abbrev pub to_numbers : Fragment (List ℤ) → Numbers
to_numbers f = record { total = f.total; count = f.count; kept = length f.first; first = four_places f.first; state = state_from f.end }

abbrev pub crossed : Reply → Joined
crossed r = record { number = r.number; place = r.place; fragment = to_numbers r.fragment }

-- the empty fragment
abbrev pub empty_fragment : Numbers
empty_fragment = to_numbers (no_words nine_zeros)

-- the fragment that scoring or joining came to: the empty one where it is refused
abbrev pub fragment_of : Result Numbers (Refusal ℕ) → Numbers
fragment_of (Ok f) = f
fragment_of (Err refusal) = empty_fragment

abbrev pub joined_of : Result Numbers (Refusal ℕ) → Joined
joined_of r = record { number = number_in r; place = place_in r; fragment = fragment_of r }

-- ---- the fragment of scored words

-- the fragment of the words ws where the order is n, with the total and the state that scoring them gave
abbrev pub scored_fragment : ℕ → List ℕ → ℤ → List ℤ → Fragment (List ℤ)
scored_fragment n ws total end = record { total = total; first = take (n - 1) ws; count = length ws; end = end }

-- "A refused fragment or join is the empty fragment."
abbrev pub RefusedIsEmpty : Joined → Type 0
RefusedIsEmpty r = (r.number ≡ 0 → ⊥) → r.fragment ≡ empty_fragment
