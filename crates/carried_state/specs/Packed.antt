-- The parts of a state as check 16 looks at them, and the state as a run carries it: its words as the digits of one number, its back-offs in a lent array. Only
-- contracts of inner functions cite these. Assumes nothing.
use Rattle.std.specs.Prelude.{◌≡◌, Bool, true, ◌&&◌, List, [], ◌∷◌, map, ℕ, zero, suc, ◌+◌, ◌*◌, ◌-◌, ◌/◌, ◌%◌, ◌≤◌, length, take, drop, ℤ, pos, nat_abs}
use Rattle.integer.specs.Integer.{eq_z, sum}
use Rattle.backoff.specs.Words.{radix, three_digits, key}
use Rattle.backoff.specs.Model.{in_backoff}
use Rattle.backoff.specs.State.{State as Carried}
use Rattle.backoff.specs.NineNumbers.{all}
use Rattle.carried_state.specs.declared.State.{State}
use Rattle.carried_state.specs.declared.Packed.{Packed}

-- the items of a state that check 16 looks at together: the used ones pass a test, the unused ones are 0
unfoldable pub part_ok : (ℤ → Bool) → ℕ → List ℤ → Bool
part_ok P count items = all (map P (take count items)) && all (map (eq_z (pos 0)) (drop count items))

-- the first k digits of n, the lowest first
unfoldable pub digits : ℕ → ℕ → List ℕ
digits zero n = []
digits (suc k) n = n % radix ∷ digits k (n / radix)

-- the three lowest digits of n, and w below them
abbrev pub pushed : ℕ → ℕ → ℕ
pushed w n = n % three_digits * radix + w

-- a state's words as digits and the sum of its back-offs, as the code carries them
abbrev pub packed_as : State → Packed
packed_as s = record { count = nat_abs s.count; words = key (map nat_abs s.words); owed = sum s.backoffs }

-- the state that is carried so, its back-offs in a lent array
abbrev pub held_in : Packed → List ℤ → Carried
held_in c backoffs = record { words = take c.count (digits 4 c.words); backoffs = take c.count backoffs }

-- the sum of the first `count` back-offs of a lent array is owed
abbrev pub Owes : ℕ → ℤ → List ℤ → Type 0
Owes count owed backoffs = owed ≡ sum (take count backoffs)

-- what holds of a state that is carried so, where the order is n
pub record Carries (n : ℕ) (c : Packed) (backoffs : List ℤ) : Type 0 where
  pub five : length backoffs ≡ 5
  pub few : c.count ≤ n - 1
  pub in_backoffs : all (map in_backoff (take c.count backoffs)) ≡ true
  pub owed : Owes c.count c.owed backoffs
