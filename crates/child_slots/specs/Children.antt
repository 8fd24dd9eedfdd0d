-- The children of a node of a double array: two lists of numbers, BASE and CHECK, of which nothing is known. Slots are natural numbers. Assumes nothing.
use Rattle.std.specs.declared.option.Option.{Option}
use Rattle.std.specs.declared.option.Option.TheVariants.{Some, None}
use Rattle.std.specs.Prelude.{Bool, true, false, cond, ◌&&◌, List, ℕ, ◌+◌, ◌-◌, ltb, length, get_or, ℤ, pos, negsuc, nat_abs}
use Rattle.std.specs.Int.Signed.{le_z}
use Rattle.integer.specs.Integer.{eq_z}
use Rattle.backoff.specs.Words.{is_word}

-- "A free slot has BASE 0 and CHECK −2,147,483,648."
abbrev pub free_check : ℤ
free_check = negsuc 2147483647

-- "the children's slots d − w (all ≥ 1) are tried first, then d + w": the slot of the child for word w, behind d or ahead of it
abbrev pub child_slot : Bool → ℕ → ℕ → ℕ
child_slot true d w = d - w
child_slot false d w = d + w

-- the word of the child in slot t, on whichever side of d that lies
abbrev pub word_at : ℕ → ℕ → ℕ
word_at d t = (t - d) + (d - t)

-- slot t as a child of the node in slot s: "d + w < N and CHECK[d + w] = s"
abbrev pub owned_by : List ℤ → ℕ → ℕ → Option ℕ
owned_by check s t = cond (ltb t (length check) && eq_z (get_or check t free_check) (pos s)) (Some t) None

abbrev pub or_else : Option ℕ → Option ℕ → Option ℕ
or_else (Some t) other = Some t
or_else None other = other

-- whether there is a child
abbrev pub is_child : Option ℕ → Bool
is_child (Some t) = true
is_child None = false

-- "A walk looks at d + w, then at d − w if that is at least 1", from the node in slot s
abbrev pub on_either_side : List ℤ → ℕ → ℕ → ℕ → Option ℕ
on_either_side check s d w = or_else (owned_by check s (child_slot false d w)) (cond (ltb w d) (owned_by check s (child_slot true d w)) None)

module _ (base check : List ℤ) where
  abbrev pub base_at : ℕ → ℤ
  base_at s = get_or base s (pos 0)

  abbrev pub check_at : ℕ → ℤ
  check_at s = get_or check s free_check

  -- "a child exists if 1 ≤ d, d + w < N and CHECK[d + w] = s", and else on the other side; a word "outside 1..65,535 is unlisted"
  unfoldable pub child_at : ℕ → ℕ → Option ℕ
  child_at s w = cond (is_word w && le_z (pos 1) (base_at s)) (on_either_side check s (nat_abs (base_at s)) w) None

-- the root's child for w, where BASE[0] is 1, so that no slot behind it is at least 1
abbrev pub root_child : List ℤ → ℕ → Option ℕ
root_child check w = cond (is_word w) (owned_by check 0 (child_slot false 1 w)) None
