-- What the functions of the sentences in their order are held to. Assumes nothing.
use Rattle.std.specs.Prelude.{◌≡◌, Bool, true, ◌&&◌, List, [], ◌∷◌, ◌++◌, ℕ, zero, suc, ◌/◌, ◌%◌, ◌<◌, length, get_or, ℤ}
use Rattle.child_slots.specs.Children.{is_child, root_child}
use Rattle.sentence_order.specs.Sentences.{is_other}

-- the root has a child for w, which is neither 2 nor 3
unfoldable pub usable_child : List ℤ → ℕ → Bool
usable_child check w = is_child (root_child check w) && is_other w

-- the sentence of k words with the number i, counted from 0: the digits of i, the last the lowest
unfoldable pub sentence_at : List ℕ → ℕ → ℕ → List ℕ
sentence_at us zero i = []
sentence_at us (suc k) i = sentence_at us k (i / length us) ++ (get_or us (i % length us) 0 ∷ [])

-- each of the words us is usable
abbrev pub AllUsable : List ℤ → List ℕ → Type 0
AllUsable check us = (j : ℕ) → j < length us → usable_child check (get_or us j 0) ≡ true
