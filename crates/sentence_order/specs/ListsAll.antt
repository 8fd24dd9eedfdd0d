-- What it is to list the sentences of k usable words of a store, each once and in their order. The sentences quoted are those of document 02, T-12. Assumes nothing.
use Rattle.std.specs.Prelude.{◌≡◌, Bool, true, false, ◌&&◌, ◌||◌, List, [], ◌∷◌, ℕ, ◌≤◌, ◌<◌, eqb, ltb, length, get_or}
use Rattle.backoff.specs.Limits.{word_limit}
use Rattle.backoff.specs.Store.{Store}
use Rattle.sentence_order.specs.Sentences.{usable}

-- "ascending order, the first word weighing most": at the first place where the two differ the word of the first is the smaller
unfoldable pub precedes : List ℕ → List ℕ → Bool
precedes [] [] = false
precedes [] (v ∷ vs) = false
precedes (u ∷ us) [] = false
precedes (u ∷ us) (v ∷ vs) = ltb u v || (eqb u v && precedes us vs)

-- a sentence of k words, each of 1 to 65,535, for which the root has a child, and neither 2 nor 3
pub record IsSentence (S : Store) (k : ℕ) (s : List ℕ) : Type 0 where
  pub size : length s ≡ k
  pub words : (j : ℕ) → j < k → (1 ≤ get_or s j 0) × ((get_or s j 0 ≤ word_limit) × (usable S (get_or s j 0) ≡ true))

-- "Sentences come in ascending order"
abbrev pub Ascending : List (List ℕ) → Type 0
Ascending ss = (i j : ℕ) → i < j → j < length ss → precedes (get_or ss i []) (get_or ss j []) ≡ true

-- "every sentence of k words .. Sentences come in ascending order, the first word weighing most, each once."
pub record ListsAll (S : Store) (k : ℕ) (ss : List (List ℕ)) : Type 0 where
  pub sentences : (i : ℕ) → i < length ss → IsSentence S k (get_or ss i [])
  pub every : (s : List ℕ) → IsSentence S k s → (i : ℕ) × ((i < length ss) × (get_or ss i [] ≡ s))
  pub ascending : Ascending ss
  pub once : (i j : ℕ) → i < length ss → j < length ss → get_or ss i [] ≡ get_or ss j [] → i ≡ j
