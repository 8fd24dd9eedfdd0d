-- The trie that is placed: its nodes, the root first, their children, and what the placing rule asks of them. Words are oldest first, as in the list:
-- the parent of `w ∷ us` is `us`. Assumes nothing.
use Rattle.std.specs.declared.option.Option.{Option}
use Rattle.std.specs.declared.option.Option.TheVariants.{Some, None}
use Rattle.std.specs.Prelude.{◌≡◌, ◌≢◌, true, cond, List, [], ◌∷◌, ℕ, suc, ◌≤◌, ◌<◌, eqb, ℤ, pos, length, get_or}
use Rattle.backoff.specs.Words.{same_words, are_words}

-- A node: the words that lead to it, and what its marker holds: CHECK is −(cost + 1), which is p − 1 of a row with p = −cost, and BASE is load. A node of n words,
-- which has no marker, holds that p − 1 itself.
pub record Node : Type 0 where
  pub words : List ℕ
  pub cost : ℕ
  pub load : ℤ

abbrev pub child_of : List ℕ → List ℕ → List ℕ → List ℕ
child_of us [] ks = ks
child_of us (w ∷ ws) ks = cond (same_words ws us) (w ∷ ks) ks

-- the words that lead from the node `us` to its children, in the order of the nodes
unfoldable pub children : List Node → List ℕ → List ℕ
children [] us = []
children (m ∷ ms) us = child_of us m.words (children ms us)

-- the first node that has these words
unfoldable pub find_node : List Node → List ℕ → Option Node
find_node [] us = None
find_node (m ∷ ms) us = cond (same_words m.words us) (Some m) (find_node ms us)

-- how many nodes have as many words as the order
unfoldable pub longest_nodes : ℕ → List Node → ℕ
longest_nodes order [] = 0
longest_nodes order (m ∷ ms) = cond (eqb (length m.words) order) (suc (longest_nodes order ms)) (longest_nodes order ms)

-- node i, from 0; past the last, one with no words
abbrev pub node_at : List Node → ℕ → Node
node_at nodes i = get_or nodes i (record { words = []; cost = 0; load = pos 0 })

-- node i is an earlier node with one more word in front
pub record HasParent (nodes : List Node) (i : ℕ) : Type 0 where
  pub word : ℕ
  pub parent : ℕ
  pub earlier : parent < i
  pub words : (node_at nodes i).words ≡ word ∷ (node_at nodes parent).words

-- What the placing rule asks of the nodes: the root comes first and each other node after its parent, no two have the same words, all words are 1 to
-- 65,535, and no marker's CHECK is that of a free slot. No node has more words than the order, and one that has as many has nothing but its p.
pub record Ready (order : ℕ) (nodes : List Node) : Type 0 where
  pub some_words : 1 ≤ order
  pub nonempty : 0 < length nodes
  pub root : (node_at nodes 0).words ≡ []
  pub parents : (i : ℕ) → 0 < i → i < length nodes → HasParent nodes i
  pub distinct : (i j : ℕ) → i < j → j < length nodes → (node_at nodes i).words ≢ (node_at nodes j).words
  pub in_words : (i : ℕ) → i < length nodes → are_words (node_at nodes i).words ≡ true
  pub costs : (i : ℕ) → i < length nodes → (node_at nodes i).cost < 2147483647
  pub short : (i : ℕ) → i < length nodes → length (node_at nodes i).words ≤ order
  pub bare : (i : ℕ) → i < length nodes → length (node_at nodes i).words ≡ order → (node_at nodes i).load ≡ pos 0
