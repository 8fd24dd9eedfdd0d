-- The sample's trie and the array that the rule places for it, computed. Assumes nothing.
use mathlib.Core.Path.{◌≡◌, refl, sym, ap, ◌∙◌}
use mathlib.Core.Logic.{◌≢◌}
use mathlib.Core.Bool.{Bool, true, false, not, ◌&&◌, ◌||◌, false≢true}
use mathlib.Core.List.{List, [], ◌∷◌, map}
use Prim.Native.Nat.{ℕ, zero, suc, ◌<◌}
use native.Mathlib.Omega.{arith}
use native.Mathlib.Decide.{ℕ_discrete}
use borrow.Author.Tests.{leb-true, ltb-true, eq-eqb}
use lib.Dec.{eqb, leb, ltb}
use lib.IntN.{pos, negsuc, neg_ℤ}
use lib.ListN.{length, get_or}
use Rattle.integer.specs.Integer.{eq_z}
use Rattle.integer.proofs.Arithmetic.{zarith}
use Rattle.integer.proofs.Ranges.{and_left, and_right}
use Rattle.backoff.specs.Words.{same_words, is_word, are_words}
use Rattle.backoff.proofs.Words.{same_eq, same_refl}
use Rattle.markers.specs.Markers.{marker_base}
use Rattle.child_slots.specs.Children.{free_check}
use Rattle.placing.specs.Trie.{Node, children, node_at, HasParent, Ready}
use Rattle.placing.specs.Placing.{Placed, is_free, update, is_open, all_open, fits, search, first_fit, own, top_with, give, settle, place_at, with_marker, without_marker, place, place_all, unplaced, placing, slots, used_slots, taken_slots}

-- a row's node, from its words, −p, −b, e and f
abbrev row : List ℕ → ℕ → ℕ → Bool → Bool → Node
row ws cost fall e f = record { words = ws; cost = cost; load = marker_base (neg_ℤ (pos fall)) e f }

abbrev sample_nodes : List Node
sample_nodes =
    record { words = []; cost = 0; load = pos 9 }
    ∷ row (1 ∷ []) 20000 0 false false
    ∷ row (2 ∷ []) 990000 3000 false true
    ∷ row (3 ∷ []) 10000 0 true false
    ∷ row (4 ∷ []) 6000 2000 true true
    ∷ row (5 ∷ []) 9000 1000 true true
    ∷ row (5 ∷ 3 ∷ []) 1500 0 false false
    ∷ row (2 ∷ 4 ∷ []) 4000 500 false true
    ∷ row (4 ∷ 5 ∷ []) 3000 0 true false
    ∷ row (2 ∷ 4 ∷ 5 ∷ []) 1000 0 false false
    ∷ []

sample_placed : Placed
unfolding same_words children is_free update is_open all_open fits search first_fit own top_with give settle place_at with_marker without_marker place place_all unplaced placing slots
sample_placed = placing 3 sample_nodes

-- so N = 20 is enough, and N = 19 is not
sample-top : (placing 3 sample_nodes).top ≡ 20
unfolding sample_placed
sample-top = refl

sample-base : slots 20 (placing 3 sample_nodes).base
    ≡ pos 1 ∷ pos 9 ∷ pos 7 ∷ pos 8 ∷ pos 9 ∷ pos 10 ∷ pos 11 ∷ pos 0 ∷ negsuc 11998 ∷ pos 2 ∷ negsuc 7996 ∷ negsuc 3996 ∷ pos 16 ∷ pos 0 ∷ pos 13 ∷ pos 17 ∷ negsuc 1998 ∷ pos 2 ∷ pos 0 ∷ negsuc 1000 ∷ []
unfolding sample_placed
sample-base = refl

sample-check : slots 20 (placing 3 sample_nodes).check
    ≡ pos 27 ∷ negsuc 0 ∷ pos 0 ∷ pos 0 ∷ pos 0 ∷ pos 0 ∷ pos 0 ∷ negsuc 20000 ∷ negsuc 990000 ∷ negsuc 10000 ∷ negsuc 6000 ∷ negsuc 9000 ∷ pos 5 ∷ negsuc 1500 ∷ pos 4 ∷ pos 6 ∷ negsuc 4000 ∷ negsuc 3000 ∷ free_check ∷ pos 15 ∷ []
unfolding sample_placed
sample-check = refl

-- the root's slot, then those of the rows
sample-slots : map (λ m. (placing 3 sample_nodes).slot m.words) sample_nodes ≡ 0 ∷ 2 ∷ 3 ∷ 4 ∷ 5 ∷ 6 ∷ 14 ∷ 12 ∷ 15 ∷ 19 ∷ []
unfolding sample_placed
sample-slots = refl

-- Of 25 slots 20 are used; a free slot that a used one follows counts, which the sample has no case of.
sample_used : used_slots (slots 25 (placing 3 sample_nodes).check) ≡ 20
unfolding sample_placed used_slots
sample_used = refl

-- Two for each of the ten nodes, but one for the row of three words: 19 are taken.
sample-taken : taken_slots (slots 25 (placing 3 sample_nodes).check) ≡ 19
unfolding sample_placed taken_slots
sample-taken = refl

used_past_free : used_slots (pos 0 ∷ free_check ∷ pos 0 ∷ free_check ∷ []) ≡ 3
unfolding is_free used_slots
used_past_free = refl

-- A d is passed over for a child's sake, which the sample has no case of: slot 3 is free, and slot 3 + 3 is taken by the root's child 5.
passed_over : (placing 2 (row [] 0 0 false false ∷ row (1 ∷ []) 0 0 true false ∷ row (5 ∷ []) 0 0 false false ∷ row (3 ∷ 1 ∷ []) 0 0 false false ∷ [])).base 2 ≡ pos 4
unfolding sample_placed
passed_over = refl

-- Children lie behind d, which the sample has no case of: of the room that the root leaves, slots 3, 5 and 6 are free and 4, 7 and 8 are not, so that node 1,
-- in slot 2, takes d = 6 for its children 1 and 3. The highest slot that it uses is d itself.
behind_placed : Placed
behind_placed = placing 2 (row [] 0 0 false false ∷ row (1 ∷ []) 0 0 true false ∷ row (3 ∷ []) 0 0 false false ∷ row (6 ∷ []) 0 0 false false ∷ row (7 ∷ []) 0 0 false false ∷ row (1 ∷ 1 ∷ []) 0 0 false false ∷ row (3 ∷ 1 ∷ []) 0 0 false false ∷ [])

lies_behind : slots 13 behind_placed.base
    ≡ pos 1 ∷ pos 0 ∷ pos 6 ∷ negsuc 0 ∷ pos 9 ∷ negsuc 0 ∷ pos 2 ∷ pos 10 ∷ pos 11 ∷ pos 0 ∷ pos 0 ∷ pos 0 ∷ pos 0 ∷ []
unfolding sample_placed behind_placed
lies_behind = refl

lies_behind_check : slots 13 behind_placed.check
    ≡ pos 26 ∷ negsuc 0 ∷ pos 0 ∷ pos 2 ∷ pos 0 ∷ pos 2 ∷ negsuc 0 ∷ pos 0 ∷ pos 0 ∷ negsuc 0 ∷ negsuc 0 ∷ negsuc 0 ∷ free_check ∷ []
unfolding sample_placed behind_placed
lies_behind_check = refl

-- Of order 1 no row has a marker, and the root keeps its own.
one-word-rows : slots 5 (placing 1 (record { words = []; cost = 0; load = pos 3 } ∷ row (1 ∷ []) 5 0 false false ∷ row (2 ∷ []) 6 0 false false ∷ row (3 ∷ []) 7 0 false false ∷ [])).base
    ≡ pos 1 ∷ pos 3 ∷ negsuc 5 ∷ negsuc 6 ∷ negsuc 7 ∷ []
unfolding sample_placed
one-word-rows = refl

-- ---- `Ready` asks nothing that the sample has not

all_below : (ℕ → Bool) → ℕ → Bool
all_below test zero = true
all_below test (suc n) = test n && all_below test n

all-below : (test : ℕ → Bool) (n : ℕ) → all_below test n ≡ true → (i : ℕ) → i < n → test i ≡ true
unfolding all_below
all-below test zero e i h = absurd (omega arith)
all-below test (suc n) e i h = go (all-below test n (and_right (test n) (all_below test n) e) i) (ℕ_discrete i n)
  where
    go : (i < n → test i ≡ true) → Dec (i ≡ n) → test i ≡ true
    go rec (yes q) = rw q (and_left (test n) (all_below test n) e)
    go rec (no q) = rec (omega arith)

abbrev words : ℕ → List ℕ
words i = (node_at sample_nodes i).words

-- of each row, its word in front and its parent's number
abbrev word : ℕ → ℕ
word i = get_or (1 ∷ 2 ∷ 3 ∷ 4 ∷ 5 ∷ 5 ∷ 2 ∷ 4 ∷ 2 ∷ []) i 0

abbrev parent : ℕ → ℕ
parent i = get_or (0 ∷ 0 ∷ 0 ∷ 0 ∷ 0 ∷ 3 ∷ 4 ∷ 5 ∷ 8 ∷ []) i 0

sample-parent : (i : ℕ) → 0 < i → i < length sample_nodes → HasParent sample_nodes i
unfolding all_below same_words
sample-parent zero p h = absurd (omega arith)
sample-parent (suc i) p h = record {
  word = word i;
  parent = parent i;
  earlier = ltb-true (parent i) (suc i) (all-below (λ k. ltb (parent k) (suc k)) 9 refl i (omega arith));
  words = same_eq (words (suc i)) (word i ∷ words (parent i)) (all-below (λ k. same_words (words (suc k)) (word k ∷ words (parent k))) 9 refl i (omega arith));
}

sample-distinct : (i j : ℕ) → i < j → j < length sample_nodes → words i ≢ words j
unfolding all_below same_words
sample-distinct i j l h e =
    let apart : ℕ → ℕ → Bool = λ j i. not (same_words (words i) (words j)) in
    let t : not (same_words (words i) (words j)) ≡ true = all-below (apart j) j (all-below (λ j. all_below (apart j) j) 10 refl j h) i l in
    false≢true (ap not (sym (same_refl (words j))) ∙ ap (λ (us : List ℕ). not (same_words us (words j))) (sym e) ∙ t)

-- the sample's only row of three words
sample-bare : (i : ℕ) → i < length sample_nodes → length (words i) ≡ 3 → (node_at sample_nodes i).load ≡ pos 0
unfolding all_below
sample-bare i h e =
    let t : (not (eqb (length (words i)) 3) || eq_z (node_at sample_nodes i).load (pos 0)) ≡ true = all-below (λ i. not (eqb (length (words i)) 3) || eq_z (node_at sample_nodes i).load (pos 0)) 10 refl i h in
    let z : eq_z (node_at sample_nodes i).load (pos 0) ≡ true = rw (eq-eqb (length (words i)) 3 e) at t in
    omega zarith

sample_ready : Ready 3 sample_nodes
unfolding all_below are_words is_word
sample_ready = record {
  some_words = omega arith;
  nonempty = omega arith;
  root = refl;
  parents = sample-parent;
  distinct = sample-distinct;
  in_words = all-below (λ i. are_words (words i)) 10 refl;
  costs = λ i h. ltb-true (node_at sample_nodes i).cost 2147483647 (all-below (λ i. ltb (node_at sample_nodes i).cost 2147483647) 10 refl i h);
  short = λ i h. leb-true (length (words i)) 3 (all-below (λ i. leb (length (words i)) 3) 10 refl i h);
  bare = sample-bare;
}
