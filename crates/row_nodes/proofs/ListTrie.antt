-- Laws of the trie of an accepted list: its nodes by their places, that the placing rule may place them, what a row's marker has in CHECK, and which rows are
-- the children of a node. Assumes nothing.
use Rattle.std.specs.declared.option.Option.TheVariants.{Some}
use mathlib.Core.Path.{◌≡◌, refl, sym, ap, ◌∙◌}
use mathlib.Core.Logic.{◌⊎◌, inl, inr, ⊎_elim, ◌≢◌}
use mathlib.Core.Bool.{true, false, cond}
use mathlib.Core.List.{List, [], ◌∷◌, ◌++◌, nil≢cons, reverse, reverse-reverse}
use Prim.Native.Nat.{ℕ, zero, suc, ◌+◌, ◌*◌, ◌-◌, ◌≤◌, ◌<◌, max}
use native.Mathlib.Omega.{arith}
use lib.IntN.{ℤ, pos, negsuc}
use lib.ListN.{length, get_or, take, drop, length-append, length-reverse}
use lib.Seq.{get_or-take, get_or-drop}
use Rattle.integer.proofs.Arithmetic.{zarith, abs, sub}
use Rattle.integer.proofs.Ranges.{lt_or_ge, between-low, between-high, false_unless}
use Rattle.backoff.specs.Limits.{least_probability}
use Rattle.backoff.specs.Words.{same_words, are_words}
use Rattle.backoff.specs.Model.{in_probability, backoff_of, extended_of, continued_of, backoff, extended, continued, AcceptedModel}
use Rattle.backoff.specs.Refusal.{Accepted}
use Rattle.backoff.proofs.Words.{same_refl, same_ne}
use Rattle.rows.specs.Table.{rows_of, field, probability_at, backoff_at, length_of, order_of, word_of, words_of, words, without_first}
use Rattle.rows.specs.Good.{Good}
use Rattle.rows.proofs.Table.{row_in, words-length, words_cons}
use Rattle.rows.proofs.Good.{are_words_lem}
use Rattle.row_search.proofs.Search.{finds, find_unique}
use Rattle.list.specs.Check.{verdict}
use Rattle.list.specs.ListModel.{extended_in, continued_in, entry_at, model_of}
use Rattle.list.proofs.ListModel.{length-order, accepted-model}
use Rattle.list.proofs.Check.{accepted-row, accepted-good, accepted-size, first-listed}
use Rattle.extensions.specs.Stretch.{Stretch}
use Rattle.markers.specs.Markers.{marker_check}
use Rattle.placing.specs.Trie.{Node, child_of, children, node_at, HasParent, Ready}
use Rattle.first_fit.specs.Steps.{oldest_from}
use Rattle.row_nodes.specs.ListTrie.{node_of, root_of, nodes_from, nodes_of, RowsBelow}

-- ---- the nodes by their places

length-nodes_from : (t : List ℤ) (i k : ℕ) → length (nodes_from t i k) ≡ k
unfolding nodes_from
length-nodes_from t i zero = refl
length-nodes_from t i (suc k) = ap suc (length-nodes_from t (suc i) k)

get_or-nodes_from : (t : List ℤ) (i k j : ℕ) (x : Node) → j < k → get_or (nodes_from t i k) j x ≡ node_of t (i + j)
unfolding nodes_from
get_or-nodes_from t i zero j x h = absurd (omega arith)
get_or-nodes_from t i (suc k) zero x h = ap (node_of t) (omega arith)
get_or-nodes_from t i (suc k) (suc j) x h = get_or-nodes_from t (suc i) k j x (omega arith) ∙ ap (node_of t) (omega arith)

module _ (t : List ℤ) where
  pub length-nodes_of : length (nodes_of t) ≡ suc (rows_of t)
  unfolding nodes_of
  length-nodes_of = ap suc (length-nodes_from t 0 (rows_of t))

  pub node_at-root : node_at (nodes_of t) 0 ≡ root_of t
  unfolding nodes_of
  node_at-root = refl

  pub node_at-row : (i : ℕ) → i < rows_of t → node_at (nodes_of t) (suc i) ≡ node_of t i
  unfolding nodes_of
  node_at-row i h = get_or-nodes_from t 0 (rows_of t) i _ h ∙ ap (node_of t) (omega arith)

  pub root-words : (node_at (nodes_of t) 0).words ≡ []
  unfolding root_of
  root-words = ap (λ (n : Node). n.words) node_at-root

  pub row_words_lem : (i : ℕ) → i < rows_of t → (node_at (nodes_of t) (suc i)).words ≡ words t i
  unfolding node_of
  row_words_lem i h = ap (λ (n : Node). n.words) (node_at-row i h)

-- ---- rows of one word, and of more

pub one_word : (t : List ℤ) (i : ℕ) → length_of t i < 2 → without_first t i ≡ []
unfolding without_first words_of
one_word t i h = let e : length_of t i - 1 ≡ 0 = omega arith in rw e

module _ (t : List ℤ) (a : verdict t ≡ Accepted) where
  good : Good t (rows_of t)
  good = accepted-good t a

  pub row_cons : (i : ℕ) → i < rows_of t → words t i ≡ word_of (field t i 1) ∷ without_first t i
  row_cons i h = words_cons t i (row_in t i h) (good.row i h).some

  pub more-words : (i : ℕ) → i < rows_of t → 2 ≤ length_of t i → without_first t i ≢ []
  more-words i h l e = absurd (omega (arith, sym (words-length t i (row_in t i h)) ∙ ap length (row_cons i h) ∙ ap (λ (ws : List ℕ). suc (length ws)) e))

  -- ---- the trie is ready to be placed

  row-parent : (i : ℕ) → i < rows_of t → HasParent (nodes_of t) (suc i)
  row-parent i h = ⊎_elim one more (lt_or_ge (length_of t i) 2)
    where
      first : (ws : List ℕ) → without_first t i ≡ ws → (node_at (nodes_of t) (suc i)).words ≡ word_of (field t i 1) ∷ ws
      first ws e = row_words_lem t i h ∙ row_cons i h ∙ ap (λ (us : List ℕ). word_of (field t i 1) ∷ us) e

      one : length_of t i < 2 → HasParent (nodes_of t) (suc i)
      one l = record { word = word_of (field t i 1); parent = 0; earlier = omega arith; words = first _ (one_word t i l ∙ sym (root-words t)) }

      more : 2 ≤ length_of t i → HasParent (nodes_of t) (suc i)
      more l =
          let f = first-listed t a i h l in
          record {
            word = word_of (field t i 1);
            parent = suc f.0;
            earlier = omega (arith, f.1);
            words = first _ (sym f.2 ∙ sym (row_words_lem t f.0 (omega (arith, f.1))));
          }

  node_parent : (i : ℕ) → 0 < i → i < length (nodes_of t) → HasParent (nodes_of t) i
  node_parent zero p h = absurd (omega arith)
  node_parent (suc i) p h = row-parent i (omega (arith, length-nodes_of t))

  nodes-distinct : (i j : ℕ) → i < j → j < length (nodes_of t) → (node_at (nodes_of t) i).words ≢ (node_at (nodes_of t) j).words
  nodes-distinct i zero l h e = absurd (omega arith)
  nodes-distinct zero (suc j) l h e =
      let k : j < rows_of t = omega (arith, length-nodes_of t) in
      nil≢cons (sym (root-words t) ∙ e ∙ row_words_lem t j k ∙ row_cons j k)
  nodes-distinct (suc i) (suc j) l h e =
      let k : j < rows_of t = omega (arith, length-nodes_of t) in
      let m : i < rows_of t = omega arith in
      let q : i ≡ j = find_unique t good i j m k (sym (row_words_lem t i m) ∙ e ∙ row_words_lem t j k) in
      absurd (omega arith)

  node_words : (i : ℕ) → i < length (nodes_of t) → are_words (node_at (nodes_of t) i).words ≡ true
  node_words zero h = ap are_words (root-words t) ∙ (unfold are_words in refl)
  node_words (suc i) h =
      let k : i < rows_of t = omega (arith, length-nodes_of t) in
      ap are_words (row_words_lem t i k) ∙ are_words_lem t i (good.row i k)

  node_cost : (i : ℕ) → i < length (nodes_of t) → (node_at (nodes_of t) i).cost < 2147483647
  unfolding root_of node_of in_probability
  node_cost zero h = rw (node_at-root t) (omega arith)
  node_cost (suc i) h =
      let k : i < rows_of t = omega (arith, length-nodes_of t) in
      let p = probability_at t i in
      let l = between-low least_probability (pos 0) p (accepted-row t a i k).fields.probability in
      rw (node_at-row t i k) (omega (zarith, abs p, between-high least_probability (pos 0) p (accepted-row t a i k).fields.probability))

  -- ---- rows of n words

  node_short : (i : ℕ) → i < length (nodes_of t) → length (node_at (nodes_of t) i).words ≤ order_of t
  node_short zero h = rw (root-words t) (omega arith)
  node_short (suc i) h =
      let k : i < rows_of t = omega (arith, length-nodes_of t) in
      rw (row_words_lem t i k, words-length t i (row_in t i k)) (length-order t good (accepted-size t a).0 i k)

  -- the row is the longest, so that it has no b, and none is longer, so that it has no e and f
  longest-bare : (i : ℕ) → i < rows_of t → length_of t i ≡ order_of t → (backoff_at t i ≡ pos 0) × (extended_in t (words t i) ≡ false) × (continued_in t (words t i) ≡ false)
  unfolding model_of backoff extended continued
  longest-bare i h e = (
    sym (ap backoff_of found) ∙ M.longest l long,
    sym (ap extended_of found) ∙ false_unless (extended (model_of t) l) (λ q. let y = M.extended_by l q in omega (arith, M.short (l ++ (y.0 ∷ [])) y.1, length-append l (y.0 ∷ []), long)),
    sym (ap continued_of found) ∙ false_unless (continued (model_of t) l) (λ q. let x = M.continued_by l q in omega (arith, M.short (x.0 ∷ l) x.1, long)),
  )
    where
      M : AcceptedModel (model_of t)
      M = accepted-model t a

      l : List ℕ
      l = reverse (words t i)

      long : length l ≡ order_of t
      long = length-reverse (words t i) ∙ words-length t i (row_in t i h) ∙ e

      found : (model_of t).find l ≡ entry_at t (words t i) (Some i)
      found = rw (reverse-reverse (words t i)) (ap (entry_at t (words t i)) (finds t good i h))

  node_bare : (i : ℕ) → i < length (nodes_of t) → length (node_at (nodes_of t) i).words ≡ order_of t → (node_at (nodes_of t) i).load ≡ pos 0
  unfolding node_of model_of
  node_bare zero h e = absurd (omega (arith, (accepted-model t a).order-low, ap length (root-words t)))
  node_bare (suc i) h e =
      let k : i < rows_of t = omega (arith, length-nodes_of t) in
      let b = longest-bare i k (sym (words-length t i (row_in t i k)) ∙ sym (ap length (row_words_lem t i k)) ∙ e) in
      rw (node_at-row t i k, b.0, b.1, b.2)

  pub nodes_ready : Ready (order_of t) (nodes_of t)
  unfolding model_of
  nodes_ready = record {
    some_words = (accepted-model t a).order-low;
    nonempty = omega (arith, length-nodes_of t);
    root = root-words t;
    parents = node_parent;
    distinct = nodes-distinct;
    in_words = node_words;
    costs = node_cost;
    short = node_short;
    bare = node_bare;
  }

  -- ---- what the markers say

  -- p is not positive, so that −(cost + 1) is p − 1
  pub row-check : (i : ℕ) → i < rows_of t → negsuc (node_of t i).cost ≡ marker_check (probability_at t i)
  unfolding node_of in_probability
  row-check i h =
      let p = probability_at t i in
      let u = between-high least_probability (pos 0) p (accepted-row t a i h).fields.probability in
      omega (zarith, abs p, sub p (pos 1))

  -- ---- children

  -- where rows from to to − 1 are those that put one more word in front of `us`
  module _ (us : List ℕ) (from to : ℕ) (within : to ≤ rows_of t)
      (inside : (j : ℕ) → from ≤ j → j < to → without_first t j ≡ us)
      (only : (j : ℕ) → j < rows_of t → without_first t j ≡ us → (from ≤ j) × (j < to)) where
    child-row : (i : ℕ) → i < rows_of t → (ks : List ℕ) → ks ≡ oldest_from t (max (suc i) from) (to - max (suc i) from)
        → child_of us (words t i) ks ≡ oldest_from t (max i from) (to - max i from)
    unfolding oldest_from
    child-row i h ks e = rw (row_cons i h) (⊎_elim before (λ l. ⊎_elim (here l) (after l) (lt_or_ge i to)) (lt_or_ge i from))
      where
        other : (i < from) ⊎ (to ≤ i) → same_words (without_first t i) us ≡ false
        other o = same_ne (without_first t i) us (λ q. let z = only i h q in ⊎_elim (λ l. absurd (omega arith)) (λ l. absurd (omega arith)) o)

        before : i < from → cond (same_words (without_first t i) us) (word_of (field t i 1) ∷ ks) ks ≡ oldest_from t (max i from) (to - max i from)
        before l =
            let m : max i from ≡ max (suc i) from = omega arith in
            rw (other (inl l), m) e

        here : from ≤ i → i < to → cond (same_words (without_first t i) us) (word_of (field t i 1) ∷ ks) ks ≡ oldest_from t (max i from) (to - max i from)
        here l k =
            let m : max i from ≡ i = omega arith in
            let n : max (suc i) from ≡ suc i = omega arith in
            let d : to - i ≡ suc (to - suc i) = omega arith in
            rw (inside i l k, same_refl us, m, d) (ap (λ (ws : List ℕ). word_of (field t i 1) ∷ ws) (rw n at e))

        after : from ≤ i → to ≤ i → cond (same_words (without_first t i) us) (word_of (field t i 1) ∷ ks) ks ≡ oldest_from t (max i from) (to - max i from)
        after l k =
            let m : to - max i from ≡ 0 = omega arith in
            let n : to - max (suc i) from ≡ 0 = omega arith in
            rw (other (inr k), m) (rw n at e)

    children-rows : (i k : ℕ) → i + k ≡ rows_of t → children (nodes_from t i k) us ≡ oldest_from t (max i from) (to - max i from)
    unfolding children nodes_from node_of oldest_from
    children-rows i zero e = let m : to - max i from ≡ 0 = omega arith in rw m
    children-rows i (suc k) e = child-row i (omega arith) (children (nodes_from t (suc i) k) us) (children-rows (suc i) k (omega arith))

    children-nodes : children (nodes_of t) us ≡ oldest_from t from (to - from)
    unfolding children nodes_of root_of
    children-nodes = let m : max 0 from ≡ from = omega arith in rw m at (children-rows 0 (rows_of t) (omega arith))

  pub children-stretch : (i from to : ℕ) → Stretch t i from to → children (nodes_of t) (words t i) ≡ oldest_from t from (to - from)
  children-stretch i from to s = children-nodes (words t i) from to s.within s.inside s.only

  pub children-root : (k : ℕ) → RowsBelow t 2 k → children (nodes_of t) [] ≡ oldest_from t 0 k
  children-root k o =
      let e : k - 0 ≡ k = omega arith in
      rw e at
      (children-nodes [] 0 k o.within
      (λ j p q. one_word t j (omega (arith, o.fewer j q)))
      (λ j p q. (omega arith, ⊎_elim (λ l. l) (λ (l : k ≤ j). absurd (more-words j p (o.more j l p) q)) (lt_or_ge j k))))

-- ---- the oldest words of a part of the table

pub middle_field : (t : List ℤ) (from n i j : ℕ) → i < n → j < 8 → field (take (8 * n) (drop (8 * from) t)) i j ≡ field t (from + i) j
unfolding field
middle_field t from n i j h l =
    get_or-take (8 * n) (drop (8 * from) t) (8 * i + j) (pos 0) (omega arith) ∙ get_or-drop (8 * from) t (8 * i + j) (pos 0)
    ∙ ap (λ (k : ℕ). get_or t k (pos 0)) (omega arith)

oldest_from-rows : (t : List ℤ) (from n i k : ℕ) → i + k ≤ n → oldest_from (take (8 * n) (drop (8 * from) t)) i k ≡ oldest_from t (from + i) k
unfolding oldest_from
oldest_from-rows t from n i zero h = refl
oldest_from-rows t from n i (suc k) h =
    let e : suc (from + i) ≡ from + suc i = omega arith in
    rw (middle_field t from n i 1 (omega arith) (omega arith), e, oldest_from-rows t from n (suc i) k (omega arith))

pub oldest_from_part : (t : List ℤ) (from to : ℕ) → oldest_from (take (8 * (to - from)) (drop (8 * from) t)) 0 (to - from) ≡ oldest_from t from (to - from)
oldest_from_part t from to =
    let e : from + 0 ≡ from = omega arith in
    rw e at (oldest_from-rows t from (to - from) 0 (to - from) (omega arith))
