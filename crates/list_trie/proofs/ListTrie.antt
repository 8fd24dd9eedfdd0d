-- Laws of the trie of an accepted list: what the markers of its nodes say, and where words are found among them. Assumes nothing.
use Rattle.std.specs.declared.option.Option.{Option}
use Rattle.std.specs.declared.option.Option.TheVariants.{Some, None}
use mathlib.Core.Path.{◌≡◌, refl, sym, ap, ◌∙◌}
use mathlib.Core.Logic.{◌⊎◌, inl, inr, ⊎_elim, ◌≢◌}
use mathlib.Core.Bool.{Bool}
use mathlib.Core.List.{List, [], Memᴰ}
use Prim.Native.Nat.{ℕ, zero, suc, ◌<◌}
use native.Mathlib.Omega.{arith}
use lib.IntN.{ℤ, pos, negsuc, neg_ℤ}
use lib.ListN.{length}
use Rattle.integer.specs.Integer.{between, half, odd}
use Rattle.integer.proofs.Arithmetic.{zarith, shr}
use Rattle.integer.proofs.Ranges.{between-yes, and_both}
use Rattle.integer.proofs.Items.{get_or_in, in_get_or}
use Rattle.backoff.specs.Limits.{largest_backoff}
use Rattle.backoff.specs.Model.{in_probability, in_backoff}
use Rattle.backoff.specs.Refusal.{Accepted}
use Rattle.rows.specs.Table.{rows_of, probability_at, backoff_at, order_of, words}
use Rattle.row_search.specs.Search.{find_in}
use Rattle.row_search.proofs.Search.{found-words, finds}
use Rattle.row_fields.proofs.Fields.{backoff_in}
use Rattle.list.specs.Check.{verdict}
use Rattle.list.specs.ListModel.{extended_in, continued_in}
use Rattle.list.proofs.Check.{accepted-row, accepted-good, accepted-size}
use Rattle.markers.specs.Markers.{Sound, Broken}
use Rattle.markers.proofs.Markers.{marker_sound, marker_round_trip}
use Rattle.placing.specs.Trie.{Node, find_node, node_at, Ready}
use Rattle.placing.proofs.Trie.{found_in, in_found}
use Rattle.placing.proofs.Walk.{node_marker}
use Rattle.row_nodes.specs.ListTrie.{node_of, root_of, nodes_of}
use Rattle.row_nodes.proofs.ListTrie.{length-nodes_of, node_at-root, node_at-row, nodes_ready, row-check}

module _ (t : List ℤ) where
  -- each node is the root or a row's
  node_cases : (m : Node) → Memᴰ m (nodes_of t) → (m ≡ root_of t) ⊎ ((i : ℕ) × (i < rows_of t) × (m ≡ node_of t i))
  node_cases m h = go (in_get_or (nodes_of t) _ m h).0 (in_get_or (nodes_of t) _ m h).1 (in_get_or (nodes_of t) _ m h).2
    where
      go : (i : ℕ) → i < length (nodes_of t) → node_at (nodes_of t) i ≡ m → (m ≡ root_of t) ⊎ ((i : ℕ) × (i < rows_of t) × (m ≡ node_of t i))
      go zero l e = inl (sym e ∙ node_at-root t)
      go (suc i) l e = let k : i < rows_of t = omega (arith, length-nodes_of t) in inr (i, k, sym e ∙ node_at-row t i k)

-- a node that is ready to be placed is found by its words
find_node-at : {order : ℕ} {nodes : List Node} → Ready order nodes → (i : ℕ) → i < length nodes → find_node nodes (node_at nodes i).words ≡ Some (node_at nodes i)
find_node-at {order} {nodes} R i h =
    let f = in_found nodes (node_at nodes i) (get_or_in nodes i _ h) in
    let w = found_in nodes (node_at nodes i).words f.0 f.1 in
    let g = in_get_or nodes _ f.0 w.0 in
    let same : (node_at nodes g.0).words ≡ (node_at nodes i).words = ap (λ (m : Node). m.words) g.2 ∙ w.1 in
    let p : ¬ (g.0 < i) = λ l. R.distinct g.0 i l h same in
    let q : ¬ (i < g.0) = λ l. R.distinct i g.0 l g.1 (sym same) in
    let e : g.0 ≡ i = omega arith in
    f.1 ∙ ap Some (sym g.2 ∙ ap (node_at nodes) e)

-- the node of the row that was found
abbrev pub node_if : List ℤ → Option ℕ → Option Node
node_if t (Some j) = Some (node_of t j)
node_if t None = None

module _ (t : List ℤ) (a : verdict t ≡ Accepted) where
  -- ---- what the markers say

  pub row_marker : (i : ℕ) → i < rows_of t → node_marker (node_of t i) ≡ Sound (probability_at t i) (backoff_at t i) (extended_in t (words t i)) (continued_in t (words t i))
  unfolding node_of
  row_marker i h =
      let r = accepted-row t a i h in
      rw (row-check t a i h)
      (marker_round_trip (probability_at t i) (backoff_at t i) (extended_in t (words t i)) (continued_in t (words t i)) r.fields.probability (backoff_in t (order_of t) i r.fields.backoff))

  root_marker : node_marker (root_of t) ≡ Sound (pos 0) (half (half (pos (rows_of t)))) (odd (half (pos (rows_of t)))) (odd (pos (rows_of t)))
  unfolding root_of in_probability in_backoff
  root_marker =
      let z = accepted-size t a in
      let n = pos (rows_of t) in
      marker_sound (negsuc 0) n
      (and_both (in_probability (pos 0)) (in_backoff (half (half n))) (unfold between in refl)
      (between-yes (neg_ℤ (pos largest_backoff)) (pos largest_backoff) (half (half n)) (omega (zarith, shr 2 n tt, shr 2 (half n) tt)) (omega (zarith, shr 2 n tt, shr 2 (half n) tt, z.1))))

  pub nodes-sound : (m : Node) → Memᴰ m (nodes_of t) → node_marker m ≢ Broken
  nodes-sound m h e = go (node_cases t m h)
    where
      sound : (k : Node) (p b : ℤ) (x f : Bool) → m ≡ k → node_marker k ≡ Sound p b x f → ⊥
      sound k p b x f q s = let z : ◌≡◌ {A = ℕ} 0 1 = cc (ap node_marker q) in omega arith

      go : (m ≡ root_of t) ⊎ ((i : ℕ) × (i < rows_of t) × (m ≡ node_of t i)) → ⊥
      go (inl q) = sound (root_of t) _ _ _ _ q root_marker
      go (inr r) = sound (node_of t r.0) _ _ _ _ r.2 (row_marker r.0 r.1)

  -- ---- where words are found

  pub find_node-row : (i : ℕ) → i < rows_of t → find_node (nodes_of t) (words t i) ≡ Some (node_of t i)
  unfolding node_of
  find_node-row i h = rw (node_at-row t i h) at (find_node-at (nodes_ready t a) (suc i) (omega (arith, length-nodes_of t)))

  pub find_node-listed : (ws : List ℕ) → ws ≢ [] → find_node (nodes_of t) ws ≡ node_if t (find_in t ws)
  find_node-listed ws n = go (find_in t ws) refl
    where
      unlisted : find_in t ws ≡ None → (o : Option Node) → find_node (nodes_of t) ws ≡ o → o ≡ None
      unlisted e None q = refl
      unlisted e (Some m) q =
          let f = found_in (nodes_of t) ws m q in
          ⊎_elim
          (λ (r : m ≡ root_of t). absurd (n (sym f.1 ∙ ap (λ (k : Node). k.words) r ∙ (unfold root_of in refl))))
          (λ (r : (i : ℕ) × (i < rows_of t) × (m ≡ node_of t i)).
          let s : words t r.0 ≡ ws = (unfold node_of in sym (ap (λ (k : Node). k.words) r.2) ∙ f.1) in
          let z : ◌≡◌ {A = ℕ} 0 1 = cc (finds t (accepted-good t a) r.0 r.1) in absurd (omega arith))
          (node_cases t m f.0)

      go : (f : Option ℕ) → find_in t ws ≡ f → find_node (nodes_of t) ws ≡ node_if t f
      go (Some j) e = let w = found-words t ws j e in rw w.1 at (find_node-row j w.0)
      go None e = unlisted e (find_node (nodes_of t) ws) refl
