-- Laws of the trie: its children are its nodes with one more word in front, and what `Ready` says of the nodes found. Assumes nothing.
use Rattle.std.specs.declared.option.Option.{Option}
use Rattle.std.specs.declared.option.Option.TheVariants.{Some, None}
use Rattle.std.proofs.lemmas.Option.{none-some}
use mathlib.Core.Path.{◌≡◌, refl, sym, ap, ◌∙◌, subst}
use mathlib.Core.Logic.{◌⊎◌, inl, inr}
use mathlib.Core.Bool.{Bool, true, false, cond, false≢true}
use mathlib.Core.List.Memᴰ
use mathlib.Core.List.{List, [], ◌∷◌, Memᴰ, reverse_aux, nil≢cons, tail-eq_of_cons-eq}
use Prim.Native.Nat.{ℕ, zero, suc, ◌≤◌, ◌<◌}
use native.Mathlib.Omega.{arith}
use borrow.Author.Tests.{leb-true}
use lib.Dec.{leb}
use lib.IntN.{pos}
use lib.ListN.{length}
use Rattle.integer.proofs.Ranges.{and_left}
use Rattle.integer.proofs.Items.{get_or_in, in_get_or}
use Rattle.backoff.specs.Limits.{word_limit}
use Rattle.backoff.specs.Words.{same_words, is_word, are_words}
use Rattle.backoff.proofs.Words.{same_eq, same_refl}
use Rattle.placing.specs.Trie.{Node, child_of, children, find_node, node_at, Ready}

-- ---- children and nodes found

child_cases : (us vs ks : List ℕ) (w : ℕ) → Memᴰ w (child_of us vs ks) → (vs ≡ w ∷ us) ⊎ Memᴰ w ks
child_cases us [] ks w h = inr h
child_cases us (v ∷ vs) ks w h = go (same_words vs us) refl h
  where
    first : vs ≡ us → Memᴰ w (v ∷ ks) → (◌≡◌ {A = List ℕ} (v ∷ vs) (w ∷ us)) ⊎ Memᴰ w ks
    first e (Memᴰ.head q) = inl (λ i. sym q i ∷ e i)
    first e (Memᴰ.tail m) = inr m

    go : (b : Bool) → same_words vs us ≡ b → Memᴰ w (cond b (v ∷ ks) ks) → (◌≡◌ {A = List ℕ} (v ∷ vs) (w ∷ us)) ⊎ Memᴰ w ks
    go true e m = first (same_eq vs us e) m
    go false e m = inr m

child-here : (us ks : List ℕ) (w : ℕ) → Memᴰ w (child_of us (w ∷ us) ks)
child-here us ks w = rw (same_refl us) (Memᴰ.head refl)

child_there : (us vs ks : List ℕ) (w : ℕ) → Memᴰ w ks → Memᴰ w (child_of us vs ks)
child_there us [] ks w h = h
child_there us (v ∷ vs) ks w h = go (same_words vs us)
  where
    go : (b : Bool) → Memᴰ w (cond b (v ∷ ks) ks)
    go true = Memᴰ.tail h
    go false = h

pub child-found : (nodes : List Node) (us : List ℕ) (w : ℕ) → Memᴰ w (children nodes us) → (m : Node) × (find_node nodes (w ∷ us) ≡ Some m)
unfolding children find_node
child-found [] us w h = absurd (Memᴰ.not-nil h)
child-found (n ∷ ns) us w h = go (child-found ns us w) (child_cases us n.words (children ns us) w h)
  where
    here : (m : Node) × (find_node ns (w ∷ us) ≡ Some m) → (b : Bool) → (m : Node) × (cond b (Some n) (find_node ns (w ∷ us)) ≡ Some m)
    here t true = (n, refl)
    here t false = t

    go : (Memᴰ w (children ns us) → (m : Node) × (find_node ns (w ∷ us) ≡ Some m)) → (n.words ≡ w ∷ us) ⊎ Memᴰ w (children ns us)
        → (m : Node) × (cond (same_words n.words (w ∷ us)) (Some n) (find_node ns (w ∷ us)) ≡ Some m)
    go rec (inl e) = (n, rw (e, same_refl (w ∷ us)))
    go rec (inr m) = here (rec m) (same_words n.words (w ∷ us))

pub found-child : (nodes : List Node) (us : List ℕ) (w : ℕ) (m : Node) → find_node nodes (w ∷ us) ≡ Some m → Memᴰ w (children nodes us)
unfolding children find_node
found-child [] us w m e = absurd (none-some m e)
found-child (n ∷ ns) us w m e = go (found-child ns us w m) (same_words n.words (w ∷ us)) refl e
  where
    go : (find_node ns (w ∷ us) ≡ Some m → Memᴰ w (children ns us)) → (b : Bool) → same_words n.words (w ∷ us) ≡ b
        → cond b (Some n) (find_node ns (w ∷ us)) ≡ Some m → Memᴰ w (child_of us n.words (children ns us))
    go rec true q h = rw (same_eq n.words (w ∷ us) q) (child-here us (children ns us) w)
    go rec false q h = child_there us n.words (children ns us) w (rec h)

-- what is found is a node, and has the words
pub found_in : (nodes : List Node) (us : List ℕ) (m : Node) → find_node nodes us ≡ Some m → Memᴰ m nodes × (m.words ≡ us)
unfolding find_node
found_in [] us m e = absurd (none-some m e)
found_in (n ∷ ns) us m e = go (found_in ns us m) (same_words n.words us) refl e
  where
    go : (find_node ns us ≡ Some m → Memᴰ m ns × (m.words ≡ us)) → (b : Bool) → same_words n.words us ≡ b
        → cond b (Some n) (find_node ns us) ≡ Some m → Memᴰ m (n ∷ ns) × (m.words ≡ us)
    go rec true q h =
        let e : n ≡ m = cc in
        (Memᴰ.head (sym e), subst (λ (k : Node). k.words ≡ us) e (same_eq n.words us q))
    go rec false q h = (Memᴰ.tail (rec h).0, (rec h).1)

-- a node's words are found
pub in_found : (nodes : List Node) (m : Node) → Memᴰ m nodes → (k : Node) × (find_node nodes m.words ≡ Some k)
unfolding find_node
in_found [] m h = elim h [ ]
in_found (n ∷ ns) m h = go (same_words n.words m.words) refl (Memᴰ.cases_cons h) (in_found ns m)
  where
    go : (b : Bool) → same_words n.words m.words ≡ b → (m ≡ n) ⊎ Memᴰ m ns → (Memᴰ m ns → (k : Node) × (find_node ns m.words ≡ Some k))
        → (k : Node) × (cond b (Some n) (find_node ns m.words) ≡ Some k)
    go true q c rec = (n, refl)
    go false q (inl e) rec = absurd (false≢true (sym q ∙ ap (λ (k : Node). same_words n.words k.words) e ∙ same_refl n.words))
    go false q (inr l) rec = rec l

pub in_child : (nodes : List Node) (m : Node) (w : ℕ) (us : List ℕ) → Memᴰ m nodes → m.words ≡ w ∷ us → Memᴰ w (children nodes us)
in_child nodes m w us h e =
    let f = in_found nodes m h in
    found-child nodes us w f.0 (subst (λ (vs : List ℕ). find_node nodes vs ≡ Some f.0) e f.1)

-- ---- nodes that are ready to be placed

module _ {order : ℕ} {nodes : List Node} (R : Ready order nodes) where
  pub root_in : Memᴰ (node_at nodes 0) nodes
  root_in = get_or_in nodes 0 _ R.nonempty

  pub root-found : (m : Node) × (find_node nodes [] ≡ Some m)
  root-found = rw R.root at (in_found nodes (node_at nodes 0) root_in)

  -- each node found but the root has its parent among the nodes, and its first word is a word
  pub parent-found : (w : ℕ) (us : List ℕ) (m : Node) → find_node nodes (w ∷ us) ≡ Some m → (k : Node) × (find_node nodes us ≡ Some k)
  parent-found w us m e = go (in_get_or nodes _ m f.0).0 (in_get_or nodes _ m f.0).1 (in_get_or nodes _ m f.0).2
    where
      f : Memᴰ m nodes × (m.words ≡ w ∷ us)
      f = found_in nodes (w ∷ us) m e

      go : (i : ℕ) → i < length nodes → node_at nodes i ≡ m → (k : Node) × (find_node nodes us ≡ Some k)
      go zero l q = absurd (nil≢cons (sym R.root ∙ ap (λ (k : Node). k.words) q ∙ f.1))
      go (suc i) l q =
          let p = R.parents (suc i) (omega arith) l in
          let tails : (node_at nodes p.parent).words ≡ us = tail-eq_of_cons-eq (sym p.words ∙ ap (λ (k : Node). k.words) q ∙ f.1) in
          rw tails at (in_found nodes (node_at nodes p.parent) (get_or_in nodes p.parent _ (omega (arith, p.earlier))))

  pub found_word : (w : ℕ) (us : List ℕ) (m : Node) → find_node nodes (w ∷ us) ≡ Some m → is_word w ≡ true
  unfolding are_words
  found_word w us m e =
      let f = found_in nodes (w ∷ us) m e in
      let i = in_get_or nodes _ m f.0 in
      and_left (is_word w) (are_words us) (ap are_words (sym f.1 ∙ ap (λ (k : Node). k.words) (sym i.2)) ∙ R.in_words i.0 i.1)

  pub child-positive : (us : List ℕ) (w : ℕ) → Memᴰ w (children nodes us) → 1 ≤ w
  unfolding is_word
  child-positive us w h =
      let f = child-found nodes us w h in
      leb-true 1 w (and_left (leb 1 w) (leb w word_limit) (found_word w us f.0 f.1))

  -- a node that has children has fewer words than the order
  pub child-short : (us : List ℕ) (w : ℕ) → Memᴰ w (children nodes us) → length us < order
  child-short us w h =
      let f = child-found nodes us w h in
      let k = found_in nodes (w ∷ us) f.0 f.1 in
      let i = in_get_or nodes _ f.0 k.0 in
      let e : length (node_at nodes i.0).words ≡ suc (length us) = ap (λ (m : Node). length m.words) i.2 ∙ ap length k.1 in
      omega (arith, R.short i.0 i.1, e)

  pub node_bare : (m : Node) → Memᴰ m nodes → length m.words ≡ order → m.load ≡ pos 0
  node_bare m h e =
      let i = in_get_or nodes _ m h in
      sym (ap (λ (k : Node). k.load) i.2) ∙ R.bare i.0 i.1 (ap (λ (k : Node). length k.words) i.2 ∙ e)

  -- a node that is not there has no descendants
  pub absent-below : (q us : List ℕ) → find_node nodes us ≡ None → find_node nodes (reverse_aux q us) ≡ None
  absent-below [] us e = e
  absent-below (w ∷ q) us e = absent-below q (w ∷ us) (go (find_node nodes (w ∷ us)) refl)
    where
      go : (o : Option Node) → find_node nodes (w ∷ us) ≡ o → o ≡ None
      go None h = refl
      go (Some m) h = let k = parent-found w us m h in absurd (none-some k.0 (sym e ∙ k.1))
