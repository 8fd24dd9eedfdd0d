-- Laws of the nodes reached: they are the nodes to which words lead, each once, in the order of the list; no two lie in one slot, so that there are
-- fewer than slots. Assumes nothing.
use Rattle.std.specs.declared.option.Option.{Option}
use Rattle.std.specs.declared.option.Option.TheVariants.{Some, None}
use mathlib.Core.Path.{◌≡◌, refl, sym, ap, ap₂, ◌∙◌}
use mathlib.Core.Logic.{⊎_elim, ◌≢◌}
use mathlib.Core.Bool.{true, ◌&&◌}
use mathlib.Core.List.Memᴰ
use mathlib.Core.List.{List, [], ◌∷◌, Memᴰ}
use Prim.Native.Nat.{ℕ, zero, suc, ◌+◌, ◌≤◌, ◌<◌}
use native.Mathlib.Decide.{ℕ_discrete}
use native.Mathlib.Omega.{arith}
use borrow.Author.Tests.{leb-true, lt-ltb, le-ltb, ltb-true, eq-eqb}
use lib.Dec.{leb, ltb}
use lib.ListN.{length}
use lib.IntN.{ℤ}
use Rattle.integer.proofs.Arithmetic.{or_yes}
use Rattle.integer.proofs.Ranges.{lt_or_ge, and_left, and_right, and_both}
use Rattle.backoff.specs.Limits.{word_limit}
use Rattle.backoff.specs.Words.{same_words, is_word, are_words, key}
use Rattle.backoff.proofs.Words.{same_refl}
use Rattle.rows.specs.Order.{last_less, precedes}
use Rattle.rows.proofs.Keys.{precedes-key}
use Rattle.child_slots.specs.Children.{child_at}
use Rattle.child_slots.proofs.Children.{child_told, child_unique}
use Rattle.slot_numbers.specs.Numbers.{EachTwo, none, more}
use Rattle.slot_numbers.proofs.EachTwo.{first_of-two, rest_of_two, each_append, each_weaken, each_same, apart_below}
use Rattle.array_nodes.specs.Nodes.{Reached, root, child_first, walk_to, children_from, children_of, children_of_all, level, reached}
use Rattle.array_nodes.specs.Gathering.{IsReached}

-- ---- the order

-- the order of the list, on reached nodes
abbrev Before : Reached → Reached → Type 0
Before r c = precedes r.words c.words ≡ true

shorter_first : (us vs : List ℕ) → length us < length vs → precedes us vs ≡ true
unfolding precedes
shorter_first us vs h = rw (lt-ltb (length us) (length vs) h)

-- of two rows of one length
last-first : (us vs : List ℕ) → length us ≡ length vs → precedes us vs ≡ true → last_less us vs ≡ true
unfolding precedes
last-first us vs h e = rw (le-ltb (length us) (length vs) (omega arith), eq-eqb (length us) (length vs) h) at e

first-last : (us vs : List ℕ) → length us ≡ length vs → last_less us vs ≡ true → precedes us vs ≡ true
unfolding precedes
first-last us vs h e = rw (le-ltb (length us) (length vs) (omega arith), eq-eqb (length us) (length vs) h) e

-- one more word in front: of rows in order, and of the same row
front_keeps : (us vs : List ℕ) (u v : ℕ) → length us ≡ length vs → precedes us vs ≡ true → precedes (u ∷ us) (v ∷ vs) ≡ true
unfolding last_less
front_keeps us vs u v h e = first-last (u ∷ us) (v ∷ vs) (omega arith) (rw (last-first us vs h e))

front_decides : (us : List ℕ) (u v : ℕ) → u < v → precedes (u ∷ us) (v ∷ us) ≡ true
unfolding last_less
front_decides us u v h =
    first-last (u ∷ us) (v ∷ us) refl (or_yes (last_less us us) (same_words us us && ltb u v) (λ _. and_both (same_words us us) (ltb u v) (same_refl us) (lt-ltb u v h)))

-- ---- a node's children

-- c is a child of r, for a word from low to high − 1
record ChildOf (base check : List ℤ) (r : Reached) (low high : ℕ) (c : Reached) : Type 0 where
  word : ℕ
  from : low ≤ word
  below : word < high
  words : c.words ≡ word ∷ r.words
  slot : child_at base check r.slot word ≡ Some c.slot

module _ (base check : List ℤ) where
  module _ (r : Reached) where
    behind : (w : ℕ) (c : Option ℕ) {x : Reached} {rest : List Reached} → Memᴰ x rest → Memᴰ x (child_first r.words w c rest)
    behind w (Some t) m = Memᴰ.tail m
    behind w None m = m

    child-from : (w k v t : ℕ) → w ≤ v → v < w + k → child_at base check r.slot v ≡ Some t → Memᴰ (record { slot = t; words = v ∷ r.words }) (children_from base check r w k)
    unfolding children_from
    child-from w zero v t l h e = absurd (omega arith)
    child-from w (suc k) v t l h e = go (ℕ_discrete w v) (child-from (suc w) k v t)
      where
        go : Dec (w ≡ v) → (suc w ≤ v → v < suc w + k → child_at base check r.slot v ≡ Some t → Memᴰ (record { slot = t; words = v ∷ r.words }) (children_from base check r (suc w) k))
            → Memᴰ (record { slot = t; words = v ∷ r.words }) (child_first r.words w (child_at base check r.slot w) (children_from base check r (suc w) k))
        go (yes q) ih = rw (q, e) (Memᴰ.head refl)
        go (no q) ih = behind w (child_at base check r.slot w) (ih (omega arith) (omega arith) e)

    from-child : (w k : ℕ) (c : Reached) → Memᴰ c (children_from base check r w k) → ChildOf base check r w (w + k) c
    unfolding children_from
    from-child w zero c m = absurd (Memᴰ.not-nil m)
    from-child w (suc k) c m = go (child_at base check r.slot w) refl m (from-child (suc w) k c)
      where
        later : ChildOf base check r (suc w) (suc w + k) c → ChildOf base check r w (w + suc k) c
        later d = record { word = d.word; from = omega arith; below = omega arith; words = d.words; slot = d.slot }

        go : (x : Option ℕ) → child_at base check r.slot w ≡ x → Memᴰ c (child_first r.words w x (children_from base check r (suc w) k))
            → (Memᴰ c (children_from base check r (suc w) k) → ChildOf base check r (suc w) (suc w + k) c) → ChildOf base check r w (w + suc k) c
        go None e m ih = later (ih m)
        go (Some t) e m ih =
            ⊎_elim
            (λ (q : c ≡ record { slot = t; words = w ∷ r.words }).
            record { word = w; from = omega arith; below = omega arith; words = ap (λ (x : Reached). x.words) q; slot = e ∙ ap (λ (x : Reached). Some x.slot) (sym q) })
            (λ n. later (ih n))
            (Memᴰ.cases_cons m)

    children-from-ascend : (w k : ℕ) → EachTwo Before (children_from base check r w k)
    unfolding children_from
    children-from-ascend w zero = none
    children-from-ascend w (suc k) = go (child_at base check r.slot w) (children-from-ascend (suc w) k)
      where
        go : (x : Option ℕ) → EachTwo Before (children_from base check r (suc w) k) → EachTwo Before (child_first r.words w x (children_from base check r (suc w) k))
        go None ih = ih
        go (Some t) ih = more first ih
          where
            first : (c : Reached) → Memᴰ c (children_from base check r (suc w) k) → precedes (w ∷ r.words) c.words ≡ true
            first c m = let d = from-child (suc w) k c m in rw d.words (front_decides r.words w d.word d.from)

    child-reached : (v t : ℕ) → child_at base check r.slot v ≡ Some t → Memᴰ (record { slot = t; words = v ∷ r.words }) (children_of base check r)
    unfolding children_of is_word
    child-reached v t e =
        let w = (child_told base check r.slot v t e).word in
        let l = leb-true 1 v (and_left (leb 1 v) (leb v word_limit) w) in
        let h = leb-true v word_limit (and_right (leb 1 v) (leb v word_limit) w) in
        child-from 1 word_limit v t l (omega arith) e

    reached-child : (c : Reached) → Memᴰ c (children_of base check r) → ChildOf base check r 1 (1 + word_limit) c
    unfolding children_of
    reached-child c m = from-child 1 word_limit c m

    children-ascend : EachTwo Before (children_of base check r)
    unfolding children_of
    children-ascend = children-from-ascend 1 word_limit

  -- ---- the children of nodes

  child_of-all : (rs : List Reached) (r c : Reached) → Memᴰ r rs → Memᴰ c (children_of base check r) → Memᴰ c (children_of_all base check rs)
  unfolding children_of_all
  child_of-all [] r c x'' m = elim x'' [ ]
  child_of-all (x ∷ rs) r c (Memᴰ.head e) m = Memᴰ.append_left (children_of_all base check rs) (rw e at m)
  child_of-all (x ∷ rs) r c (Memᴰ.tail h) m = Memᴰ.append_right (children_of base check x) (child_of-all rs r c h m)

  all_of_child : (rs : List Reached) (c : Reached) → Memᴰ c (children_of_all base check rs) → (r : Reached) × Memᴰ r rs × ChildOf base check r 1 (1 + word_limit) c
  unfolding children_of_all
  all_of_child [] c m = absurd (Memᴰ.not-nil m)
  all_of_child (x ∷ rs) c m =
      ⊎_elim
      (λ h. (x, Memᴰ.head refl, reached-child x c h))
      (λ h. let d = all_of_child rs c h in (d.0, Memᴰ.tail d.1, d.2))
      (Memᴰ.append_cases (children_of base check x) m)

  all-ascend : (m : ℕ) (rs : List Reached) → ((r : Reached) → Memᴰ r rs → length r.words ≡ m) → EachTwo Before rs → EachTwo Before (children_of_all base check rs)
  unfolding children_of_all
  all-ascend m [] l p = none
  all-ascend m (x ∷ rs) l p =
      each_append (children_of base check x) (children-ascend x) (all-ascend m rs (λ r h. l r (Memᴰ.tail h)) (rest_of_two p))
      (λ c d h k.
      let a = reached-child x c h in
      let b = all_of_child rs d k in
      rw (a.words, b.2.words)
      (front_keeps x.words b.0.words a.word b.2.word (l x (Memᴰ.head refl) ∙ sym (l b.0 (Memᴰ.tail b.1))) (first_of-two p b.0 b.1)))

  -- ---- the levels

  pub walk-child : (us : List ℕ) (w s : ℕ) → walk_to base check us ≡ Some s → walk_to base check (w ∷ us) ≡ child_at base check s w
  unfolding walk_to
  walk-child us w s e = rw e

  level-walk : (m : ℕ) (c : Reached) → Memᴰ c (level base check m) → (length c.words ≡ m) × (walk_to base check c.words ≡ Some c.slot)
  unfolding level walk_to
  level-walk zero c h =
      let e : c ≡ root = Memᴰ.eq_of_singleton h in
      (ap (λ (x : Reached). length x.words) e, ap (λ (x : Reached). walk_to base check x.words) e ∙ ap (λ (x : Reached). Some x.slot) (sym e))
  level-walk (suc m) c h =
      let d = all_of_child (level base check m) c h in
      let k = d.2 in
      let w = level-walk m d.0 d.1 in
      (ap length k.words ∙ ap suc w.0, ap (walk_to base check) k.words ∙ walk-child d.0.words k.word d.0.slot w.1 ∙ k.slot)

  walk-level : (us : List ℕ) (s : ℕ) → walk_to base check us ≡ Some s → Memᴰ (record { slot = s; words = us }) (level base check (length us))
  unfolding level walk_to
  walk-level [] s e = let z : 0 ≡ s = cc in rw z (Memᴰ.head refl)
  walk-level (w ∷ us) s e = go (walk_to base check us) refl (walk-level us)
    where
      go : (x : Option ℕ) → walk_to base check us ≡ x → ((t : ℕ) → walk_to base check us ≡ Some t → Memᴰ (record { slot = t; words = us }) (level base check (length us)))
          → Memᴰ (record { slot = s; words = w ∷ us }) (children_of_all base check (level base check (length us)))
      go None q ih = absurd (let z : ◌≡◌ {A = ℕ} 0 1 = cc in omega arith)
      go (Some t) q ih =
          child_of-all (level base check (length us)) (record { slot = t; words = us }) (record { slot = s; words = w ∷ us }) (ih t q)
          (child-reached (record { slot = t; words = us }) w s (sym (walk-child us w t q) ∙ e))

  level-ascend : (m : ℕ) → EachTwo Before (level base check m)
  unfolding level
  level-ascend zero = more (λ c m. absurd (Memᴰ.not-nil m)) none
  level-ascend (suc m) = all-ascend m (level base check m) (λ r h. (level-walk m r h).0) (level-ascend m)

  -- ---- the nodes reached

  -- the nodes reached are such nodes
  pub reached_told : (n : ℕ) (c : Reached) → Memᴰ c (reached base check n) → IsReached base check n c
  unfolding reached
  reached_told zero c h = absurd (Memᴰ.not-nil h)
  reached_told (suc n) c h =
      ⊎_elim
      (λ k. let r = reached_told n c k in record { some = r.some; few = omega (arith, r.few); leads = r.leads })
      (λ k. let w = level-walk (suc n) c k in record { some = omega (arith, w.0); few = omega (arith, w.0); leads = w.1 })
      (Memᴰ.append_cases (reached base check n) h)

  -- and every such node is among them
  pub reached_shown : (n : ℕ) (c : Reached) → IsReached base check n c → Memᴰ c (reached base check n)
  unfolding reached
  reached_shown zero c r = absurd (omega (arith, r.some, r.few))
  reached_shown (suc n) c r =
      ⊎_elim
      (λ (k : length c.words < suc n). Memᴰ.append_left (level base check (suc n)) (reached_shown n c (record { some = r.some; few = omega arith; leads = r.leads })))
      (λ (k : suc n ≤ length c.words). let z : length c.words ≡ suc n = omega (arith, r.few) in Memᴰ.append_right (reached base check n) (rw z at (walk-level c.words c.slot r.leads)))
      (lt_or_ge (length c.words) (suc n))

  -- once, as they ascend strictly in the order of the list
  reached-ascend : (n : ℕ) → EachTwo Before (reached base check n)
  unfolding reached
  reached-ascend zero = none
  reached-ascend (suc n) =
      each_append (reached base check n) (reached-ascend n) (level-ascend (suc n))
      (λ c d h k. shorter_first c.words d.words (omega (arith, (reached_told n c h).few, (level-walk (suc n) d k).0)))

  -- ---- words that lead to a slot

  pub walk-words : (us : List ℕ) (s : ℕ) → walk_to base check us ≡ Some s → are_words us ≡ true
  unfolding walk_to are_words
  walk-words [] s e = refl
  walk-words (w ∷ us) s e = go (walk_to base check us) refl (walk-words us)
    where
      go : (x : Option ℕ) → walk_to base check us ≡ x → ((t : ℕ) → walk_to base check us ≡ Some t → are_words us ≡ true) → (is_word w && are_words us) ≡ true
      go None q ih = absurd (let z : ◌≡◌ {A = ℕ} 0 1 = cc in omega arith)
      go (Some t) q ih = and_both (is_word w) (are_words us) (child_told base check t w s (sym (walk-child us w t q) ∙ e)).word (ih t q)

  pub walk-slot : (w : ℕ) (us : List ℕ) (s : ℕ) → walk_to base check (w ∷ us) ≡ Some s → (t : ℕ) × (walk_to base check us ≡ Some t) × (child_at base check t w ≡ Some s)
  unfolding walk_to
  walk-slot w us s e = go (walk_to base check us) refl
    where
      go : (x : Option ℕ) → walk_to base check us ≡ x → (t : ℕ) × (walk_to base check us ≡ Some t) × (child_at base check t w ≡ Some s)
      go None q = absurd (let z : ◌≡◌ {A = ℕ} 0 1 = cc in omega arith)
      go (Some t) q = (t, q, sym (walk-child us w t q) ∙ e)

  -- the slot is not the root's
  pub walk_inside : (us : List ℕ) (s : ℕ) → 1 ≤ length us → walk_to base check us ≡ Some s → (1 ≤ s) × (s < length check)
  walk_inside [] s l e = absurd (omega arith)
  walk_inside (u ∷ us) s l e =
      let d = walk-slot u us s e in
      let c = child_told base check d.0 u s d.2 in
      (c.positive, c.inside)

  -- each slot is reached by the words of one node
  walk_unique : (us vs : List ℕ) (s : ℕ) → walk_to base check us ≡ Some s → walk_to base check vs ≡ Some s → us ≡ vs
  unfolding walk_to
  walk_unique [] [] s e f = refl
  walk_unique [] (v ∷ vs) s e f = let z : 0 ≡ s = cc in absurd (omega (arith, walk_inside (v ∷ vs) s (omega arith) f))
  walk_unique (u ∷ us) [] s e f = let z : 0 ≡ s = cc in absurd (omega (arith, walk_inside (u ∷ us) s (omega arith) e))
  walk_unique (u ∷ us) (v ∷ vs) s e f =
      let a = walk-slot u us s e in
      let b = walk-slot v vs s f in
      let c = child_unique base check a.0 u b.0 v s a.2 b.2 in
      ap₂ ◌∷◌ c.1 (walk_unique us vs a.0 a.1 (b.1 ∙ ap Some (sym c.0)))

-- ---- the order is strict, so that nodes are distinct

-- the same order by keys, which are numbers
abbrev pub ByKey : Reached → Reached → Type 0
ByKey r c = key r.words < key c.words

module _ (base check : List ℤ) (n : ℕ) where
  reached_by_key : EachTwo ByKey (reached base check n)
  reached_by_key =
      each_weaken (reached base check n)
      (λ r c h k b.
      let v = walk-words base check r.words r.slot (reached_told base check n r h).leads in
      let w = walk-words base check c.words c.slot (reached_told base check n c k).leads in
      ltb-true (key r.words) (key c.words) (sym (precedes-key r.words c.words v w) ∙ b))
      (reached-ascend base check n)

  -- an ascending list of all such nodes is the list of the nodes reached
  pub reached_unique : (l : List Reached) → EachTwo ByKey l → ((r : Reached) → Memᴰ r l → IsReached base check n r) → ((r : Reached) → IsReached base check n r → Memᴰ r l) → reached base check n ≡ l
  reached_unique l a f g =
      each_same (λ (x y : Reached) (p : ByKey x y) (q : ByKey y x). omega arith) (reached base check n) l reached_by_key a
      (λ r h. g r (reached_told base check n r h))
      (λ r h. reached_shown base check n r (f r h))

  -- no two nodes lie in one slot
  pub slots-distinct : EachTwo (λ r c. r.slot ≢ c.slot) (reached base check n)
  slots-distinct =
      each_weaken (reached base check n)
      (λ r c h k b e.
      let v = (reached_told base check n r h).leads in
      let w = (reached_told base check n c k).leads in
      absurd (omega (arith, ap key (walk_unique base check r.words c.words c.slot (v ∙ ap Some e) w))))
      reached_by_key

  -- there are fewer than slots, as one is the root's
  pub reached-few : 1 ≤ length check → length (reached base check n) < length check
  reached-few h =
      apart_below (λ (r : Reached). r.slot) (length check) (root ∷ reached base check n) (more not_root slots-distinct)
      (λ c m. ⊎_elim (λ (q : c ≡ root). rw q h) (inside c) (Memᴰ.cases_cons m))
    where
      not_root : (c : Reached) → Memᴰ c (reached base check n) → 0 ≢ c.slot
      not_root c m e =
          let r = reached_told base check n c m in
          absurd (omega (arith, r.some, ap length (walk_unique base check [] c.words c.slot (unfold walk_to in ap Some e) r.leads)))

      inside : (c : Reached) → Memᴰ c (reached base check n) → c.slot < length check
      inside c m = let r = reached_told base check n c m in (walk_inside base check c.words c.slot r.some r.leads).1
