-- An array that holds a list says what the list says, to lookups, starts and runs; and the nodes that walking reaches in it are the rows of the list,
-- in their order, so that the list comes back. Assumes nothing.
use Rattle.std.specs.declared.option.Option.{Option}
use Rattle.std.specs.declared.option.Option.TheVariants.{Some, None}
use mathlib.Core.Path.{◌≡◌, refl, sym, ap, ◌∙◌, subst, fun_ext}
use mathlib.Core.Logic.{⊎_elim}
use mathlib.Core.Bool.{Bool, true, false, ◌&&◌, false≢true}
use mathlib.Core.List.Memᴰ
use mathlib.Core.List.{List, [], ◌∷◌, map, reverse, reverse_aux, reverse-reverse, Memᴰ}
use Prim.Native.Nat.{ℕ, zero, suc, ◌+◌, ◌*◌, ◌≤◌, ◌<◌}
use native.Mathlib.Decide.{ℕ_discrete}
use native.Mathlib.Omega.{arith}
use borrow.Author.Tests.{leb-true, eq-eqb}
use lib.Dec.{leb}
use lib.ListN.{length, drop, length-reverse}
use lib.Seq.{drop-length}
use lib.IntN.{ℤ}
use Rattle.backoff.specs.Limits.{order_limit}
use Rattle.backoff.specs.Model.{Entry, listed}
use Rattle.backoff.specs.Run.{Run, run, first}
use Rattle.backoff.specs.Runs.{answers}
use Rattle.backoff.specs.NineNumbers.{nine}
use Rattle.backoff.specs.Store.{Look, absent, broken, here, entry_of, is_broken, look_entry, store_of, model_in, run_outcome}
use Rattle.backoff.proofs.Model.{model_ext}
use Rattle.backoff.proofs.Store.{entry_of-look_entry, look_entry-sound, Whole, packed, answers_over_a_store}
use Rattle.backoff.specs.Words.{key}
use Rattle.rows.specs.Table.{rows_of, probability_at, backoff_at, order_of, words}
use Rattle.rows.specs.Good.{Good}
use Rattle.rows.specs.Keys.{row_key}
use Rattle.rows.proofs.Table.{row_in, words-length}
use Rattle.rows.proofs.Good.{ascend-key}
use Rattle.rows.proofs.Rows.{good-row-is-row}
use Rattle.row_search.specs.Search.{find_in}
use Rattle.row_search.proofs.Search.{found-words, finds}
use Rattle.list.specs.ListModel.{extended_in, continued_in, entry_at, model_of}
use Rattle.list.proofs.Check.{accepted-good, accepted-size}
use Rattle.list.proofs.ListModel.{accepted-model}
use Rattle.markers.specs.Markers.{look_marker}
use Rattle.markers.specs.Markers.{Marker}
use Rattle.markers.specs.Markers.{Sound, Broken}
use Rattle.child_slots.specs.Children.{child_at}
use Rattle.double_array.specs.DoubleArray.{marker_at, past, down_to, look_from, look_row, order_in, store_in, opened}
use Rattle.double_array.proofs.DoubleArray.{opened-order, opened_some, look-row}
use Rattle.lookup.specs.Lookup.{lookup_in, lookup_outcome}
use Rattle.slot_numbers.specs.Numbers.{EachTwo, none as no-two, more}
use Rattle.array_nodes.specs.Nodes.{Reached, walk_to, reached}
use Rattle.array_nodes.specs.Gathering.{IsReached}
use Rattle.array_nodes.proofs.Reached.{ByKey, walk-child, walk-slot, reached_unique}
use Rattle.node_rows.specs.Rows.{reached_marker, row_of, table_of}
use Rattle.node_list.specs.Listed.{is_right, all_right, is_list, rows_in}
use Rattle.unload.specs.Meaning.{Holds, Says}
use Rattle.unload.proofs.Agree.{run_outcome_agrees, start_outcome_agrees}

-- ---- what a store has and its entries

look_entry_lem : (x : Look) → is_broken x ≡ false → x ≡ look_entry (entry_of x)
look_entry_lem absent e = refl
look_entry_lem broken e = absurd (false≢true (sym e))
look_entry_lem (here y) e = refl

module _ (base check : List ℤ) where
  -- ---- how the walk of a lookup and the words that lead to a slot go together

  -- a look that comes to an entry has passed the nodes of its words
  here_through : (us q : List ℕ) (y : Entry) → look_from base check 0 0 (reverse_aux us q) ≡ here y → (s : ℕ) × (walk_to base check us ≡ Some s) × (look_from base check (length us) s q ≡ here y)
  unfolding walk_to look_from
  here_through [] q y h = (0, refl, h)
  here_through (w ∷ us) q y h =
      let d = here_through us (w ∷ q) y h in
      go d.0 d.1 (marker_at base check (length us) d.0) (child_at base check d.0 w) refl d.2
    where
      go : (s : ℕ) → walk_to base check us ≡ Some s → (m : Marker) (c : Option ℕ) → child_at base check s w ≡ c → past m (down_to c (λ (t : ℕ). look_from base check (suc (length us)) t q)) ≡ here y
          → (t : ℕ) × (walk_to base check (w ∷ us) ≡ Some t) × (look_from base check (suc (length us)) t q ≡ here y)
      go s e Broken c k h = absurd (let z : ◌≡◌ {A = ℕ} 0 1 = cc in omega arith)
      go s e (Sound p b g f) None k h = absurd (let z : ◌≡◌ {A = ℕ} 0 1 = cc in omega arith)
      go s e (Sound p b g f) (Some t) k h = (t, walk-child base check us w s e ∙ k, h)

  -- and one that comes to nothing comes to nothing below each of them
  absent_through : (us q : List ℕ) (s : ℕ) → walk_to base check us ≡ Some s → look_from base check 0 0 (reverse_aux us q) ≡ absent → look_from base check (length us) s q ≡ absent
  unfolding walk_to look_from
  absent_through [] q s e h = let z : 0 ≡ s = cc in subst (λ (i : ℕ). look_from base check 0 i q ≡ absent) z h
  absent_through (w ∷ us) q s e h =
      let d = walk-slot base check w us s e in
      go (marker_at base check (length us) d.0) (rw d.2 at (absent_through us (w ∷ q) d.0 d.1 h))
    where
      go : (m : Marker) → past m (look_from base check (suc (length us)) s q) ≡ absent → look_from base check (suc (length us)) s q ≡ absent
      go (Sound p b g f) k = k
      go Broken k = absurd (let z : ◌≡◌ {A = ℕ} 0 1 = cc in omega arith)

  look_marker_lem : (k s : ℕ) (p b : ℤ) (e f : Bool) → look_from base check k s [] ≡ here (record { p = p; b = b; e = e; f = f }) → marker_at base check k s ≡ Sound p b e f
  unfolding look_from
  look_marker_lem k s p b e f h = go (marker_at base check k s) h
    where
      go : (m : Marker) → look_marker m ≡ here (record { p = p; b = b; e = e; f = f }) → m ≡ Sound p b e f
      go (Sound x y u v) k =
          let q : ◌≡◌ {A = Entry} (record { p = x; b = y; e = u; f = v }) (record { p = p; b = b; e = e; f = f }) = cc in
          λ i. Sound (q i).p (q i).b (q i).e (q i).f
      go Broken k = absurd (let z : ◌≡◌ {A = ℕ} 0 1 = cc in omega arith)

  node_not_absent : (k s : ℕ) → look_from base check k s [] ≡ absent → ⊥
  unfolding look_from
  node_not_absent k s h = go (marker_at base check k s) h
    where
      go : (m : Marker) → look_marker m ≡ absent → ⊥
      go (Sound p b g f) k = let z : ◌≡◌ {A = ℕ} 0 1 = cc in omega arith
      go Broken k = let z : ◌≡◌ {A = ℕ} 0 1 = cc in omega arith

-- ---- the nodes of rows

abbrev slot_in : Option ℕ → ℕ
slot_in (Some s) = s
slot_in None = 0

module _ (base check t : List ℤ) where
  -- row i's node
  abbrev node : ℕ → Reached
  node i = record { slot = slot_in (walk_to base check (words t i)); words = words t i }

  -- the nodes of the k rows from row i on
  unfoldable nodes_from : ℕ → ℕ → List Reached
  nodes_from i zero = []
  nodes_from i (suc k) = node i ∷ nodes_from (suc i) k

  in_nodes : (i k j : ℕ) → i ≤ j → j < i + k → Memᴰ (node j) (nodes_from i k)
  unfolding nodes_from
  in_nodes i zero j l h = absurd (omega arith)
  in_nodes i (suc k) j l h = go (ℕ_discrete j i) (in_nodes (suc i) k j)
    where
      go : Dec (j ≡ i) → (suc i ≤ j → j < suc i + k → Memᴰ (node j) (nodes_from (suc i) k)) → Memᴰ (node j) (node i ∷ nodes_from (suc i) k)
      go (yes q) ih = Memᴰ.head (ap node q)
      go (no q) ih = Memᴰ.tail (ih (omega arith) (omega arith))

  nodes_in : (i k : ℕ) (r : Reached) → Memᴰ r (nodes_from i k) → (j : ℕ) × (i ≤ j) × (j < i + k) × (r ≡ node j)
  unfolding nodes_from
  nodes_in i zero r m = absurd (Memᴰ.not-nil m)
  nodes_in i (suc k) r m =
      ⊎_elim
      (λ (q : r ≡ node i). (i, omega arith, omega arith, q))
      (λ o. let d = nodes_in (suc i) k r o in (d.0, let l = d.1 in omega arith, let l = d.2 in omega arith, d.3))
      (Memᴰ.cases_cons m)

module _ (base check t : List ℤ) (H : Holds base check t) where
  abbrev n : ℕ
  n = order_in check

  -- ---- it says what the list says

  look_agrees : (l : List ℕ) → length l ≤ (store_in base check).order → (store_in base check).look l ≡ (store_of (model_of t)).look l
  unfolding store_in store_of model_in
  look_agrees l h = look_entry_lem (look_row base check l) (H.sound l h) ∙ ap look_entry (H.find l h)

  order_agrees : (store_in base check).order ≡ (store_of (model_of t)).order
  unfolding store_in store_of model_of
  order_agrees = sym H.order

  low : 1 ≤ (store_in base check).order
  unfolding store_in
  low = (opened-order base check H.array).0

  high : (store_in base check).order ≤ order_limit
  unfolding store_in
  high = (opened-order base check H.array).1

  lookup_agrees : (ws : List ℕ) → lookup_in (Some (store_in base check)) ws ≡ lookup_in (Some (store_of (model_of t))) ws
  lookup_agrees ws = go (leb (length ws) (store_in base check).order) refl
    where
      go : (b : Bool) → leb (length ws) (store_in base check).order ≡ b → lookup_in (Some (store_in base check)) ws ≡ lookup_in (Some (store_of (model_of t))) ws
      go false e = let f : leb (length ws) (store_of (model_of t)).order ≡ false = rw order_agrees at e in rw (e, f)
      go true e =
          let f : leb (length ws) (store_of (model_of t)).order ≡ true = rw order_agrees at e in
          rw (e, f, look_agrees (reverse ws) (omega (arith, length-reverse ws, leb-true (length ws) (store_in base check).order e)))

  pub held_says : Says base check t
  unfolding lookup_outcome
  held_says = record {
    lookups = λ ws. rw (opened_some base check H.array) (lookup_agrees ws);
    starts = λ l. rw (opened_some base check H.array) (start_outcome_agrees (store_in base check) (store_of (model_of t)) order_agrees look_agrees low l);
    runs = λ l r. rw (opened_some base check H.array) (run_outcome_agrees (store_in base check) (store_of (model_of t)) order_agrees look_agrees low high l r);
  }

  -- the list's model as a store is that model, on sound nodes alone
  store-model : model_in (store_of (model_of t)) ≡ model_of t
  unfolding model_in store_of
  store-model = model_ext (model_in (store_of (model_of t))) (model_of t) refl (λ l. entry_of-look_entry ((model_of t).find l))

  store-whole : Whole (store_of (model_of t))
  store-whole = record {
    sound = λ l. (unfold store_of in look_entry-sound ((model_of t).find l));
    unknown-here = rw store-model (accepted-model t H.list).unknown-listed;
  }

  -- so a list of runs over the array answers as over the list's model
  pub held-runs_in_a_row : (b : Bool) (qs : List Run) → answers (run_outcome (opened base check)) (nine (first (model_of t) b)) qs ≡ map packed (answers (run (model_of t)) (first (model_of t) b) qs)
  held-runs_in_a_row b qs =
      let same : run_outcome (opened base check) ≡ run_outcome (Some (store_of (model_of t))) = fun_ext (λ l. fun_ext (λ r. held_says.runs l r)) in
      rw same (rw store-model at (answers_over_a_store (store_of (model_of t)) store-whole (rw store-model (accepted-model t H.list)) b qs))

  -- ---- where its rows lie

  good : Good t (rows_of t)
  good = accepted-good t H.list

  look-words : (us : List ℕ) → 1 ≤ length us → length us ≤ n → look_from base check 0 0 (reverse us) ≡ look_entry (entry_at t us (find_in t us))
  unfolding store_in store_of model_of
  look-words us l h =
      let k = length-reverse us in
      sym (look-row base check (reverse us) (omega arith)) ∙ look_agrees (reverse us) (omega arith) ∙ rw (reverse-reverse us)

  row-short : (j : ℕ) → j < rows_of t → (1 ≤ length (words t j)) × (length (words t j) ≤ n)
  unfolding listed model_of
  row-short j h =
      let l : listed (model_of t) (reverse (words t j)) ≡ true = rw (reverse-reverse (words t j), finds t good j h) in
      (omega (arith, words-length t j (row_in t j h), (good.row j h).some), omega (arith, (accepted-model t H.list).short (reverse (words t j)) l, length-reverse (words t j), H.order))

  -- a row's words lead to a node with its marker
  row-leads : (j : ℕ) → j < rows_of t → (s : ℕ) × (walk_to base check (words t j) ≡ Some s) × (marker_at base check (length (words t j)) s ≡ Sound (probability_at t j) (backoff_at t j) (extended_in t (words t j)) (continued_in t (words t j)))
  row-leads j h =
      let k = row-short j h in
      let d = here_through base check (words t j) [] _ (look-words (words t j) k.0 k.1 ∙ ap (λ (f : Option ℕ). look_entry (entry_at t (words t j) f)) (finds t good j h)) in
      (d.0, d.1, look_marker_lem base check (length (words t j)) d.0 _ _ _ _ d.2)

  -- and words that lead to a node are a row's
  leading_is_row : (us : List ℕ) (s : ℕ) → 1 ≤ length us → length us ≤ n → walk_to base check us ≡ Some s → (j : ℕ) × (j < rows_of t) × (words t j ≡ us)
  leading_is_row us s l h e = go (find_in t us) refl
    where
      go : (f : Option ℕ) → find_in t us ≡ f → (j : ℕ) × (j < rows_of t) × (words t j ≡ us)
      go (Some j) q = let w = found-words t us j q in (j, w.0, w.1)
      go None q = absurd (node_not_absent base check (length us) s (absent_through base check us [] s e (look-words us l h ∙ rw q)))

  -- ---- so the nodes reached are the rows', in the order of the rows

  nodes-ascend : (i k : ℕ) → i + k ≡ rows_of t → EachTwo ByKey (nodes_from base check t i k)
  unfolding nodes_from row_key
  nodes-ascend i zero h = no-two
  nodes-ascend i (suc k) h = more first (nodes-ascend (suc i) k (omega arith))
    where
      first : (c : Reached) → Memᴰ c (nodes_from base check t (suc i) k) → key (words t i) < key c.words
      first c m =
          let d = nodes_in base check t (suc i) k c m in
          let e : c.words ≡ words t d.0 = ap (λ (r : Reached). r.words) d.3 in
          rw e (ascend-key t (rows_of t) i d.0 good d.1 (let l = d.2 in omega arith))

  reached-rows : reached base check n ≡ nodes_from base check t 0 (rows_of t)
  reached-rows = reached_unique base check n (nodes_from base check t 0 (rows_of t)) (nodes-ascend 0 (rows_of t) (omega arith)) told shown
    where
      told : (r : Reached) → Memᴰ r (nodes_from base check t 0 (rows_of t)) → IsReached base check n r
      told r h =
          let d = nodes_in base check t 0 (rows_of t) r h in
          let l : d.0 < rows_of t = omega (arith, d.2) in
          let k = row-short d.0 l in
          let s = (row-leads d.0 l).1 in
          rw d.3 (record { some = k.0; few = k.1; leads = s ∙ ap (λ (c : Option ℕ). Some (slot_in c)) (sym s) })

      shown : (r : Reached) → IsReached base check n r → Memᴰ r (nodes_from base check t 0 (rows_of t))
      shown r w =
          let j = leading_is_row r.words r.slot w.some w.few w.leads in
          let s : r.slot ≡ slot_in (walk_to base check (words t j.0)) = ap slot_in (sym w.leads ∙ ap (walk_to base check) (sym j.2)) in
          Memᴰ.cast (λ i. record { slot = s i; words = sym j.2 i }) (in_nodes base check t 0 (rows_of t) j.0 (omega arith) (omega (arith, j.1)))

  node_marker_lem : (j : ℕ) → j < rows_of t → reached_marker base check (node base check t j) ≡ Sound (probability_at t j) (backoff_at t j) (extended_in t (words t j)) (continued_in t (words t j))
  node_marker_lem j h = let d = row-leads j h in rw d.1 d.2

  nodes-table : (i k : ℕ) → i + k ≡ rows_of t → table_of base check (nodes_from base check t i k) ≡ drop (8 * i) t
  unfolding nodes_from table_of row_of
  nodes-table i zero h =
      let e : 8 * i ≡ length t = omega (arith, (accepted-size t H.list).2) in
      rw e (sym (drop-length t))
  nodes-table i (suc k) h =
      let l : i < rows_of t = omega arith in
      rw (node_marker_lem i l, nodes-table (suc i) k (omega arith)) (good-row-is-row t i (good.row i l) (row_in t i l))

  nodes_right : (i k : ℕ) → i + k ≡ rows_of t → all_right base check t (nodes_from base check t i k) ≡ true
  unfolding nodes_from all_right
  nodes_right i zero h = refl
  nodes_right i (suc k) h =
      rw (node_marker_lem i (omega arith), nodes_right (suc i) k (omega arith)) (same (extended_in t (words t i)) (continued_in t (words t i)))
    where
      same : (e f : Bool) → (is_right (Sound (probability_at t i) (backoff_at t i) e f) e f && true) ≡ true
      same true true = refl
      same true false = refl
      same false true = refl
      same false false = refl

  -- The table of the nodes reached is the list, and passes.
  pub held-table : table_of base check (reached base check n) ≡ t
  held-table = ap (table_of base check) reached-rows ∙ nodes-table 0 (rows_of t) (omega arith)

  pub held-is-list : is_list base check (reached base check n) ≡ true
  unfolding is_list
  held-is-list =
      rw (held-table, reached-rows, nodes_right 0 (rows_of t) (omega arith), H.list, eq-eqb (order_of t) n H.order, eq-eqb (rows_of t) (rows_in base) H.rows)
