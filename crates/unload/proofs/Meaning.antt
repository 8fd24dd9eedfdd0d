-- What the answers of unload mean: an accepted one gives the one list that the array holds, so that every lookup, start and run over the array is what
-- this list says; refused by 12, the array holds none. Assumes nothing.
use Rattle.std.specs.declared.option.Option.{Option}
use Rattle.std.specs.declared.option.Option.TheVariants.{Some, None}
use mathlib.Core.Path.{◌≡◌, refl, sym, ap, ◌∙◌}
use mathlib.Core.Logic.{◌⊎◌, inl, inr}
use mathlib.Core.Bool.{Bool, true, false, ◌&&◌, false≢true}
use mathlib.Core.List.{List, [], ◌∷◌, map, reverse, reverse_aux, reverse-reverse}
use Prim.Native.Nat.{ℕ, ◌*◌, ◌≤◌, ◌<◌}
use native.Mathlib.Omega.{arith}
use borrow.Author.Tests.{eqb-true, leb-true, leb-false, le-leb}
use lib.Dec.{eqb, leb}
use lib.ListN.{length, get_or, drop, length-reverse, get_or-append}
use lib.Seq.{take_at}
use lib.IntN.{ℤ}
use Rattle.integer.proofs.Ranges.{and_left, and_right, and_both}
use Rattle.backoff.specs.Refusal.{number_of, place_of, array_head, broken_node, short_slice}
use Rattle.backoff.specs.FirstMet.{Line, FirstMet}
use Rattle.backoff.specs.Run.{Run, written, run, first}
use Rattle.backoff.specs.Runs.{answers}
use Rattle.backoff.specs.Store.{absent, entry_of, is_broken, look_entry, model_in, run_outcome}
use Rattle.backoff.specs.NineNumbers.{nine}
use Rattle.backoff.specs.Refusal.{Accepted, Refused}
use Rattle.backoff.proofs.FirstMet.{met_when, not_when, not-false}
use Rattle.backoff.proofs.Store.{entry_of-look_entry, look_entry-sound, packed}
use Rattle.rows.specs.Table.{rows_of, order_of, words}
use Rattle.row_search.specs.Search.{find_in}
use Rattle.row_search.proofs.Search.{found-words, finds}
use Rattle.list.specs.Check.{verdict}
use Rattle.list.specs.ListModel.{entry_at, model_of}
use Rattle.list.proofs.Check.{accepted-good, accepted-size, number-accepted}
use Rattle.markers.specs.Markers.{Sound}
use Rattle.child_slots.specs.Children.{child_at}
use Rattle.double_array.specs.DoubleArray.{marker_at, look_from, look_row, is_array, order_in, store_in, opened}
use Rattle.double_array.proofs.DoubleArray.{root-sound, look-here, look-down}
use Rattle.array_nodes.specs.Nodes.{Reached, walk_to, reached, slots_of}
use Rattle.array_nodes.proofs.Reached.{reached_told, reached_shown, walk-child, walk-slot}
use Rattle.array_nodes.proofs.Gathering.{length-slots_of, readable}
use Rattle.node_rows.specs.Rows.{table_of}
use Rattle.node_rows.proofs.Rows.{length-table_of, rows-table_of, row_node, node_row}
use Rattle.node_list.specs.Listed.{all_right, rows_in, is_list}
use Rattle.node_list.proofs.Listed.{all_sound}
use Rattle.unload.specs.Unload.{Unloaded, untouched, emptied, filled, unload_outcome}
use Rattle.unload.specs.Meaning.{Holds, Says, unload_refusals, rows_part, UnloadMeans}
use Rattle.unload.proofs.Held.{held_says, held-runs_in_a_row, held-table, held-is-list}

-- ---- an array whose nodes reached are a list

module _ (base check : List ℤ) (array : is_array base check ≡ true) (ok : is_list base check (reached base check (order_in check)) ≡ true) where
  abbrev n : ℕ
  n = order_in check

  abbrev rs : List Reached
  rs = reached base check n

  abbrev t : List ℤ
  t = table_of base check rs

  tests : (all_right base check t rs ≡ true) × (eqb (number_of (verdict t)) 0 ≡ true) × (eqb (order_of t) n ≡ true) × (eqb (rows_of t) (rows_in base) ≡ true)
  unfolding is_list
  tests =
      let a = all_right base check t rs in
      let b = eqb (number_of (verdict t)) 0 in
      let c = eqb (order_of t) n in
      let d = eqb (rows_of t) (rows_in base) in
      let x = and_right a (b && (c && d)) ok in
      let y = and_right b (c && d) x in
      (and_left a (b && (c && d)) ok, and_left b (c && d) x, and_left c d y, and_right c d y)

  list : verdict t ≡ Accepted
  list = number-accepted t (eqb-true (number_of (verdict t)) 0 tests.1)

  order : order_of t ≡ n
  order = eqb-true (order_of t) n tests.2

  rows : rows_of t ≡ rows_in base
  rows = eqb-true (rows_of t) (rows_in base) tests.3

  sound-at : (us : List ℕ) (s : ℕ) → length us ≤ n → walk_to base check us ≡ Some s → (p b : ℤ) × (e f : Bool) × (marker_at base check (length us) s ≡ Sound p b e f)
  unfolding walk_to
  sound-at [] s h e = let z : 0 ≡ s = cc in (_, _, _, _, ap (marker_at base check 0) (sym z) ∙ root-sound base check array)
  sound-at (w ∷ us) s h e = (_, _, _, _, all_sound base check t rs tests.0 (record { slot = s; words = w ∷ us }) (reached_shown base check n (record { slot = s; words = w ∷ us }) (record { some = omega arith; few = h; leads = e })))

  -- ---- the walk of lookup and run comes to where the words lead

  look_through : (us q : List ℕ) (s : ℕ) → length us ≤ n → walk_to base check us ≡ Some s → look_from base check 0 0 (reverse_aux us q) ≡ look_from base check (length us) s q
  unfolding walk_to
  look_through [] q s h e = let z : 0 ≡ s = cc in ap (λ (i : ℕ). look_from base check 0 i q) z
  look_through (w ∷ us) q s h e =
      let d = walk-slot base check w us s e in
      let m = sound-at us d.0 (omega arith) d.1 in
      look_through us (w ∷ q) d.0 (omega arith) d.1 ∙ look-down base check (length us) d.0 m.0 m.1 m.2 m.3 w q m.4 ∙ rw d.2

  look_astray : (us q : List ℕ) → length us ≤ n → walk_to base check us ≡ None → look_from base check 0 0 (reverse_aux us q) ≡ absent
  unfolding walk_to
  look_astray [] q h e = absurd (let z : ◌≡◌ {A = ℕ} 0 1 = cc in omega arith)
  look_astray (w ∷ us) q h e = go (walk_to base check us) refl (look_astray us (w ∷ q) (omega arith))
    where
      go : (c : Option ℕ) → walk_to base check us ≡ c → (walk_to base check us ≡ None → look_from base check 0 0 (reverse_aux us (w ∷ q)) ≡ absent) → look_from base check 0 0 (reverse_aux us (w ∷ q)) ≡ absent
      go None k ih = ih k
      go (Some s) k ih =
          let m = sound-at us s (omega arith) k in
          let c : child_at base check s w ≡ None = sym (walk-child base check us w s k) ∙ e in
          look_through us (w ∷ q) s (omega arith) k ∙ look-down base check (length us) s m.0 m.1 m.2 m.3 w q m.4 ∙ rw c

  -- ---- and the list has what is found there

  unlisted : (us : List ℕ) → ((s : ℕ) → 1 ≤ length us → walk_to base check us ≡ Some s → ⊥) → find_in t us ≡ None
  unlisted us none-there = go (find_in t us) refl
    where
      go : (f : Option ℕ) → find_in t us ≡ f → f ≡ None
      go None e = refl
      go (Some i) e =
          let w = found-words t us i e in
          let d = row_node base check rs (readable base check array) i (omega (arith, w.0, rows-table_of base check rs)) in
          let k = reached_told base check n d.0 d.1 in
          let same : d.0.words ≡ us = sym d.2.same ∙ w.1 in
          absurd (none-there d.0.slot (omega (arith, k.some, ap length same)) (ap (walk_to base check) (sym same) ∙ k.leads))

  look-listed : (us : List ℕ) (s : ℕ) → 1 ≤ length us → length us ≤ n → walk_to base check us ≡ Some s → look_from base check 0 0 (reverse us) ≡ look_entry (entry_at t us (find_in t us))
  look-listed us s l h e =
      let r : Reached = record { slot = s; words = us } in
      let m = reached_shown base check n r (record { some = l; few = h; leads = e }) in
      let d = node_row base check rs (readable base check array) r m in
      let f : find_in t us ≡ Some d.0 = ap (find_in t) (sym d.2.same) ∙ finds t (accepted-good t list) d.0 (omega (arith, d.1, rows-table_of base check rs)) in
      look_through us [] s h e
      ∙ look-here base check (length us) s _ _ _ _ (all_sound base check t rs tests.0 r m)
      ∙ rw (f, d.2.probability, d.2.backoff)

  look-unloaded : (l : List ℕ) → length l ≤ n → look_row base check l ≡ look_entry ((model_of t).find l)
  unfolding model_of
  look-unloaded [] h = rw (unlisted [] (λ s l e. absurd (omega arith)))
  look-unloaded (w ∷ l) h =
      let us = reverse (w ∷ l) in
      ap (look_from base check 0 0) (sym (reverse-reverse (w ∷ l))) ∙ go us (omega (arith, length-reverse (w ∷ l))) (omega (arith, length-reverse (w ∷ l))) (walk_to base check us) refl
    where
      go : (us : List ℕ) → 1 ≤ length us → length us ≤ n → (c : Option ℕ) → walk_to base check us ≡ c → look_from base check 0 0 (reverse us) ≡ look_entry (entry_at t us (find_in t us))
      go us k h (Some s) e = look-listed us s k h e
      go us k h None e = look_astray us [] h e ∙ rw (unlisted us (λ s l q. let z : ◌≡◌ {A = ℕ} 0 1 = cc in omega arith))

  row-slot : (i : ℕ) → i < rows_of t → walk_to base check (words t i) ≡ Some (get_or (slots_of rs) i 0)
  row-slot i h =
      let d = row_node base check rs (readable base check array) i (omega (arith, rows-table_of base check rs)) in
      rw (d.2.same, d.2.slot) (reached_told base check n d.0 d.1).leads

  list_held : Holds base check t
  list_held = record {
    array = array;
    list = list;
    rows = rows;
    order = order;
    find = λ l h. (unfold model_in store_in in ap entry_of (look-unloaded l h) ∙ entry_of-look_entry ((model_of t).find l));
    sound = λ l h. (unfold store_in in ap is_broken (look-unloaded l h) ∙ look_entry-sound ((model_of t).find l));
  }

-- ---- the outcome of unload

module _ (base check table : List ℤ) (work : List ℕ) where
  abbrev nodes : List Reached
  nodes = reached base check (order_in check)

  -- what 15 asks for
  abbrev long_enough : Bool
  long_enough = leb (8 * rows_in base) (length table) && leb (rows_in base) (length work)

  abbrev outcome : Unloaded
  outcome = unload_outcome base check table work

  abbrev OutcomeMeans : Type 0
  OutcomeMeans = UnloadMeans base check table work (number_of outcome.answer) (place_of outcome.answer) outcome.table outcome.work

  abbrev lines : List Line
  lines = unload_refusals base check table work

  too_short_told : long_enough ≡ false → (length table < 8 * rows_in base) ⊎ (length work < rows_in base)
  too_short_told e = go (leb (8 * rows_in base) (length table)) (leb (rows_in base) (length work)) refl refl e
    where
      go : (a b : Bool) → leb (8 * rows_in base) (length table) ≡ a → leb (rows_in base) (length work) ≡ b → (a && b) ≡ false → (length table < 8 * rows_in base) ⊎ (length work < rows_in base)
      go false b p q e = inl (leb-false (8 * rows_in base) (length table) p)
      go true false p q e = inr (leb-false (rows_in base) (length work) q)
      go true true p q e = absurd (false≢true (sym e))

  -- 11 and 15 are passed
  past-sizes : is_array base check ≡ true → long_enough ≡ true → (number : ℕ) → FirstMet (drop 2 lines) number 0 → FirstMet lines number 0
  past-sizes array long number v = inr (not-false array, inr (not_when too_short, v))
    where
      too_short : (length table < 8 * rows_in base) ⊎ (length work < rows_in base) → ⊥
      too_short (inl h) = let l = leb-true (8 * rows_in base) (length table) (and_left (leb (8 * rows_in base) (length table)) (leb (rows_in base) (length work)) long) in omega arith
      too_short (inr h) = let l = leb-true (rows_in base) (length work) (and_right (leb (8 * rows_in base) (length table)) (leb (rows_in base) (length work)) long) in omega arith

  -- accepted
  module _ (array : is_array base check ≡ true) (long : long_enough ≡ true) (ok : is_list base check nodes ≡ true) where
    outcome_filled : outcome ≡ filled base check table work nodes
    unfolding unload_outcome
    outcome_filled = rw (array, long, ok)

    rows_left : rows_part base outcome.table ≡ table_of base check nodes
    unfolding filled written
    rows_left = rw outcome_filled (take_at (table_of base check nodes) _ (8 * rows_in base) (omega (arith, length-table_of base check nodes, rows-table_of base check nodes, rows base check array ok)))

    slot-left : (i : ℕ) → i < rows_in base → get_or outcome.work i 0 ≡ get_or (slots_of nodes) i 0
    unfolding filled written
    slot-left i h = rw outcome_filled (get_or-append (slots_of nodes) _ 0 i (omega (arith, length-slots_of nodes, rows-table_of base check nodes, rows base check array ok)))

    answer-accepted : outcome.answer ≡ Accepted
    unfolding filled
    answer-accepted = rw outcome_filled

    filled_means : OutcomeMeans
    filled_means = record {
      verdict = rw answer-accepted (past-sizes array long 0 (inr (not_when (λ none-held. none-held _ (list_held base check array ok)), (refl, refl))));
      holds = λ e. rw rows_left (list_held base check array ok);
      only = λ e u H. rows_left ∙ held-table base check u H;
      slots = λ e i h. rw (rows_left, slot-left i h) (row-slot base check array ok i (omega (arith, rows base check array ok)));
    }

  refused_means : (k : ℕ) → (k ≡ 0 → ⊥) → outcome.answer ≡ Refused k 0 → FirstMet lines k 0 → OutcomeMeans
  refused_means k n q v = record {
    verdict = rw q v;
    holds = λ e. absurd (never e);
    only = λ e. absurd (never e);
    slots = λ e. absurd (never e);
  }
    where
      never : number_of outcome.answer ≡ 0 → ⊥
      never e = n (sym (ap number_of q) ∙ e)

  pub unload_means : OutcomeMeans
  unload_means = go (is_array base check) refl long_enough refl (is_list base check nodes) refl
    where
      go : (a : Bool) → is_array base check ≡ a → (b : Bool) → long_enough ≡ b → (c : Bool) → is_list base check nodes ≡ c → OutcomeMeans
      go false e b f c g = refused_means array_head (λ z. omega arith) (unfold unload_outcome untouched in rw e) (inl (met_when e))
      go true e false f c g = refused_means short_slice (λ z. omega arith) (unfold unload_outcome untouched in rw (e, f)) (inr (not-false e, inl (met_when (too_short_told f))))
      go true e true f false g =
          refused_means broken_node (λ z. omega arith) (unfold unload_outcome emptied in rw (e, f, g)) (past-sizes e f broken_node (inl (met_when (λ u H. false≢true (sym g ∙ held-is-list base check u H)))))
      go true e true f true g = filled_means e f g

-- Where unload accepts an array, every lookup, start and run over it is what the unloaded list says.
module _ (base check table : List ℤ) (work : List ℕ) (e : (unload_outcome base check table work).answer ≡ Accepted) where
  abbrev unloaded : List ℤ
  unloaded = rows_part base (unload_outcome base check table work).table

  pub unloaded_says : Says base check unloaded
  unloaded_says = held_says base check unloaded ((unload_means base check table work).holds (ap number_of e))

  -- a whole list of runs too, from the state of start or the empty one
  pub unloaded-runs_in_a_row : (b : Bool) (qs : List Run) → answers (run_outcome (opened base check)) (nine (first (model_of unloaded) b)) qs ≡ map packed (answers (run (model_of unloaded)) (first (model_of unloaded) b) qs)
  unloaded-runs_in_a_row b qs = held-runs_in_a_row base check unloaded ((unload_means base check table work).holds (ap number_of e)) b qs

-- ---- over an array that holds a list

module _ (base check t : List ℤ) (H : Holds base check t) where
  -- where the slices are long enough, the list is given back, and all past the rows is untouched
  pub held-unloads : (table : List ℤ) (work : List ℕ) → length t ≤ length table → rows_of t ≤ length work
      → unload_outcome base check table work ≡ record { answer = Accepted; table = written t table; work = written (slots_of (reached base check (order_in check))) work }
  unfolding filled
  held-unloads table work h k =
      let l = le-leb (8 * rows_in base) (length table) (omega (arith, H.rows, (accepted-size t H.list).2)) in
      let m = le-leb (rows_in base) (length work) (omega (arith, H.rows)) in
      outcome_filled base check table work H.array (and_both (leb (8 * rows_in base) (length table)) (leb (rows_in base) (length work)) l m) (held-is-list base check t H) ∙ rw (held-table base check t H)

  -- with the slots of its rows' nodes
  pub held-slot : (i : ℕ) → i < rows_of t → walk_to base check (words t i) ≡ Some (get_or (slots_of (reached base check (order_in check))) i 0)
  held-slot i h =
      let e = held-table base check t H in
      rw e at (row-slot base check H.array (held-is-list base check t H) i (rw e h))
