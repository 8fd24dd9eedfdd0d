-- The array that the placing rule fixes for an accepted list, cut to enough slots: 11 lets it pass, and as a model it is the list. And what an accepted
-- outcome of build says. Assumes nothing.
use Rattle.std.specs.declared.option.Option.{Option}
use Rattle.std.specs.declared.option.Option.TheVariants.{Some, None}
use mathlib.Core.Path.{◌≡◌, refl, sym, ap, ◌∙◌}
use mathlib.Core.Logic.{◌≢◌}
use mathlib.Core.Bool.{Bool, true, false, cond, ◌&&◌, true≢false, false≢true}
use mathlib.Core.List.{List, [], ◌∷◌, reverse}
use Prim.Native.Nat.{ℕ, ◌≤◌, ◌<◌}
use native.Mathlib.Omega.{arith}
use borrow.Author.Tests.{leb-true}
use lib.Dec.{leb}
use lib.IntN.{ℤ, pos, negsuc}
use lib.ListN.{length, length-reverse}
use Rattle.integer.proofs.Arithmetic.{zarith}
use Rattle.integer.proofs.Ranges.{and_left, and_right, and_both, between-yes}
use Rattle.backoff.specs.Limits.{order_limit, row_limit, slot_limit, unknown_word, start_word, end_word}
use Rattle.backoff.specs.Refusal.{number_of, table_length, array_length, no_room}
use Rattle.backoff.specs.Model.{Entry, is_some, listed}
use Rattle.backoff.specs.Run.{written}
use Rattle.backoff.specs.Store.{entry_of, is_broken, look_entry, store_of, model_in}
use Rattle.backoff.specs.Refusal.{Verdict}
use Rattle.backoff.specs.Refusal.{Accepted, Refused}
use Rattle.backoff.proofs.Model.{model_ext}
use Rattle.backoff.proofs.Store.{entry_of-look_entry, look_entry-sound, Whole}
use Rattle.rows.specs.Table.{rows_of, order_of, words}
use Rattle.row_search.specs.Search.{find_in}
use Rattle.row_search.proofs.Search.{found-words}
use Rattle.list.specs.Check.{table_fits, verdict}
use Rattle.list.specs.ListModel.{entry_at, model_of}
use Rattle.list.proofs.Check.{accepted-size, number-accepted}
use Rattle.list.proofs.ListModel.{accepted-model}
use Rattle.child_slots.specs.Children.{free_check, base_at, check_at}
use Rattle.double_array.specs.DoubleArray.{head_check, look_row, sizes_ok, order_ok, head_ok, is_array, order_in, store_in, opened}
use Rattle.double_array.proofs.DoubleArray.{Sizes, Head, sizes_told, sizes_shown, head_shown, opened_some}
use Rattle.placing.specs.Placing.{slots}
use Rattle.placing.proofs.NodeByNode.{placing-head}
use Rattle.placing.proofs.Slots.{length-slots, get_or-slots}
use Rattle.placing.proofs.Walk.{look_node, look-placed}
use Rattle.row_nodes.specs.ListTrie.{root_of, nodes_of}
use Rattle.row_nodes.proofs.ListTrie.{node_at-root, nodes_ready}
use Rattle.list_trie.specs.ListTrie.{placed_list, row_slots}
use Rattle.list_trie.proofs.ListTrie.{row_marker, nodes-sound, node_if, find_node-listed}
use Rattle.placed_list.specs.Build.{Built, untouched, emptied, filled, checked_build}
use Rattle.build.specs.Build.{build_outcome}

-- BASE and CHECK hold the list, all of it and only it: 11 lets them pass, and they have for any words what the list has
pub record HoldsList (t base check : List ℤ) : Type 0 where
  pub array : is_array base check ≡ true
  pub order : order_in check ≡ order_of t
  pub look : (l : List ℕ) → look_row base check l ≡ look_entry ((model_of t).find l)
  pub whole : Whole (store_in base check)
  pub model : model_in (store_in base check) ≡ model_of t

module _ (t : List ℤ) (a : verdict t ≡ Accepted) where
  -- a word that is listed by itself is a row
  word_row_lem : (w : ℕ) → listed (model_of t) (w ∷ []) ≡ true → (j : ℕ) × (j < rows_of t) × (words t j ≡ w ∷ [])
  unfolding listed model_of
  word_row_lem w e = go (find_in t (w ∷ [])) refl e
    where
      go : (f : Option ℕ) → find_in t (w ∷ []) ≡ f → is_some (entry_at t (w ∷ []) f) ≡ true → (j : ℕ) × (j < rows_of t) × (words t j ≡ w ∷ [])
      go (Some j) q h = let r = found-words t (w ∷ []) j q in (j, r.0, r.1)
      go None q h = absurd (false≢true h)

  -- words 1, 2 and 3 have rows of their own
  three_rows : 3 ≤ rows_of t
  three_rows =
      let m = accepted-model t a in
      let u = word_row_lem unknown_word m.unknown-listed in
      let s = word_row_lem start_word m.start-listed in
      let e = word_row_lem end_word m.end-listed in
      omega (arith, u.1, s.1, e.1, apart _ _ u.2 s.2 (omega arith), apart _ _ u.2 e.2 (omega arith), apart _ _ s.2 e.2 (omega arith))
    where
      apart : (i j : ℕ) {v w : ℕ} → words t i ≡ v ∷ [] → words t j ≡ w ∷ [] → v ≢ w → i ≢ j
      apart i j p q n e = n (let f : words t i ≡ words t j = ap (words t) e in cc)

  -- no words are no row
  empty-unlisted : (model_of t).find [] ≡ None
  unfolding listed
  empty-unlisted = go ((model_of t).find []) (accepted-model t a).nonempty
    where
      go : (o : Option Entry) → is_some o ≡ false → o ≡ None
      go None e = refl
      go (Some x) e = absurd (true≢false e)

  -- a row's node says what its row has
  found-look : (ws : List ℕ) (f : Option ℕ) → find_in t ws ≡ f → look_node (node_if t f) ≡ look_entry (entry_at t ws f)
  found-look ws (Some j) e =
      let w = found-words t ws j e in
      rw (row_marker t a j w.0, w.1)
  found-look ws None e = refl

  -- ---- the first N slots

  module _ (N : ℕ) (low : 2 ≤ N) (high : N ≤ slot_limit) (room : (placed_list t).top ≤ N) where
    abbrev B : List ℤ
    B = slots N (placed_list t).base

    abbrev C : List ℤ
    C = slots N (placed_list t).check

    built-sizes : Sizes B C
    built-sizes =
        let b = length-slots N (placed_list t).base in
        let c = length-slots N (placed_list t).check in
        record { same = omega arith; low = omega arith; high = omega arith }

    order-read : check_at B C 0 ≡ head_check (order_of t)
    unfolding placed_list
    order-read = get_or-slots N (placed_list t).check 0 free_check (omega arith) ∙ (placing-head (order_of t) (nodes_of t) (nodes_ready t a)).check_0

    rows-read : base_at B C 1 ≡ pos (rows_of t)
    unfolding placed_list root_of
    rows-read =
        get_or-slots N (placed_list t).base 1 (pos 0) (omega arith) ∙ (placing-head (order_of t) (nodes_of t) (nodes_ready t a)).base_1
        ∙ ap (λ n. n.load) (node_at-root t)

    built-head : Head B C
    unfolding placed_list root_of model_of order_ok
    built-head =
        let h = placing-head (order_of t) (nodes_of t) (nodes_ready t a) in
        let m = accepted-model t a in
        let l = m.order-low in
        let u = m.order-high in
        let r = three_rows in
        let z = (accepted-size t a).1 in
        record {
          root-base = get_or-slots N (placed_list t).base 0 (pos 0) (omega arith) ∙ h.base_0;
          order = rw order-read (between-yes (head_check 1) (head_check order_limit) (head_check (order_of t)) (omega zarith) (omega zarith));
          root-check = get_or-slots N (placed_list t).check 1 free_check low ∙ h.check_1 ∙ ap (λ n. negsuc n.cost) (node_at-root t);
          rows = rw rows-read (between-yes (pos 3) (pos row_limit) (pos (rows_of t)) (omega zarith) (omega zarith));
        }

    pub built-array : is_array B C ≡ true
    built-array = and_both (sizes_ok B C) (head_ok B C) (sizes_shown B C built-sizes) (head_shown B C built-head)

    pub built-order : order_in C ≡ order_of t
    unfolding order_in
    built-order = rw order-read (omega arith)

    built-look : (l : List ℕ) → look_row B C l ≡ look_entry ((model_of t).find l)
    unfolding placed_list model_of
    built-look [] = rw empty-unlisted
    built-look (w ∷ l) =
        let ws = reverse (w ∷ l) in
        look-placed (order_of t) (nodes_ready t a) (nodes-sound t a) N room (w ∷ l)
        ∙ ap look_node (find_node-listed t a ws (λ e. absurd (omega (arith, sym (length-reverse (w ∷ l)) ∙ ap length e))))
        ∙ found-look ws (find_in t ws) refl

    pub built-model : model_in (store_in B C) ≡ model_of t
    unfolding model_in store_in model_of
    built-model = model_ext (model_in (store_in B C)) (model_of t) built-order (λ l. ap entry_of (built-look l) ∙ entry_of-look_entry ((model_of t).find l))

    pub built-whole : Whole (store_in B C)
    unfolding store_in
    built-whole = record {
      sound = λ l. ap is_broken (built-look l) ∙ look_entry-sound ((model_of t).find l);
      unknown-here = rw built-model (accepted-model t a).unknown-listed;
    }

    built-holds : HoldsList t B C
    built-holds = record { array = built-array; order = built-order; look = built-look; whole = built-whole; model = built-model }

-- ---- the outcome of build

-- what an accepted outcome says of the table and of the lent slices, and what it leaves in them
pub record AcceptedBuild (table base check : List ℤ) (work : List ℕ) : Type 0 where
  pub accepted : verdict table ≡ Accepted
  pub sizes : Sizes base check
  pub work-long : rows_of table ≤ length work
  pub room : (placed_list table).top ≤ length base
  pub base-slots : (build_outcome table base check work).base ≡ slots (length base) (placed_list table).base
  pub check-slots : (build_outcome table base check work).check ≡ slots (length base) (placed_list table).check
  pub work-slots : (build_outcome table base check work).work ≡ written (row_slots table) work

-- an accepted outcome is not the refused one of two
accepted-first : (b : Bool) (x y : Built) (n k : ℕ) → y.answer ≡ Refused n k → (cond b x y).answer ≡ Accepted → (b ≡ true) × (x.answer ≡ Accepted)
accepted-first true x y n k r e = (refl, e)
accepted-first false x y n k r e = absurd (false≢true (cc))

module _ (table base check : List ℤ) (work : List ℕ) where
  abbrev outcome : Built
  outcome = build_outcome table base check work

  pub outcome_filled : table_fits (length table) ≡ true → (sizes_ok base check && leb (rows_of table) (length work)) ≡ true → verdict table ≡ Accepted
      → leb (placed_list table).top (length base) ≡ true → outcome ≡ filled table base check work
  unfolding build_outcome
  outcome_filled f s v r = rw (f, s, v, r)

  checked-accepted : (v : Verdict) → (checked_build table base check work v).answer ≡ Accepted → (v ≡ Accepted) × (leb (placed_list table).top (length base) ≡ true)
  unfolding untouched emptied
  checked-accepted Accepted e = (refl, (accepted-first (leb (placed_list table).top (length base)) (filled table base check work) (emptied table base check work) _ _ refl e).0)
  checked-accepted (Refused n k) e = absurd (false≢true (cc))

  pub build_accepted : outcome.answer ≡ Accepted → AcceptedBuild table base check work
  unfolding build_outcome untouched filled
  build_accepted e =
      let fits = accepted-first (table_fits (length table)) _ (untouched table base check work (Refused table_length 0)) _ _ refl e in
      let sized = accepted-first (sizes_ok base check && leb (rows_of table) (length work)) _ (untouched table base check work (Refused array_length 0)) _ _ refl fits.1 in
      let checked = checked-accepted (verdict table) sized.1 in
      let z = sizes_told base check (and_left (sizes_ok base check) (leb (rows_of table) (length work)) sized.0) in
      let q = outcome_filled fits.0 sized.0 checked.0 checked.1 in
      record {
        accepted = checked.0;
        sizes = z;
        work-long = leb-true (rows_of table) (length work) (and_right (sizes_ok base check) (leb (rows_of table) (length work)) sized.0);
        room = leb-true (placed_list table).top (length base) checked.1;
        base-slots = ap (λ (b : Built). b.base) q;
        check-slots = ap (λ (b : Built). b.check) q ∙ ap (λ (n : ℕ). slots n (placed_list table).check) (sym z.same);
        work-slots = ap (λ (b : Built). b.work) q;
      }

  -- so the arrays that an accepted build leaves hold the list
  pub build_holds : outcome.answer ≡ Accepted → HoldsList table outcome.base outcome.check
  build_holds e =
      let k = build_accepted e in
      rw (k.base-slots, k.check-slots) (built-holds table k.accepted (length base) k.sizes.low k.sizes.high k.room)

-- and they open to the list's own store, however many slots there are
held-opened : {t base check : List ℤ} → HoldsList t base check → opened base check ≡ Some (store_of (model_of t))
unfolding store_in store_of model_of
held-opened {t} {base} {check} h = opened_some base check h.array ∙ ap Some store
  where
    store : store_in base check ≡ store_of (model_of t)
    store = λ i. record { order = h.order i; look = λ l. h.look l i }

pub build_opened : (table base check : List ℤ) (work : List ℕ) → (build_outcome table base check work).answer ≡ Accepted
    → opened (build_outcome table base check work).base (build_outcome table base check work).check ≡ Some (store_of (model_of table))
build_opened table base check work e = held-opened (build_holds table base check work e)

-- a refusal's number is never 0, so that the number alone tells an accepted build
pub build_number : (table base check : List ℤ) (work : List ℕ) → number_of (build_outcome table base check work).answer ≡ 0 → (build_outcome table base check work).answer ≡ Accepted
unfolding build_outcome untouched filled emptied
build_number table base check work e = go (table_fits (length table)) (sizes_ok base check && leb (rows_of table) (length work)) (verdict table) (leb (placed_list table).top (length base)) refl refl refl refl
  where
    go : (t s : Bool) (v : Verdict) (p : Bool) → table_fits (length table) ≡ t → (sizes_ok base check && leb (rows_of table) (length work)) ≡ s → verdict table ≡ v → leb (placed_list table).top (length base) ≡ p → (build_outcome table base check work).answer ≡ Accepted
    go true true Accepted true a b c d = rw (a, b, c, d)
    go true true Accepted false a b c d = absurd (let z : no_room ≡ 0 = rw (a, b, c, d) at e in omega arith)
    go true true (Refused n k) p a b c d = absurd (let z : n ≡ 0 = rw (a, b, c) at e in false≢true (let q : verdict table ≡ Accepted = number-accepted table (ap number_of c ∙ z) in cc))
    go true false v p a b c d = absurd (let z : array_length ≡ 0 = rw (a, b) at e in omega arith)
    go false s v p a b c d = absurd (let z : table_length ≡ 0 = rw a at e in omega arith)
