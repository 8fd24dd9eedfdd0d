-- Laws of the table of reached nodes: what stands where in it. Assumes nothing.
use mathlib.Core.Path.{◌≡◌, refl, ◌∙◌}
use mathlib.Core.Bool.{true}
use mathlib.Core.List.{List, [], ◌∷◌, Memᴰ}
use Prim.Native.Nat.{ℕ, zero, suc, ◌*◌, ◌≤◌, ◌<◌}
use native.Mathlib.Omega.{arith}
use lib.ListN.{length, get_or}
use lib.IntN.{ℤ}
use Rattle.integer.proofs.Items.{get_or_in, in_get_or}
use Rattle.backoff.specs.Limits.{order_limit}
use Rattle.backoff.specs.Words.{are_words}
use Rattle.rows.specs.Table.{rows_of, field, probability_at, backoff_at, words}
use Rattle.rows.proofs.Rows.{words_back, row_words_lem, field_later, words_later}
use Rattle.array_nodes.specs.Nodes.{Reached, root, slots_of}
use Rattle.node_rows.specs.Rows.{marker_p, marker_b, reached_marker, row_of, table_of}

module _ (base check : List ℤ) where
  -- at i stand the row and the slot of the node r
  pub record StandsAt (t : List ℤ) (slots : List ℕ) (i : ℕ) (r : Reached) : Type 0 where
    pub same : words t i ≡ r.words
    pub probability : probability_at t i ≡ marker_p (reached_marker base check r)
    pub backoff : backoff_at t i ≡ marker_b (reached_marker base check r)
    pub slot : get_or slots i 0 ≡ r.slot

  -- nodes whose rows read back
  abbrev pub Readable : List Reached → Type 0
  Readable rs = (r : Reached) → Memᴰ r rs → (length r.words ≤ order_limit) × (are_words r.words ≡ true)

  pub length-table_of : (rs : List Reached) → length (table_of base check rs) ≡ 8 * length rs
  unfolding table_of row_of
  length-table_of [] = refl
  length-table_of (r ∷ rs) = omega (arith, length-table_of rs)

  pub rows-table_of : (rs : List Reached) → rows_of (table_of base check rs) ≡ length rs
  unfolding rows_of
  rows-table_of rs = rw (length-table_of rs) (omega arith)

  first_stands : (r : Reached) (rs : List Reached) → Readable (r ∷ rs) → StandsAt (table_of base check (r ∷ rs)) (slots_of (r ∷ rs)) 0 r
  unfolding table_of row_of slots_of field
  first_stands r rs f =
      let h = f r (Memᴰ.head refl) in
      record { same = row_words_lem r.words _ _ (table_of base check rs) h.0 ∙ words_back r.words h.1; probability = refl; backoff = refl; slot = refl }

  later_stands : (r : Reached) (rs : List Reached) (i : ℕ) (c : Reached) → StandsAt (table_of base check rs) (slots_of rs) i c → StandsAt (table_of base check (r ∷ rs)) (slots_of (r ∷ rs)) (suc i) c
  unfolding table_of row_of slots_of
  later_stands r rs i c s = record {
    same = words_later r.words _ _ (table_of base check rs) i ∙ s.same;
    probability = field_later r.words _ _ (table_of base check rs) i 6 ∙ s.probability;
    backoff = field_later r.words _ _ (table_of base check rs) i 7 ∙ s.backoff;
    slot = s.slot;
  }

  -- row i is that of node i
  pub row_at : (rs : List Reached) → Readable rs → (i : ℕ) → i < length rs → StandsAt (table_of base check rs) (slots_of rs) i (get_or rs i root)
  row_at [] f i h = absurd (omega arith)
  row_at (r ∷ rs) f zero h = first_stands r rs f
  row_at (r ∷ rs) f (suc i) h = later_stands r rs i (get_or rs i root) (row_at rs (λ c m. f c (Memᴰ.tail m)) i (omega arith))

  -- every row is a node's
  pub row_node : (rs : List Reached) → Readable rs → (i : ℕ) → i < length rs → (r : Reached) × Memᴰ r rs × StandsAt (table_of base check rs) (slots_of rs) i r
  row_node rs f i h = (get_or rs i root, get_or_in rs i root h, row_at rs f i h)

  -- and every node has a row
  pub node_row : (rs : List Reached) → Readable rs → (r : Reached) → Memᴰ r rs → (i : ℕ) × (i < length rs) × StandsAt (table_of base check rs) (slots_of rs) i r
  node_row rs f r m = let d = in_get_or rs root r m in (d.0, d.1, rw d.2 at (row_at rs f d.0 d.1))
