-- The outcome means what specs/Meaning.antt says. Assumes nothing.
use mathlib.Core.Path.{◌≡◌, refl, ap}
use mathlib.Core.Bool.{Bool, true, false, cond, ◌&&◌}
use mathlib.Core.List.{List}
use Prim.Native.Nat.{ℕ}
use native.Mathlib.Omega.{arith}
use lib.Dec.{eqb, leb}
use lib.IntN.{ℤ}
use lib.ListN.{length}
use borrow.Author.Tests.{eqb-false, leb-true, leb-false}
use Rattle.integer.proofs.Ranges.{and_left, and_right}
use Rattle.backoff.specs.Limits.{slot_limit}
use Rattle.backoff.specs.Refusal.{number_of, place_of, table_length, array_length}
use Rattle.backoff.specs.Refusal.{Verdict}
use Rattle.backoff.specs.Refusal.{Accepted, Refused}
use Rattle.rows.specs.Table.{rows_of}
use Rattle.list.specs.Check.{verdict, table_fits}
use Rattle.list.proofs.Check.{verdict-refused}
use Rattle.list.proofs.ListModel.{accepted-model}
use Rattle.list.proofs.Meaning.{table-passed, none-meets, refused-verdict}
use Rattle.double_array.specs.DoubleArray.{sizes_ok}
use Rattle.double_array.proofs.DoubleArray.{sizes_told, opened_some}
use Rattle.list_trie.specs.ListTrie.{placed_list}
use Rattle.placed_list.specs.Build.{Built, untouched, filled, emptied, checked_build, IsBuilt}
use Rattle.build.specs.Build.{build_outcome}
use Rattle.build.specs.Meaning.{BadSizes, lengths_differ, too_few_slots, too_many_slots, short-work, BuildRefusedBy, bad_table, bad_sizes, bad_list, lacks_room, BuildMeans}
use Rattle.build.proofs.Built.{build_accepted, build_holds, build_number}

module _ (t B C : List ℤ) (W : List ℕ) where
  abbrev fit : Bool
  fit = sizes_ok B C && leb (rows_of t) (length W)

  -- ---- 2

  sizes_bad : fit ≡ false → BadSizes t B C W
  unfolding sizes_ok
  sizes_bad e = go (eqb (length B) (length C)) refl (leb 2 (length B)) refl (leb (length B) slot_limit) refl (leb (rows_of t) (length W)) refl e
    where
      go : (a : Bool) → eqb (length B) (length C) ≡ a → (b : Bool) → leb 2 (length B) ≡ b → (c : Bool) → leb (length B) slot_limit ≡ c → (d : Bool) → leb (rows_of t) (length W) ≡ d → ((a && (b && c)) && d) ≡ false → BadSizes t B C W
      go false p b q c r d s h = lengths_differ (eqb-false _ _ p)
      go true p false q c r d s h = too_few_slots (leb-false _ _ q)
      go true p true q false r d s h = too_many_slots (leb-false _ _ r)
      go true p true q true r false s h = short-work (leb-false _ _ s)
      go true p true q true r true s h = absurd (let z : ◌≡◌ {A = ℕ} 1 0 = ap (λ (b : Bool). cond b 1 0) h in omega arith)

  sizes-good : fit ≡ true → BadSizes t B C W → ⊥
  sizes-good e b = go b
    where
      go : BadSizes t B C W → ⊥
      go (lengths_differ n) = n (sizes_told B C (and_left (sizes_ok B C) (leb (rows_of t) (length W)) e)).same
      go (too_few_slots l) = let z = (sizes_told B C (and_left (sizes_ok B C) (leb (rows_of t) (length W)) e)).low in omega arith
      go (too_many_slots l) = let z = (sizes_told B C (and_left (sizes_ok B C) (leb (rows_of t) (length W)) e)).high in omega arith
      go (short-work l) = let z = leb-true (rows_of t) (length W) (and_right (sizes_ok B C) (leb (rows_of t) (length W)) e) in omega arith

  -- ---- the number and the place

  abbrev RefusedBy : Built → Type 0
  RefusedBy b = (number_of b.answer ≡ 0 → ⊥) → BuildRefusedBy t B C W (number_of b.answer) (place_of b.answer)

  checked_refused : fit ≡ true → (v : Verdict) → verdict t ≡ v → RefusedBy (checked_build t B C W v)
  unfolding untouched filled emptied
  checked_refused z (Refused n p) e some = bad_list (sizes-good z) n p some (refused-verdict false t n p e)
  checked_refused z Accepted e some = go (leb (placed_list t).top (length B)) refl some
    where
      go : (b : Bool) → leb (placed_list t).top (length B) ≡ b → RefusedBy (cond b (filled t B C W) (emptied t B C W))
      go true r some = absurd (some refl)
      go false r some = lacks_room (sizes-good z) (none-meets false t e) (leb-false _ _ r)

  outcome_refused : RefusedBy (build_outcome t B C W)
  unfolding build_outcome untouched
  outcome_refused = go (table_fits (length t)) refl fit refl
    where
      go : (a : Bool) → table_fits (length t) ≡ a → (b : Bool) → fit ≡ b → RefusedBy (cond a (cond b (checked_build t B C W (verdict t)) (untouched t B C W (Refused array_length 0))) (untouched t B C W (Refused table_length 0)))
      go false e b z some = bad_table ((refused-verdict false t table_length 0 (verdict-refused false t e)).refused some)
      go true e false z some = bad_sizes (table-passed false t e table_length 0 refl) (sizes_bad z)
      go true e true z some = checked_refused z (verdict t) refl some

  pub build_means : {r : Verdict} {B' C' : List ℤ} {W' : List ℕ} → IsBuilt (build_outcome t B C W) r B' C' W' → BuildMeans t B C W (number_of r) (place_of r) B' C'
  build_means b =
      rw (b.answer-is, b.base-is, b.check-is)
      (record {
        accepted = λ z.
            let accepted = build_number t B C W z in
            let k = build_accepted t B C W accepted in
            let h = build_holds t B C W accepted in
            record { accepted = accepted-model t k.accepted; room = k.room; opens = opened_some _ _ h.array; model = h.model };
        no_place = λ z. ap place_of (build_number t B C W z);
        refused = outcome_refused;
      })

  -- what an answer means follows from the outcome
  pub answers : {r : Verdict} {B' C' : List ℤ} {W' : List ℕ} → IsBuilt (build_outcome t B C W) r B' C' W'
      → IsBuilt (build_outcome t B C W) r B' C' W' × BuildMeans t B C W (number_of r) (place_of r) B' C'
  answers b = (b, build_means b)
