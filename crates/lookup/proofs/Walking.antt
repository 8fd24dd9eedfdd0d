-- The walk of a lookup, word by word. Assumes nothing.
use Rattle.std.specs.declared.option.Option.{Option}
use Rattle.std.specs.declared.option.Option.TheVariants.{Some, None}
use mathlib.Core.Path.{◌≡◌, sym, ap, ◌∙◌}
use mathlib.Core.Bool.{Bool, true}
use mathlib.Core.List.{List, ◌∷◌}
use Prim.Native.Nat.{ℕ, suc, ◌+◌, ◌≤◌, ◌<◌}
use native.Mathlib.Omega.{arith}
use lib.ListN.{length, get_or, drop}
use lib.Seq.{drop-cons}
use Rattle.std.proofs.Math.ListN.{drop_of_length-le}
use Rattle.std.specs.declared.result.Result.{Result}
use Rattle.std.specs.declared.result.Result.TheVariants.{Ok, Err}
use Rattle.std.specs.Result.{IsErr, IsErrAnd}
use lib.IntN.{ℤ}
use Rattle.backoff.specs.Refusal.{reason_number}
use Rattle.backoff.specs.declared.Reason.{Reason}
use Rattle.backoff.specs.declared.Refusal.{Refusal}
use Rattle.backoff.specs.Store.{broken}
use Rattle.markers.specs.declared.Entry.{Entry}
use Rattle.markers.specs.Markers.{Marker, Sound, Broken, marker_in, look_marker}
use Rattle.child_slots.specs.Children.{child_at, root_child}
use Rattle.child_slots.proofs.Children.{child-inside}
use Rattle.double_array.specs.DoubleArray.{marker_at, down_to, look_from, is_array}
use Rattle.double_array.proofs.DoubleArray.{opened-sizes, root-sound, root-child, look-down, look-broken}
use Rattle.lookup.specs.declared.Listed.{Listed}
use Rattle.lookup.specs.Lookup.{Refused, lookup_answer}

-- the walk over these words has come to the node in slot s behind the first of them and k more
pub record Walked (base check : List ℤ) (newest : ℕ) (words : List ℕ) (k s : ℕ) : Type 0 where
  pub inside : s < length base
  pub rest : look_from base check 0 0 (newest ∷ words) ≡ look_from base check (k + 1) s (drop k words)

module _ (base check : List ℤ) (array : is_array base check ≡ true) (newest : ℕ) (words : List ℕ) where
  -- the first word leads to the root's child
  pub root_turn : look_from base check 0 0 (newest ∷ words) ≡ down_to (root_child check newest) (λ (t : ℕ). look_from base check 1 t words)
  root_turn =
      look-down base check 0 0 _ _ _ _ newest words (root-sound base check array)
      ∙ ap (λ (r : Option ℕ). down_to r (λ (t : ℕ). look_from base check 1 t words)) (sym (root-child base check array newest))

  pub begun : (t : ℕ) → root_child check newest ≡ Some t → Walked base check newest words 0 t
  begun t e =
      let z = opened-sizes base check array in
      let h = child-inside base check 0 newest t (sym (root-child base check array newest) ∙ e) in
      record { inside = omega arith; rest = root_turn ∙ ap (λ (r : Option ℕ). down_to r (λ (t : ℕ). look_from base check 1 t words)) e }

  module _ (k s : ℕ) (w : Walked base check newest words k s) where
    pub walk_broken : marker_at base check (k + 1) s ≡ Broken → look_from base check 0 0 (newest ∷ words) ≡ broken
    walk_broken m = w.rest ∙ look-broken base check (k + 1) s (drop k words) m

    -- past a sound marker the next word leads on
    pub walk_turn : (p b : ℤ) (e f : Bool) → marker_at base check (k + 1) s ≡ Sound p b e f → k < length words
        → look_from base check 0 0 (newest ∷ words) ≡ down_to (child_at base check s (get_or words k 0)) (λ (t : ℕ). look_from base check (k + 1 + 1) t (drop (k + 1) words))
    walk_turn p b e f m h =
        let one : suc (k + 1) ≡ k + 1 + 1 = omega arith in
        let more : suc k ≡ k + 1 = omega arith in
        w.rest
        ∙ ap (look_from base check (k + 1) s) (drop-cons words k 0 h)
        ∙ look-down base check (k + 1) s p b e f (get_or words k 0) (drop (suc k) words) m
        ∙ ap (λ (i : ℕ). down_to (child_at base check s (get_or words k 0)) (λ (t : ℕ). look_from base check i t (drop (suc k) words))) one
        ∙ ap (λ (i : ℕ). down_to (child_at base check s (get_or words k 0)) (λ (t : ℕ). look_from base check (k + 1 + 1) t (drop i words))) more

    pub walk_on : (p b : ℤ) (e f : Bool) (t : ℕ) → marker_at base check (k + 1) s ≡ Sound p b e f → k < length words → child_at base check s (get_or words k 0) ≡ Some t → Walked base check newest words (k + 1) t
    walk_on p b e f t m h c =
        let z = opened-sizes base check array in
        let l = child-inside base check s (get_or words k 0) t c in
        record { inside = omega arith; rest = walk_turn p b e f m h ∙ ap (λ (r : Option ℕ). down_to r (λ (t : ℕ). look_from base check (k + 1 + 1) t (drop (k + 1) words))) c }

    -- behind the last word it ends
    pub walk_end : length words ≤ k → look_from base check 0 0 (newest ∷ words) ≡ look_marker (marker_at base check (k + 1) s)
    unfolding look_from
    walk_end h = w.rest ∙ ap (look_from base check (k + 1) s) (drop_of_length-le words h)

-- ---- what the code's marker and its refusal say

pub broken_told : (r : Option Entry) (m : Marker) → marker_in r ≡ m → r ≡ None → m ≡ Broken
broken_told None m h e = sym h
broken_told (Some x) m h e = absurd (cc)

pub sound_told : (r : Option Entry) (m : Marker) → marker_in r ≡ m → (x : Entry) → r ≡ Some x → m ≡ Sound x.p x.b x.e x.f
sound_told None m h x e = absurd (cc)
sound_told (Some y) m h x e = let same : y ≡ x = cc in sym h ∙ ap (λ (z : Entry). Sound z.p z.b z.e z.f) same

pub refused_told : (r : Result (Option Listed) (Refusal ℕ)) (reason : Reason) → IsErr r × IsErrAnd r (λ refusal. refusal ≡ record { reason = reason; place = 0 }) → lookup_answer r ≡ Refused (reason_number reason) 0
refused_told (Ok x) reason h = absurd h.1
refused_told (Err refusal) reason h = ap (λ (z : Refusal ℕ). Refused (reason_number z.reason) z.place) h.1
