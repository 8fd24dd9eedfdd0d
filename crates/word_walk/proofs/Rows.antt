-- A store's rows from what a look at them comes to; the rows of a double array are in range and made of words. Assumes nothing.
use Rattle.std.specs.declared.option.Option.{Option}
use Rattle.std.specs.declared.option.Option.TheVariants.{Some, None}
use mathlib.Core.Path.{◌≡◌, refl, sym, ◌∙◌}
use mathlib.Core.Bool.{true, false, not, ◌&&◌, ◌||◌, true≢false, false≢true}
use mathlib.Core.List.{List, [], ◌∷◌}
use Prim.Native.Nat.{ℕ, suc}
use native.Mathlib.Omega.{arith}
use lib.IntN.{ℤ, pos}
use Rattle.integer.specs.Integer.{eq_z, between}
use Rattle.integer.proofs.Ranges.{and_both}
use Rattle.backoff.specs.Words.{is_word, are_words}
use Rattle.backoff.specs.Model.{extended, Entry, is_some, listed, probability, backoff, continued, live, in_probability, in_backoff, probability_of, backoff_of}
use Rattle.backoff.specs.Store.{Look, absent, broken, here, Store, entry_of, is_broken, model_in}
use Rattle.markers.specs.Markers.{look_marker}
use Rattle.markers.specs.Markers.{Marker}
use Rattle.markers.specs.Markers.{Sound, Broken}
use Rattle.child_slots.specs.Children.{child_at}
use Rattle.child_slots.proofs.Children.{child_told}
use Rattle.double_array.specs.DoubleArray.{marker_at, past, down_to, look_from, store_in, look_row}
use Rattle.double_array.proofs.DoubleArray.{marker_in_range}
use Rattle.word_walk.specs.Rows.{array_model, InRange}

module _ (S : Store) (l : List ℕ) where
  pub here-listed : {e : Entry} → S.look l ≡ here e → listed (model_in S) l ≡ true
  unfolding listed model_in
  here-listed h = rw h

  pub here-probability : {e : Entry} → S.look l ≡ here e → probability (model_in S) l ≡ e.p
  unfolding probability model_in
  here-probability h = rw h

  pub here-backoff : {e : Entry} → S.look l ≡ here e → backoff (model_in S) l ≡ e.b
  unfolding backoff model_in
  here-backoff h = rw h

  pub here-extended : {e : Entry} → S.look l ≡ here e → extended (model_in S) l ≡ e.e
  unfolding extended model_in
  here-extended h = rw h

  pub here-live : {e : Entry} → S.look l ≡ here e → live (model_in S) l ≡ (not (eq_z e.b (pos 0)) || e.f)
  unfolding live backoff continued model_in
  here-live h = rw h

  pub absent-unlisted : S.look l ≡ absent → listed (model_in S) l ≡ false
  unfolding listed model_in
  absent-unlisted h = rw h

  pub broken-unlisted : S.look l ≡ broken → listed (model_in S) l ≡ false
  unfolding listed model_in
  broken-unlisted h = rw h

  pub listed-sound : listed (model_in S) l ≡ true → is_broken (S.look l) ≡ false
  unfolding listed model_in
  listed-sound e = go (S.look l) refl
    where
      go : (k : Look) → S.look l ≡ k → is_broken (S.look l) ≡ false
      go absent q = rw q
      go broken q = absurd (true≢false (sym e ∙ rw q))
      go (here x) q = rw q

-- ---- a double array's rows are in range

module _ (base check : List ℤ) where
  pub at_in_range : (k s : ℕ) → InRange (look_marker (marker_at base check k s))
  at_in_range k s = go (marker_at base check k s) refl
    where
      go : (m : Marker) → marker_at base check k s ≡ m → InRange (look_marker m)
      go (Sound p b e f) q = marker_in_range base check k s p b e f q
      go Broken q = tt

  look_in_range : (l : List ℕ) (k s : ℕ) → InRange (look_from base check k s l)
  unfolding look_from
  look_in_range [] k s = at_in_range k s
  look_in_range (w ∷ l) k s = go (look_in_range l (suc k)) (marker_at base check k s) (child_at base check s w)
    where
      go : ((t : ℕ) → InRange (look_from base check (suc k) t l)) → (m : Marker) (c : Option ℕ) → InRange (past m (down_to c (λ (t : ℕ). look_from base check (suc k) t l)))
      go ih (Sound p b e f) (Some t) = ih t
      go ih (Sound p b e f) None = tt
      go ih Broken c = tt

  row_in_range : (l : List ℕ) → InRange (look_row base check l)
  row_in_range [] = tt
  row_in_range (w ∷ l) = look_in_range (w ∷ l) 0 0

  pub rows-in_probability : (l : List ℕ) → in_probability (probability (array_model base check) l) ≡ true
  unfolding probability model_in store_in
  rows-in_probability l = go (look_row base check l) (row_in_range l)
    where
      go : (k : Look) → InRange k → in_probability (probability_of (entry_of k)) ≡ true
      go absent r = unfold in_probability between in refl
      go broken r = unfold in_probability between in refl
      go (here e) r = r.0

  pub rows-in_backoff : (l : List ℕ) → in_backoff (backoff (array_model base check) l) ≡ true
  unfolding backoff model_in store_in
  rows-in_backoff l = go (look_row base check l) (row_in_range l)
    where
      go : (k : Look) → InRange k → in_backoff (backoff_of (entry_of k)) ≡ true
      go absent r = unfold in_backoff between in refl
      go broken r = unfold in_backoff between in refl
      go (here e) r = r.1

  -- and made of words
  look-words : (l : List ℕ) (k s : ℕ) (e : Entry) → look_from base check k s l ≡ here e → are_words l ≡ true
  unfolding look_from are_words
  look-words [] k s e h = refl
  look-words (w ∷ l) k s e h = go (look-words l (suc k)) (marker_at base check k s) (child_at base check s w) refl h
    where
      go : ((t : ℕ) (x : Entry) → look_from base check (suc k) t l ≡ here x → are_words l ≡ true) → (m : Marker) (c : Option ℕ) → child_at base check s w ≡ c → past m (down_to c (λ (t : ℕ). look_from base check (suc k) t l)) ≡ here e → (is_word w && are_words l) ≡ true
      go ih (Sound p b x f) (Some t) q k = and_both (is_word w) (are_words l) (child_told base check s w t q).word (ih t e k)
      go ih (Sound p b x f) None q k = let z : ◌≡◌ {A = ℕ} 0 1 = cc in absurd (omega arith)
      go ih Broken c q k = let z : ◌≡◌ {A = ℕ} 0 1 = cc in absurd (omega arith)

  pub rows-in_words : (l : List ℕ) → listed (array_model base check) l ≡ true → are_words l ≡ true
  unfolding listed model_in store_in
  rows-in_words [] h = unfold are_words in refl
  rows-in_words (w ∷ l) h = go (look_row base check (w ∷ l)) refl h
    where
      go : (k : Look) → look_row base check (w ∷ l) ≡ k → is_some (entry_of k) ≡ true → are_words (w ∷ l) ≡ true
      go absent q r = absurd (false≢true r)
      go broken q r = absurd (false≢true r)
      go (here e) q r = look-words (w ∷ l) 0 0 e q
