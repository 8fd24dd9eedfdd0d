-- The points worked out on the words in the table are those that the list gives. Assumes nothing.
use Rattle.std.specs.declared.option.Option.{Option}
use Rattle.std.specs.declared.option.Option.TheVariants.{Some, None}
use mathlib.Core.Path.{◌≡◌, refl, sym, ap, ap₂, ◌∙◌}
use mathlib.Core.Logic.{⊎_elim}
use mathlib.Core.Bool.{true}
use mathlib.Core.List.{List, [], ◌∷◌, ◌++◌, map, map-append, append_assoc, reverse, reverse-cons, reverse-append, reverse-reverse, tail-eq_of_cons-eq}
use Prim.Native.Nat.{ℕ, zero, suc, ◌+◌, ◌-◌, ◌*◌, ◌≤◌, ◌<◌}
use native.Mathlib.Omega.{arith}
use lib.ListN.{length, get_or, take, drop, length-append, length-drop, length-reverse}
use lib.Seq.{drop-cons, take-suc, get_or-drop, take_all}
use lib.IntN.{ℤ, pos, ◌+ℤ◌}
use Rattle.backoff.specs.Limits.{order_limit}
use Rattle.backoff.specs.Words.{are_words}
use Rattle.backoff.specs.Model.{Model, reach}
use Rattle.backoff.specs.Rule.{Score, add_points, replaced, text_rule}
use Rattle.backoff.specs.Refusal.{Accepted}
use Rattle.backoff.proofs.Rule.{rule-is-text_rule}
use Rattle.rows.specs.Table.{rows_of, probability_at, length_of, order_of, word_of, words_of}
use Rattle.rows.proofs.Table.{row_in, length_limit}
use Rattle.row_search.specs.declared.Row.{Row}
use Rattle.row_search.specs.Search.{find_in, found_row}
use Rattle.row_search.proofs.Search.{finds}
use Rattle.list.specs.Check.{verdict_for}
use Rattle.list.specs.ListModel.{model_of}
use Rattle.list.proofs.ListModel.{backoff_in_row, entry_backoff, length-order}
use Rattle.list.proofs.Check.{checked-good, checked-size}
use Rattle.filled_list.specs.Added.{own_points}
use Rattle.filled_list.specs.Filled.{added_probability}
use Rattle.filled_list.specs.Next.{last_words}
use Rattle.filled_list.proofs.FilledRows.{EndOf, last_alone, end-without_last, end-some}
use Rattle.filled_list.proofs.FilledModel.{listed_by, probability_by}
use Rattle.filled_list.proofs.LastWords.{places-last, last-are_words, last-words-end}
use Rattle.row_ends.specs.Points.{words_from, points_by, backoff_in, place_points}

-- b of a row as the list's laws have it
pub backoff-same : (o : Option Row) → backoff_in o ≡ backoff_in_row o
backoff-same (Some row) = refl
backoff-same None = refl

-- ---- words in the table

module _ (t : List ℤ) (a k : ℕ) where
  from_cons : a < length t → words_from t a (suc k) ≡ word_of (get_or t a (pos 0)) ∷ words_from t (suc a) k
  unfolding words_from words_of
  from_cons l = ap (λ (zs : List ℤ). words_of (take (suc k) zs)) (drop-cons t a (pos 0) l)

  from_snoc : a + k < length t → words_from t a (suc k) ≡ words_from t a k ++ (word_of (get_or t (a + k) (pos 0)) ∷ [])
  unfolding words_from words_of
  from_snoc l =
      ap words_of (take-suc (drop a t) k (pos 0) (rw length-drop (omega arith)))
      ∙ map-append (λ (z : ℤ). word_of z) (take k (drop a t)) (get_or (drop a t) k (pos 0) ∷ [])
      ∙ ap (λ (z : ℤ). words_from t a k ++ (word_of z ∷ [])) (get_or-drop a t k (pos 0))

-- ---- the rule in the order of the text

turned : (h : List ℕ) (v : ℕ) → reverse (v ∷ reverse h) ≡ h ++ (v ∷ [])
turned h v = reverse-cons v (reverse h) ∙ ap (λ (l : List ℕ). l ++ (v ∷ [])) (reverse-reverse h)

module _ (t : List ℤ) where
  abbrev M : Model
  M = model_of t

  text-here : (o : ℕ) (h : List ℕ) (v i : ℕ) → find_in t ((o ∷ h) ++ (v ∷ [])) ≡ Some i → (text_rule M (o ∷ h) v).points ≡ probability_at t i
  unfolding text_rule found_row
  text-here o h v i e =
      let f : find_in t (reverse (v ∷ reverse (o ∷ h))) ≡ Some i = ap (find_in t) (turned (o ∷ h) v) ∙ e in
      rw (listed_by t (v ∷ reverse (o ∷ h)) (Some i) f) (probability_by t (v ∷ reverse (o ∷ h)) (Some i) f)

  text-down : (o : ℕ) (h : List ℕ) (v : ℕ) → find_in t ((o ∷ h) ++ (v ∷ [])) ≡ None → (text_rule M (o ∷ h) v).points ≡ backoff_in (found_row t (find_in t (o ∷ h))) +ℤ (text_rule M h v).points
  unfolding text_rule add_points
  text-down o h v e =
      let f : find_in t (reverse (v ∷ reverse (o ∷ h))) ≡ None = ap (find_in t) (turned (o ∷ h) v) ∙ e in
      rw (listed_by t (v ∷ reverse (o ∷ h)) None f) (ap (λ (z : ℤ). z +ℤ (text_rule M h v).points) (sym (entry_backoff t (o ∷ h)) ∙ sym (backoff-same (found_row t (find_in t (o ∷ h))))))

  text-single : (v i : ℕ) → find_in t (v ∷ []) ≡ Some i → (text_rule M [] v).points ≡ probability_at t i
  unfolding text_rule found_row
  text-single v i e = probability_by t (v ∷ []) (Some i) e

  -- the points at the places are the rule's, where the last word is listed alone
  place-text : (k a i : ℕ) → a + k < length t → find_in t (word_of (get_or t (a + k) (pos 0)) ∷ []) ≡ Some i → place_points t a (suc k) ≡ (text_rule M (words_from t a k) (word_of (get_or t (a + k) (pos 0)))).points
  unfolding place_points
  place-text zero a i l e =
      let v = word_of (get_or t (a + 0) (pos 0)) in
      let z : words_from t a 0 ≡ [] = unfold words_from words_of in refl in
      let f : find_in t (words_from t a 1) ≡ Some i = ap (find_in t) (from_snoc t a 0 l ∙ ap (λ (ws : List ℕ). ws ++ (v ∷ [])) z) ∙ e in
      rw (f, z) (sym (text-single v i e))
  place-text (suc k) a i l e = go (find_in t (words_from t a (suc (suc k)))) refl
      (place-text k (suc a) i (omega arith) (ap (λ (b : ℕ). find_in t (word_of (get_or t b (pos 0)) ∷ [])) same ∙ e))
    where
      same : suc a + k ≡ a + suc k
      same = omega arith

      v : ℕ
      v = word_of (get_or t (a + suc k) (pos 0))

      o : ℕ
      o = word_of (get_or t a (pos 0))

      h : List ℕ
      h = words_from t (suc a) k

      cons : words_from t a (suc k) ≡ o ∷ h
      cons = from_cons t a k (omega arith)

      whole : words_from t a (suc (suc k)) ≡ (o ∷ h) ++ (v ∷ [])
      whole = from_snoc t a (suc k) l ∙ ap (λ (ws : List ℕ). ws ++ (v ∷ [])) cons

      go : (f : Option ℕ) → find_in t (words_from t a (suc (suc k))) ≡ f → place_points t (suc a) (suc k) ≡ (text_rule M h (word_of (get_or t (suc a + k) (pos 0)))).points
          → points_by t (find_in t (words_from t a (suc (suc k)))) (backoff_in (found_row t (find_in t (words_from t a (suc k))))) (place_points t (suc a) (suc k)) ≡ (text_rule M (words_from t a (suc k)) v).points
      go (Some j) q ih = rw (q, cons) (sym (text-here o h v j (ap (find_in t) (sym whole) ∙ q)))
      go None q ih =
          rw (q, cons)
          (ap (λ (z : ℤ). backoff_in (found_row t (find_in t (o ∷ h))) +ℤ z) (ih ∙ ap (λ (b : ℕ). (text_rule M h (word_of (get_or t b (pos 0)))).points) same)
          ∙ sym (text-down o h v (ap (find_in t) (sym whole) ∙ q)))

-- ---- the words of an end are listed, so none is replaced

module _ (t : List ℤ) (a : verdict_for true t ≡ Accepted) where
  single-found : (y : ℕ) (e : EndOf t (y ∷ [])) → find_in t (y ∷ []) ≡ Some e.at
  single-found y e =
      ⊎_elim
      (λ z. ap (find_in t) (sym (e.same ∙ ap (λ (front : List ℕ). front ++ (y ∷ [])) z)) ∙ finds t (checked-good true t a) e.at e.within)
      (λ l. absurd (omega arith))
      e.long

  last-single : (h : List ℕ) (v : ℕ) → EndOf t (h ++ (v ∷ [])) → EndOf t (v ∷ [])
  last-single h v e = last_alone t a e.at e.within (e.front ++ h) v (e.same ∙ sym (append_assoc e.front h (v ∷ [])))

  replaced_self : (y : ℕ) → EndOf t (y ∷ []) → replaced (model_of t) y ≡ y
  unfolding replaced
  replaced_self y e = rw (listed_by t (y ∷ []) (Some e.at) (single-found y e))

  -- newest word first
  none-replaced : (l : List ℕ) → EndOf t (reverse l) → map (replaced (model_of t)) l ≡ l
  none-replaced [] e = refl
  none-replaced (x ∷ g) e = ap₂ ◌∷◌ (replaced_self x (last-single (reverse g) x whole)) (rest g refl (none-replaced g))
    where
      whole : EndOf t (reverse g ++ (x ∷ []))
      whole = rw (← reverse-cons x g) e

      go : (us : List ℕ) → reverse g ≡ us → (EndOf t (reverse g) → map (replaced (model_of t)) g ≡ g) → 0 < length g → map (replaced (model_of t)) g ≡ g
      go [] q ih n = absurd (omega (arith, length-reverse g, ap length q))
      go (u ∷ us) q ih n = ih (rw q (end-without_last t a u us x (rw q at whole)))

      rest : (l : List ℕ) → g ≡ l → (EndOf t (reverse g) → map (replaced (model_of t)) g ≡ g) → map (replaced (model_of t)) g ≡ g
      rest [] q ih = rw q
      rest (y ∷ l) q ih = go (reverse g) refl ih (omega (arith, ap length q))

  reach-is : reach (model_of t) ≡ order_of t - 1
  unfolding reach model_of
  reach-is = refl

  -- ---- so the points of an end are the rule's in the order of the text

  end-text : (h : List ℕ) (v : ℕ) → EndOf t (h ++ (v ∷ [])) → added_probability t (h ++ (v ∷ [])) ≡ (text_rule (model_of t) h v).points
  unfolding added_probability own_points
  end-text h v e =
      ap (own_points (model_of t)) back
      ∙ ap (λ (s : Score). s.points)
      (rule-is-text_rule (model_of t) (reverse h) v
      ∙ ap₂ (λ (l : List ℕ) (w : ℕ). text_rule (model_of t) (reverse l) w) (ap (map (replaced (model_of t))) (take_all (reach (model_of t)) (reverse h) short) ∙ kept) (replaced_self v (last-single h v e))
      ∙ ap (λ (l : List ℕ). text_rule (model_of t) l v) (reverse-reverse h))
    where
      back : reverse (h ++ (v ∷ [])) ≡ v ∷ reverse h
      back = reverse-append h (v ∷ [])

      all : map (replaced (model_of t)) (v ∷ reverse h) ≡ v ∷ reverse h
      all = none-replaced (v ∷ reverse h) (rw (turned h v) e)

      kept : map (replaced (model_of t)) (reverse h) ≡ reverse h
      kept = tail-eq_of_cons-eq all

      short : length (reverse h) ≤ reach (model_of t)
      short =
          let s = (end-some t (checked-good true t a) (h ++ (v ∷ [])) e).1 in
          let o = length-order t (checked-good true t a) (checked-size true t a).0 e.at e.within in
          omega (arith, reach-is, length-reverse h, length-append h (v ∷ []))

  -- the last m words of row i, which has k words, where they stand
  place-points : (i k m : ℕ) → i < rows_of t → k ≡ length_of t i → 0 < m → m ≤ k → place_points t (8 * i + (k + 1) - m) m ≡ added_probability t (last_words t i m)
  place-points i k zero l e s h = absurd (omega arith)
  place-points i k (suc m) l e s h =
      place-text t m at x.at (let b = row_in t i l in let n = length_limit t i in omega arith) (single-found v x)
      ∙ sym (ap (added_probability t) whole ∙ end-text (words_from t at m) v (rw whole at d))
    where
      at : ℕ
      at = 8 * i + (k + 1) - suc m

      v : ℕ
      v = word_of (get_or t (at + m) (pos 0))

      d : EndOf t (last_words t i (suc m))
      d = last-words-end t a i (suc m) l s (omega arith)

      inside : at + m < length t
      inside = let b = row_in t i l in let n = length_limit t i in omega arith

      count : 8 * i + (k + 1) - at ≡ suc m
      count = omega arith

      part : words_of (take (8 * i + (k + 1) - at) (drop at t)) ≡ words_from t at (suc m)
      part = unfold words_from in ap (λ (n : ℕ). words_of (take n (drop at t))) count

      whole : last_words t i (suc m) ≡ words_from t at m ++ (v ∷ [])
      whole = sym (places-last t i k (suc m) e h) ∙ part ∙ from_snoc t at m inside

      x : EndOf t (v ∷ [])
      x = last-single (words_from t at m) v (rw whole at d)

  -- where they stand, and what is there
  module _ (i k m : ℕ) (l : i < rows_of t) (e : k ≡ length_of t i) (s : 0 < m) (h : m ≤ k) where
    abbrev past : ℕ
    past = 8 * i + (k + 1)

    count : past - (past - m) ≡ m
    count = omega arith

    pub end-words_are : words_from t (past - m) (past - (past - m)) ≡ last_words t i m
    unfolding words_from
    end-words_are = places-last t i k m e h

    pub end-places : (past - m ≤ past) × (past ≤ length t) × (past - (past - m) ≤ order_limit) × (are_words (words_from t (past - m) (past - (past - m))) ≡ true)
    end-places =
        let b = row_in t i l in
        let n = length_limit t i in
        (omega arith, omega arith, omega arith, ap are_words end-words_are ∙ last-are_words t i m ((checked-good true t a).row i l))

    pub end-points_are : place_points t (past - m) (past - (past - m)) ≡ added_probability t (last_words t i m)
    end-points_are = ap (place_points t (past - m)) count ∙ place-points i k m l e s h
