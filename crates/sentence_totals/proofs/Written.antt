-- The listing as it is written, stretch by stretch: some sentences, and then those of a further stretch of the slices. Assumes nothing.
use Rattle.std.specs.declared.option.Option.{Option}
use mathlib.Core.Path.{◌≡◌, refl, sym, ap, ap₂, ◌∙◌}
use mathlib.Core.Bool.{Bool, true, false, ◌&&◌, and_assoc}
use mathlib.Core.List.{List, [], ◌∷◌, ◌++◌, map, append_assoc, append-nil, map-append}
use Prim.Native.Nat.{ℕ, suc, ◌+◌, ◌-◌, ◌≤◌, ◌<◌}
use native.Mathlib.Omega.{arith}
use native.Mathlib.Numerals.{add-one}
use lib.ListN.{length, take, drop, get_or, set, length-append, length-map, length-drop, drop_of_length-le}
use lib.Seq.{paste, length_paste_head, drop-cons, set_at, append_snoc, take_all, take_at, drop_at, drop-drop, drop-append-add, set_split, length-take-le}
use lib.IntN.{ℤ}
use borrow.Rule.Slice.PartMut.{mid_of, put_mid}
use Rattle.integer.proofs.Arithmetic.{and_no}
use Rattle.integer.proofs.Parts.{drop_more}
use Rattle.integer.proofs.Ranges.{and_both}
use Rattle.backoff.specs.NineNumbers.{all}
use Rattle.backoff.specs.Run.{written}
use Rattle.backoff.specs.Runs.{flat}
use Rattle.backoff.specs.Store.{Store}
use Rattle.backoff.proofs.Runs.{flat_append}
use Rattle.backoff.proofs.Slices.{length-written}
use Rattle.sentence_totals.specs.Totals.{sentence_total, is_scored, all_scored}
use Rattle.sentence_totals.specs.Inner.{AllWritten, Past, OneRefused}

-- ---- a slice that is written in front

module _ {A : Type 0} (xs old now : List A) (is : now ≡ written xs old) where
  written-front : take (length xs) now ≡ xs
  unfolding written
  written-front = ap (take (length xs)) is ∙ take_at xs _ (length xs) refl

  written_back : drop (length xs) now ≡ drop (length xs) old
  unfolding written
  written_back = ap (drop (length xs)) is ∙ drop_at xs _ (length xs) refl

  written-long : length xs ≤ length old → length now ≡ length old
  written-long h = ap length is ∙ length-written xs old h

  -- and then on what is left of it
  written_append : (ys new : List A) → new ≡ written ys (drop (length xs) now) → take (length xs) now ++ new ≡ written (xs ++ ys) old
  unfolding written
  written_append ys new e =
      ap₂ (λ (a b : List A). a ++ b) written-front (e ∙ ap (λ (l : List A). ys ++ drop (length ys) l) written_back ∙ ap (λ (l : List A). ys ++ l) (drop-drop (length ys) (length xs) old))
      ∙ sym (append_assoc xs ys _)
      ∙ ap (λ (n : ℕ). (xs ++ ys) ++ drop n old) (sym (length-append xs ys))

  past-written : (n : ℕ) → length xs ≤ length old → length xs ≤ n → Past n old now
  past-written n h l = record { past = drop_more (length xs) n now old l written_back; long = written-long h }

-- a part that begins at the a-th item changes nothing past its own first m items
past_part : {A : Type 0} (a m n : ℕ) (old now new : List A) → Past a old now → Past m (drop a now) new → a ≤ length old → a + m ≤ n → Past n old (take a now ++ new)
past_part a m n old now new p q h l =
    let e : n ≡ length (take a now) + (n - a) = omega (arith, front) in
    let f : a + (n - a) ≡ n = omega arith in
    record {
      past =
          ap (λ (k : ℕ). drop k (take a now ++ new)) e
          ∙ drop-append-add (take a now) new (n - a)
          ∙ drop_more m (n - a) new (drop a now) (omega arith) q.past
          ∙ drop-drop (n - a) a now
          ∙ ap (λ (k : ℕ). drop k now) f
          ∙ drop_more a n now old (omega arith) p.past;
      long = length-append (take a now) new ∙ omega (arith, front, q.long, length-drop a now, p.long);
    }
  where
    front : length (take a now) ≡ a
    front = length-take-le a now (omega (arith, p.long))

-- the rest of a slice, as it is lent and as it comes back
module _ {A : Type 0} (a : ℕ) (l : List A) where
  pub rest-lent : mid_of a (length l - a) l ≡ drop a l
  rest-lent = take_all (length l - a) (drop a l) (omega (arith, length-drop a l))

  pub rest_back : (new : List A) → put_mid a (length l - a) l new ≡ take a l ++ new
  rest_back new = ap (λ (r : List A). take a l ++ r) (ap (λ (r : List A). new ++ r) (drop_of_length-le (drop a l) {i = length l - a} (omega (arith, length-drop a l))) ∙ append-nil new)

-- ---- sentences

all_append : {A : Type 0} (P : A → Bool) (xs ys : List A) → all (map P (xs ++ ys)) ≡ (all (map P xs) && all (map P ys))
unfolding all
all_append P [] ys = refl
all_append P (x ∷ xs) ys = ap (λ (b : Bool). P x && b) (all_append P xs ys) ∙ sym (and_assoc (P x) (all (map P xs)) (all (map P ys)))

module _ (o : Option Store) where
  one-scored : (s : List ℕ) → is_scored o s ≡ true → all_scored o (s ∷ []) ≡ true
  unfolding all_scored all
  one-scored s e = rw e

  pub one_unscored : (before behind : List (List ℕ)) (s : List ℕ) → is_scored o s ≡ false → all_scored o (before ++ (s ∷ behind)) ≡ false
  unfolding all_scored
  one_unscored before behind s e = all_append (is_scored o) before (s ∷ behind) ∙ and_no (all (map (is_scored o) before)) _ (unfold all in rw e)

  pub some_unscored : (before stretch behind : List (List ℕ)) → all_scored o stretch ≡ false → all_scored o (before ++ (stretch ++ behind)) ≡ false
  unfolding all_scored
  some_unscored before stretch behind e =
      all_append (is_scored o) before (stretch ++ behind)
      ∙ and_no (all (map (is_scored o) before)) _ (all_append (is_scored o) stretch behind ∙ rw e)

module _ (o : Option Store) (words₀ : List ℕ) (totals₀ : List ℤ) where
  pub written_none : AllWritten o [] words₀ totals₀ words₀ totals₀
  unfolding all_scored all written flat
  written_none = record { scored = refl; words_are = refl; totals_are = refl }

  -- some are written
  module _ (done : List (List ℕ)) (words : List ℕ) (totals : List ℤ) (f : AllWritten o done words₀ totals₀ words totals) where
    abbrev at : ℕ
    at = length (flat done)

    abbrev i : ℕ
    i = length done

    counted : length (map (sentence_total o) done) ≡ i
    counted = length-map done (sentence_total o)

    -- those of a further stretch are written
    pub written-more : (more : List (List ℕ)) (w : List ℕ) (t : List ℤ) → AllWritten o more (drop at words) (drop i totals) w t → AllWritten o (done ++ more) words₀ totals₀ (take at words ++ w) (take i totals ++ t)
    written-more more w t m = record {
      scored = unfold all_scored in all_append (is_scored o) done more ∙ and_both _ _ (unfold all_scored in f.scored) (unfold all_scored in m.scored);
      words_are = written_append (flat done) words₀ words f.words_are (flat more) w m.words_are ∙ ap (λ (l : List ℕ). written l words₀) (sym (flat_append done more));
      totals_are =
          ap (λ (n : ℕ). take n totals ++ t) (sym counted)
          ∙ written_append (map (sentence_total o) done) totals₀ totals f.totals_are (map (sentence_total o) more) t (m.totals_are ∙ ap (λ (n : ℕ). written (map (sentence_total o) more) (drop n totals)) (sym counted))
          ∙ ap (λ (l : List ℤ). written l totals₀) (sym (map-append (sentence_total o) done more));
    }

    -- one more is written
    pub written_one : (s : List ℕ) (x : ℤ) (n : ℕ) → is_scored o s ≡ true → x ≡ sentence_total o s → n ≡ at + length s → i < length totals → AllWritten o (done ++ (s ∷ [])) words₀ totals₀ (take at words ++ (s ++ drop n words)) (set totals i x)
    written_one s x n e t l h = rw (set_split totals i x h) (written-more (s ∷ []) (s ++ drop n words) (x ∷ drop (suc i) totals) one)
      where
        one : AllWritten o (s ∷ []) (drop at words) (drop i totals) (s ++ drop n words) (x ∷ drop (suc i) totals)
        one = record {
          scored = one-scored o s e;
          words_are = unfold written flat in simp append-nil (ap (λ (k : ℕ). s ++ drop k words) l ∙ ap (λ (r : List ℕ). s ++ r) (sym (drop-drop (length s) at words)));
          totals_are = unfold written in ap₂ (λ (y : ℤ) (r : List ℤ). y ∷ r) t (ap (λ (k : ℕ). drop k totals) next ∙ sym (drop-drop 1 i totals));
        }
          where
            next : suc i ≡ i + 1
            next = omega arith

    module _ (words_fit : at ≤ length words₀) (totals_fit : i ≤ length totals₀) where
      pub words_long : length words ≡ length words₀
      words_long = written-long (flat done) words₀ words f.words_are words_fit

      pub totals-long : length totals ≡ length totals₀
      totals-long = written-long (map (sentence_total o) done) totals₀ totals f.totals_are (omega (arith, counted))

      -- of all the sentences ss
      module _ (ss : List (List ℕ)) (refused : all_scored o ss ≡ false) where
        pub refused-here : at ≤ length (flat ss) → i ≤ length ss → OneRefused o ss words₀ totals₀ words totals
        refused-here h l = record {
          refused = refused;
          words-past = past-written (flat done) words₀ words f.words_are (length (flat ss)) words_fit h;
          totals-past = past-written (map (sentence_total o) done) totals₀ totals f.totals_are (length ss) (omega (arith, counted)) (omega (arith, counted));
        }

        -- one of a further stretch is refused
        pub refused_there : (more : List (List ℕ)) (w : List ℕ) (t : List ℤ) → OneRefused o more (drop at words) (drop i totals) w t → at + length (flat more) ≤ length (flat ss) → i + length more ≤ length ss → OneRefused o ss words₀ totals₀ (take at words ++ w) (take i totals ++ t)
        refused_there more w t r h l = record {
          refused = refused;
          words-past = past_part at (length (flat more)) (length (flat ss)) words₀ words w (past-written (flat done) words₀ words f.words_are at words_fit (omega arith)) r.words-past words_fit h;
          totals-past = past_part i (length more) (length ss) totals₀ totals t (past-written (map (sentence_total o) done) totals₀ totals f.totals_are i (omega (arith, counted)) (omega (arith, counted))) r.totals-past totals_fit l;
        }

-- ---- a sentence's words, as they are written

-- the last word behind the others
pub last-behind : (d : List ℕ) (at : ℕ) (s : List ℕ) (n x : ℕ) → at + n < length d → n ≤ length s → set (paste d at s n) (at + n) x ≡ (take at d ++ (take n s ++ (x ∷ []))) ++ drop (at + n + 1) d
last-behind d at s n x h l =
    rw (drop-cons d (at + n) 0 h, add-one)
    (set_at (take at d ++ take n s) (get_or d (at + n) 0) _ x (at + n) (length_paste_head d at s n (omega arith) l)
    ∙ sym (append_snoc (take at d ++ take n s) x _)
    ∙ ap (λ (r : List ℕ). r ++ drop (suc (at + n)) d) (append_assoc (take at d) (take n s) (x ∷ [])))
